use Rattle.std.proofs.Common.{◌≡◌, Bool, true, false, Option, Some, None, refl, ◌∙◌, ap}
use Rattle.std.specs.Option.{option_eq}
use mathlib.Core.Bool.{beq}
use Rattle.eqc_cover.proofs.least.is_false.Goals as goal

-- what equals `Some(false)` is it
is_some_false : (o : Option Bool) (r : Bool) → r ≡ option_eq beq o (Some false) → r ≡ true
    → o ≡ Some false
is_some_false None r e t = cc
is_some_false (Some true) r e t = cc
is_some_false (Some false) r e t = refl

pub returns : goal.returns
returns g c = (
  (λ t. (c.as_constant.ensures false).0 (is_some_false c.as_constant.result c.eq.result c.eq.ensures
      t)),
  (λ none. c.eq.ensures ∙ ap (λ o. option_eq beq o (Some false)) ((c.as_constant.ensures false).1
      none)),
)
