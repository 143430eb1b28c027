-- A worker at rest, none of whose announcement words announces a name: a call may begin there, and
-- what calls change leaves it at rest.
use Rattle.std.proofs.Common.{◌≡◌, ℕ, zero, suc, List, [], ◌∷◌, set, get_or, refl, sym, subst, ◌∙◌}
use mathlib.Core.Option.{some, some-injective, some-ne-none}
use lib.ListN.{get_elem?}
use Rattle.eqc_core.specs.declared.phase.Phase.{Phase}
use Rattle.eqc_core.specs.declared.phase.Phase.TheVariants.{Idle}
use Rattle.eqc_core.specs.View.{View}
use Rattle.eqc_core.specs.Moves.{IsQuiet}
use Rattle.eqc_core.specs.Seating.{IsAtRest}
use Rattle.eqc_guard.specs.Standing.{Standing}
use Rattle.eqc_arena.specs.Changing.{MayBegin, Exchanges}
use Rattle.eqc_arena.proofs.Changing.{ready_now, draft_now, hand_now}

-- each phase is quiet
abbrev pub AreQuiet : List Phase → Type 0
AreQuiet phases = (k : ℕ) (p : Phase) → get_elem? phases k ≡ some p → IsQuiet p

first_quiet : (ps : List Phase) → AreQuiet ps → IsQuiet (get_or ps 0 Idle)
first_quiet [] all = tt
first_quiet (p ∷ ps) all = all 0 p refl

-- phases that are quiet stay so where the first one is set to a quiet one
pub quiet_set : (ps : List Phase) (p : Phase) → IsQuiet p → AreQuiet ps → AreQuiet (set ps 0 p)
quiet_set [] p q all k o e = absurd (some-ne-none o (sym e))
quiet_set (o ∷ ps) p q all k r e = go k e
  where
    go : (k : ℕ) → get_elem? (p ∷ ps) k ≡ some r → IsQuiet r
    go zero e = subst (λ (t : Phase). IsQuiet t) (some-injective p r e) q
    go (suc k) e = all (suc k) r e

pub rest_begins : {v : View} → IsAtRest v → MayBegin v
rest_begins {v} rest = record {
  ready = rest.ready;
  quiet = first_quiet v.phases rest.quiet;
  no_draft = rest.no_draft;
  no_hand = rest.no_hand;
}

pub rest_now : {gone came : List ℕ} {old new : Standing} → IsAtRest old.known.core
    → Exchanges gone came old new → IsAtRest new.known.core
rest_now {gone} {came} {old} {new} rest t = record {
  ready = ready_now t rest.ready;
  quiet = subst (λ (v : View). AreQuiet v.phases) (sym t.core) (quiet_set old.known.core.phases
      t.phase (t.quiet (first_quiet old.known.core.phases rest.quiet)) rest.quiet);
  no_draft = draft_now t ∙ rest.no_draft;
  no_hand = hand_now t ∙ rest.no_hand;
}
