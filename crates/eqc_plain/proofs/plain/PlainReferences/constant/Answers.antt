use Rattle.std.proofs.Common.{◌≡◌, ℕ, Bool, true, false, List, ap}
use Rattle.std.proofs.lemmas.Result.{IfOk-weaker}
use Rattle.eqc_tree.specs.Tree.{value}
use Rattle.eqc_plain.specs.Store.{tree_at}
use Rattle.eqc_plain.proofs.Trees.{tree_at-zero, tree_at-one}
use Rattle.eqc_plain.proofs.Laws.{gains_as}
use Rattle.eqc_plain.proofs.plain.PlainReferences.constant.Goals as goal
use mir.Val.{bool_byte}

-- the number of a constant
constant_value : (ws : List ℕ) (b : Bool) (a : ℕ → Bool) → value (tree_at ws (bool_byte b)) a ≡ b
constant_value ws true a = ap (λ t. value t a) (tree_at-one ws)
constant_value ws false a = ap (λ t. value t a) (tree_at-zero ws)

pub returns-clause-ok : goal.returns-clause-ok
returns-clause-ok c =
    let s = c.args.self.now.store in
    IfOk-weaker c.hold.result _ _ (λ r h. gains_as _ _ _ _ _ h (λ a. constant_value s.nodes c.args.b
    a)) c.hold.ensures.ok
