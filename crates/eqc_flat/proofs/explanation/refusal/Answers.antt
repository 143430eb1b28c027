use Rattle.std.proofs.Common.{◌≡◌, ◌⊎◌, ◌∙◌, ℕ, Some, inl, inr, sym, ap}
use Rattle.std.proofs.lemmas.Bool.{true≢false}
use Rattle.eqc_hierarchy.specs.Codes.{flat_code}
use Rattle.eqc_netlist.specs.Rule.{rule_code}
use Rattle.eqc_flat.proofs.FindingLaws.{code_rule}
use Rattle.eqc_flat.proofs.explanation.refusal.Goals as goal

pub returns : goal.returns
returns c = by c.in-Err.ensures.refused
  where
    by : (c.in-Err.fault.code ≡ 72) ⊎ (flat_code c.args.library.now c.args.top c.args.limit
        ≡ Some c.in-Err.fault.code) → Some (rule_code c.rule.result) ≡ flat_code c.args.library.now
        c.args.top c.args.limit
    by (inl memory) = absurd (true≢false (sym (c.is_memory.ensures.1 memory)
        ∙ c.if-is_memory.false))
    by (inr told) =
        let (rule, is) = code_rule c.args.library.now c.args.top c.args.limit c.in-Err.fault.code
        told in
        ap (λ (n : ℕ). Some n) (c.rule.ensures rule is) ∙ sym told
