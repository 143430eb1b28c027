use Rattle.std.proofs.Common.{rules, ◌≡◌, ℕ, ◌<◌, ◌≤◌, None, Some, [], length, vec_len, get_or}
use Rattle.std.proofs.Common.{List, ◌∷◌, ◌++◌, sym, subst, ◌∙◌, arith}
use Rattle.std.proofs.lemmas.List.{get_or_default}
use Rattle.std.proofs.lemmas.List.Elements.{All-pop}
use Rattle.eqc_parallel.specs.declared.verdict.Verdict.{Verdict}
use Rattle.eqc_parallel.specs.Ticket.{times, once_below}
use Rattle.eqc_parallel.specs.Verdicts.{asked, IsRight, Stands, named}
use Rattle.eqc_parallel.proofs.VerdictPlaces.{is_output, no_double, fewer, placed}
use Rattle.eqc_parallel.proofs.verdict.in_order.Goals as goal

pub unreachable-requires : goal.unreachable-requires
unreachable-requires c =
    let i = c.loop-output.invariant in
    let m = length c.args.pair.now.first.outputs in
    let few : (x : ℕ) →
    times x (named (c.pop.new.self.items ++ c.in-Some.field-0 ∷ [])) ≤ once_below x m =
    subst (λ (l : List Verdict). (x : ℕ) → times x (named l) ≤ once_below x m)
    c.in-Some.ensures.items i.1 in
    let lt = is_output (asked c.args.pair.now c.args.every) m c.pop.new.self.items c.in-Some.field-0
    few in
    omega (arith, i.0, c.len.ensures, c.if-place-len.true)

pub unreachable-requires-then-is_some : goal.unreachable-requires-then-is_some
unreachable-requires-then-is_some c =
    let i = c.loop-output.invariant in
    let m = length c.args.pair.now.first.outputs in
    let o = c.in-Some.field-0.output in
    let few : (x : ℕ) →
    times x (named (c.pop.new.self.items ++ c.in-Some.field-0 ∷ [])) ≤ once_below x m =
    subst (λ (l : List Verdict). (x : ℕ) → times x (named l) ≤ once_below x m)
    c.in-Some.ensures.items i.1 in
    let lt = is_output (asked c.args.pair.now c.args.every) m c.pop.new.self.items c.in-Some.field-0
    few in
    let size : length c.loop-output.row.items ≡ vec_len c.loop-output.row = search rules in
    let here : get_or c.loop-output.row.items o None ≡ c.index.result.now =
    get_or_default c.loop-output.row.items o None c.index.result.now (omega (
      arith,
      lt,
      i.0,
      size,
    )) ∙ sym c.index.ensures in
    no_double (asked c.args.pair.now c.args.every) m c.pop.new.self.items c.in-Some.field-0 few
    c.index.result.now (sym c.is_some.ensures ∙ c.if-is_some.true)
    (subst (λ s. Stands (asked c.args.pair.now c.args.every) (c.pop.new.self.items
    ++ c.in-Some.field-0 ∷ []) o s) here
    (subst (λ (l : List Verdict). Stands (asked c.args.pair.now c.args.every) l o
    (get_or c.loop-output.row.items o None)) c.in-Some.ensures.items (i.3 o lt)))

pub loop-output-preserved : goal.loop-output-preserved
loop-output-preserved c =
    let i = c.loop-output.invariant in
    let m = length c.args.pair.now.first.outputs in
    let few : (x : ℕ) →
    times x (named (c.pop.new.self.items ++ c.in-Some.field-0 ∷ [])) ≤ once_below x m =
    subst (λ (l : List Verdict). (x : ℕ) → times x (named l) ≤ once_below x m)
    c.in-Some.ensures.items i.1 in
    let size : length c.loop-output.row.items ≡ vec_len c.loop-output.row = search rules in
    let popped = All-pop (IsRight (asked c.args.pair.now c.args.every)) c.loop-output.rest.items
    c.pop.new.self.items (Some c.in-Some.field-0) c.in-Some.ensures.items i.2 in (
      i.0,
      fewer (asked c.args.pair.now c.args.every) m c.pop.new.self.items c.in-Some.field-0 few,
      popped.0,
      placed (asked c.args.pair.now c.args.every) m c.pop.new.self.items c.in-Some.field-0 few
          c.loop-output.row.items (size ∙ i.0) popped.1
          (subst (λ (l : List Verdict). (o : ℕ) → o < m
          → Stands (asked c.args.pair.now c.args.every) l o (get_or c.loop-output.row.items o
          None)) c.in-Some.ensures.items i.3),
    )
