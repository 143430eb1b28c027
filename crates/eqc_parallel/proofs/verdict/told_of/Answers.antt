use Rattle.std.proofs.Common.{rules, ◌≡◌, ◌<◌, None, Some, get_or, vec_len, length, refl, sym, ap}
use Rattle.std.proofs.Common.{◌∙◌, arith}
use Rattle.std.proofs.lemmas.List.{get_or_default, get_or-set_other}
use Rattle.eqc_compare.specs.declared.outcome.Difference.{Difference}
use Rattle.eqc_parallel.specs.declared.verdict.Finding.TheVariants.{Differs, Equal}
use Rattle.eqc_parallel.specs.Verdicts.{asked}
use Rattle.eqc_parallel.proofs.VerdictPlaces.{stood}
use Rattle.eqc_compare.proofs.ToldLaws.{told_none, told_skip, told_more, told_first, told_all}
use Rattle.eqc_parallel.proofs.verdict.told_of.Goals as goal

pub loop-next-init : goal.loop-next-init
loop-next-init c = record {
  size = refl;
  rest = λ o le lt. refl;
  told = told_none c.args.pair.now c.args.every c.new-found.result.items c.new-found.ensures.items;
}

pub loop-next-preserved-in-Some-Equal : goal.loop-next-preserved-in-Some-Equal
loop-next-preserved-in-Some-Equal c =
    let p = c.args.pair.now in
    let i = c.loop-next.invariant in
    let o = c.loop-next.next in
    let inside : o < vec_len c.loop-next.row = omega (arith, c.loop-next-test.true, c.len.ensures)
    in
    let size : length c.loop-next.row.items ≡ vec_len c.loop-next.row = search rules in
    let here : get_or c.args.row.items o None ≡ Some Equal =
    sym (i.rest o (omega arith) inside)
    ∙ (get_or_default c.loop-next.row.items o None c.index_mut.result.now (omega (
      arith,
      inside,
      size,
    ))
    ∙ (sym c.index_mut.ensures.value ∙ (sym c.take.ensures.value
    ∙ (c.in-Some-Equal.is ∙ ap Some c.in-Some-Equal.field-0-is)))) in
    let found = stood (asked p c.args.every) o (get_or c.args.row.items o None) Equal here
    (c.requires.each o (omega (arith, inside, i.size))) in
    let within : o < length p.first.outputs = omega (arith, inside, i.size, c.requires.size) in
    record {
      size = i.size;
      rest = λ k le lt. get_or-set_other c.loop-next.row.items c.loop-next.next k c.take.new.self
          None (λ e. absurd (omega (arith, le, e))) ∙ i.rest k (omega (arith, le)) lt;
      told = told_skip p c.args.every c.loop-next.found.items o i.told within found;
    }

pub returns-then-not-every : goal.returns-then-not-every
returns-then-not-every c =
    let p = c.args.pair.now in
    let i = c.loop-next.invariant in
    let o = c.loop-next.next in
    let inside : o < vec_len c.loop-next.row = omega (arith, c.loop-next-test.true, c.len.ensures)
    in
    let size : length c.loop-next.row.items ≡ vec_len c.loop-next.row = search rules in
    let here : get_or c.args.row.items o None ≡ Some (Differs c.in-Some-Differs.values) =
    sym (i.rest o (omega arith) inside)
    ∙ (get_or_default c.loop-next.row.items o None c.index_mut.result.now (omega (
      arith,
      inside,
      size,
    ))
    ∙ (sym c.index_mut.ensures.value ∙ (sym c.take.ensures.value ∙ (c.in-Some-Differs.is
    ∙ ap Some c.in-Some-Differs.field-0-is)))) in
    let found = stood (asked p c.args.every) o (get_or c.args.row.items o None)
    (Differs c.in-Some-Differs.values) here (c.requires.each o (omega (arith, inside, i.size)))
    in
    let within : o < length p.first.outputs = omega (arith, inside, i.size, c.requires.size) in
    let d : Difference = record { output = o; values = c.in-Some-Differs.values } in
    rw c.in_ok-push-in-Some-Differs.ensures.items (told_first p c.args.every c.loop-next.found.items
    o i.told within d refl found c.if-not-every.true)

pub loop-next-preserved : goal.loop-next-preserved
loop-next-preserved c =
    let p = c.args.pair.now in
    let i = c.loop-next.invariant in
    let o = c.loop-next.next in
    let inside : o < vec_len c.loop-next.row = omega (arith, c.loop-next-test.true, c.len.ensures)
    in
    let size : length c.loop-next.row.items ≡ vec_len c.loop-next.row = search rules in
    let here : get_or c.args.row.items o None ≡ Some (Differs c.in-Some-Differs.values) =
    sym (i.rest o (omega arith) inside)
    ∙ (get_or_default c.loop-next.row.items o None c.index_mut.result.now (omega (
      arith,
      inside,
      size,
    ))
    ∙ (sym c.index_mut.ensures.value ∙ (sym c.take.ensures.value ∙ (c.in-Some-Differs.is
    ∙ ap Some c.in-Some-Differs.field-0-is)))) in
    let found = stood (asked p c.args.every) o (get_or c.args.row.items o None)
    (Differs c.in-Some-Differs.values) here (c.requires.each o (omega (arith, inside, i.size)))
    in
    let within : o < length p.first.outputs = omega (arith, inside, i.size, c.requires.size) in
    let d : Difference = record { output = o; values = c.in-Some-Differs.values } in
    record {
      size = i.size;
      rest = λ k le lt. get_or-set_other c.loop-next.row.items c.loop-next.next k c.take.new.self
          None (λ e. absurd (omega (arith, le, e))) ∙ i.rest k (omega (arith, le)) lt;
      told = rw c.in_ok-push-in-Some-Differs.ensures.items (told_more p c.args.every
          c.loop-next.found.items o i.told within d refl found c.if-not-every.false);
    }

pub returns : goal.returns
returns c =
    told_all c.args.pair.now c.args.every c.loop-next.found.items c.loop-next.next
    c.loop-next.invariant.told
    (omega (
      arith,
      c.loop-next-test.false,
      c.len.ensures,
      c.loop-next.invariant.size,
      c.requires.size,
    ))
