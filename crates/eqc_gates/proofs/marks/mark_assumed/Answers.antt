use Rattle.std.proofs.Common.{◌<◌, length, get_or, refl, ap, arith}
use Rattle.eqc_build.proofs.StepLaws.{assumed_root_within}
use Rattle.eqc_gates.proofs.MarkLaws.{marked_one}
use Rattle.eqc_gates.proofs.marks.mark_assumed.Goals as goal

pub index_mut-requires : goal.index_mut-requires
index_mut-requires c =
    omega (
      arith,
      (assumed_root_within c.args.steps.now c.len-count.ensures.lawful).each 0
          (omega (arith, ap length c.in-Some.ensures)),
      ap (λ l. get_or l 0 0) c.in-Some.ensures,
      c.requires,
    )

pub returns-in-Some : goal.returns-in-Some
returns-in-Some c =
    let within : c.in-Some.root < length c.args.marks.now.items =
    omega (
      arith,
      (assumed_root_within c.args.steps.now c.len-count.ensures.lawful).each 0
          (omega (arith, ap length c.in-Some.ensures)),
      ap (λ l. get_or l 0 0) c.in-Some.ensures,
      c.requires,
    ) in
    marked_one c.args.marks.now.items _ _ c.in-Some.root c.in-Some.ensures within refl
