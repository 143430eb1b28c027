use Rattle.std.proofs.Common.{◌≡◌, ℕ, ◌<◌, List, [], ◌∷◌, ◌++◌, get_or, arith, inl, inr, refl, sym}
use Rattle.std.proofs.Common.{subst}
use Rattle.eqc_core.specs.Words.{slots_of}
use Rattle.eqc_guard.specs.Known.{IsHeld}
use Rattle.eqc_apply.specs.Names.{Has, IsCounted, IsThere}
use Rattle.eqc_apply.proofs.held.count_in.Goals.{then-x-lt2-via-then-x-lt2}
use Rattle.eqc_apply.proofs.held.count_in.Goals.{then-x-lt2-via-else-x-lt2+then-is_counted}
use Rattle.eqc_apply.proofs.Once.{beside_held, back_has, back_settles, back_there, kept_has}
use Rattle.eqc_apply.proofs.held.count_in.Goals as goal

pub returns-then-x-lt2-clause-has : goal.returns-then-x-lt2-clause-has
returns-then-x-lt2-clause-has c =
    λ n more h. back_has c.args.name.number n more c.args.worker.now c.args.counts.now.items h
    c.down.new.self c.recall_laws.ensures c.down.ensures.constant c.down.ensures.step

pub returns-then-x-lt2-clause-settles : goal.returns-then-x-lt2-clause-settles
returns-then-x-lt2-clause-settles c =
    let h = c.requires.has in
    back_settles c.args.name.number h.0 h.1.0 c.args.worker.now c.args.counts.now.items h.1.1
    c.down.new.self c.recall_laws.ensures c.down.ensures.constant c.down.ensures.step

pub returns-then-x-lt2-clause-there : goal.returns-then-x-lt2-clause-there
returns-then-x-lt2-clause-there c =
    let h = c.requires.has in
    let counted : IsCounted c.args.counts.now.items c.args.name.number = elim c.then-x-lt2.branch [
      | then-x-lt2-via-then-x-lt2 w ↦ inl (let s = w.if-x-lt2.true in
          omega (arith, c.number-x.ensures))
      | then-x-lt2-via-else-x-lt2+then-is_counted w ↦
          inr
          (let some : 0 < get_or w.as_slice.result.now c.number-x.result 0 =
          w.if-is_counted.ensures.yes refl in
          subst (λ (z : ℕ). 0 < get_or c.args.counts.now.items z 0) c.number-x.ensures
          (subst (λ (l : List ℕ). 0 < get_or l c.number-x.result 0) w.as_slice.ensures.value
          some))
    ] in (
      c.number-x.ensures,
      subst (λ (z : ℕ). IsThere z c.args.worker.now c.down.new.self) (sym c.number-x.ensures)
          (back_there c.args.name.number h.0 h.1.0 c.args.worker.now c.args.counts.now.items h.1.1
          c.down.new.self c.recall_laws.ensures c.down.ensures.constant c.down.ensures.step
          counted),
    )

pub returns-clause-has : goal.returns-clause-has
returns-clause-has c = λ n more h.
    let none : get_or c.args.counts.now.items c.number-x.result 0 ≡ 0 =
    subst (λ (l : List ℕ). get_or l c.number-x.result 0 ≡ 0) c.as_slice.ensures.value
    (c.if-is_counted.ensures.no refl) in
    kept_has c.number-x.result n more c.args.worker.now c.args.counts.now.items
    (subst (λ (z : ℕ). Has (slots_of (z ∷ []) ++ more) n c.args.worker.now c.args.counts.now.items)
    (sym c.number-x.ensures) h) c.if-x-lt2.false
    none (let room = c.requires.room in omega (arith, c.number-x.ensures))

pub returns-clause-there : goal.returns-clause-there
returns-clause-there c =
    let h = c.requires.has in (
      c.into_number.ensures,
      (
        subst (λ (z : ℕ). IsHeld c.args.worker.now.known.core z) (sym c.into_number.ensures)
            (beside_held c.args.name.number h.0 h.1.0 c.args.worker.now c.args.counts.now.items
            h.1.1),
        refl,
      ),
    )

pub returns-then-x-lt2-clause-now : goal.returns-then-x-lt2-clause-now
returns-then-x-lt2-clause-now c = elim c.then-x-lt2.branch [
  | then-x-lt2-via-then-x-lt2 w ↦ inl (let s = w.if-x-lt2.true in omega arith)
  | then-x-lt2-via-else-x-lt2+then-is_counted w ↦
      inr (let some : 0 < get_or w.as_slice.result.now c.number-x.result 0 =
      w.if-is_counted.ensures.yes refl in
      subst (λ (l : List ℕ). 0 < get_or l c.number-x.result 0) w.as_slice.ensures.value some)
]
