use Rattle.std.proofs.Common.{◌≡◌, ℕ, List, get_or, arith, refl, subst}
use Rattle.eqc_arena.proofs.References.{trees_stay, read_stays}
use Rattle.eqc_apply.proofs.Once.{few_held, more_has, more_settles, more_held, same_counted}
use Rattle.eqc_apply.proofs.Once.{named_is}
use Rattle.eqc_apply.proofs.held.hold.Goals as goal

pub returns-in_err-name-clause-only : goal.returns-in_err-name-clause-only
returns-in_err-name-clause-only c =
    absurd (let few = few_held c.requires.has.1 c.recall_laws.ensures in let full =
    c.in_err-name.ensures.full in omega arith)

pub returns-clause-has : goal.returns-clause-has
returns-clause-has c = λ n h.
    let none : get_or c.args.counts.now.items c.args.x 0 ≡ 0 =
    subst (λ (l : List ℕ). get_or l c.args.x 0 ≡ 0) c.as_slice.ensures.value
    (c.if-is_counted.ensures.no refl) in
    more_has c.args.x n c.args.counts.now.items c.grow_counts.new.counts.items c.args.worker.now
    c.up.new.self c.if-x-lt2.false none
    c.grow_counts.ensures.same c.in_ok-grow_counts.ensures.room c.in_ok-name.ensures.step h

pub returns-clause-settles : goal.returns-clause-settles
returns-clause-settles c =
    let none : get_or c.args.counts.now.items c.args.x 0 ≡ 0 =
    subst (λ (l : List ℕ). get_or l c.args.x 0 ≡ 0) c.as_slice.ensures.value
    (c.if-is_counted.ensures.no refl) in
    more_settles c.args.x c.requires.has.0 c.args.counts.now.items c.grow_counts.new.counts.items
    c.args.worker.now c.up.new.self c.if-x-lt2.false
    none c.grow_counts.ensures.same c.in_ok-grow_counts.ensures.room c.in_ok-name.ensures.step
    c.requires.has.1

pub returns-clause-there : goal.returns-clause-there
returns-clause-there c =
    let none : get_or c.args.counts.now.items c.args.x 0 ≡ 0 =
    subst (λ (l : List ℕ). get_or l c.args.x 0 ≡ 0) c.as_slice.ensures.value
    (c.if-is_counted.ensures.no refl) in (
      more_held c.args.x c.requires.has.0 c.args.counts.now.items c.grow_counts.new.counts.items
          c.args.worker.now c.up.new.self c.if-x-lt2.false
          none c.grow_counts.ensures.same c.in_ok-grow_counts.ensures.room
          c.in_ok-name.ensures.step,
      trees_stay c.args.x c.args.worker.now c.up.new.self c.recall_laws.ensures
          c.in_ok-name.ensures.step c.args.x (named_is c.args.worker.now.known.core c.args.x
          c.requires.may),
    )

pub returns-clause-trees : goal.returns-clause-trees
returns-clause-trees c = trees_stay c.args.x c.args.worker.now c.up.new.self c.recall_laws.ensures
    c.in_ok-name.ensures.step

pub returns-clause-read : goal.returns-clause-read
returns-clause-read c = read_stays c.args.x c.args.worker.now c.up.new.self c.recall_laws.ensures
    c.in_ok-name.ensures.step

pub returns-clause-references : goal.returns-clause-references
returns-clause-references c =
    let none : get_or c.args.counts.now.items c.args.x 0 ≡ 0 =
    subst (λ (l : List ℕ). get_or l c.args.x 0 ≡ 0) c.as_slice.ensures.value
    (c.if-is_counted.ensures.no refl) in
    same_counted c.args.x c.args.counts.now.items c.grow_counts.new.counts.items
    c.grow_counts.ensures.same none c.in_ok-grow_counts.ensures.room
