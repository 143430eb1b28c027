use Rattle.std.proofs.Common.{◌≡◌, ◌+◌, ℕ, [], Some, IfSome, slice_get, sym, subst, ◌∙◌, arith}
use native.Mathlib.Decide.{ℕ_discrete}
use Rattle.std.specs.List.{swap_remove}
use Rattle.eqc_core.specs.Tables.{Entries}
use Rattle.eqc_arena.specs.Emptying.{IsTrying, IsBetween}
use Rattle.eqc_arena.proofs.Changing.{still_there}
use Rattle.eqc_arena.proofs.Entries.{entry_in_hand}
use Rattle.eqc_arena.proofs.Emptying.{entry_there, none_there, none_tried, trying_lost}
use Rattle.eqc_arena.proofs.Taking.{with_hand, low_now, high_held, both_given, home_again}
use Rattle.eqc_arena.proofs.Taking.{tries_won}
use Rattle.eqc_arena.proofs.collecting.try_entry.Goals as goal

pub reclaim-requires-clause-entry : goal.reclaim-requires-clause-entry
reclaim-requires-clause-entry c =
    let at : slice_get c.args.map.now.entries c.args.i ≡ Some (
      c.in-Some.word.now,
      c.in-Some.slot.now,
    ) = let e = c.in-Some.ensures.entry in cc in
    entry_in_hand c.requires.home.0 c.args.i c.in-Some.word.now c.in-Some.slot.now
    c.args.map.now.entries c.args.worker.now.known.core c.requires.home.1 at

pub returns-in_default-reclaim-clause-changes : goal.returns-in_default-reclaim-clause-changes
returns-in_default-reclaim-clause-changes c =
    with_hand (still_there c.args.worker.now c.reclaim.new.self (c.reclaim.ensures.lost
    c.in_default-reclaim.is))

pub returns-in_default-reclaim-clause-tries : goal.returns-in_default-reclaim-clause-tries
returns-in_default-reclaim-clause-tries c n s taken home trying =
    let at : slice_get c.args.map.now.entries c.args.i ≡ Some (
      c.in-Some.word.now,
      c.in-Some.slot.now,
    ) = let e = c.in-Some.ensures.entry in cc in
    let copies = c.reclaim.ensures.copies in
    let same : taken ≡ taken + 0 = omega arith in
    subst (λ (m : ℕ). IsTrying [] n s m c.args.i c.args.map.now.entries c.reclaim.new.self.known)
    same
    (trying_lost n s taken c.args.i (c.args.i + 1) c.args.map.now.entries s c.args.i
    c.args.map.now.entries c.in-Some.word.now c.in-Some.slot.now
    c.args.worker.now c.reclaim.new.self trying (omega arith) home at copies.0
    (entry_there c.args.map.now.entries c.args.i c.in-Some.word.now c.in-Some.slot.now at)
    (copies.1.0 c.in_default-reclaim.is) (c.reclaim.ensures.lost c.in_default-reclaim.is)
    copies.2)

pub returns-in_default-reclaim-clause-takes : goal.returns-in_default-reclaim-clause-takes
returns-in_default-reclaim-clause-takes c n s taken between =
    let at : slice_get c.args.map.now.entries c.args.i ≡ Some (
      c.in-Some.word.now,
      c.in-Some.slot.now,
    ) = let e = c.in-Some.ensures.entry in cc in
    let copies = c.reclaim.ensures.copies in
    let same : taken ≡ taken + 0 = omega arith in
    subst (λ (m : ℕ). IsBetween [] n s m c.reclaim.new.self.known) same
    (trying_lost n s taken 0 0 [] c.requires.home.0 c.args.i c.args.map.now.entries
    c.in-Some.word.now c.in-Some.slot.now c.args.worker.now
    c.reclaim.new.self (none_tried [] n s taken 0 c.args.worker.now.known between) (omega arith)
    c.requires.home.1 at
    copies.0 (none_there c.in-Some.word.now c.in-Some.slot.now 0)
    (copies.1.0 c.in_default-reclaim.is) (c.reclaim.ensures.lost c.in_default-reclaim.is)
    copies.2).between

pub give_child-requires-clause-held : goal.give_child-requires-clause-held
give_child-requires-clause-held c =
    let won = c.in-Some-reclaim.ensures.won in
    low_now c.in-Some.word.now c.in-Some.slot.now c.in-Some-reclaim.low.number
    c.in-Some-reclaim.high.number c.args.worker.now c.reclaim.new.self won.2 won.0 won.1

pub give_child-requires-2-clause-held : goal.give_child-requires-2-clause-held
give_child-requires-2-clause-held c =
    let won = c.in-Some-reclaim.ensures.won in
    high_held c.in-Some.word.now c.in-Some.slot.now c.in-Some-reclaim.low.number
    c.in-Some-reclaim.high.number c.args.worker.now
    c.reclaim.new.self c.give_child.new.worker won.2 won.0 won.1 c.give_child.ensures.gives

pub returns-clause-home : goal.returns-clause-home
returns-clause-home c =
    let at : slice_get c.args.map.now.entries c.args.i ≡ Some (
      c.in-Some.word.now,
      c.in-Some.slot.now,
    ) = let e = c.in-Some.ensures.entry in cc in
    let left : c.swap_remove_index-entry.new.self.entries ≡ swap_remove c.args.map.now.entries
    c.args.i (c.in-Some.word.now, c.in-Some.slot.now) =
    subst (λ o. IfSome o (λ p. c.swap_remove_index-entry.new.self.entries
    ≡ swap_remove c.args.map.now.entries c.args.i p))
    (c.swap_remove_index-entry.ensures.entry ∙ at) c.swap_remove_index-entry.ensures.entries in
    let won = c.in-Some-reclaim.ensures.won in
    home_again c.in-Some.word.now c.in-Some.slot.now c.in-Some-reclaim.low.number
    c.in-Some-reclaim.high.number c.args.worker.now
    c.reclaim.new.self c.give_child.new.worker c.give_child-2.new.worker won.2 won.0 won.1
    c.give_child.ensures.gives c.give_child-2.ensures.gives
    c.args.map.now.entries c.swap_remove_index-entry.new.self.entries c.args.i c.recall_laws.ensures
    at left

pub returns-clause-changes : goal.returns-clause-changes
returns-clause-changes c =
    let won = c.in-Some-reclaim.ensures.won in
    with_hand
    (both_given c.in-Some.word.now c.in-Some.slot.now c.in-Some-reclaim.low.number
    c.in-Some-reclaim.high.number c.args.worker.now
    c.reclaim.new.self c.give_child.new.worker c.give_child-2.new.worker won.2 won.0 won.1
    c.give_child.ensures.gives
    c.give_child-2.ensures.gives)

pub returns-clause-tries : goal.returns-clause-tries
returns-clause-tries c n s taken home trying =
    let at : slice_get c.args.map.now.entries c.args.i ≡ Some (
      c.in-Some.word.now,
      c.in-Some.slot.now,
    ) = let e = c.in-Some.ensures.entry in cc in
    let left : c.swap_remove_index-entry.new.self.entries ≡ swap_remove c.args.map.now.entries
    c.args.i (c.in-Some.word.now, c.in-Some.slot.now) =
    subst (λ o. IfSome o (λ p. c.swap_remove_index-entry.new.self.entries
    ≡ swap_remove c.args.map.now.entries c.args.i p))
    (c.swap_remove_index-entry.ensures.entry ∙ at) c.swap_remove_index-entry.ensures.entries in
    let won = c.in-Some-reclaim.ensures.won in
    let copies = c.reclaim.ensures.copies in
    let one : copies.0 ≡ 1 = elim (ℕ_discrete copies.0 1) [
      | yes e ↦ e
      | no m ↦
          absurd (let none = copies.1.1 m in let some = c.in-Some-reclaim.is in cc)
    ] in
    subst (λ (l : Entries). IsTrying [] n s (taken + 1) c.args.i l c.give_child-2.new.worker.known)
    (sym left)
    (tries_won c.in-Some.word.now c.in-Some.slot.now c.in-Some-reclaim.low.number
    c.in-Some-reclaim.high.number c.args.worker.now
    c.reclaim.new.self c.give_child.new.worker c.give_child-2.new.worker won.2 won.0 won.1
    c.give_child.ensures.gives c.give_child-2.ensures.gives
    copies.0 taken n s c.args.i (c.args.i + 1) s c.args.i c.args.map.now.entries
    c.args.map.now.entries one copies.2 c.give_child.ensures.tries
    c.give_child-2.ensures.tries home at (omega arith) trying)

pub returns-clause-takes : goal.returns-clause-takes
returns-clause-takes c n s taken between =
    let at : slice_get c.args.map.now.entries c.args.i ≡ Some (
      c.in-Some.word.now,
      c.in-Some.slot.now,
    ) = let e = c.in-Some.ensures.entry in cc in
    let won = c.in-Some-reclaim.ensures.won in
    let copies = c.reclaim.ensures.copies in
    let one : copies.0 ≡ 1 = elim (ℕ_discrete copies.0 1) [
      | yes e ↦ e
      | no m ↦
          absurd (let none = copies.1.1 m in let some = c.in-Some-reclaim.is in cc)
    ] in
    (tries_won c.in-Some.word.now c.in-Some.slot.now c.in-Some-reclaim.low.number
    c.in-Some-reclaim.high.number c.args.worker.now
    c.reclaim.new.self c.give_child.new.worker c.give_child-2.new.worker won.2 won.0 won.1
    c.give_child.ensures.gives c.give_child-2.ensures.gives
    copies.0 taken n s 0 0 c.requires.home.0 c.args.i [] c.args.map.now.entries one copies.2
    c.give_child.ensures.tries
    c.give_child-2.ensures.tries c.requires.home.1 at (omega arith) (none_tried [] n s taken 0
    c.args.worker.now.known between)).between
