-- A step leaves the trees of tabled slots, and room for the names that its worker holds.
use Rattle.std.proofs.Common.{◌≡◌, ℕ, ◌^◌, ◌<◌, ◌≤◌, List, [], ◌∷◌, length, get_or, true, false}
use Rattle.std.proofs.Common.{arith, length-append}
use mathlib.Core.Option.{some}
use lib.ListN.{get_elem?}
use Rattle.eqc_tree.specs.Tree.{Tree}
use Rattle.eqc_tree.specs.Word.{node_word}
use Rattle.eqc_core.specs.declared.event.Step.{Step}
use Rattle.eqc_core.specs.declared.event.Step.TheVariants.{Split, Join, Announce, Look, Recheck, Up}
use Rattle.eqc_core.specs.declared.event.Step.TheVariants.{Down, SwapCell, ScanOne, Lock, Unlock}
use Rattle.eqc_core.specs.declared.event.Step.TheVariants.{Claim, Unclaim, WriteNode, ReadNode}
use Rattle.eqc_core.specs.declared.event.Step.TheVariants.{Reclaim, SwapBox, LookBox}
use Rattle.eqc_core.specs.View.{View, view_at, draft_of}
use Rattle.eqc_core.specs.Words.{cell_names, operands, children, slots_of}
use Rattle.eqc_core.specs.Tables.{tabled}
use Rattle.eqc_core.specs.Trees.{IsTree}
use Rattle.eqc_core.specs.State.{State, IsLawful}
use Rattle.eqc_core.specs.Moves.{without_each}
use Rattle.eqc_core.specs.Run.{May, held_before, view_after, words_after}
use Rattle.eqc_core.proofs.Names.{length-without, length-without_each, length-slots_of}
use Rattle.eqc_core.proofs.Bounds.{scans_keep_names}
use Rattle.eqc_core.proofs.Writing.{write_keeps_trees}

-- a write leaves the words of tabled slots, and no other step writes a node
pub tree_stays : (s : State) (id x : ℕ) (v : View) (p : Step) (t : Tree) → IsLawful s
    → get_elem? s.views id ≡ some v → May s v p →
    0 < tabled s.homes s.views x → IsTree s.words.nodes t x
    → IsTree (words_after s id v p).nodes t x
tree_stays s id x v (Split to) t law at may tab is = is
tree_stays s id x v (Join from) t law at may tab is = is
tree_stays s id x v (Announce k y) t law at may tab is = is
tree_stays s id x v (Look k c) t law at may tab is = is
tree_stays s id x v (Recheck k) t law at may tab is = is
tree_stays s id x v (Up y) t law at may tab is = is
tree_stays s id x v (Down y) t law at may tab is = is
tree_stays s id x v (SwapCell c word) t law at may tab is = is
tree_stays s id x v ScanOne t law at may tab is = is
tree_stays s id x v (Lock i true) t law at may tab is = is
tree_stays s id x v (Lock i false) t law at may tab is = is
tree_stays s id x v (Unlock i) t law at may tab is = is
tree_stays s id x v (Claim y true) t law at may tab is = is
tree_stays s id x v (Claim y false) t law at may tab is = is
tree_stays s id x v Unclaim t law at may tab is = is
tree_stays s id x v (WriteNode variable low high) t law at may tab is =
    write_keeps_trees s.sizes s.words s.homes s.views id v law at (draft_of v.draft)
    (node_word variable low high) x t may.word.draft tab is
tree_stays s id x v (ReadNode y) t law at may tab is = is
tree_stays s id x v (Reclaim y) t law at may tab is = is
tree_stays s id x v (SwapBox b word) t law at may tab is = is
tree_stays s id x v (LookBox b) t law at may tab is = is

half : (n : ℕ) → n ≤ 2 ^ 39 → n ≤ 2 ^ 40
half n le = omega arith

pub room_after : (s : State) (id : ℕ) (v : View) (p : Step) → IsLawful s → get_elem? s.views id
    ≡ some v → v.active ≡ true → May s v p →
    held_before s v p ≤ 2 ^ 39 → length (view_after s v p).held ≤ 2 ^ 40
room_after s id v (Split to) law at on may le = half (length v.held) le
room_after s id v (Join from) law at on may le =
    omega (arith, length-append v.held (view_at s.views from).held)
room_after s id v (Announce k x) law at on may le = half (length v.held) le
room_after s id v (Look k c) law at on may le = half (length v.held) le
room_after s id v (Recheck k) law at on may le = half (length v.held) le
room_after s id v (Up x) law at on may le = omega (arith, length-append v.held (x ∷ []))
room_after s id v (Down x) law at on may le = omega (arith, length-without x v.held)
room_after s id v (SwapCell c word) law at on may le =
    let old : ℕ = get_or s.words.cells c 0 in
    omega (
      arith,
      length-append (without_each (slots_of (cell_names word)) v.held)
          (slots_of (operands old)),
      length-without_each (slots_of (cell_names word)) v.held,
      length-slots_of (operands old),
    )
room_after s id v ScanOne law at on may le =
    let few = (law.views id v at on).few in
    let most = law.sized.few_announced in
    let k = (scans_keep_names v (get_or s.words.announced v.position 0)).lengths in
    omega arith
room_after s id v (Lock i true) law at on may le = half (length v.held) le
room_after s id v (Lock i false) law at on may le = half (length v.held) le
room_after s id v (Unlock i) law at on may le = half (length v.held) le
room_after s id v (Claim x true) law at on may le = half (length v.held) le
room_after s id v (Claim x false) law at on may le = half (length v.held) le
room_after s id v Unclaim law at on may le = half (length v.held) le
room_after s id v (WriteNode variable low high) law at on may le =
    let names : List ℕ = slots_of (children (node_word variable low high)) in
    omega (
      arith,
      length-append (without_each names v.held) (draft_of v.draft ∷ []),
      length-without_each names v.held,
    )
room_after s id v (ReadNode x) law at on may le = half (length v.held) le
room_after s id v (Reclaim x) law at on may le =
    let names : List ℕ = children (get_or s.words.nodes x 0) in
    omega (arith, length-append v.held (slots_of names), length-slots_of names)
room_after s id v (SwapBox b word) law at on may le =
    let old : ℕ = get_or s.words.boxes b 0 in
    omega (
      arith,
      length-append (without_each (slots_of (cell_names word)) v.held) (slots_of (cell_names old)),
      length-without_each (slots_of (cell_names word)) v.held,
      length-slots_of (cell_names old),
    )
room_after s id v (LookBox b) law at on may le = half (length v.held) le
