-- A worker takes another one in, with its counts; and what both held is held then.
use Rattle.std.proofs.Common.{◌≡◌, ℕ, zero, suc, ◌+◌, ◌-◌, ◌^◌, ◌<◌, ◌≤◌, Bool, true, false, cond}
use Rattle.std.proofs.Common.{if◌then◌else◌, eqb, List, [], ◌∷◌, ◌++◌, length, length-append}
use Rattle.std.proofs.Common.{get_or, replicate, count_by, refl, sym, ap, subst, ◌∙◌, arith, inr}
use native.Mathlib.Decide.{dec_le}
use lib.ListN.{get_elem?}
use Rattle.std.proofs.lemmas.List.{length-replicate}
use Rattle.eqc_tree.specs.Holding.{Entry, tree_eq, entry_eq, copies}
use Rattle.eqc_core.specs.View.{View}
use Rattle.eqc_core.specs.Words.{times}
use Rattle.eqc_core.specs.Moves.{without_each}
use Rattle.eqc_core.specs.Seating.{out_after}
use Rattle.eqc_core.proofs.Names.{times-nil}
use Rattle.eqc_guard.specs.Known.{Known, tree_of}
use Rattle.eqc_guard.specs.Standing.{Standing}
use Rattle.eqc_guard.specs.Splitting.{IsAbsorbed}
use Rattle.eqc_apply.specs.Names.{refs_of, Has}
use Rattle.eqc_apply.specs.declared.held.Held.{Held}
use Rattle.eqc_apply.specs.Extending.{Stays, entry_in, listed, holding_of, holding_in}
use Rattle.eqc_apply.specs.Joining.{HasTwo, both_refs, IsMerged, Joins, TakesIn, HasTakenIn}
use Rattle.eqc_apply.proofs.Holdings.{stands, listed_stands, no_count, refs_le}

-- after the other one was taken in, each name is held once for each table that counts it
module _ (n m : ℕ) (c d : List ℕ) (old other mid : Standing) (h : Has [] n old c)
    (g : Has [] m other d) (a : IsAbsorbed old other mid) where
  held_is : (x : ℕ) → times x mid.known.core.held ≡ times x old.known.core.held
      + times x other.known.core.held
  held_is x = ap (λ (v : View). times x v.held) a.core ∙ a.names x

  pub absorbed_has : HasTwo n mid c d
  absorbed_has = record {
    rest = record {
      ready = ap (λ (v : View). v.position) a.core;
      quiet = λ k p at. h.rest.quiet k p (ap (λ (v : View). get_elem? v.phases k) (sym a.core)
          ∙ at);
      no_draft = ap (λ (v : View). v.draft) a.core ∙ h.rest.no_draft;
      no_hand = ap (λ (v : View). v.hand) a.core ∙ h.rest.no_hand;
    };
    cells = subst (λ (v : View). 0 < v.sizes.cells) (sym a.core) h.cells;
    range = h.range ∙ sym (ap (λ (v : View). v.sizes.variables) a.core);
    constants = λ x small. (h.constants x small, g.constants x small);
    both = λ x two. omega (arith, held_is x, h.once x two, g.once x two, times-nil x);
  }

  -- and then the tables were merged
  module _ (new : Standing) (e : List ℕ) (merged : IsMerged mid c d new e) where
    slot : (x : ℕ) → 0 < get_or c x 0 → 2 ≤ x
    slot x above = elim (dec_le 2 x) [
      | yes two ↦ two
      | no small ↦
          absurd (let z = h.constants x (omega arith) in omega arith)
    ]

    slot_more : (x : ℕ) → 0 < get_or d x 0 → 2 ≤ x
    slot_more x above = elim (dec_le 2 x) [
      | yes two ↦ two
      | no small ↦
          absurd (let z = g.constants x (omega arith) in omega arith)
    ]

    pub has_taken_in : HasTakenIn old c other d new e
    has_taken_in = record {
      takes = record {
        forest = merged.forest ∙ a.forest;
        sizes = merged.seat.sizes ∙ ap (λ (v : View). v.sizes) a.core;
        number = merged.seat.number ∙ ap (λ (v : View). v.number) a.core;
        out = merged.seat.out ∙ ap (λ (v : View). v.out) a.core;
      };
      references = merged.references;
      mine = λ x above.
          let two = slot x above in
          let there : 0 < times x old.known.core.held = omega (arith, h.once x two, times-nil x) in
          merged.before.tree x (inr (omega (arith, held_is x))) ∙ a.mine x two there;
      theirs = λ x above.
          let two = slot_more x above in
          let there : 0 < times x other.known.core.held = omega (arith, g.once x two, times-nil x)
          in
          merged.before.tree x (inr (omega (arith, held_is x))) ∙ a.theirs x two there;
    }

-- so many references stand on one name at most
refs_listed : (k : Known) (i x : ℕ) (cs : List ℕ) → refs_of cs x ≤ length (listed k i cs)
refs_listed k i x [] = omega arith
refs_listed k i zero (c ∷ cs) = omega (
  arith,
  length-append (replicate (c - 1) (entry_in k i))
      (listed k (i + 1) cs),
  length-replicate (c - 1) (entry_in k i),
)
refs_listed k i (suc x) (c ∷ cs) = omega (
  arith,
  length-append (replicate (c - 1) (entry_in k i))
      (listed k (i + 1) cs),
  refs_listed k (i + 1) x cs,
)

pub refs_held : (n : ℕ) (k : Known) (cs : List ℕ) (x : ℕ)
    → refs_of cs x ≤ length (holding_of n k cs).held
unfolding holding_of
refs_held n k cs x = refs_listed k 0 x cs

-- the list of a table for two workers' references is both lists
module _ (n m : ℕ) (k l j : Known) (cs ds es : List ℕ) (refs : (x : ℕ)
    → refs_of es x ≡ both_refs cs ds x)
    (mine : (x : ℕ) → 0 < refs_of cs x → tree_of j x ≡ tree_of k x) (theirs : (x : ℕ)
    → 0 < refs_of ds x → tree_of j x ≡ tree_of l x) where
  split : (b : Bool) (r s : ℕ) → cond b (r + s) 0 ≡ cond b r 0 + cond b s 0
  split true r s = refl
  split false r s = omega arith

  part : (i : Known) (e : Entry) (r s : ℕ) → s ≡ r
      → (0 < r → tree_of j e.number ≡ tree_of i e.number) → stands j e s ≡ stands i e r
  part i e zero s same tree = no_count (tree_eq e.tree (tree_of j e.number)) s same
      ∙ sym (no_count (tree_eq e.tree (tree_of i e.number)) zero refl)
  part i e (suc r) s same tree = rw (same, tree (omega arith)) refl

  pub both_listed : (e : Entry) → count_by (entry_eq e) (holding_of n j es).held
      ≡ count_by (entry_eq e) (holding_of n k cs).held + count_by (entry_eq e)
      (holding_of m l ds).held
  unfolding holding_of
  both_listed e =
      listed_stands j es e
      ∙ (ap (λ (r : ℕ). stands j e r) (refs e.number)
      ∙ (split (tree_eq e.tree (tree_of j e.number)) (refs_of cs e.number) (refs_of ds e.number)
      ∙ omega (
        arith,
        part k e (refs_of cs e.number) (refs_of cs e.number) refl (mine e.number),
        part l e (refs_of ds e.number) (refs_of ds e.number) refl (theirs e.number),
        listed_stands k cs e,
        listed_stands l ds e,
      )))

  pub both_held : (v : ℕ) → v ≡ n → Joins (holding_of n k cs) (holding_of m l ds)
      (holding_of v j es)
  unfolding holding_of
  both_held v same = record { variables = same; held = both_listed }

-- the numbers that are out depend on these alone
out_same : (v w o p : View) → v.number ≡ w.number → v.out ≡ w.out → o.number ≡ p.number
    → o.out ≡ p.out → out_after v o.number o ≡ out_after w p.number p
out_same v w o p a b c d = λ i. if eqb (a i) 0 then without_each (c i ∷ d i) (b i) else b i ++ c i
    ∷ d i

-- what two appliers held is held by the one that took the other in, where both gave names up before
module _ (old other mid left : Held) (s : Stays old mid) (t : Stays other left) where
  -- few references stand on each name
  pub few_both : ((e : Entry) → copies (holding_in old) e + copies (holding_in other) e ≤ 2 ^ 38)
      → (x : ℕ) → both_refs mid.counts.items left.counts.items x ≤ 2 ^ 39
  few_both few x =
      let mine = few (entry_in old.worker.known x) in
      let theirs = few (entry_in other.worker.known x) in
      omega (
        arith,
        mine,
        theirs,
        s.references x,
        t.references x,
        refs_le old.variables old.worker.known old.counts.items x,
        refs_le other.variables
            other.worker.known other.counts.items x,
      )

  module _ (new : Standing) (es : List ℕ) (h : HasTakenIn mid.worker mid.counts.items left.worker
      left.counts.items new es) where
    pub names_join : Joins (holding_in old) (holding_in other) (holding_of mid.variables new.known
        es)
    names_join = both_held old.variables other.variables old.worker.known other.worker.known
        new.known old.counts.items other.counts.items es
        (λ x. omega (arith, h.references x, s.references x, t.references x))
        (λ x above. h.mine x (omega (arith, s.references x)) ∙ s.tree x (omega arith))
        (λ x above. h.theirs x (omega (arith, t.references x)) ∙ t.tree x (omega arith))
        mid.variables s.variables

    pub names_take : TakesIn old.worker other.worker new
    names_take = record {
      forest = h.takes.forest ∙ s.forest;
      sizes = h.takes.sizes ∙ s.seat.sizes;
      number = h.takes.number ∙ s.seat.number;
      out = h.takes.out ∙ out_same mid.worker.known.core old.worker.known.core
          left.worker.known.core other.worker.known.core s.seat.number s.seat.out t.seat.number
          t.seat.out;
    }
