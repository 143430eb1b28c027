-- The words that a box may have, and the step that swaps one.
use Rattle.std.proofs.Common.{◌≡◌, ◌≢◌, ◌⊎◌, ℕ, ◌+◌, ◌^◌, ◌<◌, ◌≤◌, List, length, set, get_or, true}
use Rattle.std.proofs.Common.{refl, ap, subst, arith, ⊎_elim, length-set, inl, inr}
use mathlib.Core.Option.{some}
use native.Mathlib.Decide.{dec_le}
use lib.ListN.{get_elem?}
use Rattle.eqc_tree.specs.Operation.{tag_of}
use Rattle.eqc_tree.specs.declared.operation.Op.{Op}
use Rattle.eqc_tree.specs.declared.operation.Op.TheVariants.{And, Or, Xor, AndNot}
use Rattle.eqc_core.specs.declared.sizes.Sizes.{Sizes}
use Rattle.eqc_core.specs.View.{View}
use Rattle.eqc_core.specs.Words.{Words, word_at, times, cell_names, operation_of, result_of}
use Rattle.eqc_core.specs.Tables.{Homes}
use Rattle.eqc_core.specs.Owners.{owned, owners}
use Rattle.eqc_core.specs.Trees.{IsFilled, IsBoxWord}
use Rattle.eqc_core.specs.Support.{Supported}
use Rattle.eqc_core.specs.Lawful.{Fits, Lawful}
use Rattle.eqc_core.specs.Sharing.{MaySwapBox, boxed_words, boxed}
use Rattle.eqc_core.proofs.Lists.{at_set, get_at}
use Rattle.eqc_core.proofs.Sums.{sum_set}
use Rattle.eqc_core.proofs.Tables.{owned_is}
use Rattle.eqc_core.proofs.Frames.{IsOwnStep, forgets, support_set, frame, drafts_set, tabled_set}
use Rattle.eqc_core.proofs.Frames.{tables_set}
use Rattle.eqc_core.proofs.Caching.{in_words_set, traded, traded_slots}

-- the numbers of operations
pub tag_range : (op : Op) → (1 ≤ tag_of op) × (tag_of op < 5)
tag_range And = (omega arith, omega arith)
tag_range Or = (omega arith, omega arith)
tag_range Xor = (omega arith, omega arith)
tag_range AndNot = (omega arith, omega arith)

-- a box's word that is not empty and has an operation's number, at most, is a result
pub low_box : (nodes : List ℕ) (word : ℕ) → word ≢ 0 → operation_of word < 5 → IsBoxWord nodes word
    → IsFilled nodes word
low_box nodes word some_word low (inl (inl e)) = absurd (some_word e)
low_box nodes word some_word low (inl (inr f)) = f
low_box nodes word some_word low (inr (inl t)) = absurd (let from = t.from in omega arith)
low_box nodes word some_word low (inr (inr s)) = absurd (let from = s.from in omega arith)

-- one with a greater number has a task's or a stop's, and no result
pub high_box : (nodes : List ℕ) (word : ℕ) → word ≢ 0 → 4 < operation_of word → IsBoxWord nodes word
    → (result_of word ≡ 0) × ((operation_of word < 9) ⊎ (12 < operation_of word))
high_box nodes word some_word high (inl (inl e)) = absurd (some_word e)
high_box nodes word some_word high (inl (inr f)) = absurd (let r = tag_range f.operation in let e =
    f.tag in omega arith)
high_box nodes word some_word high (inr (inl t)) = (t.no_result, inl t.upto)
high_box nodes word some_word high (inr (inr s)) = (s.no_result, inr s.from)

module _ (z : Sizes) (w : Words) (hs : Homes) (vs : List View) (id : ℕ) (v : View)
    (law : Lawful z w hs vs) (at : get_elem? vs id ≡ some v) (on : v.active ≡ true) where
  pub swap_box_keeps : (b word : ℕ) → MaySwapBox w.nodes v b word
      → length (boxed v (get_or w.boxes b 0) word).held ≤ 2 ^ 40
      → Lawful z (boxed_words w b word) hs (set vs id (boxed v (get_or w.boxes b 0) word))
  swap_box_keeps b word may room =
      frame z w (boxed_words w b word) hs hs vs id v u law at on
      (record { active = refl; number = refl; given = refl; out = refl })
      (record {
        announced = refl;
        counts = refl;
        nodes = refl;
        cells = refl;
        boxes =
            length-set w.boxes b word;
        locks = refl;
        homes = refl;
      })
      (λ x tab. refl)
      (λ j k ne small. refl)
      (λ i x small is two s. stays i x s)
      (record {
        counts = λ x two lt. omega (
          arith,
          law.counted.counts x two lt,
          drafts_set hs vs id v u at
              own x,
          same x two,
        );
        owners_tabled = λ x two has. let t =
            law.counted.owners_tabled x two (omega (arith, same x two)) in
            omega (arith, tabled_set hs vs id v u at own x);
      })
      (tables_set hs vs id v u at own z w (boxed_words w b word) (record {
        nodes = refl;
        locks =
            refl;
      }) law.tables)
      (record {
        cells = law.right.cells;
        boxes = λ k n e.
            ⊎_elim (λ (t : (k ≡ b) × (word ≡ n)). subst (λ m. IsBoxWord w.nodes m) t.1 may.2)
            (λ (t : (k ≢ b) × (get_elem? w.boxes k ≡ some n)). law.right.boxes k n t.1)
            (at_set w.boxes b k word n e);
      })
      (record {
        sizes = f.sizes;
        number = f.number;
        phases = f.phases;
        announced = f.announced;
        named = f.named;
        support = λ k x is. stays (word_at z id k) x (f.support k x is);
        few = f.few;
        room = room;
        slots = λ x some_owned. slot x some_owned (dec_le 1 (times x v.retired));
        place = f.place;
        noted = f.noted;
        hand = f.hand;
        others = f.others;
        read = λ r is. let g = forgets u.held v.read r is in record {
          held_still = g.1;
          word_is =
              (f.read r g.0).word_is;
        };
      })
    where
      f : Fits z w vs id v
      f = law.views id v at on

      old : ℕ
      old = get_or w.boxes b 0

      u : View
      u = boxed v (get_or w.boxes b 0) word

      own : IsOwnStep v u
      own = record {
        active = refl;
        sizes = refl;
        number = refl;
        draft = refl;
        hand = refl;
        given =
            refl;
        out = refl;
      }

      there : get_elem? w.boxes b ≡ some old
      there = get_at w.boxes b 0 (let e = ap (λ (y : Sizes). y.workers) f.sizes in let h = may.1 in
          omega (arith, law.sized.boxes))

      -- the names of both words change hands, and no other owner comes or goes
      same : (x : ℕ) → 2 ≤ x → owners (boxed_words w b word) hs (set vs id u) x ≡ owners w hs vs x
      same x two =
          let trade = traded x (cell_names word) (cell_names old) v.held two (may.3 x two) in
          omega (
            arith,
            sum_set (owned x) vs id v u at,
            owned_is x v,
            owned_is x u,
            in_words_set x w.boxes b old word there,
            trade,
          )

      slot : (x : ℕ) → 0 < times x u.held + times x u.retired → Dec (1 ≤ times x v.retired) → 2 ≤ x
      slot x some_owned (yes r) = f.slots x (omega arith)
      slot x some_owned (no n) =
          ⊎_elim (λ (h : 0 < times x v.held). f.slots x (omega arith)) (λ (t : 2 ≤ x). t)
          (traded_slots x (cell_names word) (cell_names old) v.held (omega arith))

      stays : (i x : ℕ) → Supported w.cells vs i x → Supported w.cells (set vs id u) i x
      stays i x s = support_set w.cells vs id v u i x at (λ keeps. keeps) s
