-- What is told of a forest at its end: what the worker held is held still, and is counted.
use Rattle.std.proofs.Common.{◌≡◌, ◌≢◌, ℕ, zero, suc, ◌+◌, ◌-◌, ◌<◌, ◌≤◌, ◌↔◌, Bool, true, false}
use Rattle.std.proofs.Common.{cond, nat_lt, List, [], ◌∷◌, get_or, ltb, if◌then◌else◌, refl, sym}
use Rattle.std.proofs.Common.{ap, subst, ◌∙◌, arith, inr}
use native.Mathlib.Decide.{dec_le, ℕ_discrete}
use Rattle.std.proofs.lemmas.Bool.{lt-ltb, le-ltb}
use Rattle.eqc_tree.specs.Holding.{Entry, IsHeld as IsIn, tree_eq, copies}
use Rattle.eqc_tree.proofs.HoldingLemmas.{tree_eq_self}
use Rattle.eqc_plain.proofs.Counting.{tree_eq-true}
use Rattle.eqc_core.specs.View.{View}
use Rattle.eqc_core.specs.Words.{times}
use Rattle.eqc_core.proofs.Names.{times-nil}
use Rattle.eqc_core.proofs.Known.{held_counted}
use Rattle.eqc_guard.specs.Known.{Known, IsKnown, IsCopy, tree_of}
use Rattle.eqc_guard.specs.Standing.{Standing}
use Rattle.eqc_guard.specs.Splitting.{IsCopied}
use Rattle.eqc_guard.specs.Closing.{above_zero, IsTallied}
use Rattle.eqc_arena.specs.Changing.{Exchanges}
use Rattle.eqc_arena.proofs.Changing.{still_there, here, still, names_now, same_tree}
use Rattle.eqc_apply.specs.Names.{refs_of, Has}
use Rattle.eqc_apply.specs.declared.held.Held.{Held}
use Rattle.eqc_apply.specs.Extending.{Stays, entry_in, listed, holding_of, holding_in}
use Rattle.eqc_apply.specs.Closing.{IsTold, IsLeft}
use Rattle.eqc_apply.proofs.Holdings.{copies_are, counted_within}

-- from the copy of all words on to the end the worker holds what it held
pub left_at_end : (s0 s1 s2 s3 : Standing) → IsCopied s0 s1 → Exchanges [] [] s1 s2
    → Exchanges [] [] s2 s3 → (counted : ℕ) → IsTallied counted s3.known → IsLeft counted s0.known
left_at_end s0 s1 s2 s3 c t w counted told =
    let copied = still_there s0 s1 c.step in
    let unboxed = still copied (here copied t) in
    let all = still unboxed (here unboxed w) in
    record {
      last = s3.known;
      sizes = ap (λ (v : View). v.sizes) all.core;
      names = λ x. omega (arith, names_now all x, times-nil x);
      tree = λ x held. same_tree all x (inr held);
      tallied = told;
    }

-- what stands beside a test
passes : (b : Bool) (c : ℕ) → 0 < cond b c 0 → (b ≡ true) × (0 < c)
passes true c some = (refl, some)
passes false c some = absurd (omega arith)

-- an entry that is no constant is held where references stand on its name, and the name has its
-- tree
module _ (n : ℕ) (k : Known) (cs : List ℕ) (e : Entry) (two : 2 ≤ e.number) where
  in_stands : copies (holding_of n k cs) e ≡ cond (tree_eq e.tree (tree_of k e.number))
      (refs_of cs e.number) 0
  in_stands =
      let none : cond {A = ℕ} (nat_lt e.number 2) 1 0 ≡ 0 = ap (λ (b : Bool). cond {A = ℕ} b 1 0)
      (le-ltb e.number 2 two) in
      let all : copies (holding_of n k cs) e ≡ cond (nat_lt e.number 2) 1 0
      + cond (tree_eq e.tree (tree_of k e.number)) (refs_of cs e.number) 0 = copies_are n k cs e
      in
      omega (arith, none, all)

  pub in_has : IsIn (holding_of n k cs) e → (e.tree ≡ tree_of k e.number)
      × (0 < refs_of cs e.number)
  in_has has =
      let p = passes (tree_eq e.tree (tree_of k e.number)) (refs_of cs e.number)
      (omega (arith, has, in_stands)) in
      (tree_eq-true e.tree (tree_of k e.number) p.0, p.1)

  pub has_in : tree_of k e.number ≡ e.tree → 0 < refs_of cs e.number → IsIn (holding_of n k cs) e
  has_in is some =
      let same : cond {A = ℕ} (tree_eq e.tree (tree_of k e.number)) (refs_of cs e.number) 0
      ≡ refs_of cs e.number =
      ap (λ (b : Bool). cond {A = ℕ} b (refs_of cs e.number) 0) (ap (λ t. tree_eq e.tree t) is
      ∙ tree_eq_self e.tree) in
      omega (arith, in_stands, same)

-- names without references were given up before
module _ (old mid : Held) (s : Stays old mid) (known : IsKnown mid.worker.known) (gone : (x : ℕ)
    → get_or mid.counts.items x 0 ≢ 1) where
  is_once : (x : ℕ) → times x mid.worker.known.core.held ≤ 1
  is_once x = elim (dec_le 2 x) [
    | yes two ↦ omega (arith, mid.once.once x two, times-nil x)
    | no small ↦ elim (dec_le 1 (times x mid.worker.known.core.held)) [
      | yes some ↦
          absurd (small (known.slots x some))
      | no few ↦ omega arith
    ]
  ]

  held_refs : (x : ℕ) → 2 ≤ x → 0 < times x mid.worker.known.core.held
      → 0 < refs_of old.counts.items x
  held_refs x two some = omega (arith, mid.once.once x two, times-nil x, s.references x, gone x)

  refs_held : (x : ℕ) → 2 ≤ x → 0 < refs_of old.counts.items x
      → 0 < times x mid.worker.known.core.held
  refs_held x two some = omega (arith, mid.once.once x two, times-nil x, s.references x)

  pub told_at_end : (counted : ℕ) → IsLeft counted mid.worker.known → IsTold counted old
  told_at_end counted l = record {
    last = l.last;
    sizes = l.sizes ∙ s.seat.sizes;
    once = λ x. omega (arith, l.names x, is_once x);
    holds = λ e two. (
      (λ has.
          let p = in_has old.variables old.worker.known old.counts.items e two has in
          let some = refs_held e.number two p.1 in (
            omega (arith, l.names e.number),
            l.tree e.number some
                ∙ (s.tree e.number (let more = p.1 in omega arith) ∙ sym p.0),
          )),
      (λ p.
          let some : 0 < times e.number mid.worker.known.core.held = let first = p.0 in
          omega (arith, l.names e.number) in
          let refs = held_refs e.number two some in
          has_in old.variables old.worker.known old.counts.items e two
          (sym (s.tree e.number (omega arith)) ∙ (sym (l.tree e.number some) ∙ p.1)) refs),
    );
    tallied = l.tallied;
  }

-- where none is told, no slot has a count
none_step : (counts : List ℕ) (n x : ℕ) → above_zero counts 2 (suc n) ≡ 0 → x < suc n + 2
    → (above_zero counts 2 n ≡ 0 → x < n + 2 → get_or counts x 0 ≡ 0) → Dec (x ≡ 2 + n)
    → Dec (1 ≤ get_or counts x 0) → get_or counts x 0 ≡ 0
none_step counts n x none lt below (no other) _ = below (omega arith) (omega arith)
none_step counts n x none lt below (yes is) (no m) = omega arith
none_step counts n x none lt below (yes is) (yes some) =
    let one : (if◌then◌else◌ {A = ℕ} (ltb 0 (get_or counts (2 + n) 0)) 1 0) ≡ 1 =
    ap (λ (b : Bool). if◌then◌else◌ {A = ℕ} b 1 0) (lt-ltb 0 (get_or counts (2 + n) 0)
    (subst (λ (i : ℕ). 1 ≤ get_or counts i 0) is some)) in
    absurd (omega arith)

none_above : (counts : List ℕ) (n x : ℕ) → above_zero counts 2 n ≡ 0 → 2 ≤ x → x < n + 2
    → get_or counts x 0 ≡ 0
none_above counts zero x none two lt = absurd (omega arith)
none_above counts (suc n) x none two lt =
    none_step counts n x none lt (λ less few. none_above counts n x less two few)
    (ℕ_discrete x (2 + n)) (dec_le 1 (get_or counts x 0))

none_listed : (k : Known) (i : ℕ) (cs : List ℕ) → ((x : ℕ) → refs_of cs x ≡ 0) → listed k i cs ≡ []
none_listed k i [] none = refl
none_listed k i (c ∷ cs) none = rw (none 0) (none_listed k (i + 1) cs (λ x. none (suc x)))

-- so nothing was held: a name that is held is counted
pub none_held : (n : Held) → IsTold 0 n → (holding_in n).held ≡ []
unfolding holding_of
none_held n t = none_listed n.worker.known 0 n.counts.items one
  where
    c : IsCopy t.last t.tallied.words
    c = t.tallied.state

    free : (x : ℕ) → 2 ≤ x → times x t.last.core.held ≡ 0
    free x two = elim (dec_le 1 (times x t.last.core.held)) [
      | no few ↦ omega arith
      | yes some ↦ absurd (
          let above = held_counted t.last.core.sizes c.words c.homes c.views c.lawful c.id x
          t.last.core c.mine some in
          let within = counted_within c.words.counts x above in
          let sized = c.lawful.sized in
          let names = sized.counts in
          let slots = sized.some_names in
          omega (
            arith,
            none_above c.words.counts (t.last.core.sizes.names - 2) x
                (sym t.tallied.exact) two (omega arith),
          ))
    ]

    one : (x : ℕ) → refs_of n.counts.items x ≡ 0
    one x = elim (dec_le 1 (refs_of n.counts.items x)) [
      | no few ↦ omega arith
      | yes some ↦ absurd (
          elim (dec_le 2 x) [
            | yes two ↦ (
                let held = has_in n.variables n.worker.known n.counts.items (entry_in n.worker.known
                x) two refl some in
                omega (arith, free x two, ((t.holds (entry_in n.worker.known x) two).0 held).0))
            | no small ↦ omega (arith, n.once.constants x (omega arith))
          ])
    ]
