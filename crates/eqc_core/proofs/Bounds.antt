-- What a scan leaves, where a split's view comes, who is alone, and which fields a written word
-- has.
use Rattle.std.proofs.Common.{◌≡◌, ◌≢◌, ℕ, suc, ◌+◌, ◌%◌, ◌^◌, ◌<◌, ◌≤◌, List, [], ◌∷◌, ◌++◌}
use Rattle.std.proofs.Common.{length, set, ltb, Bool, true, false, if◌then◌else◌, eq-eqb, refl, sym}
use Rattle.std.proofs.Common.{ap, ◌∙◌, arith, inl, inr, length-append}
use Rattle.std.proofs.lemmas.Bool.{ltb-true}
use Rattle.std.proofs.lemmas.List.{set-append_left}
use mathlib.Core.Option.{some}
use lib.ListN.{get_elem?}
use Rattle.eqc_tree.specs.Word.{node_word}
use Rattle.eqc_core.specs.declared.sizes.Sizes.{Sizes}
use Rattle.eqc_core.specs.View.{View, Hand, unused, fresh, view_at, grown}
use Rattle.eqc_core.specs.Words.{Words, announced_words, times, variable_of, low_of, high_of}
use Rattle.eqc_core.specs.Words.{children, stripe_of}
use Rattle.eqc_core.specs.Tables.{Homes}
use Rattle.eqc_core.specs.Lawful.{Lawful, numbers_out, is_active}
use Rattle.eqc_core.specs.Moves.{IsReady, without, note}
use Rattle.eqc_core.specs.Scanning.{kept, ejected, scan_on, scan_end, scanned}
use Rattle.eqc_core.specs.Seating.{MaySplit, splitter, split}
use Rattle.eqc_core.specs.Making.{MayWriteNode}
use Rattle.eqc_core.specs.Facts.{KeepsNames, HasFields}
use Rattle.eqc_core.proofs.Sums.{at_le_sum}
use Rattle.eqc_core.proofs.Lists.{at_below, at_get, get_past, same_at}
use Rattle.eqc_core.proofs.Names.{times-append, times-nil, length-without_one}
use Rattle.eqc_core.proofs.Scanning.{some_cases, length_note, length_kept, kept_ejected}
use Rattle.eqc_core.proofs.Splitting.{split_at_end}

-- one retired entry at most stays for each noted name
pub kept_few : (noted xs : List ℕ) → length (kept noted xs) ≤ length noted
kept_few noted [] = omega arith
kept_few noted (y ∷ xs) =
    elim (some_cases (times y noted)) [
      | inl t ↦ rw t.0 (omega (
        arith,
        kept_few (without y noted) xs,
        length-without_one y noted
            t.1,
      ))
      | inr t ↦ rw t.0 (kept_few noted xs)
    ]

pub fields : (variable low high : ℕ) → low < 2 ^ 20 → high < 2 ^ 20 → HasFields variable low high
unfolding variable_of low_of high_of
fields variable low high l g = record {
  variable_is = omega arith;
  low_is = omega arith;
  high_is =
      omega arith;
}

end_keeps : (v : View) (name : ℕ) → KeepsNames v (scan_end v name)
end_keeps v name =
    let all : List ℕ = note name v.noted in
    record {
      names = λ x. omega (
        arith,
        times-append x v.held (ejected (note name v.noted) v.retired),
        kept_ejected x (note name v.noted) v.retired,
      );
      held = λ x. omega (arith, times-append x v.held (ejected (note name v.noted) v.retired));
      lengths = omega (
        arith,
        length-append v.held (ejected (note name v.noted) v.retired),
        length_kept (note name v.noted) v.retired,
      );
    }

pub scans_keep_names : (v : View) (name : ℕ) → KeepsNames v (scanned v name)
scans_keep_names v name = go (ltb (v.position + 1) (announced_words v.sizes))
  where
    go : (b : Bool) → KeepsNames v (if b then scan_on v name else scan_end v name)
    go true = record { names = λ x. refl; held = λ x. omega arith; lengths = refl }
    go false = end_keeps v name

module _ (z : Sizes) (w : Words) (hs : Homes) (vs : List View) (id : ℕ) (v : View)
    (law : Lawful z w hs vs) (at : get_elem? vs id ≡ some v) (on : v.active ≡ true) where
  pub scans_leave_few : (name : ℕ) → v.position + 1 ≡ announced_words z
      → length (scanned v name).retired ≤ announced_words z
  scans_leave_few name last = go (ltb (v.position + 1) (announced_words v.sizes)) refl
    where
      size : announced_words v.sizes ≡ announced_words z
      size = ap announced_words (law.views id v at on).sizes

      go : (b : Bool) → ltb (v.position + 1) (announced_words v.sizes) ≡ b
          → length (if b then scan_on v name else scan_end v name).retired ≤ announced_words z
      go true e = absurd (let lt = ltb-true (v.position + 1) (announced_words v.sizes) e in
          omega (arith, size))
      go false e = let n = (law.views id v at on).noted in
          omega (arith, kept_few (note name v.noted) v.retired, length_note name v.noted)

  -- worker 0 is the first view, and knows how many there are
  first_is : v.number ≡ 0 → (id ≡ 0) × (v.given ≡ length vs)
  first_is zero_is =
      let here : id ≡ 0 = sym (law.views id v at on).number ∙ zero_is in
      let first = law.seated.first in
      let same : first.0 ≡ v = same_at vs 0 id first.0 v first.1 at (sym here) in
      (here, sym (ap (λ (t : View). t.given) same) ∙ first.3)

  pub splits_come_last : IsReady v → v.number ≡ 0 → v.given < v.sizes.workers
      → MaySplit vs v v.given × (split vs id v v.given ≡ set vs id (splitter v v.given)
      ++ fresh v.sizes v.given ∷ [])
  splits_come_last ready zero_is few =
      let given = (first_is zero_is).1 in
      let at_end : set (grown vs (suc v.given)) v.given (fresh v.sizes v.given) ≡ vs
      ++ fresh v.sizes v.given ∷ [] =
      ap (λ (k : ℕ). set (grown vs (suc k)) k (fresh v.sizes v.given)) given
      ∙ split_at_end vs (fresh v.sizes v.given) in (
        (ready, zero_is, few, get_past vs v.given unused (omega arith)),
        ap (λ (l : List View). set l id (splitter v v.given)) at_end
            ∙ set-append_left vs (fresh v.sizes v.given ∷ []) id (splitter v v.given)
            (at_below vs id v at),
      )

  pub nothing_out_is_alone : (j : ℕ) (u : View) → v.number ≡ 0 → v.out ≡ []
      → get_elem? vs j ≡ some u → (j ≡ id → ⊥) → u.active ≡ false
  nothing_out_is_alone j u zero_is none there apart = go u.active refl
    where
      go : (b : Bool) → u.active ≡ b → u.active ≡ false
      go false e = e
      go true e =
          let here : id ≡ 0 = (first_is zero_is).0 in
          let pos : 0 < j = let n : j ≢ 0 = λ q. apart (q ∙ sym here) in omega arith in
          let out : times j (numbers_out vs) ≡ 0 =
          ap (λ (k : ℕ). times j (view_at vs k).out) (sym here)
          ∙ (ap (λ (t : View). times j t.out) (at_get vs id v unused at)
          ∙ (ap (times j) none ∙ times-nil j)) in
          let one : is_active j u ≡ 1 = rw (e, eq-eqb u.number j (law.views j u there e).number)
          refl in
          absurd (omega (arith, law.seated.out j pos, at_le_sum (is_active j) vs j u there))

  pub written_fields : (d variable low high : ℕ) (h : Hand)
      → MayWriteNode w.nodes v d h variable low high → HasFields variable low high
  written_fields d variable low high h may =
      let size = (law.views id v at on).sizes in
      let names : v.sizes.names ≤ 2 ^ 20 = let e = ap (λ (y : Sizes). y.names) size in let n =
      law.sized.few_names in omega arith in
      let l = may.low_there in
      let g = may.high_there in
      fields variable low high (omega arith) (omega arith)

-- the stripe and the children of a node of these fields
pub node_stripe : (variable low high : ℕ) → low < 2 ^ 20 → high < 2 ^ 20
    → stripe_of (node_word variable low high) ≡ (variable + low + high) % 16
unfolding stripe_of
node_stripe variable low high l h = let f = fields variable low high l h in let a = f.variable_is in
    let b = f.low_is in let c = f.high_is in ap (λ (n : ℕ). n % 16) (omega arith)

pub node_children : (variable low high : ℕ) → low < 2 ^ 20 → high < 2 ^ 20
    → children (node_word variable low high) ≡ low ∷ high ∷ []
node_children variable low high l h = let f = fields variable low high l h in λ i. f.low_is i
    ∷ f.high_is i ∷ []
