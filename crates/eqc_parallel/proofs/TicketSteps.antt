-- What the table asks of each step.
use Rattle.std.proofs.Common.{◌≡◌, ◌≢◌, ℕ, ◌+◌, ◌-◌, ◌%◌, ◌^◌, ◌<◌, List, [], ◌∷◌, length, set}
use Rattle.std.proofs.Common.{slice_index, slice_set, refl, sym, subst, ◌∙◌, arith, ⊎_elim}
use mathlib.Core.Option.{some, some-injective, some-ne-none}
use lib.ListN.{get_elem?}
use Rattle.atomic_table.specs.Table.{Me, Allows, Splits, Joins, Final, Seen, keeps}
use Rattle.atomic_table.proofs.Lists.{at_set}
use Rattle.eqc_parallel.specs.declared.ticket.View.{View}
use Rattle.eqc_parallel.specs.declared.ticket.Key.{Key}
use Rattle.eqc_parallel.specs.Ticket.{IsTicket, Counts, drew, halved, half, both, spent, IsAbove}
use Rattle.eqc_parallel.specs.Ticket.{strangers, times, once_below}
use Rattle.eqc_parallel.proofs.TicketCounts.{draws, splits, joins, account, above, has_room}

one_word : (ws : List ℕ) (m : ℕ) → length ws ≡ 1 → (length (slice_set ws 0 m) ≡ 1)
    × (slice_index (slice_set ws 0 m) 0 ≡ m)
one_word [] m e = absurd (omega arith)
one_word (x ∷ ws) m e = (e, refl)

module _ {S : Type 0} (k : Key) (slots id : ℕ) (me : Me S View) where
  pub draw_allows : strangers k.outputs me.0.drawn < me.0.seats
      → Allows (IsTicket k) slots id me 0 (λ n. (n + 1) % 2 ^ 64)
      (λ n after. (after ≡ (drew me.0 n, me.1)) × IsAbove n me.0.drawn)
  draw_allows room s h homes at word =
      let n = slice_index s.words 0 in
      let lt : n < k.outputs + k.seats = has_room k n s.views h.1 id me.0 at room in
      let next : (n + 1) % 2 ^ 64 ≡ n + 1 = let small = h.1.small in omega arith in
      let o = one_word s.words ((n + 1) % 2 ^ 64) h.0 in (
        drew me.0 n,
        keeps,
        tt,
        (
          o.0,
          subst (λ (m : ℕ). Counts k m (set s.views id (drew me.0 n))) (sym (o.1 ∙ next))
              (draws k n s.views h.1 id me.0 at room),
        ),
        (refl, above k n s.views h.1 id me.0 at),
      )

module _ {S : Type 0} (k : Key) (id : ℕ) (v : View) where
  pub split_allows : v.drawn ≡ [] → Splits {S = S} (IsTicket k) id v (halved v) (half v)
  split_allows none s h at = (h.0, splits k (slice_index s.words 0) s.views h.1 id v at none)

  pub join_allows : (other : ℕ) (o : View) → Joins {S = S} (IsTicket k) id v other o (both v o)
      spent
  join_allows other o s h at apart at' =
      let was : get_elem? s.views other ≡ some o =
      ⊎_elim (λ (p : (other ≡ id) × (both v o ≡ o)). absurd (apart p.0)) (λ (p : (other ≢ id)
      × (get_elem? s.views other ≡ some o)). p.1) (at_set s.views id other (both v o) o at') in
      (h.0, joins k (slice_index s.words 0) s.views h.1 id v at other o at' apart was)

  pub settles : (ws : List ℕ) (xs : List S) → v.seats ≡ k.seats
      → Final (Seen (IsTicket k) id v) ws xs →
      ((x : ℕ) → times x v.drawn ≡ once_below x (slice_index ws 0))
      × (strangers k.outputs v.drawn ≡ slice_index ws 0 - k.outputs)
  settles ws xs all f =
      let a = account k (slice_index f.0.words 0) f.0.views f.1.0.1 id v f.1.1 all in
      subst (λ (l : List ℕ). ((x : ℕ) → times x v.drawn ≡ once_below x (slice_index l 0))
      × (strangers k.outputs v.drawn ≡ slice_index l 0 - k.outputs)) f.2 a

pub word_zero : (ws : List ℕ) (n : ℕ) → get_elem? ws 0 ≡ some n → slice_index ws 0 ≡ n
word_zero [] n e = absurd (some-ne-none n (sym e))
word_zero (x ∷ ws) n e = some-injective x n e
