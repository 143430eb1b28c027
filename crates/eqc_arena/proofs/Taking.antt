-- What a try of an entry changes.
use Rattle.std.proofs.Common.{◌≡◌, ℕ, ◌+◌, ◌-◌, ◌*◌, ◌%◌, ◌^◌, ◌<◌, ◌≤◌, List, [], ◌∷◌, slice_get}
use Rattle.std.proofs.Common.{eqb, if◌then◌else◌, Option, Some, sym, ap, subst, ◌∙◌, arith}
use Rattle.std.specs.List.{swap_remove}
use native.Mathlib.Decide.{dec_le}
use Rattle.eqc_core.specs.View.{View, Hand, hand_of, phase_at}
use Rattle.eqc_core.specs.Announcing.{MayLook}
use Rattle.eqc_guard.specs.Sweeping.{IsScanned}
use Rattle.eqc_cache.specs.Storing.{IsAsBefore}
use Rattle.eqc_core.specs.Words.{slots_of, low_of, high_of}
use Rattle.eqc_core.specs.Tables.{Entries}
use Rattle.eqc_core.specs.Moves.{IsReady, IsQuiet}
use Rattle.eqc_core.specs.Counting.{downed}
use Rattle.eqc_core.specs.Making.{read_node, without_slot}
use Rattle.eqc_guard.specs.Known.{Known, IsKnown, IsHeld}
use Rattle.eqc_guard.specs.Standing.{Standing, Steps}
use Rattle.eqc_guard.specs.Telling.{Copies}
use Rattle.eqc_guard.specs.Making.{taken_back}
use Rattle.eqc_guard.specs.Locking.{MayHome}
use Rattle.eqc_guard.specs.Rule.{counts_from}
use Rattle.eqc_arena.specs.Changing.{MayBegin, Changes, Exchanges}
use Rattle.eqc_arena.specs.Taking.{GivesChild, TriesEntry}
use Rattle.eqc_arena.specs.Emptying.{IsTrying}
use Rattle.eqc_arena.proofs.Changing.{begins, reads, empties, scans, here, ready_now, reclaims}
use Rattle.eqc_arena.proofs.Changing.{hand_now, draft_now, still, held_still, after_still, goes}
use Rattle.eqc_arena.proofs.Changing.{came_held}
use Rattle.eqc_arena.proofs.References.{gives}
use Rattle.eqc_arena.proofs.Entries.{home_after, home_stays}
use Rattle.eqc_arena.proofs.Emptying.{trying_read, trying_won, trying_given}

-- a change, told with what is in hand afterwards
pub with_hand : {gone came : List ℕ} {hand : Option Hand} {draft : Option ℕ} {old new : Standing}
    → Changes gone came hand draft old new → Changes gone came new.known.core.hand draft old new
with_hand {gone} {came} {hand} {draft} {old} {new} t =
    subst (λ (h : Option Hand). Changes gone came h draft old new) (sym (hand_now t)) t

-- a node was taken back, and its children are given back
module _ (word x low high : ℕ) (w0 w1 : Standing) (step : Steps w0 (taken_back w0.known.core x word)
    w1) (a : low ≡ low_of word) (z : high ≡ high_of word) where
  taken : Changes [] (slots_of (low ∷ high ∷ [])) w1.known.core.hand w0.known.core.draft w0 w1
  taken =
      with_hand
      (subst
      (λ (l : List ℕ). Changes [] (slots_of l)
      (Some (record (hand_of w0.known.core.hand) {
        entries =
            without_slot x (hand_of w0.known.core.hand).entries;
      })) w0.known.core.draft w0 w1)
      (λ k. sym a k ∷ sym z k ∷ []) (reclaims x word (hand_of w0.known.core.hand) w0 w1 step))

  pub low_now : IsHeld w1.known.core low
  low_now = came_held low (high ∷ []) taken

module _ (word x low high : ℕ) (w0 w1 w2 : Standing) (step : Steps w0 (taken_back w0.known.core x
    word) w1) (a : low ≡ low_of word)
    (z : high ≡ high_of word) (first : Exchanges (slots_of (low ∷ [])) [] w1 w2) where
  one_given : Changes [] (slots_of (high ∷ [])) w1.known.core.hand w0.known.core.draft w0 w2
  one_given = goes low (high ∷ []) (taken word x low high w0 w1 step a z) first

  pub high_held : IsHeld w2.known.core high
  high_held = came_held high [] one_given

module _ (word x low high : ℕ) (w0 w1 w2 w3 : Standing) (step : Steps w0 (taken_back w0.known.core x
    word) w1) (a : low ≡ low_of word)
    (z : high ≡ high_of word) (first : Exchanges (slots_of (low ∷ [])) [] w1 w2)
    (second : Exchanges (slots_of (high ∷ [])) [] w2 w3) where
  pub both_given : Changes [] [] w1.known.core.hand w0.known.core.draft w0 w3
  both_given = goes high [] (one_given word x low high w0 w1 w2 step a z first) second

  pub ready_between : IsReady w0.known.core → IsReady w1.known.core × IsReady w2.known.core
  ready_between ready = (
    ready_now (taken word x low high w0 w1 step a z) ready,
    ready_now (one_given word x low high w0 w1 w2 step a z first) ready,
  )

  pub home_again : (t left : Entries) (i : ℕ) → IsKnown w0.known → slice_get t i ≡ Some (word, x)
      → left ≡ swap_remove t i (word, x) → (s : ℕ) →
      MayHome w0.known.core s t → MayHome w3.known.core s left
  home_again t left i known at is s home =
      let m = home_after s i word x t (word, x) w0 w1 known home at step in
      subst (λ (l : Entries). MayHome w3.known.core s l) (sym is)
      (home_stays s (swap_remove t i (word, x)) w1.known.core w3.known.core (hand_now both_given)
      (ap (λ (v : View). v.position) both_given.core
      ∙ sym (ap (λ (v : View). v.position) step.known.core)) m)

  -- an entry of the stripe h in hand was taken back, in a turn that tries these
  module _ (count found n s i j h k : ℕ) (t u : Entries) (one : count ≡ 1)
      (copies : Copies w0.known (counts_from w0.known.core.sizes + x) count (if eqb count 1 then 0
      else count) w1.known)
      (gives : GivesChild low w1 w2) (gives_2 : GivesChild high w2 w3)
      (home : MayHome w0.known.core h u) (at : slice_get u k ≡ Some (word, x)) (next : j ≤ i + 1)
    where
      pub tries_won : IsTrying [] n s found j t w0.known
          → IsTrying [] n s (found + 1) i (swap_remove t i (word, x)) w3.known
      tries_won tr =
          let won = trying_won n s found i j t h k u word x w0 w1 tr next home at (found + 1) low high
          count (word, x) (omega arith) one a z step copies in
          let after = gives n s (found + 1) i (high ∷ []) (swap_remove t i (word, x)) (omega arith)
          won in
          gives_2 n s (found + 1) i [] (swap_remove t i (word, x)) (omega arith) after

-- one change after another, in which nothing goes or comes
pub goes_on : {hand hand' : Option Hand} {draft : Option ℕ} {old mid new : Standing}
    → Changes [] [] hand draft old mid →
    Changes [] [] hand' mid.known.core.draft mid new → Changes [] [] hand' draft old new
goes_on {hand} {hand'} {draft} {old} {mid} {new} t u =
    still t (subst (λ (d : Option ℕ). Changes [] [] hand' d mid new) (draft_now t) u)

-- what is tried of the entry behind the place i counts more
pub next_try : (n s before more won i : ℕ) (t left : Entries) (old new : Standing) → 0 < i
    → before + won ≡ more →
    TriesEntry (i - 1) t left won old new → MayHome old.known.core s t
    → IsTrying [] n s before i t old.known →
    IsTrying [] n s more (i - 1) left new.known
next_try n s before more won i t left old new lt sum tries home trying =
    subst (λ (m : ℕ). IsTrying [] n s m (i - 1) left new.known) sum (tries n s before home
    (subst (λ (j : ℕ). IsTrying [] n s before j t old.known) (let e : i ≡ i - 1 + 1 =
    omega arith in e) trying))

-- where a call may begin, the cells may be emptied, of which there are some
pub may_clear : (k : Known) → IsKnown k → MayBegin k.core → 0 < k.core.sizes.cells
    → MayLook k.core 0 0
may_clear k known rest cells = (
  rest.ready,
  go (dec_le 1 k.core.sizes.announcements),
  cells,
  rest.quiet,
)
  where
    go : Dec (1 ≤ k.core.sizes.announcements) → 0 < k.core.sizes.announcements
    go (yes lt) = lt
    go (no n) = absurd (let zero : k.core.sizes.announcements ≡ 0 = omega arith in let e =
        ap {B = ℕ} (λ (a : ℕ). k.core.sizes.workers * a) zero in let place = known.place in
        omega arith)

-- the cells were emptied, and a scan made
pub cleared : (old mid new : Standing) → MayBegin old.known.core → IsAsBefore old mid
    → IsScanned mid new → Exchanges [] [] old new
cleared old mid new rest before scan =
    let t = empties old mid before in
    still t (here t (scans mid new before.known (ready_now t rest.ready) scan))

-- and announces nothing when the cells were emptied
pub quiet_cleared : (old mid : Standing) → MayBegin old.known.core → IsAsBefore old mid
    → IsQuiet (phase_at mid.known.core 0)
quiet_cleared old mid rest before = (begins rest (empties old mid before)).quiet

-- a child that is a constant is given back
pub constant_gives : (x : ℕ) (old new : Standing) → x < 2 → new ≡ old → GivesChild x old new
constant_gives x old new small same n s taken i xs t some_taken tr =
    trying_given n s taken i x xs t old new tr some_taken (λ lt. same) (λ two. absurd (omega arith))
    (λ two. absurd (omega arith))

-- and one that is a slot, whose node is read before
module _ (x word place m : ℕ) (old mid new : Standing) (two : 2 ≤ x) (held : IsHeld old.known.core
    x)
    (read : Steps old (read_node old.known.core x word) mid)
    (down : Steps mid (downed mid.known.core x) new) where
  pub slot_held : IsHeld mid.known.core x
  slot_held = held_still (reads x word old mid read) x held

  pub slot_goes : Exchanges (slots_of (x ∷ [])) [] old new
  slot_goes =
      let t = reads x word old mid read in
      after_still t (gives x mid new t.known slot_held (λ small. absurd (omega arith)) (λ le. down))

  pub slot_gives : Copies old.known place word word mid.known
      → Copies mid.known (counts_from mid.known.core.sizes + x) m ((m + (2 ^ 64 - 1)) % 2 ^ 64)
      new.known → GivesChild x old new
  slot_gives first second n s taken i xs t some_taken tr =
      trying_given n s taken i x xs t mid new (trying_read (slots_of (x ∷ xs)) n s taken i x word
      place t old mid tr read first) some_taken
      (λ small. absurd (omega arith)) (λ le. down) (λ le. (m, second))
