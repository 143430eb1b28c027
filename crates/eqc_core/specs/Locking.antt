-- A stripe's lock is taken, and with it the stripe's table; and let go.
use Rattle.std.specs.Prelude.{◌≡◌, ℕ, ◌<◌, [], sum_by, Some, None, Bool, eqb, get_or, set}
use mathlib.Core.Option.{some, none}
use Rattle.eqc_core.specs.View.{View, Hand, hand_of}
use Rattle.eqc_core.specs.Words.{Words}
use Rattle.eqc_core.specs.Tables.{Entries, Homes}
use Rattle.eqc_core.specs.Moves.{IsReady, with_lock}

abbrev pub MayLock : View → ℕ → Type 0
MayLock v s = IsReady v × (s < 16) × (v.hand ≡ None)

-- a try is won exactly where the lock is 0; one that is not won changes nothing
abbrev pub wins_lock : Words → ℕ → Bool
wins_lock w s = eqb (get_or w.locks s 0) 0

-- a won try sets the lock, and takes the stripe's table from its home
abbrev pub locked_words : Words → ℕ → Words
locked_words w s = with_lock w s 1

abbrev pub taken_out : Homes → ℕ → Homes
taken_out hs s = set hs s none

-- the stripe's table is now in hand, and the search for a free slot begins anew
abbrev pub locked : View → ℕ → Entries → View
locked v s t = record v { hand = Some (record { stripe = s; entries = t }); turn = []; stops = [] }

-- the event of a try says whether it was won, so that it tells what it changes
abbrev pub MayTryLock : Words → View → ℕ → Bool → Type 0
MayTryLock w v s won = MayLock v s × (wins_lock w s ≡ won)

-- two tables with the same entries, in any order: all sums over them are equal
abbrev pub SameEntries : Entries → Entries → Type 0
SameEntries t u = (f : ℕ × ℕ → ℕ) → sum_by f t ≡ sum_by f u

-- the table put home has the entries of the one in hand
abbrev pub MayUnlock : View → Hand → Entries → Type 0
MayUnlock v h t = IsReady v × (v.hand ≡ Some h) × SameEntries t h.entries

-- the event says which stripe goes home, and puts its table there as it is
abbrev pub MayPutHome : View → ℕ → Type 0
MayPutHome v i = MayUnlock v (hand_of v.hand) (hand_of v.hand).entries
    × ((hand_of v.hand).stripe ≡ i)

-- the table is put home, and the lock is cleared
abbrev pub unlocked_words : Words → Hand → Words
unlocked_words w h = with_lock w h.stripe 0

abbrev pub put_home : Homes → Hand → Entries → Homes
put_home hs h t = set hs h.stripe (some t)

abbrev pub unlocked : View → View
unlocked v = record v { hand = None }
