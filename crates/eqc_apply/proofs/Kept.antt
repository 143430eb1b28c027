-- The private cells, and what was kept in them.
use Rattle.std.proofs.Common.{ℕ, List, Option, IfSome}
use Rattle.eqc_tree.specs.declared.operation.Op.{Op}
use Rattle.eqc_plain.specs.Cells.{IsKept, HasNoMore, MayHave}
use Rattle.eqc_plain.specs.Cache.{IsCache}
use Rattle.eqc_plain.proofs.Combining.{result_stays, stays_trans}
use Rattle.eqc_plain.proofs.Caching.{cache_stays, found_right, no_more_right, kept_right}
use Rattle.eqc_guard.specs.Known.{Known}
use Rattle.eqc_apply.specs.declared.held.Held.{Held}
use Rattle.eqc_apply.specs.Extending.{Extends}
use Rattle.eqc_apply.specs.Combining.{IsResult}
use Rattle.eqc_apply.specs.Meaning.{meaning_of, kept_of}
use Rattle.eqc_apply.proofs.Meanings.{from_kept, to_kept, names_stay}

-- what was found is right
pub found : (variables : ℕ) (k : Known) (cells : List ℕ) (op : Op) (f g : ℕ) (o : Option ℕ)
    → IsCache (kept_of variables k) cells →
    IfSome o (IsKept cells op f g) → IfSome o (λ x. IsResult variables op k f g x)
found variables k cells op f g o c is = found_right (meaning_of variables k) cells op f g o
    (cache_stays (kept_of variables k) (meaning_of variables k) cells (from_kept variables k) c) is

-- cells that grew, and in which a right result was kept, are right
pub kept : (variables : ℕ) (k : Known) (old mid new : List ℕ) (op : Op) (f g x : ℕ)
    → HasNoMore old mid → MayHave op f g x mid new →
    IsResult variables op k f g x → IsCache (kept_of variables k) old
    → IsCache (kept_of variables k) new
kept variables k old mid new op f g x more may right c =
    kept_right (kept_of variables k) mid new op f g x may (result_stays (to_kept variables k) right)
    (no_more_right (kept_of variables k) old mid more c)

-- cells stay right while names stay
pub cells_stay : (old new : Held) (cells : List ℕ) → Extends old new
    → IsCache (kept_of old.variables old.worker.known) cells
    → IsCache (kept_of new.variables new.worker.known) cells
cells_stay old new cells e c =
    cache_stays (kept_of old.variables old.worker.known) (kept_of new.variables new.worker.known)
    cells
    (stays_trans (from_kept old.variables old.worker.known) (stays_trans (names_stay old new e)
    (to_kept new.variables new.worker.known))) c
