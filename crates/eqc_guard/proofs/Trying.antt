-- A try after a load of its word, told of the worker before the load.
use Rattle.std.proofs.Common.{◌≡◌, ℕ, ◌+◌, List, Option, Bool, if◌then◌else◌, eq-eqb, ap, subst}
use Rattle.std.proofs.Common.{◌∙◌}
use Rattle.eqc_core.specs.View.{View}
use Rattle.eqc_core.specs.Moves.{note}
use Rattle.eqc_guard.specs.Known.{Known}
use Rattle.eqc_guard.specs.Standing.{Standing, Steps}
use Rattle.eqc_guard.specs.Telling.{Copies, copied}
use Rattle.eqc_guard.specs.Making.{spotted}
use Rattle.eqc_guard.specs.Rule.{counts_from}
use Rattle.eqc_guard.proofs.Locking.{copy_stays}

-- a slot that is free leaves the view
pub spotted_free : (v : View) (x n : ℕ) → n ≡ 0 → spotted v x n ≡ v
spotted_free v x n free = ap (λ (b : Bool). record v { turn = if b then v.turn else note x v.turn })
    (eq-eqb n 0 free)

-- a load leaves the copy for the step that comes next
copies_on : (k mid after : Known) (i n found left : ℕ) → Copies k i n n mid
    → Copies mid i found left after → Copies k i found left after
copies_on k mid after i n found left load next =
    let same = copy_stays k mid i n load in
    record {
      copy = next.copy ∙ ap (λ (o : Option (List ℕ)). copied o i left) same;
      seen =
          λ ws has. next.seen ws (same ∙ has);
    }

-- a count was loaded, and then tried
pub count_on : (old mid new : Standing) (x n found left : ℕ) → Steps old old.known.core mid
    → Copies old.known (counts_from old.known.core.sizes + x) n n mid.known
    → Copies mid.known (counts_from mid.known.core.sizes + x) found left new.known
    → Copies old.known (counts_from old.known.core.sizes + x) found left new.known
count_on old mid new x n found left loads load next = copies_on old.known mid.known new.known
    (counts_from old.known.core.sizes + x) n found left load
    (subst (λ (v : View). Copies mid.known (counts_from v.sizes + x) found left new.known)
    loads.known.core next)
