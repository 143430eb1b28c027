-- What is taken back in the end changes no result, and no reason to stop.
use Rattle.std.proofs.Common.{ℕ, Result, Ok, Err, IfOk, IfErr, inl, inr}
use Rattle.std.proofs.lemmas.Result.{IfOk-weaker}
use Rattle.eqc_tree.specs.declared.operation.Op.{Op}
use Rattle.eqc_tree.specs.declared.stopping.Stop.{Stop}
use Rattle.eqc_tree.specs.declared.stopping.Stop.TheVariants.{NodeLimit, Memory, References}
use Rattle.eqc_tree.specs.declared.stopping.Stop.TheVariants.{Threads}
use Rattle.eqc_plain.proofs.Combining.{result_stays}
use Rattle.eqc_arena.specs.Unboxing.{KeepsMarks}
use Rattle.eqc_apply.specs.declared.held.Held.{Held}
use Rattle.eqc_apply.specs.Combining.{IsResult}
use Rattle.eqc_apply.specs.Extending.{Extends}
use Rattle.eqc_apply.specs.Stopping.{HasMet, HasStopped}
use Rattle.eqc_apply.proofs.Meanings.{names_stay}
use Rattle.eqc_apply.proofs.Handing.{met_stays}
use Rattle.eqc_plain.proofs.Spending.{spent_stays}

pub results_stay : (old new : Held) (op : Op) (f g : ℕ) (o : Result ℕ Stop) → Extends old new →
    IfOk o (λ x. IsResult old.variables op old.worker.known f g x)
    → IfOk o (λ x. IsResult new.variables op new.worker.known f g x)
results_stay old new op f g o e = IfOk-weaker o _ _ (λ x r. result_stays (names_stay old new e) r)

-- what came out of a box is a reason to stop
pub met_stopped : (s : Stop) (n : Held) → HasMet s n.worker.known.core → HasStopped s n
met_stopped NodeLimit n full = inl full
met_stopped Memory n h = tt
met_stopped References n h = h
met_stopped Threads n h = h

stopped_stays : (s : Stop) (old new : Held) → Extends old new
    → KeepsMarks old.worker.known.core new.worker.known.core → HasStopped s old → HasStopped s new
stopped_stays NodeLimit old new e k (inl full) =
    inl (met_stays NodeLimit old.worker.known.core new.worker.known.core k full)
stopped_stays NodeLimit old new e k (inr spent) =
    inr (spent_stays old.turns new.turns e.turns spent)
stopped_stays Memory old new e k h = tt
stopped_stays References old new e k h = met_stays References old.worker.known.core
    new.worker.known.core k h
stopped_stays Threads old new e k h = h

pub stops_stay : (o : Result ℕ Stop) (old new : Held) → Extends old new
    → KeepsMarks old.worker.known.core new.worker.known.core
    → IfErr o (λ s. HasStopped s old) → IfErr o (λ s. HasStopped s new)
stops_stay (Ok x) old new e k h = tt
stops_stay (Err s) old new e k h = stopped_stays s old new e k h
