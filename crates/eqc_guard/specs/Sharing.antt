-- What is put into a box and comes out of it: a task, a result or a stop, with its references.
use Rattle.std.specs.Prelude.{◌≡◌, ◌≢◌, ℕ, ◌+◌, ◌*◌, ◌^◌, ◌<◌, ◌≤◌, ◌⊎◌, List, [], ◌∷◌, length}
use Rattle.std.specs.Prelude.{Some, Bool}
use Rattle.eqc_tree.specs.Tree.{value}
use Rattle.eqc_tree.specs.Operation.{operate, tag_of}
use Rattle.eqc_tree.specs.Word.{cell_word}
use Rattle.eqc_tree.specs.declared.operation.Op.{Op}
use Rattle.eqc_tree.specs.declared.stopping.Stop.{Stop}
use Rattle.eqc_tree.specs.declared.stopping.Stop.TheVariants.{NodeLimit, Memory, References}
use Rattle.eqc_tree.specs.declared.stopping.Stop.TheVariants.{Threads}
use Rattle.eqc_core.specs.Words.{operation_of, first_of, second_of, result_of, cell_names, slots_of}
use Rattle.eqc_core.specs.Trees.{IsTask, IsStop}
use Rattle.eqc_core.specs.Moves.{IsReady, AreHeld}
use Rattle.eqc_guard.specs.declared.parcel.Parcel.{Parcel}
use Rattle.eqc_guard.specs.declared.parcel.Parcel.TheVariants.{Empty, Task, Done, Stopped}
use Rattle.eqc_guard.specs.Known.{Known, tree_of}
use Rattle.eqc_guard.specs.Telling.{IsRightHere}
use Rattle.eqc_guard.specs.Filling.{AreSmall, HasEntry}

-- the number of a stop in a box; one for want of threads is in none
abbrev pub number_of : Stop → ℕ
number_of References = 13
number_of NodeLimit = 14
number_of Memory = 15
number_of Threads = 0

-- the word of a box that has the parcel
abbrev pub parcel_word : Parcel → ℕ
parcel_word Empty = 0
parcel_word (Task op f g) = cell_word (tag_of op + 4) f.number g.number 0
parcel_word (Done e) = cell_word (tag_of e.op) e.f.number e.g.number e.r.number
parcel_word (Stopped stop f g) = cell_word (number_of stop) f.number g.number 0

-- the names that it has, but for the constants
abbrev pub parcel_names : Parcel → List ℕ
parcel_names Empty = []
parcel_names (Task op f g) = slots_of (f.number ∷ g.number ∷ [])
parcel_names (Done e) = slots_of (e.r.number ∷ e.f.number ∷ e.g.number ∷ [])
parcel_names (Stopped stop f g) = slots_of (f.number ∷ g.number ∷ [])

-- the number of its stop, which its taker notes
abbrev pub parcel_stops : Parcel → List ℕ
parcel_stops Empty = []
parcel_stops (Task op f g) = []
parcel_stops (Done e) = []
parcel_stops (Stopped stop f g) = number_of stop ∷ []

-- its numbers fit their fields, and its stop is one that a box may have
abbrev pub IsWhole : Parcel → Type 0
IsWhole Empty = Unit {0}
IsWhole (Task op f g) = (f.number < 2 ^ 20) × (g.number < 2 ^ 20)
IsWhole (Done e) = AreSmall (Some e)
IsWhole (Stopped stop f g) = (f.number < 2 ^ 20) × (g.number < 2 ^ 20) × (stop ≢ Threads)

-- a result is right by the trees that the worker knows
abbrev pub IsGenuine : Known → Parcel → Type 0
IsGenuine k Empty = Unit {0}
IsGenuine k (Task op f g) = Unit {0}
IsGenuine k (Done e) = (a : ℕ → Bool) → operate e.op (value (tree_of k e.f.number) a)
    (value (tree_of k e.g.number) a) ≡ value (tree_of k e.r.number) a
IsGenuine k (Stopped stop f g) = Unit {0}

-- the worker has a parcel to give: it holds each of its names as often as the parcel has it, and a
-- result is right
abbrev pub HasParcel : Known → Parcel → Type 0
HasParcel k Empty = Unit {0}
HasParcel k (Task op f g) = AreHeld (f.number ∷ g.number ∷ []) k.core.held
HasParcel k (Done e) = HasEntry k (Some e)
HasParcel k (Stopped stop f g) = AreHeld (f.number ∷ g.number ∷ []) k.core.held × (stop ≢ Threads)

-- a worker may put a parcel into a box
pub record MayPut (k : Known) (b : ℕ) (parcel : Parcel) : Type 0 where
  pub ready : IsReady k.core
  pub there : b < 16 * k.core.sizes.workers
  pub parcel_is : HasParcel k parcel
  pub room : length k.core.held ≤ 2 ^ 39

-- a word of a box is empty, a result, a task or a stop
abbrev pub IsParcelWord : ℕ → Type 0
IsParcelWord word = (word ≡ 0) ⊎ (((op : Op) × (operation_of word ≡ tag_of op))
    ⊎ (IsTask word ⊎ IsStop word))

-- what a swap tells of the word that came out: it is a parcel's, and a result is right by the trees
-- that are known then
pub record Receives (n : ℕ) (k : Known) : Type 0 where
  pub parcel : IsParcelWord n
  pub right : (op : Op) → operation_of n ≡ tag_of op → (a : ℕ → Bool)
      → operate op (value (tree_of k (first_of n)) a) (value (tree_of k (second_of n)) a)
      ≡ value (tree_of k (result_of n)) a

-- a worker may put the word into a box: it holds the word's names, and knows that a result is right
pub record MayPutWord (k : Known) (b word : ℕ) : Type 0 where
  pub ready : IsReady k.core
  pub there : b < 16 * k.core.sizes.workers
  pub right : ((word ≡ 0) ⊎ IsRightHere k word) ⊎ (IsTask word ⊎ IsStop word)
  pub held : AreHeld (cell_names word) k.core.held
  pub room : length k.core.held ≤ 2 ^ 39
