-- What a worker knows: its view of the machine, the trees of the names that it names, a copy of the
-- words where nobody else is active, and how many steps up and down it has made.
use Rattle.std.specs.Prelude.{◌≡◌, ℕ, ◌*◌, ◌^◌, ◌<◌, ◌≤◌, ◌⊎◌, List, [], ◌∷◌, ◌++◌, length, eqb}
use Rattle.std.specs.Prelude.{if◌then◌else◌, Option, Some, None, false}
use mathlib.Core.Option.{some}
use lib.ListN.{get_elem?}
use Rattle.std.specs.Coded.{coded_option}
use base.Stored.{Coded, coded×, coded_ℕ, coded_list, coded_via}
use Rattle.eqc_tree.specs.Tree.{Tree, False, True, IsCanonical}
use Rattle.eqc_tree.specs.CodedTree.{coded_tree}
use Rattle.eqc_core.specs.declared.phase.Phase.{Phase}
use Rattle.eqc_core.specs.declared.phase.Phase.TheVariants.{Idle, Seen, Announced, Confirmed}
use Rattle.eqc_core.specs.declared.phase.Phase.TheVariants.{Missed}
use Rattle.eqc_core.specs.View.{View, Hand, Read, spent}
use Rattle.eqc_core.specs.Words.{Words, announced_words, times, children, stripe_of}
use Rattle.eqc_core.specs.Tables.{Homes, table_has}
use Rattle.eqc_core.specs.Trees.{IsTree}
use Rattle.eqc_core.specs.Lawful.{IsNamed as IsPlaced, Lawful}
use Rattle.eqc_guard.specs.Coding.{view_coded}

pub record Known : Type 0 where
  pub core : View
  pub trees : List (ℕ × Tree)
  pub copy : Option (List ℕ)
  -- how many steps up and down the worker has made: what it does without one of them leaves this
  -- number
  pub counted : ℕ

abbrev pub known_coded : Coded Known
known_coded =
    coded_via (coded× view_coded (coded× (coded_list (coded× coded_ℕ coded_tree))
    (coded× (coded_option (coded_list coded_ℕ)) coded_ℕ))) (λ (k : Known). (
      k.core,
      (k.trees, (k.copy, k.counted)),
    ))
    (λ x y e i. record {
      core = (e i).0;
      trees = (e i).1.0;
      copy = (e i).1.1.0;
      counted =
          (e i).1.1.1;
    })

abbrev pub nobody : Known
nobody = record { core = spent; trees = []; copy = None; counted = 0 }

-- the tree kept beside a name
abbrev pub kept_tree : List (ℕ × Tree) → ℕ → Tree
kept_tree [] x = False
kept_tree (p ∷ ps) x = if eqb p.0 x then p.1 else kept_tree ps x

-- the tree of a constant, or the one kept
abbrev pub tree_in : List (ℕ × Tree) → ℕ → Tree
tree_in ps x = if eqb x 0 then False else (if eqb x 1 then True else kept_tree ps x)

abbrev pub tree_of : Known → ℕ → Tree
tree_of k x = tree_in k.trees x

abbrev pub confirmed_name : Phase → List ℕ
confirmed_name Idle = []
confirmed_name (Seen c word) = []
confirmed_name (Announced c word) = []
confirmed_name (Confirmed x) = x ∷ []
confirmed_name (Missed x) = []

abbrev pub confirmed_names : List Phase → List ℕ
confirmed_names [] = []
confirmed_names (p ∷ ps) = confirmed_name p ++ confirmed_names ps

abbrev pub read_names : Option Read → List ℕ
read_names None = []
read_names (Some r) = children r.word

-- the names whose trees the worker knows: held, retired, confirmed, and the children last read
unfoldable pub names_of : View → List ℕ
names_of v = v.held ++ (v.retired ++ (confirmed_names v.phases ++ read_names v.read))

-- each has the tree that the node words have
abbrev pub Knows : List ℕ → Known → Type 0
Knows nodes k = (x : ℕ) → 2 ≤ x → 0 < times x (names_of k.core) → IsTree nodes (tree_of k x) x

-- no other tree is kept: not of another name, and not a second one that the node words do not have
abbrev pub IsExact : List ℕ → Known → Type 0
IsExact nodes k = (i : ℕ) (p : ℕ × Tree) → get_elem? k.trees i ≡ some p → (2 ≤ p.0)
    × (0 < times p.0 (names_of k.core)) × IsTree nodes p.1 p.0

-- a constant, or a name that is held
abbrev pub IsHeld : View → ℕ → Type 0
IsHeld v x = (x < 2) ⊎ (0 < times x v.held)

-- a constant, or a name whose tree the worker knows
abbrev pub IsNamed : View → ℕ → Type 0
IsNamed v x = (x < 2) ⊎ (0 < times x (names_of v))

-- each lock word is followed by seven words that nothing uses, so that two of them never share a
-- cache line
abbrev pub apart : List ℕ → List ℕ
apart [] = []
apart (x ∷ xs) = x ∷ 0 ∷ 0 ∷ 0 ∷ 0 ∷ 0 ∷ 0 ∷ 0 ∷ apart xs

-- each announcement word is followed by one that nothing uses, so that those of a worker fill a
-- cache line
abbrev pub spread : List ℕ → List ℕ
spread [] = []
spread (x ∷ xs) = x ∷ 0 ∷ spread xs

-- the words in a row, kind by kind
abbrev pub flat : Words → List ℕ
flat w = spread w.announced ++ (w.counts ++ (w.nodes ++ (w.cells ++ (w.boxes ++ apart w.locks))))

-- a copy of the words is a lawful state, in which nobody else is active
pub record IsCopy (k : Known) (ws : List ℕ) : Type 0 where
  pub words : Words
  pub homes : Homes
  pub views : List View
  pub id : ℕ
  pub laid : ws ≡ flat words
  pub lawful : Lawful k.core.sizes words homes views
  pub mine : get_elem? views id ≡ some k.core
  pub alone : (j : ℕ) (u : View) → (j ≡ id → ⊥) → get_elem? views j ≡ some u → u.active ≡ false

-- what holds of what a worker knows between its steps: names are below their number, their trees
-- are ordered and reduced, and two names with one tree are one
pub record IsKnown (k : Known) : Type 0 where
  pub below : (x : ℕ) → 2 ≤ x → 0 < times x (names_of k.core) → x < k.core.sizes.names
  -- and so few that each fits its field of a word
  pub limit : k.core.sizes.names ≤ 2 ^ 20
  pub canonical : (x : ℕ) → IsNamed k.core x → IsCanonical (tree_of k x)
  pub one : (x y : ℕ) → IsNamed k.core x → IsNamed k.core y → tree_of k x ≡ tree_of k y → x ≡ y
  pub state : (ws : List ℕ) → k.copy ≡ Some ws → IsCopy k ws
  -- the scan reads an announcement word next, and has noted one name at most for each that it has
  -- read
  pub place : k.core.position < announced_words k.core.sizes
  pub noted : length k.core.noted ≤ k.core.position
  -- a phase names a cell that is there
  pub phases : (j : ℕ) (p : Phase) → get_elem? k.core.phases j ≡ some p → IsPlaced k.core.sizes p
  -- a worker has an announcement word, and one phase for each that it has
  pub word : 0 < length k.core.phases
  pub each : length k.core.phases ≡ k.core.sizes.announcements
  -- constants are not counted, so they are not held
  pub slots : (x : ℕ) → 0 < times x k.core.held → 2 ≤ x
  -- at most twice as many names are retired as there are announcement words
  pub retired : length k.core.retired ≤ 2 * announced_words k.core.sizes
  -- the node last read is held
  pub read : (r : Read) → k.core.read ≡ Some r → 0 < times r.name k.core.held
  -- a draft is a slot that is there
  pub draft : (d : ℕ) → k.core.draft ≡ Some d → (2 ≤ d) × (d < k.core.sizes.names)
  -- a stripe in hand is one of the sixteen, and its table has words of the stripe and slots that
  -- are there
  pub hand : (h : Hand) → k.core.hand ≡ Some h → h.stripe < 16
  pub entries : (h : Hand) (i : ℕ) (e : ℕ × ℕ) → k.core.hand ≡ Some h → get_elem? h.entries i
      ≡ some e → (2 ≤ e.1) × (e.1 < k.core.sizes.names) × (stripe_of e.0 ≡ h.stripe)
  -- no slot is in it twice
  pub once : (h : Hand) (x : ℕ) → k.core.hand ≡ Some h → table_has x h.entries ≤ 1
  -- fewer numbers are out than there are workers, and of those that worker 0 has given
  pub few : length k.core.out < k.core.sizes.workers
  pub given : k.core.number ≡ 0 → (length k.core.out < k.core.given)
      × (k.core.given ≤ k.core.sizes.workers)

-- a worker that had a copy of the words has one still
abbrev pub KeepsCopy : Known → Known → Type 0
KeepsCopy k after = (ws : List ℕ) → k.copy ≡ Some ws → (left : List ℕ) × (after.copy ≡ Some left)

-- a step: the view of the machine, and the trees of what was named before and after it stay
pub record Stepped (k : Known) (v : View) (after : Known) : Type 0 where
  pub core : after.core ≡ v
  pub copy : KeepsCopy k after
  pub agrees : (x : ℕ) → 2 ≤ x → 0 < times x (names_of k.core) → 0 < times x (names_of v)
      → tree_of after x ≡ tree_of k x
  pub known : IsKnown after
