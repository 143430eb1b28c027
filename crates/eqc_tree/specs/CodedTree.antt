-- Trees and references as lists of numbers, so that a value that no code holds can carry them.
-- Helpers of proofs: the one promise here is `ReadsBack`.
use Rattle.std.specs.Prelude.{◌≡◌, ℕ, zero, suc, List, [], ◌∷◌, refl}
use Rattle.std.proofs.Common.{◌∙◌, ap}
use Rattle.std.specs.Coded.{Coded, code_by, coded_ℕ, coded_list, coded×}
use Rattle.eqc_tree.specs.Tree.{Tree, False, True, Node}
use Rattle.eqc_tree.specs.Holding.{Entry}

-- a tree as a list of numbers, the children before their node, in front of the rest
abbrev pub spelled : Tree → List ℕ → List ℕ
spelled False rest = 0 ∷ rest
spelled True rest = 1 ∷ rest
spelled (Node v low high) rest = spelled low (spelled high (suc (suc v) ∷ rest))

-- a node over the two trees that were read last
abbrev pub joined : ℕ → List Tree → List Tree
joined v [] = []
joined v (high ∷ []) = []
joined v (high ∷ low ∷ ts) = Node v low high ∷ ts

-- the trees read so far after one more number
abbrev pub pushed : ℕ → List Tree → List Tree
pushed zero ts = False ∷ ts
pushed (suc zero) ts = True ∷ ts
pushed (suc (suc v)) ts = joined v ts

-- the trees read so far after all numbers
abbrev pub read : List ℕ → List Tree → List Tree
read [] ts = ts
read (n ∷ ns) ts = read ns (pushed n ts)

-- the tree that was read last
abbrev pub first_of_all : List Tree → Tree
first_of_all [] = False
first_of_all (t ∷ ts) = t

-- reading a spelling adds its tree
pub read-spelled : (t : Tree) (rest : List ℕ) (ts : List Tree) → read (spelled t rest) ts
    ≡ read rest (t ∷ ts)
read-spelled False rest ts = refl
read-spelled True rest ts = refl
read-spelled (Node v l h) rest ts = read-spelled l (spelled h (suc (suc v) ∷ rest)) ts
    ∙ read-spelled h (suc (suc v) ∷ rest) (l ∷ ts)

-- each tree is read back from its spelling
abbrev pub ReadsBack : Type 0
ReadsBack = (t : Tree) → first_of_all (read (spelled t []) []) ≡ t

-- trees as data
abbrev pub coded_tree : Coded Tree
coded_tree = code_by (List ℕ) (coded_list coded_ℕ) (λ t. spelled t [])
    (λ ns. first_of_all (read ns [])) (λ t. ap first_of_all (read-spelled t [] []))

-- references with their trees as data
abbrev pub coded_entry : Coded Entry
coded_entry = code_by (ℕ × Tree) (coded× coded_ℕ coded_tree) (λ e. (e.number, e.tree))
    (λ p. record { number = p.0; tree = p.1 }) (λ _. refl)
