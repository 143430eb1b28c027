-- What the values of nodes and literals come to.
use Rattle.std.proofs.Common.{◌≡◌, ℕ, suc, ◌+◌, ◌*◌, ◌/◌, ◌<◌, Bool, true, false, not, List, []}
use Rattle.std.proofs.Common.{◌∷◌, ◌++◌, length, take, drop, get_or, refl, sym, ◌∙◌, ap, subst}
use Rattle.std.proofs.Common.{arith, append_assoc}
use Rattle.std.proofs.lemmas.List.{length-append, take-append-drop, length-take-le}
use Rattle.std.proofs.lemmas.List.{get_or_append_left, get_or_default}
use Rattle.std.proofs.Math.Seq.{get_or-append_seam, take-append_seam, drop-cons}
use Rattle.eqc_xag.specs.declared.node.Node.{Node}
use Rattle.eqc_xag.specs.declared.node.Node.TheVariants.{Constant, Input, And, Xor}
use Rattle.eqc_xag.specs.Graph.{value_among, node_value, values_from, literal_value, IsWithin}
use Rattle.eqc_xag.specs.Graph.{IsBelow, node_at, IsGraph, Extends}
use Rattle.eqc_xag.proofs.LiteralLemmas.{value_of_literal, value_behind}

-- the values of more nodes come behind
values_behind : (a : ℕ → Bool) (values : List Bool) (nodes more : List Node)
    → values_from a values (nodes ++ more) ≡ values_from a (values_from a values nodes) more
unfolding values_from
values_behind a values [] more = refl
values_behind a values (n ∷ nodes) more =
    values_behind a (values ++ node_value a (value_among values) n ∷ []) nodes more

values_length : (a : ℕ → Bool) (values : List Bool) (nodes : List Node)
    → length (values_from a values nodes) ≡ length values + length nodes
unfolding values_from
values_length a values [] = omega arith
values_length a values (n ∷ nodes) =
    let one : List Bool = node_value a (value_among values) n ∷ [] in
    omega (arith, values_length a (values ++ one) nodes, length-append values one)

-- values that are there stay
values_stay : (a : ℕ → Bool) (values : List Bool) (nodes : List Node) (k : ℕ) → k < length values
    → get_or (values_from a values nodes) k false ≡ get_or values k false
unfolding values_from
values_stay a values [] k inside = refl
values_stay a values (n ∷ nodes) k inside =
    let one : List Bool = node_value a (value_among values) n ∷ [] in
    values_stay a (values ++ one) nodes k (omega (arith, inside, length-append values one))
    ∙ get_or_append_left values one false k inside

same_among : (values others : List Bool) (l : ℕ) → get_or values (l / 2) false
    ≡ get_or others (l / 2) false → value_among values l ≡ value_among others l
unfolding value_among
same_among values others l same = rw same refl

-- a literal keeps its value where more nodes come behind
pub value_stays : (nodes more : List Node) (a : ℕ → Bool) (l : ℕ) → IsWithin nodes l
    → literal_value (nodes ++ more) a l ≡ literal_value nodes a l
unfolding literal_value
value_stays nodes more a l within =
    let values = values_from a [] nodes in
    let inside : l / 2 < length (values_from a [] nodes) =
    omega (arith, within, values_length a [] nodes) in
    same_among (values_from a [] (nodes ++ more)) (values_from a [] nodes) l
    (ap (λ (vs : List Bool). get_or vs (l / 2) false) (values_behind a [] nodes more)
    ∙ values_stay a values more (l / 2) inside)

pub extends_more : (nodes more : List Node) → Extends nodes (nodes ++ more)
extends_more nodes more = record {
  longer = omega (arith, length-append nodes more);
  same = λ l a within. value_stays nodes more a l within;
}

pub extends_itself : (nodes : List Node) → Extends nodes nodes
extends_itself nodes = record { longer = omega arith; same = λ l a within. refl }

pub extends_along : (old between new : List Node) → Extends old between → Extends between new
    → Extends old new
extends_along old between new first second = record {
  longer = omega (arith, first.longer, second.longer);
  same = λ l a within. second.same l a (omega (arith, within, first.longer))
      ∙ first.same l a within;
}

-- a graph extends its first nodes
pub extends_cut : (nodes : List Node) (n : ℕ) → Extends (take n nodes) nodes
extends_cut nodes n = subst (λ (all : List Node). Extends (take n nodes) all)
    (take-append-drop n nodes) (extends_more (take n nodes) (drop n nodes))

-- what was pushed is taken back
pub cut_back : (nodes more : List Node) → take (length nodes) (nodes ++ more) ≡ nodes
cut_back nodes more = take-append_seam nodes more

-- the value of the literal of a new node is what the node says
pub value_pushed : (nodes : List Node) (n : Node) (a : ℕ → Bool)
    → literal_value (nodes ++ n ∷ []) a (2 * length nodes) ≡ node_value a (literal_value nodes a) n
unfolding literal_value values_from
value_pushed nodes n a =
    let values = values_from a [] nodes in
    let one = node_value a (value_among (values_from a [] nodes)) n in
    let long : length nodes ≡ length (values_from a [] nodes) =
    omega (arith, values_length a [] nodes) in
    value_of_literal (values_from a [] (nodes ++ n ∷ [])) (length nodes)
    ∙ (ap (λ (vs : List Bool). get_or vs (length nodes) false) (values_behind a [] nodes (n ∷ []))
    ∙ (ap (λ (k : ℕ). get_or (values ++ one ∷ []) k false) long
    ∙ get_or-append_seam values one [] false))

-- a node says the same over values that agree on its literals
pub node_same : (a v w : ℕ → Bool) (k : ℕ) (n : Node) → IsBelow k n → ((l : ℕ) → l / 2 < k
    → v l ≡ w l) → node_value a v n ≡ node_value a w n
node_same a v w k Constant below same = refl
node_same a v w k (Input i) below same = refl
node_same a v w k (And x y) below same = rw (same x below.0, same y below.1) refl
node_same a v w k (Xor x y) below same = rw (same x below.0, same y below.1) refl

-- the value of a node's literal is what the node says
pub value_at_node :
    (nodes : List Node) (k : ℕ) (a : ℕ → Bool) →
    k < length nodes → IsBelow k (node_at nodes k) → literal_value nodes a (2 * k)
    ≡ node_value a (literal_value nodes a) (node_at nodes k)
value_at_node nodes k a inside below =
    let n = node_at nodes k in
    let front = take k nodes in
    let size : length (take k nodes) ≡ k = length-take-le k nodes (omega (arith, inside)) in
    let back : drop k nodes ≡ node_at nodes k ∷ drop (suc k) nodes =
    drop-cons nodes k Constant inside in
    let whole : nodes ≡ (take k nodes ++ node_at nodes k ∷ []) ++ drop (suc k) nodes =
    sym (append_assoc front (n ∷ []) (drop (suc k) nodes)
    ∙ (ap (λ (rest : List Node). front ++ rest) (sym back) ∙ take-append-drop k nodes)) in
    let within : IsWithin (front ++ n ∷ []) (2 * k) =
    omega (arith, size, length-append front (n ∷ [])) in
    let cut : literal_value nodes a (2 * k) ≡ literal_value (front ++ n ∷ []) a (2 * k) =
    ap (λ (all : List Node). literal_value all a (2 * k)) whole
    ∙ value_stays (front ++ n ∷ []) (drop (suc k) nodes) a (2 * k) within in
    let new : literal_value (front ++ n ∷ []) a (2 * k) ≡ node_value a (literal_value front a) n =
    ap (λ (m : ℕ). literal_value (front ++ n ∷ []) a (2 * m)) (sym size) ∙ value_pushed front n a in
    let same : (l : ℕ) → l / 2 < k → literal_value front a l ≡ literal_value nodes a l =
    λ l low. sym ((extends_cut nodes k).same l a (omega (arith, size, low))) in
    cut ∙ (new ∙ node_same a (literal_value front a) (literal_value nodes a) k n below same)

-- the same of a node that was read
pub value_of_read :
    (items nodes : List Node) (k : ℕ) (n : Node) →
    items ≡ nodes → IsGraph items → k < length nodes → n ≡ get_or items k n → (a : ℕ → Bool)
    → literal_value nodes a (2 * k) ≡ node_value a (literal_value nodes a) n
value_of_read items nodes k n same graph inside read =
    let there : k < length items = omega (arith, inside, ap length same) in
    let is : n ≡ node_at items k = read ∙ get_or_default items k n Constant there in
    let at_node = λ (a : ℕ → Bool). value_at_node items k a there (graph.earlier k there) in
    subst
    (λ (all : List Node). (a : ℕ → Bool) → literal_value all a (2 * k)
    ≡ node_value a (literal_value all a) n) same
    (subst (λ (m : Node). (a : ℕ → Bool) → literal_value items a (2 * k)
    ≡ node_value a (literal_value items a) m) (sym is) at_node)

-- literal 0 is false, and literal 1 is true
pub value_of_zero : (nodes : List Node) (a : ℕ → Bool) → IsGraph nodes → literal_value nodes a 0
    ≡ false
value_of_zero nodes a graph = value_at_node nodes 0 a graph.some (graph.earlier 0 graph.some)
    ∙ ap (node_value a (literal_value nodes a)) graph.constant

pub value_of_one : (nodes : List Node) (a : ℕ → Bool) → IsGraph nodes → literal_value nodes a 1
    ≡ true
value_of_one nodes a graph = value_behind nodes a 0 refl ∙ ap not (value_of_zero nodes a graph)

-- nodes that were pushed and taken back leave the graph as it was
pub unmade : (old new cut more : List Node) (n : ℕ) → new ≡ old ++ more → n ≡ length old
    → cut ≡ take n new → cut ≡ old
unmade old new cut more n pushed is back =
    back ∙ (ap (take n) pushed ∙ (ap (λ (k : ℕ). take k (old ++ more)) is ∙ cut_back old more))

pub extends_same : (old new : List Node) → new ≡ old → Extends old new
extends_same old new same = subst (λ (nodes : List Node). Extends old nodes) (sym same)
    (extends_itself old)
