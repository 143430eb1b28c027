-- What steps leave as it is.
use Rattle.std.proofs.Common.{◌≡◌, ℕ, ◌+◌, ◌-◌, ◌*◌, ◌/◌, ◌%◌, ◌^◌, ◌<◌, ◌≤◌, Bool, List, length}
use Rattle.std.proofs.Common.{refl, sym, ◌∙◌, ap, subst, arith}
use Rattle.std.specs.List.{All}
use Rattle.eqc_xag.specs.declared.node.Node.{Node}
use Rattle.eqc_xag.specs.Graph.{literal_value, IsWithin, Extends}
use Rattle.eqc_xag.proofs.GraphLemmas.{extends_itself, extends_along}
use Rattle.eqc_sums.specs.declared.form.Form.{Form}
use Rattle.eqc_sums.specs.declared.term.Term.{Term}
use Rattle.eqc_sums.specs.Forms.{terms_sum, form_value, HasSum, IsZeroStep, IsOver, Keeps}
use Rattle.eqc_sums.specs.Adding.{number, IsFormOf}
use Rattle.eqc_sums.proofs.FormLemmas.{extended_value, value_below}

pub keeps_itself : (nodes : List Node) (f : Form) → Keeps nodes nodes f f
keeps_itself nodes f = record { extends = extends_itself nodes; over = λ o. o; value = λ o a. refl }

-- a graph and a form that stay as they are
pub keeps_same : (old new : List Node) (f g : Form) → new ≡ old → g ≡ f → Keeps old new f g
keeps_same old new f g same other =
    subst (λ (nodes : List Node). Keeps old nodes f g) (sym same)
    (subst (λ (h : Form). Keeps old old f h) (sym other) (keeps_itself old f))

-- a graph that grew
pub keeps_extended : (old new : List Node) (f : Form) → Extends old new → Keeps old new f f
keeps_extended old new f e = record {
  extends = e;
  over = λ o. omega (arith, o, e.longer);
  value = λ o a. extended_value old new a f e o;
}

pub keeps_along : (old between new : List Node) (f g h : Form) → Keeps old between f g
    → Keeps between new g h → Keeps old new f h
keeps_along old between new f g h first second = record {
  extends = extends_along old between new first.extends second.extends;
  over = λ o. second.over (first.over o);
  value = λ o a. second.value (first.over o) a ∙ first.value o a;
}

-- a graph that grew, and a step then
pub keeps_grown : (old between new : List Node) (f g : Form) → Extends old between
    → Keeps between new f g → Keeps old new f g
keeps_grown old between new f g e second =
    keeps_along old between new f f g (keeps_extended old between f e) second

-- a form with more coefficients
pub keeps_reached : (nodes : List Node) (n : ℕ) (f g : Form) → n ≡ length nodes
    → ((k : ℕ) → length f.coefficients.items ≤ k → n ≤ k → length g.coefficients.items ≤ k)
    → ((others : List Node) (a : ℕ → Bool) → form_value others a g ≡ form_value others a f)
    → Keeps nodes nodes f g
keeps_reached nodes n f g is most value = record {
  extends = extends_itself nodes;
  over = λ o. most (length nodes) o (omega (arith, is));
  value = λ o a. value nodes a;
}

zero_added : (F G S : ℕ) → F < 2 ^ 128 → G ≡ (F + S) % 2 ^ 128 → S % 2 ^ 128 ≡ 0 % 2 ^ 128 → G ≡ F
zero_added F G S low is none = omega (arith, low, is, none)

-- and with a zero step
pub keeps_stepped : (nodes : List Node) (n : ℕ) (f g h : Form) (ts : List Term) → n ≡ length nodes
    → IsZeroStep nodes ts
    → ((k : ℕ) → length f.coefficients.items ≤ k → n ≤ k → length g.coefficients.items ≤ k)
    → ((others : List Node) (a : ℕ → Bool) → form_value others a g ≡ form_value others a f)
    → length h.coefficients.items ≡ length g.coefficients.items
    → ((others : List Node) (a : ℕ → Bool) → form_value others a h ≡ (form_value others a g
    + terms_sum (literal_value others a) ts) % 2 ^ 128)
    → Keeps nodes nodes f h
keeps_stepped nodes n f g h ts is step most value same sum = record {
  extends = extends_itself nodes;
  over = λ o. omega (arith, same, most (length nodes) o (omega (arith, is)));
  value = λ o a. zero_added (form_value nodes a g) (form_value nodes a h)
      (terms_sum (literal_value nodes a) ts) (value_below nodes a g) (sum nodes a) (step.sum a)
      ∙ value nodes a;
}

-- literals for which there are coefficients
pub reached_all : (nodes : List Node) (n m : ℕ) (ts : List Term)
    → All (λ t. IsWithin nodes t.literal) ts → n ≡ length nodes → n ≤ m
    → All (λ t. t.literal / 2 < m) ts
reached_all nodes n m ts within is reached = λ k d inside. omega (
  arith,
  within k d inside,
  is,
  reached,
)

added_word : (H G T B A : ℕ) → H ≡ (G + T) % 2 ^ 128 → G ≡ 0 → (T + B) % 2 ^ 128 ≡ A % 2 ^ 128
    → (H + B) % 2 ^ 128 ≡ A % 2 ^ 128
added_word H G T B A is none h = omega (arith, is, none, h)

-- the form of two words
pub form_begun : (nodes : List Node) (n : ℕ) (f g h : Form) (ts : List Term) (ps qs : List ℕ)
    → n ≡ length nodes
    → length f.coefficients.items ≡ 0 → ((others : List Node) (a : ℕ → Bool) → form_value others a f
    ≡ 0)
    → ((k : ℕ) → length f.coefficients.items ≤ k → n ≤ k → length g.coefficients.items ≤ k)
    → ((others : List Node) (a : ℕ → Bool) → form_value others a g ≡ form_value others a f)
    → length h.coefficients.items ≡ length g.coefficients.items
    → ((others : List Node) (a : ℕ → Bool) → form_value others a h ≡ (form_value others a g
    + terms_sum (literal_value others a) ts) % 2 ^ 128)
    → 0 < length ps → length ps ≤ 128 → length qs ≡ length ps → All (IsWithin nodes) ps
    → All (IsWithin nodes) qs
    → ((v : ℕ → Bool) → (terms_sum v ts + 2 ^ (128 - length ps) * number v qs) % 2 ^ 128
    ≡ (2 ^ (128 - length ps) * number v ps) % 2 ^ 128)
    → IsFormOf nodes h ps qs
form_begun nodes n f g h ts ps qs is empty none most value same sum some few long first second
    words = record {
      over = omega (arith, same, most (length nodes) (omega (arith, empty)) (omega (arith, is)));
      some = some;
      few = few;
      same = long;
      first = first;
      second = second;
      value = λ a.
          let v = literal_value nodes a in
          added_word (form_value nodes a h) (form_value nodes a g) (terms_sum v ts)
          (2 ^ (128 - length ps) * number (literal_value nodes a) qs) (2 ^ (128 - length ps) *
          number (literal_value nodes a) ps)
          (sum nodes a) (value nodes a ∙ none nodes a) (words (literal_value nodes a));
    }
