-- What a sweep's calls say of their literals.
use Rattle.std.proofs.Common.{◌≡◌, ℕ, ◌+◌, ◌*◌, ◌/◌, ◌<◌, ◌≤◌, Bool, true, false, not, List, []}
use Rattle.std.proofs.Common.{◌∷◌, ◌++◌, length, take, refl, sym, ap, subst, ◌∙◌, arith}
use Rattle.std.proofs.lemmas.List.{length-append}
use Rattle.eqc_xag.specs.declared.node.Node.{Node}
use Rattle.eqc_xag.specs.Graph.{literal_value, node_value, differ, IsWithin, IsBelow, IsGraph}
use Rattle.eqc_xag.specs.Graph.{Extends}
use Rattle.eqc_xag.proofs.GraphLemmas.{extends_itself, node_same, value_stays, cut_back}
use Rattle.eqc_sweep.specs.declared.reduced.Reduced.TheVariants.{There, Absent}
use Rattle.eqc_sweep.specs.Sweeping.{HasValue, HasValueOf}
use Rattle.eqc_sweep.specs.Reducing.{StandsFor}
use Rattle.eqc_sweep.specs.Finding.{IsOlder}
use Rattle.eqc_sweep.specs.Team.{IsMerge}
use Rattle.eqc_sweep.specs.declared.finder.team.Merge.{Merge}
use Rattle.eqc_sweep.specs.Ordering.{IsFormOf}
use Rattle.eqc_sweep.specs.declared.table.Known.{Known}
use Rattle.eqc_sweep.specs.Known.{IsLiteralOf, AreKnown}
use Rattle.eqc_sweep.proofs.TableLemmas.{below_most, known_extended}

-- nodes that stay as they are
pub extends_same : (old new : List Node) → new ≡ old → Extends old new
extends_same old new e = subst (λ (nodes : List Node). Extends old nodes) (sym e)
    (extends_itself old)

-- a literal that stands for a node
pub value_there : (nodes : List Node) (n : Node) (l : ℕ) → StandsFor nodes n (There l)
    → HasValueOf nodes nodes n l
value_there nodes n l s = record { within = s.within; value = s.value }

-- the literal of a form, or its complement, where the form is that of a node that stands for
-- another
pub value_absent : (old new : List Node) (n m form : Node) (sign : Bool) (l k : ℕ)
    → StandsFor old n (Absent m)
    → IsFormOf m form sign → HasValueOf old new form l → k / 2 ≡ l / 2
    → ((nodes : List Node) (a : ℕ → Bool) → literal_value nodes a k
    ≡ differ sign (literal_value nodes a l))
    → HasValueOf old new n k
value_absent old new n m form sign l k s f has node value = record {
  within = omega (arith, has.within, node);
  value = λ a.
      value new a ∙ (ap (λ (b : Bool). differ sign b) (has.value a) ∙ (sym (f.value old a)
      ∙ s.value a));
}

-- the literal of a node that was asked for before
pub value_known : (nodes : List Node) (n : Node) (l : ℕ) → IsLiteralOf nodes n l
    → HasValueOf nodes nodes n l
value_known nodes n l is = record { within = is.within; value = is.value }

-- the literal of a new node
pub value_new : (old new : List Node) (n : Node) (l : ℕ) → new ≡ old ++ n ∷ [] → l ≡ 2 * length old
    → ((a : ℕ → Bool) → literal_value new a l ≡ node_value a (literal_value old a) n)
    → HasValueOf old new n l
value_new old new n l e is value = record {
  within = omega (arith, is, ap (λ (ns : List Node). length ns) e, length-append old (n ∷ []));
  value = value;
}

pub literal_new : (old new : List Node) (n : Node) (l : ℕ) → IsBelow (length old) n
    → Extends old new → HasValueOf old new n l → IsLiteralOf new n l
literal_new old new n l below e has = record {
  operands = below_most (length old) (length new) n (omega (arith, e.longer)) below;
  within = has.within;
  value = λ a. has.value a ∙ node_same a (literal_value old a) (literal_value new a) (length old) n
      below (λ m low. sym (e.same m a low));
}

-- a table of what is known, after the literal of a node was put into it
pub known_put : (old new : List Node) (entries more : List Known) (n : Node) (l : ℕ)
    → AreKnown old entries → Extends old new
    → IsGraph new → IsBelow (length old) n → HasValueOf old new n l
    → ((nodes : List Node) → IsGraph nodes → AreKnown nodes entries → IsLiteralOf nodes n l
    → AreKnown nodes more)
    → AreKnown new more
known_put old new entries more n l known e g below has keeps =
    keeps new g (known_extended old new entries e known) (literal_new old new n l below e has)

-- an older literal that has the value of a node that is taken back
pub value_older : (old big new : List Node) (n : Node) (l m : ℕ) → big ≡ old ++ n ∷ [] → new ≡ old
    → l ≡ 2 * length old
    → ((a : ℕ → Bool) → literal_value big a l ≡ node_value a (literal_value old a) n)
    → IsOlder big l m → HasValueOf old new n m
value_older old big new n l m pushed back is value o =
    let inside : IsWithin old m = omega (arith, o.older, is) in
    let same : (a : ℕ → Bool) → literal_value big a m ≡ literal_value old a m =
    λ a. ap (λ (nodes : List Node). literal_value nodes a m) pushed
    ∙ value_stays old (n ∷ []) a m inside in
    subst (λ (nodes : List Node). HasValueOf old nodes n m) (sym back) (record {
      within = inside;
      value = λ a. sym (same a) ∙ (sym (o.equal.value a) ∙ value a);
    })

-- what was pushed is taken back
pub taken_back : (old big new : List Node) (n : Node) (k : ℕ) → big ≡ old ++ n ∷ []
    → new ≡ take k big → k ≡ length old → new ≡ old
taken_back old big new n k pushed cut e =
    cut ∙ (ap (λ (nodes : List Node). take k nodes) pushed
    ∙ (ap (λ (i : ℕ). take i (old ++ n ∷ [])) e ∙ cut_back old (n ∷ [])))

-- the literal of an older node that equals one stands for what that says
pub literal_older : (nodes : List Node) (n : Node) (m : Merge) (k : ℕ) → IsMerge nodes m
    → k ≡ m.new / 2 → k < length nodes → IsBelow k n
    → ((a : ℕ → Bool) → literal_value nodes a (2 * k) ≡ node_value a (literal_value nodes a) n)
    → IsLiteralOf nodes n m.older
literal_older nodes n m k is at inside below value =
    let same : m.new ≡ 2 * k = omega (arith, is.plain, at) in
    record {
      operands = below_most k (length nodes) n (omega (arith, inside)) below;
      within = omega (arith, is.older.older, at, inside);
      value = λ a. sym (is.older.equal.value a) ∙ (ap (λ (l : ℕ). literal_value nodes a l) same
          ∙ value a);
    }
