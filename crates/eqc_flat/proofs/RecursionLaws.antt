-- Where instances below one another don't end, a reached model reaches itself.
use Rattle.std.proofs.Common.{◌==◌, ◌≡◌, ℕ, suc, ◌+◌, ◌<◌, ◌⊎◌, inl, inr, Bool, true, false, not}
use Rattle.std.proofs.Common.{List, [], ◌∷◌, length, refl, sym, subst, arith}
use Rattle.std.specs.List.{range_with_len}
use Rattle.std.proofs.lemmas.Bool.{true≢false, cases_eq}
use Rattle.std.proofs.lemmas.List.FromFn.{length-range_with_len}
use Rattle.eqc_blif.specs.Netlist.{ModelOf}
use Rattle.eqc_netlist.specs.Dependency.{among, ends_within}
use Rattle.eqc_hierarchy.specs.Hierarchy.{callees}
use Rattle.eqc_hierarchy.specs.Codes.{is_recursive}
use Rattle.eqc_flat.specs.HierarchyLaws.{Reaches, RecursiveWhereReached}
use Rattle.eqc_hierarchy.proofs.Distinct.{Member}
use Rattle.eqc_netlist.proofs.Depth.{or_right}
use Rattle.eqc_netlist.proofs.Members.{among_here}
use Rattle.eqc_hierarchy.proofs.ReachingLaws.{callee_within}
use Rattle.eqc_flat.proofs.SignalLaws.{range_has}
use Rattle.eqc_flat.proofs.CircleLaws.{IsFinite, circle_found, never_ends}

-- the numbers of models, and the one behind them, which stands for a model that isn't there
abbrev numbers : List ModelOf → List ℕ
numbers library = range_with_len 0 (length library + 1)

number_there : (library : List ModelOf) (m : ℕ) → m < length library + 1
    → Member m (numbers library)
number_there library m less = range_has 0 (length library + 1) m (omega arith) (omega (arith, less))

member_among : (xs : List ℕ) (x : ℕ) → Member x xs → among xs x ≡ true
member_among [] x h = absurd h
member_among (y ∷ xs) x (inl same) = among_here y xs x same
member_among (y ∷ xs) x (inr there) = or_right (y == x) (among xs x) (member_among xs x there)

calls_finite : (library : List ModelOf) → IsFinite (callees library) (numbers library)
    (ends_within (callees library))
calls_finite library = record {
  decided = cases_eq;
  closed = λ m n i h. number_there library n (callee_within library m n
      (member_among (callees library m) n h));
  none = λ m. refl;
  more = λ k m i. refl;
}

pub recursive_where_reached : RecursiveWhereReached
unfolding is_recursive
recursive_where_reached = λ library top small. (
  (λ e. found library top (omega (arith, small))
      (not_true (ends_within (callees library) (suc (length library)) top) e)),
  (λ w. by library top w.0 (omega (arith, small)) w.1 w.2 (ends_within (callees library)
      (suc (length library)) top) refl),
)
  where
    not_true : (b : Bool) → not b ≡ true → b ≡ false
    not_true true e = absurd (true≢false (sym e))
    not_true false e = refl

    found : (library : List ModelOf) (top : ℕ) → top < length library + 1
        → ends_within (callees library) (suc (length library)) top ≡ false
        → (m : ℕ) × ((m ≡ top) ⊎ Reaches (callees library) top m) × Reaches (callees library) m m
    found library top small e =
        let P : ℕ → Type 0 = λ n. ends_within (callees library) n top ≡ false in
        let size : suc (length library) ≡ length (numbers library) =
        omega (arith, length-range_with_len 0 (length library + 1)) in
        let (m, _there, at, circle) = circle_found (callees library) (numbers library)
        (ends_within (callees library)) (calls_finite library) top (number_there library top
        small) (subst P size e) in
        (m, at, circle)

    by : (library : List ModelOf) (top m : ℕ) → top < length library + 1 → (m ≡ top)
        ⊎ Reaches (callees library) top m
        → Reaches (callees library) m m → (b : Bool)
        → ends_within (callees library) (suc (length library)) top ≡ b → not b ≡ true
    by library top m small at circle false e = refl
    by library top m small at circle true e =
        absurd (never_ends (callees library) (numbers library) (ends_within (callees library))
        (calls_finite library) top m
        (number_there library top small) at circle (suc (length library)) e)
