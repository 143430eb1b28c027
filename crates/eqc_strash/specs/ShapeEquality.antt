-- For the proofs alone: the test of two shapes decides whether they are equal.
use Rattle.std.proofs.Common.{◌≡◌, ◌∙◌, true, refl, sym, ap, ◌==◌, ◌&&◌}
use Rattle.std.proofs.lemmas.Bool.{and_parts, true≢false, eqb-true, eq-eqb}
use Rattle.std.specs.Bool.{Decides}
use Rattle.std.specs.Cmp.{IsEquivalence, decided, booleans_Decides}
use Rattle.std.specs.Cmp.Lexicographic.{bytes_decides}
use Rattle.std.specs.Hash.{same_Alike}
use Rattle.std.specs.Str.{bytes_eq}
use Rattle.eqc_strash.specs.Shapes.{same_shape, shape_input}
use Rattle.eqc_strash.specs.declared.shape.Shape.{Shape}
use Rattle.eqc_strash.specs.declared.shape.Shape.TheVariants.{Variable, Constant, Gate}

same_shapes : (x y : Shape) → same_shape x y ≡ true → x ≡ y
same_shapes (Variable v) (Variable w) e = ap Variable (eqb-true v w e)
same_shapes (Variable v) (Constant c) e = absurd (true≢false (sym e))
same_shapes (Variable v) (Gate q others) e = absurd (true≢false (sym e))
same_shapes (Constant b) (Variable w) e = absurd (true≢false (sym e))
same_shapes (Constant b) (Constant c) e = ap Constant ((booleans_Decides b c).0 e)
same_shapes (Constant b) (Gate q others) e = absurd (true≢false (sym e))
same_shapes (Gate r columns) (Variable w) e = absurd (true≢false (sym e))
same_shapes (Gate r columns) (Constant c) e = absurd (true≢false (sym e))
same_shapes (Gate r columns) (Gate q others) e =
    let both = and_parts (r == q) (bytes_eq columns others) e in
    let same : r ≡ q = eqb-true r q both.0 in
    let alike : columns ≡ others = (bytes_decides columns others).0 both.1 in
    λ i. Gate (same i) (alike i)

is_itself : (x : Shape) → same_shape x x ≡ true
is_itself (Variable v) = eq-eqb v v refl
is_itself (Constant b) = (booleans_Decides b b).1 refl
is_itself (Gate r columns) =
    let same : (r == r) ≡ true = eq-eqb r r refl in
    let alike : bytes_eq columns columns ≡ true = (bytes_decides columns columns).1 refl in
    λ i. same i && alike i

pub same_shape_decides : (x y : Shape) → Decides (same_shape x y) (x ≡ y)
same_shape_decides x y = (same_shapes x y, λ e. ap (same_shape x) (sym e) ∙ is_itself x)

pub same_shape_equiv : IsEquivalence same_shape
same_shape_equiv = decided same_shape same_shape_decides

pub shapes_hash_alike : (x y : Shape) → same_shape x y ≡ true → shape_input x ≡ shape_input y
shapes_hash_alike = (same_Alike shape_input same_shape_decides).fed
