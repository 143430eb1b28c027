-- Shapes of classes, and the structures that they grow.
use Rattle.std.proofs.Common.{◌≡◌, ◌⊎◌, ℕ, suc, ◌<◌, ◌≤◌, Bool, true, false, cond, List, [], ◌∷◌}
use Rattle.std.proofs.Common.{◌++◌, length, get_or, map, refl, sym, ◌∙◌, ap, subst, arith, inl, inr}
use Rattle.std.proofs.Common.{length-append}
use Rattle.std.specs.List.{list_any, position_or_len}
use Rattle.std.proofs.Math.ListN.{get_or-append}
use Rattle.std.proofs.Math.Seq.{get_or-append_seam}
use Rattle.std.proofs.lemmas.Bool.{cases_eq}
use Rattle.eqc_strash.specs.Structure.{Structure, constant, gate, in_row}
use Rattle.eqc_strash.specs.Shapes.{same_shape, grown, structure_at, IsShapeWithin}
use Rattle.eqc_strash.specs.ShapeEquality.{same_shape_decides}
use Rattle.eqc_strash.specs.Tables.{AreApart, Grows, Stands, grown_all, structures_of, structures_in}
use Rattle.eqc_strash.specs.Tables.{IsClassTable}
use Rattle.eqc_strash.specs.declared.shape.Shape.{Shape}
use Rattle.eqc_strash.specs.declared.shape.Shape.TheVariants.{Variable, Constant, Gate}
use Rattle.eqc_strash.proofs.KeyLaws.{grows_not, grows_one, apart_more, put_stands, not_there}

pub map_alike : {X : Type 0} (f g : ℕ → X) (xs : List ℕ) → ((k : ℕ) → k < length xs
    → f (get_or xs k 0) ≡ g (get_or xs k 0)) → map f xs ≡ map g xs
map_alike f g [] same = refl
map_alike f g (x ∷ xs) same =
    let here : f x ≡ g x = same 0 (omega arith) in
    let others = map_alike f g xs (λ k h. same (suc k) (omega arith)) in
    cc

-- ---- one structure for each shape

in_row_same : (xs ys : List Structure) → in_row xs ≡ in_row ys → xs ≡ ys
in_row_same [] [] e = refl
in_row_same [] (y ∷ ys) e = cc
in_row_same (x ∷ xs) [] e = cc
in_row_same (x ∷ xs) (y ∷ ys) e =
    let here : x ≡ y = cc in
    let tails : in_row xs ≡ in_row ys = cc in
    let others = in_row_same xs ys tails in
    cc

columns_same : (structures : List Structure) (xs ys : List ℕ) → AreApart (constant false) structures
    → ((k : ℕ) → k < length xs → get_or xs k 0 < length structures)
    → ((k : ℕ) → k < length ys → get_or ys k 0 < length structures)
    → map (structure_at structures) xs ≡ map (structure_at structures) ys → xs ≡ ys
columns_same structures [] [] h below less e = refl
columns_same structures [] (y ∷ ys) h below less e = cc
columns_same structures (x ∷ xs) [] h below less e = cc
columns_same structures (x ∷ xs) (y ∷ ys) h below less e =
    let heads : structure_at structures x ≡ structure_at structures y = cc in
    let tails : map (structure_at structures) xs ≡ map (structure_at structures) ys = cc in
    let here : x ≡ y = h.apart x y (below 0 (omega arith)) (less 0 (omega arith)) heads in
    let others = columns_same structures xs ys h (λ k inside. below (suc k) (omega arith))
    (λ k inside. less (suc k) (omega arith)) tails in
    cc

grown_apart : (rows : List (List (List ℕ))) (structures : List Structure) (x y : Shape)
    → AreApart [] rows
    → AreApart (constant false) structures → IsShapeWithin (length rows) (length structures) x
    → IsShapeWithin (length rows) (length structures) y → grown rows structures x
    ≡ grown rows structures y → x ≡ y
grown_apart rows structures (Variable v) (Variable w) r h i j e = let same : v ≡ w = cc in
    ap Variable same
grown_apart rows structures (Variable v) (Constant c) r h i j e = cc
grown_apart rows structures (Variable v) (Gate q others) r h i j e = cc
grown_apart rows structures (Constant b) (Variable w) r h i j e = cc
grown_apart rows structures (Constant b) (Constant c) r h i j e = let same : b ≡ c = cc in
    ap Constant same
grown_apart rows structures (Constant b) (Gate q others) r h i j e = cc
grown_apart rows structures (Gate p columns) (Variable w) r h i j e = cc
grown_apart rows structures (Gate p columns) (Constant c) r h i j e = cc
grown_apart rows structures (Gate p columns) (Gate q others) r h i j e =
    let same_rows : get_or rows p [] ≡ get_or rows q [] = cc in
    let along : in_row (map (structure_at structures) columns)
    ≡ in_row (map (structure_at structures) others) = cc in
    let same : p ≡ q = r.apart p q i.0 j.0 same_rows in
    let alike : columns ≡ others = columns_same structures columns others h i.1 j.1
    (in_row_same (map (structure_at structures) columns) (map (structure_at structures) others)
    along) in
    cc

-- a shape over classes that are there is what it was
grown_still : (rows : List (List (List ℕ))) (structures new : List Structure) (n m : ℕ) (x : Shape)
    → Grows (constant false) structures new m → n ≤ length structures
    → IsShapeWithin (length rows) n x
    → grown rows new x ≡ grown rows structures x
grown_still rows structures new n m (Variable v) g few h = refl
grown_still rows structures new n m (Constant b) g few h = refl
grown_still rows structures new n m (Gate r columns) g few h =
    ap (λ l. gate (get_or rows r []) (in_row l))
    (map_alike (structure_at new) (structure_at structures) columns
    (λ k inside. g.kept (get_or columns k 0) (let less = h.1 k inside in omega (arith, less, few))))

-- ---- one shape more

grown_push : (rows : List (List (List ℕ))) (structures : List Structure) (shapes : List Shape)
    (x : Shape)
    → grown_all rows structures (shapes ++ x ∷ [])
    ≡ grown_all rows structures shapes ++ grown rows (grown_all rows structures shapes) x ∷ []
grown_push rows structures [] x = refl
grown_push rows structures (shape ∷ shapes) x =
    grown_push rows (structures ++ grown rows structures shape ∷ []) shapes x

structures_push : (rows : List (List (List ℕ))) (shapes : List Shape) (x : Shape)
    → structures_of rows (shapes ++ x ∷ []) ≡ structures_of rows shapes
    ++ grown rows (structures_of rows shapes) x ∷ []
unfolding structures_of
structures_push rows shapes x = grown_push rows [] shapes x

pub structures_none : (rows : List (List (List ℕ))) → structures_of rows [] ≡ []
unfolding structures_of
structures_none rows = refl

pub no_classes : (rows : List (List (List ℕ))) → AreApart [] rows
    → IsClassTable rows [] (structures_of rows [])
no_classes rows apart = subst (λ l. IsClassTable rows [] l) (sym (structures_none rows)) (record {
  rows_apart = apart;
  size = refl;
  said = λ i h. absurd (omega (arith, h));
  before = λ i h. absurd (omega (arith, h));
  apart = record { apart = λ i j h k e. absurd (omega (arith, h)) };
})

one_class_more : (rows : List (List (List ℕ))) (shapes : List Shape) (structures : List Structure)
    (x : Shape)
    → IsClassTable rows shapes structures → IsShapeWithin (length rows) (length structures) x
    → list_any (same_shape x) shapes ≡ false → IsClassTable rows (shapes ++ x ∷ []) (structures
    ++ grown rows structures x ∷ [])
one_class_more rows shapes structures x h inside absent = record {
  rows_apart = h.rows_apart;
  size = omega (arith, length-append structures (now ∷ []), length-append shapes (x ∷ []), h.size);
  said = λ i less. said i less (cases_eq i (length shapes));
  before = λ i less. before i less (cases_eq i (length shapes));
  apart = apart_more (constant false) structures now h.apart (λ i less same. other i
      (omega (arith, less, h.size)) same);
}
  where
    now : Structure
    now = grown rows structures x

    none : Shape
    none = Constant false

    below : (i : ℕ) → i < length (shapes ++ x ∷ []) → (i ≡ length shapes → ⊥) → i < length shapes
    below i less apart = omega (arith, less, length-append shapes (x ∷ []), apart)

    shape_at : (i : ℕ) → i < length shapes → get_or (shapes ++ x ∷ []) i none ≡ get_or shapes i none
    shape_at i less = get_or-append shapes (x ∷ []) none i less

    last : (i : ℕ) → i ≡ length shapes → get_or (shapes ++ x ∷ []) i none ≡ x
    last i e = ap (λ k. get_or (shapes ++ x ∷ []) k none) e ∙ get_or-append_seam shapes x [] none

    still : (n : ℕ) (y : Shape) → n ≤ length structures → IsShapeWithin (length rows) n y
        → grown rows (structures ++ now ∷ []) y ≡ grown rows structures y
    still n y few there = grown_still rows structures (structures ++ now ∷ []) n 1 y
        (grows_one (constant false) structures now) few there

    said : (i : ℕ) → i < length (shapes ++ x ∷ []) → (i ≡ length shapes) ⊎ (i ≡ length shapes → ⊥)
        → structure_at (structures ++ now ∷ []) i ≡ grown rows (structures ++ now ∷ [])
        (get_or (shapes ++ x ∷ []) i none)
    said i less (inl e) =
        let at_end : i ≡ length structures = e ∙ sym h.size in
        ap (structure_at (structures ++ now ∷ [])) at_end
        ∙ (get_or-append_seam structures now [] (constant false)
        ∙ (sym (still (length structures) x (omega arith) inside)
        ∙ ap (grown rows (structures ++ now ∷ [])) (sym (last i e))))
    said i less (inr apart) =
        let there = below i less apart in
        let few : i < length structures = omega (arith, there, h.size) in
        get_or-append structures (now ∷ []) (constant false) i few
        ∙ (h.said i there
        ∙ (sym (still i (get_or shapes i none) (omega (arith, few)) (h.before i there))
        ∙ ap (grown rows (structures ++ now ∷ [])) (sym (shape_at i there))))

    before : (i : ℕ) → i < length (shapes ++ x ∷ []) → (i ≡ length shapes) ⊎ (i ≡ length shapes → ⊥)
        → IsShapeWithin (length rows) i (get_or (shapes ++ x ∷ []) i none)
    before i less (inl e) =
        subst (λ y. IsShapeWithin (length rows) i y) (sym (last i e))
        (subst (λ n. IsShapeWithin (length rows) n x) (h.size ∙ sym e) inside)
    before i less (inr apart) =
        let there = below i less apart in
        subst (λ y. IsShapeWithin (length rows) i y) (sym (shape_at i there)) (h.before i there)

    wider : (n m : ℕ) (y : Shape) → n ≤ m → IsShapeWithin (length rows) n y
        → IsShapeWithin (length rows) m y
    wider n m (Variable v) few there = there
    wider n m (Constant b) few there = there
    wider n m (Gate r columns) few there = (
      there.0,
      λ k inside. let less = there.1 k inside in
          omega (arith, less, few),
    )

    other : (i : ℕ) → i < length shapes → structure_at structures i ≡ now → ⊥
    other i there same =
        let few : i ≤ length structures = omega (arith, there, h.size) in
        not_there same_shape same_shape_decides none shapes x absent i there
        (grown_apart rows structures (get_or shapes i none) x h.rows_apart h.apart
        (wider i (length structures) (get_or shapes i none) few (h.before i there)) inside
        (sym (h.said i there) ∙ same))

-- a shape is put into a table
module _ (rows : List (List (List ℕ))) (shapes new : List Shape) (x : Shape) (h : IsClassTable rows
    shapes (structures_of rows shapes))
    (inside : IsShapeWithin (length rows) (length (structures_of rows shapes)) x)
    (e : new ≡ cond (list_any (same_shape x) shapes) shapes (shapes ++ x ∷ [])) where
  now_there : list_any (same_shape x) shapes ≡ true → new ≡ shapes
  now_there there = e ∙ ap (λ b. cond b shapes (shapes ++ x ∷ [])) there

  now_last : list_any (same_shape x) shapes ≡ false → new ≡ shapes ++ x ∷ []
  now_last absent = e ∙ ap (λ b. cond b shapes (shapes ++ x ∷ [])) absent

  pub class_table : IsClassTable rows new (structures_of rows new)
  class_table = by (list_any (same_shape x) shapes) refl
    where
      by : (b : Bool) → list_any (same_shape x) shapes ≡ b
          → IsClassTable rows new (structures_of rows new)
      by true there = subst (λ l. IsClassTable rows l (structures_of rows l))
          (sym (now_there there)) h
      by false absent =
          let more : IsClassTable rows (shapes ++ x ∷ []) (structures_of rows (shapes ++ x ∷ [])) =
          subst (λ l. IsClassTable rows (shapes ++ x ∷ []) l) (sym (structures_push rows shapes x))
          (one_class_more rows shapes (structures_of rows shapes) x h inside absent) in
          subst (λ l. IsClassTable rows l (structures_of rows l)) (sym (now_last absent)) more

  pub class_grows : Grows (constant false) (structures_of rows shapes) (structures_of rows new) 1
  class_grows = by (list_any (same_shape x) shapes) refl
    where
      by : (b : Bool) → list_any (same_shape x) shapes ≡ b
          → Grows (constant false) (structures_of rows shapes) (structures_of rows new) 1
      by true there = subst (λ l. Grows (constant false) (structures_of rows shapes)
          (structures_of rows l) 1) (sym (now_there there)) (grows_not (constant false)
          (structures_of rows shapes) 1)
      by false absent =
          subst (λ l. Grows (constant false) (structures_of rows shapes) l 1)
          (sym (ap (structures_of rows) (now_last absent) ∙ structures_push rows shapes x))
          (grows_one (constant false) (structures_of rows shapes)
          (grown rows (structures_of rows shapes) x))

  pub class_stands : (i : ℕ) → i ≡ position_or_len (same_shape x) shapes
      → Stands (constant false) (structures_of rows new) i (grown rows (structures_of rows shapes)
      x)
  class_stands i at =
      let there : Stands (Constant false) new i x = put_stands same_shape same_shape_decides
      (Constant false) shapes new x i e at in
      let table = class_table in
      let few : length (structures_of rows shapes) ≤ length (structures_of rows shapes) =
      omega arith in
      record {
        within = omega (arith, there.within, table.size);
        at = table.said i there.within
            ∙ (ap (grown rows (structures_of rows new)) there.at
            ∙ grown_still rows (structures_of rows shapes) (structures_of rows new)
            (length (structures_of rows shapes)) 1 x class_grows few inside);
      }

-- the same in the terms of what contracts see of a table
module _ (rows : List (List (List ℕ))) (shapes new : List Shape) (x : Shape)
    (table : List (List (List ℕ)) × List Shape)
    (seen : (rows, shapes) ≡ table) (h : IsClassTable rows shapes (structures_of rows shapes))
    (inside : IsShapeWithin (length table.0) (length (structures_in table)) x)
    (e : new ≡ cond (list_any (same_shape x) shapes) shapes (shapes ++ x ∷ [])) where
  here : IsShapeWithin (length rows) (length (structures_of rows shapes)) x
  here = let P : (List (List (List ℕ)) × List Shape) → Type 0 =
      λ t. IsShapeWithin (length t.0) (length (structures_in t)) x in subst P (sym seen) inside

  pub table_kept : IsClassTable rows new (structures_of rows new)
  table_kept = class_table rows shapes new x h here e

  pub table_grows : Grows (constant false) (structures_in table) (structures_of rows new) 1
  table_grows = let P : (List (List (List ℕ)) × List Shape) → Type 0 =
      λ t. Grows (constant false) (structures_in t) (structures_of rows new) 1 in
      subst P seen (class_grows rows shapes new x h here e)

  pub table_stands : (i : ℕ) → i ≡ position_or_len (same_shape x) shapes
      → Stands (constant false) (structures_of rows new) i (grown table.0 (structures_in table) x)
  table_stands i at =
      let P : (List (List (List ℕ)) × List Shape) → Type 0 = λ t.
      Stands (constant false) (structures_of rows new) i (grown t.0 (structures_in t) x) in
      subst P seen (class_stands rows shapes new x h here e i at)
