-- Laws of partners, and of columns.
use Rattle.std.proofs.Common.{◌≡◌, ℕ, ◌+◌, ◌<◌, ◌≤◌, Bool, true, false, not, List, [], ◌∷◌, ◌++◌}
use Rattle.std.proofs.Common.{length, get_or, take, map, Option, Some, IfSome, refl, sym, ◌∙◌, ap}
use Rattle.std.proofs.Common.{arith}
use Rattle.std.proofs.lemmas.List.{take_more, take_all, map-append}
use Rattle.eqc_xag.specs.declared.node.Node.{Node}
use Rattle.eqc_xag.specs.Graph.{literal_value}
use Rattle.eqc_pair.specs.PairOf.{PairOf, input_values}
use Rattle.eqc_build.specs.Building.{reference_of}
use Rattle.eqc_build.specs.Steps.{StepsOf}
use Rattle.std.specs.Prelude.{All}
use Rattle.std.proofs.lemmas.List.Elements.{All-push}
use Rattle.eqc_place.specs.Values.{AreValues}
use Rattle.eqc_place.specs.Places.{AreApart, AreLocated, AreProved, IsPartner, IsPlace, IsColumn}
use Rattle.eqc_place.specs.Places.{AreColumns}
use Rattle.eqc_place.specs.declared.place.Partner.{Partner}
use Rattle.eqc_place.specs.declared.place.Column.{Column}
use Rattle.eqc_place.specs.declared.place.Places.{Places}

-- steps of one literal are partners
pub equal_partner : (p : PairOf) (table : List (Option ℕ)) (j k x y : ℕ) → AreProved p table
    → reference_of table j ≡ Some x → reference_of table k ≡ Some y → x ≡ y →
    IsPartner p j (record { step = k; is_opposite = false })
equal_partner p table j k x y proved here there same = record {
  value = λ a allowed. sym ((proved.are.each j x here).value a allowed)
      ∙ (ap (literal_value proved.nodes a) same ∙ (proved.are.each k y there).value a allowed);
}

-- steps of opposite literals are partners
pub opposite_partner : (p : PairOf) (table : List (Option ℕ)) (j k x y : ℕ) → AreProved p table
    → reference_of table j ≡ Some x → reference_of table k ≡ Some y →
    ((nodes : List Node) (a : ℕ → Bool) → literal_value nodes a x ≡ not (literal_value nodes a y))
    → IsPartner p j (record { step = k; is_opposite = true })
opposite_partner p table j k x y proved here there opposite = record {
  value = λ a allowed. sym ((proved.are.each j x here).value a allowed) ∙ (opposite proved.nodes a
      ∙ ap not ((proved.are.each k y there).value a allowed));
}

-- the first c columns of a step
pub record IsListing (p : PairOf) (a : ℕ → Bool) (steps : List ℕ) (c : ℕ) (columns : List Column) :
    Type 0 where
  pub same : map (λ (x : Column). x.step) columns ≡ take c steps
  pub each : All (IsColumn p a) columns

pub listing_begins : (p : PairOf) (a : ℕ → Bool) (steps : List ℕ) → IsListing p a steps 0 []
listing_begins p a steps = record {
  same = refl;
  each = λ k d inside. absurd (omega (arith, inside));
}

pub listing_more : (p : PairOf) (a : ℕ → Bool) (steps : List ℕ) (c : ℕ) (old new : List Column)
    (x : Column) → c < length steps → IsListing p a steps c old →
    x.step ≡ get_or steps c 0 → IsColumn p a x → new ≡ old ++ x ∷ []
    → IsListing p a steps (c + 1) new
listing_more p a steps c old new x inside so_far same here is = rw is (record {
  same = map-append (λ (y : Column). y.step) old (x ∷ []) ∙ (rw (so_far.same, same) refl
      ∙ sym (take_more steps c 0 inside));
  each = All-push (IsColumn p a) old x so_far.each here;
})

pub listing_whole : (p : PairOf) (a : ℕ → Bool) (steps : List ℕ) (c : ℕ) (columns : List Column)
    → length steps ≤ c → IsListing p a steps c columns → AreColumns p a steps columns
listing_whole p a steps c columns whole so_far = record {
  same = so_far.same
      ∙ take_all c steps whole;
  each = so_far.each;
}

-- a column whose value is in a table of values
pub column_of : (p : PairOf) (a : ℕ → Bool) (table : List Bool) (k : ℕ) (q : Option Partner)
    → AreValues p a table → k < length table →
    IfSome q (IsPartner p k) → IfSome q (λ (r : Partner). AreApart p k r.step)
    → IsColumn p a (record { step = k; value = get_or table k false; partner = q })
column_of p a table k q are inside partner apart = record {
  value = are.each k inside;
  partner =
      partner;
  apart = apart;
}

-- places of some steps are places of their pair
pub located : (g : StepsOf) (values : List Bool) (places : Places)
    → All (IsPlace g (input_values g.pair values)) places.each.items → length places.mendings.items
    ≡ length places.each.items →
    AreLocated g.pair values places
located g values places each mendings = record {
  steps = g;
  pair = refl;
  each = each;
  mendings =
      mendings;
}
