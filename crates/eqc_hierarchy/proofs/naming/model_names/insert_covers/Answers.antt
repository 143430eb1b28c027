use Rattle.std.proofs.Common.{◌≡◌, ◌++◌, ◌∷◌, [], ◌∙◌, ap, map, List, ℕ}
use Rattle.std.proofs.lemmas.List.{map-append}
use Rattle.smallvec.specs.SmallVec.{SmallVec}
use Rattle.std.specs.List.{fold}
use Rattle.eqc_blif.specs.Netlist.{CoverOf}
use Rattle.eqc_netlist.specs.NameSets.{with_name}
use Rattle.eqc_hierarchy.specs.Columns.{places_in}
use Rattle.eqc_hierarchy.proofs.NameSetLaws.{cover_put, columns_grown}
use Rattle.eqc_hierarchy.proofs.naming.model_names.insert_covers.Goals as goal

pub covers-preserved : goal.covers-preserved
covers-preserved c =
    let items = λ (v : SmallVec ℕ). v.items in
    let one = c.cover-item.result in
    let columns : c.deref-in-covers.result.now ≡ one.columns = c.deref-in-covers.ensures.value
    ∙ ap (λ (o : CoverOf). o.columns) c.cover.view_is in
    let first : c.insert_columns.new.names ≡ fold with_name c.covers.names one.columns =
    c.in_ok-places.ensures.names ∙ ap (fold with_name c.covers.names) columns in
    let last : c.place.new.self ≡ with_name c.insert_columns.new.names one.output =
    c.in_ok-output.ensures.names
    ∙ ap (λ (o : CoverOf). with_name c.insert_columns.new.names o.output) c.cover.view_is in
    let places = c.in_ok-places.places.items in
    let here : (later : List (List ℕ))
    → places ≡ places_in (fold with_name c.insert_columns.new.names later) one.columns =
    λ later.
    c.in_ok-places.ensures.places later
    ∙ ap (places_in (fold with_name c.insert_columns.new.names later)) columns in
    let grown : map items c.push.new.self.items ≡ map items c.covers.columns.items ++ places ∷ [] =
    ap (map items) c.in_ok-push.ensures.items ∙ map-append items c.covers.columns.items
    (c.in_ok-places.places ∷ []) in
    record {
      names =
          cover_put c.args.names.now c.covers.names c.insert_columns.new.names c.place.new.self
          c.args.covers.now c.covers.cover-index one
          c.covers-test.true c.cover-item.is c.covers.invariant.names first last;
      columns =
          columns_grown c.covers.names c.insert_columns.new.names c.place.new.self
          (map items c.args.columns.now.items)
          (map items c.covers.columns.items) (map items c.push.new.self.items) c.args.covers.now
          c.covers.cover-index one places
          c.covers-test.true c.cover-item.is c.covers.invariant.columns first here last grown;
    }
