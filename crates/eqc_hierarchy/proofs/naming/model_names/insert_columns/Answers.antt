use Rattle.std.proofs.Common.{◌∙◌, ap}
use Rattle.eqc_netlist.specs.NameSets.{with_name}
use Rattle.eqc_hierarchy.proofs.NameSetLaws.{put_more, places_more}
use Rattle.eqc_hierarchy.proofs.naming.model_names.insert_columns.Goals as goal

pub columns-preserved : goal.columns-preserved
columns-preserved c = record {
  names =
      c.in_ok-place_near.ensures.names
      ∙ (ap (λ ns. with_name ns c.column-item.result) c.columns.invariant.names
      ∙ put_more c.args.names.now c.args.columns.now c.columns.column-index c.column-item.result
      c.columns-test.true
      c.column-item.is);
  places =
      places_more c.columns.names c.place_near.new.self c.columns.places.items c.push.new.self.items
      c.args.columns.now c.columns.column-index
      c.in_ok-place_near.field-0 c.column-item.result c.columns-test.true c.column-item.is
      c.columns.invariant.places
      c.in_ok-place_near.ensures.names c.in_ok-place_near.ensures.place c.in_ok-push.ensures.ok;
}
