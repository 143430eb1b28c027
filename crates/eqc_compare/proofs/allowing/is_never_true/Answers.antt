use Rattle.std.proofs.Common.{sym, ◌∙◌}
use Rattle.eqc_build.proofs.TableLaws.{owned_held, owned_moves}
use Rattle.eqc_compare.proofs.allowing.is_never_true.Goals as goal

pub is_false-requires : goal.is_false-requires
is_false-requires g c = owned_held g.D.References.entry _ c.complete.new.self.table _ _
    (owned_moves g.D.References.entry _ _ _ _ c.requires.kept.owned c.complete.ensures.moves)
    c.get.ensures

pub returns-clause-never : goal.returns-clause-never
returns-clause-never g c =
    let says = c.complete.ensures.built.values c.args.step c.get.result.now c.get.ensures in (
      λ never a. sym (says a) ∙ c.is_false.ensures.0 never a,
      λ all. c.is_false.ensures.1
          (λ a. says a ∙ all a),
    )
