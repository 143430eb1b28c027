use Rattle.eqc_team_tests.proofs.builders.first.Goals as goal

pub lead_of-requires-clause-team : goal.lead_of-requires-clause-team
lead_of-requires-clause-team g c = (
  c.args.nodes,
  c.args.cells,
  c.args.workers,
  c.in-Ok.ensures.team,
)
