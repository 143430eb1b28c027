use Rattle.eqc_team_tests.proofs.refusals.two_build_one.Goals as goal

pub lead_of-lead-requires-clause-team : goal.lead_of-lead-requires-clause-team
lead_of-lead-requires-clause-team g c = (100, 64, 2, c.requires.team)
