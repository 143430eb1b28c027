use Rattle.eqc_hierarchy_tests.proofs.random_hierarchies.+output_values.Given as goal

abbrev pub decreases-output_values : goal.decreases-output_values
decreases-output_values l = l.levels
