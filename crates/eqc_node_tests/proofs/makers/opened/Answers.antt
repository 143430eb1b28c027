use Rattle.std.proofs.Common.{[], ◌∷◌}
use Rattle.eqc_arena.proofs.Changing.{came_held, goes}
use Rattle.eqc_node_tests.proofs.makers.opened.Goals as goal

pub give_back-requires-clause-held : goal.give_back-requires-clause-held
give_back-requires-clause-held g c = came_held c.in-Ok.low.number (c.in-Ok.high.number ∷ [])
    c.in-Ok.ensures.held

pub give_back-requires-2-clause-held : goal.give_back-requires-2-clause-held
give_back-requires-2-clause-held g c = came_held c.in-Ok.high.number [] (goes c.in-Ok.low.number
    (c.in-Ok.high.number ∷ []) c.in-Ok.ensures.held c.give_back.ensures)

pub returns : goal.returns
returns g c = goes c.in-Ok.high.number [] (goes c.in-Ok.low.number (c.in-Ok.high.number ∷ [])
    c.in-Ok.ensures.held c.give_back.ensures) c.give_back-2.ensures
