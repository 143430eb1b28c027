use Rattle.std.proofs.Common.{◌≡◌, ◌+◌, ◌-◌, ◌≤◌, vec_len}
use Rattle.std.specs.List.{All}
use Rattle.eqc_guard.specs.Rule.{sizes_of}
use Rattle.eqc_apply.specs.Teaming.{IsLead, AreOthers, forest_of, turns_in}
use Rattle.eqc_apply.proofs.members.team_with.Given as goal

abbrev pub invariant-loop : goal.invariant-loop
invariant-loop l = record {
  some : 1 ≤ l.counter;
  lead : IsLead l.fn.vars (sizes_of l.fn.vars l.fn.nodes l.fn.cells l.fn.workers) l.counter l.lead;
  others : AreOthers l.fn.vars (sizes_of l.fn.vars l.fn.nodes l.fn.cells l.fn.workers)
      (l.counter - 1) (forest_of l.lead) l.members.items;
  count : vec_len l.members + 1 ≡ l.counter;
  turns : turns_in l.lead ≡ l.fn.allowance.turns;
  allowed : All (λ a. turns_in a ≡ l.fn.allowance.turns) l.members.items;
}
