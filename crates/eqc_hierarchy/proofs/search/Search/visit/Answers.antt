use Rattle.std.proofs.Common.{rules, arith, vec_len, ◌<◌, ◌-◌, ◌++◌, ◌∷◌, [], ℕ, List, take, sym}
use Rattle.std.proofs.Common.{ap, ◌∙◌}
use Rattle.eqc_hierarchy.specs.Searching.{on}
use Rattle.std.proofs.lemmas.List.{length-take-le}
use Rattle.eqc_hierarchy.proofs.VisitLaws as laws
use Rattle.eqc_hierarchy.proofs.search.Search.visit.Goals as goal

pub path-init : goal.path-init
path-init g c =
    laws.visit_root (g.G.Graph.deps c.args.graph.now) (g.G.Graph.size c.args.graph.now) c.args.root
    c.args.self.now.order.items
    c.args.self.now.stages.items c.enter.new.self.stages.items c.enter.new.self.order.items
    c.enter.new.path.items c.requires.searching
    c.requires.within (search rules) c.in_ok-enter.ensures.stages c.in_ok-enter.ensures.order
    (search rules)

pub dependency-requires : goal.dependency-requires
dependency-requires g c =
    laws.node_within (g.G.Graph.deps c.args.graph.now) (g.G.Graph.size c.args.graph.now) c.args.root
    c.args.self.now.order.items
    c.path.self.stages.items c.path.path.items (take (c.len-top.result - 1) c.path.path.items)
    c.path.self.order.items
    c.index.result.now c.path.invariant
    (laws.split_top c.path.path.items c.len-top.result c.index.result.now (vec_len c.path.path)
    c.is_empty.result c.path.path.ok.0
    c.len-top.ensures c.is_empty.ensures c.path-test.true c.index.ensures)

pub leave-requires : goal.leave-requires
leave-requires g c =
    let inside : c.index.result.now.0 < g.G.Graph.size c.args.graph.now =
    laws.node_within (g.G.Graph.deps c.args.graph.now) (g.G.Graph.size c.args.graph.now) c.args.root
    c.args.self.now.order.items
    c.path.self.stages.items c.path.path.items (take (c.len-top.result - 1) c.path.path.items)
    c.path.self.order.items
    c.index.result.now c.path.invariant
    (laws.split_top c.path.path.items c.len-top.result c.index.result.now (vec_len c.path.path)
    c.is_empty.result c.path.path.ok.0
    c.len-top.ensures c.is_empty.ensures c.path-test.true c.index.ensures) in
    omega (arith, c.path.invariant.searching.size, c.path.self.stages.ok.0)

pub path-smaller-in_default : goal.path-smaller-in_default
path-smaller-in_default g c =
    laws.less_leave (g.G.Graph.deps c.args.graph.now) (g.G.Graph.size c.args.graph.now) c.args.root
    c.args.self.now.order.items
    c.path.self.stages.items c.leave.new.self.stages.items c.path.path.items
    (take (c.len-top.result - 1) c.path.path.items)
    c.leave.new.path.items c.path.self.order.items c.index.result.now c.path.invariant
    (laws.split_top c.path.path.items c.len-top.result c.index.result.now (vec_len c.path.path)
    c.is_empty.result c.path.path.ok.0
    c.len-top.ensures c.is_empty.ensures c.path-test.true c.index.ensures)
    c.in_ok-leave.ensures.stages (search rules)

pub path-preserved-in_default : goal.path-preserved-in_default
path-preserved-in_default g c =
    laws.visit_leave (g.G.Graph.deps c.args.graph.now) (g.G.Graph.size c.args.graph.now) c.args.root
    c.args.self.now.order.items
    c.path.self.stages.items c.leave.new.self.stages.items c.path.path.items
    (take (c.len-top.result - 1) c.path.path.items)
    c.leave.new.path.items c.path.self.order.items c.leave.new.self.order.items c.index.result.now
    c.path.invariant
    (laws.split_top c.path.path.items c.len-top.result c.index.result.now (vec_len c.path.path)
    c.is_empty.result c.path.path.ok.0
    c.len-top.ensures c.is_empty.ensures c.path-test.true c.index.ensures)
    (sym c.dependency.ensures.value ∙ c.in_default.is)
    c.in_ok-leave.ensures.stages (search rules) c.in_ok-leave.ensures.order

pub index-requires-in-path : goal.index-requires-in-path
index-requires-in-path g c =
    let inside : c.in-Some.next < g.G.Graph.size c.args.graph.now =
    (c.requires.closed c.index.result.now.0 c.index.result.now.1 c.in-Some.next
    (laws.node_within (g.G.Graph.deps c.args.graph.now) (g.G.Graph.size c.args.graph.now)
    c.args.root c.args.self.now.order.items
    c.path.self.stages.items c.path.path.items (take (c.len-top.result - 1) c.path.path.items)
    c.path.self.order.items
    c.index.result.now c.path.invariant
    (laws.split_top c.path.path.items c.len-top.result c.index.result.now (vec_len c.path.path)
    c.is_empty.result
    c.path.path.ok.0 c.len-top.ensures c.is_empty.ensures c.path-test.true c.index.ensures))
    (sym c.dependency.ensures.value ∙ c.in-Some.is)) in
    omega (arith, c.path.invariant.searching.size, c.path.self.stages.ok.0)

pub enter-requires-in-Fresh : goal.enter-requires-in-Fresh
enter-requires-in-Fresh g c =
    let inside : c.in-Some.next < g.G.Graph.size c.args.graph.now =
    (c.requires.closed c.index.result.now.0 c.index.result.now.1 c.in-Some.next
    (laws.node_within (g.G.Graph.deps c.args.graph.now) (g.G.Graph.size c.args.graph.now)
    c.args.root c.args.self.now.order.items
    c.path.self.stages.items c.path.path.items (take (c.len-top.result - 1) c.path.path.items)
    c.path.self.order.items
    c.index.result.now c.path.invariant
    (laws.split_top c.path.path.items c.len-top.result c.index.result.now (vec_len c.path.path)
    c.is_empty.result
    c.path.path.ok.0 c.len-top.ensures c.is_empty.ensures c.path-test.true c.index.ensures))
    (sym c.dependency.ensures.value ∙ c.in-Some.is)) in
    omega (arith, c.path.invariant.searching.size, c.path.self.stages.ok.0)

pub path-smaller-in-Continue-branch-3 : goal.path-smaller-in-Continue-branch-3
path-smaller-in-Continue-branch-3 g c =
    laws.less_enter (g.G.Graph.deps c.args.graph.now) (g.G.Graph.size c.args.graph.now) c.args.root
    c.args.self.now.order.items
    c.path.self.stages.items c.enter-in-Fresh.new.self.stages.items c.path.path.items
    c.enter-in-Fresh.new.path.items
    c.path.self.order.items c.in-Some.next c.path.invariant
    (c.requires.closed c.index.result.now.0 c.index.result.now.1 c.in-Some.next
    (laws.node_within (g.G.Graph.deps c.args.graph.now) (g.G.Graph.size c.args.graph.now)
    c.args.root c.args.self.now.order.items
    c.path.self.stages.items c.path.path.items (take (c.len-top.result - 1) c.path.path.items)
    c.path.self.order.items
    c.index.result.now c.path.invariant
    (laws.split_top c.path.path.items c.len-top.result c.index.result.now (vec_len c.path.path)
    c.is_empty.result
    c.path.path.ok.0 c.len-top.ensures c.is_empty.ensures c.path-test.true c.index.ensures))
    (sym c.dependency.ensures.value ∙ c.in-Some.is))
    (laws.read_stage c.path.self.stages.items (g.G.Graph.size c.args.graph.now) c.in-Some.next
    c.index-in-path.result.now
    c.path.invariant.searching.size
    (c.requires.closed c.index.result.now.0 c.index.result.now.1 c.in-Some.next
    (laws.node_within (g.G.Graph.deps c.args.graph.now) (g.G.Graph.size c.args.graph.now)
    c.args.root
    c.args.self.now.order.items c.path.self.stages.items c.path.path.items
    (take (c.len-top.result - 1) c.path.path.items) c.path.self.order.items c.index.result.now
    c.path.invariant
    (laws.split_top c.path.path.items c.len-top.result c.index.result.now (vec_len c.path.path)
    c.is_empty.result
    c.path.path.ok.0 c.len-top.ensures c.is_empty.ensures c.path-test.true c.index.ensures))
    (sym c.dependency.ensures.value ∙ c.in-Some.is)) c.index-in-path.ensures
    ∙ c.in-Fresh.is) c.in_ok-enter-in-Fresh.ensures.stages c.in_ok-enter-in-Fresh.ensures.path

pub path-preserved-in-Continue-branch-3 : goal.path-preserved-in-Continue-branch-3
path-preserved-in-Continue-branch-3 g c =
    laws.visit_enter (g.G.Graph.deps c.args.graph.now) (g.G.Graph.size c.args.graph.now) c.args.root
    c.args.self.now.order.items
    c.path.self.stages.items c.enter-in-Fresh.new.self.stages.items c.path.path.items
    (take (c.len-top.result - 1) c.path.path.items)
    c.enter-in-Fresh.new.path.items c.path.self.order.items c.enter-in-Fresh.new.self.order.items
    c.index.result.now c.in-Some.next
    c.path.invariant
    (laws.split_top c.path.path.items c.len-top.result c.index.result.now (vec_len c.path.path)
    c.is_empty.result c.path.path.ok.0
    c.len-top.ensures c.is_empty.ensures c.path-test.true c.index.ensures)
    (sym c.dependency.ensures.value ∙ c.in-Some.is)
    (c.requires.closed c.index.result.now.0 c.index.result.now.1 c.in-Some.next
    (laws.node_within (g.G.Graph.deps c.args.graph.now) (g.G.Graph.size c.args.graph.now)
    c.args.root c.args.self.now.order.items
    c.path.self.stages.items c.path.path.items (take (c.len-top.result - 1) c.path.path.items)
    c.path.self.order.items
    c.index.result.now c.path.invariant
    (laws.split_top c.path.path.items c.len-top.result c.index.result.now (vec_len c.path.path)
    c.is_empty.result
    c.path.path.ok.0 c.len-top.ensures c.is_empty.ensures c.path-test.true c.index.ensures))
    (sym c.dependency.ensures.value ∙ c.in-Some.is))
    (laws.read_stage c.path.self.stages.items (g.G.Graph.size c.args.graph.now) c.in-Some.next
    c.index-in-path.result.now
    c.path.invariant.searching.size
    (c.requires.closed c.index.result.now.0 c.index.result.now.1 c.in-Some.next
    (laws.node_within (g.G.Graph.deps c.args.graph.now) (g.G.Graph.size c.args.graph.now)
    c.args.root
    c.args.self.now.order.items c.path.self.stages.items c.path.path.items
    (take (c.len-top.result - 1) c.path.path.items) c.path.self.order.items c.index.result.now
    c.path.invariant
    (laws.split_top c.path.path.items c.len-top.result c.index.result.now (vec_len c.path.path)
    c.is_empty.result
    c.path.path.ok.0 c.len-top.ensures c.is_empty.ensures c.path-test.true c.index.ensures))
    (sym c.dependency.ensures.value ∙ c.in-Some.is)) c.index-in-path.ensures
    ∙ c.in-Fresh.is) c.in_ok-enter-in-Fresh.ensures.stages c.in_ok-enter-in-Fresh.ensures.path
    c.in_ok-enter-in-Fresh.ensures.order

pub returns-in-Open-clause-cyclic : goal.returns-in-Open-clause-cyclic
returns-in-Open-clause-cyclic g c = λ _.
    laws.visit_circle (g.G.Graph.deps c.args.graph.now) (g.G.Graph.size c.args.graph.now)
    c.args.root c.args.self.now.order.items
    c.path.self.stages.items c.path.path.items (take (c.len-top.result - 1) c.path.path.items)
    c.path.self.order.items
    c.index.result.now c.in-Some.next c.path.invariant
    (laws.split_top c.path.path.items c.len-top.result c.index.result.now (vec_len c.path.path)
    c.is_empty.result c.path.path.ok.0
    c.len-top.ensures c.is_empty.ensures c.path-test.true c.index.ensures)
    (sym c.dependency.ensures.value ∙ c.in-Some.is)
    (laws.read_stage c.path.self.stages.items (g.G.Graph.size c.args.graph.now) c.in-Some.next
    c.index-in-path.result.now
    c.path.invariant.searching.size
    (c.requires.closed c.index.result.now.0 c.index.result.now.1 c.in-Some.next
    (laws.node_within (g.G.Graph.deps c.args.graph.now) (g.G.Graph.size c.args.graph.now)
    c.args.root
    c.args.self.now.order.items c.path.self.stages.items c.path.path.items
    (take (c.len-top.result - 1) c.path.path.items) c.path.self.order.items c.index.result.now
    c.path.invariant
    (laws.split_top c.path.path.items c.len-top.result c.index.result.now (vec_len c.path.path)
    c.is_empty.result
    c.path.path.ok.0 c.len-top.ensures c.is_empty.ensures c.path-test.true c.index.ensures))
    (sym c.dependency.ensures.value ∙ c.in-Some.is)) c.index-in-path.ensures
    ∙ c.in-Open.is)

pub returns-in-Open-clause-trail : goal.returns-in-Open-clause-trail
returns-in-Open-clause-trail g c = λ _.
    laws.visit_walk (g.G.Graph.deps c.args.graph.now) (g.G.Graph.size c.args.graph.now) c.args.root
    c.args.self.now.order.items
    c.path.self.stages.items c.path.path.items (take (c.len-top.result - 1) c.path.path.items)
    c.path.self.order.items
    c.index.result.now c.in-Some.next c.in_ok-self-in-Open.field-0.items c.path.invariant
    (laws.split_top c.path.path.items c.len-top.result c.index.result.now (vec_len c.path.path)
    c.is_empty.result c.path.path.ok.0
    c.len-top.ensures c.is_empty.ensures c.path-test.true c.index.ensures)
    (sym c.dependency.ensures.value ∙ c.in-Some.is)
    (laws.read_stage c.path.self.stages.items (g.G.Graph.size c.args.graph.now) c.in-Some.next
    c.index-in-path.result.now
    c.path.invariant.searching.size
    (c.requires.closed c.index.result.now.0 c.index.result.now.1 c.in-Some.next
    (laws.node_within (g.G.Graph.deps c.args.graph.now) (g.G.Graph.size c.args.graph.now)
    c.args.root
    c.args.self.now.order.items c.path.self.stages.items c.path.path.items
    (take (c.len-top.result - 1) c.path.path.items) c.path.self.order.items c.index.result.now
    c.path.invariant
    (laws.split_top c.path.path.items c.len-top.result c.index.result.now (vec_len c.path.path)
    c.is_empty.result
    c.path.path.ok.0 c.len-top.ensures c.is_empty.ensures c.path-test.true c.index.ensures))
    (sym c.dependency.ensures.value ∙ c.in-Some.is)) c.index-in-path.ensures
    ∙ c.in-Open.is) (c.in_ok-self-in-Open.ensures ∙ ap (λ (l : List (ℕ × ℕ)). on l ++ c.in-Some.next
    ∷ []) c.deref.ensures.value)

pub path-smaller : goal.path-smaller
path-smaller g c =
    laws.less_advance (g.G.Graph.deps c.args.graph.now) (g.G.Graph.size c.args.graph.now)
    c.path.self.stages.items c.path.path.items
    (take (c.len-top.result - 1) c.path.path.items) c.index.result.now c.in-Some.next
    (laws.split_top c.path.path.items c.len-top.result c.index.result.now (vec_len c.path.path)
    c.is_empty.result c.path.path.ok.0
    c.len-top.ensures c.is_empty.ensures c.path-test.true c.index.ensures)
    (sym c.dependency.ensures.value ∙ c.in-Some.is)
    (c.len-top.result - 1) (search (rules, length-take-le))

pub path-preserved : goal.path-preserved
path-preserved g c =
    laws.visit_advance (g.G.Graph.deps c.args.graph.now) (g.G.Graph.size c.args.graph.now)
    c.args.root c.args.self.now.order.items
    c.path.self.stages.items c.path.path.items (take (c.len-top.result - 1) c.path.path.items)
    c.path.self.order.items
    c.index.result.now c.in-Some.next c.path.invariant
    (laws.split_top c.path.path.items c.len-top.result c.index.result.now (vec_len c.path.path)
    c.is_empty.result c.path.path.ok.0
    c.len-top.ensures c.is_empty.ensures c.path-test.true c.index.ensures)
    (sym c.dependency.ensures.value ∙ c.in-Some.is)
    (laws.read_stage c.path.self.stages.items (g.G.Graph.size c.args.graph.now) c.in-Some.next
    c.index-in-path.result.now
    c.path.invariant.searching.size
    (c.requires.closed c.index.result.now.0 c.index.result.now.1 c.in-Some.next
    (laws.node_within (g.G.Graph.deps c.args.graph.now) (g.G.Graph.size c.args.graph.now)
    c.args.root
    c.args.self.now.order.items c.path.self.stages.items c.path.path.items
    (take (c.len-top.result - 1) c.path.path.items) c.path.self.order.items c.index.result.now
    c.path.invariant
    (laws.split_top c.path.path.items c.len-top.result c.index.result.now (vec_len c.path.path)
    c.is_empty.result
    c.path.path.ok.0 c.len-top.ensures c.is_empty.ensures c.path-test.true c.index.ensures))
    (sym c.dependency.ensures.value ∙ c.in-Some.is)) c.index-in-path.ensures
    ∙ c.in-Done.is) (c.len-top.result - 1) (search (rules, length-take-le))

pub returns-clause-searching : goal.returns-clause-searching
returns-clause-searching g c = λ _.
    laws.visit_ended (g.G.Graph.deps c.args.graph.now) (g.G.Graph.size c.args.graph.now) c.args.root
    c.args.self.now.order.items
    c.path.self.stages.items c.path.path.items c.path.self.order.items c.path.invariant
    (search rules)

pub returns-clause-placed : goal.returns-clause-placed
returns-clause-placed g c = λ _.
    laws.root_placed (g.G.Graph.deps c.args.graph.now) (g.G.Graph.size c.args.graph.now) c.args.root
    c.args.self.now.order.items
    c.path.self.stages.items c.path.path.items c.path.self.order.items c.path.invariant
    (search rules)

pub returns-clause-kept : goal.returns-clause-kept
returns-clause-kept g c = λ _. c.path.invariant.kept
