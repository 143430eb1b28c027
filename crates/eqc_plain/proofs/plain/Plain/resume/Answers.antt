use Rattle.std.proofs.Common.{◌≡◌, ◌∙◌, ◌++◌, ◌∷◌, [], rules}
use Rattle.eqc_plain.specs.declared.task.Task.TheVariants.{Low, High}
use Rattle.eqc_plain.specs.Meaning.{meaning_of}
use Rattle.eqc_plain.proofs.Extending.{extends_trans}
use Rattle.eqc_plain.proofs.Meanings.{store_stays}
use Rattle.eqc_plain.proofs.Tasks.{low_done, top_done, task_done, less_owed}
use Rattle.eqc_plain.proofs.plain.Plain.resume.Goals as goal

pub returns-in-Low-clause-turn : goal.returns-in-Low-clause-turn
returns-in-Low-clause-turn c =
    let s = c.loop-task.self in
    let w = c.args.whole.now.value in
    let i = c.loop-task.invariant in
    let was : s.tasks.items ≡ c.pop.new.self.items ++ Low c.in-Low.f c.in-Low.g c.in-Low.variable
    c.in-Low.f_high c.in-Low.g_high ∷ [] = search rules in
    let is : c.push_reserved.new.self.items ≡ c.pop.new.self.items ++ High c.in-Low.f c.in-Low.g
    c.in-Low.variable c.loop-task.x ∷ [] = search rules in
    low_done (meaning_of s.store.variables s.store.nodes) c.args.op s.tasks.items
    c.pop.new.self.items c.push_reserved.new.self.items
    c.args.self.now.tasks.items w.0 w.1 c.in-Low.f c.in-Low.g c.in-Low.variable c.in-Low.f_high
    c.in-Low.g_high c.loop-task.x was is i.less
    i.leads

pub finish-requires : goal.finish-requires
finish-requires c =
    let s = c.loop-task.self in
    let w = c.args.whole.now.value in
    let was : s.tasks.items ≡ c.pop.new.self.items ++ High c.in-High.f c.in-High.g
    c.in-High.variable c.in-High.low ∷ [] = search rules in
    (top_done (meaning_of s.store.variables s.store.nodes) c.args.op s.tasks.items
    c.pop.new.self.items w.0 w.1 c.in-High.f c.in-High.g
    c.in-High.variable c.in-High.low c.loop-task.x was c.loop-task.invariant.leads).both

pub loop-task-preserved : goal.loop-task-preserved
loop-task-preserved c =
    let s = c.loop-task.self in
    let n = c.finish.new.self.store in
    let w = c.args.whole.now.value in
    let i = c.loop-task.invariant in
    let e = c.finish.ensures.store in
    let was : s.tasks.items ≡ c.pop.new.self.items ++ High c.in-High.f c.in-High.g
    c.in-High.variable c.in-High.low ∷ [] = search rules in
    let m = meaning_of s.store.variables s.store.nodes in
    let top = top_done m c.args.op s.tasks.items c.pop.new.self.items w.0 w.1 c.in-High.f
    c.in-High.g c.in-High.variable c.in-High.low c.loop-task.x was i.leads in
    let leads =
    task_done m (meaning_of n.variables n.nodes) c.args.op c.pop.new.self.items w.0 w.1 c.in-High.f
    c.in-High.g c.in-High.variable
    c.in-High.low c.loop-task.x c.in_ok-x-in-High.x (store_stays s.store n e) top
    c.in_ok-x-in-High.ensures.ok in
    let less =
    less_owed s.store.variables n.variables c.pop.new.self.items s.tasks.items
    c.args.self.now.tasks.items (High c.in-High.f c.in-High.g c.in-High.variable c.in-High.low)
    e.variables was i.less in
    let x = extends_trans c.args.self.now.store s.store n i.store e in
    record {
      store = record { grows = x.grows; keeps = x.keeps; variables = x.variables; limit = x.limit };
      leads = rw c.finish.ensures.tasks leads;
      less = rw c.finish.ensures.tasks less;
      turns = c.finish.ensures.turns ∙ i.turns;
    }
