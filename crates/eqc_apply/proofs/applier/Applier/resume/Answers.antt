use Rattle.std.proofs.Common.{◌≡◌, ◌≤◌, ℕ, ◌++◌, ◌∷◌, [], Option, IfSome, sym, subst, ◌∙◌, rules}
use Rattle.eqc_plain.specs.Combining.{IsResult}
use Rattle.eqc_plain.specs.Tasks.{owed_all}
use Rattle.eqc_plain.specs.declared.task.Task.TheVariants.{Low, High}
use Rattle.eqc_plain.proofs.Tasks.{low_done, top_done, task_done, less_owed}
use Rattle.eqc_apply.specs.Meaning.{meaning_in}
use Rattle.eqc_apply.proofs.Meanings.{extends_trans, names_stay}
use Rattle.eqc_apply.proofs.Turning.{high_there, both_done, leads_to_stays}
use Rattle.eqc_apply.proofs.applier.Applier.resume.Goals as goal

pub take_back-requires-clause-f : goal.take_back-requires-clause-f
take_back-requires-clause-f g c =
    let s = c.loop-task.self in
    let w = c.args.whole.now.value in
    let i = c.loop-task.invariant in
    let m = meaning_in s.names in
    let was : s.tasks.items ≡ c.pop.new.self.items ++ Low c.in-Low.f c.in-Low.g c.in-Low.variable
    c.in-Low.f_high c.in-Low.g_high ∷ [] = search rules in
    (high_there m c.args.op s.tasks.items c.pop.new.self.items w.0 w.1 c.in-Low.f c.in-Low.g
    c.in-Low.variable c.in-Low.f_high c.in-Low.g_high c.loop-task.x was i.leads).0

pub take_back-requires-clause-g : goal.take_back-requires-clause-g
take_back-requires-clause-g g c =
    let s = c.loop-task.self in
    let w = c.args.whole.now.value in
    let i = c.loop-task.invariant in
    let m = meaning_in s.names in
    let was : s.tasks.items ≡ c.pop.new.self.items ++ Low c.in-Low.f c.in-Low.g c.in-Low.variable
    c.in-Low.f_high c.in-Low.g_high ∷ [] = search rules in
    (high_there m c.args.op s.tasks.items c.pop.new.self.items w.0 w.1 c.in-Low.f c.in-Low.g
    c.in-Low.variable c.in-Low.f_high c.in-Low.g_high c.loop-task.x was i.leads).1

pub returns-in_err-high-in-Low-clause-names : goal.returns-in_err-high-in-Low-clause-names
returns-in_err-high-in-Low-clause-names g c = extends_trans c.args.self.now.names
    c.loop-task.self.names c.take_back.new.self.names c.loop-task.invariant.names
    c.take_back.ensures.names

pub finish-requires : goal.finish-requires
finish-requires g c =
    let s = c.loop-task.self in
    let w = c.args.whole.now.value in
    let i = c.loop-task.invariant in
    let m = meaning_in s.names in
    let was : s.tasks.items ≡ c.pop.new.self.items ++ Low c.in-Low.f c.in-Low.g c.in-Low.variable
    c.in-Low.f_high c.in-Low.g_high ∷ [] = search rules in
    let came : IsResult (meaning_in c.take_back.new.self.names) c.args.op c.in-Low.f_high
    c.in-Low.g_high c.in-Some-2.high =
    subst (λ (o : Option ℕ). IfSome o (IsResult (meaning_in c.take_back.new.self.names) c.args.op
    c.in-Low.f_high c.in-Low.g_high)) c.in-Some-2.is c.in_ok-high-in-Low.ensures.ok in
    (both_done m (meaning_in c.take_back.new.self.names) c.args.op s.tasks.items
    c.pop.new.self.items w.0 w.1 c.in-Low.f c.in-Low.g
    c.in-Low.variable c.in-Low.f_high c.in-Low.g_high c.loop-task.x c.in-Some-2.high was i.leads
    (names_stay s.names c.take_back.new.self.names c.take_back.ensures.names) came).both

pub returns-in_err-x-in-Some-2-clause-names : goal.returns-in_err-x-in-Some-2-clause-names
returns-in_err-x-in-Some-2-clause-names g c =
    extends_trans c.args.self.now.names c.take_back.new.self.names c.finish.new.self.names
    (extends_trans c.args.self.now.names c.loop-task.self.names c.take_back.new.self.names
    c.loop-task.invariant.names c.take_back.ensures.names)
    c.finish.ensures.names

pub loop-task-preserved-in-Some-2 : goal.loop-task-preserved-in-Some-2
loop-task-preserved-in-Some-2 g c =
    let s = c.loop-task.self in
    let w = c.args.whole.now.value in
    let i = c.loop-task.invariant in
    let m = meaning_in s.names in
    let was : s.tasks.items ≡ c.pop.new.self.items ++ Low c.in-Low.f c.in-Low.g c.in-Low.variable
    c.in-Low.f_high c.in-Low.g_high ∷ [] = search rules in
    let came : IsResult (meaning_in c.take_back.new.self.names) c.args.op c.in-Low.f_high
    c.in-Low.g_high c.in-Some-2.high =
    subst (λ (o : Option ℕ). IfSome o (IsResult (meaning_in c.take_back.new.self.names) c.args.op
    c.in-Low.f_high c.in-Low.g_high)) c.in-Some-2.is c.in_ok-high-in-Low.ensures.ok in
    let n = c.finish.new.self.names in
    let both =
    both_done m (meaning_in c.take_back.new.self.names) c.args.op s.tasks.items c.pop.new.self.items
    w.0 w.1 c.in-Low.f c.in-Low.g
    c.in-Low.variable c.in-Low.f_high c.in-Low.g_high c.loop-task.x c.in-Some-2.high was i.leads
    (names_stay s.names c.take_back.new.self.names c.take_back.ensures.names) came in
    let leads =
    task_done (meaning_in c.take_back.new.self.names) (meaning_in n) c.args.op c.pop.new.self.items
    w.0 w.1 c.in-Low.f c.in-Low.g
    c.in-Low.variable c.loop-task.x c.in-Some-2.high c.in_ok-x-in-Some-2.x
    (names_stay c.take_back.new.self.names n c.finish.ensures.names)
    both c.in_ok-x-in-Some-2.ensures.ok in
    let x =
    extends_trans c.args.self.now.names c.take_back.new.self.names n
    (extends_trans c.args.self.now.names c.loop-task.self.names c.take_back.new.self.names
    c.loop-task.invariant.names c.take_back.ensures.names)
    c.finish.ensures.names in
    let less =
    less_owed s.names.variables n.variables c.pop.new.self.items s.tasks.items
    c.args.self.now.tasks.items
    (Low c.in-Low.f c.in-Low.g c.in-Low.variable c.in-Low.f_high c.in-Low.g_high)
    (c.finish.ensures.names.variables ∙ c.take_back.ensures.names.variables) was i.less in
    record {
      names = record {
        forest = x.forest;
        seat = x.seat;
        variables = x.variables;
        references =
            x.references;
        before = x.before;
        turns = x.turns;
      };
      leads = rw (c.finish.ensures.tasks, c.take_back.ensures.tasks) leads;
      less = rw (c.finish.ensures.tasks, c.take_back.ensures.tasks) less;
    }

pub returns-in-Ok-clause-names : goal.returns-in-Ok-clause-names
returns-in-Ok-clause-names g c = extends_trans c.args.self.now.names c.loop-task.self.names
    c.take_back.new.self.names c.loop-task.invariant.names c.take_back.ensures.names

pub returns-in-Ok-clause-turn : goal.returns-in-Ok-clause-turn
returns-in-Ok-clause-turn g c =
    let s = c.loop-task.self in
    let w = c.args.whole.now.value in
    let i = c.loop-task.invariant in
    let m = meaning_in s.names in
    let was : s.tasks.items ≡ c.pop.new.self.items ++ Low c.in-Low.f c.in-Low.g c.in-Low.variable
    c.in-Low.f_high c.in-Low.g_high ∷ [] = search rules in
    let n = c.take_back.new.self.names in
    let is : c.push.new.self.items ≡ c.pop.new.self.items ++ High c.in-Low.f c.in-Low.g
    c.in-Low.variable c.loop-task.x ∷ [] = search rules in
    let less : owed_all n.variables s.tasks.items ≤ owed_all n.variables
    c.args.self.now.tasks.items =
    subst (λ (k : ℕ). owed_all k s.tasks.items ≤ owed_all k c.args.self.now.tasks.items)
    (sym c.take_back.ensures.names.variables) i.less in
    low_done (meaning_in n) c.args.op s.tasks.items c.pop.new.self.items c.push.new.self.items
    c.args.self.now.tasks.items w.0 w.1 c.in-Low.f
    c.in-Low.g c.in-Low.variable c.in-Low.f_high c.in-Low.g_high c.loop-task.x was is less
    (leads_to_stays m (meaning_in n) c.args.op s.tasks.items w.0 w.1 c.loop-task.x
    (names_stay s.names c.take_back.new.self.names c.take_back.ensures.names) i.leads)

pub finish-requires-in-High : goal.finish-requires-in-High
finish-requires-in-High g c =
    let s = c.loop-task.self in
    let n = c.end_offer.new.self.names in
    let w = c.args.whole.now.value in
    let was : s.tasks.items ≡ c.pop.new.self.items ++ High c.in-High.f c.in-High.g
    c.in-High.variable c.in-High.low ∷ [] = search rules in
    (top_done (meaning_in n) c.args.op s.tasks.items c.pop.new.self.items w.0 w.1 c.in-High.f
    c.in-High.g c.in-High.variable c.in-High.low
    c.loop-task.x was
    (leads_to_stays (meaning_in s.names) (meaning_in n) c.args.op s.tasks.items w.0 w.1
    c.loop-task.x (names_stay s.names n c.end_offer.ensures.names)
    c.loop-task.invariant.leads)).both

pub loop-task-preserved : goal.loop-task-preserved
loop-task-preserved g c =
    let s = c.loop-task.self in
    let b = c.end_offer.new.self.names in
    let n = c.finish-in-High.new.self.names in
    let w = c.args.whole.now.value in
    let i = c.loop-task.invariant in
    let e = c.finish-in-High.ensures.names in
    let was : s.tasks.items ≡ c.pop.new.self.items ++ High c.in-High.f c.in-High.g
    c.in-High.variable c.in-High.low ∷ [] = search rules in
    let m = meaning_in b in
    let stays = leads_to_stays (meaning_in s.names) m c.args.op s.tasks.items w.0 w.1 c.loop-task.x
    (names_stay s.names b c.end_offer.ensures.names) i.leads in
    let top = top_done m c.args.op s.tasks.items c.pop.new.self.items w.0 w.1 c.in-High.f
    c.in-High.g c.in-High.variable c.in-High.low c.loop-task.x was stays in
    let leads =
    task_done m (meaning_in n) c.args.op c.pop.new.self.items w.0 w.1 c.in-High.f c.in-High.g
    c.in-High.variable c.in-High.low c.loop-task.x
    c.in_ok-x-in-High.x (names_stay b n e) top c.in_ok-x-in-High.ensures.ok in
    let less =
    less_owed s.names.variables n.variables c.pop.new.self.items s.tasks.items
    c.args.self.now.tasks.items
    (High c.in-High.f c.in-High.g c.in-High.variable c.in-High.low) (e.variables
    ∙ c.end_offer.ensures.names.variables) was i.less in
    let x = extends_trans c.args.self.now.names b n (extends_trans c.args.self.now.names s.names b
    i.names c.end_offer.ensures.names) e in
    record {
      names = record {
        forest = x.forest;
        seat = x.seat;
        variables = x.variables;
        references =
            x.references;
        before = x.before;
        turns = x.turns;
      };
      leads = rw (c.finish-in-High.ensures.tasks, c.end_offer.ensures.tasks) leads;
      less = rw (c.finish-in-High.ensures.tasks, c.end_offer.ensures.tasks) less;
    }

pub returns-in_err-x-in-High-clause-names : goal.returns-in_err-x-in-High-clause-names
returns-in_err-x-in-High-clause-names g c =
    let n = c.args.self.now.names in
    let s = c.loop-task.self.names in
    let b = c.end_offer.new.self.names in
    extends_trans n b c.finish-in-High.new.self.names
    (extends_trans n s b c.loop-task.invariant.names c.end_offer.ensures.names)
    c.finish-in-High.ensures.names
