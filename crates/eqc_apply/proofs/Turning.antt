-- A turn of the loop.
use Rattle.std.proofs.Common.{◌≡◌, ℕ, ◌<◌, List, [], ◌∷◌, ◌++◌, min, Result, IfOk, refl, ap, subst}
use Rattle.std.proofs.Common.{arith}
use Rattle.std.proofs.lemmas.Result.{IfOk-weaker}
use Rattle.eqc_tree.specs.declared.operation.Op.{Op}
use Rattle.eqc_tree.specs.declared.stopping.Stop.{Stop}
use Rattle.eqc_plain.specs.declared.task.Task.{Task}
use Rattle.eqc_plain.specs.declared.task.Task.TheVariants.{Low, High}
use Rattle.eqc_plain.specs.declared.task.Turn.{Turn}
use Rattle.eqc_plain.specs.declared.task.Turn.TheVariants.{Done, Next}
use Rattle.eqc_plain.specs.Meaning.{Meaning}
use Rattle.eqc_plain.specs.Combining.{IsResult, AreHalves}
use Rattle.eqc_plain.specs.Tasks.{Leads, LeadsTo, TurnsTo, StepsTo, owed_all, work}
use Rattle.eqc_plain.proofs.Combining.{Stays, stays_trans, halves_stay, result_stays}
use Rattle.eqc_plain.proofs.Tasks.{TopDone, leads_stay, leads_apart, leads_high, top_done}
use Rattle.eqc_plain.proofs.Tasks.{expanded_step, turn_less}
use Rattle.eqc_apply.specs.Turning.{GoesOn, ComesTo}

module _ (m k n : Meaning) (op : Op) (ts us : List Task) (F G f g : ℕ) (s : Stays m k) where
  work_stays : m.there f → m.there g → work k f g ≡ work m f g
  work_stays p q = rw (s.variables, s.root f p, s.root g q) refl

  -- the operands are expanded
  pub comes_low : (p q : ℕ) → m.there f → m.there g → Leads m op ts F G f g
      → StepsTo k n ts us f g p q → GoesOn m n op ts us F G f g p q
  comes_low p q hf hg l t =
      record {
        first = t.first;
        second = t.second;
        leads = t.leads op F G (leads_stay m k op ts F G f g s l);
        less = omega (arith, t.less, work_stays hf hg, ap (λ v. owed_all v ts) s.variables);
      }

  -- their result is known
  pub leads_known : (x : ℕ) → Leads m op ts F G f g → IsResult k op f g x → LeadsTo k op ts F G x
  leads_known x l r = record { f = f; g = g; leads = leads_stay m k op ts F G f g s l; right = r }

  turned : n.variables ≡ k.variables → (t : Turn) → TurnsTo n op ts us F G t
      → ComesTo m n op ts us F G f g t
  turned e (Done x) r = r
  turned e (Next p q) r = record {
    first = r.first;
    second = r.second;
    leads = r.leads;
    less =
        turn_less m n op ts us F G f g p q (omega (arith, e, s.variables)) r;
  }

  -- the tasks that waited for it have ended
  pub comes_after : (o : Result Turn Stop) → n.variables ≡ k.variables
      → IfOk o (TurnsTo n op ts us F G) → IfOk o (ComesTo m n op ts us F G f g)
  comes_after o e = IfOk-weaker o _ _ (turned e)

-- the cofactors that come next under a task whose low ones are done
pub high_there : (m : Meaning) (op : Op) (us ts : List Task) (F G p q v p1 q1 x : ℕ)
    → us ≡ ts ++ Low p q v p1 q1 ∷ [] → LeadsTo m op us F G x → m.there p1 × m.there q1
high_there m op us ts F G p q v p1 q1 x e k =
    let l = subst (λ ts. LeadsTo m op ts F G x) e k in
    let r = leads_apart m op ts (Low p q v p1 q1 ∷ []) F G l.f l.g l.leads in
    let h = r.second.2.0.expansion in
    (h.cofactors_f.high_within, h.cofactors_g.high_within)

-- both results of the task on top are there: the high one came by another worker
pub both_done : (m n : Meaning) (op : Op) (us ts : List Task) (F G p q v p1 q1 x y : ℕ)
    → us ≡ ts ++ Low p q v p1 q1 ∷ [] →
    LeadsTo m op us F G x → Stays m n → IsResult n op p1 q1 y → TopDone n op ts F G p q v x y
both_done m n op us ts F G p q v p1 q1 x y e k s r =
    let l = leads_high m op ts F G p q v p1 q1 x (subst (λ ts. LeadsTo m op ts F G x) e k) in
    top_done n op (ts ++ High p q v x ∷ []) ts F G p q v x y refl (record {
      f = p1;
      g = q1;
      leads =
          leads_stay m n op (ts ++ High p q v x ∷ []) F G p1 q1 s l;
      right = r;
    })

-- a step that an offer follows
pub step_stays : (m n k : Meaning) (ts us : List Task) (f g v f0 f1 g0 g1 : ℕ)
    → us ≡ ts ++ Low f g v f1 g1 ∷ [] → Stays m n → Stays n k →
    m.there f → m.there g → v ≡ min (m.root f) (m.root g) → v < m.variables → AreHalves n v f f0 f1
    → AreHalves n v g g0 g1 →
    StepsTo m k ts us f g f0 g0
step_stays m n k ts us f g v f0 f1 g0 g1 is s t hf hg top below cf cg =
    expanded_step m k ts us f g v f0 f1 g0 g1 is (stays_trans s t) hf hg top below
    (halves_stay t (s.there f hf) cf) (halves_stay t (s.there g hg) cg)

-- what led to a result leads to it still
pub leads_to_stays : (m n : Meaning) (op : Op) (ts : List Task) (F G x : ℕ) → Stays m n
    → LeadsTo m op ts F G x → LeadsTo n op ts F G x
leads_to_stays m n op ts F G x s k = record {
  f = k.f;
  g = k.g;
  leads =
      leads_stay m n op ts F G k.f k.g s k.leads;
  right = result_stays s k.right;
}
