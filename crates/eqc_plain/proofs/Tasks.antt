use Rattle.std.proofs.Common.{◌≡◌, ℕ, zero, suc, ◌+◌, ◌-◌, ◌*◌, ◌^◌, ◌<◌, ◌≤◌, List, [], ◌∷◌, ◌++◌}
use Rattle.std.proofs.Common.{min, refl, sym, ◌∙◌, ap, subst, arith, inl, inr}
use Rattle.std.proofs.lemmas.Bool.{cases_lt}
use Rattle.std.proofs.lemmas.List.Sums.{sum_by-append}
use Rattle.eqc_tree.specs.declared.operation.Op.{Op}
use Rattle.eqc_plain.specs.declared.task.Task.{Task}
use Rattle.eqc_plain.specs.declared.task.Task.TheVariants.{Low, High}
use Rattle.eqc_plain.specs.Meaning.{Meaning}
use Rattle.eqc_plain.specs.Combining.{IsResult, AreHalves, IsExpansion, HasBoth}
use Rattle.eqc_plain.specs.Tasks.{Leads, LeadsTo, owed, owed_all, work, StepsTo, ComesNext}
use Rattle.eqc_plain.proofs.Combining.{Stays, result_stays, expansion_stays}

-- what leads on leads all the way
pub leads-append : (m : Meaning) (op : Op) (ts us : List Task) (F G f g p q : ℕ)
    → Leads m op ts F G f g → Leads m op us f g p q → Leads m op (ts ++ us) F G p q
leads-append m op [] us F G f g p q l k = rw (l.0, l.1) k
leads-append m op (Low a b v c d ∷ ts) us F G f g p q l k =
    (l.0, l.1, (l.2.0, leads-append m op ts us l.2.0.p0 l.2.0.q0 f g p q l.2.1 k))
leads-append m op (High a b v low ∷ ts) us F G f g p q l k =
    (l.0, l.1, (l.2.0, leads-append m op ts us l.2.0.p1 l.2.0.q1 f g p q l.2.1 k))

-- where the first tasks lead
pub record LeadsThrough (m : Meaning) (op : Op) (ts us : List Task) (F G p q : ℕ) : Type 0 where
  pub f : ℕ
  pub g : ℕ
  pub first : Leads m op ts F G f g
  pub second : Leads m op us f g p q

-- what leads all the way leads by each place on it
pub leads_apart : (m : Meaning) (op : Op) (ts us : List Task) (F G p q : ℕ)
    → Leads m op (ts ++ us) F G p q → LeadsThrough m op ts us F G p q
leads_apart m op [] us F G p q l = record { f = F; g = G; first = (refl, refl); second = l }
leads_apart m op (Low a b v c d ∷ ts) us F G p q l =
    let r = leads_apart m op ts us l.2.0.p0 l.2.0.q0 p q l.2.1 in
    record { f = r.f; g = r.g; first = (l.0, l.1, (l.2.0, r.first)); second = r.second }
leads_apart m op (High a b v low ∷ ts) us F G p q l =
    let r = leads_apart m op ts us l.2.0.p1 l.2.0.q1 p q l.2.1 in
    record { f = r.f; g = r.g; first = (l.0, l.1, (l.2.0, r.first)); second = r.second }

-- tasks lead on where numbers keep their meaning
pub leads_stay : (m n : Meaning) (op : Op) (ts : List Task) (F G f g : ℕ) → Stays m n
    → Leads m op ts F G f g → Leads n op ts F G f g
leads_stay m n op [] F G f g s l = l
leads_stay m n op (Low a b v c d ∷ ts) F G f g s l =
    let h = l.2.0 in (
      l.0,
      l.1,
      (
        record { p0 = h.p0; q0 = h.q0; expansion = expansion_stays s h.expansion },
        leads_stay m n op ts h.p0 h.q0 f g s l.2.1,
      ),
    )
leads_stay m n op (High a b v low ∷ ts) F G f g s l =
    let h = l.2.0 in (
      l.0,
      l.1,
      (
        record {
          p0 = h.p0;
          p1 = h.p1;
          q0 = h.q0;
          q1 = h.q1;
          expansion =
              expansion_stays s h.expansion;
          right = result_stays s h.right;
        },
        leads_stay m n op ts h.p1
            h.q1 f g s l.2.1,
      ),
    )

-- the operation on f and g is expanded, and the low cofactors come next
pub leads_low : (m : Meaning) (op : Op) (ts : List Task) (F G f g v f0 f1 g0 g1 : ℕ)
    → Leads m op ts F G f g → IsExpansion m v f g f0 f1 g0 g1
    → Leads m op (ts ++ Low f g v f1 g1 ∷ []) F G f0 g0
leads_low m op ts F G f g v f0 f1 g0 g1 l h =
    leads-append m op ts (Low f g v f1 g1 ∷ []) F G f g f0 g0 l (
      refl,
      refl,
      (record { p0 = f0; q0 = g0; expansion = h }, (refl, refl)),
    )

-- the low result is there, and the high cofactors come next
pub leads_high : (m : Meaning) (op : Op) (ts : List Task) (F G p q v p1 q1 x : ℕ)
    → LeadsTo m op (ts ++ Low p q v p1 q1 ∷ []) F G x → Leads m op (ts ++ High p q v x ∷ []) F G p1
    q1
leads_high m op ts F G p q v p1 q1 x l =
    let r = leads_apart m op ts (Low p q v p1 q1 ∷ []) F G l.f l.g l.leads in
    let h = r.second.2.0 in
    let low : IsResult m op h.p0 h.q0 x = rw (r.second.2.1.0, r.second.2.1.1) l.right in
    leads-append m op ts (High p q v x ∷ []) F G r.f r.g p1 q1 r.first (
      r.second.0,
      r.second.1,
      (
        record { p0 = h.p0; p1 = p1; q0 = h.q0; q1 = q1; expansion = h.expansion; right = low },
        (refl, refl),
      ),
    )

-- both results of the task on top are there
pub record TopDone (m : Meaning) (op : Op) (ts : List Task) (F G p q v low x : ℕ) : Type 0 where
  pub below : Leads m op ts F G p q
  pub both : HasBoth m op p q v low x

pub top_done : (m : Meaning) (op : Op) (us ts : List Task) (F G p q v low x : ℕ)
    → us ≡ ts ++ High p q v low ∷ [] → LeadsTo m op us F G x → TopDone m op ts F G p q v low x
top_done m op us ts F G p q v low x e k =
    let l = subst (λ ts. LeadsTo m op ts F G x) e k in
    let r = leads_apart m op ts (High p q v low ∷ []) F G l.f l.g l.leads in
    let h = r.second.2.0 in
    record {
      below = subst (λ b. Leads m op ts F G p b) r.second.1 (subst (λ a. Leads m op ts F G a r.g)
          r.second.0 r.first);
      both = record {
        f0 = h.p0;
        f1 = h.p1;
        g0 = h.q0;
        g1 = h.q1;
        expansion = h.expansion;
        low_right = h.right;
        high_right = subst (λ b. IsResult m op h.p1 b x) (sym r.second.2.1.1)
            (subst (λ a. IsResult m op a l.g x) (sym r.second.2.1.0) l.right);
      };
    }

-- the result of the task on top is there, and the tasks below lead to it
pub task_done : (m n : Meaning) (op : Op) (ts : List Task) (F G p q v low x y : ℕ) → Stays m n
    → TopDone m op ts F G p q v low x → IsResult n op p q y → LeadsTo n op ts F G y
task_done m n op ts F G p q v low x y s t r = record {
  f = p;
  g = q;
  leads =
      leads_stay m n op ts F G p q s t.below;
  right = r;
}

-- one task more, or less
pub owed_all-push : (variables : ℕ) (ts : List Task) (t : Task) → owed_all variables (ts ++ t ∷ [])
    ≡ owed_all variables ts + owed variables t
owed_all-push variables ts t = sum_by-append (owed variables) ts (t ∷ []) ∙ omega arith

-- one task less owes no more, and the variables are the same
pub less_owed : (variables n : ℕ) (ts us all : List Task) (t : Task) → n ≡ variables
    → us ≡ ts ++ t ∷ [] → owed_all variables us ≤ owed_all variables all
    → owed_all n ts ≤ owed_all n all
less_owed variables n ts us all t e is h = subst (λ k. owed_all k ts ≤ owed_all k all) (sym e)
    (omega (arith, owed_all-push variables ts t, ap (owed_all variables) is))

pow_pos : (n : ℕ) → 0 < 2 ^ n
pow_pos zero = omega arith
pow_pos (suc n) = omega (arith, pow_pos n)

-- a power of a smaller number
pub pow_le : (m n : ℕ) → m ≤ n → 2 ^ m ≤ 2 ^ n
pow_le m zero h = let e : m ≡ 0 = omega arith in rw e (omega arith)
pow_le m (suc n) h =
    elim (cases_lt m (suc n)) [
      | inl below ↦ omega (arith, pow_le m n (omega arith), pow_pos n)
      | inr above ↦ let e : m ≡ suc n = omega arith in rw e (omega arith)
    ]

pow_next : (n : ℕ) → 2 ^ (n + 1) ≡ 2 * 2 ^ n
pow_next n = let e : n + 1 ≡ suc n = omega arith in rw e (omega arith)

-- what starts below v is less work than a full tree from v
work_below : (m : Meaning) (v p q : ℕ) → v < m.variables → v < m.root p → v < m.root q
    → work m p q ≤ 2 ^ (m.variables - v)
work_below m v p q a b c = pow_le (m.variables - min (m.root p) (m.root q) + 1) (m.variables - v)
    (omega arith)

-- the cofactors at the top variable are an expansion
pub expansion_at : (m n : Meaning) (f g v f0 f1 g0 g1 : ℕ) → Stays m n → m.there f → m.there g
    → v ≡ min (m.root f) (m.root g) → v < m.variables →
    AreHalves n v f f0 f1 → AreHalves n v g g0 g1 → IsExpansion n v f g f0 f1 g0 g1
expansion_at m n f g v f0 f1 g0 g1 s hf hg e below sf sg =
    record {
      first = s.there f hf;
      second = s.there g hg;
      below = omega (arith, s.variables);
      cofactors_f = sf;
      cofactors_g = sg;
      top = λ w a b. omega (arith, s.root f hf, s.root g hg);
    }

-- f and g are expanded
pub expanded_step : (m n : Meaning) (ts us : List Task) (f g v f0 f1 g0 g1 : ℕ)
    → us ≡ ts ++ Low f g v f1 g1 ∷ [] → Stays m n → m.there f →
    m.there g → v ≡ min (m.root f) (m.root g) → v < m.variables → AreHalves n v f f0 f1
    → AreHalves n v g g0 g1 → StepsTo m n ts us f g f0 g0
expanded_step m n ts us f g v f0 f1 g0 g1 is s hf hg e below sf sg =
    let h = expansion_at m n f g v f0 f1 g0 g1 s hf hg e below sf sg in
    let p : work m f g ≡ 2 * 2 ^ (m.variables - v) = rw (← e) (pow_next (m.variables - v)) in
    let q : owed_all n.variables us ≡ owed_all m.variables ts + owed m.variables (Low f g v f1 g1) =
    rw (is, s.variables) (owed_all-push m.variables ts (Low f g v f1 g1)) in
    let r : work n f0 g0 ≤ 2 ^ (m.variables - v) =
    rw (← s.variables) (work_below n v f0 g0 h.below sf.above_low sg.above_low) in
    record {
      first = sf.low_within;
      second = sg.low_within;
      leads = λ op F G l. rw is (leads_low n op ts F G f g v f0 f1 g0 g1 (leads_stay m n op ts F G f
          g s l) h);
      less = omega (arith, p, q, r, pow_pos (m.variables - v));
    }

-- the low result is there
pub low_done : (m : Meaning) (op : Op) (us ts ns all : List Task) (F G p q v p1 q1 x : ℕ)
    → us ≡ ts ++ Low p q v p1 q1 ∷ [] →
    ns ≡ ts ++ High p q v x ∷ [] → owed_all m.variables us ≤ owed_all m.variables all
    → LeadsTo m op us F G x → ComesNext m op all ns F G p1 q1
low_done m op us ts ns all F G p q v p1 q1 x was is less k =
    let l = subst (λ ts. LeadsTo m op ts F G x) was k in
    let r = leads_apart m op ts (Low p q v p1 q1 ∷ []) F G l.f l.g l.leads in
    let h = r.second.2.0.expansion in
    let before : owed_all m.variables us ≡ owed_all m.variables ts
    + owed m.variables (Low p q v p1 q1) =
    rw was (owed_all-push m.variables ts (Low p q v p1 q1)) in
    let after : owed_all m.variables ns ≡ owed_all m.variables ts
    + owed m.variables (High p q v x) = rw is (owed_all-push m.variables ts (High p q v x)) in
    record {
      first = h.cofactors_f.high_within;
      second = h.cofactors_g.high_within;
      leads = rw is (leads_high m op ts F G p q v p1 q1 x l);
      less = omega (
        arith,
        before,
        after,
        pow_pos (m.variables - v),
        work_below m v p1 q1 h.below
            h.cofactors_f.above_high h.cofactors_g.above_high,
      );
    }

two_work : (m : Meaning) (f g : ℕ) → 2 ≤ work m f g
two_work m f g =
    let k = m.variables - min (m.root f) (m.root g) in
    omega (arith, pow_next k, pow_pos k)

-- a result that came leaves less
pub turn_less : (m n : Meaning) (op : Op) (ts us : List Task) (F G f g p q : ℕ)
    → n.variables ≡ m.variables → ComesNext n op ts us F G p q →
    owed_all n.variables us + work n p q < owed_all m.variables ts + work m f g
turn_less m n op ts us F G f g p q e c = omega (
  arith,
  two_work m f g,
  c.less,
  ap (λ k. owed_all k ts) e,
)
