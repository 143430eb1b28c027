-- Lists that grow by one at their end, and the machine that is stocked.
use Rattle.std.proofs.Common.{◌≡◌, ◌≢◌, ℕ, zero, suc, ◌+◌, ◌-◌, ◌*◌, ◌%◌, eqb, false, eq-eqb}
use Rattle.std.proofs.Common.{ne_eqb, List, [], ◌∷◌, ◌++◌, refl, sym, ap, subst, ◌∙◌, arith}
use Rattle.std.proofs.Common.{append-nil, map, true}
use Rattle.eqc_core.specs.declared.sizes.Sizes.{Sizes}
use Rattle.eqc_core.specs.declared.machine.Machine.{Machine}
use mathlib.Core.Option.{some}
use native.Mathlib.Decide.{ℕ_discrete}
use Rattle.eqc_core.specs.Words.{stripe_of}
use Rattle.eqc_core.specs.Tables.{Homes}
use Rattle.eqc_core.specs.State.{State, IsLawful, stocked, repeated, literal, literals, slots_from}
use Rattle.eqc_core.specs.State.{stripe_entries, homes_from, literal_homes}
use Rattle.eqc_core.specs.Replay.{IsSmall}
use Rattle.eqc_core.specs.View.{View, fresh}
use Rattle.eqc_core.specs.declared.worker.Worker.{Worker}
use Rattle.eqc_core.specs.Machine.{state_of, active_view, view_of, IsKept}
use Rattle.eqc_core.proofs.Literals.{literal_variable, literal_low, literal_high}
use Rattle.eqc_core.proofs.Stored.{active_is}
use Rattle.eqc_core.proofs.Opening.{opening_lawful}

pub repeated-push : (x n : ℕ) → repeated x (n + 1) ≡ repeated x n ++ x ∷ []
repeated-push x zero = refl
repeated-push x (suc n) = let e : suc n + 1 ≡ suc (n + 1) = omega arith in ap (repeated x) e
    ∙ ap (λ (l : List ℕ). x ∷ l) (repeated-push x n)

literals-end : (i n : ℕ) → literals i (suc n) ≡ literals i n ++ literal (i + n) ∷ []
literals-end i zero = ap (λ (k : ℕ). literal k ∷ []) (let e : i ≡ i + 0 = omega arith in e)
literals-end i (suc n) = ap (λ (l : List ℕ). literal i ∷ l) (literals-end (suc i) n
    ∙ ap (λ (k : ℕ). literals (suc i) n ++ literal k ∷ []) (let e : suc i + n ≡ i + suc n =
    omega arith in e))

pub literals-push : (n : ℕ) → literals 0 (n + 1) ≡ literals 0 n ++ literal n ∷ []
literals-push n = ap (literals 0) (let e : n + 1 ≡ suc n = omega arith in e)
    ∙ (literals-end 0 n ∙ ap (λ (k : ℕ). literals 0 n ++ literal k ∷ []) (let e : 0 + n ≡ n =
    omega arith in e))

slots-end : (b n : ℕ) → slots_from b (suc n) ≡ slots_from b n ++ (b + n) ∷ []
slots-end b zero = ap (λ (k : ℕ). k ∷ []) (let e : b ≡ b + 0 = omega arith in e)
slots-end b (suc n) = ap (λ (l : List ℕ). b ∷ l) (slots-end (suc b) n
    ∙ ap (λ (k : ℕ). slots_from (suc b) n ++ k ∷ []) (let e : suc b + n ≡ b + suc n = omega arith in
    e))

pub slots-push : (n : ℕ) → slots_from 2 (n + 1) ≡ slots_from 2 n ++ (n + 2) ∷ []
slots-push n = ap (slots_from 2) (let e : n + 1 ≡ suc n = omega arith in e)
    ∙ (slots-end 2 n ∙ ap (λ (k : ℕ). slots_from 2 n ++ k ∷ []) (let e : 2 + n ≡ n + 2 =
    omega arith in e))

-- nothing is left to fill
pub no_rest : (l : List ℕ) (n : ℕ) → l ++ repeated 0 (n + 2 - (n + 2)) ≡ l
no_rest l n = ap (λ (k : ℕ). l ++ repeated 0 k) (let e : n + 2 - (n + 2) ≡ 0 = omega arith in e)
    ∙ append-nil l

-- a small machine that was stocked is lawful
pub stocked_kept : (m : Machine) (workers nodes cells : ℕ) → IsSmall workers nodes cells
    → state_of m ≡ stocked workers nodes cells → IsKept m
stocked_kept m workers nodes cells small is = record {
  lawful = subst (λ (s : State). IsLawful s) (sym is) (opening_lawful (record {
    workers = workers;
    announcements = 4;
    names = nodes + 2;
    cells = cells;
    variables = nodes;
  }) nodes
      (let a = small.some_workers in let b = small.few_workers in let d = small.some_nodes in
      let e = small.few_nodes in let f = small.some_cells in let g = small.few_cells in
      record {
        some_workers = omega arith;
        few_workers = omega arith;
        some_announcements = omega arith;
        few_announced = omega arith;
        some_names = omega arith;
        few_names = omega arith;
        few_cells = omega arith;
        few_variables = omega arith;
      })
      (omega arith) (omega arith));
}

-- the view of worker 0 as a run begins
abbrev opening_view : Sizes → List ℕ → View
opening_view z held = record (fresh z 0) { held = held; given = 1 }

-- the state of the parts that were made
pub stocked_of : (w n k : ℕ) (z : Sizes) (announced counts nodes cells boxes locks : List ℕ)
    (homes : Homes) (views : List View) →
    z ≡ record { workers = w; announcements = 4; names = n + 2; cells = k; variables = n }
    → announced ≡ repeated 0 (w * 4) → counts ≡ repeated 0 2 ++ repeated 2 n → nodes ≡ repeated 0 2
    ++ literals 0 n → cells ≡ repeated 0 k →
    boxes ≡ repeated 0 (16 * w) → locks ≡ repeated 0 16 → homes ≡ literal_homes n
    → views ≡ opening_view z (slots_from 2 n) ∷ []
    → record {
      sizes = z;
      words = record {
        announced = announced;
        counts = counts;
        nodes = nodes;
        cells = cells;
        boxes = boxes;
        locks = locks;
      };
      homes = homes;
      views = views;
    } ≡ stocked w n k
stocked_of w n k z announced counts nodes cells boxes locks homes views ez ea ec en ek eb el eh ev =
    let c : counts ≡ 0 ∷ 0 ∷ repeated 2 n ++ repeated 0 (n + 2 - (n + 2)) = ec
    ∙ sym (no_rest (0 ∷ 0 ∷ repeated 2 n) n) in
    let d : nodes ≡ 0 ∷ 0 ∷ literals 0 n ++ repeated 0 (n + 2 - (n + 2)) = en
    ∙ sym (no_rest (0 ∷ 0 ∷ literals 0 n) n) in
    let v : views ≡ opening_view (record {
      workers = w;
      announcements = 4;
      names = n + 2;
      cells = k;
      variables = n;
    }) (slots_from 2 n) ∷ [] = ev
    ∙ ap (λ (z : Sizes). opening_view z (slots_from 2 n) ∷ []) ez in
    λ i. record {
      sizes = ez i;
      words = record {
        announced = ea i;
        counts = c i;
        nodes = d i;
        cells = ek i;
        boxes = eb i;
        locks = el i;
      };
      homes = eh i;
      views = v i;
    }

-- the one worker
pub first_view : (z : Sizes) (w : Worker) (all : List Worker) (held slots : List ℕ)
    → all ≡ [] ++ w ∷ [] → w.active ≡ true →
    active_view z w ≡ opening_view z held → held ≡ slots → map (view_of z) all
    ≡ opening_view z slots ∷ []
first_view z w all held slots e on is same = ap (map (view_of z)) e
    ∙ ap (λ (v : View). v ∷ []) (active_is z w on ∙ (is ∙ ap (opening_view z) same))

-- one literal more, where it stands in the stripe, and where it does not
entries-end : (s i n : ℕ) → stripe_entries s i (suc n) ≡ stripe_entries s i n ++ stripe_entries s (i
    + n) 1
entries-end s i zero = ap (λ (k : ℕ). stripe_entries s k 1) (let e : i ≡ i + 0 = omega arith in e)
entries-end s i (suc n) =
    go (ℕ_discrete (stripe_of (literal i)) s) (entries-end s (suc i) n
    ∙ ap (λ (k : ℕ). stripe_entries s (suc i) n ++ stripe_entries s k 1) (let e : suc i + n ≡ i
    + suc n = omega arith in e))
  where
    go : Dec (stripe_of (literal i) ≡ s) → stripe_entries s (suc i) (suc n)
        ≡ stripe_entries s (suc i) n ++ stripe_entries s (i + suc n) 1 →
        stripe_entries s i (suc (suc n)) ≡ stripe_entries s i (suc n) ++ stripe_entries s (i
        + suc n) 1
    go (yes is) e = rw (eq-eqb (stripe_of (literal i)) s is)
        (ap (λ (l : List (ℕ × ℕ)). (literal i, 2 + i) ∷ l) e)
    go (no not) e = rw (ne_eqb (stripe_of (literal i)) s not) e

literal_stripe : (n : ℕ) → stripe_of (literal n) ≡ (n + 1) % 16
unfolding stripe_of
literal_stripe n = ap (λ (k : ℕ). k % 16) (omega (
  arith,
  literal_variable n,
  literal_low n,
  literal_high n,
))

pub entries-push : (s n : ℕ) → (n + 1) % 16 ≡ s → stripe_entries s 0 (n + 1) ≡ stripe_entries s 0 n
    ++ (literal n, n + 2) ∷ []
entries-push s n is =
    ap (stripe_entries s 0) (let e : n + 1 ≡ suc n = omega arith in e)
    ∙ (entries-end s 0 n
    ∙ (ap (λ (k : ℕ). stripe_entries s 0 n ++ stripe_entries s k 1) (let e : 0 + n ≡ n =
    omega arith in e)
    ∙ ap (λ (l : List (ℕ × ℕ)). stripe_entries s 0 n ++ l)
    (rw (eq-eqb (stripe_of (literal n)) s (literal_stripe n ∙ is)) (ap (λ (k : ℕ). (literal n, k)
    ∷ []) (let e : 2 + n ≡ n + 2 = omega arith in e)))))

pub entries-skip : (s n : ℕ) → (n + 1) % 16 ≢ s → stripe_entries s 0 (n + 1) ≡ stripe_entries s 0 n
entries-skip s n not =
    ap (stripe_entries s 0) (let e : n + 1 ≡ suc n = omega arith in e)
    ∙ (entries-end s 0 n
    ∙ (ap (λ (k : ℕ). stripe_entries s 0 n ++ stripe_entries s k 1) (let e : 0 + n ≡ n =
    omega arith in e)
    ∙ (ap (λ (l : List (ℕ × ℕ)). stripe_entries s 0 n ++ l)
    (none_here (ne_eqb (stripe_of (literal n)) s (λ e. not (sym (literal_stripe n) ∙ e))))
    ∙ append-nil (stripe_entries s 0 n))))
  where
    none_here : eqb (stripe_of (literal n)) s ≡ false → stripe_entries s n 1 ≡ []
    none_here e = rw e refl

homes-end : (s k n : ℕ) → homes_from s (suc k) n ≡ homes_from s k n
    ++ some (stripe_entries (s + k) 0 n) ∷ []
homes-end s zero n = ap (λ (j : ℕ). some (stripe_entries j 0 n) ∷ []) (let e : s ≡ s + 0 =
    omega arith in e)
homes-end s (suc k) n =
    ap (λ (l : Homes). some (stripe_entries s 0 n) ∷ l)
    (homes-end (suc s) k n ∙ ap (λ (j : ℕ). homes_from (suc s) k n ++ some (stripe_entries j 0 n)
    ∷ []) (let e : suc s + k ≡ s + suc k = omega arith in e))

pub homes-push : (k n : ℕ) → homes_from 0 (k + 1) n ≡ homes_from 0 k n
    ++ some (stripe_entries k 0 n) ∷ []
homes-push k n =
    ap (λ (j : ℕ). homes_from 0 j n) (let e : k + 1 ≡ suc k = omega arith in e)
    ∙ (homes-end 0 k n ∙ ap (λ (j : ℕ). homes_from 0 k n ++ some (stripe_entries j 0 n) ∷ [])
    (let e : 0 + k ≡ k = omega arith in e))

pub all_homes : (n : ℕ) → homes_from 0 16 n ≡ literal_homes n
unfolding literal_homes
all_homes n = refl
