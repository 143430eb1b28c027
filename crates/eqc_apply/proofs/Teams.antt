-- A team is made: a first member, which splits the others off.
use Rattle.std.proofs.Common.{◌≡◌, ℕ, zero, suc, ◌+◌, List, [], ◌∷◌, ◌++◌, map, max, Result, Ok}
use Rattle.std.proofs.Common.{Err, IfOk, OnErr, refl, sym, ap, subst, ◌∙◌, arith}
use Rattle.std.proofs.lemmas.List.Elements.{All-push, All-cons}
use Rattle.std.proofs.lemmas.List.{map-append}
use mathlib.Core.Option.{some, some-injective, some-ne-none}
use lib.ListN.{get_elem?}
use Rattle.atomic_table.specs.Seated.{TableId}
use Rattle.eqc_tree.specs.Holding.{IsNew}
use Rattle.eqc_core.specs.State.{slots_from}
use Rattle.eqc_core.specs.Words.{times}
use Rattle.eqc_core.specs.declared.phase.Phase.{Phase}
use Rattle.eqc_core.specs.declared.phase.Phase.TheVariants.{Idle}
use Rattle.eqc_core.specs.View.{idle}
use Rattle.eqc_core.specs.Moves.{IsQuiet}
use Rattle.eqc_core.specs.declared.sizes.Sizes.{Sizes}
use Rattle.eqc_guard.specs.declared.fault.SplitFault.{SplitFault}
use Rattle.eqc_guard.specs.Known.{Known}
use Rattle.eqc_guard.specs.Rule.{sizes_of}
use Rattle.eqc_guard.specs.Seats.{split_left, split_off}
use Rattle.eqc_guard.specs.Splitting.{IsSplit}
use Rattle.eqc_guard.specs.Standing.{Standing}
use Rattle.eqc_plain.specs.Cache.{IsCache}
use Rattle.eqc_apply.specs.declared.applier.Applier.{Applier}
use Rattle.eqc_apply.specs.Names.{Has}
use Rattle.eqc_apply.specs.Meaning.{kept_of}
use Rattle.eqc_apply.specs.Extending.{holding_of, holding_in}
use Rattle.eqc_apply.specs.Teaming.{IsTeam, IsLead, AreOthers, number_of, forest_of, sizes_in}

-- who splits a number off holds what it held
left_has : (n : ℕ) (counts : List ℕ) (old new : Standing) → new.known ≡ split_left old.known
    → Has [] n old counts → Has [] n new counts
left_has n counts old new is h =
    subst (λ (k : Known). Has [] n (record { forest = new.forest; known = k }) counts) (sym is)
    (record {
      rest = record {
        ready = h.rest.ready;
        quiet = h.rest.quiet;
        no_draft = h.rest.no_draft;
        no_hand = h.rest.no_hand;
      };
      cells = h.cells;
      range = h.range;
      constants = h.constants;
      once = h.once;
    })

left_cached : (n : ℕ) (cells : List ℕ) (old new : Standing) → new.known ≡ split_left old.known
    → IsCache (kept_of n old.known) cells → IsCache (kept_of n new.known) cells
left_cached n cells old new is c = subst (λ (k : Known). IsCache (kept_of n k) cells) (sym is) c

pub splits : (n : ℕ) (counts cells : List ℕ) (old new : Standing) (o : Result Standing SplitFault)
    → IfOk o (λ other. IsSplit old new other) →
    OnErr o (new ≡ old) → Has [] n old counts → IsCache (kept_of n old.known) cells
    → Has [] n new counts × IsCache (kept_of n new.known) cells
splits n counts cells old new (Ok other) s e h c = (
  left_has n counts old new s.known h,
  left_cached n cells old new s.known c,
)
splits n counts cells old new (Err f) s e h c = (
  subst (λ (t : Standing). Has [] n t counts) (sym e) h,
  subst (λ (t : Standing). IsCache (kept_of n t.known) cells) (sym e) c,
)

-- an announcement word of a worker that has just come announces nothing
idle_quiet : (n k : ℕ) (p : Phase) → get_elem? (idle n) k ≡ some p → IsQuiet p
idle_quiet zero k p e = absurd (some-ne-none p (sym e))
idle_quiet (suc n) zero p e = subst (λ (q : Phase). IsQuiet q) (some-injective Idle p e) tt
idle_quiet (suc n) (suc k) p e = idle_quiet n k p e

-- who was split off is at rest, and holds nothing
pub off_has : (n : ℕ) (counts none : List ℕ) (old other : Standing)
    → other.known ≡ split_off old.known → none ≡ [] → Has [] n old counts → Has [] n other none
unfolding times
off_has n counts none old other is empty h =
    subst (λ (cs : List ℕ). Has [] n other cs) (sym empty)
    (subst (λ (k : Known). Has [] n (record { forest = other.forest; known = k }) []) (sym is)
    (record {
      rest = record {
        ready = refl;
        quiet = λ k p e. idle_quiet old.known.core.sizes.announcements k
            p e;
        no_draft = refl;
        no_hand = refl;
      };
      cells = h.cells;
      range = h.range;
      constants = λ x lt. refl;
      once = λ x two. refl;
    }))

-- the first member is as it was, and has given one number more
pub lead_left : (n w g v : ℕ) (counts : List ℕ) (old new : Known) → new ≡ split_left old
    → IsNew n (holding_of v old counts) → IsNew n (holding_of v new counts)
unfolding holding_of
lead_left n w g v counts old new is h = subst (λ (k : Known). IsNew n (holding_of v k counts))
    (sym is) (record { variables = h.variables; held = h.held })

pub new_member : (n v : ℕ) (k l : Known) (counts : List ℕ) → IsNew n (holding_of v l counts)
    → IsNew n (holding_of v k [])
unfolding holding_of
new_member n v k l counts h = record { variables = h.variables; held = refl }

pub number_left : (old new : Known) → new ≡ split_left old → new.core.number ≡ old.core.number
number_left old new is = ap (λ (k : Known). k.core.number) is

pub sizes_left : (old new : Known) → new ≡ split_left old → new.core.sizes ≡ old.core.sizes
sizes_left old new is = ap (λ (k : Known). k.core.sizes) is

pub sizes_split : (old new : Known) → new ≡ split_off old → new.core.sizes ≡ old.core.sizes
sizes_split old new is = ap (λ (k : Known). k.core.sizes) is

pub given_left : (g : ℕ) (old new : Known) → new ≡ split_left old → old.core.given ≡ g
    → new.core.given ≡ g + 1
given_left g old new is at = let e : new.core.given ≡ max old.core.given (suc old.core.given) =
    ap (λ (k : Known). k.core.given) is in omega arith

pub number_split : (g : ℕ) (old new : Known) → new ≡ split_off old → old.core.given ≡ g
    → new.core.number ≡ g
number_split g old new is at = ap (λ (k : Known). k.core.number) is ∙ at

-- nothing is held with no counts
pub none_held : (v : ℕ) (k : Known) → IsNew v (holding_of v k [])
unfolding holding_of
none_held v k = record { variables = refl; held = refl }

-- a number more
slots-push : (x n : ℕ) → slots_from x n ++ (x + n) ∷ [] ≡ slots_from x (suc n)
slots-push x zero = let e : x + 0 ≡ x = omega arith in rw e refl
slots-push x (suc n) =
    let e : suc x + n ≡ x + suc n = omega arith in
    ap (λ (l : List ℕ). x ∷ l) (subst (λ (m : ℕ). slots_from (suc x) n ++ m ∷ []
    ≡ slots_from (suc x) (suc n)) e (slots-push (suc x) n))

-- one member more
pub more_others : (n : ℕ) (s : Sizes) (g : ℕ) (f : TableId) (others : List Applier) (a : Applier)
    → AreOthers n s g f others →
    IsNew n (holding_in a.names) → number_of a ≡ g + 1 → forest_of a ≡ f → sizes_in a ≡ s
    → AreOthers n s (g + 1) f (others ++ a ∷ [])
more_others n s g f others a o new number forest sizes = record {
  numbers = map-append number_of others (a ∷ []) ∙ numbers;
  new = All-push (λ (b : Applier). IsNew n (holding_in b.names)) others a o.new new;
  one = All-push (λ (b : Applier). forest_of b ≡ f) others a o.one forest;
  room = All-push (λ (b : Applier). sizes_in b ≡ s) others a o.room sizes;
}
  where
    numbers : map number_of others ++ number_of a ∷ [] ≡ slots_from 1 (g + 1)
    numbers =
        let z : g + 1 ≡ suc g = omega arith in
        let y : 1 + g ≡ suc g = omega arith in
        let p : slots_from 1 g ++ suc g ∷ [] ≡ slots_from 1 (suc g) = rw y at (slots-push 1 g) in
        rw (o.numbers, number, z) p

pub other_forest : (n : ℕ) (s : Sizes) (g : ℕ) (f h : TableId) (others : List Applier) → h ≡ f
    → AreOthers n s g f others → AreOthers n s g h others
other_forest n s g f h others e o = subst (λ (t : TableId). AreOthers n s g t others) (sym e) o

-- the first one comes before them
pub is_team : (n nodes cells w g : ℕ) (lead : Applier) (others : List Applier) → w ≡ g + 1
    → IsLead n (sizes_of n nodes cells w) w lead →
    AreOthers n (sizes_of n nodes cells w) g (forest_of lead) others
    → IsTeam n nodes cells w (lead ∷ others)
is_team n nodes cells w g lead others is l o = record {
  numbers = let z : w ≡ suc g = omega arith in rw z (λ i. l.number i ∷ o.numbers i);
  new = All-cons (λ (b : Applier). IsNew n (holding_in b.names)) lead others l.new o.new;
  forest = forest_of lead;
  one = All-cons (λ (b : Applier). forest_of b ≡ forest_of lead) lead others refl o.one;
  sizes = All-cons (λ (b : Applier). sizes_in b ≡ sizes_of n nodes cells w) lead others l.sizes_are
      o.room;
}
