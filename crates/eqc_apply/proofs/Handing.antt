-- Operations that change hands: names come, go into a box, and come out of one.
use Rattle.std.proofs.Common.{◌≡◌, ◌≢◌, ℕ, ◌+◌, ◌*◌, ◌^◌, ◌<◌, ◌≤◌, List, [], ◌∷◌, length, Bool}
use Rattle.std.proofs.Common.{if◌then◌else◌, Option, Some, None, IfSome, refl, sym, ap, subst, ◌∙◌}
use Rattle.std.proofs.Common.{arith, inl, inr}
use native.Mathlib.Decide.{ℕ_discrete}
use Rattle.eqc_tree.specs.Tree.{Tree, value}
use Rattle.eqc_tree.specs.Operation.{operate}
use Rattle.eqc_tree.specs.declared.operation.Op.{Op}
use Rattle.eqc_tree.specs.declared.stopping.Stop.{Stop}
use Rattle.eqc_tree.specs.declared.stopping.Stop.TheVariants.{NodeLimit, Memory, References}
use Rattle.eqc_tree.specs.declared.stopping.Stop.TheVariants.{Threads}
use Rattle.eqc_core.specs.declared.sizes.Sizes.{Sizes}
use Rattle.eqc_core.specs.View.{View}
use Rattle.eqc_core.specs.Words.{times, slots_of}
use Rattle.eqc_core.specs.Moves.{IsReady, AreHeld}
use Rattle.eqc_core.proofs.Names.{times-nil, times-same, times-slots_of, two_cases}
use Rattle.eqc_guard.specs.declared.parcel.Parcel.{Parcel}
use Rattle.eqc_guard.specs.declared.parcel.Parcel.TheVariants.{Task, Done, Stopped}
use Rattle.eqc_guard.specs.declared.reference.Ref.{Ref}
use Rattle.eqc_guard.specs.declared.filled.Filled.{Filled}
use Rattle.eqc_guard.specs.Known.{Known, IsHeld, tree_of}
use Rattle.eqc_guard.specs.Sharing.{HasParcel, IsGenuine, MayPut, parcel_names}
use Rattle.eqc_guard.specs.Standing.{Standing, Steps}
use Rattle.eqc_guard.proofs.Acquiring.{constant_trees}
use Rattle.eqc_cache.proofs.Trading.{slots_times, slots_length}
use Rattle.eqc_arena.specs.Changing.{Exchanges}
use Rattle.eqc_arena.specs.Unboxing.{HoldsParcel, KeepsMarks, NotesStop}
use Rattle.eqc_arena.proofs.Changing.{here, on, still_there, and, ready_now, names_now, lengths_now}
use Rattle.eqc_arena.proofs.Changing.{same_tree}
use Rattle.eqc_apply.specs.Handing.{IsOwn, HasCome}
use Rattle.eqc_apply.specs.Stopping.{HasMet}

slots_few : (names : List ℕ) → length (slots_of names) ≤ length names
slots_few [] = omega arith
slots_few (x ∷ xs) = elim (two_cases x) [
  | inl t ↦ rw t.0 (omega (arith, slots_few xs))
  | inr t ↦
      rw t.0 (omega (arith, slots_few xs))
]

-- names that came may go into a box
module _ (names : List ℕ) {old new : Standing} (t : Exchanges [] (slots_of names) old new) where
  pub come_held : AreHeld names new.known.core.held
  come_held x two = omega (arith, names_now t x, times-nil x, times-slots_of x names two)

  pub come_few : (n : ℕ) → length old.known.core.held ≤ n → length new.known.core.held ≤ n
      + length names
  come_few n few = omega (arith, lengths_now t, slots_few names)

  pub come_may : (b : ℕ) (parcel : Parcel) → IsReady old.known.core
      → b < 16 * old.known.core.sizes.workers →
      length old.known.core.held ≤ 2 ^ 30 → length names ≤ 8 → HasParcel new.known parcel
      → MayPut new.known b parcel
  come_may b parcel ready there few short has = record {
    ready = ready_now t ready;
    there = subst (λ (v : View). b < 16 * v.sizes.workers) (sym t.core) there;
    parcel_is = has;
    room = omega (arith, come_few (2 ^ 30) few);
  }

-- two names come, one after the other, and three
pub pair_comes : {s0 s1 s2 : Standing} (x y : ℕ) → Exchanges [] (slots_of (x ∷ [])) s0 s1
    → Exchanges [] (slots_of (y ∷ [])) s1 s2 → Exchanges [] (slots_of (x ∷ y ∷ [])) s0 s2
pair_comes x y t u = and t (slots_of (x ∷ y ∷ [])) (here t u) (λ w. slots_times w x (y ∷ []))
    (slots_length x (y ∷ []))

pub three_come : {s0 s1 s2 s3 : Standing} (x y z : ℕ) → Exchanges [] (slots_of (y ∷ [])) s0 s1
    → Exchanges [] (slots_of (z ∷ [])) s1 s2 →
    Exchanges [] (slots_of (x ∷ [])) s2 s3 → Exchanges [] (slots_of (x ∷ y ∷ z ∷ [])) s0 s3
three_come x y z t u v =
    let a = pair_comes y z t u in
    and a (slots_of (x ∷ y ∷ z ∷ [])) (here a v) (λ w. omega (arith, slots_times w x (y ∷ z ∷ [])))
    (omega (arith, slots_length x (y ∷ z ∷ [])))

-- a name that came, by its other number
pub as_named : (x y : ℕ) {s t : Standing} → y ≡ x → Exchanges [] (slots_of (x ∷ [])) s t
    → Exchanges [] (slots_of (y ∷ [])) s t
as_named x y {s} {t} is u = subst (λ (z : ℕ). Exchanges [] (slots_of (z ∷ [])) s t) (sym is) u

-- a look at a box changes nothing
pub looked : (s0 s1 : Standing) → Steps s0 s0.known.core s1 → Exchanges [] [] s0 s1
looked s0 s1 s = still_there s0 s1 s

pub look_marks : (s0 s1 : Standing) → Steps s0 s0.known.core s1
    → KeepsMarks s0.known.core s1.known.core
look_marks s0 s1 s = record {
  sizes = ap (λ (v : View). v.sizes) s.known.core;
  turn = ap (λ (v : View). v.turn) s.known.core;
  stops = λ x. omega (arith, ap (λ (v : View). times x v.stops) s.known.core);
}

-- three came, and the last two go
pub two_went : {s0 s1 s2 : Standing} (x y z : ℕ) → Exchanges [] (slots_of (x ∷ y ∷ z ∷ [])) s0 s1
    → Exchanges (slots_of (y ∷ z ∷ [])) [] s1 s2 → Exchanges [] (slots_of (x ∷ [])) s0 s2
two_went x y z t u =
    on t (slots_of (x ∷ [])) (here t u) (λ w. omega (arith, slots_times w x (y ∷ z ∷ [])))
    (λ w. omega (arith, slots_times w x (y ∷ z ∷ []), times-nil w))
    (omega (arith, slots_length x (y ∷ z ∷ [])))

-- marks
pub marks_refl : (v : View) → KeepsMarks v v
marks_refl v = record { sizes = refl; turn = refl; stops = λ x. omega arith }

pub marks_trans : {u v w : View} → KeepsMarks u v → KeepsMarks v w → KeepsMarks u w
marks_trans p q = record {
  sizes = q.sizes ∙ p.sizes;
  turn = q.turn ∙ p.turn;
  stops =
      λ x. omega (arith, p.stops x, q.stops x);
}

-- why an operation stopped is known still
pub met_stays : (s : Stop) (u v : View) → KeepsMarks u v → HasMet s u → HasMet s v
met_stays NodeLimit u v k (inl all) =
    inl (λ x two few. subst (λ (l : List ℕ). 0 < times x l) (sym k.turn)
    (all x two (subst (λ (z : Sizes). x < z.names) k.sizes few)))
met_stays NodeLimit u v k (inr taken) = inr (let e = k.stops 14 in omega arith)
met_stays Memory u v k h = tt
met_stays References u v k h = let e = k.stops 13 in omega arith
met_stays Threads u v k h = h

pub noted_met : (s : Stop) (f g : Ref) (v : View) → s ≢ Threads → NotesStop (Stopped s f g) v
    → HasMet s v
noted_met NodeLimit f g v other noted = inr (let e = noted 14 in
    omega (arith, times-same 14 14 [] refl))
noted_met Memory f g v other noted = tt
noted_met References f g v other noted = let e = noted 13 in omega (arith, times-same 13 13 [] refl)
noted_met Threads f g v other noted = absurd (other refl)

-- the operands of a result are held
pub operands_held : (v : View) (op : Op) (e : Filled) → HoldsParcel v (Done e)
    → HoldsParcel v (Task op e.f e.g)
operands_held v op e h x = let t = h x in
    omega (arith, slots_times x e.r.number (e.f.number ∷ e.g.number ∷ []))

-- the result is right, in the words of the names that were asked for
module _ (op : Op) (f g x p q r : ℕ) (old new : Known) (same : (y : ℕ) → IsHeld old.core y
    → tree_of new y ≡ tree_of old y)
    (hf : IsHeld old.core f) (hg : IsHeld old.core g) (hx : IsHeld old.core x) (is_f : p ≡ f)
    (is_g : q ≡ g) (is_x : r ≡ x) where
  there : (y z : ℕ) → z ≡ y → IsHeld old.core y → tree_of new z ≡ tree_of old y
  there y z e h = ap (tree_of new) e ∙ same y h

  pub done_right : ((a : ℕ → Bool) → operate op (value (tree_of old f) a) (value (tree_of old g) a)
      ≡ value (tree_of old x) a) → (a : ℕ → Bool) →
      operate op (value (tree_of new p) a) (value (tree_of new q) a) ≡ value (tree_of new r) a
  done_right right a = (λ i. operate op (value (there f p is_f hf i) a) (value (there g q is_g hg i)
      a)) ∙ (right a ∙ sym (ap (λ (t : Tree). value t a) (there x r is_x hx)))

-- a name that came keeps its tree while the names that came with it go
came_tree : {s0 s1 s2 : Standing} (x y z : ℕ) → Exchanges [] (slots_of (x ∷ y ∷ z ∷ [])) s0 s1
    → Exchanges (slots_of (y ∷ z ∷ [])) [] s1 s2 → tree_of s2.known x ≡ tree_of s1.known x
came_tree {s0} {s1} {s2} x y z t u = elim (two_cases x) [
  | inl s ↦ constant_trees s2.known.trees s1.known.trees x s.1 (ℕ_discrete x 0) (ℕ_discrete x 1)
  | inr s ↦ u.trees x s.1 (let n = names_now t x in omega (
    arith,
    slots_times x x (y ∷ z ∷ []),
    times-same x x [] refl,
    ap (λ b. times x (if b then [] else x ∷ [])) s.0,
    times-nil x,
  ))
]

-- what came out of a box is the operation's own result, and its operands were given back
pub own_come : (op : Op) (f g r : ℕ) (e : Filled) (s0 s1 s2 : Standing)
    → Exchanges [] (parcel_names (Done e)) s0 s1 →
    IsGenuine s1.known (Done e) → IsHeld s0.known.core f → IsHeld s0.known.core g
    → IsOwn op f g e r s1 s2 → HasCome op f g r s0 s2
own_come op f g r e s0 s1 s2 t right hf hg own = record {
  came = subst (λ (z : ℕ). Exchanges [] (slots_of (z ∷ [])) s0 s2) (sym own.result)
      (two_went e.r.number f g came own.gone);
  function = λ a. (λ i. operate (sym own.op_is i) (value (was f e.f.number own.first hf i) a)
      (value (was g e.g.number own.second hg i) a))
      ∙ (right a ∙ ap (λ (u : Tree). value u a) (sym (ap (tree_of s2.known) own.result
      ∙ came_tree e.r.number f g came own.gone)));
}
  where
    came : Exchanges [] (slots_of (e.r.number ∷ f ∷ g ∷ [])) s0 s1
    came = subst (λ (p : ℕ). Exchanges [] (slots_of (e.r.number ∷ p ∷ g ∷ [])) s0 s1) own.first
        (subst (λ (q : ℕ). Exchanges [] (slots_of (e.r.number ∷ e.f.number ∷ q ∷ [])) s0 s1)
        own.second t)

    was : (y z : ℕ) → z ≡ y → IsHeld s0.known.core y → tree_of s0.known y ≡ tree_of s1.known z
    was y z is h = sym (ap (tree_of s1.known) is ∙ same_tree t y h)

pub own_comes : (op : Op) (f g : ℕ) (e : Filled) (s0 s1 s2 : Standing) (o : Option Ref)
    → Exchanges [] (parcel_names (Done e)) s0 s1 →
    IsGenuine s1.known (Done e) → IsHeld s0.known.core f → IsHeld s0.known.core g
    → IfSome o (λ r. IsOwn op f g e r.number s1 s2) →
    IfSome o (λ r. HasCome op f g r.number s0 s2)
own_comes op f g e s0 s1 s2 (Some r) t right hf hg own = own_come op f g r.number e s0 s1 s2 t right
    hf hg own
own_comes op f g e s0 s1 s2 None t right hf hg own = tt
