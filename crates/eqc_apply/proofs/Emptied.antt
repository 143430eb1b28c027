-- A worker that is alone and holds nothing empties its forest.
use Rattle.std.proofs.Common.{◌≡◌, ◌≢◌, ℕ, ◌*◌, ◌^◌, ◌<◌, ◌≤◌, List, [], ◌∷◌, length, get_or, eqb}
use Rattle.std.proofs.Common.{if◌then◌else◌, refl, sym, ap, subst, ◌∙◌, arith}
use native.Mathlib.Decide.{dec_le}
use Rattle.eqc_core.specs.View.{View}
use Rattle.eqc_core.specs.Words.{times}
use Rattle.eqc_core.specs.Seating.{IsAtRest}
use Rattle.eqc_core.proofs.Names.{times-nil, times-same}
use Rattle.eqc_guard.specs.Known.{IsKnown}
use Rattle.eqc_guard.specs.Standing.{Standing}
use Rattle.eqc_guard.specs.Splitting.{IsAlone, IsCopied}
use Rattle.eqc_guard.specs.Closing.{IsTallied}
use Rattle.eqc_arena.specs.Changing.{Exchanges}
use Rattle.eqc_arena.specs.Unboxing.{AreUnboxed}
use Rattle.eqc_arena.specs.Emptying.{MayEmpty, HasNoCounts}
use Rattle.eqc_arena.proofs.Resting.{rest_now}
use Rattle.eqc_arena.proofs.Changing.{lengths_now}
use Rattle.eqc_arena.proofs.Unboxing.{may_empty}
use Rattle.eqc_arena.proofs.Emptying.{tells_none}
use Rattle.eqc_apply.specs.Names.{refs_of, Has}
use Rattle.eqc_apply.specs.declared.held.Held.{Held}
use Rattle.eqc_apply.specs.Extending.{Stays, holding_in}
use Rattle.eqc_apply.proofs.Absorbing.{refs_held}

-- who is alone stays so, while the same numbers are out
pub alone_stays : (v w : View) → w.number ≡ v.number → w.out ≡ v.out → IsAlone v → IsAlone w
alone_stays v w number out a = (
  number ∙ a.0,
  (λ i. if eqb (number i) 0 then length (out i) else 0)
      ∙ a.1,
)

none_stands : (xs : List ℕ) → ((x : ℕ) → times x xs ≡ 0) → xs ≡ []
none_stands [] none = refl
none_stands (x ∷ xs) none = absurd (omega (arith, none x, times-same x x xs refl))

-- nothing is held, where no references stand on names and those without references were given up
pub holds_nothing : (n : ℕ) (s : Standing) (cs : List ℕ) → Has [] n s cs → IsKnown s.known
    → ((x : ℕ) → refs_of cs x ≡ 0) → ((x : ℕ) → get_or cs x 0 ≢ 1) → s.known.core.held ≡ []
holds_nothing n s cs h known none gone = none_stands s.known.core.held one
  where
    one : (x : ℕ) → times x s.known.core.held ≡ 0
    one x = elim (dec_le 2 x) [
      | yes two ↦ omega (arith, h.once x two, times-nil x, none x, gone x)
      | no small ↦ elim (dec_le 1 (times x s.known.core.held)) [
        | yes some ↦
            absurd (small (known.slots x some))
        | no few ↦ omega arith
      ]
    ]

-- so it is after names were given up
pub left_nothing : (old mid : Held) → Stays old mid → IsKnown mid.worker.known
    → ((x : ℕ) → get_or mid.counts.items x 0 ≢ 1) → (holding_in old).held ≡ []
    → mid.worker.known.core.held ≡ []
left_nothing old mid s known gone none =
    holds_nothing mid.variables mid.worker mid.counts.items mid.once known
    (λ x. omega (
      arith,
      s.references x,
      refs_held old.variables old.worker.known old.counts.items x,
      ap {B = ℕ} (λ l. length l) none,
    )) gone

-- from the copy of all words on to the end
module _ (s0 s1 : Standing) (alone : IsAlone s0.known.core) (rest : IsAtRest s0.known.core)
    (cells : 0 < s0.known.core.sizes.cells)
    (room : length s0.known.core.held ≤ 2 ^ 39) (c : IsCopied s0 s1) where
  pub copied_rest : IsAtRest s1.known.core
  copied_rest = subst IsAtRest (sym c.step.known.core) rest

  pub copied_room : length s1.known.core.held ≤ 2 ^ 39
  copied_room = subst (λ (v : View). length v.held ≤ 2 ^ 39) (sym c.step.known.core) room

  module _ (s2 : Standing) (t : Exchanges [] [] s1 s2)
      (u : AreUnboxed (16 * s1.known.core.sizes.workers) s1.known s2.known) where
    pub unboxed_rest : IsAtRest s2.known.core
    unboxed_rest = rest_now copied_rest t

    pub unboxed_cells : 0 < s2.known.core.sizes.cells
    unboxed_cells = subst (λ (v : View). 0 < v.sizes.cells) (sym t.core) (subst (λ (v : View). 0
        < v.sizes.cells) (sym c.step.known.core) cells)

    pub unboxed_room : length s2.known.core.held ≤ 2 ^ 39
    unboxed_room = omega (arith, lengths_now t, copied_room)

    module _ (s3 : Standing) (w : Exchanges [] [] s2 s3) (e : MayEmpty s2.known
        → HasNoCounts s3.known) where
      pub still_alone : IsAlone s3.known.core
      still_alone = alone_stays s0.known.core s3.known.core
          (ap (λ (v : View). v.number) w.core ∙ (ap (λ (v : View). v.number) t.core
          ∙ ap (λ (v : View). v.number) c.step.known.core))
          (ap (λ (v : View). v.out) w.core ∙ (ap (λ (v : View). v.out) t.core
          ∙ ap (λ (v : View). v.out) c.step.known.core))
          alone

      pub none_told : (counted : ℕ) → IsTallied counted s3.known → s0.known.core.held ≡ []
          → counted ≡ 0
      none_told counted told none =
          let may =
          may_empty s1 s2 c.words c.copy (ap (λ (v : View). v.held) c.step.known.core ∙ none)
          (λ k p lt at. unboxed_rest.quiet k p at) t u in
          let left = w.copy may.words may.copy in
          tells_none counted left.0 s3.known (e may) left.1 told
