-- What a worker that is alone finds announced: nothing, where it announces nothing itself.
use Rattle.std.proofs.Common.{◌≡◌, ℕ, zero, suc, ◌+◌, ◌*◌, ◌/◌, ◌%◌, ◌<◌, ◌≤◌, List, length, get_or}
use Rattle.std.proofs.Common.{Bool, true, false, Some, refl, sym, ap, ◌∙◌, arith}
use Rattle.std.proofs.Math.Nat.{div-add-mod, mod-lt, mul_comm}
use mathlib.Core.Option.{some}
use native.Mathlib.Decide.{ℕ_discrete, dec_le}
use lib.ListN.{get_elem?}
use Rattle.eqc_core.specs.declared.sizes.Sizes.{Sizes}
use Rattle.eqc_core.specs.declared.phase.Phase.TheVariants.{Idle}
use Rattle.eqc_core.specs.View.{View, unused, view_at, phase_at}
use Rattle.eqc_core.specs.Words.{announced_words, word_at}
use Rattle.eqc_core.specs.Moves.{IsQuiet}
use Rattle.eqc_core.proofs.Announcing.{quiet_announces}
use Rattle.eqc_core.proofs.Lists.{at_get, get_at}
use Rattle.eqc_guard.specs.Known.{Known, IsCopy, IsKnown}
use Rattle.eqc_guard.specs.Sweeping.{IsSilent}
use Rattle.eqc_guard.proofs.Laid.{get_announced}

-- an announcement word is one of some worker's
whose_word : (z : Sizes) (i : ℕ) → word_at z (i / z.announcements) (i % z.announcements) ≡ i
unfolding word_at
whose_word z i = ap (λ (n : ℕ). n + i % z.announcements) (mul_comm (i / z.announcements)
    z.announcements) ∙ div-add-mod i z.announcements

-- where the first phase and the others are quiet, each is
each_quiet : (v : View) → IsQuiet (phase_at v 0) → IsSilent v → (j : ℕ) → j < length v.phases
    → IsQuiet (phase_at v j)
each_quiet v first others zero lt = first
each_quiet v first others (suc j) lt = others (suc j) (phase_at v (suc j)) (omega arith)
    (get_at v.phases (suc j) Idle lt)

module _ (k : Known) (ws : List ℕ) (quiet : IsQuiet (phase_at k.core 0)) (silent : IsSilent k.core)
    (c : IsCopy k ws) (j : ℕ) (lt : j < k.core.sizes.announcements) where
  -- an active worker is this one
  active_none : (id : ℕ) → get_elem? c.views id ≡ some (view_at c.views id)
      → (view_at c.views id).active ≡ true → Dec (id ≡ c.id)
      → get_or c.words.announced (word_at k.core.sizes id j) 0 ≡ 0
  active_none id at on (no other) = let off = c.alone id (view_at c.views id) other at in cc
  active_none id at on (yes e) =
      let same : k.core ≡ view_at c.views c.id = sym (at_get c.views c.id k.core unused c.mine) in
      let mine = c.lawful.views c.id k.core c.mine (ap (λ (v : View). v.active) same
      ∙ (ap (λ (i : ℕ). (view_at c.views i).active) (sym e) ∙ on)) in
      let there : j < length k.core.phases = let n = mine.phases in omega arith in
      ap (λ (i : ℕ). get_or c.words.announced (word_at k.core.sizes i j) 0) e
      ∙ (mine.announced j (phase_at k.core j) (get_at k.core.phases j Idle there)
      ∙ quiet_announces (phase_at k.core j) (each_quiet k.core quiet silent j there))

  view_none : (id : ℕ) → get_elem? c.views id ≡ some (view_at c.views id) → (b : Bool)
      → (view_at c.views id).active ≡ b → get_or c.words.announced (word_at k.core.sizes id j) 0 ≡ 0
  view_none id at true on = active_none id at on (ℕ_discrete id c.id)
  view_none id at false off = c.lawful.seated.silent id (view_at c.views id) at off j lt

  there_none : (id : ℕ) → Dec (length c.views ≤ id)
      → get_or c.words.announced (word_at k.core.sizes id j) 0 ≡ 0
  there_none id (yes past) = c.lawful.seated.beyond id j past lt
  there_none id (no n) = view_none id (get_at c.views id unused (omega arith))
      (view_at c.views id).active refl

pub none_announced : (k : Known) (ws : List ℕ) (i : ℕ) → IsKnown k → IsQuiet (phase_at k.core 0)
    → IsSilent k.core → k.copy ≡ Some ws → i < announced_words k.core.sizes → get_or ws (2 * i) 0
    ≡ 0
none_announced k ws i known quiet silent has lt =
    let c = known.state ws has in
    let z : Sizes = k.core.sizes in
    let part : i % k.core.sizes.announcements < k.core.sizes.announcements =
    mod-lt i c.lawful.sized.some_announcements in
    ap (λ (l : List ℕ). get_or l (2 * i) 0) c.laid
    ∙ (get_announced k.core.sizes c.words c.homes c.views c.lawful.sized i lt
    ∙ (ap (λ (n : ℕ). get_or c.words.announced n 0) (sym (whose_word k.core.sizes i))
    ∙ there_none k ws quiet silent c (i % k.core.sizes.announcements) part
    (i / k.core.sizes.announcements) (dec_le (length c.views) (i / k.core.sizes.announcements))))
