-- What a worker knows that took another in, after both scanned.
use Rattle.std.proofs.Common.{◌≡◌, ℕ, ◌*◌, ◌<◌, ◌≤◌, [], ◌++◌, length, Option, length-append, sym}
use Rattle.std.proofs.Common.{ap, subst, ◌∙◌, arith}
use Rattle.eqc_core.specs.declared.phase.Phase.TheVariants.{Idle}
use Rattle.eqc_core.specs.View.{View, Read, phase_at}
use Rattle.eqc_core.specs.Words.{announced_words, times}
use Rattle.eqc_core.specs.Moves.{IsQuiet, forget}
use Rattle.eqc_core.specs.Seating.{IsAtRest, out_after, joined}
use Rattle.eqc_core.proofs.Lists.{get_at}
use Rattle.eqc_core.proofs.Names.{times-append}
use Rattle.eqc_guard.specs.Known.{Known, IsKnown}
use Rattle.eqc_guard.specs.Standing.{Standing}
use Rattle.eqc_guard.specs.Splitting.{IsJoined, IsAbsorbed}
use Rattle.eqc_guard.specs.Sweeping.{IsScanned}
use Rattle.eqc_guard.proofs.Learning.{held_named}
use Rattle.eqc_guard.proofs.Sweeping.{forget_none}

-- a worker at rest announces nothing
pub quiet_here : (k : Known) → IsKnown k → IsAtRest k.core → IsQuiet (phase_at k.core 0)
quiet_here k known rest = rest.quiet 0 (phase_at k.core 0) (get_at k.core.phases 0 Idle known.word)

module _ (old other s1 o1 : Standing) (s : IsScanned old s1) (o : IsScanned other o1) where
  pub absorbs : (new : Standing) → IsKnown old.known → IsJoined s1 o1 new → IsAbsorbed old other new
  absorbs new known j = record {
    forest = j.forest ∙ s.forest;
    held = s.held ++ o.held;
    retired = s.retired ++ o.retired;
    core = core;
    names = λ x. omega (arith, times-append x s.held o.held, s.same x, o.same x);
    lengths = omega (arith, length-append s.held o.held, s.lengths, o.lengths);
    few = subst (λ (v : View). length v.retired ≤ 2 * announced_words v.sizes) core j.known.retired;
    mine = λ x two h. j.mine x two (held_named s1.known.core x (was x h)) (held_named new.known.core
        x (is x (omega (arith, s.same x, times-append x s.held o.held)))) ∙ s.trees x two h;
    theirs = λ x two h. j.theirs x two (held_named o1.known.core x (theirs x h))
        (held_named new.known.core x (is x (omega (arith, o.same x, times-append x s.held o.held))))
        ∙ o.trees x two h;
    known = j.known;
  }
    where
      stays : forget (s.held ++ o.held) old.known.core.read ≡ old.known.core.read
      stays = forget_none (s.held ++ o.held) old.known.core.read (λ r e. let h = known.read r e in
          omega (arith, s.same r.name, times-append r.name s.held o.held))

      core : new.known.core ≡ record old.known.core {
        held = s.held ++ o.held;
        position = 0;
        noted = [];
        retired = s.retired ++ o.retired;
        out = out_after old.known.core other.known.core.number other.known.core;
      }
      core =
          j.core
          ∙ ((λ i. joined (s.core i) (o.core i).number (o.core i))
          ∙ ap (λ (r : Option Read).
          record old.known.core {
            held = s.held ++ o.held;
            read = r;
            position = 0;
            noted = [];
            retired =
                s.retired ++ o.retired;
            out = out_after old.known.core other.known.core.number
                other.known.core;
          })
          stays)

      was : (x : ℕ) → 0 < times x old.known.core.held → 0 < times x s1.known.core.held
      was x h = subst (λ (v : View). 0 < times x v.held) (sym s.core) (omega (arith, s.same x))

      theirs : (x : ℕ) → 0 < times x other.known.core.held → 0 < times x o1.known.core.held
      theirs x h = subst (λ (v : View). 0 < times x v.held) (sym o.core) (omega (arith, o.same x))

      is : (x : ℕ) → 0 < times x (s.held ++ o.held) → 0 < times x new.known.core.held
      is x h = subst (λ (v : View). 0 < times x v.held) (sym core) h
