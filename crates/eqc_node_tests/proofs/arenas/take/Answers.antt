use Rattle.std.proofs.Common.{◌≡◌, ℕ, sym, subst, ◌∙◌, arith}
use Rattle.eqc_core.specs.declared.phase.Phase.TheVariants.{Seen}
use Rattle.eqc_core.specs.Words.{result_of}
use Rattle.eqc_guard.proofs.Acquiring.{starts}
use Rattle.eqc_cache.specs.Finding.{IsTaken}
use Rattle.eqc_cache.proofs.Hits.{may_announce}
use Rattle.eqc_node_tests.proofs.Making.{may_look, makes_taken}
use Rattle.eqc_node_tests.proofs.arenas.take.Goals as goal

pub look-word-requires : goal.look-word-requires
look-word-requires g c = may_look c.args.maker.now.variables c.args.maker.now.references.items
    c.args.maker.now.worker c.args.maker.now.making

pub taken-reference-requires-clause-may : goal.taken-reference-requires-clause-may
unfolding result_of
taken-reference-requires-clause-may g c =
    let s = c.args.maker.now in
    let word = c.look-word.result in
    let seen = starts 0 s.worker c.look-word.new.self (Seen 0 word) c.look-word.ensures.step in
    let is : c.args.x ≡ result_of word = sym c.if-found-x.false
    ∙ (λ i. (c.unpack_cell-found.ensures.fields i).3) in
    may_announce s.worker c.look-word.new.self 0 word c.args.x seen s.making.rests.place
    (omega (arith, s.making.four_words)) c.if-x-lt2.false is

pub invariant_of-maker : goal.invariant_of-maker
invariant_of-maker g c =
    let s = c.args.maker.now in
    let word = c.look-word.result in
    let seen = starts 0 s.worker c.look-word.new.self (Seen 0 word) c.look-word.ensures.step in
    let reference = c.taken-reference.result in
    let new = c.taken-reference.new.worker in
    let is = subst (λ (n : ℕ). IsTaken n c.look-word.new.self new)
    (sym c.taken-reference.ensures.name) c.taken-reference.ensures.taken in
    record {
      making = makes_taken s.variables 0 word reference s.references.items
          c.keep.new.references.items s.worker c.look-word.new.self new s.making seen is
          c.keep.ensures;
    }
