use Rattle.std.proofs.Common.{refl}
use Rattle.eqc_core.specs.Making.{found_taken}
use Rattle.eqc_core.specs.Machine.{state_of, words_of}
use Rattle.eqc_core.proofs.Stored.{turned, stepped}
use Rattle.eqc_core.proofs.machine.Machine.lose_claim.Goals as goal

pub returns : goal.returns
returns c =
    let m = c.args.self.now in
    let t =
    turned m.sizes m.workers.items c.args.id c.index_mut-worker.result.now c.find_taken.new.self
    (λ v. found_taken v c.args.x)
    c.requires.turn.there c.index_mut-worker.ensures.value c.requires.turn.active
    c.in_ok-find_taken.ensures in
    stepped (state_of m) (words_of m) (words_of m) _ _ refl t
