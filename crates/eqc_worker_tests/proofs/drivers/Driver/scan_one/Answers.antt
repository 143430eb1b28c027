use Rattle.std.proofs.Common.{◌≡◌, ℕ, ◌+◌, ◌<◌, ◌≤◌, List, sym, subst, ap}
use Rattle.eqc_core.specs.Words.{times}
use Rattle.eqc_worker_tests.specs.Driving.{references_of}
use Rattle.eqc_worker_tests.proofs.Driving.{came_out, among}
use Rattle.eqc_worker_tests.proofs.drivers.Driver.scan_one.Goals as goal

pub keep_ejected-requires-clause-covered : goal.keep_ejected-requires-clause-covered
keep_ejected-requires-clause-covered g c =
    subst (λ (l : List ℕ). (x : ℕ) → 2 ≤ x → references_of x c.args.self.now.references.items
    + times x l ≤ times x c.scan_one.new.self.known.core.held) (sym c.as_slice.ensures.value)
    (came_out c.args.self.now.references.items c.args.self.now.worker.known.core.held
    c.scan_one.new.self.known.core.held c.in-Some.ejected.items c.args.self.now.driven.covered
    c.in-Some.ensures.some)

pub keep_ejected-requires-clause-slots : goal.keep_ejected-requires-clause-slots
keep_ejected-requires-clause-slots g c =
    subst (λ (l : List ℕ). (x : ℕ) → 0 < times x l → 2 ≤ x) (sym c.as_slice.ensures.value)
    (λ x there. c.cells-cells.ensures.known.slots x (among x c.args.self.now.worker.known.core.held
    c.scan_one.new.self.known.core.held c.in-Some.ejected.items c.in-Some.ensures.some there))
