use Rattle.std.proofs.Common.{◌+◌, ◌<◌, ℕ, length, map, arith, ap, slice_index_or}
use Rattle.std.proofs.lemmas.List.{get_or-map, length-map}
use Rattle.eqc_netlist.proofs.flat.signals.Signals.get.Goals as goal

pub overflow_add-result : goal.overflow_add-result
overflow_add-result c =
    let from = λ (d : ℕ). c.self.inside.first + d in
    let all = c.self.inside.distances.now in
    let size = length-map all from in
    let inside : c.args.k < length all = omega (arith, c.requires, ap length c.self.view_is, size)
    in
    let small : slice_index_or (map from all) c.args.k 0 < 4294967296 =
    c.self.invariant c.args.k (omega (arith, inside, size)) in
    omega (arith, small, get_or-map from all c.args.k 0 0 inside)
