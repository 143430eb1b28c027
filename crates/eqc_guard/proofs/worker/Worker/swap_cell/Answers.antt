use Rattle.std.proofs.Common.{ℕ, ◌≤◌, ◌^◌, sym, subst}
use Rattle.eqc_core.specs.declared.sizes.Sizes.{Sizes}
use Rattle.eqc_guard.specs.Filling.{MaySwap}
use Rattle.eqc_guard.specs.Telling.{MayFill}
use Rattle.eqc_guard.specs.Standing.{Standing}
use Rattle.eqc_guard.proofs.Filling.{are_small, may_fill}
use Rattle.eqc_guard.proofs.worker.Worker.swap_cell.Goals as goal

pub entry_word-word-requires : goal.entry_word-word-requires
entry_word-word-requires c =
    let is = c.self.invariant in
    let k = c.self.inside.seat.me.0 in
    let may : MaySwap c.self.inside.seat.me.0 c.args.cell c.args.filled =
    subst (λ (s : Standing). MaySwap s.known c.args.cell c.args.filled) (sym c.self.view_is)
    c.requires in
    let few : k.core.sizes.names ≤ 2 ^ 20 = subst (λ (z : Sizes). z.names ≤ 2 ^ 20)
    (sym is.worker.sizes) is.worker.limits.few_names in
    are_small k c.args.cell c.args.filled is.worker.known few may

pub swap_word-old-requires : goal.swap_word-old-requires
swap_word-old-requires c =
    let is = c.self.invariant in
    let k = c.self.inside.seat.me.0 in
    let may : MaySwap c.self.inside.seat.me.0 c.args.cell c.args.filled =
    subst (λ (s : Standing). MaySwap s.known c.args.cell c.args.filled) (sym c.self.view_is)
    c.requires in
    let few : k.core.sizes.names ≤ 2 ^ 20 = subst (λ (z : Sizes). z.names ≤ 2 ^ 20)
    (sym is.worker.sizes) is.worker.limits.few_names in
    let small = are_small k c.args.cell c.args.filled is.worker.known few may in
    let fill = may_fill c.args.self.now.known c.args.cell c.args.filled small c.requires in
    subst (λ (n : ℕ). MayFill c.args.self.now.known c.args.cell n) (sym c.entry_word-word.ensures)
    fill
