use Rattle.std.proofs.Common.{◌≡◌, ℕ, ◌≤◌, ◌^◌, [], ◌∷◌, None, arith}
use Rattle.eqc_core.specs.Words.{slots_of}
use Rattle.eqc_cache.proofs.Trading.{swap_gives, swap_gives_none}
use Rattle.eqc_worker_tests.proofs.Driving.{may_empty, swap_driven, two_more, nothing_came}
use Rattle.eqc_worker_tests.proofs.drivers.Driver.empty.Goals as goal

pub invariant_of-self : goal.invariant_of-self
invariant_of-self g c =
    let s = c.args.self.now in
    let m = c.may_swap.ensures c.if-not-may_swap.false in
    let may = may_empty s.phase s.position s.references.items s.worker s.driven c.args.cell m.0 m.1
    m.2 m.3 (c.is_full.ensures c.if-is_full.false) in
    let is = c.in-Some.ensures in
    let trades = swap_gives c.args.cell is.0 c.in-Some.f.number c.in-Some.g.number None
    c.args.self.now.worker c.swap_cell.new.self c.cells-cells.ensures.known may is.1 is.3.0
    is.3.1 in
    record {
      driven =
          swap_driven s.phase s.position is.0 None (slots_of (c.in-Some.f.number
          ∷ c.in-Some.g.number ∷ [])) c.keep-in-Some.new.references.items
          s.worker c.swap_cell.new.self s.driven.stands is.1 trades
          (λ y two. omega (
            arith,
            s.driven.covered y two,
            nothing_came y,
            two_more c.in-Some.f c.in-Some.g s.references.items c.keep.new.references.items
                c.keep-in-Some.new.references.items y two c.keep.ensures c.keep-in-Some.ensures,
          ));
    }

pub invariant_of-self-in_default : goal.invariant_of-self-in_default
invariant_of-self-in_default g c =
    let s = c.args.self.now in
    let m = c.may_swap.ensures c.if-not-may_swap.false in
    let may = may_empty s.phase s.position s.references.items s.worker s.driven c.args.cell m.0 m.1
    m.2 m.3 (c.is_full.ensures c.if-is_full.false) in
    let trades =
    swap_gives_none c.args.cell c.swap_cell.ensures.0 None c.args.self.now.worker
    c.swap_cell.new.self c.cells-cells.ensures.known may
    c.swap_cell.ensures.1 (c.swap_cell.ensures.2.0 c.in_default.is) in
    record {
      driven =
          swap_driven s.phase s.position c.swap_cell.ensures.0 None [] s.references.items s.worker
          c.swap_cell.new.self s.driven.stands c.swap_cell.ensures.1 trades
          (λ y two. omega (arith, s.driven.covered y two, nothing_came y));
    }
