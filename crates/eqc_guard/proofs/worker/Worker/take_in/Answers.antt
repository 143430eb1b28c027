use Rattle.std.proofs.Common.{◌≡◌, ◌+◌, ◌≤◌, ◌^◌, length, true, ap, sym, subst, ◌∙◌, arith}
use Rattle.std.proofs.Common.{length-append}
use Rattle.eqc_core.specs.Seating.{joined}
use Rattle.eqc_guard.specs.Known.{Known}
use Rattle.eqc_guard.specs.Seats.{both, MayTake}
use Rattle.eqc_guard.specs.Splitting.{IsJoined}
use Rattle.eqc_guard.specs.Standing.{Standing}
use Rattle.eqc_guard.specs.Telling.{Settles}
use Rattle.eqc_guard.proofs.Joining.{my_trees, their_trees}
use Rattle.eqc_guard.proofs.Counts.{carries_none}
use Rattle.eqc_guard.proofs.Seats.{joins_allowed}
use Rattle.eqc_guard.proofs.Stepping.{settle_allows}
use Rattle.eqc_guard.proofs.worker.Worker.take_in.Goals as goal

pub join_seat-requires : goal.join_seat-requires
join_seat-requires c =
    let is = c.self.invariant in
    let w = c.self.inside in
    let o = c.other.inside in
    let same : o.seat.table_id ≡ w.seat.table_id = ap (λ (s : Standing). s.forest) c.other.view_is
    ∙ (c.requires.forest ∙ sym (ap (λ (s : Standing). s.forest) c.self.view_is)) in
    let may : MayTake w.seat.me.0.core o.seat.me.0.core =
    subst (λ (s : Standing). MayTake w.seat.me.0.core s.known.core) (sym c.other.view_is)
    (subst (λ (s : Standing). MayTake s.known.core c.args.other.known.core) (sym c.self.view_is)
    c.requires.may) in
    let room : length w.seat.me.0.core.held + length o.seat.me.0.core.held ≤ 2 ^ 39 =
    subst (λ (s : Standing). length w.seat.me.0.core.held + length s.known.core.held ≤ 2 ^ 39)
    (sym c.other.view_is)
    (subst (λ (s : Standing). length s.known.core.held + length c.args.other.known.core.held
    ≤ 2 ^ 39) (sym c.self.view_is) c.requires.room) in (
      rw c.deref.ensures is.one_table,
      rw c.deref.ensures (same ∙ is.one_table),
      carries_none o.seat.me c.other.invariant.carries may.3.no_hand,
      rw (c.deref.ensures, is.worker.words) (omega arith),
      joins_allowed c.deref.result.now.shared.key.sizes w.seat.id o.seat.id w.seat.me.0 o.seat.me.0
          is.worker.active may (omega (
            arith,
            length-append w.seat.me.0.core.held
                o.seat.me.0.core.held,
          )),
    )

pub load-requires : goal.load-requires
load-requires c =
    let is = c.self.invariant in
    let on : c.join_seat.new.seat.me.0.core.active ≡ true =
    (λ i. (c.join_seat.ensures.2 i).0.core.active) ∙ is.worker.active in (
      rw c.deref-2.ensures (c.join_seat.ensures.0 ∙ is.one_table),
      rw (c.deref-2.ensures, is.worker.words) (omega arith),
      settle_allows c.deref-2.result.now.shared.key.sizes c.deref-2.result.now.shared.table_id.slots
          c.join_seat.new.seat.id 0 c.join_seat.new.seat.me on,
    )

pub returns : goal.returns
returns c =
    let is = c.self.invariant in
    let k = c.self.inside.seat.me.0 in
    let o = c.other.inside.seat.me.0 in
    let after = c.load.new.seat.me.0 in
    let told = c.load.ensures.2 in
    let core : c.load.new.seat.me.0.core ≡ joined c.self.inside.seat.me.0.core
    c.other.inside.seat.me.0.core.number c.other.inside.seat.me.0.core = told.0.core
    ∙ (λ i. (c.join_seat.ensures.2 i).0.core) in
    let settles : Settles (both c.self.inside.seat.me.0 c.other.inside.seat.me.0) 0
    c.load.new.seat.me.0 =
    subst (λ (t : Known). Settles t 0 c.load.new.seat.me.0) (λ i. (c.join_seat.ensures.2 i).0)
    told.3 in
    let whole : IsJoined (record {
      forest = c.self.inside.seat.table_id;
      known =
          c.self.inside.seat.me.0;
    })
    (record { forest = c.other.inside.seat.table_id; known = c.other.inside.seat.me.0 })
    (record { forest = c.load.new.seat.table_id; known = c.load.new.seat.me.0 }) =
    record {
      forest = c.load.ensures.0 ∙ c.join_seat.ensures.0;
      core = core;
      mine = my_trees k o after is.worker.known c.other.invariant.worker.known core settles;
      theirs = their_trees k o after is.worker.known c.other.invariant.worker.known core settles;
      known = told.0.known;
    } in
    subst (λ (s : Standing). IsJoined s c.args.other (record {
      forest = c.load.new.seat.table_id;
      known = c.load.new.seat.me.0;
    })) c.self.view_is
    (subst
    (λ (s : Standing). IsJoined (record {
      forest = c.self.inside.seat.table_id;
      known =
          c.self.inside.seat.me.0;
    }) s (record {
      forest = c.load.new.seat.table_id;
      known =
          c.load.new.seat.me.0;
    }))
    c.other.view_is whole)
