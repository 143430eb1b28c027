use Rattle.std.proofs.Common.{[], ◌∷◌, sym, subst}
use Rattle.eqc_guard.specs.declared.parcel.Parcel.{Parcel}
use Rattle.eqc_guard.specs.Sharing.{parcel_names}
use Rattle.eqc_arena.specs.Changing.{Exchanges}
use Rattle.eqc_arena.specs.Unboxing.{HoldsParcel}
use Rattle.eqc_arena.proofs.Changing.{stays}
use Rattle.eqc_arena.proofs.Unboxing.{HasAll, first_held, rest_held, front_goes}
use Rattle.eqc_arena.proofs.boxes.give_parcel.Goals as goal

pub returns-in-Empty-clause-changes : goal.returns-in-Empty-clause-changes
returns-in-Empty-clause-changes c =
    subst (λ (p : Parcel). Exchanges (parcel_names p) [] c.args.worker.now c.args.worker.now)
    (sym c.in-Empty.is) (stays c.args.worker.now c.recall_laws.ensures)

pub give-requires-clause-held : goal.give-requires-clause-held
give-requires-clause-held c =
    let all : HasAll (c.in-Task.f.number ∷ c.in-Task.g.number ∷ []) c.args.worker.now.known.core =
    subst (λ (p : Parcel). HoldsParcel c.args.worker.now.known.core p) c.in-Task.is
    c.requires.held in
    first_held c.in-Task.f.number (c.in-Task.g.number ∷ []) c.args.worker.now.known.core all

pub give-requires-in-Task-clause-held : goal.give-requires-in-Task-clause-held
give-requires-in-Task-clause-held c =
    let all : HasAll (c.in-Task.f.number ∷ c.in-Task.g.number ∷ []) c.args.worker.now.known.core =
    subst (λ (p : Parcel). HoldsParcel c.args.worker.now.known.core p) c.in-Task.is
    c.requires.held in
    first_held c.in-Task.g.number [] c.give.new.worker.known.core (rest_held c.in-Task.f.number
    (c.in-Task.g.number ∷ []) c.args.worker.now c.give.new.worker c.give.ensures.changes all)

pub returns-in-Task-clause-changes : goal.returns-in-Task-clause-changes
returns-in-Task-clause-changes c =
    subst (λ (p : Parcel). Exchanges (parcel_names p) [] c.args.worker.now
    c.give-in-Task.new.worker) (sym c.in-Task.is)
    (front_goes c.in-Task.f.number (c.in-Task.g.number ∷ []) c.give.ensures.changes
    c.give-in-Task.ensures.changes)

pub give-requires-in-Stopped-clause-held : goal.give-requires-in-Stopped-clause-held
give-requires-in-Stopped-clause-held c =
    let all : HasAll (c.in-Stopped.f.number ∷ c.in-Stopped.g.number ∷ [])
    c.args.worker.now.known.core =
    subst (λ (p : Parcel). HoldsParcel c.args.worker.now.known.core p) c.in-Stopped.is
    c.requires.held in
    first_held c.in-Stopped.f.number (c.in-Stopped.g.number ∷ []) c.args.worker.now.known.core all

pub give-requires-in-Stopped-2-clause-held : goal.give-requires-in-Stopped-2-clause-held
give-requires-in-Stopped-2-clause-held c =
    let all : HasAll (c.in-Stopped.f.number ∷ c.in-Stopped.g.number ∷ [])
    c.args.worker.now.known.core =
    subst (λ (p : Parcel). HoldsParcel c.args.worker.now.known.core p) c.in-Stopped.is
    c.requires.held in
    first_held c.in-Stopped.g.number [] c.give-in-Stopped.new.worker.known.core
    (rest_held c.in-Stopped.f.number (c.in-Stopped.g.number ∷ []) c.args.worker.now
    c.give-in-Stopped.new.worker c.give-in-Stopped.ensures.changes all)

pub returns-in-Stopped-clause-changes : goal.returns-in-Stopped-clause-changes
returns-in-Stopped-clause-changes c =
    subst (λ (p : Parcel). Exchanges (parcel_names p) [] c.args.worker.now
    c.give-in-Stopped-2.new.worker) (sym c.in-Stopped.is)
    (front_goes c.in-Stopped.f.number (c.in-Stopped.g.number ∷ []) c.give-in-Stopped.ensures.changes
    c.give-in-Stopped-2.ensures.changes)

pub give-requires-in-Done-clause-held : goal.give-requires-in-Done-clause-held
give-requires-in-Done-clause-held c =
    let all : HasAll (c.in-Done.field-0.r.number ∷ c.in-Done.field-0.f.number
    ∷ c.in-Done.field-0.g.number ∷ []) c.args.worker.now.known.core =
    subst (λ (p : Parcel). HoldsParcel c.args.worker.now.known.core p) c.in-Done.is c.requires.held
    in
    first_held c.in-Done.field-0.r.number (c.in-Done.field-0.f.number ∷ c.in-Done.field-0.g.number
    ∷ []) c.args.worker.now.known.core all

pub give-requires-in-Done-2-clause-held : goal.give-requires-in-Done-2-clause-held
give-requires-in-Done-2-clause-held c =
    let all : HasAll (c.in-Done.field-0.r.number ∷ c.in-Done.field-0.f.number
    ∷ c.in-Done.field-0.g.number ∷ []) c.args.worker.now.known.core =
    subst (λ (p : Parcel). HoldsParcel c.args.worker.now.known.core p) c.in-Done.is c.requires.held
    in
    let rest = rest_held c.in-Done.field-0.r.number (c.in-Done.field-0.f.number
    ∷ c.in-Done.field-0.g.number ∷ []) c.args.worker.now c.give-in-Done.new.worker
    c.give-in-Done.ensures.changes all in
    first_held c.in-Done.field-0.f.number (c.in-Done.field-0.g.number ∷ [])
    c.give-in-Done.new.worker.known.core rest

pub give-requires-in-Done-3-clause-held : goal.give-requires-in-Done-3-clause-held
give-requires-in-Done-3-clause-held c =
    let all : HasAll (c.in-Done.field-0.r.number ∷ c.in-Done.field-0.f.number
    ∷ c.in-Done.field-0.g.number ∷ []) c.args.worker.now.known.core =
    subst (λ (p : Parcel). HoldsParcel c.args.worker.now.known.core p) c.in-Done.is c.requires.held
    in
    let rest = rest_held c.in-Done.field-0.r.number (c.in-Done.field-0.f.number
    ∷ c.in-Done.field-0.g.number ∷ []) c.args.worker.now c.give-in-Done.new.worker
    c.give-in-Done.ensures.changes all in
    first_held c.in-Done.field-0.g.number [] c.give-in-Done-2.new.worker.known.core
    (rest_held c.in-Done.field-0.f.number (c.in-Done.field-0.g.number ∷ [])
    c.give-in-Done.new.worker c.give-in-Done-2.new.worker c.give-in-Done-2.ensures.changes rest)

pub returns-in-Done-clause-changes : goal.returns-in-Done-clause-changes
returns-in-Done-clause-changes c =
    subst (λ (p : Parcel). Exchanges (parcel_names p) [] c.args.worker.now
    c.give-in-Done-3.new.worker) (sym c.in-Done.is)
    (front_goes c.in-Done.field-0.r.number (c.in-Done.field-0.f.number ∷ c.in-Done.field-0.g.number
    ∷ []) c.give-in-Done.ensures.changes
    (front_goes c.in-Done.field-0.f.number (c.in-Done.field-0.g.number ∷ [])
    c.give-in-Done-2.ensures.changes c.give-in-Done-3.ensures.changes))
