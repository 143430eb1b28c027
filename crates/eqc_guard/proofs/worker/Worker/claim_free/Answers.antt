use Rattle.std.proofs.Common.{◌≡◌, ℕ, Option, Some, None, IfSome, ap, sym, subst, refl}
use Rattle.eqc_core.specs.declared.sizes.Sizes.{Sizes}
use Rattle.eqc_guard.specs.Standing.{Standing}
use Rattle.eqc_guard.specs.Searching.{IsDrafted, HasSeen}
use Rattle.eqc_guard.proofs.Searching.{then_won, then_seen, all_seen}
use Rattle.eqc_guard.proofs.worker.Worker.claim_free.Goals as goal

-- the first half of the turn
half : (c : goal.After-claim_between-2)
    → HasSeen c.clamp-begin.result c.args.self.now.known.core.sizes.names c.args.self.now
    c.claim_between.new.self
half c =
    let is = c.self.invariant in
    let names : c.self.inside.sizes.names ≡ c.args.self.now.known.core.sizes.names =
    subst (λ (s : Standing). c.self.inside.sizes.names ≡ s.known.core.sizes.names) c.self.view_is
    (sym (ap (λ (z : Sizes). z.names) is.worker.sizes)) in
    subst (λ n. HasSeen c.clamp-begin.result n c.args.self.now c.claim_between.new.self) names
    (c.in_default.ensures.lost refl)

some_won : (o : Option ℕ) (first last : ℕ) (old mid new : Standing) → HasSeen first last old mid
    → IfSome o (λ slot. IsDrafted slot mid new) → IfSome o (λ slot. IsDrafted slot old new)
some_won None first last old mid new h d = tt
some_won (Some slot) first last old mid new h d = then_won first last old mid h slot new d

pub returns-clause-won : goal.returns-clause-won
returns-clause-won c =
    some_won c.claim_between-2.result c.clamp-begin.result c.args.self.now.known.core.sizes.names
    c.args.self.now c.claim_between.new.self
    c.claim_between-2.new.self (half c) c.claim_between-2.ensures.won

pub returns-clause-lost : goal.returns-clause-lost
returns-clause-lost c = λ none.
    then_seen c.clamp-begin.result c.args.self.now.known.core.sizes.names c.args.self.now
    c.claim_between.new.self (half c) 2 c.claim_between-2.new.self
    (c.claim_between-2.ensures.lost none)

pub returns-clause-all : goal.returns-clause-all
returns-clause-all c = λ none. all_seen c.args.self.now c.claim_between-2.new.self
    (returns-clause-lost c none)
