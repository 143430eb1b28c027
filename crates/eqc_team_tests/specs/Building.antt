-- What the tests know of a member of a team that keeps the references which it makes.
use Rattle.std.specs.Prelude.{◌≡◌, ℕ, ◌<◌, ◌+◌, Bool, false, List, [], sum_by, nat_lt}
use Rattle.std.specs.Prelude.{if◌then◌else◌}
use Rattle.eqc_tree.specs.Holding.{Entry, copies, weight}
use Rattle.eqc_apply.specs.declared.applier.Applier.{Applier}
use Rattle.eqc_apply.specs.declared.reference.Ref.{Ref}
use Rattle.eqc_apply.specs.Extending.{holding_in}
use Rattle.eqc_apply.specs.Referring.{entry_of}
use Rattle.eqc_apply.specs.Teaming.{number_of, forest_of}

-- how often a constant counts as held, besides its references
abbrev pub constants_of : Entry → ℕ
constants_of e = if nat_lt e.number 2 then 1 else 0

-- how many of the references stand for e
abbrev pub made_of : Entry → List Ref → ℕ
made_of e references = sum_by (λ (r : Ref). weight (entry_of r) e) references

-- the member holds these references, and no others
abbrev pub AreHeld : List Ref → Applier → Type 0
AreHeld references member = (e : Entry) → copies (holding_in member.names) e ≡ constants_of e
    + made_of e references

-- it is the worker that it was, of the same forest
abbrev pub IsSame : Applier → Applier → Type 0
IsSame old new = (forest_of new ≡ forest_of old) × (number_of new ≡ number_of old)

-- a member beside this one that holds no references, and is not worker 0
abbrev pub IsBeside : ℕ → Applier → Applier → Type 0
IsBeside variables member other = ((holding_in other.names).variables ≡ variables)
    × AreHeld [] other × (forest_of other ≡ forest_of member) × (0 < number_of other)

-- a member of so many variables, which is worker 0 only if it is the first, holds the references
pub record IsBuilding (variables : ℕ) (is_first : Bool) (references : List Ref) (member : Applier) :
    Type 0 where
  pub range : (holding_in member.names).variables ≡ variables
  pub held : AreHeld references member
  pub number : is_first ≡ false → 0 < number_of member
