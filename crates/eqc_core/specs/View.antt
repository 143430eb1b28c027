-- What each worker knows. The words of the others tell nothing of it.
use Rattle.std.specs.Prelude.{ℕ, zero, suc, List, [], ◌∷◌, Bool, true, false, Option, Some, None}
use Rattle.std.specs.Prelude.{get_or}
use Rattle.eqc_core.specs.declared.sizes.Sizes.{Sizes}
use Rattle.eqc_core.specs.declared.phase.Phase.{Phase}
use Rattle.eqc_core.specs.declared.phase.Phase.TheVariants.{Idle}

-- a stripe's table of node words and slots, while a worker has the stripe's lock
pub record Hand : Type 0 where
  pub stripe : ℕ
  pub entries : List (ℕ × ℕ)

-- the node last read, with its word
pub record Read : Type 0 where
  pub name : ℕ
  pub word : ℕ

pub record View : Type 0 where
  pub active : Bool
  -- the worker was active and has been joined, for good
  pub over : Bool
  -- a step knows the sizes and the worker's number from the view alone
  pub sizes : Sizes
  pub number : ℕ
  -- the names held, with repeats
  pub held : List ℕ
  -- one phase for each announcement word of the worker
  pub phases : List Phase
  -- the names retired, with repeats
  pub retired : List ℕ
  -- the announcement word that the scan reads next, and the names that it has noted
  pub position : ℕ
  pub noted : List ℕ
  -- a slot that was claimed and has no node yet
  pub draft : Option ℕ
  pub hand : Option Hand
  pub read : Option Read
  -- the slots that its claims found taken, since it last won a claim or a lock
  pub turn : List ℕ
  -- the stops that it took out of boxes, since it last won a lock
  pub stops : List ℕ
  -- the next number that was never given, at worker 0
  pub given : ℕ
  -- the numbers split off that have not come back, at worker 0; those taken in, at any other worker
  pub out : List ℕ

abbrev pub idle : ℕ → List Phase
idle zero = []
idle (suc n) = Idle ∷ idle n

abbrev pub nowhere : Sizes
nowhere = record { workers = 0; announcements = 0; names = 0; cells = 0; variables = 0 }

-- the view of a number that was never given: it owns nothing
abbrev pub unused : View
unused =
    record {
      active = false;
      over = false;
      sizes = nowhere;
      number = 0;
      held = [];
      phases = [];
      retired = [];
      position = 0;
      noted = [];
      draft = None;
      hand = None;
      read = None;
      turn = [];
      stops = [];
      given = 0;
      out = [];
    }

-- the one view of those that were joined: it owns nothing
abbrev pub spent : View
spent = record unused { over = true }

-- a worker that has just been split off: it holds nothing
abbrev pub fresh : Sizes → ℕ → View
fresh z number = record unused {
  active = true;
  sizes = z;
  number = number;
  phases =
      idle z.announcements;
}

-- the view of a number: one beyond the list was never given
abbrev pub view_at : List View → ℕ → View
view_at vs id = get_or vs id unused

-- the list with a view for each number below n
abbrev pub grown : List View → ℕ → List View
grown [] zero = []
grown [] (suc n) = unused ∷ grown [] n
grown (v ∷ vs) zero = v ∷ vs
grown (v ∷ vs) (suc n) = v ∷ grown vs n

-- the phase of the view's k-th announcement word
abbrev pub phase_at : View → ℕ → Phase
phase_at v k = get_or v.phases k Idle

-- the draft, and the stripe in hand, of a view that has one: a step that takes one is allowed only
-- then
abbrev pub draft_of : Option ℕ → ℕ
draft_of None = 0
draft_of (Some d) = d

abbrev pub hand_of : Option Hand → Hand
hand_of None = record { stripe = 0; entries = [] }
hand_of (Some h) = h
