-- Bytes on their way to a writer.
use Rattle.std.specs.Prelude.{◌≡◌, ℕ, Bool, true, false, List, ◌++◌, Option}
use Rattle.std.specs.Io.KnownBytes.{Appends}
use Rattle.eqc_report.specs.Ends.{AppendsPrefix}

-- the bytes that wait, and whether a write has failed
pub record SpoolOf : Type 0 where
  pub waits : List ℕ
  pub failed : Bool

abbrev pub IsPutIn : Bool → Option (List ℕ) → Option (List ℕ) → List ℕ → List ℕ → Type 0
IsPutIn false start now waits text = (written : List ℕ) × Appends start now written
    × (text ≡ written ++ waits)
IsPutIn true start now waits text = AppendsPrefix start now text

-- a text was put since a writer had some bytes: it was written but for what waits, or after a
-- failure a part of it was
abbrev pub IsPut : Option (List ℕ) → Option (List ℕ) → SpoolOf → List ℕ → Type 0
IsPut start now spool text = IsPutIn spool.failed start now spool.waits text

-- bytes are put behind whatever text was
pub record Puts (old new : Option (List ℕ)) (before after : SpoolOf) (bytes : List ℕ) : Type 0 where
  pub each : (start : Option (List ℕ)) (text : List ℕ) → IsPut start old before text
      → IsPut start new after (text ++ bytes)
