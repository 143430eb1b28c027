-- What is read of a text.
use Rattle.std.specs.Prelude.{◌≡◌, ℕ, suc, List, ◌++◌, take, Option}
use Rattle.std.specs.Io.KnownBytes.{Consumes}

-- a reader gave the bytes that a text grew by
pub record Gives (left_before left : Option (List ℕ)) (text_before text : List ℕ) : Type 0 where
  pub bytes : List ℕ
  pub grown : text ≡ text_before ++ bytes
  pub taken : Consumes left_before left bytes

-- what is read of the bytes of a reader, of which so many are taken at most: all of them, but of
-- more than these one more alone
unfoldable pub bytes_read : ℕ → List ℕ → List ℕ
bytes_read limit bytes = take (suc limit) bytes
