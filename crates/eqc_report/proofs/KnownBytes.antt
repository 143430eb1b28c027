-- Laws of known bytes, one write after another.
use Rattle.std.proofs.Common.{ℕ, ◌+◌, ◌-◌, List, [], ◌++◌, length, take, drop, sym, ◌∙◌, ap}
use Rattle.std.proofs.Common.{append_assoc, append-nil, Option, Some, None}
use Rattle.std.specs.Io.KnownBytes.{Appends, Keeps}
use Rattle.std.proofs.Math.Seq.{take-add}
use Rattle.std.proofs.lemmas.List.{take_rest}

pub appends_more : (old mid new : Option (List ℕ)) (xs ys : List ℕ) → Appends old mid xs
    → Appends mid new ys → Appends old new (xs ++ ys)
appends_more None mid new xs ys a b = a
appends_more (Some x) None new xs ys a b = absurd a
appends_more (Some x) (Some y) None xs ys a b = absurd b
appends_more (Some x) (Some y) (Some z) xs ys a b = b ∙ (ap (λ p. p ++ ys) a ∙ append_assoc x xs ys)

-- what is kept grew by nothing
pub appends_kept : (old new : Option (List ℕ)) → Keeps old new → Appends old new []
appends_kept None new a = a
appends_kept (Some x) None a = absurd a
appends_kept (Some x) (Some y) a = a ∙ sym (append-nil x)

pub keeps_appended : (old mid new : Option (List ℕ)) (xs : List ℕ) → Appends old mid xs
    → Keeps mid new → Appends old new xs
keeps_appended None mid new xs a b = a
keeps_appended (Some x) None new xs a b = absurd a
keeps_appended (Some x) (Some y) None xs a b = absurd b
keeps_appended (Some x) (Some y) (Some z) xs a b = b ∙ a

-- one more write of a text
pub writes_on : (old mid new : Option (List ℕ)) (text : List ℕ) (done n : ℕ)
    → Appends old mid (take done text) →
    Appends mid new (take n (take (length text - done) (drop done text)))
    → Appends old new (take (done + n) text)
writes_on old mid new text done n a b =
    rw take-add (appends_more old mid new (take done text) (take n (drop done text)) a
    (rw take_rest at b))
