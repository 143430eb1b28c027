-- Laws of known bytes, one read after another.
use Rattle.std.proofs.Common.{◌≡◌, ℕ, suc, ◌≤◌, List, [], ◌++◌, length, take, sym, ◌∙◌, ap, subst}
use Rattle.std.proofs.Common.{append_assoc, append-nil, Option, Some, None, IfSome}
use Rattle.std.specs.Io.KnownBytes.{Consumes, IsAtEnd}
use Rattle.std.proofs.Math.Seq.{take-append_seam}
use Rattle.std.proofs.lemmas.List.{take_all}
use Rattle.eqc_case.specs.Reading.{Gives, bytes_read}

pub consumes_more : (old mid new : Option (List ℕ)) (xs ys : List ℕ) → Consumes old mid xs
    → Consumes mid new ys → Consumes old new (xs ++ ys)
consumes_more None mid new xs ys a b = a
consumes_more (Some x) None new xs ys a b = absurd a
consumes_more (Some x) (Some y) None xs ys a b = absurd b
consumes_more (Some x) (Some y) (Some z) xs ys a b = a ∙ (ap (λ p. xs ++ p) b
    ∙ sym (append_assoc xs ys z))

-- one more block of a text
pub gives_more : (old mid new : Option (List ℕ)) (before text : List ℕ) → Consumes old mid before
    → Gives mid new before text → Consumes old new text
gives_more old mid new before text a b = subst (Consumes old new) (sym b.grown)
    (consumes_more old mid new before b.bytes a b.taken)

-- a text that is all of the bytes, or as many as are read
read_all : (limit : ℕ) (bytes text : List ℕ) → length text ≤ suc limit → bytes ≡ text ++ []
    → text ≡ bytes_read limit bytes
unfolding bytes_read
read_all limit bytes text few e = sym (ap (take (suc limit)) (e ∙ append-nil text)
    ∙ take_all (suc limit) text few)

read_most : (limit : ℕ) (bytes text rest : List ℕ) → length text ≡ suc limit → bytes ≡ text ++ rest
    → text ≡ bytes_read limit bytes
unfolding bytes_read
read_most limit bytes text rest full e = sym (ap (λ n. take n bytes) (sym full)
    ∙ ap (take (length text)) e ∙ take-append_seam text rest)

pub all_read : (limit : ℕ) (old new : Option (List ℕ)) (text : List ℕ) → length text ≤ suc limit
    → Consumes old new text → IsAtEnd new →
    IfSome old (λ bytes. text ≡ bytes_read limit bytes)
all_read limit None new text few a end = tt
all_read limit (Some x) None text few a end = absurd a
all_read limit (Some x) (Some y) text few a end = read_all limit x text few (a
    ∙ ap (λ l. text ++ l) end)

pub most_read : (limit : ℕ) (old new : Option (List ℕ)) (text : List ℕ) → length text ≡ suc limit
    → Consumes old new text →
    IfSome old (λ bytes. text ≡ bytes_read limit bytes)
most_read limit None new text full a = tt
most_read limit (Some x) None text full a = absurd a
most_read limit (Some x) (Some y) text full a = read_most limit x text y full a
