-- Bytes on their way to a writer, one after another.
use Rattle.std.proofs.Common.{◌≡◌, ℕ, ◌+◌, ◌<◌, ◌≤◌, Bool, true, false, List, [], ◌∷◌, ◌++◌, length}
use Rattle.std.proofs.Common.{length-append, take, map, get_or, Option, Some, None, refl, sym, ap}
use Rattle.std.proofs.Common.{◌∙◌, subst, arith, append_assoc, append-nil, OnOk, OnErr, Result, Ok}
use Rattle.std.proofs.Common.{Err}
use Rattle.std.specs.List.{flat_map}
use Rattle.std.specs.Io.KnownBytes.{Appends}
use Rattle.std.proofs.lemmas.List.{take-append-le, take_all, take_more}
use Rattle.std.proofs.Math.Seq.{take-append-add}
use Rattle.std.proofs.lemmas.Grind.{flat_map-append}
use Rattle.eqc_report.specs.Ends.{AppendsPrefix}
use Rattle.eqc_report.specs.Spooling.{SpoolOf, IsPut, IsPutIn, Puts}
use Rattle.eqc_report.proofs.KnownBytes.{appends_more}

-- what a writer has grew by nothing
pub grows_by_none : (known : Option (List ℕ)) → Appends known known []
grows_by_none None = tt
grows_by_none (Some x) = sym (append-nil x)

-- a part of a text is a part of a longer one
pub part_longer : (start now : Option (List ℕ)) (text more : List ℕ) → AppendsPrefix start now text
    → AppendsPrefix start now (text ++ more)
part_longer start now text more part = (
  part.0,
  longer,
  subst (Appends start now) (sym (take-append-le part.0 text more part.1))
      part.2,
)
  where
    longer : part.0 ≤ length (text ++ more)
    longer = omega (arith, part.1, length-append text more)

-- where a write of what waits is cut off, a part of the text was written
pub part_waited : (start mid now : Option (List ℕ)) (written waits text : List ℕ)
    → Appends start mid written → text ≡ written ++ waits → AppendsPrefix mid now waits
    → AppendsPrefix start now text
part_waited start mid now written waits text a e part =
    subst (AppendsPrefix start now) (sym e) (
      length written + part.0,
      omega (arith, part.1, length-append written waits),
      subst (Appends start now) (sym (take-append-add written waits part.0)) (appends_more start mid
          now written (take part.0 waits) a part.2),
    )

-- nothing was put
pub put_none : (now : Option (List ℕ)) → IsPut now now (record { waits = []; failed = false }) []
put_none now = ([], grows_by_none now, refl)

pub puts_none : (now : Option (List ℕ)) (s : SpoolOf) → Puts now now s s []
puts_none now s = record {
  each = λ start text is. subst (IsPut start now s) (sym (append-nil text))
      is;
}

-- one call after another
pub puts_both : (a b c : Option (List ℕ)) (p q r : SpoolOf) (xs ys : List ℕ) → Puts a b p q xs
    → Puts b c q r ys → Puts a c p r (xs ++ ys)
puts_both a b c p q r xs ys x y = record {
  each = λ start text is. subst (IsPut start c r)
      (append_assoc text xs ys) (y.each start (text ++ xs) (x.each start text is));
}

pub puts_same : (a b : Option (List ℕ)) (p q : SpoolOf) (xs ys : List ℕ) → xs ≡ ys → Puts a b p q xs
    → Puts a b p q ys
puts_same a b p q xs ys e x = subst (Puts a b p q) e x

-- one more element of a list
pub puts_more : {A : Type 0} (a b c : Option (List ℕ)) (p q r : SpoolOf) (put : A
    → List ℕ) (all : List A) (k : ℕ) (d : A) → k < length all → d ≡ get_or all k d
    → Puts a b p q (flat_map put (take k all)) → Puts b c q r (put d)
    → Puts a c p r (flat_map put (take (k + 1) all))
puts_more a b c p q r put all k d inside at x y =
    puts_same a c p r (flat_map put (take k all) ++ put d) (flat_map put (take (k + 1) all))
    (sym
    (ap (flat_map put) (take_more all k d inside)
    ∙ (flat_map-append put (take k all) (get_or all k d ∷ [])
    ∙ (ap (λ z. flat_map put (take k all) ++ flat_map put (z ∷ [])) (sym at)
    ∙ ap (λ l. flat_map put (take k all) ++ l) (append-nil (put d))))))
    (puts_both a b c p q r (flat_map put (take k all)) (put d) x y)

pub puts_all : {A : Type 0} (a b : Option (List ℕ)) (p q : SpoolOf) (put : A
    → List ℕ) (all : List A) (k : ℕ) → length all ≤ k →
    Puts a b p q (flat_map put (take k all)) → Puts a b p q (flat_map put all)
puts_all a b p q put all k whole x = puts_same a b p q (flat_map put (take k all))
    (flat_map put all) (ap (flat_map put) (take_all k all whole)) x

-- one more byte of a list, and all of them
pub bytes_more : (a b c : Option (List ℕ)) (p q r : SpoolOf) (all : List ℕ) (k byte : ℕ)
    → k < length all → byte ≡ get_or all k byte →
    Puts a b p q (take k all) → Puts b c q r (byte ∷ []) → Puts a c p r (take (k + 1) all)
bytes_more a b c p q r all k byte inside at x y =
    puts_same a c p r (take k all ++ byte ∷ []) (take (k + 1) all) (sym (take_more all k byte inside
    ∙ ap (λ z. take k all ++ z ∷ []) (sym at))) (puts_both a b c p q r (take k all) (byte ∷ [])
    x y)

pub bytes_all : (a b : Option (List ℕ)) (p q : SpoolOf) (all : List ℕ) (k : ℕ) → length all ≤ k
    → Puts a b p q (take k all) → Puts a b p q all
bytes_all a b p q all k whole x = puts_same a b p q (take k all) all (take_all k all whole) x

-- nothing more is put after a failure
pub failed_puts : (now : Option (List ℕ)) (s : SpoolOf) (bytes : List ℕ) → s.failed ≡ true
    → Puts now now s s bytes
failed_puts now s bytes e = record { each = λ start text is. by s.failed e start text is }
  where
    by : (failed : Bool) → failed ≡ true → (start : Option (List ℕ)) (text : List ℕ)
        → IsPutIn failed start now s.waits text → IsPutIn failed start now s.waits (text ++ bytes)
    by true e start text is = part_longer start now text bytes is
    by false e start text is = let clash : false ≡ true = e in cc

-- a full block is cut off
pub cut_puts : (old new : Option (List ℕ)) (p q : SpoolOf) (bytes : List ℕ) → p.failed ≡ false
    → q.failed ≡ true → AppendsPrefix old new p.waits → Puts old new p q bytes
cut_puts old new p q bytes e f part = record {
  each = λ start text is. by p.failed q.failed e f
      start text is;
}
  where
    by : (b c : Bool) → b ≡ false → c ≡ true → (start : Option (List ℕ)) (text : List ℕ)
        → IsPutIn b start old p.waits text → IsPutIn c start new q.waits (text ++ bytes)
    by true c e f start text is = let clash : true ≡ false = e in cc
    by false false e f start text is = let clash : false ≡ true = f in cc
    by false true e f start text is = part_longer start new text bytes (part_waited start old new
        is.0 p.waits text is.1 is.2 part)

-- bytes wait behind others
pub waits_puts : (now : Option (List ℕ)) (p q : SpoolOf) (bytes : List ℕ) → p.failed ≡ false
    → q.failed ≡ false → q.waits ≡ p.waits ++ bytes → Puts now now p q bytes
waits_puts now p q bytes e f w = record {
  each = λ start text is. by p.failed q.failed e f start
      text is;
}
  where
    by : (b c : Bool) → b ≡ false → c ≡ false → (start : Option (List ℕ)) (text : List ℕ)
        → IsPutIn b start now p.waits text → IsPutIn c start now q.waits (text ++ bytes)
    by true c e f start text is = let clash : true ≡ false = e in cc
    by false true e f start text is = let clash : true ≡ false = f in cc
    by false false e f start text is = (
      is.0,
      is.1,
      ap (λ t. t ++ bytes) is.2
          ∙ (append_assoc is.0 p.waits bytes ∙ ap (λ l. is.0 ++ l) (sym w)),
    )

-- behind a block that was written
pub fresh_puts : (old new : Option (List ℕ)) (p q : SpoolOf) (bytes : List ℕ) → p.failed ≡ false
    → q.failed ≡ false → Appends old new p.waits → q.waits ≡ bytes → Puts old new p q bytes
fresh_puts old new p q bytes e f a w = record {
  each = λ start text is. by p.failed q.failed e f
      start text is;
}
  where
    by : (b c : Bool) → b ≡ false → c ≡ false → (start : Option (List ℕ)) (text : List ℕ)
        → IsPutIn b start old p.waits text → IsPutIn c start new q.waits (text ++ bytes)
    by true c e f start text is = let clash : true ≡ false = e in cc
    by false true e f start text is = let clash : true ≡ false = f in cc
    by false false e f start text is = (
      text,
      subst (Appends start new) (sym is.2) (appends_more start old new is.0 p.waits is.1
          a),
      ap (λ l. text ++ l) (sym w),
    )

-- the rest was written, or a part of it
pub closed_whole : {X E : Type 0} (r : Result X E) (old new : Option (List ℕ)) (s : SpoolOf)
    (start : Option (List ℕ)) (text : List ℕ) →
    s.failed ≡ false → OnOk r (Appends old new s.waits) → IsPut start old s text
    → OnOk r (Appends start new text)
closed_whole (Err error) old new s start text e a is = tt
closed_whole (Ok x) old new s start text e a is = by s.failed e is
  where
    by : (failed : Bool) → failed ≡ false → IsPutIn failed start old s.waits text
        → Appends start new text
    by true e is = let clash : true ≡ false = e in cc
    by false e is = subst (Appends start new) (sym is.2) (appends_more start old new is.0 s.waits
        is.1 a)

pub closed_part : {X E : Type 0} (r : Result X E) (old new : Option (List ℕ)) (s : SpoolOf)
    (start : Option (List ℕ)) (text : List ℕ) →
    s.failed ≡ false → OnErr r (AppendsPrefix old new s.waits) → IsPut start old s text
    → OnErr r (AppendsPrefix start new text)
closed_part (Ok x) old new s start text e part is = tt
closed_part (Err error) old new s start text e part is = by s.failed e is
  where
    by : (failed : Bool) → failed ≡ false → IsPutIn failed start old s.waits text
        → AppendsPrefix start new text
    by true e is = let clash : true ≡ false = e in cc
    by false e is = part_waited start old new is.0 s.waits text is.1 is.2 part

pub closed_failed : (now : Option (List ℕ)) (s : SpoolOf) (start : Option (List ℕ)) (text : List ℕ)
    → s.failed ≡ true → IsPut start now s text → AppendsPrefix start now text
closed_failed now s start text e is = by s.failed e is
  where
    by : (failed : Bool) → failed ≡ true → IsPutIn failed start now s.waits text
        → AppendsPrefix start now text
    by true e is = is
    by false e is = let clash : false ≡ true = e in cc

-- the lines of a list whose elements are seen as others
pub lines_mapped : {A B : Type 0} (put : B → List ℕ) (of : A → B) (all : List A)
    → flat_map (λ d. put (of d)) all ≡ flat_map put (map of all)
lines_mapped put of [] = refl
lines_mapped put of (d ∷ all) = ap (λ l. put (of d) ++ l) (lines_mapped put of all)
