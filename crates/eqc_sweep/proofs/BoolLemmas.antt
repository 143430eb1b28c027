-- Laws of truth values.
use Rattle.std.proofs.Common.{◌≡◌, Bool, true, false, not, ◌&&◌, refl, sym, ap, ◌∙◌}
use Rattle.eqc_xag.specs.Graph.{differ}

-- functions of one and of two truth values that agree at each
pub same_of_one : (f g : Bool → Bool) → f true ≡ g true → f false ≡ g false → (p : Bool) → f p ≡ g p
same_of_one f g t n true = t
same_of_one f g t n false = n

pub same_of_two : (f g : Bool → Bool → Bool) → f true true ≡ g true true
    → f true false ≡ g true false → f false true ≡ g false true → f false false ≡ g false false
    → (p q : Bool) → f p q ≡ g p q
same_of_two f g a b c d true true = a
same_of_two f g a b c d true false = b
same_of_two f g a b c d false true = c
same_of_two f g a b c d false false = d

-- a function of equal values
pub same_at : (f : Bool → Bool → Bool) (x u y v : Bool) → x ≡ u → y ≡ v → f x y ≡ f u v
same_at f x u y v e h = ap (λ (b : Bool). f b y) e ∙ ap (λ (b : Bool). f u b) h

pub and_comm : (x y : Bool) → (x && y) ≡ (y && x)
and_comm = same_of_two (λ x y. x && y) (λ x y. y && x) refl refl refl refl

pub differ_comm : (x y : Bool) → differ x y ≡ differ y x
differ_comm = same_of_two differ (λ x y. differ y x) refl refl refl refl

pub and_true : (x : Bool) → (x && true) ≡ x
and_true true = refl
and_true false = refl

pub and_false : (x : Bool) → (x && false) ≡ false
and_false true = refl
and_false false = refl

-- where r isn't true with b, no conjunction with r is
pub excluded_first : (b r s : Bool) → (b && r) ≡ false → (b && (r && s)) ≡ false
excluded_first true r s h = ap (λ (t : Bool). t && s) h
excluded_first false r s h = refl

pub excluded_second : (b r s : Bool) → (b && s) ≡ false → (b && (r && s)) ≡ false
excluded_second true r s h = ap (λ (t : Bool). r && t) h ∙ and_false r
excluded_second false r s h = refl

-- two that are never just one true are equal
pub equal_both : (x y : Bool) → (x && not y) ≡ false → (not x && y) ≡ false → x ≡ y
equal_both true true f g = refl
equal_both true false f g = f
equal_both false true f g = sym g
equal_both false false f g = refl
