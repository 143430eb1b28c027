-- Operations by their numbers.
use Rattle.std.proofs.Common.{◌≡◌, refl, arith}
use Rattle.eqc_tree.specs.Operation.{tag_of}
use Rattle.eqc_tree.specs.declared.operation.Op.{Op}
use Rattle.eqc_tree.specs.declared.operation.Op.TheVariants.{And, Or, Xor, AndNot}

-- two operations with one number are one
pub tag_of-injective : (p q : Op) → tag_of p ≡ tag_of q → p ≡ q
tag_of-injective And And e = refl
tag_of-injective And Or e = absurd (omega arith)
tag_of-injective And Xor e = absurd (omega arith)
tag_of-injective And AndNot e = absurd (omega arith)
tag_of-injective Or And e = absurd (omega arith)
tag_of-injective Or Or e = refl
tag_of-injective Or Xor e = absurd (omega arith)
tag_of-injective Or AndNot e = absurd (omega arith)
tag_of-injective Xor And e = absurd (omega arith)
tag_of-injective Xor Or e = absurd (omega arith)
tag_of-injective Xor Xor e = refl
tag_of-injective Xor AndNot e = absurd (omega arith)
tag_of-injective AndNot And e = absurd (omega arith)
tag_of-injective AndNot Or e = absurd (omega arith)
tag_of-injective AndNot Xor e = absurd (omega arith)
tag_of-injective AndNot AndNot e = refl
