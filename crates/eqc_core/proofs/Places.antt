-- The announcement words of two workers are apart, and all are there.
use Rattle.std.proofs.Common.{◌≡◌, ◌≢◌, ℕ, ◌<◌, arith}
use Rattle.std.proofs.lemmas.Nat.{mul-add-lt, same_from_place}
use Rattle.std.proofs.Math.Nat.{mul_comm}
use Rattle.eqc_core.specs.declared.sizes.Sizes.{Sizes}
use Rattle.eqc_core.specs.Words.{announced_words, word_at}

pub one_place : (z : Sizes) (m j k l : ℕ) → k < z.announcements → l < z.announcements
    → word_at z m k ≡ word_at z j l → (m ≡ j) × (k ≡ l)
unfolding word_at
one_place z m j k l a b e = same_from_place m k j l z.announcements a b e

pub apart : (z : Sizes) (m j k l : ℕ) → k < z.announcements → l < z.announcements → m ≢ j
    → word_at z m k ≢ word_at z j l
apart z m j k l a b n e = n (one_place z m j k l a b e).0

pub below : (z : Sizes) (m k : ℕ) → m < z.workers → k < z.announcements
    → word_at z m k < announced_words z
unfolding word_at
below z m k a b = let p = mul-add-lt m z.announcements k z.workers a b in let c =
    mul_comm z.announcements z.workers in omega arith
