-- Numbers of two digits, and the bytes of a report that stopped or tells of a difference.
use Rattle.std.proofs.Common.{◌≡◌, ℕ, ◌+◌, ◌/◌, ◌%◌, ◌<◌, ◌≤◌, List, [], ◌∷◌, ◌++◌, ap, sym, ◌∙◌}
use Rattle.std.proofs.Common.{decimal, codes, arith, Result, Ok, Err, IfOk, String, string_bytes}
use Rattle.std.proofs.Common.{append_assoc, Global}
use Rattle.std.proofs.lemmas.Fmt.{decimal_digit, decimal_step}
use Rattle.eqc_tree.specs.Stopping.{code_of}
use Rattle.eqc_tree.specs.declared.stopping.Stop.{Stop}
use Rattle.eqc_tree.specs.declared.stopping.Stop.TheVariants.{NodeLimit, Memory, References}
use Rattle.eqc_tree.specs.declared.stopping.Stop.TheVariants.{Threads}
use Rattle.eqc_report.specs.Report.{text, stopped, refused}
use Rattle.eqc_pair.specs.Side.{side_word}
use Rattle.eqc_pair.specs.declared.refused.Side.{Side}

-- a number from 10 to 99 is its two digits
pub two_digits : (n : ℕ) → 10 ≤ n → n < 100 → decimal n ≡ (48 + n / 10) ∷ (48 + n % 10) ∷ []
two_digits n low high = decimal_step n low (omega arith)
    ∙ ap (λ ds. ds ++ (48 + n % 10) ∷ []) (decimal_digit (n / 10) (omega arith))

code_low : (stop : Stop) → 10 ≤ code_of stop
code_low NodeLimit = omega arith
code_low Memory = omega arith
code_low References = omega arith
code_low Threads = omega arith

code_high : (stop : Stop) → code_of stop < 100
code_high NodeLimit = omega arith
code_high Memory = omega arith
code_high References = omega arith
code_high Threads = omega arith

-- the eleven bytes of a report that stopped
pub stopped_bytes : (stop : Stop) (code : ℕ) → code ≡ code_of stop → text (stopped (code_of stop))
    ≡ codes "stopped " ++ (48 + code / 10) ∷ (48 + code % 10) ∷ 10 ∷ []
stopped_bytes stop code e =
    ap (λ ds. codes "stopped " ++ ds ++ 10 ∷ []) (two_digits (code_of stop) (code_low stop)
    (code_high stop))
    ∙ ap (λ n. codes "stopped " ++ (48 + n / 10) ∷ (48 + n % 10) ∷ 10 ∷ []) (sym e)

-- the bytes of a refusal, as a format writes them
pub refused_bytes : {E : Type 0} (r : Result (String Global) E) (side : Side) (word : List ℕ)
    (number code : ℕ) → word ≡ side_word side
    → IfOk r (λ s. string_bytes s ≡ codes "refused "
    ++ (word ++ (32 ∷ (decimal number ++ (32 ∷ (decimal code ++ 10 ∷ []))))))
    → IfOk r (λ s. string_bytes s ≡ text (refused side number code))
refused_bytes (Ok s) side word number code e h =
    let right : codes "refused "
    ++ (side_word side ++ (32 ∷ (decimal number ++ (32 ∷ (decimal code ++ 10 ∷ [])))))
    ≡ text (refused side number code) = sym (simp append_assoc) in
    rw e at h ∙ right
refused_bytes (Err x) side word number code e h = h
