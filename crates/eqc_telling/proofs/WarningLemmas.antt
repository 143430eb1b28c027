-- Warnings that were told, and their lines.
use Rattle.std.proofs.Common.{◌≡◌, ◌∙◌, ◌++◌, ◌∷◌, codes, ap, ℕ, List, [], Option, Some, None}
use Rattle.std.proofs.Common.{length, sym, subst, append-nil, append_assoc, arith}
use Rattle.std.specs.Prelude.{Result, Ok, Err, OnOk, OnErr, is_ok, if◌then◌else◌}
use Rattle.std.specs.Io.KnownBytes.{Appends}
use Rattle.std.proofs.lemmas.List.{take_all}
use Rattle.eqc_report.specs.Ends.{AppendsPrefix}
use Rattle.eqc_telling.specs.Warnings.{warning_line, IsToldOf}
use Rattle.eqc_case.specs.declared.warning.Contained.{Contained}

-- a text that was written whole, or a part of it, is a part of it
pub part_told : {X E : Type 0} (r : Result X E) (old new : Option (List ℕ)) (text : List ℕ)
    → OnOk r (Appends old new text)
    → OnErr r (AppendsPrefix old new text) → AppendsPrefix old new text
part_told (Ok x) old new text whole part = (
  length text,
  omega arith,
  subst (Appends old new)
      (sym (take_all (length text) text (omega arith))) whole,
)
part_told (Err e) old new text whole part = part

-- nothing is told of nothing
pub nothing_told : (text : List ℕ) (old new : Option (List ℕ)) → new ≡ old → IsToldOf text old new
nothing_told text old new same =
    record {
      part = (0, omega arith, subst (λ n. Appends old n []) (sym same) (none_added old));
      nothing = λ none. same;
    }
  where
    none_added : (known : Option (List ℕ)) → Appends known known []
    none_added None = tt
    none_added (Some x) = sym (append-nil x)

-- a text that was written, or a part of it, where it isn't empty
pub told_of : {X E : Type 0} (r : Result X E) (old new : Option (List ℕ)) (text : List ℕ)
    → (text ≡ [] → ⊥) → OnOk r (Appends old new text) →
    OnErr r (AppendsPrefix old new text) → IsToldOf text old new
told_of r old new text some whole part = record {
  part = part_told r old new text whole part;
  nothing = λ none. absurd (some none);
}

-- the line of a warning, part by part
pub line_pushed : {X E : Type 0} (r : Result X E) (source : List ℕ) (contained : Contained)
    (s m n t t1 t2 t3 t4 t5 t6 t7 : List ℕ)
    → s ≡ source → m ≡ contained.model → n ≡ contained.container → t1 ≡ t ++ codes "eqc: warning: "
    → t2 ≡ t1 ++ s → t3 ≡ t2 ++ codes ": model '" → t4 ≡ t3 ++ m
    → t5 ≡ t4 ++ codes "' is compared, which model '" → t6 ≡ t5 ++ n
    → t7 ≡ (if is_ok r then t6 ++ (codes "' contains" ++ 10 ∷ []) else t6)
    → OnOk r (t7 ≡ t ++ warning_line source contained)
line_pushed (Ok x) source contained s m n t t1 t2 t3 t4 t5 t6 t7 es em en e1 e2 e3 e4 e5 e6 e7 =
    e7
    ∙ ap (λ l. l ++ (codes "' contains" ++ 10 ∷ []))
    (e6 ∙ ap (λ l. t5 ++ l) en
    ∙ ap (λ l. l ++ contained.container)
    (e5
    ∙ ap (λ l. l ++ codes "' is compared, which model '")
    (e4 ∙ ap (λ l. t3 ++ l) em ∙ ap (λ l. l ++ contained.model) (e3
    ∙ ap (λ l. l ++ codes ": model '") (e2 ∙ ap (λ l. t1 ++ l) es
    ∙ ap (λ l. l ++ source) e1)))))
    ∙ (seven_parts t (codes "eqc: warning: ") source (codes ": model '") contained.model
    (codes "' is compared, which model '") contained.container (codes "' contains" ++ 10 ∷ [])
    ∙ ap (λ l. t ++ l) (sym (whole_line (codes "eqc: warning: ") source (codes ": model '")
    contained.model (codes "' is compared, which model '") contained.container
    (codes "' contains") (10 ∷ []))))
  where
    whole_line : (a s b m d n e f : List ℕ) → ((((((a ++ s) ++ b) ++ m) ++ d) ++ n) ++ e) ++ f ≡ a
        ++ (s ++ (b ++ (m ++ (d ++ (n ++ (e ++ f))))))
    whole_line a s b m d n e f = simp append_assoc

    seven_parts : (t a s b m d n e : List ℕ) → ((((((t ++ a) ++ s) ++ b) ++ m) ++ d) ++ n) ++ e ≡ t
        ++ (a ++ (s ++ (b ++ (m ++ (d ++ (n ++ e))))))
    seven_parts t a s b m d n e = simp append_assoc
line_pushed (Err x) source contained s m n t t1 t2 t3 t4 t5 t6 t7 es em en e1 e2 e3 e4 e5 e6 e7 = tt
