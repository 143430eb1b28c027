use Rattle.std.proofs.Common.{ℕ, ◌≡◌, ◌+◌, ◌-◌, ◌/◌, ◌%◌, ◌^◌, get_or, refl, ap, ◌∙◌, rules}
use Rattle.std.proofs.Math.ListN.{set}
use Rattle.std.proofs.lemmas.List.{get_or_default}
use Rattle.eqc_sums.proofs.FormLemmas.{added_plain, added_complement}
use Rattle.eqc_sums.proofs.form.Form.add.Goals as goal

pub returns-then-literal-eq0-clause-value : goal.returns-then-literal-eq0-clause-value
returns-then-literal-eq0-clause-value c = λ nodes a.
    let cs = c.args.self.now.coefficients.items in
    let read = c.index-coefficient.ensures ∙ get_or_default c.args.self.now.coefficients.items
    (c.args.literal / 2) c.index-coefficient.result.now 0 c.requires in
    added_plain nodes a c.args.self.now _ c.args.literal (c.args.literal / 2) c.args.factor refl
    c.if-literal-eq0.true c.requires refl
    (ap (λ (r : ℕ). set cs (c.args.literal / 2) ((r + c.args.factor) % 2 ^ 128)) read)

pub returns-else-literal-eq0-clause-value : goal.returns-else-literal-eq0-clause-value
returns-else-literal-eq0-clause-value c = λ nodes a.
    let cs = c.args.self.now.coefficients.items in
    let read = c.index-coefficient.ensures ∙ get_or_default c.args.self.now.coefficients.items
    (c.args.literal / 2) c.index-coefficient.result.now 0 c.requires in
    added_complement nodes a c.args.self.now _ c.args.literal (c.args.literal / 2) c.args.factor
    refl c.if-literal-eq0.false c.requires c.ranges.factor.fits refl
    (ap (λ (r : ℕ). set cs (c.args.literal / 2) ((r + (2 ^ 128 - c.args.factor)) % 2 ^ 128)) read)
