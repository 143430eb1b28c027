use Rattle.std.proofs.Common.{◌≡◌, ℕ, ◌++◌, ◌∷◌, [], map, sym, ap, ◌∙◌, arith, Some}
use mathlib.Core.Option.{some}
use Rattle.eqc_core.specs.State.{homes_from}
use Rattle.eqc_core.specs.Machine.{home_of}
use Rattle.std.proofs.lemmas.List.{map-append}
use Rattle.eqc_core.proofs.Stocks.{homes-push, all_homes}
use Rattle.eqc_core.proofs.stock.literal_tables.Goals as goal

pub loop-s-preserved : goal.loop-s-preserved
loop-s-preserved c =
    ap (map home_of) c.in_ok-push.ensures.items
    ∙ (map-append home_of c.loop-s.homes.items (Some c.in_ok-table.table ∷ [])
    ∙ ((λ i. c.loop-s.invariant i ++ some (c.in_ok-table.ensures i) ∷ [])
    ∙ sym (homes-push c.loop-s.s c.args.n)))

pub returns : goal.returns
returns c = let e : c.loop-s.s ≡ 16 = let t = c.loop-s-test.false in let u = c.loop-s.auto.s-end in
    omega arith in c.loop-s.invariant ∙ (ap (λ (k : ℕ). homes_from 0 k c.args.n) e
    ∙ all_homes c.args.n)
