-- The words by which a report names what was refused.
use Rattle.std.specs.Prelude.{ℕ, List, codes}
use Rattle.eqc_pair.specs.declared.refused.Side.{Side}
use Rattle.eqc_pair.specs.declared.refused.Side.TheVariants.{First, Second, Pair, Order, Assume}
use Rattle.eqc_pair.specs.declared.refused.Side.TheVariants.{Options}

abbrev pub side_word : Side → List ℕ
side_word First = codes "first"
side_word Second = codes "second"
side_word Pair = codes "pair"
side_word Order = codes "order"
side_word Assume = codes "assume"
side_word Options = codes "options"
