-- What a text in the Berkeley Logic Interchange Format describes (BLIF 1992, "Model"): models, each
-- with
-- inputs, outputs, covers and instances of other models. Names are lists of bytes.
use Rattle.std.specs.Prelude.{ℕ, List, []}

-- a cover: the names of its columns, the name that it drives, and its rows without blanks
pub record CoverOf : Type 0 where
  pub columns : List (List ℕ)
  pub output : List ℕ
  pub rows : List (List ℕ)

-- an instance: the name of a model, and the pairs of formal and actual
pub record InstanceOf : Type 0 where
  pub model : List ℕ
  pub pairs : List (List ℕ × List ℕ)

pub record ModelOf : Type 0 where
  pub name : List ℕ
  pub inputs : List (List ℕ)
  pub outputs : List (List ℕ)
  pub covers : List CoverOf
  pub instances : List InstanceOf

-- what stands for a model or a cover where there is none
abbrev pub no_model : ModelOf
no_model = record { name = []; inputs = []; outputs = []; covers = []; instances = [] }

abbrev pub no_cover : CoverOf
no_cover = record { columns = []; output = []; rows = [] }
