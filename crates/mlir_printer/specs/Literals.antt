-- How the constants of aggregates are printed (CIRCT, HW dialect: `hw.aggregate_constant`).
use Rattle.std.specs.Prelude.{ℕ, ◌+◌, cond, List, [], ◌++◌, codes, ℤ}
use Rattle.hw_model.specs.Types.{HwType}
use Rattle.hw_model.specs.Kinds.{Literal, Literals}
use Rattle.hw_model.specs.Kinds.Literal.{leaf, parts}
use Rattle.hw_model.specs.Kinds.Literals.{no_literals, literal}
use Rattle.mlir_printer.specs.Commas.{comma_bytes}
use Rattle.printing_laws.specs.Numbers.{truth_bytes, is_shown_as_truth, is_one}
use Rattle.mlir_printer.specs.Attributes.{typed_bytes}

-- a number of a type
unfoldable pub leaf_bytes : ℤ → HwType → List ℕ
leaf_bytes z t = cond (is_shown_as_truth t z) (truth_bytes (is_one z)) (typed_bytes z t)

abbrev mutual
  -- a constant
  pub literal_bytes : Literal → List ℕ
  literal_bytes (leaf z t) = leaf_bytes z t
  literal_bytes (parts ls) = codes "[" ++ (literals_from 0 ls ++ codes "]")

  -- constants with commas between them, of which the first has this number
  pub literals_from : ℕ → Literals → List ℕ
  literals_from i no_literals = []
  literals_from i (literal l ls) = comma_bytes i ++ (literal_bytes l ++ literals_from (i + 1) ls)
