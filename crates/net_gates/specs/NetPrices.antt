-- How many gates the nets of a module may take.
use Rattle.std.specs.Prelude.{ℕ, ◌+◌, List, [], ◌∷◌, map, length}
use Rattle.bits_core.specs.Word.{Word}
use Rattle.hw_model.specs.Types.{Name, width}
use Rattle.hw_model.specs.Design.{Design}
use Rattle.hw_model.specs.Flat.{Net, Source, source}
use Rattle.hw_model.specs.Flat.Source.{op_result}
use Rattle.operation_gates.specs.Prices.{price}

-- the price of a source's operation, whose operands are as wide as these words of nets
abbrev pub source_price : (Net → Word) → Source → ℕ
source_price word_at (op_result kind ts t k ns) = price kind (width t) (map length (map word_at ns))
source_price word_at _ = 0

abbrev pub nets_price : Design → Name → (Net → Word) → List Net → ℕ
nets_price d top word_at [] = 0
nets_price d top word_at (n ∷ ns) = source_price word_at (source d top n) + nets_price d top word_at ns
