-- The bytes that spell a design (MLIR language reference; CIRCT: assembly formats of HW, Comb and Seq).
use Rattle.std.specs.Prelude.{◌≡◌, ℕ, List, map}
use Rattle.hw_model.specs.Design.{Design, IsSameDesign}
use Rattle.mlir_lexer.specs.Tokens.{TextToken, tokens}
use Rattle.mlir_operations.specs.ModuleText.{ModuleText}
use Rattle.mlir_operations.specs.Spelling.{FilePhrase, token_of, IsLocationOf}
use Rattle.mlir_reader.specs.Resolving.{design_of}

-- the bytes spell the design: their tokens say modules that are those of the design, each operation at the location of its name
abbrev pub Spells : List ℕ → Design → Type 0
Spells source d = (ms : List ModuleText) × (ts : List TextToken) × (tokens source ≡ map token_of ts) × FilePhrase IsLocationOf ms ts × (d ≡ design_of ms)

-- the bytes spell the design but for locations
abbrev pub SpellsUnlocated : List ℕ → Design → Type 0
SpellsUnlocated source d =
    (ms : List ModuleText) × (ts : List TextToken) × (tokens source ≡ map token_of ts) × FilePhrase (λ t location. Unit {0}) ms ts
    × IsSameDesign d (design_of ms)
