-- Names that are words of a table, or numbers.
use Rattle.std.specs.Prelude.{◌≡◌, ℕ, ◌<◌, ◌≤◌, ◌^◌, false, List, All, map, drop, decimal}
use Rattle.hw_model.specs.Types.{Name}
use Rattle.fresh_names.specs.Fresh.{is_taken}
use Rattle.mlir_lexer.specs.Classes.{is_digit}
use Rattle.mlir_lexer.specs.Runs.{begins}
use Rattle.mlir_printer.specs.Naming.{first_name}
use Rattle.mlir_printer.specs.declared.chosen_names.Choice.{Choice}
use Rattle.mlir_printer.specs.declared.chosen_names.Choice.TheVariants.{Word, Number}

-- the name that was chosen, where these are the words
abbrev pub name_chosen : List Name → Choice → Name
name_chosen words (Word id) = first_name (drop id.index words)
name_chosen words (Number n) = decimal n

-- the names, in order
abbrev pub names_chosen : List Name → List Choice → List Name
names_chosen words cs = map (name_chosen words) cs

-- which one of the words, or which number
abbrev pub number_of : Choice → ℕ
number_of (Word id) = id.index
number_of (Number n) = n

-- how many words or numbers there are
abbrev pub limit : ℕ → ℕ → Choice → ℕ
limit words numbers (Word id) = words
limit words numbers (Number n) = numbers

-- each is one of so many words, or a number below this one
abbrev pub AreKnown : ℕ → ℕ → List Choice → Type 0
AreKnown words numbers cs = All (λ c. number_of c < limit words numbers c) cs

-- among the names stand the words, and else what begins with a digit
abbrev pub HaveWords : List Name → List Name → Type 0
HaveWords words names = (q : Name) → begins is_digit q ≡ false → is_taken names q ≡ is_taken words q

-- no number from one on is among the names
abbrev pub AreFree : List Name → ℕ → Type 0
AreFree names n = (k : ℕ) → n ≤ k → k < 2 ^ 64 → is_taken names (decimal k) ≡ false
