-- How a tree is written: a header, a line for each input, latch, output and gate, and then the names of bits (AIGER 1.9, ASCII).
use Rattle.std.specs.Prelude.{◌≡◌, ℕ, suc, ◌+◌, ◌<◌, ◌^◌, not, ◌==◌, true, List, [], ◌∷◌, ◌++◌, map, length, codes, decimal}
use Rattle.std.specs.List.{list_all}
use Rattle.aiger_laws.specs.declared.tree.Latch.{Latch}
use Rattle.aiger_laws.specs.declared.tree.AndGate.{AndGate}
use Rattle.aiger_laws.specs.Trees.{Aiger}

-- the names of the bits of inputs, latches and outputs
pub record Symbols : Type 0 where
  pub inputs : List (List ℕ)
  pub latches : List (List ℕ)
  pub outputs : List (List ℕ)

-- numbers, each behind a blank
abbrev pub more_numbers : List ℕ → List ℕ
more_numbers [] = []
more_numbers (n ∷ ns) = 32 ∷ decimal n ++ more_numbers ns

-- a line of numbers
abbrev pub numbers_line : ℕ → List ℕ → List ℕ
numbers_line n ns = decimal n ++ more_numbers ns

-- the greatest variable: each input, latch and gate has its own
abbrev pub variable_count : Aiger → ℕ
variable_count t = length t.inputs + length t.latches + length t.gates

-- the first line
abbrev pub header_line : Aiger → List ℕ
header_line t = codes "aag" ++ more_numbers (variable_count t ∷ length t.inputs ∷ length t.latches ∷ length t.outputs ∷ length t.gates ∷ [])

-- the line of an input or an output
abbrev pub literal_line : ℕ → List ℕ
literal_line l = numbers_line l []

-- the line of a latch, with its own literal as its reset: it may begin with either bit
abbrev pub latch_line : Latch → List ℕ
latch_line l = numbers_line l.literal (l.next ∷ l.literal ∷ [])

-- the line of a gate
abbrev pub gate_line : AndGate → List ℕ
gate_line g = numbers_line g.literal (g.left ∷ g.right ∷ [])

-- the line of the name of a bit: a letter, its number, and the name
abbrev pub symbol_line : ℕ → ℕ → List ℕ → List ℕ
symbol_line letter k name = letter ∷ decimal k ++ 32 ∷ name

-- the lines of names, of which the first has the number
abbrev pub symbol_lines : ℕ → ℕ → List (List ℕ) → List (List ℕ)
symbol_lines letter k [] = []
symbol_lines letter k (name ∷ names) = symbol_line letter k name ∷ symbol_lines letter (suc k) names

-- the lines of names: those of inputs, of latches, of outputs
abbrev pub all_symbols : Symbols → List (List ℕ)
all_symbols s = symbol_lines 105 0 s.inputs ++ (symbol_lines 108 0 s.latches ++ symbol_lines 111 0 s.outputs)

-- the lines behind the first
abbrev pub tree_lines : Aiger → Symbols → List (List ℕ)
tree_lines t s = map literal_line t.inputs ++ (map latch_line t.latches ++ (map literal_line t.outputs ++ (map gate_line t.gates ++ all_symbols s)))

-- lines one after another, each ended by LF
abbrev pub ended_lines : List (List ℕ) → List ℕ
ended_lines [] = []
ended_lines (l ∷ ls) = l ++ 10 ∷ ended_lines ls

-- the text of a tree with names of its bits
unfoldable pub tree_text : Aiger → Symbols → List ℕ
tree_text t s = ended_lines (header_line t ∷ tree_lines t s)

-- a name stands in one line
abbrev pub IsInLine : List ℕ → Type 0
IsInLine name = list_all (λ (b : ℕ). not (b == 10)) name ≡ true

-- each name stands in one line
abbrev pub AreInLines : List (List ℕ) → Type 0
AreInLines [] = Unit {0}
AreInLines (n ∷ ns) = IsInLine n × AreInLines ns

-- there are fewer than 2^64 names
pub record AreFew (s : Symbols) : Type 0 where
  pub inputs : length s.inputs < 2 ^ 64
  pub latches : length s.latches < 2 ^ 64
  pub outputs : length s.outputs < 2 ^ 64
