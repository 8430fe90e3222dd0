-- The names of the bits of ports and registers (AIGER 1.9: symbols).
use Rattle.std.specs.Prelude.{ℕ, zero, suc, cond, List, [], ◌∷◌, ◌++◌, map, length, drop, decimal}
use Rattle.hw_model.specs.Types.{Name, width}
use Rattle.hw_model.specs.Design.{Port, Op}
use Rattle.net_gates.specs.ClockedInputs.{port_bits}
use Rattle.module_names.specs.ModuleNames.{all_names}
use Rattle.miter_blast.specs.Leaves.{held_widths}
use Rattle.aiger_circuits.specs.CircuitTexts.{Symbols}

-- the name of a bit of a word: that of the word, and the bit's number in brackets
unfoldable pub bit_name : Name → ℕ → Name
bit_name name k = name ++ (91 ∷ decimal k ++ 93 ∷ [])

-- the names of the bits of a word of a name: the bit that stands first has the greatest number
abbrev pub bit_names : Name → ℕ → List Name
bit_names name zero = []
bit_names name (suc k) = bit_name name k ∷ bit_names name k

-- those of words of these names and of so many bits, one after another
abbrev pub word_bits : List Name → List ℕ → List Name
word_bits [] ws = []
word_bits (n ∷ ns) [] = []
word_bits (n ∷ ns) (w ∷ ws) = bit_names n w ++ word_bits ns ws

-- how many bits a port gives: none of an input
abbrev pub given_bits : Port → ℕ
given_bits p = cond p.is_output (width p.type) 0

-- the names of the bits of a flat module: of its inputs but clocks, of its registers, which are latches, and of its outputs; all
-- its ports and registers are named together
abbrev pub bit_symbols : List Port → List Op → Symbols
bit_symbols ps os = record {
  inputs = word_bits (all_names ps os) (map port_bits ps);
  latches = word_bits (drop (length ps) (all_names ps os)) (held_widths os);
  outputs = word_bits (all_names ps os) (map given_bits ps);
}
