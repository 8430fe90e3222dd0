-- Inputs in a step in which every clock rises: clocks are 1, and only the other inputs take variables (CIRCT, Seq dialect:
-- `!seq.clock`).
use Rattle.std.specs.Prelude.{ℕ, ◌+◌, true, cond, List, [], ◌∷◌, ◌++◌, drop}
use Rattle.bits_core.specs.Word.{Word, first}
use Rattle.gates.specs.declared.signal.Signal.{Signal}
use Rattle.gates.specs.declared.signal.Signal.TheVariants.{Fixed}
use Rattle.hw_model.specs.Types.{HwType, width}
use Rattle.hw_model.specs.Types.HwType.{clock}
use Rattle.hw_model.specs.Design.{Port}
use Rattle.net_gates.specs.NetGateLists.{variables}

-- ---- one type

-- how many variables an input of a type takes
abbrev pub free_width : HwType → ℕ
free_width clock = 0
free_width t = width t

-- the signals of an input of a type, so many variables being before it
abbrev pub free_word : ℕ → HwType → List Signal
free_word start clock = Fixed true ∷ []
free_word start t = variables start (width t)

-- the bits of an input of a type: 1 of a clock, else the next ones
abbrev pub next_bits : HwType → Word → Word
next_bits clock x = true ∷ []
next_bits t x = first (width t) x

-- ---- one port

-- how many variables a port takes; an output takes none
abbrev pub port_bits : Port → ℕ
port_bits p = cond p.is_output 0 (free_width p.type)

-- its signals, so many variables being before it
abbrev pub clocked_word : ℕ → Port → List Signal
clocked_word start p = cond p.is_output [] (free_word start p.type)

-- its bits, the next ones being these
abbrev pub with_clock : Port → Word → Word
with_clock p x = cond p.is_output [] (next_bits p.type x)

-- ---- all ports

-- how many variables the inputs among ports take: as many as those have bits that are no clocks
abbrev pub free_bits : List Port → ℕ
free_bits [] = 0
free_bits (p ∷ ps) = port_bits p + free_bits ps

-- the signals of the inputs among ports, so many variables being before them: 1 for each clock, variables for the others
abbrev pub clocked_signals : ℕ → List Port → List Signal
clocked_signals start [] = []
clocked_signals start (p ∷ ps) = clocked_word start p ++ clocked_signals (start + port_bits p) ps

-- the bits of the inputs among ports: 1 for each clock, the next of these for the others
abbrev pub with_clocks : List Port → Word → Word
with_clocks [] x = []
with_clocks (p ∷ ps) x = with_clock p x ++ with_clocks ps (drop (port_bits p) x)
