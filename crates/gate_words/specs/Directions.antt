-- The directions in which words are shifted (IEEE 1364-2005, 5.1.12).
use Rattle.std.specs.Prelude.{ℕ, List}
use Rattle.gates.specs.declared.signal.Signal.{Signal}
use Rattle.gate_words.specs.GateLists.{moved_up, moved_down}
use Rattle.gate_words.specs.declared.shifts.Direction.{Direction}
use Rattle.gate_words.specs.declared.shifts.Direction.TheVariants.{Up, Down}

-- the word moved that way by a number of bits
abbrev pub move_of : Direction → List Signal → ℕ → List Signal
move_of Up = moved_up
move_of (Down s) = moved_down s
