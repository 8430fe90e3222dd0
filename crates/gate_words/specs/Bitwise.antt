-- What is built of two bits.
use Rattle.gates.specs.declared.signal.Signal.{Signal}
use Rattle.gates.specs.Build.{Build, and, or, exclusive, choice}
use Rattle.gate_words.specs.declared.bitwise.Bitwise.{Bitwise}
use Rattle.gate_words.specs.declared.bitwise.Bitwise.TheVariants.{And, Or, Exclusive, Choice}

-- the building that it names
abbrev pub building_of : Bitwise → Signal → Signal → Build Signal
building_of And = and
building_of Or = or
building_of Exclusive = exclusive
building_of (Choice c) = choice c
