-- Words of signals of variables that there are.
use Rattle.std.specs.Prelude.{ℕ, List, [], ◌∷◌}
use Rattle.gates.specs.declared.signal.Signal.{Signal}
use Rattle.gates.specs.Order.{IsSignalWithin}

-- each signal is known, or of one of the first n variables
abbrev pub AreSignalsWithin : ℕ → List Signal → Type 0
AreSignalsWithin n [] = Unit {0}
AreSignalsWithin n (s ∷ ss) = IsSignalWithin n s × AreSignalsWithin n ss

-- the same of each word
abbrev pub AreWordsWithin : ℕ → List (List Signal) → Type 0
AreWordsWithin n [] = Unit {0}
AreWordsWithin n (x ∷ xs) = AreSignalsWithin n x × AreWordsWithin n xs
