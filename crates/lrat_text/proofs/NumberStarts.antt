-- Where reading a number begins.
use Rattle.std.proofs.Common.{◌≡◌, ℕ, ◌<◌, List, [], ◌∷◌, length, refl, arith}
use Rattle.lrat_text.specs.Numbers.{number, number_from}

-- a word of one digit or more begins at 0
pub number_begins : (word : List ℕ) → 0 < length word → number_from 0 word ≡ number word
unfolding number
number_begins [] h = absurd (omega (arith, h))
number_begins (b ∷ bs) h = refl
