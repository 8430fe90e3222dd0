-- What groups of words stand for.
use Rattle.std.specs.Prelude.{map}
use Rattle.name_legalise.specs.Words.{Lettered}
use Rattle.name_legalise.specs.declared.reserved.Group.{Group}

-- a group's letter and words
abbrev pub letter_group : Group → Lettered
letter_group g = record { letter = g.letter; words = map (λ (w : _). w.now) g.words.now }
