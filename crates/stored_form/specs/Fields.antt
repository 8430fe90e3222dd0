-- A field of a struct type by itself.
use Rattle.std.specs.Prelude.{ℕ}
use Rattle.hw_model.specs.TypeViews.{NamedType}
use Rattle.stored_form.specs.Bytes.{AreBytes}
use Rattle.stored_form.specs.Limits.{IsType}

-- a field that is read where so many aggregates may be opened
abbrev pub IsField : ℕ → NamedType → Type 0
IsField room f = AreBytes f.name × IsType f.type room
