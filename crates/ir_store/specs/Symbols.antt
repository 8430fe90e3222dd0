-- Modules by symbol: the first of a symbol is meant.
use Rattle.std.specs.Prelude.{ℕ, suc, cond, List, [], ◌∷◌, Option, Some, None, option_map}
use Rattle.hw_model.specs.Types.{Name}
use Rattle.hw_model.specs.Design.{same_name}

-- the position of the first symbol that is the same
abbrev pub symbol_position : Name → List Name → Option ℕ
symbol_position q [] = None
symbol_position q (s ∷ symbols) = cond (same_name q s) (Some 0) (option_map suc (symbol_position q symbols))

-- a first answer, or else a second
abbrev pub first_of : Option ℕ → Option ℕ → Option ℕ
first_of (Some n) other = Some n
first_of None other = other
