-- Names made legal in Verilog.
use Rattle.std.specs.Prelude.{ℕ, cond, List, [], ◌∷◌, ◌++◌, map}
use Rattle.hw_model.specs.Types.{Name}
use Rattle.fresh_names.specs.Fresh.{free_name}
use Rattle.verilog_model.specs.Tokens.{is_name_byte}
use Rattle.verilog_model.specs.Checks.{starts_name}
use Rattle.verilog_model.specs.Reserved.{reserved_words}

-- a byte of a name, and `_` for any other one (IEEE 1364-2005, 3.7: identifiers)
abbrev pub name_byte : ℕ → ℕ
name_byte b = cond (is_name_byte b) b 95

-- `_` before what does not begin with a letter or `_` (3.7: the first character)
abbrev pub with_underscore : Name → Name
with_underscore n = cond (starts_name n) n (95 ∷ n)

-- a name whose bytes all stand in Verilog names, and whose first one may begin them
unfoldable pub clean : Name → Name
clean wanted = with_underscore (map name_byte wanted)

-- the legal name of a wanted one, after the names that are taken: no reserved word (Annex B), and declared once (12.7: scope rules)
abbrev pub legal_name : List Name → Name → Name
legal_name taken wanted = free_name (reserved_words ++ taken) (clean wanted)

-- the legal names of wanted ones, in order, after those taken
abbrev pub legal_after : List Name → List Name → List Name
legal_after taken [] = []
legal_after taken (w ∷ ws) = legal_name taken w ∷ legal_after (taken ++ legal_name taken w ∷ []) ws

-- the legal names of wanted ones, in order
abbrev pub legal : List Name → List Name
legal wanted = legal_after [] wanted
