-- Pieces of a text whose expressions are already written, and are given by their bytes.
use Rattle.std.specs.Prelude.{◌≡◌, ℕ, ◌<◌, ◌^◌, Bool, true, false, List, [], ◌∷◌, ◌++◌, Option, Some, None, codes, slice_get}
use Rattle.hw_model.specs.Types.{Name, width}
use Rattle.hw_model.specs.Design.{Port}
use Rattle.verilog_model.specs.Tree.{Expr, VPort, Load, Block, Connection}
use Rattle.verilog_model.specs.Tree.Expr.{name}
use Rattle.verilog_model.specs.Tree.Block.{load, if_load, if_else, if_else_if, async_reset}
use Rattle.verilog_model.specs.Digits.{high_of}
use Rattle.export_verilog.specs.Layout.{Text, load_text, if_text, port_lines, connection_lines}

-- ---- expressions

-- an expression whose text is these bytes, as a name's is
abbrev pub verbatim : Text → Expr
verbatim bytes = name bytes

-- ---- registers (IEEE 1364-2005, 9.2.2: nonblocking assignments)

abbrev pub written_load : Name → Text → Load
written_load q value = record { target = q; value = verbatim value }

-- what resets a register, and to what
pub record WrittenReset : Type 0 where
  pub signal : Text
  pub value : Text

-- the block of a register, by its name, its next value, its enable and its reset
abbrev pub written_block : Name → Text → Option Text → Option WrittenReset → Block
written_block q next None None = load (written_load q next)
written_block q next (Some en) None = if_load (verbatim en) (written_load q next)
written_block q next None (Some r) = if_else (verbatim r.signal) (written_load q r.value) (written_load q next)
written_block q next (Some en) (Some r) = if_else_if (verbatim r.signal) (written_load q r.value) (verbatim en) (written_load q next)

-- the block of a register with an asynchronous reset, whose signal is a name (9.7.3: event `or`)
abbrev pub written_async : Name → Text → WrittenReset → Block
written_async q next r = async_reset r.signal (written_load q r.value) (written_load q next)

-- the events of a block that has two
unfoldable pub events_text : Text → Text → Text
events_text clock signal = codes "  always @(posedge " ++ (clock ++ (codes " or posedge " ++ (signal ++ (41 ∷ 10 ∷ []))))

-- what stands after the reset of a register: an `else` alone on its line, or with the enable
abbrev pub otherwise_text : Name → Text → Option Text → Text
otherwise_text q next None = codes "    else" ++ (10 ∷ load_text (codes "      ") (written_load q next) [])
otherwise_text q next (Some en) = if_text (codes "    else ") (verbatim en) (load_text (codes "      ") (written_load q next) [])

-- ---- lists of lines

-- what stands after a line of a list, of which some are left: a comma where there are
abbrev pub line_end : Bool → Text
line_end true = 44 ∷ 10 ∷ []
line_end false = 10 ∷ []

abbrev pub some_left : {A : Type 0} → List A → Bool
some_left [] = false
some_left (x ∷ xs) = true

-- the lines of the ports that are left, and the rest of the text
abbrev pub ports_left : List VPort → Text → Text
ports_left [] bs = bs
ports_left (p ∷ ps) bs = port_lines p ps bs

-- the lines of the connections that are left, and the rest of the text
abbrev pub connections_left : List Connection → Text → Text
connections_left [] bs = bs
connections_left (c ∷ cs) bs = connection_lines c cs bs

-- a port under a name, as Verilog shows it
abbrev pub port_named : Name → Port → VPort
port_named n p = record { is_output = p.is_output; high = high_of (width p.type); name = n }

-- ports under names (12.3.3: port declarations)
abbrev pub ports_named : List Name → List Port → List VPort
ports_named (n ∷ ns) (p ∷ ps) = port_named n p ∷ ports_named ns ps
ports_named _ _ = []

-- the bits of each port are a number of a machine
abbrev pub AreNarrow : List Port → Type 0
AreNarrow ps = (j : ℕ) (p : Port) → slice_get ps j ≡ Some p → width p.type < 2 ^ 64

-- a connection whose value is written
abbrev pub written_connection : Name → Text → Connection
written_connection port value = record { port = port; value = verbatim value }

-- ---- instances

-- the names of a module and of an instance of it, and an open parenthesis
unfoldable pub head_text : Name → Name → Text
head_text m n = codes "  " ++ (m ++ (32 ∷ n ++ codes " ("))

-- the end of an instance, which has connections or not
unfoldable pub connections_end : Bool → Text
connections_end true = codes "  );" ++ (10 ∷ [])
connections_end false = codes ");" ++ (10 ∷ [])
