-- The layout of a Verilog text: one line for each port, declaration and statement, an empty line between modules. The rest
-- of the text is an argument.
use Rattle.std.specs.Prelude.{ℕ, List, [], ◌∷◌, ◌++◌, Option, Some, None, codes}
use Rattle.hw_model.specs.Design.{Design}
use Rattle.verilog_model.specs.Tree.{Numeral, Expr, VPort, Load, Block, Connection, Item, VModule, Tree}
use Rattle.verilog_model.specs.Tree.Expr.{name}
use Rattle.verilog_model.specs.Tree.Block.{load, if_load, if_else, if_else_if, async_reset}
use Rattle.verilog_model.specs.Tree.Item.{wire, reg, assign, always, instance}
use Rattle.verilog_model.specs.Grammar.{direction}
use Rattle.verilog_model.specs.Text.{expr_text}
use Rattle.lowering_options.specs.declared.lowering.Lowering.{Lowering}
use Rattle.export_verilog.specs.Exported.{tree_of}

abbrev pub Text : Type 0
Text = List ℕ

-- ---- ports

-- `[7:0] `, or nothing
unfoldable pub range_text : Option Numeral → Text → Text
range_text None bs = bs
range_text (Some h) bs = codes "[" ++ (h ++ (codes ":0] " ++ bs))

-- `  input wire [7:0] a`
unfoldable pub port_text : VPort → Text → Text
port_text p bs = codes "  " ++ (direction p.is_output ++ (codes " wire " ++ range_text p.high (p.name ++ bs)))

unfoldable pub port_lines : VPort → List VPort → Text → Text
port_lines p [] bs = port_text p (10 ∷ bs)
port_lines p (q ∷ qs) bs = port_text p (44 ∷ 10 ∷ port_lines q qs bs)

unfoldable pub ports_text : List VPort → Text → Text
ports_text [] bs = 59 ∷ 10 ∷ bs
ports_text (p ∷ ps) bs = 40 ∷ 10 ∷ port_lines p ps (41 ∷ 59 ∷ 10 ∷ bs)

-- ---- registers

-- `      r <= d;`
unfoldable pub load_text : Text → Load → Text → Text
load_text indent l bs = indent ++ (l.target ++ (codes " <= " ++ expr_text l.value (59 ∷ 10 ∷ bs)))

-- `    if (rst)`
unfoldable pub if_text : Text → Expr → Text → Text
if_text prefix e bs = prefix ++ (codes "if (" ++ expr_text e (41 ∷ 10 ∷ bs))

-- what stands after the clock's name: a second event where there is one, and `)`
unfoldable pub event_text : Block → Text → Text
event_text (async_reset n l m) bs = codes " or posedge " ++ (n ++ (41 ∷ 10 ∷ bs))
event_text _ bs = 41 ∷ 10 ∷ bs

unfoldable pub block_text : Block → Text → Text
block_text (load l) bs = load_text (codes "    ") l bs
block_text (if_load c l) bs = if_text (codes "    ") c (load_text (codes "      ") l bs)
block_text (if_else c l m) bs = if_text (codes "    ") c (load_text (codes "      ") l (codes "    else" ++ (10 ∷ load_text (codes "      ") m bs)))
block_text (if_else_if c l e m) bs = if_text (codes "    ") c (load_text (codes "      ") l (if_text (codes "    else ") e (load_text (codes "      ") m bs)))
block_text (async_reset n l m) bs = if_text (codes "    ") (name n) (load_text (codes "      ") l (codes "    else" ++ (10 ∷ load_text (codes "      ") m bs)))

-- ---- instances

-- `    .d(x)`
unfoldable pub connection_text : Connection → Text → Text
connection_text c bs = codes "    ." ++ (c.port ++ (40 ∷ expr_text c.value (41 ∷ bs)))

unfoldable pub connection_lines : Connection → List Connection → Text → Text
connection_lines c [] bs = connection_text c (10 ∷ bs)
connection_lines c (e ∷ es) bs = connection_text c (44 ∷ 10 ∷ connection_lines e es bs)

unfoldable pub connections_text : List Connection → Text → Text
connections_text [] bs = codes ");" ++ (10 ∷ bs)
connections_text (c ∷ cs) bs = 10 ∷ connection_lines c cs (codes "  );" ++ (10 ∷ bs))

-- ---- items

unfoldable pub item_text : Item → Text → Text
item_text (wire high n) bs = codes "  wire " ++ range_text high (n ++ (59 ∷ 10 ∷ bs))
item_text (reg high n) bs = codes "  reg " ++ range_text high (n ++ (59 ∷ 10 ∷ bs))
item_text (assign n e) bs = codes "  assign " ++ (n ++ (codes " = " ++ expr_text e (59 ∷ 10 ∷ bs)))
item_text (always clock b) bs = codes "  always @(posedge " ++ (clock ++ event_text b (block_text b bs))
item_text (instance m n cs) bs = codes "  " ++ (m ++ (32 ∷ n ++ (codes " (" ++ connections_text cs bs)))

unfoldable pub items_text : List Item → Text → Text
items_text [] bs = bs
items_text (i ∷ is) bs = item_text i (items_text is bs)

-- ---- modules

unfoldable pub module_text : VModule → Text → Text
module_text m bs = codes "module " ++ (m.name ++ ports_text m.ports (items_text m.items (codes "endmodule" ++ (10 ∷ bs))))

-- each further module after an empty line
unfoldable pub further_text : Tree → Text
further_text [] = []
further_text (m ∷ ms) = 10 ∷ module_text m (further_text ms)

unfoldable pub tree_text : Tree → Text
tree_text [] = []
tree_text (m ∷ ms) = module_text m (further_text ms)

-- the text of a design, however its expressions are written
unfoldable pub verilog_text : Lowering → Design → Text
verilog_text l d = tree_text (tree_of l d)
