-- The text of a tree, read as tokens, is the tree's spelling.
use Rattle.std.proofs.Common.{◌≡◌, Bool, true, false, List, [], ◌∷◌, ◌++◌, Option, Some, None, codes, refl, ◌∙◌, ap}
use Rattle.verilog_model.specs.Tokens.{tokens}
use Rattle.verilog_model.specs.Tokens.Piece.{word, operator, mark}
use Rattle.verilog_model.specs.Tree.{Numeral, Expr, VPort, Load, Block, Connection, Item, VModule, Tree}
use Rattle.verilog_model.specs.Tree.Block.{load, if_load, if_else, if_else_if, async_reset}
use Rattle.verilog_model.specs.Tree.Expr.{name}
use Rattle.verilog_model.specs.Tree.Item.{wire, reg, assign, always, instance}
use Rattle.verilog_model.specs.Grammar.{direction, range_spelled, port_spelled, more_ports_spelled, ports_spelled, load_spelled, if_spelled, block_spelled, connection_spelled}
use Rattle.verilog_model.specs.Grammar.{more_connections_spelled, connections_spelled, item_spelled, items_spelled, module_spelled, spell_tree}
use Rattle.verilog_model.specs.Text.{expr_text}
use Rattle.verilog_expr.proofs.TextRead.{IsWord, IsSpellable, GoesOn, word_read, expr_read}
use Rattle.export_verilog.specs.Layout.{Text, range_text, port_text, port_lines, ports_text, load_text, if_text, event_text, block_text, connection_text, connection_lines, connections_text, item_text}
use Rattle.export_verilog.specs.Layout.{items_text, module_text, further_text, tree_text}

-- ---- trees whose names and numerals are words

abbrev pub IsHigh : Option Numeral → Type 0
IsHigh None = Unit {0}
IsHigh (Some h) = IsWord h

pub record IsSpellablePort (p : VPort) : Type 0 where
  pub name : IsWord p.name
  pub high : IsHigh p.high

abbrev pub ArePorts : List VPort → Type 0
ArePorts [] = Unit {0}
ArePorts (p ∷ ps) = IsSpellablePort p × ArePorts ps

pub record IsSpellableLoad (l : Load) : Type 0 where
  pub target : IsWord l.target
  pub value : IsSpellable l.value

abbrev pub IsSpellableBlock : Block → Type 0
IsSpellableBlock (load l) = IsSpellableLoad l
IsSpellableBlock (if_load c l) = IsSpellable c × IsSpellableLoad l
IsSpellableBlock (if_else c l m) = IsSpellable c × (IsSpellableLoad l × IsSpellableLoad m)
IsSpellableBlock (if_else_if c l e m) = IsSpellable c × (IsSpellableLoad l × (IsSpellable e × IsSpellableLoad m))
IsSpellableBlock (async_reset n l m) = IsWord n × (IsSpellableLoad l × IsSpellableLoad m)

pub record IsSpellableConnection (c : Connection) : Type 0 where
  pub port : IsWord c.port
  pub value : IsSpellable c.value

abbrev pub AreConnections : List Connection → Type 0
AreConnections [] = Unit {0}
AreConnections (c ∷ cs) = IsSpellableConnection c × AreConnections cs

abbrev pub IsSpellableItem : Item → Type 0
IsSpellableItem (wire high n) = IsHigh high × IsWord n
IsSpellableItem (reg high n) = IsHigh high × IsWord n
IsSpellableItem (assign n e) = IsWord n × IsSpellable e
IsSpellableItem (always clock b) = IsWord clock × IsSpellableBlock b
IsSpellableItem (instance m n cs) = IsWord m × (IsWord n × AreConnections cs)

abbrev pub AreItems : List Item → Type 0
AreItems [] = Unit {0}
AreItems (i ∷ is) = IsSpellableItem i × AreItems is

pub record IsSpellableModule (m : VModule) : Type 0 where
  pub name : IsWord m.name
  pub ports : ArePorts m.ports
  pub items : AreItems m.items

abbrev pub IsSpellableTree : Tree → Type 0
IsSpellableTree [] = Unit {0}
IsSpellableTree (m ∷ ms) = IsSpellableModule m × IsSpellableTree ms

-- ---- ports

range_read : (h : Option Numeral) (rest : Text) → IsHigh h → tokens (range_text h rest) ≡ range_spelled h (tokens rest)
unfolding range_text
range_read None rest is = refl
range_read (Some h) rest is = ap (λ ts. mark 91 ∷ ts) (word_read h (codes ":0] " ++ rest) is refl)

-- a range and a name
named_read : (h : Option Numeral) (n rest : Text) → IsHigh h → IsWord n → GoesOn rest → tokens (range_text h (n ++ rest)) ≡ range_spelled h (word n ∷ tokens rest)
named_read h n rest is named apart = range_read h (n ++ rest) is ∙ ap (range_spelled h) (word_read n rest named apart)

port_read : (p : VPort) (rest : Text) → IsSpellablePort p → GoesOn rest → tokens (port_text p rest) ≡ port_spelled p (tokens rest)
unfolding port_text
port_read p rest is apart = go p.is_output where
  go : (out : Bool) → tokens (codes "  " ++ (direction out ++ (codes " wire " ++ range_text p.high (p.name ++ rest))))
      ≡ word (direction out) ∷ word (codes "wire") ∷ range_spelled p.high (word p.name ∷ tokens rest)
  go true = ap (λ ts. word (codes "output") ∷ word (codes "wire") ∷ ts) (named_read p.high p.name rest is.high is.name apart)
  go false = ap (λ ts. word (codes "input") ∷ word (codes "wire") ∷ ts) (named_read p.high p.name rest is.high is.name apart)

-- the ports from one on, and the parenthesis after them
lines_read : (p : VPort) (ps : List VPort) (rest : Text) → IsSpellablePort p → ArePorts ps →
    tokens (port_lines p ps (41 ∷ rest)) ≡ port_spelled p (more_ports_spelled ps (mark 41 ∷ tokens rest))
unfolding port_lines
lines_read p [] rest is are = port_read p (10 ∷ 41 ∷ rest) is refl
lines_read p (q ∷ qs) rest is are =
    port_read p (44 ∷ 10 ∷ port_lines q qs (41 ∷ rest)) is refl
    ∙ ap (λ ts. port_spelled p (mark 44 ∷ ts)) (lines_read q qs rest are.0 are.1)

ports_read : (ps : List VPort) (rest : Text) → ArePorts ps → tokens (ports_text ps rest) ≡ ports_spelled ps (mark 59 ∷ tokens rest)
unfolding ports_text
ports_read [] rest are = refl
ports_read (p ∷ ps) rest are = ap (λ ts. mark 40 ∷ ts) (lines_read p ps (59 ∷ 10 ∷ rest) are.0 are.1)

ports_apart : (ps : List VPort) (rest : Text) → GoesOn (ports_text ps rest)
unfolding ports_text
ports_apart [] rest = refl
ports_apart (p ∷ ps) rest = refl

-- ---- registers

load_read : (l : Load) (rest : Text) → IsSpellableLoad l → tokens (l.target ++ (codes " <= " ++ expr_text l.value (59 ∷ 10 ∷ rest))) ≡ load_spelled l (tokens rest)
load_read l rest is =
    word_read l.target (codes " <= " ++ expr_text l.value (59 ∷ 10 ∷ rest)) is.target refl
    ∙ ap (λ ts. word l.target ∷ operator (codes "<=") ∷ ts) (expr_read l.value (59 ∷ 10 ∷ rest) is.value refl)

four_read : (l : Load) (rest : Text) → IsSpellableLoad l → tokens (load_text (codes "    ") l rest) ≡ load_spelled l (tokens rest)
unfolding load_text
four_read l rest is = load_read l rest is

six_read : (l : Load) (rest : Text) → IsSpellableLoad l → tokens (load_text (codes "      ") l rest) ≡ load_spelled l (tokens rest)
unfolding load_text
six_read l rest is = load_read l rest is

if_read : (e : Expr) (rest : Text) → IsSpellable e → tokens (if_text (codes "    ") e rest) ≡ if_spelled e (tokens rest)
unfolding if_text
if_read e rest is = ap (λ ts. word (codes "if") ∷ mark 40 ∷ ts) (expr_read e (41 ∷ 10 ∷ rest) is refl)

else_if_read : (e : Expr) (rest : Text) → IsSpellable e → tokens (if_text (codes "    else ") e rest) ≡ word (codes "else") ∷ if_spelled e (tokens rest)
unfolding if_text
else_if_read e rest is = ap (λ ts. word (codes "else") ∷ word (codes "if") ∷ mark 40 ∷ ts) (expr_read e (41 ∷ 10 ∷ rest) is refl)

-- a condition, a load, `else` and another load
either_read : (c : Expr) (l m : Load) (rest : Text) → IsSpellable c → IsSpellableLoad l → IsSpellableLoad m
    → tokens (if_text (codes "    ") c (load_text (codes "      ") l (codes "    else" ++ (10 ∷ load_text (codes "      ") m rest)))) ≡ if_spelled c (load_spelled l (word (codes "else") ∷ load_spelled m (tokens rest)))
either_read c l m rest condition first second =
    if_read c (load_text (codes "      ") l (codes "    else" ++ (10 ∷ load_text (codes "      ") m rest))) condition
    ∙ ap (if_spelled c) (six_read l (codes "    else" ++ (10 ∷ load_text (codes "      ") m rest)) first
    ∙ ap (λ ts. load_spelled l (word (codes "else") ∷ ts)) (six_read m rest second))

-- what stands after the clock's name
block_read : (b : Block) (rest : Text) → IsSpellableBlock b → tokens (event_text b (block_text b rest)) ≡ block_spelled b (tokens rest)
unfolding event_text block_text
block_read (load l) rest is = ap (λ ts. mark 41 ∷ ts) (four_read l rest is)
block_read (if_load c l) rest is = ap (λ ts. mark 41 ∷ ts) (if_read c (load_text (codes "      ") l rest) is.0 ∙ ap (if_spelled c) (six_read l rest is.1))
block_read (if_else c l m) rest is = ap (λ ts. mark 41 ∷ ts) (either_read c l m rest is.0 is.1.0 is.1.1)
block_read (if_else_if c l e m) rest is =
    ap (λ ts. mark 41 ∷ ts) (if_read c (load_text (codes "      ") l (if_text (codes "    else ") e (load_text (codes "      ") m rest))) is.0
    ∙ ap (if_spelled c) (six_read l (if_text (codes "    else ") e (load_text (codes "      ") m rest)) is.1.0
    ∙ ap (load_spelled l) (else_if_read e (load_text (codes "      ") m rest) is.1.1.0
    ∙ ap (λ ts. word (codes "else") ∷ if_spelled e ts) (six_read m rest is.1.1.1))))
block_read (async_reset n l m) rest is =
    ap (λ ts. word (codes "or") ∷ word (codes "posedge") ∷ ts) (word_read n (41 ∷ 10 ∷ block_text (async_reset n l m) rest) is.0 refl
    ∙ ap (λ ts. word n ∷ mark 41 ∷ ts) (either_read (name n) l m rest is.0 is.1.0 is.1.1))

-- no name goes on into what stands after a clock's
events_apart : (b : Block) (rest : Text) → GoesOn (event_text b rest)
unfolding event_text
events_apart (load l) rest = refl
events_apart (if_load c l) rest = refl
events_apart (if_else c l m) rest = refl
events_apart (if_else_if c l e m) rest = refl
events_apart (async_reset n l m) rest = refl

-- ---- instances

connection_read : (c : Connection) (rest : Text) → IsSpellableConnection c → tokens (connection_text c rest) ≡ connection_spelled c (tokens rest)
unfolding connection_text
connection_read c rest is =
    ap (λ ts. mark 46 ∷ ts) (word_read c.port (40 ∷ expr_text c.value (41 ∷ rest)) is.port refl
    ∙ ap (λ ts. word c.port ∷ mark 40 ∷ ts) (expr_read c.value (41 ∷ rest) is.value refl))

-- the connections from one on, and the parenthesis after them
connection_lines_read : (c : Connection) (cs : List Connection) (rest : Text) → IsSpellableConnection c → AreConnections cs →
    tokens (connection_lines c cs (codes "  );" ++ (10 ∷ rest))) ≡ connection_spelled c (more_connections_spelled cs (mark 41 ∷ mark 59 ∷ tokens rest))
unfolding connection_lines
connection_lines_read c [] rest is are = connection_read c (10 ∷ (codes "  );" ++ (10 ∷ rest))) is
connection_lines_read c (d ∷ ds) rest is are =
    connection_read c (44 ∷ 10 ∷ connection_lines d ds (codes "  );" ++ (10 ∷ rest))) is
    ∙ ap (λ ts. connection_spelled c (mark 44 ∷ ts)) (connection_lines_read d ds rest are.0 are.1)

connections_read : (cs : List Connection) (rest : Text) → AreConnections cs → tokens (connections_text cs rest) ≡ connections_spelled cs (mark 41 ∷ mark 59 ∷ tokens rest)
unfolding connections_text
connections_read [] rest are = refl
connections_read (c ∷ cs) rest are = connection_lines_read c cs rest are.0 are.1

-- ---- items

item_read : (i : Item) (rest : Text) → IsSpellableItem i → tokens (item_text i rest) ≡ item_spelled i (tokens rest)
unfolding item_text
item_read (wire high n) rest is = ap (λ ts. word (codes "wire") ∷ ts) (named_read high n (59 ∷ 10 ∷ rest) is.0 is.1 refl)
item_read (reg high n) rest is = ap (λ ts. word (codes "reg") ∷ ts) (named_read high n (59 ∷ 10 ∷ rest) is.0 is.1 refl)
item_read (assign n e) rest is =
    ap (λ ts. word (codes "assign") ∷ ts) (word_read n (codes " = " ++ expr_text e (59 ∷ 10 ∷ rest)) is.0 refl
    ∙ ap (λ ts. word n ∷ operator (codes "=") ∷ ts) (expr_read e (59 ∷ 10 ∷ rest) is.1 refl))
item_read (always clock b) rest is =
    ap (λ ts. word (codes "always") ∷ mark 64 ∷ mark 40 ∷ word (codes "posedge") ∷ ts) (word_read clock (event_text b (block_text b rest)) is.0 (events_apart b (block_text b rest))
    ∙ ap (λ ts. word clock ∷ ts) (block_read b rest is.1))
item_read (instance m n cs) rest is =
    word_read m (32 ∷ n ++ (codes " (" ++ connections_text cs rest)) is.0 refl
    ∙ ap (λ ts. word m ∷ ts) (word_read n (codes " (" ++ connections_text cs rest) is.1.0 refl
    ∙ ap (λ ts. word n ∷ mark 40 ∷ ts) (connections_read cs rest is.1.1))

items_read : (is : List Item) (rest : Text) → AreItems is → tokens (items_text is rest) ≡ items_spelled is (tokens rest)
unfolding items_text
items_read [] rest are = refl
items_read (i ∷ is) rest are = item_read i (items_text is rest) are.0 ∙ ap (item_spelled i) (items_read is rest are.1)

-- ---- modules

module_read : (m : VModule) (rest : Text) → IsSpellableModule m → tokens (module_text m rest) ≡ module_spelled m (tokens rest)
unfolding module_text
module_read m rest is =
    ap (λ ts. word (codes "module") ∷ ts) (word_read m.name (ports_text m.ports (items_text m.items (codes "endmodule" ++ (10 ∷ rest)))) is.name
    (ports_apart m.ports (items_text m.items (codes "endmodule" ++ (10 ∷ rest))))
    ∙ ap (λ ts. word m.name ∷ ts) (ports_read m.ports (items_text m.items (codes "endmodule" ++ (10 ∷ rest))) is.ports
    ∙ ap (λ ts. ports_spelled m.ports (mark 59 ∷ ts)) (items_read m.items (codes "endmodule" ++ (10 ∷ rest)) is.items)))

further_read : (t : Tree) → IsSpellableTree t → tokens (further_text t) ≡ spell_tree t
unfolding further_text
further_read [] are = refl
further_read (m ∷ ms) are = module_read m (further_text ms) are.0 ∙ ap (module_spelled m) (further_read ms are.1)

pub tree_read : (t : Tree) → IsSpellableTree t → tokens (tree_text t) ≡ spell_tree t
unfolding tree_text
tree_read [] are = refl
tree_read (m ∷ ms) are = module_read m (further_text ms) are.0 ∙ ap (module_spelled m) (further_read ms are.1)
