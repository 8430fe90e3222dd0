-- The reader reads each tree back from its spelling.
use Rattle.std.proofs.Common.{◌≡◌, ℕ, Bool, true, false, List, [], ◌∷◌, Option, Some, None, refl, ◌∙◌, ap, arith, codes}
use Rattle.hw_model.specs.Types.{Name}
use Rattle.hw_model.specs.Design.{same_name}
use Rattle.verilog_model.specs.Tokens.{Piece}
use Rattle.verilog_model.specs.Tokens.Piece.{word, operator, mark, gap}
use Rattle.verilog_model.specs.Tree.{Numeral, Expr, VPort, Load, Block, Connection, Item, Tree}
use Rattle.verilog_model.specs.Tree.Expr.{name}
use Rattle.verilog_model.specs.Tree.Block.{load, if_load, if_else, if_else_if, async_reset}
use Rattle.verilog_model.specs.Tree.Item.{wire, reg, assign, always, instance}
use Rattle.verilog_model.specs.Grammar.{expr_spelled, load_spelled, if_spelled, block_spelled, more_connections_spelled, connections_spelled, range_spelled, direction, port_spelled}
use Rattle.verilog_model.specs.Grammar.{more_ports_spelled, ports_spelled, item_spelled, items_spelled, spell_tree, open_paren, close_paren, semicolon, arrow}
use Rattle.verilog_model.specs.Reserved.{reserved_words}
use Rattle.verilog_model.specs.Checks.{contains_name}
use Rattle.verilog_model.proofs.TokenReader.{Rest, State, Class, class_of, next, run, on_word, load_after, if_after, with_block, block_word, clock_after, else_word, after_if_word, item_word}
use Rattle.verilog_model.proofs.TokenReader.{instance_after, connection_after, first_connection, range_or_name, more_or_end, skip}
use Rattle.verilog_model.proofs.TokenReader.State.{take, operand, modules, port, items, connection, after_if}
use Rattle.verilog_model.proofs.TokenReader.Class.{ends}
use Rattle.verilog_model.proofs.TokenReader.Around.{bottom}
use Rattle.verilog_model.proofs.ReadExpressions.{Clear, read_expr, pull_two}

-- no reserved word is the name
abbrev pub NoKeyword : Name → Type 0
NoKeyword n = (w : Name) → contains_name w reserved_words ≡ true → same_name w n ≡ false

abbrev pub ClearBlock : Block → Type 0
ClearBlock (load l) = NoKeyword l.target × Clear l.value
ClearBlock (if_load c l) = Clear c × Clear l.value
ClearBlock (if_else c l m) = (Clear c × Clear l.value) × (NoKeyword m.target × Clear m.value)
ClearBlock (if_else_if c l e m) = (Clear c × Clear l.value) × (Clear e × Clear m.value)
ClearBlock (async_reset n l m) = Clear (name n) × (Clear l.value × Clear m.value)

abbrev pub ClearConnections : List Connection → Type 0
ClearConnections [] = Unit {0}
ClearConnections (c ∷ cs) = Clear c.value × ClearConnections cs

abbrev pub ClearItem : Item → Type 0
ClearItem (assign n e) = Clear e
ClearItem (always clock b) = ClearBlock b
ClearItem (instance m n cs) = NoKeyword m × ClearConnections cs
ClearItem _ = Unit {0}

abbrev pub ClearItems : List Item → Type 0
ClearItems [] = Unit {0}
ClearItems (i ∷ is) = ClearItem i × ClearItems is

abbrev pub ClearTree : Tree → Type 0
ClearTree [] = Unit {0}
ClearTree (m ∷ ms) = ClearItems m.items × ClearTree ms

-- an expression alone, up to the mark after it
read_alone : (e : Expr) (k : Expr → State) (b : ℕ) (ps : List Piece) → Clear e → class_of (mark b) ≡ ends → run (operand (bottom k)) (expr_spelled e (mark b ∷ ps)) ≡ run (k e) ps
read_alone e k b ps h c =
    read_expr e (bottom k) (mark b) ps h (omega (arith, pull_two e)) (rw c (omega arith)) ∙ ap (λ (x : Class). run (next (bottom k) e x) ps) c

-- ---- blocks

read_load : (l : Load) (k : Load → State) (ps : List Piece) → Clear l.value → run (load_after k l.target) (arrow ∷ expr_spelled l.value (semicolon ∷ ps)) ≡ run (k l) ps
read_load l k ps h = read_alone l.value (λ (e : Expr). k (record { target = l.target; value = e })) 59 ps h refl

read_if : (c : Expr) (l : Load) (k : Expr → Load → State) (ps : List Piece) → Clear c → Clear l.value →
    run (if_after k) (open_paren ∷ expr_spelled c (close_paren ∷ load_spelled l ps)) ≡ run (k c l) ps
read_if c l k ps h g = read_alone c (λ (d : Expr). take (on_word (load_after (k d)))) 41 (load_spelled l ps) h refl ∙ read_load l (k c) ps g

-- what follows does not begin with `else`
abbrev NoElse : List Piece → Type 0
NoElse [] = Unit {0}
NoElse (word w ∷ ps) = same_name (codes "else") w ≡ false
NoElse (_ ∷ ps) = Unit {0}

if_ends : (clock : Name) (c : Expr) (l : Load) (k : Rest) (ps : List Piece) → NoElse ps → run (after_if clock c l k) ps ≡ run (with_block clock k (if_load c l)) ps
if_ends clock c l k [] h = refl
if_ends clock c l k (word w ∷ ps) h = ap (λ t. run t ps) (no_else h) where
  no_else : same_name (codes "else") w ≡ false → after_if_word clock c l k w ≡ item_word (λ (is : List Item). k (always clock (if_load c l) ∷ is)) w
  no_else e = rw e refl
if_ends clock c l k (operator w ∷ ps) h = refl
if_ends clock c l k (mark b ∷ ps) h = refl
if_ends clock c l k (gap ∷ ps) h = refl

block_load : (clock : Name) (k : Rest) (w : Name) → same_name (codes "if") w ≡ false → block_word clock k w ≡ load_after (λ (l : Load). with_block clock k (load l)) w
block_load clock k w h = rw h refl

else_load : (clock : Name) (c : Expr) (l : Load) (k : Rest) (w : Name) → same_name (codes "if") w ≡ false → else_word clock c l k w ≡ load_after (λ (m : Load). with_block clock k (if_else c l m)) w
else_load clock c l k w h = rw h refl

read_block : (b : Block) (clock : Name) (k : Rest) (ps : List Piece) → ClearBlock b → NoElse ps → run (take (clock_after clock k)) (block_spelled b ps) ≡ run (with_block clock k b) ps
unfolding reserved_words
read_block (load l) clock k ps h g =
    ap (λ t. run t (arrow ∷ expr_spelled l.value (semicolon ∷ ps))) (block_load clock k l.target (h.0 (codes "if") refl))
    ∙ read_load l (λ (l : Load). with_block clock k (load l)) ps h.1
read_block (if_load c l) clock k ps h g = read_if c l (λ (c : Expr) (l : Load). after_if clock c l k) ps h.0 h.1 ∙ if_ends clock c l k ps g
read_block (if_else c l m) clock k ps h g =
    read_if c l (λ (c : Expr) (l : Load). after_if clock c l k) (word (codes "else") ∷ load_spelled m ps) h.0.0 h.0.1
    ∙ ap (λ t. run t (arrow ∷ expr_spelled m.value (semicolon ∷ ps))) (else_load clock c l k m.target (h.1.0 (codes "if") refl))
    ∙ read_load m (λ (m : Load). with_block clock k (if_else c l m)) ps h.1.1
read_block (if_else_if c l e m) clock k ps h g =
    read_if c l (λ (c : Expr) (l : Load). after_if clock c l k) (word (codes "else") ∷ if_spelled e (load_spelled m ps)) h.0.0 h.0.1
    ∙ read_if e m (λ (e : Expr) (m : Load). with_block clock k (if_else_if c l e m)) ps h.1.0 h.1.1
read_block (async_reset n l m) clock k ps h g =
    read_if (name n) l (λ (c : Expr) (l : Load). skip (take (on_word (load_after (λ (m : Load). with_block clock k (async_reset n l m)))))) (word (codes "else") ∷ load_spelled m ps) h.0 h.1.0
    ∙ read_load m (λ (m : Load). with_block clock k (async_reset n l m)) ps h.1.1

-- ---- instances

read_connections : (c : Connection) (cs : List Connection) (k : List Connection → Rest) (ps : List Piece) → ClearConnections (c ∷ cs) →
    run (connection_after k) (word c.port ∷ open_paren ∷ expr_spelled c.value (close_paren ∷ more_connections_spelled cs (close_paren ∷ semicolon ∷ ps))) ≡ run (items (k (c ∷ cs))) ps
read_connections c [] k ps h = read_alone c.value (λ (e : Expr). more_or_end connection k (record { port = c.port; value = e })) 41 (close_paren ∷ semicolon ∷ ps) h.0 refl
read_connections c (d ∷ cs) k ps h =
    read_alone c.value (λ (e : Expr). more_or_end connection k (record { port = c.port; value = e })) 41 (more_connections_spelled (d ∷ cs) (close_paren ∷ semicolon ∷ ps)) h.0 refl
    ∙ read_connections d cs (λ (more_cs : List Connection). k (c ∷ more_cs)) ps h.1

read_instance : (cs : List Connection) (k : List Connection → Rest) (ps : List Piece) → ClearConnections cs →
    run (take (first_connection k)) (connections_spelled cs (close_paren ∷ semicolon ∷ ps)) ≡ run (items (k cs)) ps
read_instance [] k ps h = refl
read_instance (c ∷ cs) k ps h = read_connections c cs k ps h

instance_word : (k : Rest) (m : Name) → NoKeyword m → item_word k m ≡ instance_after k m
unfolding reserved_words
instance_word k m h = rw (h (codes "endmodule") refl, h (codes "wire") refl, h (codes "reg") refl, h (codes "assign") refl, h (codes "always") refl) refl

-- ---- ranges, ports

read_range : (high : Option Numeral) (n : Name) (k : Option Numeral → Name → State) (ps : List Piece) →
    run (take (range_or_name k)) (range_spelled high (word n ∷ ps)) ≡ run (k high n) ps
read_range None n k ps = refl
read_range (Some h) n k ps = refl

same_direction : (b : Bool) → same_name (direction b) (codes "output") ≡ b
same_direction false = refl
same_direction true = refl

read_port : (p : VPort) (k : List VPort → Rest) (ps : List Piece) → run (port k) (port_spelled p ps) ≡ run (more_or_end port k p) ps
read_port p k ps =
    read_range p.high p.name (λ (h : Option Numeral) (n : Name). more_or_end port k (record { is_output = same_name (direction p.is_output) (codes "output"); high = h; name = n })) ps
    ∙ ap (λ b. run (more_or_end port k (record { is_output = b; high = p.high; name = p.name })) ps) (same_direction p.is_output)

read_ports : (p : VPort) (rest : List VPort) (k : List VPort → Rest) (ps : List Piece) →
    run (port k) (port_spelled p (more_ports_spelled rest (close_paren ∷ semicolon ∷ ps))) ≡ run (items (k (p ∷ rest))) ps
read_ports p [] k ps = read_port p k (close_paren ∷ semicolon ∷ ps)
read_ports p (q ∷ rest) k ps =
    read_port p k (more_ports_spelled (q ∷ rest) (close_paren ∷ semicolon ∷ ps)) ∙ read_ports q rest (λ (qs : List VPort). k (p ∷ qs)) ps

-- ---- items

read_item : (i : Item) (k : Rest) (ps : List Piece) → ClearItem i → NoElse ps → run (items k) (item_spelled i ps) ≡ run (items (λ (is : List Item). k (i ∷ is))) ps
read_item (wire high n) k ps h g = read_range high n (λ (h : Option Numeral) (n : Name). skip (items (λ (is : List Item). k (wire h n ∷ is)))) (semicolon ∷ ps)
read_item (reg high n) k ps h g = read_range high n (λ (h : Option Numeral) (n : Name). skip (items (λ (is : List Item). k (reg h n ∷ is)))) (semicolon ∷ ps)
read_item (assign n e) k ps h g = read_alone e (λ (e : Expr). items (λ (is : List Item). k (assign n e ∷ is))) 59 ps h refl
read_item (always clock b) k ps h g = read_block b clock k ps h g
read_item (instance m n cs) k ps h g =
    ap (λ t. run t (word n ∷ open_paren ∷ connections_spelled cs (close_paren ∷ semicolon ∷ ps))) (instance_word k m h.0)
    ∙ read_instance cs (λ (cs : List Connection) (is : List Item). k (instance m n cs ∷ is)) ps h.1

no_else_after : (is : List Item) (ps : List Piece) → ClearItems is → NoElse (items_spelled is (word (codes "endmodule") ∷ ps))
unfolding reserved_words
no_else_after [] ps h = refl
no_else_after (wire high n ∷ is) ps h = refl
no_else_after (reg high n ∷ is) ps h = refl
no_else_after (assign n e ∷ is) ps h = refl
no_else_after (always clock b ∷ is) ps h = refl
no_else_after (instance m n cs ∷ is) ps h = h.0.0 (codes "else") refl

read_items : (is : List Item) (k : Rest) (ps : List Piece) → ClearItems is → run (items k) (items_spelled is (word (codes "endmodule") ∷ ps)) ≡ run (modules (k is)) ps
read_items [] k ps h = refl
read_items (i ∷ is) k ps h =
    read_item i k (items_spelled is (word (codes "endmodule") ∷ ps)) h.0 (no_else_after is ps h.1) ∙ read_items is (λ (rest : List Item). k (i ∷ rest)) ps h.1

-- ---- modules

read_head : (n : Name) (ports : List VPort) (f : Tree → Tree) (ps : List Piece) →
    run (modules f) (word (codes "module") ∷ word n ∷ ports_spelled ports (semicolon ∷ ps))
    ≡ run (items (λ (is : List Item) (t : Tree). f (record { name = n; ports = ports; items = is } ∷ t))) ps
read_head n [] f ps = refl
read_head n (p ∷ rest) f ps = read_ports p rest (λ (qs : List VPort) (is : List Item) (t : Tree). f (record { name = n; ports = qs; items = is } ∷ t)) ps

read_modules : (t : Tree) (f : Tree → Tree) → ClearTree t → run (modules f) (spell_tree t) ≡ f t
read_modules [] f h = refl
read_modules (m ∷ ms) f h =
    read_head m.name m.ports f (items_spelled m.items (word (codes "endmodule") ∷ spell_tree ms))
    ∙ read_items m.items (λ (is : List Item) (t : Tree). f (record { name = m.name; ports = m.ports; items = is } ∷ t)) (spell_tree ms) h.0
    ∙ read_modules ms (λ (t : Tree). f (m ∷ t)) h.1

-- from the tokens of a tree the tree is read
pub read_tree : (t : Tree) → ClearTree t → run (modules (λ (t : Tree). t)) (spell_tree t) ≡ t
read_tree t h = read_modules t (λ (t : Tree). t) h
