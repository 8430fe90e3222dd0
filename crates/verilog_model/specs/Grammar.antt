-- The grammar: how each tree is spelled in tokens (IEEE 1364-2005, Annex A), the rest of the text being an argument; and
-- which trees keep the precedence and association of the operators (5.1.2, table 5-4).
use Rattle.std.specs.Prelude.{ℕ, suc, ◌++◌, Bool, true, false, ◌&&◌, nat_le, List, [], ◌∷◌, Option, Some, None, codes}
use Rattle.hw_model.specs.Types.{Name}
use Rattle.verilog_model.specs.Tokens.{Piece}
use Rattle.verilog_model.specs.Tokens.Piece.{word, operator, mark}
use Rattle.verilog_model.specs.Tree.{Numeral, Operator, Expr, Exprs, VPort, Load, Block, Connection, Item, VModule, Tree}
use Rattle.verilog_model.specs.Tree.Operator.{times, over, modulo, plus, minus, left_shift, right_shift, signed_right_shift, below, at_most, above, at_least, equals, differs, bit_and, bit_xor, bit_or}
use Rattle.verilog_model.specs.Tree.Expr.{name, bit_select, part_select, literal, joined, repeated, as_signed, as_unsigned, paren, odd, binary, choice}
use Rattle.verilog_model.specs.Tree.Exprs.{last, more}
use Rattle.verilog_model.specs.Tree.Block.{load, if_load, if_else, if_else_if, async_reset}
use Rattle.verilog_model.specs.Tree.Item.{wire, reg, assign, always, instance}

abbrev pub Spelling : Type 0
Spelling = List Piece

-- ---- the marks

abbrev pub open_paren : Piece
open_paren = mark 40

abbrev pub close_paren : Piece
close_paren = mark 41

abbrev pub open_bracket : Piece
open_bracket = mark 91

abbrev pub close_bracket : Piece
close_bracket = mark 93

abbrev pub open_brace : Piece
open_brace = mark 123

abbrev pub close_brace : Piece
close_brace = mark 125

abbrev pub comma : Piece
comma = mark 44

abbrev pub semicolon : Piece
semicolon = mark 59

abbrev pub dot : Piece
dot = mark 46

abbrev pub at_sign : Piece
at_sign = mark 64

abbrev pub colon : Piece
colon = mark 58

abbrev pub question : Piece
question = mark 63

abbrev pub caret : Piece
caret = mark 94

-- `=` and `<=`
abbrev pub equal : Piece
equal = operator (61 ∷ [])

abbrev pub arrow : Piece
arrow = operator (60 ∷ 61 ∷ [])

-- ---- expressions

abbrev pub operator_token : Operator → Piece
operator_token times = operator (codes "*")
operator_token over = operator (codes "/")
operator_token modulo = operator (codes "%")
operator_token plus = operator (codes "+")
operator_token minus = operator (codes "-")
operator_token left_shift = operator (codes "<<")
operator_token right_shift = operator (codes ">>")
operator_token signed_right_shift = operator (codes ">>>")
operator_token below = operator (codes "<")
operator_token at_most = operator (codes "<=")
operator_token above = operator (codes ">")
operator_token at_least = operator (codes ">=")
operator_token equals = operator (codes "==")
operator_token differs = operator (codes "!=")
operator_token bit_and = operator (codes "&")
operator_token bit_xor = caret
operator_token bit_or = operator (codes "|")

-- `'h` and `'sh`
abbrev pub base_mark : Bool → Name
base_mark false = codes "'h"
base_mark true = codes "'sh"

abbrev mutual
  pub expr_spelled : Expr → Spelling → Spelling
  expr_spelled (name n) ps = word n ∷ ps
  expr_spelled (bit_select n k) ps = word n ∷ open_bracket ∷ word k ∷ close_bracket ∷ ps
  expr_spelled (part_select n h l) ps = word n ∷ open_bracket ∷ word h ∷ colon ∷ word l ∷ close_bracket ∷ ps
  expr_spelled (literal w s h) ps = word (w ++ (base_mark s ++ h)) ∷ ps
  expr_spelled (joined es) ps = open_brace ∷ exprs_spelled es (close_brace ∷ ps)
  expr_spelled (repeated n es) ps = open_brace ∷ word n ∷ open_brace ∷ exprs_spelled es (close_brace ∷ close_brace ∷ ps)
  expr_spelled (as_signed e) ps = word (codes "$signed") ∷ open_paren ∷ expr_spelled e (close_paren ∷ ps)
  expr_spelled (as_unsigned e) ps = word (codes "$unsigned") ∷ open_paren ∷ expr_spelled e (close_paren ∷ ps)
  expr_spelled (paren e) ps = open_paren ∷ expr_spelled e (close_paren ∷ ps)
  expr_spelled (odd e) ps = caret ∷ expr_spelled e ps
  expr_spelled (binary o a b) ps = expr_spelled a (operator_token o ∷ expr_spelled b ps)
  expr_spelled (choice c a b) ps = expr_spelled c (question ∷ expr_spelled a (colon ∷ expr_spelled b ps))

  pub exprs_spelled : Exprs → Spelling → Spelling
  exprs_spelled (last e) ps = expr_spelled e ps
  exprs_spelled (more e es) ps = expr_spelled e (comma ∷ exprs_spelled es ps)

-- ---- modules

-- `[h:0]`, or nothing
abbrev pub range_spelled : Option Numeral → Spelling → Spelling
range_spelled None ps = ps
range_spelled (Some h) ps = open_bracket ∷ word h ∷ colon ∷ word (codes "0") ∷ close_bracket ∷ ps

abbrev pub direction : Bool → Name
direction false = codes "input"
direction true = codes "output"

abbrev pub port_spelled : VPort → Spelling → Spelling
port_spelled p ps = word (direction p.is_output) ∷ word (codes "wire") ∷ range_spelled p.high (word p.name ∷ ps)

abbrev pub more_ports_spelled : List VPort → Spelling → Spelling
more_ports_spelled [] ps = ps
more_ports_spelled (p ∷ rest) ps = comma ∷ port_spelled p (more_ports_spelled rest ps)

abbrev pub ports_spelled : List VPort → Spelling → Spelling
ports_spelled [] ps = ps
ports_spelled (p ∷ rest) ps = open_paren ∷ port_spelled p (more_ports_spelled rest (close_paren ∷ ps))

abbrev pub load_spelled : Load → Spelling → Spelling
load_spelled l ps = word l.target ∷ arrow ∷ expr_spelled l.value (semicolon ∷ ps)

abbrev pub if_spelled : Expr → Spelling → Spelling
if_spelled e ps = word (codes "if") ∷ open_paren ∷ expr_spelled e (close_paren ∷ ps)

-- what stands after the clock's name: the second event where there is one, and after `)` what the block does
abbrev pub block_spelled : Block → Spelling → Spelling
block_spelled (load l) ps = close_paren ∷ load_spelled l ps
block_spelled (if_load c l) ps = close_paren ∷ if_spelled c (load_spelled l ps)
block_spelled (if_else c l m) ps = close_paren ∷ if_spelled c (load_spelled l (word (codes "else") ∷ load_spelled m ps))
block_spelled (if_else_if c l e m) ps = close_paren ∷ if_spelled c (load_spelled l (word (codes "else") ∷ if_spelled e (load_spelled m ps)))
block_spelled (async_reset n l m) ps =
    word (codes "or") ∷ word (codes "posedge") ∷ word n ∷ close_paren ∷ if_spelled (name n) (load_spelled l (word (codes "else") ∷ load_spelled m ps))

abbrev pub connection_spelled : Connection → Spelling → Spelling
connection_spelled c ps = dot ∷ word c.port ∷ open_paren ∷ expr_spelled c.value (close_paren ∷ ps)

abbrev pub more_connections_spelled : List Connection → Spelling → Spelling
more_connections_spelled [] ps = ps
more_connections_spelled (c ∷ cs) ps = comma ∷ connection_spelled c (more_connections_spelled cs ps)

abbrev pub connections_spelled : List Connection → Spelling → Spelling
connections_spelled [] ps = ps
connections_spelled (c ∷ cs) ps = connection_spelled c (more_connections_spelled cs ps)

abbrev pub item_spelled : Item → Spelling → Spelling
item_spelled (wire high n) ps = word (codes "wire") ∷ range_spelled high (word n ∷ semicolon ∷ ps)
item_spelled (reg high n) ps = word (codes "reg") ∷ range_spelled high (word n ∷ semicolon ∷ ps)
item_spelled (assign n e) ps = word (codes "assign") ∷ word n ∷ equal ∷ expr_spelled e (semicolon ∷ ps)
item_spelled (always clock b) ps = word (codes "always") ∷ at_sign ∷ open_paren ∷ word (codes "posedge") ∷ word clock ∷ block_spelled b ps
item_spelled (instance m n cs) ps = word m ∷ word n ∷ open_paren ∷ connections_spelled cs (close_paren ∷ semicolon ∷ ps)

abbrev pub items_spelled : List Item → Spelling → Spelling
items_spelled [] ps = ps
items_spelled (i ∷ is) ps = item_spelled i (items_spelled is ps)

abbrev pub module_spelled : VModule → Spelling → Spelling
module_spelled m ps = word (codes "module") ∷ word m.name ∷ ports_spelled m.ports (semicolon ∷ items_spelled m.items (word (codes "endmodule") ∷ ps))

abbrev pub spell_tree : Tree → Spelling
spell_tree [] = []
spell_tree (m ∷ ms) = module_spelled m (spell_tree ms)

-- ---- precedence and association

-- how strongly an operator binds
abbrev pub strength : Operator → ℕ
strength times = 9
strength over = 9
strength modulo = 9
strength plus = 8
strength minus = 8
strength left_shift = 7
strength right_shift = 7
strength signed_right_shift = 7
strength below = 6
strength at_most = 6
strength above = 6
strength at_least = 6
strength equals = 5
strength differs = 5
strength bit_and = 4
strength bit_xor = 3
strength bit_or = 2

-- `?:` binds least strongly, a unary operator more than every binary one, and a primary most
abbrev pub choice_level : ℕ
choice_level = 1

abbrev pub unary_level : ℕ
unary_level = 10

abbrev pub primary_level : ℕ
primary_level = 11

-- how strongly an expression's outermost operator binds
abbrev pub level : Expr → ℕ
level (odd e) = unary_level
level (binary o a b) = strength o
level (choice c a b) = choice_level
level _ = primary_level

-- no operand binds less strongly than its position asks: binary operators associate to the left, `?:` to the right, and a
-- unary operator stands before a primary
abbrev mutual
  pub fits : Expr → Bool
  fits (name n) = true
  fits (bit_select n k) = true
  fits (part_select n h l) = true
  fits (literal w s h) = true
  fits (joined es) = all_fit es
  fits (repeated n es) = all_fit es
  fits (as_signed e) = fits e
  fits (as_unsigned e) = fits e
  fits (paren e) = fits e
  fits (odd e) = nat_le primary_level (level e) && fits e
  fits (binary o a b) = (nat_le (strength o) (level a) && nat_le (suc (strength o)) (level b)) && (fits a && fits b)
  fits (choice c a b) = nat_le (suc choice_level) (level c) && (fits c && (fits a && fits b))

  pub all_fit : Exprs → Bool
  all_fit (last e) = fits e
  all_fit (more e es) = fits e && all_fit es

abbrev pub load_fits : Load → Bool
load_fits l = fits l.value

abbrev pub is_literal : Expr → Bool
is_literal (literal w s h) = true
is_literal _ = false

-- an asynchronous reset loads a literal
abbrev pub block_fits : Block → Bool
block_fits (load l) = load_fits l
block_fits (if_load c l) = fits c && load_fits l
block_fits (if_else c l m) = fits c && (load_fits l && load_fits m)
block_fits (if_else_if c l e m) = (fits c && load_fits l) && (fits e && load_fits m)
block_fits (async_reset n l m) = is_literal l.value && (load_fits l && load_fits m)

abbrev pub connections_fit : List Connection → Bool
connections_fit [] = true
connections_fit (c ∷ cs) = fits c.value && connections_fit cs

abbrev pub item_fits : Item → Bool
item_fits (wire high n) = true
item_fits (reg high n) = true
item_fits (assign n e) = fits e
item_fits (always clock b) = block_fits b
item_fits (instance m n cs) = connections_fit cs

abbrev pub items_fit : List Item → Bool
items_fit [] = true
items_fit (i ∷ is) = item_fits i && items_fit is

abbrev pub tree_fits : Tree → Bool
tree_fits [] = true
tree_fits (m ∷ ms) = items_fit m.items && tree_fits ms
