-- A reader, a machine of states, that reads the tokens of a tree back into the tree: one step for each token, operators by their strengths.
use Rattle.std.proofs.Common.{ℕ, Bool, true, false, cond, ◌==◌, nat_le, List, [], ◌∷◌, Option, Some, None}
use Rattle.std.specs.Prelude.{codes}
use Rattle.hw_model.specs.Types.{Name}
use Rattle.hw_model.specs.Design.{same_name}
use Rattle.verilog_model.specs.Tokens.{Piece, is_name_start}
use Rattle.verilog_model.specs.Tokens.Piece.{word, operator, mark, gap}
use Rattle.verilog_model.specs.Tree.{Numeral, Operator, Expr, Exprs, VPort, Load, Block, Connection, Item, Tree}
use Rattle.verilog_model.specs.Tree.Operator.{times, over, modulo, plus, minus, left_shift, right_shift, signed_right_shift, below, at_most, above, at_least, equals, differs, bit_and, bit_xor, bit_or}
use Rattle.verilog_model.specs.Tree.Expr.{name, bit_select, part_select, literal, joined, repeated, as_signed, as_unsigned, paren, odd, binary, choice}
use Rattle.verilog_model.specs.Tree.Exprs.{last, more}
use Rattle.verilog_model.specs.Tree.Block.{load, if_load, if_else, if_else_if, async_reset}
use Rattle.verilog_model.specs.Tree.Item.{wire, reg, assign, always, instance}
use Rattle.verilog_model.specs.Grammar.{operator_token, strength}

-- what is made of the items after a position, and of the modules after them
abbrev pub Rest : Type 0
Rest = List Item → Tree → Tree

mutual
  -- what stands around an expression that is read, the innermost first
  pub data Around : Type 0 where
    bottom : (Expr → State) → Around
    left_of : Operator → Expr → Around → Around
    tested : Expr → Around → Around
    chosen : Expr → Expr → Around → Around
    odd_of : Around → Around
    inside : (Expr → Expr) → Around → Around
    listed : (Exprs → State) → Around → Around

  pub data State : Type 0 where
    lost : State
    take : (Piece → State) → State
    operand : Around → State
    named : Name → Around → State
    complete : Expr → Around → State
    modules : (Tree → Tree) → State
    port : (List VPort → Rest) → State
    items : Rest → State
    connection : (List Connection → Rest) → State
    after_if : Name → Expr → Load → Rest → State

-- ---- what a token is after an expression

pub data Class : Type 0 where
  joins : Operator → Class
  ask select comma ends : Class

-- the operators but `^`, which is a mark
abbrev pub operators : List Operator
operators =
    times ∷ over ∷ modulo ∷ plus ∷ minus ∷ left_shift ∷ right_shift ∷ signed_right_shift ∷ below ∷ at_most ∷ above ∷ at_least ∷
    equals ∷ differs ∷ bit_and ∷ bit_or ∷ []

abbrev pub is_operator : Name → Piece → Bool
is_operator w (operator v) = same_name v w
is_operator w _ = false

abbrev pub operator_class : List Operator → Name → Class
operator_class [] w = ends
operator_class (o ∷ os) w = cond (is_operator w (operator_token o)) (joins o) (operator_class os w)

abbrev pub class_of : Piece → Class
class_of (word w) = ends
class_of (operator w) = operator_class operators w
class_of (mark b) = cond (b == 94) (joins bit_xor) (cond (b == 63) ask (cond (b == 91) select (cond (b == 44) comma ends)))
class_of gap = ends

-- how strong an expression before it has to be
abbrev pub weight : Class → ℕ
weight (joins o) = strength o
weight ask = 2
weight select = 12
weight comma = 0
weight ends = 0

-- ---- states that take tokens one by one

abbrev pub skip : State → State
skip s = take (λ (p : Piece). s)

abbrev pub on_word : (Name → State) → Piece → State
on_word k (word w) = k w
on_word k _ = lost

-- one state at a mark of this byte, another at any other token
abbrev pub on_mark : ℕ → State → State → Piece → State
on_mark b s t (mark c) = cond (c == b) s t
on_mark b s t _ = t

-- a word is a name; a range comes first
abbrev pub range_or_name : (Option Numeral → Name → State) → Piece → State
range_or_name k (word n) = k None n
range_or_name k _ = take (on_word (λ (h : Name). skip (skip (skip (take (on_word (k (Some h))))))))

-- ---- expressions

abbrev pub push : Around → Expr → Class → State
push s e (joins o) = operand (left_of o e s)
push s e _ = operand (tested e s)

-- after a complete expression comes a token of the class
abbrev pub following : Class → (Class → State) → State → State
following (joins o) f s = f (joins o)
following ask f s = f ask
following _ f s = s

abbrev pub next : Around → Expr → Class → State
next (bottom k) e c = following c (push (bottom k) e) (k e)
next (left_of o a s) e c = cond (nat_le (weight c) (strength o)) (next s (binary o a e) c) (push (left_of o a s) e c)
next (tested d s) e c = following c (push (tested d s) e) (operand (chosen d e s))
next (chosen d a s) e c = cond (nat_le (weight c) 1) (next s (choice d a e) c) (push (chosen d a s) e c)
next (odd_of s) e c = next s (odd e) c
next (inside g s) e c = following c (push (inside g s) e) (complete (g e) s)
next (listed k s) e comma = operand (listed (λ (es : Exprs). k (more e es)) s)
next (listed k s) e c = following c (push (listed k s) e) (k (last e))

-- `[h:l]` or `[h]` after a name
abbrev pub select_low : Name → Numeral → Around → Piece → State
select_low n h s p = on_mark 58 (take (on_word (λ (l : Name). skip (complete (part_select n h l) s)))) (complete (bit_select n h) s) p

abbrev pub after_name : Name → Around → Class → State
after_name n s select = take (on_word (λ (h : Name). take (select_low n h s)))
after_name n s c = next s (name n) c

-- what a word is where an operand begins
pub data TokenClass : Type 0 where
  identifier number : TokenClass
  based : Numeral → Bool → Numeral → TokenClass
  call : (Expr → Expr) → TokenClass

-- the bytes before the first `'`, and those after it
abbrev pub before_quote : Name → Name
before_quote [] = []
before_quote (b ∷ bs) = cond (b == 39) [] (b ∷ before_quote bs)

abbrev pub after_quote : Name → Name
after_quote [] = []
after_quote (b ∷ bs) = cond (b == 39) bs (after_quote bs)

abbrev pub tail : Name → Name
tail [] = []
tail (b ∷ bs) = bs

-- the bytes after the `'` of a literal, if there are any
abbrev pub number_or_literal : Name → Name → TokenClass
number_or_literal w [] = number
number_or_literal w (b ∷ bs) = cond (b == 104) (based w false bs) (based w true (tail bs))

abbrev pub call_of : Name → TokenClass
call_of [] = number
call_of (b ∷ bs) = cond (b == 115) (call as_signed) (call as_unsigned)

abbrev pub token_class : Name → TokenClass
token_class [] = number
token_class (b ∷ bs) = cond (is_name_start b) identifier (cond (b == 36) (call_of bs) (number_or_literal (before_quote (b ∷ bs)) (after_quote (b ∷ bs))))

-- `n{` after `{`
abbrev pub repeats : Numeral → Around → State
repeats n (listed k s) = skip (operand (listed (λ (es : Exprs). skip (complete (repeated n es) s)) s))
repeats n _ = lost

abbrev pub begin_word : Name → Around → TokenClass → State
begin_word w s identifier = named w s
begin_word w s number = repeats w s
begin_word w s (based v m h) = complete (literal v m h) s
begin_word w s (call g) = skip (operand (inside g s))

abbrev pub begin : Around → Piece → State
begin s (word w) = begin_word w s (token_class w)
begin s (operator w) = lost
begin s (mark b) = cond (b == 40) (operand (inside paren s)) (cond (b == 94) (operand (odd_of s)) (operand (listed (λ (es : Exprs). complete (joined es) s) s)))
begin s gap = lost

-- ---- blocks

-- after a load's target
abbrev pub load_after : (Load → State) → Name → State
load_after k n = skip (operand (bottom (λ (e : Expr). k (record { target = n; value = e }))))

abbrev pub if_after : (Expr → Load → State) → State
if_after k = skip (operand (bottom (λ (c : Expr). take (on_word (load_after (k c))))))

abbrev pub with_block : Name → Rest → Block → State
with_block clock k b = items (λ (is : List Item). k (always clock b ∷ is))

abbrev pub block_word : Name → Rest → Name → State
block_word clock k w = cond (same_name (codes "if") w) (if_after (λ (c : Expr) (l : Load). after_if clock c l k)) (load_after (λ (l : Load). with_block clock k (load l)) w)

abbrev pub else_word : Name → Expr → Load → Rest → Name → State
else_word clock c l k w = cond (same_name (codes "if") w) (if_after (λ (e : Expr) (m : Load). with_block clock k (if_else_if c l e m))) (load_after (λ (m : Load). with_block clock k (if_else c l m)) w)

-- after the clock's name: `)` and the block, or after `or` the second event's name, an `if` and two loads
abbrev pub clock_after : Name → Rest → Piece → State
clock_after clock k (mark b) = take (on_word (block_word clock k))
clock_after clock k (word w) =
    skip (take (on_word (λ (n : Name). skip (skip (if_after (λ (c : Expr) (l : Load). skip (take (on_word (load_after (λ (m : Load). with_block clock k (async_reset n l m)))))))))))
clock_after clock k _ = lost

-- ---- connections, ports

abbrev pub more_or_end : {A : Type 0} → ((List A → Rest) → State) → (List A → Rest) → A → State
more_or_end again k a = take (on_mark 44 (again (λ more_as. k (a ∷ more_as))) (skip (items (k (a ∷ [])))))

-- after the `.` of a connection
abbrev pub connection_after : (List Connection → Rest) → State
connection_after k = take (on_word (λ (n : Name). skip (operand (bottom (λ (e : Expr). more_or_end connection k (record { port = n; value = e }))))))

-- after `(`
abbrev pub first_connection : (List Connection → Rest) → Piece → State
first_connection k p = on_mark 41 (skip (items (k []))) (connection_after k) p

abbrev pub port_after : (List VPort → Rest) → Name → State
port_after k d = skip (take (range_or_name (λ (h : Option Numeral) (n : Name). more_or_end port k (record { is_output = same_name d (codes "output"); high = h; name = n }))))

-- ---- items, modules

abbrev pub instance_after : Rest → Name → State
instance_after k m = take (on_word (λ (n : Name). skip (take (first_connection (λ (cs : List Connection) (is : List Item). k (instance m n cs ∷ is))))))

abbrev pub item_word : Rest → Name → State
item_word k w =
    cond (same_name (codes "endmodule") w) (modules (k []))
    (cond (same_name (codes "wire") w) (take (range_or_name (λ (h : Option Numeral) (n : Name). skip (items (λ (is : List Item). k (wire h n ∷ is))))))
    (cond (same_name (codes "reg") w) (take (range_or_name (λ (h : Option Numeral) (n : Name). skip (items (λ (is : List Item). k (reg h n ∷ is))))))
    (cond (same_name (codes "assign") w) (take (on_word (λ (n : Name). skip (operand (bottom (λ (e : Expr). items (λ (is : List Item). k (assign n e ∷ is))))))))
    (cond (same_name (codes "always") w) (skip (skip (skip (take (on_word (λ (clock : Name). take (clock_after clock k)))))))
    (instance_after k w)))))

abbrev pub after_if_word : Name → Expr → Load → Rest → Name → State
after_if_word clock c l k w = cond (same_name (codes "else") w) (take (on_word (else_word clock c l k))) (item_word (λ (is : List Item). k (always clock (if_load c l) ∷ is)) w)

abbrev pub module_after : (Tree → Tree) → State
module_after f = take (on_word (λ (n : Name). take (on_mark 40
    (port (λ (ps : List VPort) (is : List Item) (t : Tree). f (record { name = n; ports = ps; items = is } ∷ t)))
    (items (λ (is : List Item) (t : Tree). f (record { name = n; ports = []; items = is } ∷ t))))))

-- ---- the reader

abbrev pub step : State → Piece → State
step lost p = lost
step (take f) p = f p
step (operand s) p = begin s p
step (named n s) p = after_name n s (class_of p)
step (complete e s) p = next s e (class_of p)
step (modules f) p = module_after f
step (port k) p = on_word (port_after k) p
step (items k) p = on_word (item_word k) p
step (connection k) p = connection_after k
step (after_if clock c l k) p = on_word (after_if_word clock c l k) p

abbrev pub finish : State → Tree
finish (modules f) = f []
finish _ = []

abbrev pub run : State → List Piece → Tree
run s [] = finish s
run s (p ∷ ps) = run (step s p) ps
