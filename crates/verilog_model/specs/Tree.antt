-- The syntax trees of the Verilog that is read (IEEE 1364-2005, Annex A: source text, the part for structural and
-- register descriptions). A tree keeps what the text leaves open: names, and numerals as they are written.
use Rattle.std.specs.Prelude.{ℕ, Bool, List, Option}
use Rattle.hw_model.specs.Types.{Name}

-- a numeral: its digits as bytes
abbrev pub Numeral : Type 0
Numeral = List ℕ

-- the binary operators, but `?:`
pub data Operator : Type 0 where
  times over modulo : Operator
  plus minus : Operator
  left_shift right_shift signed_right_shift : Operator
  below at_most above at_least : Operator
  equals differs : Operator
  bit_and bit_xor bit_or : Operator

-- expressions; parentheses are nodes of their own
mutual
  pub data Expr : Type 0 where
    name : Name → Expr
    -- one bit of a name, and the bits from a high to a low one
    bit_select : Name → Numeral → Expr
    part_select : Name → Numeral → Numeral → Expr
    -- a literal: its width, whether it is marked signed, its hexadecimal digits
    literal : Numeral → Bool → Numeral → Expr
    joined : Exprs → Expr
    repeated : Numeral → Exprs → Expr
    as_signed : Expr → Expr
    as_unsigned : Expr → Expr
    paren : Expr → Expr
    odd : Expr → Expr
    binary : Operator → Expr → Expr → Expr
    choice : Expr → Expr → Expr → Expr

  -- one expression or more
  pub data Exprs : Type 0 where
    last : Expr → Exprs
    more : Expr → Exprs → Exprs

-- a port: an output or an input, its range by the highest bit, its name
pub record VPort : Type 0 where
  pub is_output : Bool
  pub high : Option Numeral
  pub name : Name

-- a nonblocking assignment
pub record Load : Type 0 where
  pub target : Name
  pub value : Expr

-- what an `always` block does where its clock rises; with an asynchronous reset it has a second event, the rise of a name,
-- and of its two loads the first one is made where that name is 1 (9.7.2, 9.7.3: event control, event `or`)
pub data Block : Type 0 where
  load : Load → Block
  if_load : Expr → Load → Block
  if_else : Expr → Load → Load → Block
  if_else_if : Expr → Load → Expr → Load → Block
  async_reset : Name → Load → Load → Block

-- a connection of an instance: a port of its module, and what is joined to it
pub record Connection : Type 0 where
  pub port : Name
  pub value : Expr

pub data Item : Type 0 where
  wire reg : Option Numeral → Name → Item
  assign : Name → Expr → Item
  always : Name → Block → Item
  instance : Name → Name → List Connection → Item

pub record VModule : Type 0 where
  pub name : Name
  pub ports : List VPort
  pub items : List Item

abbrev pub Tree : Type 0
Tree = List VModule
