-- What a tree must meet beside its grammar: names declared once and before use (IEEE 1364-2005, 12.7: scope rules),
-- selects in range and on ranges (5.2.1), one driver for each net and output, nonzero literal divisors, clocks and
-- asynchronous resets that come from the inputs at the top, no module within itself.
use Rattle.std.specs.Prelude.{ℕ, zero, suc, ◌+◌, ◌%◌, ◌^◌, Bool, true, false, cond, not, ◌&&◌, ◌||◌, ◌==◌, nat_lt, nat_le, List, [], ◌∷◌, ◌++◌, length, map, Option, Some, None, is_some}
use Rattle.hw_model.specs.Types.{Name}
use Rattle.hw_model.specs.Design.{same_name}
use Rattle.verilog_model.specs.Tokens.{is_name_start, is_name_byte}
use Rattle.verilog_model.specs.Numerals.{decimal_number, hex_number, is_decimal, is_hex, all_bytes}
use Rattle.verilog_model.specs.Reserved.{reserved_words}
use Rattle.verilog_model.specs.Tree.{Numeral, Operator, Expr, Exprs, VPort, Load, Block, Connection, Item, VModule, Tree}
use Rattle.verilog_model.specs.Tree.Operator.{over, modulo}
use Rattle.verilog_model.specs.Tree.Expr.{name, bit_select, part_select, literal, joined, repeated, as_signed, as_unsigned, paren, odd, binary, choice}
use Rattle.verilog_model.specs.Tree.Exprs.{last, more}
use Rattle.verilog_model.specs.Tree.Block.{load, if_load, if_else, if_else_if, async_reset}
use Rattle.verilog_model.specs.Tree.Item.{wire, reg, assign, always, instance}
use Rattle.verilog_model.specs.Hierarchy.{first_some, when, find_vmodule, find_port, find_connection, vports_of, block_target, is_name}

-- ---- names

abbrev pub contains_name : Name → List Name → Bool
contains_name n [] = false
contains_name n (m ∷ ms) = same_name m n || contains_name n ms

abbrev pub starts_name : Name → Bool
starts_name [] = false
starts_name (b ∷ bs) = is_name_start b

-- a simple identifier that is no reserved word (3.7)
abbrev pub is_identifier : Name → Bool
is_identifier n = starts_name n && (all_bytes is_name_byte n && not (contains_name n reserved_words))

-- no name is a later one
abbrev pub are_distinct : List Name → Bool
are_distinct [] = true
are_distinct (n ∷ ns) = not (contains_name n ns) && are_distinct ns

abbrev pub all_identifiers : List Name → Bool
all_identifiers [] = true
all_identifiers (n ∷ ns) = is_identifier n && all_identifiers ns

-- ---- what is declared so far

-- a thing that a module declares
pub data Role : Type 0 where
  input_port output_port net variable block_name : Role

pub record Declared : Type 0 where
  pub name : Name
  pub role : Role
  pub high : Option Numeral

abbrev pub find_declared : List Declared → Name → Option Declared
find_declared ds n = first_some (λ (d : Declared). when (same_name d.name n) d) ds

-- whether values may be read from it, and whether an assignment or an output may drive it
abbrev pub can_read : Role → Bool
can_read block_name = false
can_read _ = true

abbrev pub can_assign : Role → Bool
can_assign output_port = true
can_assign net = true
can_assign _ = false

abbrev pub is_variable : Role → Bool
is_variable variable = true
is_variable _ = false

abbrev pub is_input : Role → Bool
is_input input_port = true
is_input _ = false

abbrev pub has_role : (Role → Bool) → Option Declared → Bool
has_role p None = false
has_role p (Some d) = p d.role

-- ---- expressions

abbrev pub within : Option Numeral → ℕ → Bool
within None k = false
within (Some h) k = nat_le k (decimal_number h)

abbrev pub has_bit : Option Declared → ℕ → Bool
has_bit None k = false
has_bit (Some d) k = can_read d.role && within d.high k

-- a literal that is not 0 in its width, to which it is cut (3.5.1)
abbrev pub is_divisor : Expr → Bool
is_divisor (literal w s h) = nat_lt 0 (hex_number h % 2 ^ decimal_number w)
is_divisor _ = false

abbrev pub divides : Operator → Bool
divides over = true
divides modulo = true
divides _ = false

module _ (known : List Declared) where
  abbrev mutual
    pub expr_checks : Expr → Bool
    expr_checks (name n) = has_role can_read (find_declared known n)
    expr_checks (bit_select n k) = is_decimal k && has_bit (find_declared known n) (decimal_number k)
    expr_checks (part_select n h l) = (is_decimal h && is_decimal l) && (nat_le (decimal_number l) (decimal_number h) && has_bit (find_declared known n) (decimal_number h))
    expr_checks (literal w s h) = (is_decimal w && is_hex h) && nat_lt 0 (decimal_number w)
    expr_checks (joined es) = exprs_check es
    expr_checks (repeated n es) = (is_decimal n && nat_lt 0 (decimal_number n)) && exprs_check es
    expr_checks (as_signed e) = expr_checks e
    expr_checks (as_unsigned e) = expr_checks e
    expr_checks (paren e) = expr_checks e
    expr_checks (odd e) = expr_checks e
    expr_checks (binary o a b) = (not (divides o) || is_divisor b) && (expr_checks a && expr_checks b)
    expr_checks (choice c a b) = expr_checks c && (expr_checks a && expr_checks b)

    pub exprs_check : Exprs → Bool
    exprs_check (last e) = expr_checks e
    exprs_check (more e es) = expr_checks e && exprs_check es

  -- ---- items, in order

  abbrev pub load_checks : Name → Load → Bool
  load_checks r l = same_name l.target r && expr_checks l.value

  -- each load of a block is of one variable, and the name of a second event is an input
  abbrev pub block_checks : Name → Block → Bool
  block_checks r (load l) = load_checks r l
  block_checks r (if_load c l) = expr_checks c && load_checks r l
  block_checks r (if_else c l m) = expr_checks c && (load_checks r l && load_checks r m)
  block_checks r (if_else_if c l e m) = (expr_checks c && load_checks r l) && (expr_checks e && load_checks r m)
  block_checks r (async_reset n l m) = has_role is_input (find_declared known n) && (load_checks r l && load_checks r m)

  abbrev pub joins_net : Expr → Bool
  joins_net (name n) = has_role can_assign (find_declared known n)
  joins_net _ = false

  -- an output port is joined to a net
  abbrev pub connection_checks : Option VPort → Expr → Bool
  connection_checks None e = false
  connection_checks (Some p) e = cond p.is_output (joins_net e) (expr_checks e)

  abbrev pub connections_check : List VPort → List Connection → Bool
  connections_check ports [] = true
  connections_check ports (c ∷ cs) = connection_checks (find_port ports c.port) c.value && connections_check ports cs

abbrev pub high_checks : Option Numeral → Bool
high_checks None = true
high_checks (Some h) = is_decimal h

-- each input is joined to something, and no port twice
abbrev pub joins_inputs : List VPort → List Connection → Bool
joins_inputs [] cs = true
joins_inputs (p ∷ ps) cs = (p.is_output || is_some (find_connection cs p.name)) && joins_inputs ps cs

abbrev pub ports_joined : List VPort → List Connection → Bool
ports_joined ports cs = joins_inputs ports cs && are_distinct (map (λ (c : Connection). c.port) cs)

-- an item after the things that are declared above it
abbrev pub item_checks : Tree → List Declared → Item → Bool
item_checks t known (wire high n) = high_checks high
item_checks t known (reg high n) = high_checks high
item_checks t known (assign n e) = has_role can_assign (find_declared known n) && expr_checks known e
item_checks t known (always clock b) = has_role is_input (find_declared known clock) && (has_role is_variable (find_declared known (block_target b)) && block_checks known (block_target b) b)
item_checks t known (instance m u cs) = is_some (find_vmodule t m) && (connections_check known (vports_of (find_vmodule t m)) cs && ports_joined (vports_of (find_vmodule t m)) cs)

abbrev pub declared_by : Item → List Declared
declared_by (wire high n) = record { name = n; role = net; high = high } ∷ []
declared_by (reg high n) = record { name = n; role = variable; high = high } ∷ []
declared_by (instance m u cs) = record { name = u; role = block_name; high = None } ∷ []
declared_by _ = []

abbrev pub items_check : Tree → List Declared → List Item → Bool
items_check t known [] = true
items_check t known (i ∷ is) = item_checks t known i && items_check t (known ++ declared_by i) is

abbrev pub port_role : Bool → Role
port_role true = output_port
port_role false = input_port

abbrev pub declared_ports : List VPort → List Declared
declared_ports ps = map (λ (p : VPort). record { name = p.name; role = port_role p.is_output; high = p.high }) ps

abbrev pub declared_items : List Item → List Declared
declared_items [] = []
declared_items (i ∷ is) = declared_by i ++ declared_items is

abbrev pub declared_in : VModule → List Declared
declared_in m = declared_ports m.ports ++ declared_items m.items

-- ---- drivers

-- how many of the connections drive n
abbrev pub outputs_joined : Name → List VPort → List Connection → ℕ
outputs_joined n ports [] = 0
outputs_joined n ports (c ∷ cs) = cond (is_output_of (find_port ports c.port) && is_name n c.value) (suc (outputs_joined n ports cs)) (outputs_joined n ports cs) where
  is_output_of : Option VPort → Bool
  is_output_of None = false
  is_output_of (Some p) = p.is_output

-- how many times an item drives n
abbrev pub drivers_of : Tree → Name → Item → ℕ
drivers_of t n (assign a e) = cond (same_name a n) 1 0
drivers_of t n (always clock b) = cond (same_name (block_target b) n) 1 0
drivers_of t n (instance m u cs) = outputs_joined n (vports_of (find_vmodule t m)) cs
drivers_of t n _ = 0

abbrev pub driver_count : Tree → Name → List Item → ℕ
driver_count t n [] = 0
driver_count t n (i ∷ is) = drivers_of t n i + driver_count t n is

-- how many drivers a thing has to have: inputs and instances none, all else one
abbrev pub drivers_due : Role → ℕ
drivers_due input_port = 0
drivers_due block_name = 0
drivers_due _ = 1

abbrev pub each_driven : Tree → List Item → List Declared → Bool
each_driven t items [] = true
each_driven t items (d ∷ ds) = driver_count t d.name items == drivers_due d.role && each_driven t items ds

-- ---- clocks

abbrev pub inner_clock : (Name → Name → Bool) → Name → Name → List Connection → Bool
inner_clock inner n m [] = false
inner_clock inner n m (c ∷ cs) = (inner m c.port && is_name n c.value) || inner_clock inner n m cs

-- whether n is the name of a block's second event
abbrev pub resets_by : Name → Block → Bool
resets_by n (async_reset r l m) = same_name r n
resets_by n _ = false

-- whether an item uses n as a clock, or as a second event, `inner` saying it of a port of the module of a name
abbrev pub uses_clock : (Name → Name → Bool) → Name → Item → Bool
uses_clock inner n (always clock b) = same_name clock n || resets_by n b
uses_clock inner n (instance m u cs) = inner_clock inner n m cs
uses_clock inner n _ = false

abbrev pub any_uses_clock : (Name → Name → Bool) → Name → List Item → Bool
any_uses_clock inner n [] = false
any_uses_clock inner n (i ∷ is) = uses_clock inner n i || any_uses_clock inner n is

abbrev pub clock_in : (Name → Name → Bool) → Name → Option VModule → Bool
clock_in inner n None = false
clock_in inner n (Some m) = any_uses_clock inner n m.items

-- whether a port of the module of a name is used as a clock, down to a depth of instances
abbrev pub is_clock : ℕ → Tree → Name → Name → Bool
is_clock zero t m n = false
is_clock (suc k) t m n = clock_in (is_clock k t) n (find_vmodule t m)

abbrev pub is_input_name : List VPort → Expr → Bool
is_input_name ports (name n) = is_input_port (find_port ports n) where
  is_input_port : Option VPort → Bool
  is_input_port None = false
  is_input_port (Some p) = not p.is_output
is_input_name ports _ = false

-- what is joined to a clock is an input port
abbrev pub clocks_joined : Tree → List VPort → Name → List Connection → Bool
clocks_joined t ports m [] = true
clocks_joined t ports m (c ∷ cs) = (not (is_clock (suc (length t)) t m c.port) || is_input_name ports c.value) && clocks_joined t ports m cs

abbrev pub clocks_check : Tree → List VPort → List Item → Bool
clocks_check t ports [] = true
clocks_check t ports (instance m u cs ∷ is) = clocks_joined t ports m cs && clocks_check t ports is
clocks_check t ports (_ ∷ is) = clocks_check t ports is

-- ---- modules within modules

abbrev pub instances_end : (Name → Bool) → List Item → Bool
instances_end ends [] = true
instances_end ends (instance m u cs ∷ is) = ends m && instances_end ends is
instances_end ends (_ ∷ is) = instances_end ends is

abbrev pub items_of : Option VModule → List Item
items_of None = []
items_of (Some m) = m.items

-- whether below the module of a name no instance is deeper than so many modules
abbrev pub ends_within : ℕ → Tree → Name → Bool
ends_within zero t n = false
ends_within (suc k) t n = instances_end (ends_within k t) (items_of (find_vmodule t n))

-- no module is within itself: below none is a depth of more modules than there are
abbrev pub nesting_checks : Tree → VModule → Bool
nesting_checks t m = instances_end (ends_within (length t) t) m.items

-- ---- modules

abbrev pub names_check : List Name → Bool
names_check ns = are_distinct ns && all_identifiers ns

abbrev pub ports_check : List VPort → Bool
ports_check [] = true
ports_check (p ∷ ps) = high_checks p.high && ports_check ps

abbrev pub module_checks : Tree → VModule → Bool
module_checks t m =
    (names_check (map (λ (d : Declared). d.name) (declared_in m)) && ports_check m.ports)
    && (items_check t (declared_ports m.ports) m.items && (each_driven t m.items (declared_in m) && (clocks_check t m.ports m.items && nesting_checks t m)))

abbrev pub modules_check : Tree → List VModule → Bool
modules_check t [] = true
modules_check t (m ∷ ms) = module_checks t m && modules_check t ms

abbrev pub tree_checks : Tree → Bool
tree_checks t = names_check (map (λ (m : VModule). m.name) t) && modules_check t t
