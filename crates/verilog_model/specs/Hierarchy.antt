-- The modules of a tree, their names and widths, and the flattened tree (IEEE 1364-2005, 12.1 and 12.3: hierarchy and
-- ports): what drives each name of each instance. A connection of a port is an assignment (12.3.9.2).
use Rattle.std.specs.Prelude.{ℕ, zero, suc, ◌+◌, Bool, true, false, cond, List, [], ◌∷◌, ◌++◌, length, Option, Some, None, option_and_then}
use Rattle.hw_model.specs.Types.{Name}
use Rattle.hw_model.specs.Design.{same_name}
use Rattle.verilog_model.specs.Numerals.{decimal_number}
use Rattle.verilog_model.specs.Tree.{Numeral, Expr, VPort, Block, Connection, Item, VModule, Tree}
use Rattle.verilog_model.specs.Tree.Expr.{name}
use Rattle.verilog_model.specs.Tree.Block.{load, if_load, if_else, if_else_if, async_reset}
use Rattle.verilog_model.specs.Tree.Item.{wire, reg, assign, always, instance}

-- ---- finding

abbrev pub or_else : {A : Type 0} → Option A → Option A → Option A
or_else None o = o
or_else (Some a) o = Some a

abbrev pub when : {A : Type 0} → Bool → A → Option A
when false a = None
when true a = Some a

-- what f gives of the first element of which it gives something
abbrev pub first_some : {A B : Type 0} → (A → Option B) → List A → Option B
first_some f [] = None
first_some f (x ∷ xs) = or_else (f x) (first_some f xs)

-- the module of a name
abbrev pub find_vmodule : Tree → Name → Option VModule
find_vmodule t n = first_some (λ (m : VModule). when (same_name m.name n) m) t

-- the port of a name
abbrev pub find_port : List VPort → Name → Option VPort
find_port ports n = first_some (λ (p : VPort). when (same_name p.name n) p) ports

-- the connection of a port
abbrev pub find_connection : List Connection → Name → Option Connection
find_connection cs n = first_some (λ (c : Connection). when (same_name c.port n) c) cs

-- an instance: the name of its module and its connections
pub record VInstance : Type 0 where
  pub module_name : Name
  pub connections : List Connection

abbrev pub instance_named : Name → Item → Option VInstance
instance_named u (instance m n cs) = when (same_name n u) (record { module_name = m; connections = cs })
instance_named u _ = None

abbrev pub find_instance : List Item → Name → Option VInstance
find_instance items u = first_some (instance_named u) items

-- ---- ranges and widths

abbrev pub item_range : Name → Item → Option (Option Numeral)
item_range n (wire high m) = when (same_name m n) high
item_range n (reg high m) = when (same_name m n) high
item_range n _ = None

-- the range of a name that a module declares
abbrev pub range_in : VModule → Name → Option (Option Numeral)
range_in m n = or_else (first_some (λ (p : VPort). when (same_name p.name n) p.high) m.ports) (first_some (item_range n) m.items)

abbrev pub range_width : Option Numeral → ℕ
range_width None = 1
range_width (Some h) = suc (decimal_number h)

abbrev pub width_of_range : Option (Option Numeral) → ℕ
width_of_range None = 0
width_of_range (Some r) = range_width r

-- the width of a name: 1 without a range
abbrev pub width_in : VModule → Name → ℕ
width_in m n = width_of_range (range_in m n)

abbrev pub width_at : Option VModule → Name → ℕ
width_at None n = 0
width_at (Some m) n = width_in m n

-- ---- positions

-- a path of instance names, the innermost first
abbrev pub VPath : Type 0
VPath = List Name

-- a name of the module at the end of a path
pub record VNet : Type 0 where
  pub path : VPath
  pub name : Name

abbrev pub vnet : VPath → Name → VNet
vnet q n = record { path = q; name = n }

abbrev pub vmodule_at : Tree → Name → VPath → Option VModule
vmodule_at t top [] = find_vmodule t top
vmodule_at t top (u ∷ q) = option_and_then (λ (m : VModule). option_and_then (λ (i : VInstance). find_vmodule t i.module_name) (find_instance m.items u)) (vmodule_at t top q)

-- ---- register content: the `always` blocks and the instances in text order

abbrev pub block_target : Block → Name
block_target (load l) = l.target
block_target (if_load c l) = l.target
block_target (if_else c l m) = l.target
block_target (if_else_if c l e m) = l.target
block_target (async_reset n l m) = l.target

-- how many bits of content an item of a module has, `inner` saying it of the module of a name
abbrev pub item_state : (Name → ℕ) → VModule → Item → ℕ
item_state inner m (always clock b) = width_in m (block_target b)
item_state inner m (instance c u cs) = inner c
item_state inner m _ = 0

abbrev pub items_state : (Name → ℕ) → VModule → List Item → ℕ
items_state inner m [] = 0
items_state inner m (i ∷ is) = item_state inner m i + items_state inner m is

abbrev pub vstate_of : (Name → ℕ) → Option VModule → ℕ
vstate_of inner None = 0
vstate_of inner (Some m) = items_state inner m m.items

abbrev pub vmodule_state : ℕ → Tree → Name → ℕ
vmodule_state zero t n = 0
vmodule_state (suc k) t n = vstate_of (vmodule_state k t) (find_vmodule t n)

-- the bits of content of the module of a name
abbrev pub vstate : Tree → Name → ℕ
vstate t n = vmodule_state (suc (length t)) t n

-- the items before the first that passes a test
abbrev pub until : (Item → Bool) → List Item → List Item
until p [] = []
until p (i ∷ is) = cond (p i) [] (i ∷ until p is)

abbrev pub is_instance_named : Name → Item → Bool
is_instance_named u (instance m n cs) = same_name n u
is_instance_named u _ = false

abbrev pub loads : Name → Item → Bool
loads n (always clock b) = same_name (block_target b) n
loads n _ = false

abbrev pub vstate_before : Tree → (Item → Bool) → Option VModule → ℕ
vstate_before t p None = 0
vstate_before t p (Some m) = items_state (vstate t) m (until p m.items)

-- where the content of the module at the end of a path begins
abbrev pub vbase : Tree → Name → VPath → ℕ
vbase t top [] = 0
vbase t top (u ∷ q) = vbase t top q + vstate_before t (is_instance_named u) (vmodule_at t top q)

-- ---- what drives a name

pub data Drive : Type 0 where
  nothing : Drive
  -- the inputs: from an offset on, so many bits
  input : ℕ → ℕ → Drive
  -- the register content: from an offset on, so many bits
  held : ℕ → ℕ → Drive
  -- an assignment of an expression over the names at the end of a path
  expression : VPath → Expr → Drive
  -- an assignment of another net
  net : VNet → Drive

-- how many bits the inputs before a port have
abbrev pub input_width_before : Name → List VPort → ℕ
input_width_before n [] = 0
input_width_before n (p ∷ ps) = cond (same_name p.name n) 0 (cond p.is_output (input_width_before n ps) (range_width p.high + input_width_before n ps))

abbrev pub drive_of_connection : VPath → Option Connection → Drive
drive_of_connection q None = nothing
drive_of_connection q (Some c) = expression q c.value

abbrev pub connection_drive : VPath → Name → Option VInstance → Drive
connection_drive q n None = nothing
connection_drive q n (Some i) = drive_of_connection q (find_connection i.connections n)

-- an input port: at the top its bits of the inputs, in an instance what the instance joins to it
abbrev pub input_drive : Tree → Name → VPath → VModule → VPort → Drive
input_drive t top [] m p = input (input_width_before p.name m.ports) (range_width p.high)
input_drive t top (u ∷ q) m p = connection_drive q p.name (option_and_then (λ (o : VModule). find_instance o.items u) (vmodule_at t top q))

-- whether the expression is that name alone
abbrev pub is_name : Name → Expr → Bool
is_name n (name m) = same_name m n
is_name n _ = false

-- the output of an instance that a connection joins to n
abbrev pub joined_output : VPath → Name → Name → List VPort → Connection → Option Drive
joined_output q u n ports c = option_and_then (λ (p : VPort). cond p.is_output (when (is_name n c.value) (net (vnet (u ∷ q) p.name))) None) (find_port ports c.port)

abbrev pub vports_of : Option VModule → List VPort
vports_of None = []
vports_of (Some m) = m.ports

-- what an item of the module at the end of a path drives n with
abbrev pub item_drive : Tree → Name → VPath → VModule → Name → Item → Option Drive
item_drive t top q m n (assign a e) = when (same_name a n) (expression q e)
item_drive t top q m n (always clock b) = when (same_name (block_target b) n) (held (vbase t top q + vstate_before t (loads n) (Some m)) (width_in m n))
item_drive t top q m n (instance c u cs) = first_some (joined_output q u n (vports_of (find_vmodule t c))) cs
item_drive t top q m n _ = None

abbrev pub drive_or_nothing : Option Drive → Drive
drive_or_nothing None = nothing
drive_or_nothing (Some d) = d

abbrev pub inner_drive : Tree → Name → VPath → VModule → Name → Drive
inner_drive t top q m n = drive_or_nothing (first_some (item_drive t top q m n) m.items)

abbrev pub drive_in : Tree → Name → VPath → VModule → Name → Option VPort → Drive
drive_in t top q m n None = inner_drive t top q m n
drive_in t top q m n (Some p) = cond p.is_output (inner_drive t top q m n) (input_drive t top q m p)

abbrev pub drive_at : Tree → Name → VPath → Name → Option VModule → Drive
drive_at t top q n None = nothing
drive_at t top q n (Some m) = drive_in t top q m n (find_port m.ports n)

-- what drives a net of the module `top`
abbrev pub drive : Tree → Name → VNet → Drive
drive t top v = drive_at t top v.path v.name (vmodule_at t top v.path)

-- ---- registers

pub record VSlot : Type 0 where
  pub path : VPath
  pub in_module : VModule
  pub clock : Name
  pub block : Block

abbrev pub item_registers : (VPath → Name → List VSlot) → VPath → VModule → Item → List VSlot
item_registers inner q m (always clock b) = record { path = q; in_module = m; clock = clock; block = b } ∷ []
item_registers inner q m (instance c u cs) = inner (u ∷ q) c
item_registers inner q m _ = []

abbrev pub items_registers : (VPath → Name → List VSlot) → VPath → VModule → List Item → List VSlot
items_registers inner q m [] = []
items_registers inner q m (i ∷ is) = item_registers inner q m i ++ items_registers inner q m is

abbrev pub vregisters_of : (VPath → Name → List VSlot) → VPath → Option VModule → List VSlot
vregisters_of inner q None = []
vregisters_of inner q (Some m) = items_registers inner q m m.items

abbrev pub vmodule_registers : ℕ → Tree → VPath → Name → List VSlot
vmodule_registers zero t q n = []
vmodule_registers (suc k) t q n = vregisters_of (vmodule_registers k t) q (find_vmodule t n)

abbrev pub vregisters : Tree → Name → List VSlot
vregisters t top = vmodule_registers (suc (length t)) t [] top
