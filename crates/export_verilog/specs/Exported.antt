-- The Verilog tree of a design (IEEE 1364-2005, 12.1: hierarchy; 6.1: continuous assignments; 9.2.2: nonblocking
-- assignments): for each module its ports, the declarations in the order of names, the statements in the order of the
-- body, and an assignment to each output port in order.
use Rattle.std.specs.Prelude.{ℕ, suc, cond, List, [], ◌∷◌, ◌++◌, map, Option, Some, None}
use Rattle.hw_model.specs.Types.{Name, width}
use Rattle.hw_model.specs.Kinds.{Instance}
use Rattle.hw_model.specs.Design.{Ref, Port, OpResult, Op, Module, Design, same_name, find_module, instance_in, result_type, output_refs}
use Rattle.hw_model.specs.Design.Ref.{result}
use Rattle.hw_model.specs.Flat.{width_of, Register, ResetBy, register_in, async_reset_in}
use Rattle.verilog_model.specs.Tree.{Expr, VPort, Load, Block, Connection, Item, VModule, Tree}
use Rattle.verilog_model.specs.Tree.Expr.{name}
use Rattle.verilog_model.specs.Tree.Block.{load, if_load, if_else, if_else_if, async_reset}
use Rattle.verilog_model.specs.Tree.Item.{wire, reg, assign, always, instance}
use Rattle.name_legalise.specs.Legal.{legal}
use Rattle.verilog_model.specs.Digits.{high_of}
use Rattle.verilog_expr.specs.Building.{no_expr}
use Rattle.verilog_expr.specs.Expressions.{expr_to, own_expr, constant_expr}
use Rattle.verilog_expr.specs.Spilling.{height_limit}
use Rattle.verilog_expr.specs.declared.extending.Extending.{Extending}
use Rattle.lowering_options.specs.declared.lowering.Lowering.{Lowering}
use Rattle.export_verilog.specs.Lowerings.{load_place, own_place}
use Rattle.export_verilog.specs.Identifiers.{Emission, each, emission_of, identifier_text, name_or_nothing, value_name}
use Rattle.export_verilog.specs.Identifiers.Identifier.{port_identifier, value_identifier, instance_identifier}
use Rattle.export_verilog.specs.Identifiers.Emission.{inline, as_wire, as_reg, as_instance}

-- ---- module names

unfoldable pub symbol_names : Design → List Name
symbol_names d = legal (map (λ (m : Module). m.symbol) d)

abbrev pub symbol_among : List Module → List Name → Name → Name
symbol_among (m ∷ ms) (n ∷ ns) s = cond (same_name m.symbol s) n (symbol_among ms ns s)
symbol_among _ _ s = []

-- the name of the module of a symbol
abbrev pub symbol_name : Design → Name → Name
symbol_name d s = symbol_among d (symbol_names d) s

-- ---- expressions

-- the expression of a value of a module: no expression is nested deeper than the limit of heights
abbrev pub expression : Module → Extending → Ref → Expr
expression m x r = expr_to (value_name m) m.ports m.body (suc height_limit) x r

-- what is assigned to a value's own name
abbrev pub assigned_expr : Lowering → Module → Ref → Expr
assigned_expr l m r = own_expr (value_name m) m.ports m.body (expression m) (load_place l) r

-- ---- ports

abbrev pub vport : Module → ℕ → Port → List VPort
vport m j p = record { is_output = p.is_output; high = high_of (width p.type); name = identifier_text m (port_identifier j) } ∷ []

abbrev pub vports : Module → List VPort
vports m = each (vport m) 0 m.ports

-- ---- declarations

abbrev pub result_wires : Module → ℕ → ℕ → List OpResult → List Item
result_wires m i k [] = []
result_wires m i k (r ∷ rs) = wire (high_of (width r.type)) (identifier_text m (value_identifier i k)) ∷ result_wires m i (suc k) rs

abbrev pub declared_as : Module → ℕ → Op → Emission → List Item
declared_as m i o inline = []
declared_as m i o as_wire = wire (high_of (width_of (result_type o 0))) (identifier_text m (value_identifier i 0)) ∷ []
declared_as m i o as_reg = reg (high_of (width_of (result_type o 0))) (identifier_text m (value_identifier i 0)) ∷ []
declared_as m i o as_instance = result_wires m i 0 o.results

abbrev pub declares : Module → ℕ → Op → List Item
declares m i o = declared_as m i o (emission_of m.ports m.body i o)

-- ---- registers

abbrev pub loads : Name → Expr → Load
loads q e = record { target = q; value = e }

-- conditions, and what is loaded; the reset is asked before the enable
abbrev pub block_of : (Ref → Expr) → (Ref → Expr) → Name → Ref → Option Ref → Option ResetBy → Block
block_of asked ex q next None None = load (loads q (ex next))
block_of asked ex q next (Some en) None = if_load (asked en) (loads q (ex next))
block_of asked ex q next None (Some r) = if_else (asked r.signal) (loads q (ex r.value)) (loads q (ex next))
block_of asked ex q next (Some en) (Some r) = if_else_if (asked r.signal) (loads q (ex r.value)) (asked en) (loads q (ex next))

-- the block of a register with an asynchronous reset: the reset's rise is a second event, and loads the reset's value, which
-- is always written as a literal (9.7.2, 9.7.3: event control, event `or`)
abbrev pub async_block : (Ref → Option Name) → (Ref → Expr) → (Ref → Expr) → Name → Ref → ResetBy → Block
async_block named ex literal q next r = async_reset (name_or_nothing (named r.signal)) (loads q (literal r.value)) (loads q (ex next))

-- the block of a register that an asynchronous reset resets or not
abbrev pub register_block : (Ref → Option Name) → (Ref → Expr) → (Ref → Expr) → (Ref → Expr) → Name → Register → Option ResetBy → Block
register_block named asked ex literal q g None = block_of asked ex q g.next g.enable g.reset
register_block named asked ex literal q g (Some r) = async_block named ex literal q g.next r

-- the same in a module
abbrev pub module_block : Lowering → Module → Name → Register → Option ResetBy → Block
module_block l m q g a = register_block (value_name m) (expression m (own_place l)) (expression m (load_place l)) (constant_expr m.ports m.body) q g a

abbrev pub always_of : Lowering → Module → Name → Option ResetBy → Option Register → List Item
always_of l m q a None = []
always_of l m q a (Some r) = always (name_or_nothing (value_name m r.clock)) (module_block l m q r a) ∷ []

-- ---- instances

abbrev pub expr_or_none : (Ref → Expr) → List Ref → Expr
expr_or_none ex [] = no_expr
expr_or_none ex (r ∷ rs) = ex r

abbrev pub others : {A : Type 0} → List A → List A
others [] = []
others (x ∷ xs) = xs

-- the connections of the ports from the j-th on of the module `c`, whose inputs are joined to the operands that are left,
-- and whose outputs to the results of operation i from the k-th on
abbrev pub connections_of : Lowering → Module → Module → ℕ → ℕ → ℕ → List Port → List Ref → List Connection
connections_of l c m i j k [] rs = []
connections_of l c m i j k (p ∷ ps) rs =
    cond p.is_output
    (record { port = identifier_text c (port_identifier j); value = name (identifier_text m (value_identifier i k)) } ∷ connections_of l c m i (suc j) (suc k) ps rs)
    (record { port = identifier_text c (port_identifier j); value = expr_or_none (expression m (own_place l)) rs } ∷ connections_of l c m i (suc j) k ps (others rs))

abbrev pub connections_to : Lowering → Option Module → Module → ℕ → Op → List Connection
connections_to l None m i o = []
connections_to l (Some c) m i o = connections_of l c m i 0 0 c.ports o.operands

abbrev pub instance_of : Lowering → Design → Module → ℕ → Op → Option Instance → List Item
instance_of l d m i o None = []
instance_of l d m i o (Some x) =
    instance (symbol_name d x.symbol) (identifier_text m (instance_identifier i)) (connections_to l (find_module d x.symbol) m i o) ∷ []

-- ---- statements

abbrev pub stated_as : Lowering → Design → Module → ℕ → Op → Emission → List Item
stated_as l d m i o inline = []
stated_as l d m i o as_wire = assign (identifier_text m (value_identifier i 0)) (assigned_expr l m (result i 0)) ∷ []
stated_as l d m i o as_reg = always_of l m (identifier_text m (value_identifier i 0)) (async_reset_in o) (register_in o)
stated_as l d m i o as_instance = instance_of l d m i o (instance_in o.kind)

abbrev pub states : Lowering → Design → Module → ℕ → Op → List Item
states l d m i o = stated_as l d m i o (emission_of m.ports m.body i o)

-- the assignments to the output ports from the j-th port on
abbrev pub output_assigns : Lowering → Module → ℕ → List Port → List Ref → List Item
output_assigns l m j [] rs = []
output_assigns l m j (p ∷ ps) rs =
    cond p.is_output
    (assign (identifier_text m (port_identifier j)) (expr_or_none (expression m (load_place l)) rs) ∷ output_assigns l m (suc j) ps (others rs))
    (output_assigns l m (suc j) ps rs)

-- ---- modules

abbrev pub vitems : Lowering → Design → Module → List Item
vitems l d m = each (declares m) 0 m.body ++ (each (states l d m) 0 m.body ++ output_assigns l m 0 m.ports (output_refs m.body))

abbrev pub vmodule : Lowering → Design → Module → VModule
vmodule l d m = record { name = symbol_name d m.symbol; ports = vports m; items = vitems l d m }

-- the tree of a design
abbrev pub tree_of : Lowering → Design → Tree
tree_of l d = map (vmodule l d) d
