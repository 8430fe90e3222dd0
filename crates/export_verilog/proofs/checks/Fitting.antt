-- The tree of any design keeps the precedence and association of the operators.
use Rattle.std.proofs.Common.{◌≡◌, ℕ, suc, Bool, true, false, ◌&&◌, cond, List, [], ◌∷◌, ◌++◌, map, Option, Some, None, refl}
use Rattle.hw_model.specs.Types.{Name}
use Rattle.hw_model.specs.Kinds.{Instance}
use Rattle.hw_model.specs.Design.{Ref, Port, OpResult, Op, Module, Design, find_module, instance_in, output_refs}
use Rattle.hw_model.specs.Design.Ref.{result}
use Rattle.hw_model.specs.Flat.{Register, ResetBy, register_in, async_reset_in}
use Rattle.hw_model.specs.Equality.{both_of}
use Rattle.verilog_model.specs.Tree.{Expr, Connection, Item}
use Rattle.verilog_model.specs.Tree.Expr.{name}
use Rattle.verilog_model.specs.Tree.Item.{assign, always}
use Rattle.verilog_model.specs.Grammar.{fits, item_fits, items_fit, connections_fit, tree_fits}
use Rattle.verilog_model.proofs.Numerals.{and_intro}
use Rattle.verilog_expr.specs.Spilling.{height_limit}
use Rattle.verilog_expr.proofs.Fit.{depth_fits, own_fits}
use Rattle.verilog_expr.specs.declared.extending.Extending.{Extending}
use Rattle.lowering_options.specs.declared.lowering.Lowering.{Lowering}
use Rattle.export_verilog.specs.Lowerings.{load_place, own_place}
use Rattle.export_verilog.specs.Identifiers.{Emission, each, emission_of, identifier_text, name_or_nothing, value_name}
use Rattle.export_verilog.specs.Identifiers.Identifier.{port_identifier, value_identifier}
use Rattle.export_verilog.specs.Identifiers.Emission.{inline, as_wire, as_reg, as_instance}
use Rattle.export_verilog.specs.Exported.{expression, assigned_expr, expr_or_none, others, result_wires, declared_as, declares, always_of, block_of, connections_of, connections_to, instance_of}
use Rattle.export_verilog.specs.Exported.{stated_as, states, output_assigns, vitems, vmodule, tree_of}

expression_fits : (m : Module) (x : Extending) (r : Ref) → fits (expression m x r) ≡ true
expression_fits m x r = depth_fits (value_name m) m.ports m.body (suc height_limit) x r

assigned_fits : (via : Lowering) (m : Module) (r : Ref) → fits (assigned_expr via m r) ≡ true
assigned_fits via m r = own_fits (value_name m) m.ports m.body (expression m) (expression_fits m) (load_place via) r

expr_fits : (m : Module) (x : Extending) (rs : List Ref) → fits (expr_or_none (expression m x) rs) ≡ true
expr_fits m x [] = refl
expr_fits m x (r ∷ rs) = expression_fits m x r

-- ---- lists of items

items_joined : (xs ys : List Item) → items_fit xs ≡ true → items_fit ys ≡ true → items_fit (xs ++ ys) ≡ true
items_joined [] ys a b = b
items_joined (x ∷ xs) ys a b = let h = both_of (item_fits x) (items_fit xs) a in and_intro (item_fits x) (items_fit (xs ++ ys)) h.0 (items_joined xs ys h.1 b)

each_fits : {A : Type 0} (f : ℕ → A → List Item) (i : ℕ) (xs : List A) → ((j : ℕ) (x : A) → items_fit (f j x) ≡ true) → items_fit (each f i xs) ≡ true
each_fits f i [] all = refl
each_fits f i (x ∷ xs) all = items_joined (f i x) (each f (suc i) xs) (all i x) (each_fits f (suc i) xs all)

-- ---- declarations and statements

wires_fit : (m : Module) (i k : ℕ) (rs : List OpResult) → items_fit (result_wires m i k rs) ≡ true
wires_fit m i k [] = refl
wires_fit m i k (r ∷ rs) = wires_fit m i (suc k) rs

declares_fit : (m : Module) (i : ℕ) (o : Op) → items_fit (declares m i o) ≡ true
declares_fit m i o = go (emission_of m.ports m.body i o) where
  go : (r : Emission) → items_fit (declared_as m i o r) ≡ true
  go inline = refl
  go as_wire = refl
  go as_reg = refl
  go as_instance = wires_fit m i 0 o.results

connections_fit_all : (via : Lowering) (c m : Module) (i j k : ℕ) (ps : List Port) (rs : List Ref) → connections_fit (connections_of via c m i j k ps rs) ≡ true
connections_fit_all via c m i j k [] rs = refl
connections_fit_all via c m i j k (p ∷ ps) rs =
    go p.is_output (connections_fit_all via c m i (suc j) (suc k) ps rs) (and_intro (fits (expr_or_none (expression m (own_place via)) rs)) (connections_fit (connections_of via c m i (suc j) k ps (others rs)))
    (expr_fits m (own_place via) rs) (connections_fit_all via c m i (suc j) k ps (others rs))) where
      head : Expr → Connection
      head e = record { port = identifier_text c (port_identifier j); value = e }

      go : (b : Bool) → connections_fit (connections_of via c m i (suc j) (suc k) ps rs) ≡ true
          → (fits (expr_or_none (expression m (own_place via)) rs) && connections_fit (connections_of via c m i (suc j) k ps (others rs))) ≡ true
          → connections_fit (cond b (head (name (identifier_text m (value_identifier i k))) ∷ connections_of via c m i (suc j) (suc k) ps rs)
          (head (expr_or_none (expression m (own_place via)) rs) ∷ connections_of via c m i (suc j) k ps (others rs))) ≡ true
      go true x y = x
      go false x y = y

always_fits : (via : Lowering) (m : Module) (q : Name) (a : Option ResetBy) (r : Option Register) → items_fit (always_of via m q a r) ≡ true
always_fits via m q a None = refl
always_fits via m q (Some b) (Some r) = rw (expression_fits m (load_place via) r.next) refl
always_fits via m q None (Some r) = go r.enable r.reset where
  ex : (x : Ref) → fits (expression m (load_place via) x) ≡ true
  ex x = expression_fits m (load_place via) x

  asked : (x : Ref) → fits (expression m (own_place via) x) ≡ true
  asked x = expression_fits m (own_place via) x

  all_of : Name → Option Ref → Option ResetBy → List Item
  all_of n e s = always n (block_of (expression m (own_place via)) (expression m (load_place via)) q r.next e s) ∷ []

  go : (e : Option Ref) (s : Option ResetBy) → items_fit (all_of (name_or_nothing (value_name m r.clock)) e s) ≡ true
  go None None = rw (ex r.next) refl
  go (Some e) None = rw (asked e, ex r.next) refl
  go None (Some s) = rw (asked s.signal, ex s.value, ex r.next) refl
  go (Some e) (Some s) = rw (asked s.signal, ex s.value, asked e, ex r.next) refl

instance_fits : (via : Lowering) (d : Design) (m : Module) (i : ℕ) (o : Op) (x : Option Instance) → items_fit (instance_of via d m i o x) ≡ true
instance_fits via d m i o None = refl
instance_fits via d m i o (Some x) = and_intro (connections_fit (connections_to via (find_module d x.symbol) m i o)) true (go (find_module d x.symbol)) refl where
  go : (c : Option Module) → connections_fit (connections_to via c m i o) ≡ true
  go None = refl
  go (Some c) = connections_fit_all via c m i 0 0 c.ports o.operands

states_fit : (via : Lowering) (d : Design) (m : Module) (i : ℕ) (o : Op) → items_fit (states via d m i o) ≡ true
states_fit via d m i o = go (emission_of m.ports m.body i o) where
  go : (r : Emission) → items_fit (stated_as via d m i o r) ≡ true
  go inline = refl
  go as_wire = and_intro (fits (assigned_expr via m (result i 0))) true (assigned_fits via m (result i 0)) refl
  go as_reg = always_fits via m (identifier_text m (value_identifier i 0)) (async_reset_in o) (register_in o)
  go as_instance = instance_fits via d m i o (instance_in o.kind)

outputs_fit : (via : Lowering) (m : Module) (j : ℕ) (ps : List Port) (rs : List Ref) → items_fit (output_assigns via m j ps rs) ≡ true
outputs_fit via m j [] rs = refl
outputs_fit via m j (p ∷ ps) rs =
    go p.is_output (and_intro (fits (expr_or_none (expression m (load_place via)) rs)) (items_fit (output_assigns via m (suc j) ps (others rs))) (expr_fits m (load_place via) rs)
    (outputs_fit via m (suc j) ps (others rs))) (outputs_fit via m (suc j) ps rs) where
      go : (b : Bool) → (fits (expr_or_none (expression m (load_place via)) rs) && items_fit (output_assigns via m (suc j) ps (others rs))) ≡ true → items_fit (output_assigns via m (suc j) ps rs) ≡ true
          → items_fit (cond b (assign (identifier_text m (port_identifier j)) (expr_or_none (expression m (load_place via)) rs) ∷ output_assigns via m (suc j) ps (others rs)) (output_assigns via m (suc j) ps rs)) ≡ true
      go true x y = x
      go false x y = y

-- ---- trees

module_fits : (via : Lowering) (d : Design) (m : Module) → items_fit (vitems via d m) ≡ true
module_fits via d m =
    items_joined (each (declares m) 0 m.body) (each (states via d m) 0 m.body ++ output_assigns via m 0 m.ports (output_refs m.body)) (each_fits (declares m) 0 m.body (declares_fit m))
    (items_joined (each (states via d m) 0 m.body) (output_assigns via m 0 m.ports (output_refs m.body)) (each_fits (states via d m) 0 m.body (states_fit via d m)) (outputs_fit via m 0 m.ports (output_refs m.body)))

modules_fit : (via : Lowering) (d ms : Design) → tree_fits (map (vmodule via d) ms) ≡ true
modules_fit via d [] = refl
modules_fit via d (m ∷ ms) = and_intro (items_fit (vitems via d m)) (tree_fits (map (vmodule via d) ms)) (module_fits via d m) (modules_fit via d ms)

pub tree_of_fits : (via : Lowering) (d : Design) → tree_fits (tree_of via d) ≡ true
tree_of_fits via d = modules_fit via d d
