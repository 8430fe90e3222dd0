-- The names and the items of a module depend on its ports and its body alone.
use Rattle.std.proofs.Common.{◌≡◌, ℕ, suc, Bool, cond, List, [], ◌∷◌, ◌++◌, map, slice_get, Option, Some, None, refl, ◌∙◌, ap, ap₂}
use Rattle.hw_model.specs.Types.{Name, width}
use Rattle.hw_model.specs.Kinds.{Instance}
use Rattle.hw_model.specs.Design.{Ref, Port, OpResult, Op, Entry, Location, Module, Design, find_module, instance_in, result_type, output_refs}
use Rattle.hw_model.specs.Design.Ref.{port, result, undefined}
use Rattle.hw_model.specs.Flat.{width_of, Register, ResetBy, register_in, async_reset_in}
use Rattle.verilog_model.specs.Tree.{Expr}
use Rattle.verilog_model.specs.Tree.Expr.{name}
use Rattle.verilog_model.specs.Tree.Block.{load, if_load, if_else, if_else_if, async_reset}
use Rattle.verilog_model.specs.Tree.Item.{wire, reg, assign, always, instance}
use Rattle.name_legalise.specs.Legal.{legal}
use Rattle.verilog_model.specs.Digits.{high_of}
use Rattle.verilog_expr.specs.Expressions.{constant_expr}
use Rattle.verilog_expr.specs.Spilling.{height_limit}
use Rattle.verilog_expr.specs.declared.extending.Extending.{Extending}
use Rattle.lowering_options.specs.declared.lowering.Lowering.{Lowering}
use Rattle.export_verilog.specs.Lowerings.{load_place, own_place}
use Rattle.export_verilog.specs.Identifiers.{Identifier, Emission, each, emission_of, name_hint, module_identifiers, names, name_among, identifier_name, identifier_text, name_or_nothing, input_name, value_name}
use Rattle.export_verilog.specs.Identifiers.Identifier.{port_identifier, value_identifier, instance_identifier}
use Rattle.export_verilog.specs.Identifiers.Emission.{inline, as_wire, as_reg, as_instance}
use Rattle.export_verilog.specs.Exported.{expression, assigned_expr, vport, vports, result_wires, declared_as, declares, loads, block_of, module_block, always_of, expr_or_none, others, connections_of}
use Rattle.export_verilog.specs.Exported.{connections_to, instance_of, stated_as, states, output_assigns, symbol_name, vitems}
use Rattle.export_verilog.specs.ModuleTexts.{module_under}
use Rattle.export_verilog.proofs.names.SameNames.{own_same, expr_same}

each_same : {A B : Type 0} (f g : ℕ → A → List B) → ((i : ℕ) (x : A) → f i x ≡ g i x) → (i : ℕ) (xs : List A) → each f i xs ≡ each g i xs
each_same f g same i [] = refl
each_same f g same i (x ∷ xs) = ap₂ (λ a b. a ++ b) (same i x) (each_same f g same (suc i) xs)

module _ (a b : Ref → Expr) (asked : (r : Ref) → a r ≡ b r) (f g : Ref → Expr) (same : (r : Ref) → f r ≡ g r) where
  block_same : (q p : Name) → q ≡ p → (next : Ref) (en : Option Ref) (r : Option ResetBy) → block_of a f q next en r ≡ block_of b g p next en r
  block_same q p e next None None = ap₂ (λ n x. load (loads n x)) e (same next)
  block_same q p e next (Some en) None = ap₂ (λ n x. if_load (a en) (loads n x)) e (same next) ∙ ap (λ c. if_load c (loads p (g next))) (asked en)
  block_same q p e next None (Some r) =
      ap₂ (λ n x. if_else (a r.signal) (loads n (f r.value)) (loads n x)) e (same next)
      ∙ ap₂ (λ c v. if_else c (loads p v) (loads p (g next))) (asked r.signal) (same r.value)
  block_same q p e next (Some en) (Some r) =
      ap₂ (λ n x. if_else_if (a r.signal) (loads n (f r.value)) (a en) (loads n x)) e (same next)
      ∙ ap₂ (λ c v. if_else_if c (loads p v) (a en) (loads p (g next))) (asked r.signal) (same r.value)
      ∙ ap (λ c. if_else_if (b r.signal) (loads p (g r.value)) c (loads p (g next))) (asked en)

module _ (f g : Ref → Expr) (same : (r : Ref) → f r ≡ g r) where
  first_same : (rs : List Ref) → expr_or_none f rs ≡ expr_or_none g rs
  first_same [] = refl
  first_same (r ∷ rs) = same r

module _ (via : Lowering) (m : Module) (symbol : Name) (is_private : Bool) (dictionary : List Entry) (location : Location) where
  -- a module of the same ports and the same body
  abbrev pub other : Module
  other = record { symbol = symbol; is_private = is_private; ports = m.ports; dictionary = dictionary; body = m.body; location = location }

  -- ---- names

  name_hint_same : (k : Identifier) → name_hint m k ≡ name_hint other k
  name_hint_same (port_identifier j) = refl
  name_hint_same (value_identifier i k) = refl
  name_hint_same (instance_identifier i) = refl

  name_hints_same : (ks : List Identifier) → map (name_hint m) ks ≡ map (name_hint other) ks
  name_hints_same [] = refl
  name_hints_same (k ∷ ks) = ap₂ (λ n ns. n ∷ ns) (name_hint_same k) (name_hints_same ks)

  names_same : names m ≡ names other
  unfolding names
  names_same = ap legal (name_hints_same (module_identifiers m))

  identifier_same : (k : Identifier) → identifier_name m k ≡ identifier_name other k
  identifier_same k = ap (λ ns. name_among (module_identifiers m) ns k) names_same

  text_same : (k : Identifier) → identifier_text m k ≡ identifier_text other k
  text_same k = ap name_or_nothing (identifier_same k)

  input_same : (j : ℕ) (p : Option Port) → input_name m j p ≡ input_name other j p
  input_same j None = refl
  input_same j (Some p) = ap (cond p.is_output None) (identifier_same (port_identifier j))

  named_same : (r : Ref) → value_name m r ≡ value_name other r
  named_same (port j) = input_same j (slice_get m.ports j)
  named_same (result i k) = identifier_same (value_identifier i k)
  named_same undefined = refl

  expression_same : (x : Extending) (r : Ref) → expression m x r ≡ expression other x r
  expression_same x r = expr_same (value_name m) (value_name other) m.ports m.body named_same (suc height_limit) x r

  assigned_same : (r : Ref) → assigned_expr via m r ≡ assigned_expr via other r
  assigned_same r = own_same (value_name m) (value_name other) m.ports m.body (expression m) (expression other) expression_same (load_place via) r

  -- ---- declarations

  wires_same : (i k : ℕ) (rs : List OpResult) → result_wires m i k rs ≡ result_wires other i k rs
  wires_same i k [] = refl
  wires_same i k (r ∷ rs) = ap₂ (λ n is. wire (high_of (width r.type)) n ∷ is) (text_same (value_identifier i k)) (wires_same i (suc k) rs)

  declared_same : (i : ℕ) (o : Op) (q : Emission) → declared_as m i o q ≡ declared_as other i o q
  declared_same i o inline = refl
  declared_same i o as_wire = ap (λ n. wire (high_of (width_of (result_type o 0))) n ∷ []) (text_same (value_identifier i 0))
  declared_same i o as_reg = ap (λ n. reg (high_of (width_of (result_type o 0))) n ∷ []) (text_same (value_identifier i 0))
  declared_same i o as_instance = wires_same i 0 o.results

  -- ---- statements

  module_block_same : (q p : Name) → q ≡ p → (r : Register) (a : Option ResetBy) → module_block via m q r a ≡ module_block via other p r a
  module_block_same q p e r None = block_same (expression m (own_place via)) (expression other (own_place via)) (expression_same (own_place via))
      (expression m (load_place via)) (expression other (load_place via)) (expression_same (load_place via)) q p e r.next r.enable r.reset
  module_block_same q p e r (Some b) =
      ap₂ (λ n z. async_reset n (loads z (constant_expr m.ports m.body b.value)) (loads z (expression m (load_place via) r.next))) (ap name_or_nothing (named_same b.signal)) e
      ∙ ap (λ x. async_reset (name_or_nothing (value_name other b.signal)) (loads p (constant_expr m.ports m.body b.value)) (loads p x)) (expression_same (load_place via) r.next)

  always_same : (q p : Name) → q ≡ p → (a : Option ResetBy) (r : Option Register) → always_of via m q a r ≡ always_of via other p a r
  always_same q p e a None = refl
  always_same q p e a (Some r) = ap₂ (λ c b. always c b ∷ []) (ap name_or_nothing (named_same r.clock)) (module_block_same q p e r a)

  operand_same : (x : Extending) (rs : List Ref) → expr_or_none (expression m x) rs ≡ expr_or_none (expression other x) rs
  operand_same x rs = first_same (expression m x) (expression other x) (expression_same x) rs

  connections_same : (c : Module) (i j k : ℕ) (ps : List Port) (rs : List Ref) → connections_of via c m i j k ps rs ≡ connections_of via c other i j k ps rs
  connections_same c i j k [] rs = refl
  connections_same c i j k (p ∷ ps) rs =
      ap₂ (cond p.is_output)
      (ap₂ (λ n cs. record { port = identifier_text c (port_identifier j); value = name n } ∷ cs) (text_same (value_identifier i k)) (connections_same c i (suc j) (suc k) ps rs))
      (ap₂ (λ e cs. record { port = identifier_text c (port_identifier j); value = e } ∷ cs) (operand_same (own_place via) rs) (connections_same c i (suc j) k ps (others rs)))

  joined_same : (c : Option Module) (i : ℕ) (o : Op) → connections_to via c m i o ≡ connections_to via c other i o
  joined_same None i o = refl
  joined_same (Some c) i o = connections_same c i 0 0 c.ports o.operands

  instance_same : (d : Design) (i : ℕ) (o : Op) (x : Option Instance) → instance_of via d m i o x ≡ instance_of via d other i o x
  instance_same d i o None = refl
  instance_same d i o (Some x) =
      ap₂ (λ n cs. instance (symbol_name d x.symbol) n cs ∷ []) (text_same (instance_identifier i)) (joined_same (find_module d x.symbol) i o)

  stated_same : (d : Design) (i : ℕ) (o : Op) (q : Emission) → stated_as via d m i o q ≡ stated_as via d other i o q
  stated_same d i o inline = refl
  stated_same d i o as_wire = ap₂ (λ n e. assign n e ∷ []) (text_same (value_identifier i 0)) (assigned_same (result i 0))
  stated_same d i o as_reg = always_same (identifier_text m (value_identifier i 0)) (identifier_text other (value_identifier i 0)) (text_same (value_identifier i 0)) (async_reset_in o) (register_in o)
  stated_same d i o as_instance = instance_same d i o (instance_in o.kind)

  outputs_same : (j : ℕ) (ps : List Port) (rs : List Ref) → output_assigns via m j ps rs ≡ output_assigns via other j ps rs
  outputs_same j [] rs = refl
  outputs_same j (p ∷ ps) rs =
      ap₂ (cond p.is_output)
      (ap₂ (λ n is. n ∷ is) (ap₂ assign (text_same (port_identifier j)) (operand_same (load_place via) rs)) (outputs_same (suc j) ps (others rs)))
      (outputs_same (suc j) ps rs)

  -- ---- modules

  items_same : (d : Design) → vitems via d m ≡ vitems via d other
  items_same d =
      ap₂ (λ a b. a ++ b) (each_same (declares m) (declares other) (λ i o. declared_same i o (emission_of m.ports m.body i o)) 0 m.body)
      (ap₂ (λ a b. a ++ b) (each_same (states via d m) (states via d other) (λ i o. stated_same d i o (emission_of m.ports m.body i o)) 0 m.body)
      (outputs_same 0 m.ports (output_refs m.body)))

  ports_same : vports m ≡ vports other
  ports_same =
      each_same (vport m) (vport other) (λ j p. ap (λ n. record { is_output = p.is_output; high = high_of (width p.type); name = n } ∷ []) (text_same (port_identifier j))) 0 m.ports

  pub under_same : (d : Design) (n : Name) → module_under via d n m ≡ module_under via d n other
  under_same d n = ap₂ (λ ps is. record { name = n; ports = ps; items = is }) ports_same (items_same d)
