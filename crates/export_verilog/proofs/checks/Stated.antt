-- The statements of a module's tree meet the checks, after its declarations.
use Rattle.std.proofs.Common.{◌≡◌, ℕ, zero, suc, ◌+◌, ◌-◌, ◌<◌, ◌^◌, ◌==◌, Bool, true, false, cond, ◌&&◌, List, [], ◌∷◌, ◌++◌, map, take, slice_get, decimal, Option, Some, None, refl, sym, ◌∙◌, ap}
use Rattle.std.proofs.Common.{subst, inl, inr, zero-add, arith, append_assoc, append-nil, option_and_then, option_map}
use Rattle.wiring.specs.Wiring.{In}
use Rattle.wiring.proofs.Members.{In-slice_get}
use Rattle.hw_model.specs.Types.{Name, HwType, width}
use Rattle.hw_model.specs.Design.{Ref, Port, OpResult, Op, Module, Design, same_name, find_module, instance_in, result_type, output_refs, register_form, is_output_kind}
use Rattle.hw_model.specs.Design.Ref.{result}
use Rattle.hw_model.specs.Equality.{name_self}
use Rattle.hw_model.specs.Flat.{width_of, input_count, Register, ResetBy, register_in, async_reset_in}
use Rattle.hw_model.specs.Sound.{type_in, input_types, output_types}
use Rattle.verilog_model.specs.Tree.{Expr, Connection, Item, Tree}
use Rattle.verilog_model.specs.Tree.Expr.{name}
use Rattle.verilog_model.specs.Tree.Item.{assign}
use Rattle.verilog_model.specs.Hierarchy.{find_port, block_target}
use Rattle.verilog_model.specs.Checks.{Declared, find_declared, can_assign, is_variable, is_input, has_role, expr_checks, load_checks, block_checks, joins_net, connection_checks, connections_check}
use Rattle.verilog_model.specs.Checks.{high_checks, item_checks, declared_by, items_check, port_role, declared_items}
use Rattle.verilog_model.proofs.Numerals.{and_intro, is_decimal-decimal}
use Rattle.verilog_model.specs.Digits.{high_of}
use Rattle.verilog_expr.specs.Expressions.{constant_expr}
use Rattle.verilog_expr.specs.Values.{gives_values}
use Rattle.verilog_expr.specs.declared.extending.Extending.{Extending}
use Rattle.lowering_options.specs.declared.lowering.Lowering.{Lowering}
use Rattle.export_verilog.specs.Lowerings.{load_place, own_place}
use Rattle.export_verilog.specs.Identifiers.{Emission, each, emission_of, identifier_text, value_name, name_or_nothing}
use Rattle.export_verilog.specs.Identifiers.Identifier.{port_identifier, value_identifier}
use Rattle.export_verilog.specs.Identifiers.Emission.{inline, as_wire, as_reg, as_instance}
use Rattle.export_verilog.specs.Exported.{expression, assigned_expr, block_of, module_block, loads, vports, tree_of, declares, declared_as}
use Rattle.export_verilog.proofs.names.IdentifiersOf.{from_each, port_in, net_in, variable_in, result_in_identifiers, made_of_emission}
use Rattle.export_verilog.proofs.items.Items.{output_count, expr_for, connection_of, from_wires, block_at}
use Rattle.export_verilog.proofs.items.Lookups.{port_under, vport_at}
use Rattle.export_verilog.proofs.items.Drives.{position_of_output}
use Rattle.export_verilog.proofs.items.Registers.{AreOperands, async_reset_of, module_block_target, typed_register}
use Rattle.export_verilog.proofs.items.Resets.{signal_port, value_of_reset, literal_own}
use Rattle.export_verilog.proofs.items.Settings.{Setting, Called, module_ok, module_sound, result_at_first}
use Rattle.export_verilog.proofs.items.Writable.{named_input}
use Rattle.export_verilog.proofs.checks.Known.{result_emission, KnowsAll}
use Rattle.export_verilog.proofs.checks.Readable.{found_port, found_result, expression_well, assigned_well}

-- ---- ranges

pub high_decimal : (w : ℕ) → w < 2 ^ 64 → high_checks (high_of w) ≡ true
high_decimal w small = go (w == 1) where
  go : (b : Bool) → high_checks (cond b None (Some (decimal (w - 1)))) ≡ true
  go true = refl
  go false = is_decimal-decimal (w - 1) (omega (arith, small))

-- ---- inputs by number

pub position_of_input : (ps : List Port) (j : ℕ) (p : Port) → slice_get ps j ≡ Some p → p.is_output ≡ false → slice_get (input_types ps) (input_count (take j ps)) ≡ Some p.type
position_of_input [] j p is out = cc
position_of_input (x ∷ ps) zero p is out =
    let e : x ≡ p = cc in let way : x.is_output ≡ false = ap (λ (z : Port). z.is_output) e ∙ out in
    ap (λ b. slice_get (cond b (input_types ps) (x.type ∷ input_types ps)) 0) way ∙ ap (λ (z : Port). Some z.type) e
position_of_input (x ∷ ps) (suc j) p is out = go x.is_output (position_of_input ps j p is out) where
  go : (b : Bool) → slice_get (input_types ps) (input_count (take j ps)) ≡ Some p.type
      → slice_get (cond b (input_types ps) (x.type ∷ input_types ps)) (cond b (input_count (take j ps)) (suc (input_count (take j ps)))) ≡ Some p.type
  go true rest = rest
  go false rest = rest

-- what stands at a position of a list that maps to another one
pub placed_in : {A B C : Type 0} (f : A → C) (g : B → C) (xs : List A) (ys : List B) (n : ℕ) (b : B) → map f xs ≡ map g ys → slice_get ys n ≡ Some b → (a : A) × (slice_get xs n ≡ Some a) × (f a ≡ g b)
placed_in f g [] [] n b same at = cc
placed_in f g [] (y ∷ ys) n b same at = cc
placed_in f g (x ∷ xs) [] n b same at = cc
placed_in f g (x ∷ xs) (y ∷ ys) zero b same at = (x, refl, (let e : y ≡ b = cc in let h : f x ≡ g y = cc in h ∙ ap g e))
placed_in f g (x ∷ xs) (y ∷ ys) (suc n) b same at = let rest : map f xs ≡ map g ys = cc in placed_in f g xs ys n b rest at

-- ---- items in order

pub items_split : (t : Tree) (known : List Declared) (xs ys : List Item) → ((y : Item) (kn : List Declared) → In y xs → item_checks t kn y ≡ true)
    → items_check t (known ++ declared_items xs) ys ≡ true → items_check t known (xs ++ ys) ≡ true
items_split t known [] ys all rest = subst (λ k. items_check t k ys ≡ true) (append-nil known) rest
items_split t known (x ∷ xs) ys all rest =
    and_intro (item_checks t known x) (items_check t (known ++ declared_by x) (xs ++ ys)) (all x known (inl refl))
    (items_split t (known ++ declared_by x) xs ys (λ y kn h. all y kn (inr h))
    (subst (λ k. items_check t k ys ≡ true) (sym (append_assoc known (declared_by x) (declared_items xs))) rest))

module _ (via : Lowering) (d : Design) (x : Setting d) (s : Name) (m : Module) (is : find_module d s ≡ Some m) where
  abbrev pub t : Tree
  t = tree_of via d

  typed_first : (o : Op) (r : OpResult) → slice_get o.results 0 ≡ Some r → result_type o 0 ≡ Some r.type
  typed_first o r e = ap (option_map (λ (z : OpResult). z.type)) e

  pub result_small : (i k : ℕ) (o : Op) (r : OpResult) → slice_get m.body i ≡ Some o → slice_get o.results k ≡ Some r → width r.type < 2 ^ 64
  result_small i k o r there at =
      subst (λ z. width_of z < 2 ^ 64) (ap (λ z. option_and_then (λ (q : Op). result_type q k) z) there ∙ ap (option_map (λ (z : OpResult). z.type)) at) ((module_ok d x s m is).narrow (result i k))

  pub first_small : (i : ℕ) (o : Op) → slice_get m.body i ≡ Some o → width_of (result_type o 0) < 2 ^ 64
  first_small i o there = subst (λ z. width_of z < 2 ^ 64) (ap (λ z. option_and_then (λ (q : Op). result_type q 0) z) there) ((module_ok d x s m is).narrow (result i 0))

  -- a declaration meets the checks whatever is known
  pub declaration_checks : (y : Item) (kn : List Declared) → In y (each (declares m) 0 m.body) → item_checks t kn y ≡ true
  declaration_checks y kn here = let e = from_each (declares m) m.body y here in go e.0 e.1 e.2 (emission_of m.ports m.body e.0 e.1) refl e.3 where
    go : (i : ℕ) (o : Op) → slice_get m.body i ≡ Some o → (emission : Emission) → emission_of m.ports m.body i o ≡ emission → In y (declared_as m i o emission) → item_checks t kn y ≡ true
    go i o there inline emission h = absurd h
    go i o there as_wire emission (inl e) = ap (item_checks t kn) e ∙ high_decimal (width_of (result_type o 0)) (first_small i o there)
    go i o there as_wire emission (inr never) = absurd never
    go i o there as_reg emission (inl e) = ap (item_checks t kn) e ∙ high_decimal (width_of (result_type o 0)) (first_small i o there)
    go i o there as_reg emission (inr never) = absurd never
    go i o there as_instance emission h = let w = from_wires m i 0 o.results y h in
        ap (item_checks t kn) w.3 ∙ high_decimal (width w.1.type) (result_small i w.0 o w.1 there w.2)

  module _ (known : List Declared) (knows : KnowsAll d x s m is known) where
    good : (y : Extending) (r : Ref) (ty : HwType) → type_in m.ports m.body r ≡ Some ty → expr_checks known (expression m y r) ≡ true
    good y r ty typed = (expression_well via d x s m is known knows y r ty typed).checks

    -- ---- registers

    load_good : (q : Name) (r : Ref) (ty : HwType) → type_in m.ports m.body r ≡ Some ty → load_checks known q (loads q (expression m (load_place via) r)) ≡ true
    load_good q r ty typed = and_intro (same_name q q) (expr_checks known (expression m (load_place via) r)) (name_self q) (good (load_place via) r ty typed)

    block_good : (q : Name) (ty : HwType) (r : Register) → AreOperands (type_in m.ports m.body) ty r → block_checks known q (block_of (expression m (own_place via)) (expression m (load_place via)) q r.next r.enable r.reset) ≡ true
    block_good q ty r are = go r.enable r.reset refl refl where
      next_good : load_checks known q (loads q (expression m (load_place via) r.next)) ≡ true
      next_good = load_good q r.next ty are.next

      go : (e : Option Ref) (b : Option ResetBy) → r.enable ≡ e → r.reset ≡ b → block_checks known q (block_of (expression m (own_place via)) (expression m (load_place via)) q r.next e b) ≡ true
      go None None u v = next_good
      go (Some e) None u v = and_intro (expr_checks known (expression m (own_place via) e)) (load_checks known q (loads q (expression m (load_place via) r.next))) (good (own_place via) e _ (are.enable e u)) next_good
      go None (Some b) u v =
          and_intro (expr_checks known (expression m (own_place via) b.signal)) (load_checks known q (loads q (expression m (load_place via) b.value)) && load_checks known q
          (loads q (expression m (load_place via) r.next))) (good (own_place via) b.signal _ (are.signal b v))
          (and_intro (load_checks known q (loads q (expression m (load_place via) b.value))) (load_checks known q (loads q (expression m (load_place via) r.next))) (load_good q b.value ty (are.value b v)) next_good)
      go (Some e) (Some b) u v =
          and_intro (expr_checks known (expression m (own_place via) b.signal) && load_checks known q (loads q (expression m (load_place via) b.value)))
          (expr_checks known (expression m (own_place via) e) && load_checks known q (loads q (expression m (load_place via) r.next)))
          (and_intro (expr_checks known (expression m (own_place via) b.signal)) (load_checks known q (loads q (expression m (load_place via) b.value)))
          (good (own_place via) b.signal _ (are.signal b v)) (load_good q b.value ty (are.value b v)))
          (and_intro (expr_checks known (expression m (own_place via) e)) (load_checks known q (loads q (expression m (load_place via) r.next))) (good (own_place via) e _ (are.enable e u)) next_good)

    -- the literal of a reset's value, and the signal's name
    literal_good : (q : Name) (o : Op) (b : ResetBy) (ty : HwType) → In o m.body → async_reset_in o ≡ Some b → type_in m.ports m.body b.value ≡ Some ty
        → load_checks known q (loads q (constant_expr m.ports m.body b.value)) ≡ true
    literal_good q o b ty within at typed =
        let v = value_of_reset via d x s m is o b within at ty typed in
        and_intro (same_name q q) (expr_checks known (constant_expr m.ports m.body b.value)) (name_self q)
        (ap (expr_checks known) (literal_own via d x s m is b.value ty v) ∙ (assigned_well via d x s m is known knows v.position 0 v.op ty v.there v.gives v.typed).checks)

    signal_good : (o : Op) (b : ResetBy) → In o m.body → async_reset_in o ≡ Some b → has_role is_input (find_declared known (name_or_nothing (value_name m b.signal))) ≡ true
    signal_good o b within at =
        let p = signal_port via d x s m is o b within at in
        ap (λ n. has_role is_input (find_declared known n)) p.called ∙ ap (has_role is_input) (found_port via d x s m is known knows p.number p.port_of p.there) ∙ ap (λ z. is_input (port_role z)) p.input

    -- the block of a register that an asynchronous reset resets or not
    any_good : (q : Name) (o : Op) (ty : HwType) (r : Register) (a : Option ResetBy) → In o m.body → register_in o ≡ Some r → async_reset_in o ≡ a → AreOperands (type_in m.ports m.body) ty r
        → block_checks known q (module_block via m q r a) ≡ true
    any_good q o ty r None within is_register_of at are = block_good q ty r are
    any_good q o ty r (Some b) within is_register_of at are =
        and_intro (has_role is_input (find_declared known (name_or_nothing (value_name m b.signal))))
        (load_checks known q (loads q (constant_expr m.ports m.body b.value)) && load_checks known q (loads q (expression m (load_place via) r.next)))
        (signal_good o b within at)
        (and_intro (load_checks known q (loads q (constant_expr m.ports m.body b.value))) (load_checks known q (loads q (expression m (load_place via) r.next)))
        (literal_good q o b ty within at (are.value b (async_reset_of o b at r is_register_of))) (load_good q r.next ty are.next))

    pub register_good : (i : ℕ) (o : Op) (r : Register) → slice_get m.body i ≡ Some o → emission_of m.ports m.body i o ≡ as_reg → register_in o ≡ Some r → item_checks t known (block_at via m i o r) ≡ true
    register_good i o r there emission is_register_of =
        let first = result_at_first d x s m is i o there (inr emission) in
        let typed = typed_register d x s m is i o there emission first.0.type (typed_first o first.0 first.1) in
        let same : typed.0 ≡ r = (let e : Some typed.0 ≡ Some r = sym typed.1 ∙ is_register_of in let f : typed.0 ≡ r = cc in f) in
        let are : AreOperands (type_in m.ports m.body) first.0.type r = subst (AreOperands (type_in m.ports m.body) first.0.type) same typed.2 in
        let c = ((module_ok d x s m is).ops i o there).clocked r is_register_of in
        let clock_name : name_or_nothing (value_name m r.clock) ≡ identifier_text m (port_identifier c.number) = ap (λ z. name_or_nothing (value_name m z)) c.is_port
        ∙ ap name_or_nothing (named_input d x s m is c.number c.clock c.there c.input) in
        let q = identifier_text m (value_identifier i 0) in
        let b = module_block via m q r (async_reset_in o) in
        let target : block_target b ≡ q = module_block_target via m q r (async_reset_in o) in
        and_intro (has_role is_input (find_declared known (name_or_nothing (value_name m r.clock)))) (has_role is_variable (find_declared known (block_target b)) && block_checks known (block_target b) b)
        (ap (λ n. has_role is_input (find_declared known n)) clock_name ∙ ap (has_role is_input) (found_port via d x s m is known knows c.number c.clock c.there) ∙ ap (λ z. is_input (port_role z)) c.input)
        (and_intro (has_role is_variable (find_declared known (block_target b))) (block_checks known (block_target b) b)
        (ap (λ n. has_role is_variable (find_declared known n)) target ∙ ap (has_role is_variable)
        (found_result via d x s m is known knows i 0 o first.0 (variable_in m i o there emission) there first.1) ∙ ap (λ z. is_variable (result_emission z)) emission)
        (ap (λ n. block_checks known n b) target ∙ any_good q o first.0.type r (async_reset_in o) (In-slice_get o m.body i there) is_register_of refl are))

    -- ---- wires and outputs

    pub net_good : (i : ℕ) (o : Op) → slice_get m.body i ≡ Some o → emission_of m.ports m.body i o ≡ as_wire → item_checks t known (assign (identifier_text m (value_identifier i 0)) (assigned_expr via m (result i 0))) ≡ true
    net_good i o there emission =
        let first = result_at_first d x s m is i o there (inl emission) in
        let sort = made_of_emission m.ports m.body i o emission in
        and_intro (has_role can_assign (find_declared known (identifier_text m (value_identifier i 0)))) (expr_checks known (assigned_expr via m (result i 0)))
        (ap (has_role can_assign) (found_result via d x s m is known knows i 0 o first.0 (net_in m i o there emission) there first.1) ∙ ap (λ z. can_assign (result_emission z)) emission)
        ((assigned_well via d x s m is known knows i 0 o first.0.type there (values sort.0 sort.1 sort.2) (typed_first o first.0 first.1)).checks) where
          values : register_form o.kind ≡ None → instance_in o.kind ≡ None → is_output_kind o.kind ≡ false → gives_values o ≡ true
          values r n u = simp (r, n, u) refl

    pub output_good : (j : ℕ) (p : Port) → slice_get m.ports j ≡ Some p → p.is_output ≡ true
        → item_checks t known (assign (identifier_text m (port_identifier j)) (expr_for (expression m (load_place via)) (slice_get (output_refs m.body) (output_count (take j m.ports))))) ≡ true
    output_good j p there out =
        let at = position_of_output m.ports j p there out in
        let g = placed_in (type_in m.ports m.body) (λ (u : HwType). Some u) (output_refs m.body) (output_types m.ports) (output_count (take j m.ports)) p.type ((module_sound d x s m is).outputs) at.1 in
        and_intro (has_role can_assign (find_declared known (identifier_text m (port_identifier j)))) (expr_checks known (expr_for (expression m (load_place via)) (slice_get (output_refs m.body) (output_count (take j m.ports)))))
        (ap (has_role can_assign) (found_port via d x s m is known knows j p there) ∙ ap (λ z. can_assign (port_role z)) out)
        (ap (λ z. expr_checks known (expr_for (expression m (load_place via)) z)) g.1 ∙ good (load_place via) g.0 p.type g.2)

    -- ---- instances

    pub result_there : (i : ℕ) (o : Op) (c : Called d m o) (j : ℕ) (p : Port) → slice_get c.module_of.ports j ≡ Some p → p.is_output ≡ true
        → (r : OpResult) × (slice_get o.results (output_count (take j c.module_of.ports)) ≡ Some r)
    result_there i o c j p there out =
        let at = position_of_output c.module_of.ports j p there out in
        let g = placed_in (λ (r : OpResult). r.type) (λ (u : HwType). u) o.results (output_types c.module_of.ports) (output_count (take j c.module_of.ports)) p.type (c.outputs ∙ sym (map_same (output_types c.module_of.ports))) at.1 in
        (g.0, g.1) where
          map_same : (us : List HwType) → map (λ (u : HwType). u) us ≡ us
          map_same [] = refl
          map_same (u ∷ us) = ap (λ z. u ∷ z) (map_same us)

    pub connection_good : (i : ℕ) (o : Op) → slice_get m.body i ≡ Some o → emission_of m.ports m.body i o ≡ as_instance → (c : Called d m o) → (j : ℕ) (p : Port) → slice_get c.module_of.ports j ≡ Some p
        → (e : Connection) → e ≡ connection_of via c.module_of m i j 0 (take j c.module_of.ports) p o.operands
        → connection_checks known (find_port (vports c.module_of) e.port) e.value ≡ true
    connection_good i o there emission c j p at e same =
        ap (λ (z : Connection). connection_checks known (find_port (vports c.module_of) z.port) z.value) same
        ∙ ap (λ z. connection_checks known z (connection_of via c.module_of m i j 0 (take j c.module_of.ports) p o.operands).value)
        (port_under c.module_of (x.names c.kind.symbol c.module_of c.there) (port_identifier j) (port_in c.module_of j p at) ∙ ap (option_map (vport_at c.module_of j)) at)
        ∙ go p.is_output refl where
          n : ℕ
          n = output_count (take j c.module_of.ports)

          value_at : Bool → Expr
          value_at b = cond b (name (identifier_text m (value_identifier i (0 + n)))) (expr_for (expression m (own_place via)) (slice_get o.operands (input_count (take j c.module_of.ports))))

          go : (b : Bool) → p.is_output ≡ b → cond b (joins_net known (value_at b)) (expr_checks known (value_at b)) ≡ true
          go true out = let r = result_there i o c j p at out in
              ap (λ a. has_role can_assign (find_declared known (identifier_text m (value_identifier i a)))) (zero-add n)
              ∙ ap (has_role can_assign) (found_result via d x s m is known knows i n o r.0 (result_in_identifiers m i n o r.0 there emission r.1) there r.1) ∙ ap (λ z. can_assign (result_emission z)) emission
          go false out =
              let g = placed_in (type_in m.ports m.body) (λ (u : HwType). Some u) o.operands (input_types c.module_of.ports) (input_count (take j c.module_of.ports)) p.type c.inputs (position_of_input c.module_of.ports j p at out) in
              ap (λ z. expr_checks known (expr_for (expression m (own_place via)) z)) g.1 ∙ good (own_place via) g.0 p.type g.2

    pub all_connections : (i : ℕ) (o : Op) → slice_get m.body i ≡ Some o → emission_of m.ports m.body i o ≡ as_instance → (c : Called d m o) → (cs : List Connection)
        → ((e : Connection) → In e cs → connection_checks known (find_port (vports c.module_of) e.port) e.value ≡ true) → connections_check known (vports c.module_of) cs ≡ true
    all_connections i o there emission c [] all = refl
    all_connections i o there emission c (e ∷ cs) all =
        and_intro (connection_checks known (find_port (vports c.module_of) e.port) e.value) (connections_check known (vports c.module_of) cs) (all e (inl refl)) (all_connections i o there emission c cs (λ f h. all f (inr h)))
