-- The names and numerals of an exported tree are words.
use Rattle.std.proofs.Common.{◌≡◌, ℕ, ◌+◌, ◌-◌, ◌<◌, ◌^◌, ◌==◌, Bool, true, false, cond, List, [], ◌∷◌, map, take, slice_get, decimal, Option, Some, None, refl, sym, ◌∙◌, ap, subst, inl, inr, zero-add, arith, option_map}
use Rattle.wiring.specs.Wiring.{In}
use Rattle.wiring.proofs.Members.{In-slice_get, position_of_In}
use Rattle.hw_model.specs.Types.{Name, HwType, width}
use Rattle.hw_model.specs.Design.{Ref, Port, OpResult, Op, Module, Design, find_module, instance_in, result_type, output_refs, register_form, is_output_kind}
use Rattle.hw_model.specs.Design.Ref.{result}
use Rattle.hw_model.specs.Flat.{width_of, input_count, Register, ResetBy, register_in, async_reset_in}
use Rattle.hw_model.specs.Sound.{type_in, input_types, output_types}
use Rattle.verilog_model.specs.Tree.{VPort, Connection, Item}
use Rattle.verilog_model.specs.Tree.Expr.{name}
use Rattle.verilog_model.specs.Checks.{are_distinct, all_identifiers}
use Rattle.verilog_model.proofs.Numerals.{and_second}
use Rattle.verilog_model.specs.Digits.{high_of}
use Rattle.verilog_expr.specs.Expressions.{constant_expr}
use Rattle.verilog_expr.specs.Values.{gives_values}
use Rattle.verilog_expr.proofs.TextRead.{IsWord, IsSpellable}
use Rattle.verilog_expr.proofs.CheckedWords.{decimal_word}
use Rattle.verilog_expr.specs.declared.extending.Extending.{Extending}
use Rattle.lowering_options.specs.declared.lowering.Lowering.{Lowering}
use Rattle.export_verilog.specs.Lowerings.{load_place, own_place}
use Rattle.export_verilog.specs.Identifiers.{Identifier, emission_of, identifier_text, module_identifiers, value_name, name_or_nothing}
use Rattle.export_verilog.specs.Identifiers.Identifier.{port_identifier, value_identifier, instance_identifier}
use Rattle.export_verilog.specs.Identifiers.Emission.{as_wire, as_reg, as_instance}
use Rattle.export_verilog.specs.Exported.{expression, assigned_expr, symbol_names, symbol_name, block_of, module_block, loads, connections_of, connections_to, vport, vports, vitems, vmodule, tree_of}
use Rattle.export_verilog.proofs.text.TextRead.{IsHigh, IsSpellablePort, ArePorts, IsSpellableLoad, IsSpellableBlock, IsSpellableConnection, AreConnections, IsSpellableItem, AreItems, IsSpellableTree}
use Rattle.export_verilog.proofs.names.IdentifierNames.{text_named, name_is_identifier, identifier_among}
use Rattle.export_verilog.proofs.names.IdentifiersOf.{from_each, port_in, net_in, variable_in, instance_in_identifiers, result_in_identifiers, made_of_emission}
use Rattle.export_verilog.proofs.names.Symbols.{found_symbol, symbol_at, module_at_position}
use Rattle.export_verilog.proofs.items.Items.{output_count, expr_for, connection_of, from_connections, From, from_items}
use Rattle.export_verilog.proofs.items.Items.From.{net_wire, variable_reg, result_wire, net_assign, variable_block, an_instance, output_assign}
use Rattle.export_verilog.proofs.items.Registers.{AreOperands, async_reset_of, typed_register}
use Rattle.export_verilog.proofs.items.Resets.{signal_port, value_of_reset, literal_own}
use Rattle.export_verilog.proofs.items.Settings.{Setting, Called, module_ok, module_sound, called_by, result_at_first}
use Rattle.export_verilog.proofs.items.Writable.{named_input}
use Rattle.export_verilog.proofs.checks.Known.{identifier_word, known_first, knows_first}
use Rattle.export_verilog.proofs.checks.Readable.{expression_well, assigned_well}
use Rattle.export_verilog.proofs.checks.Stated.{first_small, result_small, position_of_input, placed_in, result_there}
use Rattle.export_verilog.proofs.items.Drives.{position_of_output}

high_word : (w : ℕ) → w < 2 ^ 64 → IsHigh (high_of w)
high_word w small = go (w == 1) where
  go : (b : Bool) → IsHigh (cond b None (Some (decimal (w - 1))))
  go true = tt
  go false = decimal_word (w - 1) (omega (arith, small))

module _ (via : Lowering) (d : Design) (x : Setting d) where
  symbol_word : (s : Name) (m : Module) → find_module d s ≡ Some m → IsWord (symbol_name d s)
  symbol_word s m is = let at = found_symbol d s m is in
      subst (λ z. IsWord (symbol_name d z)) at.2
      (identifier_word (symbol_name d m.symbol) (identifier_among (symbol_names d) (symbol_name d m.symbol) (and_second (are_distinct (symbol_names d)) (all_identifiers (symbol_names d)) x.symbols.check)
      (In-slice_get (symbol_name d m.symbol) (symbol_names d) at.0 (symbol_at d x.ok x.symbols at.0 m at.1))))

  word_of_identifier : (s : Name) (m : Module) → find_module d s ≡ Some m → (k : Identifier) → In k (module_identifiers m) → IsWord (identifier_text m k)
  word_of_identifier s m is k here = identifier_word (identifier_text m k) (name_is_identifier m (x.names s m is) k (identifier_text m k) (text_named m (x.names s m is) k here))

  module _ (s : Name) (m : Module) (is : find_module d s ≡ Some m) where
    -- ---- ports

    ports_spelled : (ps : List VPort) → ((p : VPort) → In p ps → In p (vports m)) → ArePorts ps
    ports_spelled [] within = tt
    ports_spelled (p ∷ ps) within = (from_port (from_each (vport m) m.ports p (within p (inl refl))), ports_spelled ps (λ q h. within q (inr h))) where
      at_port : (j : ℕ) (q : Port) → slice_get m.ports j ≡ Some q → In p (vport m j q) → IsSpellablePort p
      at_port j q there (inl e) = subst IsSpellablePort (sym e) (record { name = word_of_identifier s m is (port_identifier j) (port_in m j q there); high = high_word (width q.type) ((module_ok d x s m is).narrow_ports j q there) })
      at_port j q there (inr never) = absurd never

      from_port : (j : ℕ) × (q : Port) × (slice_get m.ports j ≡ Some q) × In p (vport m j q) → IsSpellablePort p
      from_port e = at_port e.0 e.1 e.2 e.3

    -- ---- expressions

    written : (y : Extending) (r : Ref) (t : HwType) → type_in m.ports m.body r ≡ Some t → IsSpellable (expression m y r)
    written y r t typed = (expression_well via d x s m is (known_first m) (knows_first d x s m is) y r t typed).words

    -- ---- registers

    load_spelled : (i : ℕ) → In (value_identifier i 0) (module_identifiers m) → (r : Ref) (t : HwType) → type_in m.ports m.body r ≡ Some t
        → IsSpellableLoad (loads (identifier_text m (value_identifier i 0)) (expression m (load_place via) r))
    load_spelled i here r t typed = record { target = word_of_identifier s m is (value_identifier i 0) here; value = written (load_place via) r t typed }

    block_spelled : (i : ℕ) → In (value_identifier i 0) (module_identifiers m) → (t : HwType) (r : Register) → AreOperands (type_in m.ports m.body) t r
        → IsSpellableBlock (block_of (expression m (own_place via)) (expression m (load_place via)) (identifier_text m (value_identifier i 0)) r.next r.enable r.reset)
    block_spelled i here t r are = go r.enable r.reset refl refl where
      next : IsSpellableLoad (loads (identifier_text m (value_identifier i 0)) (expression m (load_place via) r.next))
      next = load_spelled i here r.next t are.next

      go : (e : Option Ref) (b : Option ResetBy) → r.enable ≡ e → r.reset ≡ b → IsSpellableBlock (block_of (expression m (own_place via)) (expression m (load_place via)) (identifier_text m (value_identifier i 0)) r.next e b)
      go None None u v = next
      go (Some e) None u v = (written (own_place via) e _ (are.enable e u), next)
      go None (Some b) u v = (written (own_place via) b.signal _ (are.signal b v), (load_spelled i here b.value t (are.value b v), next))
      go (Some e) (Some b) u v = (written (own_place via) b.signal _ (are.signal b v), (load_spelled i here b.value t (are.value b v), (written (own_place via) e _ (are.enable e u), next)))

    -- a register's block, whose second event, if it has one, is the rise of a port
    any_spelled : (i : ℕ) (o : Op) → In (value_identifier i 0) (module_identifiers m) → (t : HwType) (r : Register) (a : Option ResetBy) → In o m.body → register_in o ≡ Some r → async_reset_in o ≡ a
        → AreOperands (type_in m.ports m.body) t r → IsSpellableBlock (module_block via m (identifier_text m (value_identifier i 0)) r a)
    any_spelled i o here t r None within is_register_of at are = block_spelled i here t r are
    any_spelled i o here t r (Some b) within is_register_of at are =
        let p = signal_port via d x s m is o b within at in
        let v = value_of_reset via d x s m is o b within at t (are.value b (async_reset_of o b at r is_register_of)) in
        let literal : IsSpellable (constant_expr m.ports m.body b.value) =
        subst IsSpellable (sym (literal_own via d x s m is b.value t v)) (assigned_well via d x s m is (known_first m) (knows_first d x s m is) v.position 0 v.op t v.there v.gives v.typed).words in (
          subst IsWord (sym p.called) (word_of_identifier s m is (port_identifier p.number) (port_in m p.number p.port_of p.there)),
          (record { target = word_of_identifier s m is (value_identifier i 0) here; value = literal }, load_spelled i here r.next t are.next),
        )

    register_spelled : (i : ℕ) (o : Op) (r : Register) → slice_get m.body i ≡ Some o → emission_of m.ports m.body i o ≡ as_reg → register_in o ≡ Some r
        → IsWord (name_or_nothing (value_name m r.clock)) × IsSpellableBlock (module_block via m (identifier_text m (value_identifier i 0)) r (async_reset_in o))
    register_spelled i o r there emission at =
        let first = result_at_first d x s m is i o there (inr emission) in
        let typed = typed_register d x s m is i o there emission first.0.type (ap (option_map (λ (z : OpResult). z.type)) first.1) in
        let e : Some typed.0 ≡ Some r = sym typed.1 ∙ at in
        let f : typed.0 ≡ r = cc in
        let c = ((module_ok d x s m is).ops i o there).clocked r at in
        let clock_name : name_or_nothing (value_name m r.clock) ≡ identifier_text m (port_identifier c.number) = ap (λ z. name_or_nothing (value_name m z)) c.is_port
        ∙ ap name_or_nothing (named_input d x s m is c.number c.clock c.there c.input) in (
          subst IsWord (sym clock_name) (word_of_identifier s m is (port_identifier c.number) (port_in m c.number c.clock c.there)),
          any_spelled i o (variable_in m i o there emission) first.0.type r (async_reset_in o) (In-slice_get o m.body i there) at refl (subst (AreOperands (type_in m.ports m.body) first.0.type) f typed.2),
        )

    -- ---- instances

    connection_spelled : (i : ℕ) (o : Op) → slice_get m.body i ≡ Some o → emission_of m.ports m.body i o ≡ as_instance → (c : Called d m o) → (j : ℕ) (p : Port) → slice_get c.module_of.ports j ≡ Some p
        → IsSpellableConnection (connection_of via c.module_of m i j 0 (take j c.module_of.ports) p o.operands)
    connection_spelled i o there emission c j p at = record { port = word_of_identifier c.kind.symbol c.module_of c.there (port_identifier j) (port_in c.module_of j p at); value = go p.is_output refl } where
      n : ℕ
      n = output_count (take j c.module_of.ports)

      go : (b : Bool) → p.is_output ≡ b → IsSpellable (cond b (name (identifier_text m (value_identifier i (0 + n)))) (expr_for (expression m (own_place via)) (slice_get o.operands (input_count (take j c.module_of.ports)))))
      go true out = let r = result_there via d x s m is (known_first m) (knows_first d x s m is) i o c j p at out in
          subst (λ a. IsWord (identifier_text m (value_identifier i a))) (sym (zero-add n)) (word_of_identifier s m is (value_identifier i n) (result_in_identifiers m i n o r.0 there emission r.1))
      go false out =
          let g = placed_in (type_in m.ports m.body) (λ (u : HwType). Some u) o.operands (input_types c.module_of.ports) (input_count (take j c.module_of.ports)) p.type c.inputs (position_of_input c.module_of.ports j p at out) in
          subst (λ z. IsSpellable (expr_for (expression m (own_place via)) z)) (sym g.1) (written (own_place via) g.0 p.type g.2)

    connections_spelled : (i : ℕ) (o : Op) → slice_get m.body i ≡ Some o → emission_of m.ports m.body i o ≡ as_instance → (c : Called d m o) → (es : List Connection)
        → ((e : Connection) → In e es → In e (connections_of via c.module_of m i 0 0 c.module_of.ports o.operands)) → AreConnections es
    connections_spelled i o there emission c [] within = tt
    connections_spelled i o there emission c (e ∷ es) within = (
      at_connection (from_connections via c.module_of m i 0 0 c.module_of.ports o.operands e
          (within e (inl refl))),
      connections_spelled i o there emission c es (λ f h. within f (inr h)),
    ) where
      at_connection : (n : ℕ) × (p : Port) × (slice_get c.module_of.ports n ≡ Some p) × (e ≡ connection_of via c.module_of m i (0 + n) 0 (take n c.module_of.ports) p o.operands) → IsSpellableConnection e
      at_connection h = subst IsSpellableConnection (sym (h.3 ∙ ap (λ a. connection_of via c.module_of m i a 0 (take h.0 c.module_of.ports) h.1 o.operands) (zero-add h.0))) (connection_spelled i o there emission c h.0 h.1 h.2)

    -- ---- items

    net_spelled : (i : ℕ) (o : Op) → slice_get m.body i ≡ Some o → emission_of m.ports m.body i o ≡ as_wire → IsSpellable (assigned_expr via m (result i 0))
    net_spelled i o there emission =
        let first = result_at_first d x s m is i o there (inl emission) in
        let sort = made_of_emission m.ports m.body i o emission in
        (assigned_well via d x s m is (known_first m) (knows_first d x s m is) i 0 o first.0.type there (values sort.0 sort.1 sort.2) (ap (option_map (λ (z : OpResult). z.type)) first.1)).words where
          values : register_form o.kind ≡ None → instance_in o.kind ≡ None → is_output_kind o.kind ≡ false → gives_values o ≡ true
          values r n u = simp (r, n, u) refl

    output_spelled : (j : ℕ) (p : Port) → slice_get m.ports j ≡ Some p → p.is_output ≡ true → IsSpellable (expr_for (expression m (load_place via)) (slice_get (output_refs m.body) (output_count (take j m.ports))))
    output_spelled j p there out =
        let g = placed_in (type_in m.ports m.body) (λ (u : HwType). Some u) (output_refs m.body) (output_types m.ports) (output_count (take j m.ports)) p.type ((module_sound d x s m is).outputs)
        (position_of_output m.ports j p there out).1 in
        subst (λ z. IsSpellable (expr_for (expression m (load_place via)) z)) (sym g.1) (written (load_place via) g.0 p.type g.2)

    item_spelled : (y : Item) → From via d m y → IsSpellableItem y
    item_spelled y (net_wire i o there emission same) = subst IsSpellableItem (sym same) (
      high_word (width_of (result_type o 0)) (first_small via d x s m is i o there),
      word_of_identifier s m is
          (value_identifier i 0) (net_in m i o there emission),
    )
    item_spelled y (variable_reg i o there emission same) = subst IsSpellableItem (sym same)
        (high_word (width_of (result_type o 0)) (first_small via d x s m is i o there), word_of_identifier s m is (value_identifier i 0) (variable_in m i o there emission))
    item_spelled y (result_wire i k o r there emission at same) = subst IsSpellableItem (sym same)
        (high_word (width r.type) (result_small via d x s m is i k o r there at), word_of_identifier s m is (value_identifier i k) (result_in_identifiers m i k o r there emission at))
    item_spelled y (net_assign i o there emission same) = subst IsSpellableItem (sym same) (word_of_identifier s m is (value_identifier i 0) (net_in m i o there emission), net_spelled i o there emission)
    item_spelled y (variable_block i o r there emission at same) = subst IsSpellableItem (sym same) (register_spelled i o r there emission at)
    item_spelled y (an_instance i o z there emission at same) =
        let c : Called d m o = called_by d x s m is i o there z at in
        subst IsSpellableItem (sym same) (
          symbol_word z.symbol c.module_of c.there,
          (
            word_of_identifier s m is (instance_identifier i) (instance_in_identifiers m i o there emission),
            subst (λ q. AreConnections (connections_to via q m i o)) (sym c.there) (connections_spelled i o there emission c (connections_of via c.module_of m i 0 0 c.module_of.ports o.operands) (λ e h. h)),
          ),
        )
    item_spelled y (output_assign j p there out same) = subst IsSpellableItem (sym same) (word_of_identifier s m is (port_identifier j) (port_in m j p there), output_spelled j p there out)

    items_spelled : (ys : List Item) → ((y : Item) → In y ys → From via d m y) → AreItems ys
    items_spelled [] from = tt
    items_spelled (y ∷ ys) from = (item_spelled y (from y (inl refl)), items_spelled ys (λ z h. from z (inr h)))

  modules_spelled : (ms : List Module) → ((m : Module) → In m ms → find_module d m.symbol ≡ Some m) → IsSpellableTree (map (vmodule via d) ms)
  modules_spelled [] found = tt
  modules_spelled (m ∷ ms) found = let is = found m (inl refl) in (
    record {
      name = symbol_word m.symbol m is;
      ports = ports_spelled m.symbol m is (vports m) (λ p h. h);
      items = items_spelled m.symbol m is (vitems via d m) (λ y h. from_items via d m y h);
    },
    modules_spelled ms (λ z h. found z (inr h)),
  )

  pub tree_is_spellable : IsSpellableTree (tree_of via d)
  tree_is_spellable = modules_spelled d (λ m h. let p = position_of_In m d h in module_at_position d x.ok p.0 m p.1)
