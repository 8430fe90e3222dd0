-- The tree of an exportable design meets the checks.
use Rattle.std.proofs.Common.{◌≡◌, ℕ, suc, ◌+◌, ◌⊎◌, ◌==◌, Bool, true, false, ◌&&◌, List, [], ◌∷◌, map, length, slice_get, Some, None, refl, sym, ◌∙◌, ap, ap₂, subst, inl, inr, zero-add, eq-eqb, arith}
use Rattle.wiring.specs.Wiring.{In}
use Rattle.wiring.proofs.Members.{In-append_left, In-append_right, from_In-map, position_of_In}
use Rattle.hw_model.specs.Types.{Name, width}
use Rattle.hw_model.specs.Design.{Port, OpResult, Op, Module, Design, find_module, result_type}
use Rattle.hw_model.specs.Flat.{width_of}
use Rattle.verilog_model.specs.Tree.{VPort, Item, VModule}
use Rattle.verilog_model.specs.Tree.Item.{wire, reg}
use Rattle.verilog_model.specs.Checks.{Declared, declared_by, declared_ports, declared_items, declared_in, port_role, high_checks, names_check, ports_check, items_check, each_driven, driver_count}
use Rattle.verilog_model.specs.Checks.{drivers_due, clocks_check, nesting_checks, module_checks, modules_check, tree_checks}
use Rattle.verilog_model.specs.Checks.Role.{block_name}
use Rattle.verilog_model.proofs.Numerals.{and_intro}
use Rattle.verilog_model.specs.Digits.{high_of}
use Rattle.lowering_options.specs.declared.lowering.Lowering.{Lowering}
use Rattle.export_verilog.specs.Identifiers.{Identifier, each, emission_of, result_identifiers, identifier_text, module_identifiers}
use Rattle.export_verilog.specs.Identifiers.Identifier.{port_identifier, value_identifier, instance_identifier}
use Rattle.export_verilog.specs.Identifiers.Emission.{as_wire, as_reg, as_instance}
use Rattle.export_verilog.specs.Exported.{symbol_names, symbol_name, vport, vports, vitems, vmodule, tree_of}
use Rattle.export_verilog.proofs.items.Lists.{in_append}
use Rattle.export_verilog.proofs.names.IdentifiersOf.{from_each, into_each, results_in, port_in, net_in, variable_in, instance_in_identifiers, result_in_identifiers}
use Rattle.export_verilog.proofs.names.Symbols.{module_at_position, symbol_at}
use Rattle.export_verilog.proofs.items.Items.{From, from_items}
use Rattle.export_verilog.proofs.items.Items.From.{net_wire, variable_reg, result_wire, net_assign, variable_block, an_instance, output_assign}
use Rattle.export_verilog.proofs.items.Settings.{Setting, module_ok}
use Rattle.export_verilog.proofs.checks.Known.{in_declared_items}
use Rattle.export_verilog.proofs.checks.Stated.{high_decimal}
use Rattle.export_verilog.proofs.checks.Ordered.{items_are_checked}
use Rattle.export_verilog.proofs.checks.Declares.{op_wires, wire_identifiers, wire_kind, names_are_checked}
use Rattle.export_verilog.proofs.checks.Nesting.{nesting_is_checked}
use Rattle.export_verilog.proofs.checks.Clocks.{clocks_are_checked}
use Rattle.export_verilog.proofs.checks.Driven.{output_identifiers, output_among, among_output, driven_once, driven_never}

module _ (via : Lowering) (d : Design) (x : Setting d) (s : Name) (m : Module) (is : find_module d s ≡ Some m) where
  -- ---- ports

  ports_checked : (ps : List VPort) → ((p : VPort) → In p ps → In p (vports m)) → ports_check ps ≡ true
  ports_checked [] within = refl
  ports_checked (p ∷ ps) within =
      and_intro (high_checks p.high) (ports_check ps) (high_good (from_each (vport m) m.ports p (within p (inl refl)))) (ports_checked ps (λ q h. within q (inr h))) where
        at_port : (j : ℕ) (q : Port) → slice_get m.ports j ≡ Some q → In p (vport m j q) → high_checks p.high ≡ true
        at_port j q there (inl e) = ap (λ (z : VPort). high_checks z.high) e ∙ high_decimal (width q.type) ((module_ok d x s m is).narrow_ports j q there)
        at_port j q there (inr never) = absurd never

        high_good : (j : ℕ) × (q : Port) × (slice_get m.ports j ≡ Some q) × In p (vport m j q) → high_checks p.high ≡ true
        high_good e = at_port e.0 e.1 e.2 e.3

  -- ---- drivers

  Due : Declared → Type 0
  Due y = (driver_count (tree_of via d) y.name (vitems via d m) == drivers_due y.role) ≡ true

  wire_due : (k : Identifier) (here : In k (module_identifiers m)) (y : Declared) → In k (each (op_wires via m) 0 m.body) → y.name ≡ identifier_text m k → drivers_due y.role ≡ 1 → Due y
  unfolding Due
  wire_due k here y wired called due =
      eq-eqb (driver_count (tree_of via d) y.name (vitems via d m)) (drivers_due y.role)
      (ap (λ n. driver_count (tree_of via d) n (vitems via d m)) called
      ∙ driven_once via d x s m is k here (In-append_left k (each (op_wires via m) 0 m.body) (output_identifiers via d x s m is k here 0 m.ports) wired) ∙ sym due)

  of_port : (j : ℕ) (p : Port) → slice_get m.ports j ≡ Some p → (y : Declared) → y ≡ record { name = identifier_text m (port_identifier j); role = port_role p.is_output; high = high_of (width p.type) } → Due y
  unfolding Due
  of_port j p there y same = ap (λ (z : Declared). driver_count (tree_of via d) z.name (vitems via d m) == drivers_due z.role) same ∙ go p.is_output refl where
    k : Identifier
    k = port_identifier j

    here : In (port_identifier j) (module_identifiers m)
    here = port_in m j p there

    apart : (i l n : ℕ) → port_identifier n ≡ value_identifier i l → ⊥
    apart i l n e = cc

    go : (b : Bool) → p.is_output ≡ b → (driver_count (tree_of via d) (identifier_text m (port_identifier j)) (vitems via d m) == drivers_due (port_role b)) ≡ true
    go true out = eq-eqb (driver_count (tree_of via d) (identifier_text m (port_identifier j)) (vitems via d m)) 1
        (driven_once via d x s m is (port_identifier j) here (In-append_right (port_identifier j) (each (op_wires via m) 0 m.body) (output_identifiers via d x s m is (port_identifier j) here 0 m.ports)
        (subst (λ n. In (port_identifier n) (output_identifiers via d x s m is (port_identifier j) here 0 m.ports)) (zero-add j) (among_output via d x s m is (port_identifier j) here 0 m.ports j p there out))))
    go false out = eq-eqb (driver_count (tree_of via d) (identifier_text m (port_identifier j)) (vitems via d m)) 0
        (driven_never via d x s m is (port_identifier j) here (λ h. away (in_append (port_identifier j) (each (op_wires via m) 0 m.body) (output_identifiers via d x s m is (port_identifier j) here 0 m.ports) h))) where
          other : (n : ℕ) (q : Port) → slice_get m.ports n ≡ Some q → q.is_output ≡ true → port_identifier j ≡ port_identifier (0 + n) → ⊥
          other n q at way e =
              let f : j ≡ n = (let g : j ≡ 0 + n = cc in g ∙ zero-add n) in
              let g : Some q ≡ Some p = sym at ∙ ap (slice_get m.ports) (sym f) ∙ there in
              let h : q ≡ p = cc in
              let clash : true ≡ false = sym way ∙ ap (λ (z : Port). z.is_output) h ∙ out in cc

          away : In (port_identifier j) (each (op_wires via m) 0 m.body) ⊎ In (port_identifier j) (output_identifiers via d x s m is (port_identifier j) here 0 m.ports) → ⊥
          away (inl u) = let e = wire_kind via m (port_identifier j) u in apart e.0 e.1 j e.2
          away (inr u) = let e = output_among via d x s m is (port_identifier j) here 0 m.ports (port_identifier j) u in other e.0 e.1 e.2 e.3 e.4

  wired_net : (i : ℕ) (o : Op) → slice_get m.body i ≡ Some o → emission_of m.ports m.body i o ≡ as_wire → In (value_identifier i 0) (each (op_wires via m) 0 m.body)
  wired_net i o there emission = into_each (op_wires via m) m.body (value_identifier i 0) i o there (subst (λ r. In (value_identifier i 0) (wire_identifiers r i o)) (sym emission) (inl refl))

  wired_variable : (i : ℕ) (o : Op) → slice_get m.body i ≡ Some o → emission_of m.ports m.body i o ≡ as_reg → In (value_identifier i 0) (each (op_wires via m) 0 m.body)
  wired_variable i o there emission = into_each (op_wires via m) m.body (value_identifier i 0) i o there (subst (λ r. In (value_identifier i 0) (wire_identifiers r i o)) (sym emission) (inl refl))

  wired_result : (i k : ℕ) (o : Op) (r : OpResult) → slice_get m.body i ≡ Some o → emission_of m.ports m.body i o ≡ as_instance → slice_get o.results k ≡ Some r → In (value_identifier i k) (each (op_wires via m) 0 m.body)
  wired_result i k o r there emission at = into_each (op_wires via m) m.body (value_identifier i k) i o there
      (subst (λ q. In (value_identifier i k) (wire_identifiers q i o)) (sym emission) (subst (λ n. In (value_identifier i n) (result_identifiers i 0 o.results)) (zero-add k) (results_in i 0 o.results k r at)))

  of_item : (z : Item) → From via d m z → (y : Declared) → In y (declared_by z) → Due y
  unfolding Due
  of_item z (net_wire i o there emission same) y here = go (subst (λ q. In y (declared_by q)) same here) where
    go : In y (declared_by (wire (high_of (width_of (result_type o 0))) (identifier_text m (value_identifier i 0)))) → Due y
    go (inl e) = wire_due (value_identifier i 0) (net_in m i o there emission) y (wired_net i o there emission) (ap (λ (q : Declared). q.name) e) (ap (λ (q : Declared). drivers_due q.role) e)
    go (inr never) = absurd never
  of_item z (variable_reg i o there emission same) y here = go (subst (λ q. In y (declared_by q)) same here) where
    go : In y (declared_by (reg (high_of (width_of (result_type o 0))) (identifier_text m (value_identifier i 0)))) → Due y
    go (inl e) = wire_due (value_identifier i 0) (variable_in m i o there emission) y (wired_variable i o there emission) (ap (λ (q : Declared). q.name) e) (ap (λ (q : Declared). drivers_due q.role) e)
    go (inr never) = absurd never
  of_item z (result_wire i k o r there emission at same) y here = go (subst (λ q. In y (declared_by q)) same here) where
    go : In y (declared_by (wire (high_of (width r.type)) (identifier_text m (value_identifier i k)))) → Due y
    go (inl e) = wire_due (value_identifier i k) (result_in_identifiers m i k o r there emission at) y (wired_result i k o r there emission at) (ap (λ (q : Declared). q.name) e) (ap (λ (q : Declared). drivers_due q.role) e)
    go (inr never) = absurd never
  of_item z (net_assign i o there emission same) y here = absurd (subst (λ q. In y (declared_by q)) same here)
  of_item z (variable_block i o r there emission at same) y here = absurd (subst (λ q. In y (declared_by q)) same here)
  of_item z (an_instance i o w there emission at same) y here = go (subst (λ q. In y (declared_by q)) same here) where
    apart : (a l : ℕ) → instance_identifier i ≡ value_identifier a l → ⊥
    apart a l e = cc

    port_apart : (n : ℕ) → instance_identifier i ≡ port_identifier n → ⊥
    port_apart n e = cc

    identifier_here : In (instance_identifier i) (module_identifiers m)
    identifier_here = instance_in_identifiers m i o there emission

    away : In (instance_identifier i) (each (op_wires via m) 0 m.body) ⊎ In (instance_identifier i) (output_identifiers via d x s m is (instance_identifier i) identifier_here 0 m.ports) → ⊥
    away (inl u) = let e = wire_kind via m (instance_identifier i) u in apart e.0 e.1 e.2
    away (inr u) = let e = output_among via d x s m is (instance_identifier i) identifier_here 0 m.ports (instance_identifier i) u in port_apart (0 + e.0) e.4

    none : driver_count (tree_of via d) (identifier_text m (instance_identifier i)) (vitems via d m) ≡ 0
    none = driven_never via d x s m is (instance_identifier i) identifier_here (λ h. away (in_append (instance_identifier i) (each (op_wires via m) 0 m.body)
        (output_identifiers via d x s m is (instance_identifier i) identifier_here 0 m.ports) h))

    go : In y (record { name = identifier_text m (instance_identifier i); role = block_name; high = None } ∷ []) → Due y
    go (inl e) = ap (λ (q : Declared). driver_count (tree_of via d) q.name (vitems via d m) == drivers_due q.role) e ∙ eq-eqb (driver_count (tree_of via d) (identifier_text m (instance_identifier i)) (vitems via d m)) 0 none
    go (inr never) = absurd never
  of_item z (output_assign j p there out same) y here = absurd (subst (λ q. In y (declared_by q)) same here)

  due : (y : Declared) → In y (declared_in (vmodule via d m)) → Due y
  due y here = go (in_append y (declared_ports (vports m)) (declared_items (vitems via d m)) here) where
    at_port : (v : VPort) → y ≡ record { name = v.name; role = port_role v.is_output; high = v.high } → (j : ℕ) (p : Port) → slice_get m.ports j ≡ Some p → In v (vport m j p) → Due y
    at_port v e j p there (inl f) = of_port j p there y (e ∙ ap (λ (q : VPort). record { name = q.name; role = port_role q.is_output; high = q.high }) f)
    at_port v e j p there (inr never) = absurd never

    go : In y (declared_ports (vports m)) ⊎ In y (declared_items (vitems via d m)) → Due y
    go (inl h) = let f = from_In-map (λ (p : VPort). record { name = p.name; role = port_role p.is_output; high = p.high }) y (vports m) h in
        let e = from_each (vport m) m.ports f.0 f.1 in at_port f.0 f.2 e.0 e.1 e.2 e.3
    go (inr h) = let e = in_declared_items y (vitems via d m) h in of_item e.0 (from_items via d m e.0 e.1) y e.2

  all_driven : (ys : List Declared) → ((y : Declared) → In y ys → In y (declared_in (vmodule via d m))) → each_driven (tree_of via d) (vitems via d m) ys ≡ true
  unfolding Due
  all_driven [] within = refl
  all_driven (y ∷ ys) within =
      and_intro (driver_count (tree_of via d) y.name (vitems via d m) == drivers_due y.role) (each_driven (tree_of via d) (vitems via d m) ys) (due y (within y (inl refl))) (all_driven ys (λ z h. within z (inr h)))

  -- ---- the module

  pub module_is_checked : module_checks (tree_of via d) (vmodule via d m) ≡ true
  module_is_checked =
      and_intro (names_check (map (λ (y : Declared). y.name) (declared_in (vmodule via d m))) && ports_check (vports m))
      (items_check (tree_of via d) (declared_ports (vports m)) (vitems via d m) && (each_driven (tree_of via d) (vitems via d m) (declared_in (vmodule via d m)) &&
      (clocks_check (tree_of via d) (vports m) (vitems via d m) && nesting_checks (tree_of via d) (vmodule via d m))))
      (and_intro (names_check (map (λ (y : Declared). y.name) (declared_in (vmodule via d m)))) (ports_check (vports m)) (names_are_checked via m d (x.names s m is)) (ports_checked (vports m) (λ p h. h)))
      (and_intro (items_check (tree_of via d) (declared_ports (vports m)) (vitems via d m)) (each_driven (tree_of via d) (vitems via d m) (declared_in (vmodule via d m)) &&
      (clocks_check (tree_of via d) (vports m) (vitems via d m) && nesting_checks (tree_of via d) (vmodule via d m)))
      (items_are_checked via d x s m is)
      (and_intro (each_driven (tree_of via d) (vitems via d m) (declared_in (vmodule via d m)))
      (clocks_check (tree_of via d) (vports m) (vitems via d m) && nesting_checks (tree_of via d) (vmodule via d m)) (all_driven (declared_in (vmodule via d m)) (λ y h. h))
      (and_intro (clocks_check (tree_of via d) (vports m) (vitems via d m)) (nesting_checks (tree_of via d) (vmodule via d m)) (clocks_are_checked via d x s m is) (nesting_is_checked via d x s m is))))

-- what stands at each position of a list as long as another is that of the other's element
names_by : (f : Module → Name) (ms : List Module) (ns : List Name) → length ns ≡ length ms → ((i : ℕ) (m : Module) → slice_get ms i ≡ Some m → slice_get ns i ≡ Some (f m)) → map f ms ≡ ns
names_by f [] [] many at = refl
names_by f [] (n ∷ ns) many at = cc
names_by f (m ∷ ms) [] many at = cc
names_by f (m ∷ ms) (n ∷ ns) many at =
    let first : n ≡ f m = (let e = at 0 m refl in let g : n ≡ f m = cc in g) in
    ap₂ (λ y ys. y ∷ ys) (sym first) (names_by f ms ns (let e : length ns ≡ length ms = omega (arith, many) in e) (λ i z there. at (suc i) z there))

module _ (via : Lowering) (d : Design) (x : Setting d) where
  modules_checked : (ms : List Module) → ((m : Module) → In m ms → find_module d m.symbol ≡ Some m) → modules_check (tree_of via d) (map (vmodule via d) ms) ≡ true
  modules_checked [] found = refl
  modules_checked (m ∷ ms) found =
      and_intro (module_checks (tree_of via d) (vmodule via d m)) (modules_check (tree_of via d) (map (vmodule via d) ms)) (module_is_checked via d x m.symbol m (found m (inl refl))) (modules_checked ms (λ z h. found z (inr h)))

  -- the names of the tree's modules are the legal names of the symbols
  names_are : map (λ (v : VModule). v.name) (tree_of via d) ≡ symbol_names d
  names_are = twice d ∙ names_by (λ (m : Module). symbol_name d m.symbol) d (symbol_names d) x.symbols.many (λ i m there. symbol_at d x.ok x.symbols i m there) where
    twice : (ms : List Module) → map (λ (v : VModule). v.name) (map (vmodule via d) ms) ≡ map (λ (m : Module). symbol_name d m.symbol) ms
    twice [] = refl
    twice (m ∷ ms) = ap (λ z. symbol_name d m.symbol ∷ z) (twice ms)

  pub tree_is_checked : tree_checks (tree_of via d) ≡ true
  tree_is_checked =
      and_intro (names_check (map (λ (v : VModule). v.name) (tree_of via d))) (modules_check (tree_of via d) (tree_of via d)) (ap names_check names_are ∙ x.symbols.check)
      (modules_checked d (λ m h. let p = position_of_In m d h in module_at_position d x.ok p.0 m p.1))
