-- The items of a module's tree meet the checks in their order.
use Rattle.std.proofs.Common.{◌≡◌, ℕ, ◌+◌, Bool, true, false, ◌&&◌, ◌||◌, List, [], ◌∷◌, ◌++◌, map, take, slice_get, Some, is_some, refl, ◌∙◌, ap, ap₂, inl, inr, zero-add, option_map}
use Rattle.wiring.specs.Wiring.{In}
use Rattle.wiring.proofs.Members.{In-append_right}
use Rattle.hw_model.specs.Types.{Name, width}
use Rattle.hw_model.specs.Kinds.{Instance}
use Rattle.hw_model.specs.Design.{Port, Op, Module, Design, find_module, instance_in, result_type, output_refs}
use Rattle.hw_model.specs.Flat.{width_of}
use Rattle.verilog_model.specs.Tree.{VPort, Connection, Item}
use Rattle.verilog_model.specs.Hierarchy.{find_vmodule, find_port, find_connection, vports_of}
use Rattle.verilog_model.specs.Checks.{Declared, connections_check, connection_checks, joins_inputs, ports_joined, item_checks, declared_by, items_check, declared_ports, are_distinct}
use Rattle.verilog_model.proofs.Numerals.{and_intro}
use Rattle.lowering_options.specs.declared.lowering.Lowering.{Lowering}
use Rattle.export_verilog.specs.Identifiers.{each, emission_of}
use Rattle.export_verilog.specs.Identifiers.Identifier.{port_identifier}
use Rattle.export_verilog.specs.Identifiers.Emission.{as_instance}
use Rattle.export_verilog.specs.Exported.{symbol_name, connections_of, connections_to, vport, vports, vitems, vmodule, tree_of, declares, states, output_assigns}
use Rattle.export_verilog.proofs.names.IdentifiersOf.{from_each, port_in}
use Rattle.export_verilog.proofs.names.Symbols.{vmodule_found}
use Rattle.export_verilog.proofs.items.Items.{connection_of, from_connections, instance_at, From, from_items}
use Rattle.export_verilog.proofs.items.Items.From.{net_wire, variable_reg, result_wire, net_assign, variable_block, an_instance, output_assign}
use Rattle.export_verilog.proofs.items.Lookups.{connection_under}
use Rattle.export_verilog.proofs.items.Settings.{Setting, Called, called_by}
use Rattle.export_verilog.proofs.checks.Known.{KnowsAll, knows_first, knows_more, known_first}
use Rattle.export_verilog.proofs.checks.Stated.{high_decimal, first_small, result_small, items_split, declaration_checks, register_good, net_good, output_good, connection_good, all_connections}
use Rattle.export_verilog.proofs.names.Apart.{ports_distinct}

module _ (via : Lowering) (d : Design) (x : Setting d) (s : Name) (m : Module) (is : find_module d s ≡ Some m) where
  -- each input of an instance's module is joined
  inputs_joined : (i : ℕ) (o : Op) (c : Called d m o) (ps : List VPort) → ((p : VPort) → In p ps → In p (vports c.module_of))
      → joins_inputs ps (connections_of via c.module_of m i 0 0 c.module_of.ports o.operands) ≡ true
  inputs_joined i o c [] within = refl
  inputs_joined i o c (p ∷ ps) within =
      and_intro (p.is_output || is_some (find_connection cs p.name)) (joins_inputs ps cs) (or_right p.is_output (is_some (find_connection cs p.name)) (joined (from_each (vport c.module_of) c.module_of.ports p (within p (inl refl)))))
      (inputs_joined i o c ps (λ q h. within q (inr h))) where
        cs : List Connection
        cs = connections_of via c.module_of m i 0 0 c.module_of.ports o.operands

        or_right : (a b : Bool) → b ≡ true → (a || b) ≡ true
        or_right true b e = refl
        or_right false b e = e

        there : (j : ℕ) (q : Port) → slice_get c.module_of.ports j ≡ Some q → In p (vport c.module_of j q) → is_some (find_connection cs p.name) ≡ true
        there j q at (inl e) =
            ap (λ (z : VPort). is_some (find_connection cs z.name)) e
            ∙ ap is_some (connection_under via c.module_of m i o (x.names c.kind.symbol c.module_of c.there) (port_identifier j) (port_in c.module_of j q at)
            ∙ ap (option_map (λ z. connection_of via c.module_of m i j 0 (take j c.module_of.ports) z o.operands)) at)
        there j q at (inr never) = absurd never

        joined : (j : ℕ) × (q : Port) × (slice_get c.module_of.ports j ≡ Some q) × In p (vport c.module_of j q) → is_some (find_connection cs p.name) ≡ true
        joined e = there e.0 e.1 e.2 e.3

  module _ (known : List Declared) (knows : KnowsAll d x s m is known) where
    instance_good : (i : ℕ) (o : Op) (y : Instance) → slice_get m.body i ≡ Some o → emission_of m.ports m.body i o ≡ as_instance → instance_in o.kind ≡ Some y → item_checks (tree_of via d) known (instance_at via d m i o y) ≡ true
    instance_good i o y there emission kind =
        let c : Called d m o = called_by d x s m is i o there y kind in
        let found_so : find_vmodule (tree_of via d) (symbol_name d y.symbol) ≡ Some (vmodule via d c.module_of) = vmodule_found d x.ok x.symbols via y.symbol c.module_of c.there in
        let cs = connections_of via c.module_of m i 0 0 c.module_of.ports o.operands in
        let joined_here : connections_to via (find_module d y.symbol) m i o ≡ cs = ap (λ z. connections_to via z m i o) c.there in
        ap₂ (λ f es. is_some f && (connections_check known (vports_of f) es && ports_joined (vports_of f) es)) found_so joined_here
        ∙ and_intro (connections_check known (vports c.module_of) cs) (ports_joined (vports c.module_of) cs)
        (all_connections via d x s m is known knows i o there emission c cs (λ e h. each_good i o there emission c e (from_connections via c.module_of m i 0 0 c.module_of.ports o.operands e h)))
        (and_intro (joins_inputs (vports c.module_of) cs) (are_distinct (map (λ (z : Connection). z.port) cs)) (inputs_joined i o c (vports c.module_of) (λ p h. h))
        (ports_distinct via c.module_of m (x.names c.kind.symbol c.module_of c.there) i o.operands)) where
          each_good : (i : ℕ) (o : Op) → slice_get m.body i ≡ Some o → emission_of m.ports m.body i o ≡ as_instance → (c : Called d m o) → (e : Connection)
              → (n : ℕ) × (p : Port) × (slice_get c.module_of.ports n ≡ Some p) × (e ≡ connection_of via c.module_of m i (0 + n) 0 (take n c.module_of.ports) p o.operands)
              → connection_checks known (find_port (vports c.module_of) e.port) e.value ≡ true
          each_good i o there emission c e h =
              connection_good via d x s m is known knows i o there emission c h.0 h.1 h.2 e (h.3 ∙ ap (λ a. connection_of via c.module_of m i a 0 (take h.0 c.module_of.ports) h.1 o.operands) (zero-add h.0))

    item_good : (y : Item) → From via d m y → item_checks (tree_of via d) known y ≡ true
    item_good y (net_wire i o there emission same) = ap (item_checks (tree_of via d) known) same ∙ high_decimal (width_of (result_type o 0)) (first_small via d x s m is i o there)
    item_good y (variable_reg i o there emission same) = ap (item_checks (tree_of via d) known) same ∙ high_decimal (width_of (result_type o 0)) (first_small via d x s m is i o there)
    item_good y (result_wire i k o r there emission at same) = ap (item_checks (tree_of via d) known) same ∙ high_decimal (width r.type) (result_small via d x s m is i k o r there at)
    item_good y (net_assign i o there emission same) = ap (item_checks (tree_of via d) known) same ∙ net_good via d x s m is known knows i o there emission
    item_good y (variable_block i o r there emission at same) = ap (item_checks (tree_of via d) known) same ∙ register_good via d x s m is known knows i o r there emission at
    item_good y (an_instance i o z there emission at same) = ap (item_checks (tree_of via d) known) same ∙ instance_good i o z there emission at
    item_good y (output_assign j p there out same) = ap (item_checks (tree_of via d) known) same ∙ output_good via d x s m is known knows j p there out

  all_good : (known : List Declared) → KnowsAll d x s m is known → (ys : List Item) → ((y : Item) → In y ys → From via d m y) → items_check (tree_of via d) known ys ≡ true
  all_good known knows [] from = refl
  all_good known knows (y ∷ ys) from =
      and_intro (item_checks (tree_of via d) known y) (items_check (tree_of via d) (known ++ declared_by y) ys) (item_good known knows y (from y (inl refl)))
      (all_good (known ++ declared_by y) (knows_more d x s m is known (declared_by y) knows) ys (λ z h. from z (inr h)))

  pub items_are_checked : items_check (tree_of via d) (declared_ports (vports m)) (vitems via d m) ≡ true
  items_are_checked =
      items_split (tree_of via d) (declared_ports (vports m)) (each (declares m) 0 m.body) (each (states via d m) 0 m.body ++ output_assigns via m 0 m.ports (output_refs m.body))
      (λ y kn h. declaration_checks via d x s m is y kn h)
      (all_good (known_first m) (knows_first d x s m is) (each (states via d m) 0 m.body ++ output_assigns via m 0 m.ports (output_refs m.body))
      (λ y h. from_items via d m y (In-append_right y (each (declares m) 0 m.body) (each (states via d m) 0 m.body ++ output_assigns via m 0 m.ports (output_refs m.body)) h)))
