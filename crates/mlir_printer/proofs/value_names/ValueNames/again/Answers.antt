use Rattle.std.proofs.Common.{◌≡◌, ◌++◌, ℕ, List, length, subst, ap, ◌∙◌}
use Rattle.ir_store.specs.Bodies.{ops_of}
use Rattle.ir_store.specs.Designs.{ports_in}
use Rattle.printing_laws.specs.NameHints.{port_name_hints}
use Rattle.mlir_printer.specs.Chosen.{with_name_hints}
use Rattle.mlir_printer.specs.Slots.{HaveSlots, port_slots}
use Rattle.mlir_printer.specs.Views.{names_held, chosen_names}
use Rattle.mlir_printer.proofs.names.Values.{all_names, all_values, ports_first}
use Rattle.mlir_printer.proofs.value_names.ValueNames.again.Goals as goal

pub returns-clause-names : goal.returns-clause-names
returns-clause-names c =
    let ps = ports_in c.args.one.now.ports in
    let first : chosen_names c.add_ports.new.self ≡ with_name_hints (chosen_names c.into_empty-names.result) (port_name_hints ps) = rw (c.deref.ensures.value) at c.in_ok-add_ports.ensures.chosen in
    all_names (chosen_names c.into_empty-names.result) (chosen_names c.add_ports.new.self) (chosen_names c.add_operations.new.self) ps (ops_of c.args.one.now.body)
    c.into_empty-names.ensures.names c.into_empty-names.ensures.numbered first c.in_ok-add_operations.ensures.chosen

pub returns-clause-values : goal.returns-clause-values
returns-clause-values c =
    let ps = ports_in c.args.one.now.ports in
    let ops = ops_of c.args.one.now.body in
    let empty = c.into_empty-names.result in
    let v = c.add_operations.new.self in
    let first : chosen_names c.add_ports.new.self ≡ with_name_hints (chosen_names empty) (port_name_hints ps) = rw (c.deref.ensures.value) at c.in_ok-add_ports.ensures.chosen in
    let added : c.add_ports.new.self.ports.items ≡ empty.ports.items ++ port_slots (length (names_held empty)) ps = rw (c.deref.ensures.value) at c.in_ok-add_ports.ensures.ports in
    let ports : v.ports.items ≡ port_slots 0 ps =
    ap (λ l. l.items) c.in_ok-add_operations.ensures.ports
    ∙ added
    ∙ ap (λ l. l ++ port_slots (length (names_held empty)) ps) c.into_empty-names.ensures.ports
    ∙ ap (λ (ns : List (List ℕ)). port_slots (length ns) ps) c.into_empty-names.ensures.names in
    let slots = subst (λ n. HaveSlots n ops v.slots.items) (ports_first (chosen_names empty) (chosen_names c.add_ports.new.self) ps c.into_empty-names.ensures.names first) c.in_ok-add_operations.ensures.slots in
    all_values v ps ops ports slots
