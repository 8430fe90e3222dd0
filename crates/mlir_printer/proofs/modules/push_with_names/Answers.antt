use Rattle.ir_store.specs.Designs.{module_of}
use Rattle.mlir_printer.specs.Views.{names_held, value_held}
use Rattle.mlir_printer.proofs.names.Values.{names_few}
use Rattle.mlir_printer.proofs.steps.Showing.{module_added}
use Rattle.mlir_printer.proofs.modules.push_with_names.Goals as goal

pub returns : goal.returns
returns c =
    let names = c.in_ok-names.names in
    module_added (value_held names) (names_held names) (module_of c.args.one.now) c.input_count.result c.args.out.now c.push_header.new.out c.push_operations.new.out c.push_bytes.new.self
    (names_few names) c.in_ok-names.ensures.names c.in_ok-names.ensures.values (rw (c.deref.ensures.value) at c.input_count.ensures)
    c.in_ok-push_header.ensures c.in_ok-push_operations.ensures c.in_ok-push_bytes.ensures.ok
