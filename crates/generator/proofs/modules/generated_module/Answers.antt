use Rattle.std.proofs.Common.{ap, ◌∙◌}
use Rattle.ir_store.specs.Bodies.{ops_of}
use Rattle.ir_store.specs.Designs.{ports_in}
use Rattle.ir_store.specs.DictionaryViews.{entries_in}
use Rattle.ir_store.specs.OperationViews.{location_of}
use Rattle.generator.proofs.Built.{module_built}
use Rattle.generator.proofs.modules.generated_module.Goals as goal

pub returns-clause-made : goal.returns-clause-made
returns-clause-made c =
    module_built c.args.n c.args.k c.args.draws.now.state c.in_ok-module_symbol.field-0 (ports_in c.in_ok-generated_ports.field-0) (entries_in c.new.result)
    (ops_of c.in_ok-body_with.field-0) (location_of c.start.result) c.in_ok-module_symbol.ensures c.in_ok-generated_ports.ensures c.new.ensures
    c.in_ok-body_with.ensures.numbered.ids (c.in_ok-body_with.ensures.ops ∙ c.in_ok-ops.ensures.ops) (ap location_of c.start.ensures)
