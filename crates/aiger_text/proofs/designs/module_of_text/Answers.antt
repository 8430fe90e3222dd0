use Rattle.std.proofs.Common.{ap}
use Rattle.ir_store.specs.Bodies.{ops_of}
use Rattle.ir_store.specs.Designs.{ports_in}
use Rattle.ir_store.specs.DictionaryViews.{entries_in}
use Rattle.ir_store.specs.OperationViews.{location_of}
use Rattle.aiger_reader.specs.Kept.{tree_of}
use Rattle.aiger_text.proofs.PortSteps.{module_built}
use Rattle.aiger_text.proofs.BelowBodies.{all_below, lines_few}
use Rattle.aiger_text.proofs.designs.module_of_text.Goals as goal

pub ports_of_text-requires : goal.ports_of_text-requires
ports_of_text-requires c = lines_few c.args._source.now (tree_of c.args.text.now) c.requires.says c.requires.short

pub body_of_text-requires-clause-few : goal.body_of_text-requires-clause-few
body_of_text-requires-clause-few c = lines_few c.args._source.now (tree_of c.args.text.now) c.requires.says c.requires.short

pub returns : goal.returns
returns c =
    module_built (tree_of c.args.text.now) c.in_ok-of.field-0 (ports_in c.in_ok-ports_of_text.field-0) (entries_in c.new.result) (ops_of c.in_ok-body_of_text.field-0)
    (location_of c.start.result) c.in_ok-of.ensures c.in_ok-ports_of_text.ensures c.new.ensures c.in_ok-body_of_text.ensures.numbered.ids c.in_ok-body_of_text.ensures.ops
    (all_below c.args._source.now (tree_of c.args.text.now) c.requires.says) (ap location_of c.start.ensures)
