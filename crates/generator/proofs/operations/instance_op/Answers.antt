use Rattle.std.proofs.Common.{map, ap, ◌∙◌}
use Rattle.hw_model.specs.TypeViews.{type_of}
use Rattle.hw_model.specs.KindViews.{instance_of}
use Rattle.ir_store.specs.OperationViews.{types_in}
use Rattle.generator.specs.Views.{op_seen}
use Rattle.generator.proofs.Built.{types_seen, instance_built}
use Rattle.generator.proofs.operations.instance_op.Goals as goal

pub returns : goal.returns
returns c =
    instance_built (op_seen c.in_ok-op.op) (instance_of c.in_ok-new.field-0.value) c.args.j c.value.result c.value-2.result (types_in c.of.result) c.in_ok-op.ensures
    (ap instance_of c.in_ok-new.ensures.ok ∙ c.in_ok-instance_of_module.ensures) c.value.ensures c.value-2.ensures
    (ap (map type_of) (c.of.ensures ∙ c.in_ok-vec.ensures.items) ∙ types_seen)
