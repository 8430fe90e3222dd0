use Rattle.std.specs.Option.{option_map}
use Rattle.hw_model.specs.TypeViews.{type_of}
use Rattle.hw_model.specs.FamilyViews.{family_of}
use Rattle.ir_store.specs.OperationViews.{types_in}
use Rattle.op_checks.specs.OwnViews.{result_types_in}
use Rattle.op_checks.proofs.Lists.{types_of_items, results_of_items}
use Rattle.op_checks.proofs.Mismatch.{mismatch_by_results}
use Rattle.op_checks.proofs.own_checks.has_mismatch.Goals as goal

pub returns-else-has_other_operand : goal.returns-else-has_other_operand
returns-else-has_other_operand c =
    mismatch_by_results (family_of c.args.family) (types_in c.args.op.now.types.now) _ _ (result_types_in c.args.op.now.results.now)
    (option_map (λ t. type_of t.now)) c.args.operands.now c.has_other_result.result
    (types_of_items c.as_slice-types.result.now c.args.op.now.types.now c.as_slice-types.ensures)
    (results_of_items c.as_slice.result.now c.args.op.now.results.now c.as_slice.ensures)
    c.if-has_other_form.ensures c.if-has_other_operand.ensures c.has_other_result.ensures
