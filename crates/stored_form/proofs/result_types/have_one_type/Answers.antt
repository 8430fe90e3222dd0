use Rattle.std.proofs.Common.{map, ap}
use Rattle.hw_model.specs.TypeViews.{type_of}
use Rattle.hw_model.specs.FamilyViews.{family_of}
use Rattle.ir_store.specs.OperationViews.{result_of}
use Rattle.type_inference.specs.ResultTypes.{result_type}
use Rattle.stored_form.proofs.Results.{first_typed, first_other}
use Rattle.stored_form.proofs.result_types.have_one_type.Goals as goal

pub returns-then-has_type : goal.returns-then-has_type
returns-then-has_type c =
    first_typed (map result_of c.args.results.now) (result_of c.in-Some.first.now) (map result_of c.in-Some.others.now) (result_type (family_of c.args.family) (map type_of c.args.types.now) c.args.operands)
    c.has_type.result c.have_no_types.result (ap (map result_of) c.in-Some.ensures.cases.0) c.has_type.ensures c.if-has_type.true c.have_no_types.ensures

pub returns-else-has_type : goal.returns-else-has_type
returns-else-has_type c =
    first_other (map result_of c.args.results.now) (result_of c.in-Some.first.now) (map result_of c.in-Some.others.now) (result_type (family_of c.args.family) (map type_of c.args.types.now) c.args.operands)
    c.has_type.result (ap (map result_of) c.in-Some.ensures.cases.0) c.has_type.ensures c.if-has_type.false
