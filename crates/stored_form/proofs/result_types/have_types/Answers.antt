use Rattle.std.proofs.Common.{◌≡◌, ◌↔◌, IsTrue, List, Option, Some, map, drop, subst, rules}
use Rattle.hw_model.specs.Types.{HwType}
use Rattle.hw_model.specs.TypeViews.{type_of}
use Rattle.hw_model.specs.FamilyViews.{family_of}
use Rattle.ir_store.specs.OperationViews.{result_of}
use Rattle.type_inference.specs.ResultTypes.{result_types}
use Rattle.stored_form.specs.ResultTypes.{HaveTypes}
use Rattle.stored_form.proofs.result_types.have_types.Goals as goal

pub returns-in-Instance : goal.returns-in-Instance
unfolding result_types
returns-in-Instance c =
    let due : map Some (drop c.len.result (map type_of c.args.types.now)) ≡ result_types (family_of c.args.family) (map type_of c.args.types.now) c.args.operands = search rules in
    subst (λ (ts : List (Option HwType)). IsTrue c.have_types_after.result ↔ HaveTypes (map result_of c.args.results.now) ts) due c.have_types_after.ensures
