use Rattle.std.proofs.Common.{map, sym, ◌∙◌}
use Rattle.std.proofs.lemmas.List.{length-map}
use Rattle.hw_model.specs.TypeViews.{type_of}
use Rattle.hw_model.specs.FamilyViews.{family_of}
use Rattle.ir_store.specs.declared.operation.NewResult.{NewResult}
use Rattle.type_inference.specs.ResultTypes.{result_type}
use Rattle.op_checks.proofs.Owned.{one_owned}
use Rattle.op_verifier.proofs.settled_types.is_own.Goals as goal
use Rattle.std.proofs.lemmas.Bool.{not-true}

pub returns-then-is_settled : goal.returns-then-is_settled
returns-then-is_settled c =
    λ each. one_owned (map (λ (r : NewResult). type_of r.ty) c.args.results.now) (result_type (family_of c.args.family) (map type_of c.args.types.now) c.args.operands)
    (length-map c.args.results.now (λ (r : NewResult). type_of r.ty) ∙ c.if-results-eq1.true) (sym c.is_settled.ensures ∙ c.if-is_settled.true)
    (sym c.single_differs.ensures ∙ not-true c.single_differs.result each)
