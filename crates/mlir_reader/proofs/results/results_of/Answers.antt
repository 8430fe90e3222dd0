use Rattle.std.proofs.Common.{◌≡◌, [], ◌∷◌, map, true, sym, ap, subst, ◌∙◌}
use Rattle.std.specs.Prelude.{IfOk}
use Rattle.hw_model.specs.KindViews.{kind_of}
use Rattle.hw_model.specs.TypeViews.{type_of}
use Rattle.ir_store.specs.OperationViews.{results_in}
use Rattle.type_inference.specs.ResultTypes.{result_type}
use Rattle.type_inference.specs.SettledTypes.{has_one_result}
use Rattle.mlir_reader.specs.Resolving.{marked_results}
use Rattle.mlir_reader.proofs.ResultCounts.{one_type}
use Rattle.mlir_reader.proofs.results.results_of.Goals as goal

pub returns-then-has_one_result : goal.returns-then-has_one_result
returns-then-has_one_result c =
    let ts = map type_of c.args.types.now in
    let single = subst (λ k. has_one_result k ≡ true) c.family-family.ensures (sym c.has_one_result.ensures ∙ c.if-has_one_result.true) in
    let own = c.in_ok-ty.ensures ∙ c.of.ensures ∙ ap (λ k. result_type k ts c.args.operands) c.family-family.ensures in
    subst (λ us. IfOk c.marked_result.result (λ rs. results_in rs ≡ marked_results us c.args.marks.now))
    (sym (one_type (kind_of c.args.kind.now) single ts c.args.operands ∙ ap (λ t. t ∷ []) (sym own))) c.marked_result.ensures
