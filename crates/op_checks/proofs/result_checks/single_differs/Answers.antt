use Rattle.std.proofs.Common.{map, ap, sym, ◌∙◌}
use Rattle.hw_model.specs.TypeViews.{type_of}
use Rattle.hw_model.specs.FamilyViews.{family_of}
use Rattle.type_inference.specs.ResultTypes.{result_type}
use Rattle.op_checks.specs.TypeLists.{differs}
use Rattle.op_checks.proofs.Lists.{one_differs, first_seen}
use Rattle.op_checks.proofs.result_checks.single_differs.Goals as goal

pub returns-in-Some : goal.returns-in-Some
returns-in-Some c =
    let x = result_type (family_of c.args.family) (map type_of c.args.types.now) c.args.operands in
    let e = first_seen (λ r. type_of r.ty) c.args.results.now c.in-Some.first.now c.in-Some.ensures.value in
    c.has_other_type.ensures ∙ ap (λ o. differs o x) (sym e) ∙ sym (one_differs (map (λ r. type_of r.ty) c.args.results.now) x)
