use Rattle.std.proofs.Common.{List, map, Some, refl}
use Rattle.hw_model.specs.TypeViews.{type_of}
use Rattle.hw_model.specs.declared.types.Ty.{Ty}
use Rattle.ir_store.specs.OperationViews.{result_of}
use Rattle.stored_form.proofs.Results.{typed_more, not_typed}
use Rattle.stored_form.proofs.result_types.have_these_types.Goals as goal

pub returns-in_default : goal.returns-in_default
returns-in_default c =
    let due = λ (ts : List Ty). map Some (map type_of ts) in
    not_typed result_of type_of due (λ t ts. refl) (map result_of c.args.results.now) (due c.args.types.now) c.loop-ty.rest.now c.args.types.now c.loop-ty.ty-index c.ty-item.result
    c.loop-ty-test.true c.ty-item.is c.loop-ty.invariant c.in-Some.first.now c.in-Some.others.now c.eq.result c.in-Some.ensures.cases.0 c.eq.ensures c.if-eq.false

pub loop-ty-preserved : goal.loop-ty-preserved
loop-ty-preserved c =
    let due = λ (ts : List Ty). map Some (map type_of ts) in
    typed_more result_of type_of due (λ t ts. refl) (map result_of c.args.results.now) (due c.args.types.now) c.loop-ty.rest.now c.args.types.now c.loop-ty.ty-index c.ty-item.result
    c.loop-ty-test.true c.ty-item.is c.loop-ty.invariant c.in-Some.first.now c.in-Some.others.now c.eq.result c.in-Some.ensures.cases.0 c.eq.ensures c.if-eq.true
