use Rattle.std.proofs.Common.{map, []}
use Rattle.hw_model.specs.Types.HwType.{int}
use Rattle.hw_model.specs.TypeViews.{type_of}
use Rattle.ir_store.specs.OperationViews.{result_of}
use Rattle.stored_form.specs.Bytes.{Each}
use Rattle.stored_form.specs.ResultTypes.{HaveTypes}
use Rattle.stored_form.proofs.Lists.{not_each, each_more, each_all, same_fact}
use Rattle.stored_form.proofs.Results.{IsNone, each_none, none_are, type_told}
use Rattle.stored_form.proofs.result_types.have_no_types.Goals as goal

pub returns-then-not-is_none : goal.returns-then-not-is_none
returns-then-not-is_none c =
    let rs = map result_of c.args.results.now in
    same_fact (Each IsNone rs) (HaveTypes rs []) _
    (not_each IsNone result_of c.args.results.now c.loop-one.one-index c.one-item.result c.is_none.result c.loop-one-test.true c.one-item.is
    (type_told (type_of c.one-item.result.ty) (int 0) c.is_none.result c.is_none.ensures) c.if-not-is_none.true)
    (none_are rs) (each_none rs)

pub loop-one-preserved : goal.loop-one-preserved
loop-one-preserved c =
    each_more IsNone result_of c.args.results.now c.loop-one.one-index c.one-item.result c.loop-one-test.true c.one-item.is c.loop-one.invariant
    ((type_told (type_of c.one-item.result.ty) (int 0) c.is_none.result c.is_none.ensures).0 c.if-not-is_none.false)

pub returns : goal.returns
returns c =
    let rs = map result_of c.args.results.now in
    same_fact (Each IsNone rs) (HaveTypes rs []) _
    (each_all IsNone result_of c.args.results.now c.loop-one.one-index c.loop-one-test.false c.loop-one.invariant)
    (none_are rs) (each_none rs)
