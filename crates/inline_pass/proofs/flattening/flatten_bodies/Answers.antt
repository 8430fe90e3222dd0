use Rattle.std.proofs.Common.{◌<◌, get_or, subst, sym, arith}
use Rattle.std.proofs.lemmas.List.{length-map}
use Rattle.ir_store.specs.Designs.{design_of, modules_of, numbered_module}
use Rattle.design_cycles.specs.Calls.{call_lists}
use Rattle.design_cycles.specs.Weighing.{IsWhole}
use Rattle.op_verifier.proofs.Distinct.{distinct_symbols}
use Rattle.inline_pass.proofs.FlatteningOrder.{none_flat, next_within, one_more_flat, all_flat}
use Rattle.inline_pass.proofs.flattening.flatten_bodies.Goals as goal

pub module_order-requires-clause-distinct : goal.module_order-requires-clause-distinct
module_order-requires-clause-distinct c = distinct_symbols (design_of c.args.design.now) c.requires.unrefused

pub loop-number-init : goal.loop-number-init
loop-number-init c = none_flat (design_of c.args.design.now) c.requires

pub flatten_body-requires-clause-within : goal.flatten_body-requires-clause-within
flatten_body-requires-clause-within c =
    subst (λ n. get_or c.as_slice-number-items.result.now c.loop-number.number-index 0 < n) (length-map (modules_of c.loop-number.design) numbered_module)
    (next_within (design_of c.args.design.now) c.requires c.as_slice-number-items.result.now
    (subst (IsWhole (call_lists (design_of c.args.design.now))) (sym c.as_slice-number-items.ensures.value) c.in_ok-order.ensures) c.loop-number.number-index c.loop-number-test.true
    (design_of c.loop-number.design) c.loop-number.invariant)

pub flatten_body-requires-clause-fit : goal.flatten_body-requires-clause-fit
flatten_body-requires-clause-fit c = c.loop-number.invariant.so_far.inlines.fit

pub loop-number-preserved : goal.loop-number-preserved
loop-number-preserved c =
    one_more_flat (design_of c.args.design.now) c.requires c.as_slice-number-items.result.now
    (subst (IsWhole (call_lists (design_of c.args.design.now))) (sym c.as_slice-number-items.ensures.value) c.in_ok-order.ensures) c.loop-number.number-index c.loop-number-test.true
    (design_of c.loop-number.design) c.loop-number.invariant (design_of c.flatten_body.new.design) c.in_ok-flatten_body.ensures

pub returns : goal.returns
returns c =
    all_flat (design_of c.args.design.now) c.requires c.as_slice-number-items.result.now
    (subst (IsWhole (call_lists (design_of c.args.design.now))) (sym c.as_slice-number-items.ensures.value) c.in_ok-order.ensures) c.loop-number.number-index (omega (arith, c.loop-number-test.false))
    (design_of c.loop-number.design) c.loop-number.invariant
