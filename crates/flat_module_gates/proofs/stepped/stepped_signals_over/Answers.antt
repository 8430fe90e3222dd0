use Rattle.std.proofs.Common.{sym, ap, subst, ◌∙◌, slice_get, IfOk}
use Rattle.gates.specs.Circuits.{Runs}
use Rattle.flat_module_laws.specs.Sides.{IsFlat}
use Rattle.ir_store.specs.Designs.{design_of, module_of, numbered_module}
use Rattle.op_verifier.specs.Answered.{modules_verified}
use Rattle.flat_module_gates.specs.FlatGateLists.{words_over}
use Rattle.flat_module_gates.specs.FlatSteps.{flat_gate_list_over, FlatFitsOver}
use Rattle.flat_module_gates.proofs.FittingGateLists.{fits_over}
use Rattle.flat_module_gates.proofs.PlainOrders.{plain_has_order}
use Rattle.flat_module_gates.proofs.SingleResults.{plain_is_single}
use Rattle.flat_module_gates.proofs.StepMade.{alone_is, stepped_over_from}
use Rattle.flat_module_gates.proofs.stepped.stepped_signals_over.Goals as goal

pub operation_order-requires : goal.operation_order-requires
operation_order-requires c =
    let e = design_of c.args.verified.now.design in
    let one = numbered_module (module_of c.module-one.result.now) in
    let alone = alone_is (modules_verified c.args.verified.now) (module_of c.module-one.result.now) c.requires.plain (c.module-one.ensures ∙ ap (λ ms. slice_get ms 0) c.design.ensures) in
    plain_has_order e one.symbol one alone.1

pub side_signals_over-requires : goal.side_signals_over-requires
side_signals_over-requires c =
    let e = design_of c.args.verified.now.design in
    let one = numbered_module (module_of c.module-one.result.now) in
    let alone = alone_is (modules_verified c.args.verified.now) (module_of c.module-one.result.now) c.requires.plain (c.module-one.ensures ∙ ap (λ ms. slice_get ms 0) c.design.ensures) in
    let order = c.in_ok-order.order.items in
    let flat : IsFlat e one.symbol one order = record { plain = alone.1; stands = c.in_ok-order.ensures } in
    let wide = c.requires.wide one alone.0 in
    subst (λ o. FlatFitsOver (words_over c.args.inputs.now 0 one.ports) c.args.content.now one.body o c.args.gates.now) (sym c.as_slice.ensures.value)
    (fits_over e one.symbol one order flat (plain_is_single e one.symbol one alone.1) c.args.inputs.now c.args.content.now wide.0 wide.1 c.args.gates.now)

pub returns : goal.returns
returns c =
    let e = design_of c.args.verified.now.design in
    let one = numbered_module (module_of c.module-one.result.now) in
    let alone = alone_is (modules_verified c.args.verified.now) (module_of c.module-one.result.now) c.requires.plain (c.module-one.ensures ∙ ap (λ ms. slice_get ms 0) c.design.ensures) in
    let order = c.in_ok-order.order.items in
    let flat : IsFlat e one.symbol one order = record { plain = alone.1; stands = c.in_ok-order.ensures } in
    let r = c.side_signals_over.result in
    let t = c.side_signals_over.new.gates in
    stepped_over_from e one alone.0 order flat (plain_is_single e one.symbol one alone.1) c.args.gates.now t c.args.inputs.now c.args.content.now (λ v. v.items) r
    (subst (λ o. IfOk r (λ v. Runs (flat_gate_list_over (words_over c.args.inputs.now 0 one.ports) c.args.content.now one.body o) c.args.gates.now t v.items)) c.as_slice.ensures.value
    c.side_signals_over.ensures)
