use Rattle.std.proofs.Common.{sym, ap, subst, ◌∙◌, slice_get, IfOk}
use Rattle.gates.specs.Circuits.{Runs}
use Rattle.hw_model.specs.Flat.{input_width}
use Rattle.flat_module_laws.specs.Sides.{IsFlat}
use Rattle.ir_store.specs.Designs.{design_of, module_of, numbered_module}
use Rattle.op_verifier.specs.Answered.{modules_verified}
use Rattle.flat_module_gates.specs.FlatSteps.{flat_gate_list, FlatFits}
use Rattle.flat_module_gates.proofs.FittingGateLists.{fits}
use Rattle.flat_module_gates.proofs.PlainOrders.{plain_has_order}
use Rattle.flat_module_gates.proofs.SingleResults.{plain_is_single}
use Rattle.flat_module_gates.proofs.StepMade.{alone_is, stepped_from, order_from}
use Rattle.flat_module_gates.proofs.stepped.stepped_signals.Goals as goal

pub operation_order-requires : goal.operation_order-requires
operation_order-requires c =
    let e = design_of c.args.verified.now.design in
    let one = numbered_module (module_of c.module-one.result.now) in
    let alone = alone_is (modules_verified c.args.verified.now) (module_of c.module-one.result.now) c.requires.plain (c.module-one.ensures ∙ ap (λ ms. slice_get ms 0) c.design.ensures) in
    plain_has_order e one.symbol one alone.1

pub side_signals-requires : goal.side_signals-requires
side_signals-requires c =
    let e = design_of c.args.verified.now.design in
    let one = numbered_module (module_of c.module-one.result.now) in
    let alone = alone_is (modules_verified c.args.verified.now) (module_of c.module-one.result.now) c.requires.plain (c.module-one.ensures ∙ ap (λ ms. slice_get ms 0) c.design.ensures) in
    let order = c.in_ok-order.order.items in
    let flat : IsFlat e one.symbol one order = record { plain = alone.1; stands = c.in_ok-order.ensures } in
    subst (λ o. FlatFits (input_width one.ports) one.ports one.body o c.args.gates.now) (sym c.as_slice.ensures.value)
    (fits e one.symbol one order flat (plain_is_single e one.symbol one alone.1) c.args.gates.now)

pub returns-clause-step : goal.returns-clause-step
returns-clause-step c =
    let e = design_of c.args.verified.now.design in
    let one = numbered_module (module_of c.module-one.result.now) in
    let alone = alone_is (modules_verified c.args.verified.now) (module_of c.module-one.result.now) c.requires.plain (c.module-one.ensures ∙ ap (λ ms. slice_get ms 0) c.design.ensures) in
    let order = c.in_ok-order.order.items in
    let flat : IsFlat e one.symbol one order = record { plain = alone.1; stands = c.in_ok-order.ensures } in
    stepped_from e one alone.0 order flat (plain_is_single e one.symbol one alone.1) c.args.gates.now c.side_signals.new.gates (λ v. v.items) c.side_signals.result
    (subst (λ o. IfOk c.side_signals.result (λ v. Runs (flat_gate_list (input_width one.ports) one.ports one.body o) c.args.gates.now c.side_signals.new.gates v.items)) c.as_slice.ensures.value
    c.side_signals.ensures)

pub returns-clause-order : goal.returns-clause-order
returns-clause-order c =
    let e = design_of c.args.verified.now.design in
    let one = numbered_module (module_of c.module-one.result.now) in
    let alone = alone_is (modules_verified c.args.verified.now) (module_of c.module-one.result.now) c.requires.plain (c.module-one.ensures ∙ ap (λ ms. slice_get ms 0) c.design.ensures) in
    let order = c.in_ok-order.order.items in
    let flat : IsFlat e one.symbol one order = record { plain = alone.1; stands = c.in_ok-order.ensures } in
    let room = c.requires.room one alone.0 in
    order_from e one alone.0 order flat (plain_is_single e one.symbol one alone.1) c.args.gates.now c.side_signals.new.gates (λ v. v.items) c.side_signals.result room.0 room.1
    (subst (λ o. IfOk c.side_signals.result (λ v. Runs (flat_gate_list (input_width one.ports) one.ports one.body o) c.args.gates.now c.side_signals.new.gates v.items)) c.as_slice.ensures.value
    c.side_signals.ensures)
