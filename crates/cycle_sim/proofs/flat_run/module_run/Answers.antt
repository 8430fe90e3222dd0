use Rattle.std.proofs.Common.{ap, sym, subst}
use Rattle.ir_store.specs.Designs.{module_of, numbered_module}
use Rattle.step_file.specs.Answers.{rows_in, steps_in}
use Rattle.flat_module_laws.specs.Sides.{IsFlat}
use Rattle.flat_module_gates.proofs.PlainOrders.{plain_has_order}
use Rattle.flat_steps.specs.Plans.{ports_of, body_of}
use Rattle.flat_steps.specs.Steps.{HaveWords}
use Rattle.flat_steps.proofs.WordWidths.{plain_ports}
use Rattle.cycle_sim.proofs.TableRuns.{plan_fits, plan_rows_fit, module_lines}
use Rattle.cycle_sim.proofs.flat_run.module_run.Goals as goal

pub operation_order-requires : goal.operation_order-requires
operation_order-requires c =
    let can = c.requires in
    plain_has_order can.design can.top (numbered_module (module_of c.args.module.now)) can.plain

pub start-requires-clause-ports : goal.start-requires-clause-ports
start-requires-clause-ports c =
    let can = c.requires in
    subst HaveWords (sym c.in_ok-plan.ensures.ports) (plain_ports can.design can.top (numbered_module (module_of c.args.module.now)) can.plain)

pub start-requires-clause-fits : goal.start-requires-clause-fits
start-requires-clause-fits c =
    let can = c.requires in
    let m = numbered_module (module_of c.args.module.now) in
    let flat : IsFlat can.design can.top m c.in_ok-order.order.items = record { plain = can.plain; stands = c.in_ok-order.ensures } in
    plan_fits m (steps_in c.args.file.now) can c.in_ok-order.order.items flat (ports_of c.in_ok-plan.plan) (body_of c.in_ok-plan.plan) c.as_slice-positions.result.now c.as_slice-content.result.now
    c.in_ok-plan.ensures.ports c.in_ok-plan.ensures.body c.as_slice-positions.ensures.value c.as_slice-content.ensures.value

pub steps_lines-requires : goal.steps_lines-requires
steps_lines-requires c =
    let can = c.requires in
    let m = numbered_module (module_of c.args.module.now) in
    let flat : IsFlat can.design can.top m c.in_ok-order.order.items = record { plain = can.plain; stands = c.in_ok-order.ensures } in
    plan_rows_fit m (steps_in c.args.file.now) can c.in_ok-order.order.items flat (ports_of c.in_ok-plan.plan) (body_of c.in_ok-plan.plan) c.as_slice-positions.result.now c.as_slice-content.result.now
    c.in_ok-plan.ensures.ports c.in_ok-plan.ensures.body c.as_slice-positions.ensures.value c.as_slice-content.ensures.value
    (rows_in c.as_slice-rows.result.now) c.in_ok-tables.tables.ports.items c.in_ok-tables.tables.results.items
    (ap rows_in c.as_slice-rows.ensures.value) c.in_ok-tables.ensures.ports c.in_ok-tables.ensures.results

pub returns : goal.returns
returns c =
    let can = c.requires in
    let m = numbered_module (module_of c.args.module.now) in
    let flat : IsFlat can.design can.top m c.in_ok-order.order.items = record { plain = can.plain; stands = c.in_ok-order.ensures } in
    module_lines m (steps_in c.args.file.now) can c.in_ok-order.order.items flat (ports_of c.in_ok-plan.plan) (body_of c.in_ok-plan.plan) c.as_slice-positions.result.now c.as_slice-content.result.now
    c.in_ok-plan.ensures.ports c.in_ok-plan.ensures.body c.as_slice-positions.ensures.value c.as_slice-content.ensures.value
    (rows_in c.as_slice-rows.result.now) c.in_ok-tables.tables.ports.items c.in_ok-tables.tables.results.items
    (ap rows_in c.as_slice-rows.ensures.value) c.in_ok-tables.ensures.ports c.in_ok-tables.ensures.results
    c.steps_lines.result c.steps_lines.ensures
