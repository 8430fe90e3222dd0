use Rattle.std.proofs.Common.{ap, ap₂, ◌∙◌, slice_get, ◌+◌, []}
use Rattle.ir_store.specs.declared.body.Body.{Body}
use Rattle.ir_store.specs.Bodies.{ops_of}
use Rattle.ir_store.specs.Designs.{design_of, module_of, numbered_module}
use Rattle.ir_store.specs.Numbered.{ops_by_position}
use Rattle.op_verifier.specs.Answered.{modules_verified}
use Rattle.net_gates.specs.NetGateLists.{variables}
use Rattle.flat_module_gates.specs.FlatSteps.{content_width}
use Rattle.flat_module_gates.proofs.StepMade.{alone_is}
use Rattle.and_gates.proofs.ClockedSteps.{as_wide, step_made}
use Rattle.and_gates.proofs.steps.clocked_step.Goals as goal

pub stepped_signals_over-requires-clause-wide : goal.stepped_signals_over-requires-clause-wide
stepped_signals_over-requires-clause-wide c =
    let e = design_of c.args.copy.now.design in
    let one = numbered_module (module_of c.module-one.result.now) in
    let alone = alone_is (modules_verified c.args.copy.now) (module_of c.module-one.result.now) c.requires (c.module-one.ensures ∙ ap (λ ms. slice_get ms 0) c.design.ensures) in
    as_wide e one alone.0 alone.1 c.as_slice.result.now c.as_slice-2.result.now (c.as_slice.ensures.value ∙ c.in_ok-inputs.ensures)
    (c.as_slice-2.ensures.value ∙ c.in_ok-content.ensures ∙ ap₂ variables c.in_ok-free.ensures (c.in_ok-held.ensures ∙ ap (λ (b : Body). content_width (ops_by_position (ops_of b))) c.in_ok-of.ensures))

pub returns : goal.returns
returns c =
    let e = design_of c.args.copy.now.design in
    let one = numbered_module (module_of c.module-one.result.now) in
    let alone = alone_is (modules_verified c.args.copy.now) (module_of c.module-one.result.now) c.requires (c.module-one.ensures ∙ ap (λ ms. slice_get ms 0) c.design.ensures) in
    step_made e one alone.0 alone.1 c.as_slice.result.now c.as_slice-2.result.now (c.as_slice.ensures.value ∙ c.in_ok-inputs.ensures)
    (c.as_slice-2.ensures.value ∙ c.in_ok-content.ensures ∙ ap₂ variables c.in_ok-free.ensures (c.in_ok-held.ensures ∙ ap (λ (b : Body). content_width (ops_by_position (ops_of b))) c.in_ok-of.ensures))
    c.new-circuit.result c.stepped_signals_over.new.gates c.in_ok-signals.signals.items
    (c.new-circuit.ensures ∙ ap (λ n. record { inputs = n; gates = [] }) (c.in_ok-sum.ensures ∙ ap₂ (λ a b. a + b) c.in_ok-free.ensures (c.in_ok-held.ensures ∙ ap (λ (b : Body). content_width (ops_by_position (ops_of b))) c.in_ok-of.ensures))) c.in_ok-signals.ensures
