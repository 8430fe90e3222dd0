use Rattle.std.proofs.Common.{◌≡◌, sym, subst, ap, ◌∙◌, length, slice_get, IfOk, arith}
use Rattle.hw_model.specs.Design.{Module}
use Rattle.ir_store.specs.Designs.{module_of}
use Rattle.op_verifier.specs.Answered.{modules_verified}
use Rattle.aiger_circuits.specs.CircuitTexts.{tree_text}
use Rattle.aiger_export.specs.BitNames.{bit_symbols}
use Rattle.aiger_export.specs.Exports.{step_tree}
use Rattle.aiger_export.proofs.StepTexts.{some_there, same_one, inputs_are, signals_are}
use Rattle.aiger_export.proofs.step_text.step_text.Goals as goal

pub module-one-requires : goal.module-one-requires
module-one-requires c =
    let made = c.args.made.now in
    let some = some_there (modules_verified made.copy) made.step.circuit made.step.signals.items c.requires in
    let same = ap length c.design.ensures in
    omega (arith, some, same)

pub module_text-requires-clause-inputs : goal.module_text-requires-clause-inputs
module_text-requires-clause-inputs c =
    let made = c.args.made.now in
    inputs_are (modules_verified made.copy) made.step.circuit made.step.signals.items c.requires (module_of c.module-one.result.now)
    (c.module-one.ensures ∙ ap (λ ns. slice_get ns 0) c.design.ensures)

pub module_text-requires-clause-signals : goal.module_text-requires-clause-signals
module_text-requires-clause-signals c =
    let made = c.args.made.now in
    signals_are (modules_verified made.copy) made.step.circuit made.step.signals.items c.requires (module_of c.module-one.result.now)
    (c.module-one.ensures ∙ ap (λ ns. slice_get ns 0) c.design.ensures)

pub returns : goal.returns
returns c = λ is.
    let made = c.args.made.now in
    let same = same_one (modules_verified made.copy) made.step.circuit made.step.signals.items is (module_of c.module-one.result.now) (c.module-one.ensures ∙ ap (λ ns. slice_get ns 0) c.design.ensures) in
    subst (λ (m : Module). IfOk c.module_text.result (λ text. text ≡ tree_text (step_tree m made.step.circuit made.step.signals.items) (bit_symbols m.ports m.body))) (sym same) c.module_text.ensures
