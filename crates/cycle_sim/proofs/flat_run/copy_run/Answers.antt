use Rattle.std.proofs.Common.{ap, ◌∙◌, sym, subst, slice_get}
use Rattle.std.specs.List.{All}
use Rattle.ir_store.specs.Designs.{design_of, module_of, numbered_module}
use Rattle.op_verifier.specs.Answered.{modules_verified}
use Rattle.flat_module_gates.proofs.StepMade.{alone_is}
use Rattle.step_file.specs.Answers.{IsWidth, steps_in}
use Rattle.cycle_sim.proofs.TableRuns.{inputs_words, registers_words, read_alike, can_run, flat_simulation, fault_alike}
use Rattle.cycle_sim.proofs.flat_run.copy_run.Goals as goal

pub read_steps-requires-clause-registers : goal.read_steps-requires-clause-registers
read_steps-requires-clause-registers c =
    let e = design_of c.args.copy.now.design in
    let one = numbered_module (module_of c.module-one.result.now) in
    let alone = alone_is (modules_verified c.args.copy.now) (module_of c.module-one.result.now) c.requires (c.module-one.ensures ∙ ap (λ ms. slice_get ms 0) c.design.ensures) in
    subst (All IsWidth) (sym (c.as_slice-held.ensures.value ∙ c.in_ok-registers.ensures)) (registers_words e one.symbol one alone.1)

pub read_steps-requires-clause-inputs : goal.read_steps-requires-clause-inputs
read_steps-requires-clause-inputs c =
    let e = design_of c.args.copy.now.design in
    let one = numbered_module (module_of c.module-one.result.now) in
    let alone = alone_is (modules_verified c.args.copy.now) (module_of c.module-one.result.now) c.requires (c.module-one.ensures ∙ ap (λ ms. slice_get ms 0) c.design.ensures) in
    subst (All IsWidth) (sym (c.as_slice-given.ensures.value ∙ c.in_ok-inputs.ensures)) (inputs_words e one.symbol one alone.1)

pub module_run-requires : goal.module_run-requires
module_run-requires c =
    let e = design_of c.args.copy.now.design in
    let one = numbered_module (module_of c.module-one.result.now) in
    let alone = alone_is (modules_verified c.args.copy.now) (module_of c.module-one.result.now) c.requires (c.module-one.ensures ∙ ap (λ ms. slice_get ms 0) c.design.ensures) in
    let read =
    read_alike one c.as_slice-held.result.now c.as_slice-given.result.now c.args.steps.now (c.as_slice-held.ensures.value ∙ c.in_ok-registers.ensures)
    (c.as_slice-given.ensures.value ∙ c.in_ok-inputs.ensures) ∙ c.in-Ok.ensures.ok in
    can_run e one.symbol one alone.1 c.args.steps.now (steps_in c.in-Ok.file) read

pub returns-in-Err-clause-err : goal.returns-in-Err-clause-err
returns-in-Err-clause-err c =
    let e = design_of c.args.copy.now.design in
    let one = numbered_module (module_of c.module-one.result.now) in
    let alone = alone_is (modules_verified c.args.copy.now) (module_of c.module-one.result.now) c.requires (c.module-one.ensures ∙ ap (λ ms. slice_get ms 0) c.design.ensures) in
    fault_alike e one alone.0 c.as_slice-held.result.now c.as_slice-given.result.now (c.as_slice-held.ensures.value ∙ c.in_ok-registers.ensures)
    (c.as_slice-given.ensures.value ∙ c.in_ok-inputs.ensures) c.args.steps.now c.in-Err.fail c.in-Err.ensures.err

pub returns-in-Ok-module_run-clause-ok : goal.returns-in-Ok-module_run-clause-ok
returns-in-Ok-module_run-clause-ok c =
    let e = design_of c.args.copy.now.design in
    let one = numbered_module (module_of c.module-one.result.now) in
    let alone = alone_is (modules_verified c.args.copy.now) (module_of c.module-one.result.now) c.requires (c.module-one.ensures ∙ ap (λ ms. slice_get ms 0) c.design.ensures) in
    let read =
    read_alike one c.as_slice-held.result.now c.as_slice-given.result.now c.args.steps.now (c.as_slice-held.ensures.value ∙ c.in_ok-registers.ensures)
    (c.as_slice-given.ensures.value ∙ c.in_ok-inputs.ensures) ∙ c.in-Ok.ensures.ok in
    flat_simulation e one alone.0 alone.1 c.args.steps.now (steps_in c.in-Ok.file) read c.in-Ok-module_run.text c.in-Ok-module_run.ensures
