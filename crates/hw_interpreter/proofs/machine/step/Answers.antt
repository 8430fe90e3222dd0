use Rattle.std.proofs.Common.{◌≡◌, ℕ, List, [], map, ap, sym, subst, ◌∙◌, rules}
use mathlib.Core.Path.{subst₂}
use Rattle.wiring.specs.Wiring.{In}
use Rattle.bits_core.specs.Word.{Word}
use Rattle.hw_model.specs.Types.{Name}
use Rattle.hw_model.specs.Design.{Design, find_module}
use Rattle.hw_model.specs.Flat.{Slot, register_in, registers}
use Rattle.hw_model.specs.Meaning.{next_content, risen_content, outputs_of, outputs}
use Rattle.hw_interpreter.specs.DesignViews.{module_of}
use Rattle.hw_interpreter.specs.Depth.{value_within, risen_within}
use Rattle.hw_interpreter.specs.Registers.{slot_of}
use Rattle.hw_interpreter.specs.SuitsWithin.{TakesRefs, register_refs}
use Rattle.hw_interpreter.proofs.Contents.{register_counted}
use Rattle.hw_interpreter.proofs.Suiting.{step_taken}
use Rattle.hw_interpreter.proofs.Within.{step_within}
use Rattle.hw_interpreter.proofs.machine.step.Goals as goal

-- what the code holds after the first phase is the registers' content then
risen_is : (d : Design) (top : Name) (before inputs content : Word) (depth : ℕ) (seen risen : Word) (slots : List Slot) → seen ≡ risen
    → risen ≡ risen_content slots (value_within d top before content depth) (value_within d top inputs content depth) content
    → slots ≡ registers d top → seen ≡ risen_within d top before inputs content depth
risen_is d top before inputs content depth seen risen slots same is all =
    same ∙ is ∙ ap (λ ss. risen_content ss (value_within d top before content depth) (value_within d top inputs content depth) content) all

pub returns-clause-content : goal.returns-clause-content
returns-clause-content c =
    let rises = (risen_is (map module_of c.args.at.now.modules.now) c.args.at.now.top.now c.args.before.now c.args.at.now.inputs.now c.args.at.now.content.now c.args.depth c.as_slice-2.result.now c.in_ok-risen.risen (map slot_of c.as_slice.result.now) c.as_slice-2.ensures c.in_ok-risen.ensures.value (ap (map slot_of) c.as_slice.ensures.value ∙ c.in_ok-slots.ensures.value)) in
    subst₂ (λ ss w. c.in_ok-content.content ≡ next_content ss (value_within (map module_of c.args.at.now.modules.now) c.args.at.now.top.now c.args.at.now.inputs.now w c.args.depth) w)
    (ap (map slot_of) c.as_slice-3.ensures.value ∙ c.in_ok-slots.ensures.value) rises c.in_ok-content.ensures.value

pub returns-clause-holds : goal.returns-clause-holds
returns-clause-holds c reaches =
    let rises = (risen_is (map module_of c.args.at.now.modules.now) c.args.at.now.top.now c.args.before.now c.args.at.now.inputs.now c.args.at.now.content.now c.args.depth c.as_slice-2.result.now c.in_ok-risen.risen (map slot_of c.as_slice.result.now) c.as_slice-2.ensures c.in_ok-risen.ensures.value (ap (map slot_of) c.as_slice.ensures.value ∙ c.in_ok-slots.ensures.value)) in
    step_within (map module_of c.args.at.now.modules.now) c.args.at.now.top.now c.args.depth reaches c.args.before.now c.args.at.now.inputs.now c.args.at.now.content.now
    c.in_ok-outputs.outputs c.in_ok-content.content
    (subst (λ w. c.in_ok-outputs.outputs ≡ outputs (map module_of c.args.at.now.modules.now) c.args.at.now.top.now
    (value_within (map module_of c.args.at.now.modules.now) c.args.at.now.top.now c.args.at.now.inputs.now w c.args.depth)) rises c.in_ok-outputs.ensures.value)
    (subst₂ (λ ss w. c.in_ok-content.content ≡ next_content ss (value_within (map module_of c.args.at.now.modules.now) c.args.at.now.top.now c.args.at.now.inputs.now w c.args.depth) w)
    (ap (map slot_of) c.as_slice-3.ensures.value ∙ c.in_ok-slots.ensures.value) rises c.in_ok-content.ensures.value)

pub returns-in_err-risen-clause-refuses : goal.returns-in_err-risen-clause-refuses
returns-in_err-risen-clause-refuses c is takes =
    c.in_err-risen.ensures.refuses (search rules)
    (λ s here. register_counted (map module_of c.args.at.now.modules.now) c.args.at.now.top.now takes.numbers.content s (subst (In s) (ap (map slot_of) c.as_slice.ensures.value ∙ c.in_ok-slots.ensures.value) here))
    (λ s here. takes.earlier_nets s (subst (In s) (ap (map slot_of) c.as_slice.ensures.value ∙ c.in_ok-slots.ensures.value) here))
    (λ s here. takes.reset_nets s (subst (In s) (ap (map slot_of) c.as_slice.ensures.value ∙ c.in_ok-slots.ensures.value) here))

pub returns-in_err-outputs-clause-refuses : goal.returns-in_err-outputs-clause-refuses
returns-in_err-outputs-clause-refuses c is takes =
    let rises = (risen_is (map module_of c.args.at.now.modules.now) c.args.at.now.top.now c.args.before.now c.args.at.now.inputs.now c.args.at.now.content.now c.args.depth c.as_slice-2.result.now c.in_ok-risen.risen (map slot_of c.as_slice.result.now) c.as_slice-2.ensures c.in_ok-risen.ensures.value (ap (map slot_of) c.as_slice.ensures.value ∙ c.in_ok-slots.ensures.value)) in
    c.in_err-outputs.ensures.refuses (search rules)
    (subst (λ w. TakesRefs (map module_of c.args.at.now.modules.now) c.args.at.now.top.now c.args.at.now.inputs.now w c.args.depth []
    (outputs_of (find_module (map module_of c.args.at.now.modules.now) c.args.at.now.top.now))) (sym rises) takes.output_nets)

pub returns-in_err-content-clause-refuses : goal.returns-in_err-content-clause-refuses
returns-in_err-content-clause-refuses c is takes =
    let rises = (risen_is (map module_of c.args.at.now.modules.now) c.args.at.now.top.now c.args.before.now c.args.at.now.inputs.now c.args.at.now.content.now c.args.depth c.as_slice-2.result.now c.in_ok-risen.risen (map slot_of c.as_slice.result.now) c.as_slice-2.ensures c.in_ok-risen.ensures.value (ap (map slot_of) c.as_slice.ensures.value ∙ c.in_ok-slots.ensures.value)) in
    c.in_err-content.ensures.refuses (search rules)
    (λ s here. register_counted (map module_of c.args.at.now.modules.now) c.args.at.now.top.now takes.numbers.content s (subst (In s) (ap (map slot_of) c.as_slice-3.ensures.value ∙ c.in_ok-slots.ensures.value) here))
    (λ s here. subst (λ w. TakesRefs (map module_of c.args.at.now.modules.now) c.args.at.now.top.now c.args.at.now.inputs.now w c.args.depth s.path (register_refs (register_in s.op))) (sym rises)
    (takes.register_nets s (subst (In s) (ap (map slot_of) c.as_slice-3.ensures.value ∙ c.in_ok-slots.ensures.value) here)))

pub returns-in_err-slots-clause-settles : goal.returns-in_err-slots-clause-settles
returns-in_err-slots-clause-settles c is reaches maps numbers = c.in_err-slots.ensures.refuses (search rules) numbers.instances

pub returns-in_err-risen-clause-settles : goal.returns-in_err-risen-clause-settles
returns-in_err-risen-clause-settles c is reaches maps numbers =
    let takes = step_taken (map module_of c.args.at.now.modules.now) c.args.at.now.top.now c.args.depth reaches numbers c.args.before.now c.args.at.now.inputs.now c.args.at.now.content.now maps in
    c.in_err-risen.ensures.refuses (search rules)
    (λ s here. register_counted (map module_of c.args.at.now.modules.now) c.args.at.now.top.now numbers.content s (subst (In s) (ap (map slot_of) c.as_slice.ensures.value ∙ c.in_ok-slots.ensures.value) here))
    (λ s here. takes.earlier_nets s (subst (In s) (ap (map slot_of) c.as_slice.ensures.value ∙ c.in_ok-slots.ensures.value) here))
    (λ s here. takes.reset_nets s (subst (In s) (ap (map slot_of) c.as_slice.ensures.value ∙ c.in_ok-slots.ensures.value) here))

pub returns-in_err-outputs-clause-settles : goal.returns-in_err-outputs-clause-settles
returns-in_err-outputs-clause-settles c is reaches maps numbers =
    let rises = (risen_is (map module_of c.args.at.now.modules.now) c.args.at.now.top.now c.args.before.now c.args.at.now.inputs.now c.args.at.now.content.now c.args.depth c.as_slice-2.result.now c.in_ok-risen.risen (map slot_of c.as_slice.result.now) c.as_slice-2.ensures c.in_ok-risen.ensures.value (ap (map slot_of) c.as_slice.ensures.value ∙ c.in_ok-slots.ensures.value)) in
    let takes = step_taken (map module_of c.args.at.now.modules.now) c.args.at.now.top.now c.args.depth reaches numbers c.args.before.now c.args.at.now.inputs.now c.args.at.now.content.now maps in
    c.in_err-outputs.ensures.refuses (search rules)
    (subst (λ w. TakesRefs (map module_of c.args.at.now.modules.now) c.args.at.now.top.now c.args.at.now.inputs.now w c.args.depth []
    (outputs_of (find_module (map module_of c.args.at.now.modules.now) c.args.at.now.top.now))) (sym rises) takes.output_nets)

pub returns-in_err-content-clause-settles : goal.returns-in_err-content-clause-settles
returns-in_err-content-clause-settles c is reaches maps numbers =
    let rises = (risen_is (map module_of c.args.at.now.modules.now) c.args.at.now.top.now c.args.before.now c.args.at.now.inputs.now c.args.at.now.content.now c.args.depth c.as_slice-2.result.now c.in_ok-risen.risen (map slot_of c.as_slice.result.now) c.as_slice-2.ensures c.in_ok-risen.ensures.value (ap (map slot_of) c.as_slice.ensures.value ∙ c.in_ok-slots.ensures.value)) in
    let takes = step_taken (map module_of c.args.at.now.modules.now) c.args.at.now.top.now c.args.depth reaches numbers c.args.before.now c.args.at.now.inputs.now c.args.at.now.content.now maps in
    c.in_err-content.ensures.refuses (search rules)
    (λ s here. register_counted (map module_of c.args.at.now.modules.now) c.args.at.now.top.now numbers.content s (subst (In s) (ap (map slot_of) c.as_slice-3.ensures.value ∙ c.in_ok-slots.ensures.value) here))
    (λ s here. subst (λ w. TakesRefs (map module_of c.args.at.now.modules.now) c.args.at.now.top.now c.args.at.now.inputs.now w c.args.depth s.path (register_refs (register_in s.op))) (sym rises)
    (takes.register_nets s (subst (In s) (ap (map slot_of) c.as_slice-3.ensures.value ∙ c.in_ok-slots.ensures.value) here)))
