use Rattle.std.proofs.Common.{map, [], rules}
use Rattle.hw_model.specs.Design.{find_module}
use Rattle.hw_model.specs.Meaning.{outputs_of}
use Rattle.hw_interpreter.specs.DesignViews.{ref_of, module_of}
use Rattle.hw_interpreter.specs.Depth.{value_within}
use Rattle.hw_interpreter.proofs.Suiting.{nets_taken}
use Rattle.hw_interpreter.proofs.Within.{own_nets}
use Rattle.hw_interpreter.proofs.machine.output_word.Goals as goal

pub returns-clause-value : goal.returns-clause-value
returns-clause-value c =
    rw (
      ← c.top_operands.ensures,
      ← own_nets (value_within (map module_of c.args.at.now.modules.now) c.args.at.now.top.now c.args.at.now.inputs.now c.args.at.now.content.now c.args.depth) (map ref_of c.top_operands.result.now),
      ← c.in_ok-words.ensures.value,
      ← c.as_slice.ensures.value,
    ) c.in_ok-word.ensures

pub returns-in_err-words-clause-refuses : goal.returns-in_err-words-clause-refuses
returns-in_err-words-clause-refuses c is all =
    c.in_err-words.ensures.refuses (search rules)
    (λ n here. nets_taken (map module_of c.args.at.now.modules.now) c.args.at.now.top.now c.args.at.now.inputs.now c.args.at.now.content.now c.args.depth []
    (outputs_of (find_module (map module_of c.args.at.now.modules.now) c.args.at.now.top.now)) all n (rw (← c.top_operands.ensures) here))
