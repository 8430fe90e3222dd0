use Rattle.std.proofs.Common.{map, subst, arith, rules}
use Rattle.hw_model.specs.Flat.{net, port_source}
use Rattle.hw_interpreter.specs.DesignViews.{ref_of, module_of}
use Rattle.hw_interpreter.specs.Depth.{value_within}
use Rattle.hw_interpreter.specs.SuitsWithin.{SuitsSource}
use Rattle.hw_interpreter.proofs.Counts.{none_below}
use Rattle.hw_interpreter.proofs.Steps.{within_more}
use Rattle.hw_interpreter.proofs.Suiting.{suits_more, operand_in}
use Rattle.hw_interpreter.proofs.nets.+net.Goals as goal

pub net_value-returns-in-Port-clause-value : goal.net_value-returns-in-Port-clause-value
net_value-returns-in-Port-clause-value t c =
    rw (
      within_more (map module_of c.args.at.now.modules.now) c.args.at.now.top.now c.args.at.now.inputs.now c.args.at.now.content.now c.args.depth (net c.args.path.now (ref_of c.args.operand)) (omega arith),
      c.in-Port.is,
    ) c.port_value.ensures.value

pub net_value-returns-in-Port-clause-refuses : goal.net_value-returns-in-Port-clause-refuses
net_value-returns-in-Port-clause-refuses t c is suit =
    let more = suits_more (map module_of c.args.at.now.modules.now) c.args.at.now.top.now c.args.at.now.inputs.now c.args.at.now.content.now c.args.depth (net c.args.path.now (ref_of c.args.operand)) (omega arith) suit in
    c.port_value.ensures.refuses is (rw c.in-Port.is at more)

pub net_value-returns-in-OpResult-clause-value : goal.net_value-returns-in-OpResult-clause-value
net_value-returns-in-OpResult-clause-value t c =
    rw (
      within_more (map module_of c.args.at.now.modules.now) c.args.at.now.top.now c.args.at.now.inputs.now c.args.at.now.content.now c.args.depth (net c.args.path.now (ref_of c.args.operand)) (omega arith),
      c.in-OpResult.is,
    ) c.result_value.ensures.value

pub net_value-returns-in-OpResult-clause-refuses : goal.net_value-returns-in-OpResult-clause-refuses
net_value-returns-in-OpResult-clause-refuses t c is suit =
    let more = suits_more (map module_of c.args.at.now.modules.now) c.args.at.now.top.now c.args.at.now.inputs.now c.args.at.now.content.now c.args.depth (net c.args.path.now (ref_of c.args.operand)) (omega arith) suit in
    c.result_value.ensures.refuses is (rw c.in-OpResult.is at more)

pub made_value-returns-in_ok-words-in-Some-clause-value : goal.made_value-returns-in_ok-words-in-Some-clause-value
made_value-returns-in_ok-words-in-Some-clause-value t c =
    rw (← c.is_output.ensures, c.if-is_output.false, ← c.in-Some.ensures, ← c.as_slice.ensures.value, ← c.in_ok-words-in-Some.ensures.value, ← c.as_slice-in-Some-2.ensures.value, ← c.as_slice-in-Some.ensures.value) c.value_of.ensures.value

pub made_value-returns-in_ok-words-in-Some-clause-refuses : goal.made_value-returns-in_ok-words-in-Some-clause-refuses
made_value-returns-in_ok-words-in-Some-clause-refuses t c =
    rw (← c.is_output.ensures, c.if-is_output.false, ← c.in-Some.ensures, ← c.as_slice.ensures.value, ← c.in_ok-words-in-Some.ensures.value, ← c.as_slice-in-Some-2.ensures.value, ← c.as_slice-in-Some.ensures.value)
    (λ is suit. c.value_of.ensures.refuses is suit.0)

pub operand_values-returns-in_err-word-clause-refuses : goal.operand_values-returns-in_err-word-clause-refuses
operand_values-returns-in_err-word-clause-refuses t c is all =
    c.in_err-word.ensures.refuses (search rules) (all _ (operand_in c.args.path.now c.args.operands.now c.loop-operand.operand-index _ (omega (arith, c.loop-operand-test.true))))

pub port_value-returns-in_err-input_range-in-empty-clause-refuses : goal.port_value-returns-in_err-input_range-in-empty-clause-refuses
port_value-returns-in_err-input_range-in-empty-clause-refuses t c is suit =
    let inner = value_within (map module_of c.args.at.now.modules.now) c.args.at.now.top.now c.args.at.now.inputs.now c.args.at.now.content.now c.args.depth in
    c.in_err-input_range-in-empty.ensures.refuses inner
    (subst (λ p. SuitsSource inner (port_source (map module_of c.args.at.now.modules.now) c.args.at.now.top.now p c.args.port)) (none_below c.args.path.now c.in-empty.len_below) suit.0)
