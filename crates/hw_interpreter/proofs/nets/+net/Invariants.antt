use Rattle.std.proofs.Common.{◌≡◌, ◌+◌, ◌*◌, take, map}
use Rattle.hw_model.specs.Flat.{net}
use Rattle.hw_interpreter.specs.DesignViews.{ref_of, module_of}
use Rattle.hw_interpreter.specs.Depth.{value_within}
use Rattle.hw_interpreter.proofs.nets.+net.Given as goal

abbrev pub decreases-net_value : goal.decreases-net_value
decreases-net_value l = 6 * l.depth

abbrev pub decreases-copied_value : goal.decreases-copied_value
decreases-copied_value l = 6 * l.depth + 1

abbrev pub decreases-given_value : goal.decreases-given_value
decreases-given_value l = 6 * l.depth + 1

abbrev pub decreases-operand_values : goal.decreases-operand_values
decreases-operand_values l = 6 * l.depth + 1

abbrev pub decreases-made_value : goal.decreases-made_value
decreases-made_value l = 6 * l.depth + 2

abbrev pub decreases-operation_value : goal.decreases-operation_value
decreases-operation_value l = 6 * l.depth + 3

abbrev pub decreases-result_value : goal.decreases-result_value
decreases-result_value l = 6 * l.depth + 4

abbrev pub decreases-port_value : goal.decreases-port_value
decreases-port_value l = 6 * l.depth + 4

abbrev pub invariant-operand_values-loop-operand : goal.invariant-operand_values-loop-operand
invariant-operand_values-loop-operand l =
    l.words.items ≡ map (value_within (map module_of l.at.modules.now) l.at.top.now l.at.inputs.now l.at.content.now l.depth) (map (net l.path) (map ref_of (take l.operand-index l.operands)))
