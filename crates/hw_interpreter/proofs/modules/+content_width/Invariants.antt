use Rattle.std.proofs.Common.{◌≡◌, ◌+◌, ◌*◌, drop, map}
use Rattle.hw_model.specs.Flat.{body_state, module_state}
use Rattle.hw_interpreter.specs.DesignViews.{op_of, module_of}
use Rattle.hw_interpreter.proofs.modules.+content_width.Given as goal

abbrev pub decreases-module_state : goal.decreases-module_state
decreases-module_state l = 3 * l.depth

abbrev pub decreases-op_state : goal.decreases-op_state
decreases-op_state l = 3 * l.depth + 1

abbrev pub decreases-body_state : goal.decreases-body_state
decreases-body_state l = 3 * l.depth + 2

abbrev pub invariant-body_state-loop-operation : goal.invariant-body_state-loop-operation
invariant-body_state-loop-operation l =
    l.sum + body_state (module_state l.depth (map module_of l.modules)) (map op_of (drop l.operation-index l.body))
    ≡ body_state (module_state l.depth (map module_of l.modules)) (map op_of l.body)
