-- What a plan is of.
use Rattle.std.specs.Prelude.{List}
use Rattle.hw_model.specs.Design.{Port, Op}
use Rattle.ir_store.specs.Bodies.{ops_of}
use Rattle.ir_store.specs.Designs.{ports_in}
use Rattle.ir_store.specs.Numbered.{ops_by_position}
use Rattle.flat_steps.specs.declared.plan.Plan.{Plan}

-- the ports of its module
abbrev pub ports_of : Plan → List Port
ports_of p = ports_in p.ports.now

-- the operations of its module
abbrev pub body_of : Plan → List Op
body_of p = ops_by_position (ops_of p.ops.body.now)
