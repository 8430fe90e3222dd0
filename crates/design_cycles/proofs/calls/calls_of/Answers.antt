use Rattle.std.proofs.Common.{map, ap, ◌∙◌}
use Rattle.ir_store.specs.Bodies.{ops_of}
use Rattle.ir_store.specs.Numbered.{ops_by_position}
use Rattle.ir_store.specs.Designs.{StoredModule, modules_of}
use Rattle.design_cycles.proofs.Callees.{calls_with, calls_without}
use Rattle.design_cycles.proofs.calls.calls_of.Goals as goal
use Rattle.design_cycles.proofs.calls.calls_of.Goals.{in-Some+in_ok-push, in_default}

pub loop-position-preserved : goal.loop-position-preserved
loop-position-preserved c =
    elim c.match-callee_of.branch [
      | in-Some+in_ok-push w ↦
          calls_with (map (λ (m : StoredModule). m.symbol) (modules_of c.args.design.now)) (ops_by_position (ops_of c.args.body.now)) c.loop-position.position w.in-Some.number
          c.match-callee_of.nodes.items c.loop-position.nodes.items c.callee_of.result c.callee_of.ensures w.in-Some.is c.loop-position.invariant
          (ap (λ v. v.items) w.nodes-is ∙ w.in_ok-push.ensures.items)
      | in_default w ↦
          calls_without (map (λ (m : StoredModule). m.symbol) (modules_of c.args.design.now)) (ops_by_position (ops_of c.args.body.now)) c.loop-position.position
          c.match-callee_of.nodes.items c.loop-position.nodes.items c.callee_of.result c.callee_of.ensures w.in_default.is c.loop-position.invariant (ap (λ v. v.items) w.nodes-is)
    ]
