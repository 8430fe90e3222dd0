use Rattle.std.proofs.Common.{◌≡◌, drop}
use Rattle.ir_store.specs.Designs.{design_of}
use Rattle.op_verifier.specs.BodyViews.{ports_viewed, body_viewed}
use Rattle.op_verifier.specs.Faults.{body_fault}
use Rattle.op_verifier.proofs.faults.body_fault.Given as goal

abbrev pub invariant-loop-position : goal.invariant-loop-position
invariant-loop-position l =
    body_fault (design_of l.design) (ports_viewed l.view) (body_viewed l.view) (body_viewed l.view)
    ≡ body_fault (design_of l.design) (ports_viewed l.view) (body_viewed l.view) (drop l.position (body_viewed l.view))
