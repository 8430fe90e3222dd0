use Rattle.std.proofs.Common.{◌≡◌, map, drop}
use Rattle.op_verifier.specs.BodyViews.{ports_viewed, body_viewed, ref_viewed}
use Rattle.op_verifier.specs.OpChecks.{has_undefined}
use Rattle.op_verifier.proofs.body_view.BodyView.has_undefined.Given as goal

abbrev pub invariant-loop-value : goal.invariant-loop-value
invariant-loop-value l =
    has_undefined (ports_viewed l.self) (body_viewed l.self) (map (ref_viewed l.self) l.operands)
    ≡ has_undefined (ports_viewed l.self) (body_viewed l.self) (map (ref_viewed l.self) (drop l.value-index l.operands))
