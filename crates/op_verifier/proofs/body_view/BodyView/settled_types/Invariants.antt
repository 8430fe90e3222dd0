use Rattle.std.proofs.Common.{◌≡◌, map, option_map, take}
use Rattle.hw_model.specs.TypeViews.{type_of}
use Rattle.op_verifier.specs.BodyViews.{ports_viewed, body_viewed, ref_viewed}
use Rattle.op_verifier.specs.OpChecks.{settled_type}
use Rattle.op_verifier.proofs.body_view.BodyView.settled_types.Given as goal

abbrev pub invariant-loop-value : goal.invariant-loop-value
invariant-loop-value l =
    map (option_map (λ t. type_of t.now)) l.types.items
    ≡ map (settled_type (ports_viewed l.self) (body_viewed l.self)) (map (ref_viewed l.self) (take l.value-index l.operands))
