use Rattle.std.proofs.Common.{◌≡◌, ◌≤◌, false, map, take}
use Rattle.hw_model.specs.Flat.{input_count, port_ref}
use Rattle.ir_store.specs.Designs.{port_of}
use Rattle.port_checks.specs.Marked.{has_reset}
use Rattle.op_verifier.specs.BodyViews.{ports_viewed, ref_viewed}
use Rattle.op_verifier.specs.ResetChecks.{joins_other}
use Rattle.op_verifier.proofs.body_view.BodyView.joins_other_among.Given as goal

abbrev pub invariant-loop-number : goal.invariant-loop-number
invariant-loop-number l = record {
  few : l.inputs ≤ l.number;
  counted : l.inputs ≡ input_count (take l.number (map port_of l.ports));
  none : joins_other (has_reset l.resets l.owner) (ports_viewed l.self) (port_ref (map port_of l.ports) (map (ref_viewed l.self) l.operands)) l.number ≡ false;
}
