use Rattle.std.proofs.Common.{◌≡◌, length, drop}
use Rattle.ir_store.specs.Bodies.{ops_of, ids_of}
use Rattle.inline_laws.specs.Unwire.{unwire}
use Rattle.body_edits.specs.Views.{body_ops}
use Rattle.body_edits.specs.WiresOut.{StandTogether, first_position, ids_without}
use Rattle.inline_pass.proofs.body_changes.take_wires_out.Given as goal

abbrev pub invariant-loop-wire : goal.invariant-loop-wire
invariant-loop-wire l = record {
  together : StandTogether (drop l.wire-index l.wires) (ops_of l.body);
  left : unwire (first_position (ids_of l.body) (drop l.wire-index l.wires)) (length (drop l.wire-index l.wires)) (body_ops l.body)
      ≡ unwire (first_position (ids_of l.fn.body) l.wires) (length l.wires) (body_ops l.fn.body);
  ids : ids_without (drop l.wire-index l.wires) (ids_of l.body) ≡ ids_without l.wires (ids_of l.fn.body);
}
