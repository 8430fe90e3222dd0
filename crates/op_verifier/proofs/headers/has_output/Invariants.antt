use Rattle.std.proofs.Common.{◌≡◌, map, drop}
use Rattle.ir_store.specs.Numbered.{op_by}
use Rattle.op_verifier.specs.Entries.{op_in}
use Rattle.op_verifier.specs.BodyViews.{position_viewed, body_viewed}
use Rattle.op_verifier.specs.Headers.{has_output}
use Rattle.op_verifier.proofs.headers.has_output.Given as goal

abbrev pub invariant-loop-entry : goal.invariant-loop-entry
invariant-loop-entry l =
    has_output (body_viewed l.view) ≡ has_output (map (op_by (position_viewed l.view)) (map op_in (drop l.entry-index l.view.entries.items)))
