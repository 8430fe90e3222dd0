use Rattle.std.proofs.Common.{◌∷◌, []}
use Rattle.std.specs.Prelude.{codes}
use Rattle.export_verilog.specs.Written.{events_text}
use Rattle.export_verilog.proofs.text.Rests.{five_parts}
use Rattle.export_verilog.proofs.always_blocks.push_events.Goals as goal

pub returns : goal.returns
unfolding events_text
returns c =
    five_parts c.args.out.now c.push_bytes.new.self c.push_bytes-2.new.self c.push_bytes-3.new.self c.push_bytes-4.new.self c.push_bytes-5.new.self
    (codes "  always @(posedge ") c.args.clock.now (codes " or posedge ") c.args.signal.now (41 ∷ 10 ∷ [])
    c.in_ok-push_bytes.ensures.ok c.in_ok-push_bytes-2.ensures.ok c.in_ok-push_bytes-3.ensures.ok c.in_ok-push_bytes-4.ensures.ok c.in_ok-push_bytes-5.ensures.ok
