use Rattle.std.proofs.Common.{[]}
use Rattle.export_verilog.specs.Layout.{item_text, event_text, block_text}
use Rattle.export_verilog.specs.Written.{written_async}
use Rattle.export_verilog.proofs.text.RegisterItems.{events_added}
use Rattle.export_verilog.proofs.always_blocks.push_async.Goals as goal

pub returns : goal.returns
unfolding item_text event_text block_text
returns c =
    events_added c.args.out.now c.push_events.new.out c.push_block.new.out c.args.clock.now c.args.signal.now
    (block_text (written_async c.args.target.now c.args.next.now (record { signal = c.args.signal.now; value = c.args.value.now })) [])
    c.in_ok-push_events.ensures c.in_ok-push_block.ensures
