use Rattle.std.proofs.Common.{◌∷◌, [], ◌++◌, sym, ap, ◌∙◌}
use Rattle.std.specs.Prelude.{codes, option_map}
use Rattle.export_verilog.specs.Layout.{item_text, block_text}
use Rattle.export_verilog.specs.WrittenViews.{reset_of, block_held}
use Rattle.export_verilog.proofs.text.Rests.{four_parts}
use Rattle.export_verilog.proofs.text.WrittenItems.{written_event}
use Rattle.export_verilog.proofs.always_blocks.push_always.Goals as goal

pub returns : goal.returns
unfolding item_text
returns c =
    four_parts c.args.out.now c.push_bytes.new.self c.push_bytes-2.new.self c.push_bytes-3.new.self c.push_block.new.out
    (codes "  always @(posedge ") c.args.clock.now (41 ∷ 10 ∷ []) (block_text (block_held c.args.block.now) [])
    c.in_ok-push_bytes.ensures.ok c.in_ok-push_bytes-2.ensures.ok c.in_ok-push_bytes-3.ensures.ok c.in_ok-push_block.ensures
    ∙ ap (λ x. c.args.out.now ++ (codes "  always @(posedge " ++ (c.args.clock.now ++ x)))
    (sym (written_event c.args.block.now.target.now c.args.block.now.next.now (option_map (λ e. e.now) c.args.block.now.enable) (option_map reset_of c.args.block.now.reset) (block_text (block_held c.args.block.now) [])))
