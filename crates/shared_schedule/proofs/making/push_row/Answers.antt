use Rattle.std.proofs.Common.{◌≡◌, ◌<◌, slice_index, refl, map, length, ap, ◌∙◌, length-set, arith}
use Rattle.std.proofs.lemmas.List.{length-map}
use Rattle.shared_schedule.proofs.Callers.{row-pushed}
use Rattle.shared_schedule.proofs.making.push_row.Goals as goal

pub loop-i-preserved : goal.loop-i-preserved
loop-i-preserved c =
    let old : length (map (λ row. row.items) c.loop-i.rows.items) ≡ length c.loop-i.rows.items = length-map c.loop-i.rows.items (λ row. row.items) in
    let new : length (map (λ row. row.items) c.push_caller.new.rows.items) ≡ length c.push_caller.new.rows.items = length-map c.push_caller.new.rows.items (λ row. row.items) in
    let size : length (map (λ row. row.items) c.push_caller.new.rows.items) ≡ length (map (λ row. row.items) c.loop-i.rows.items) = ap length c.in_ok-push_caller.ensures ∙ length-set _ _ _ in
    let within : slice_index c.args.row.now c.loop-i.i < length c.args.rows.now.items = c.requires.within c.loop-i.i c.loop-i-test.true in
    record {
      size = omega (arith, c.loop-i.invariant.size);
      counts = row-pushed (map (λ row. row.items) c.loop-i.rows.items) (map (λ row. row.items) c.push_caller.new.rows.items) (map (λ row. row.items) c.args.rows.now.items) _ c.args.c c.loop-i.i c.args.row.now
          c.in_ok-push_caller.ensures (omega (arith, c.loop-i.invariant.size)) refl c.loop-i.invariant.counts;
    }
