use Rattle.std.proofs.Common.{◌≡◌, sym, ap, ◌∙◌, length, map, slice_get}
use Rattle.graphs.proofs.Lists.{written_back}
use Rattle.body_index.specs.OpIndexes.{op_view}
use Rattle.flat_steps.specs.Tables.{put, word_in, made}
use Rattle.flat_steps.specs.Plans.{body_of}
use Rattle.flat_steps.proofs.Putting.{with_made}
use Rattle.flat_steps.proofs.CellWords.{put_length}
use Rattle.flat_steps.proofs.steps.settle_at.Goals as goal

pub returns : goal.returns
returns c =
    let o = op_view c.args.plan.now.ops.body.now c.op_at-op.result in
    let i = c.args.position in
    let ports = c.args.ports.now in
    let old = c.args.results.now.items in
    let word = c.in_ok-word.word in
    let is : c.put.new.table ≡ put old i word = c.put.ensures ∙ ap (λ t. put t i word) c.deref_mut.ensures.value in
    let long : length c.put.new.table ≡ length old = ap length is ∙ put_length old i word in
    let own : word ≡ made o (map (word_in ports old) o.operands) = c.in_ok-word.ensures ∙ ap (λ rs. made o (map (word_in ports rs) o.operands)) c.as_slice.ensures.value in
    written_back c.args.results.now.len c.put.new.table old c.args.results.now.ok.0 long ∙ is ∙ ap (put old i) own
    ∙ with_made ports old i (slice_get (body_of c.args.plan.now) i) o c.op_at-op.ensures (sym c.stands_anywhere.ensures ∙ c.if-stands_anywhere.false)
