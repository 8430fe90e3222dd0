use Rattle.std.proofs.Common.{◌<◌, ◌≤◌, ◌-◌, length, map, sym, ap, ◌∙◌, arith}
use Rattle.op_verifier.specs.declared.entries.Entry.{Entry}
use Rattle.ir_store.specs.BodyOps.{ids_in}
use Rattle.op_verifier.specs.Entries.{op_in}
use Rattle.op_verifier.proofs.Positions.{noted_before, count_ids, id_at}
use Rattle.op_verifier.proofs.body_view.positions.Goals as goal

pub loop-position-preserved : goal.loop-position-preserved
loop-position-preserved c =
    let es = c.args.entries.now in
    let position = c.loop-position.position in
    let within : position ≤ length es = c.loop-position.invariant.within in
    let some = c.loop-position-test.true in
    let less : position - 1 < length es = omega (arith, within, some) in
    let here : position ≤ length (ids_in (map op_in es)) = rw (count_ids es) within in
    let id = c.number-number.ensures ∙ ap (λ (e : Entry). e.id.index) (sym c.index-entries-position.is) ∙ id_at es (position - 1) c.index-entries-position.result less c.index-entries-position.is in
    record {
      within = omega (arith, within);
      noted = λ q. c.in_ok-note.ensures q ∙ noted_before (ids_in (map op_in es)) position c.number-number.result q _ some here id (c.loop-position.invariant.noted q);
    }
