use Rattle.std.proofs.Common.{sym, ◌∙◌}
use Rattle.ir_store.specs.Bodies.{ids_of}
use Rattle.canonicalise.proofs.Linked.{is_next_found}
use Rattle.canonicalise.proofs.runs.is_next.Goals as goal

pub returns-in-Some : goal.returns-in-Some
returns-in-Some c = λ same.
    is_next_found (ids_of c.args.body.now) c.args.op.index c.in-Some.other c.args.next (sym c.eq.ensures ∙ same) (c.contains.ensures.0 c.if-not-contains.false) c.in-Some.ensures
