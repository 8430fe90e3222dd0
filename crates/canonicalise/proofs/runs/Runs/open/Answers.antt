use Rattle.std.proofs.Common.{true, refl, ◌∙◌, arith}
use Rattle.ir_store.specs.Bodies.{ids_of}
use Rattle.canonicalise.specs.declared.runs.Run.{Run}
use Rattle.canonicalise.proofs.Linked.{opened, opened_joins}
use Rattle.canonicalise.proofs.runs.Runs.open.Goals as goal

pub returns-clause-linked : goal.returns-clause-linked
returns-clause-linked c =
    let run : Run = record { last = c.args.op; size = 1; whole = true } in
    opened c.args.self.now c.put.new.self (ids_of c.args.body.now) c.args.op c.len-number.result c.requires.linked c.requires.none c.in_ok-put.ensures.of c.in_ok-put.ensures.others c.in_ok-put.ensures.only run refl
    (c.put.ensures.runs ∙ c.in_ok-push.ensures.items) (omega (arith, c.len-number.ensures, c.args.self.now.runs.ok.0))

pub returns-clause-joins : goal.returns-clause-joins
returns-clause-joins c =
    let run : Run = record { last = c.args.op; size = 1; whole = true } in
    opened_joins c.args.self.now c.put.new.self (ids_of c.args.body.now) c.args.op c.len-number.result c.requires.linked c.requires.none c.in_ok-put.ensures.of c.in_ok-put.ensures.others c.in_ok-put.ensures.only run refl
    (c.put.ensures.runs ∙ c.in_ok-push.ensures.items) (omega (arith, c.len-number.ensures, c.args.self.now.runs.ok.0))
