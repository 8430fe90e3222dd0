use Rattle.ir_store.specs.Bodies.{ids_of}
use Rattle.canonicalise.proofs.Linked.{still_linked, joins_after}
use Rattle.canonicalise.proofs.Losing.{on_ok}
use Rattle.canonicalise.proofs.runs.Runs.join.Goals as goal

pub returns-then-len-clause-linked : goal.returns-then-len-clause-linked
returns-then-len-clause-linked c = still_linked c.args.self.now c.break_at.new.self (ids_of c.args.body.now) c.break_at.ensures.breaks c.requires

pub extend-requires-clause-linked : goal.extend-requires-clause-linked
extend-requires-clause-linked c = still_linked c.args.self.now c.break_at.new.self (ids_of c.args.body.now) c.break_at.ensures.breaks c.requires

pub open-requires-clause-linked : goal.open-requires-clause-linked
open-requires-clause-linked c = still_linked c.args.self.now c.break_at.new.self (ids_of c.args.body.now) c.break_at.ensures.breaks c.requires

pub returns-in-Some-clause-joins : goal.returns-in-Some-clause-joins
returns-in-Some-clause-joins c =
    on_ok c.extend.result (joins_after c.args.self.now c.break_at.new.self c.extend.new.self c.args.op.index c.break_at.ensures.breaks) c.extend.ensures.joins

pub returns-in_default-clause-joins : goal.returns-in_default-clause-joins
returns-in_default-clause-joins c =
    on_ok c.open.result (joins_after c.args.self.now c.break_at.new.self c.open.new.self c.args.op.index c.break_at.ensures.breaks) c.open.ensures.joins
