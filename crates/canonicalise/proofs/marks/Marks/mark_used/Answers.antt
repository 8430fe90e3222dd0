use Rattle.ir_store.specs.UsesLeft.{uses_left}
use Rattle.canonicalise.proofs.Losing.{loses_self}
use Rattle.canonicalise.proofs.Marking.{none_left, some_left, apart_one, apart_many}
use Rattle.canonicalise.proofs.marks.Marks.mark_used.Goals as goal

pub returns-then-is_none-clause-marked : goal.returns-then-is_none-clause-marked
returns-then-is_none-clause-marked c = λ id settled.
    let marked = c.mark.ensures.marked id settled in (
      marked.0,
      apart_one c.args.body.now c.args.op c.requires (uses_left c.uses-uses.result) c.uses-uses.ensures.uses c.in-Some.position (uses_left c.next.new.self) id c.in-Some.ensures.steps
          (none_left c.next-in-Some.result (uses_left c.next.new.self) (uses_left c.next-in-Some.new.self) c.is_none.result c.is_none.ensures c.if-is_none.true c.next-in-Some.ensures.steps) marked.1,
    )

pub returns-else-is_none-clause-marked : goal.returns-else-is_none-clause-marked
returns-else-is_none-clause-marked c = λ id settled. (
  settled,
  apart_many c.args.body.now c.args.op c.requires (uses_left c.uses-uses.result) c.uses-uses.ensures.uses c.in-Some.position (uses_left c.next.new.self) id c.in-Some.ensures.steps
      (some_left c.next-in-Some.result (uses_left c.next.new.self) (uses_left c.next-in-Some.new.self) c.is_none.result c.is_none.ensures c.if-is_none.false c.next-in-Some.ensures.steps),
)

pub returns-else-is_none-clause-loses : goal.returns-else-is_none-clause-loses
returns-else-is_none-clause-loses c = loses_self c.args.self.now
