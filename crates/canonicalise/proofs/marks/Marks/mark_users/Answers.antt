use Rattle.std.proofs.Common.{sym, ap, ◌∙◌, arith}
use Rattle.ir_store.specs.Uses.{use_times}
use Rattle.ir_store.specs.UsesLeft.{uses_left}
use Rattle.canonicalise.proofs.Losing.{loses_self, loses_then}
use Rattle.canonicalise.proofs.Marking.{position_passed}
use Rattle.canonicalise.proofs.marks.Marks.mark_users.Goals as goal

pub loop-position-init : goal.loop-position-init
loop-position-init c = record {
  marked = λ id settled. (
    settled,
    λ p less same.
        let all = ap (λ s. use_times p (uses_left s)) c.into_iter-position-iterator.ensures.into_iter_gives ∙ c.uses-position-items.ensures.uses p in
        absurd (omega (arith, all, less)),
  );
  loses = loses_self c.args.self.now;
}

pub loop-position-preserved : goal.loop-position-preserved
loop-position-preserved c = record {
  marked = λ id settled.
      let marked = c.mark.ensures.marked id settled in
      let before = c.loop-position.invariant.marked id marked.0 in (
        before.0,
        λ p less same.
            let step = position_passed p c.in-Some.position (uses_left c.loop-position.position-iterator) (uses_left c.next.new.self) c.in-Some.ensures.steps (λ here. marked.1 (sym same ∙ here)) in
            before.1 p (omega (arith, less, step)) same,
      );
  loses = loses_then c.args.self.now c.loop-position.self c.mark.new.self c.loop-position.invariant.loses c.mark.ensures.loses;
}

pub returns-clause-marked : goal.returns-clause-marked
returns-clause-marked c = λ id settled.
    let last = c.loop-position.invariant.marked id settled in (
      last.0,
      λ user.
          let none = ap (use_times user.position) c.in-None.ensures.steps.0 in
          let used = user.used in
          last.1 user.position (omega (arith, none, used)) user.own,
    )
