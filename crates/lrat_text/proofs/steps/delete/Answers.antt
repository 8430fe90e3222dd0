use Rattle.std.proofs.Common.{rules, ◌≡◌, true, ◌∙◌}
use Rattle.std.specs.Prelude.{is_some}
use Rattle.lrat_text.specs.Stored.{store_of}
use Rattle.lrat_text.proofs.Walking.{there_more, without_more}
use Rattle.lrat_text.proofs.steps.delete.Goals as goal

pub loop-number-preserved : goal.loop-number-preserved
loop-number-preserved c =
    let there : is_some (store_of c.loop-number.clauses c.in-Some.number.now.variable) ≡ true = search rules in
    record {
      there = there_more (store_of c.loop-number.clauses) (store_of c.remove.new.self) c.loop-number.rest.now c.in-Some.number.now c.in-Some.others.now c.in-Some.ensures.cases.0 there c.remove.ensures
          ∙ c.loop-number.invariant.there;
      left = without_more (store_of c.loop-number.clauses) (store_of c.remove.new.self) c.loop-number.rest.now c.in-Some.number.now c.in-Some.others.now c.in-Some.ensures.cases.0 c.remove.ensures
          ∙ c.loop-number.invariant.left;
    }
