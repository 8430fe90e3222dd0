use Rattle.std.proofs.Common.{Some, slice_get, ◌≡◌, ◌++◌, ◌∷◌, [], length, ap, sym, subst, ◌∙◌, rules}
use Rattle.std.proofs.lemmas.List.{append_assoc, append-nil, nil_from_length}
use Rattle.cse_pass.specs.UnusedAggregates.{IsWithoutUnusedAggregates}
use Rattle.pass_manager.specs.Works.{IsMade}
use Rattle.pass_manager.proofs.TrimmedBodies.{AreWorked, none_worked, one_worked, next_there}
use Rattle.pass_manager.proofs.for_export.trimmed_bodies.Goals as goal

pub loop-body-init : goal.loop-body-init
loop-body-init c = record {
  worked =
      let none : c.in_ok-trimmed.trimmed.items ≡ [] = search rules in
      subst (AreWorked IsWithoutUnusedAggregates []) (sym none) (none_worked IsWithoutUnusedAggregates);
  all = search rules;
  left = search rules;
}

pub trim_aggregates-requires : goal.trim_aggregates-requires
trim_aggregates-requires c =
    let before = c.loop-body.yielded in
    let there = next_there before c.next.new.self.rest.items c.in-Some.body in
    let all = c.loop-body.invariant.all ∙ ap (λ xs. before ++ xs) c.in-Some.ensures.steps.0 in
    (c.requires (length before) c.in-Some.body (subst (λ xs. slice_get xs (length before) ≡ Some c.in-Some.body) (sym all) there)).fit

pub loop-body-preserved : goal.loop-body-preserved
loop-body-preserved c = record {
  worked =
      let stored : c.push.new.self.items ≡ c.loop-body.trimmed.items ++ c.trim_aggregates.new.body ∷ [] = search rules in
      subst (AreWorked IsWithoutUnusedAggregates (c.loop-body.yielded ++ c.in-Some.body ∷ [])) (sym stored)
      (one_worked IsWithoutUnusedAggregates c.loop-body.yielded c.loop-body.trimmed.items c.in-Some.body c.trim_aggregates.new.body c.loop-body.invariant.worked c.in_ok-trim_aggregates.ensures.trimmed);
  all =
      c.loop-body.invariant.all ∙ ap (λ xs. c.loop-body.yielded ++ xs) c.in-Some.ensures.steps.0
      ∙ sym (append_assoc c.loop-body.yielded (c.in-Some.body ∷ []) c.next.new.self.rest.items);
  left = search rules;
}

pub returns-clause-count : goal.returns-clause-count
returns-clause-count c =
    let none = nil_from_length c.loop-body.body-iterator.rest.items (sym c.loop-body.invariant.left ∙ c.in-None.ensures.steps.0) in
    c.loop-body.invariant.worked.count ∙ ap length (sym (append-nil c.loop-body.yielded)) ∙ ap (λ xs. length (c.loop-body.yielded ++ xs)) (sym none) ∙ ap length (sym c.loop-body.invariant.all)

pub returns-clause-made : goal.returns-clause-made
returns-clause-made c = λ i b at old was.
    let none = nil_from_length c.loop-body.body-iterator.rest.items (sym c.loop-body.invariant.left ∙ c.in-None.ensures.steps.0) in
    let all : c.args.bodies.items ≡ c.loop-body.yielded = c.loop-body.invariant.all ∙ ap (λ xs. c.loop-body.yielded ++ xs) none ∙ append-nil c.loop-body.yielded in
    subst (λ before. IsMade IsWithoutUnusedAggregates before i b) (sym all) (c.loop-body.invariant.worked.made i b at) old was
