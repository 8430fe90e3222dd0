use Rattle.std.proofs.Common.{length, arith, sym, ap, subst, ◌∙◌}
use Rattle.std.proofs.lemmas.List.{nil_from_length}
use Rattle.lowering_rules.specs.Reading.{new_ref, new_refs}
use Rattle.aggregate_lower.specs.Settling.{Settling}
use Rattle.aggregate_lower.proofs.MovedOps.{refs_set}
use Rattle.aggregate_lower.proofs.Settled.{last_place, one_settled, set_many}
use Rattle.aggregate_lower.proofs.places.settle_path.Goals as goal

pub loop-at-preserved : goal.loop-at-preserved
loop-at-preserved c = record {
  settled = λ ts s waiting so none.
      let flags = c.args.flags.now in
      let at = c.in-Some.at in
      let r = new_ref c.args.last in
      let place = c.moved_value-place.result in
      subst (λ now. Settling flags ts s waiting now c.pop.new.self.items r) (sym (ap new_refs c.put_value.ensures ∙ refs_set c.loop-at.targets at place))
      (one_settled flags ts s waiting (new_refs c.loop-at.targets) c.pop.new.self.items r at (new_ref place)
      (c.moved_value-place.ensures ∙ last_place flags ts s waiting (new_refs c.args.targets.now) c.args.path.now.items r so none)
      (subst (λ p. Settling flags ts s waiting (new_refs c.loop-at.targets) p r) c.in-Some.ensures.items (c.loop-at.invariant.settled ts s waiting so none)));
  many = ap length c.put_value.ensures ∙ set_many c.loop-at.targets c.in-Some.at c.moved_value-place.result ∙ c.loop-at.invariant.many;
}

pub returns-clause-settled : goal.returns-clause-settled
returns-clause-settled c = λ ts s waiting so none.
    subst (λ p. Settling c.args.flags.now ts s waiting (new_refs c.loop-at.targets) p (new_ref c.args.last)) (nil_from_length c.loop-at.path.items (omega (arith, c.in_default.ensures.cases, c.loop-at.path.ok.0))) (c.loop-at.invariant.settled ts s waiting so none)
