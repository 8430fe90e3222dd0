use Rattle.std.proofs.Common.{◌≡◌, ◌<◌, length, refl, sym, ap, subst, ◌∙◌, arith}
use Rattle.std.proofs.lemmas.List.{length-map}
use Rattle.hw_model.specs.Design.Ref.{result}
use Rattle.lowering_rules.specs.Reading.{new_ref, new_refs}
use Rattle.aggregate_lower.specs.Settling.{Settling, Followed, SettledBefore}
use Rattle.aggregate_lower.proofs.Settled.{settled_none, settled_more, all_settled}
use Rattle.aggregate_lower.proofs.places.settle_all.Goals as goal

pub loop-number-init : goal.loop-number-init
loop-number-init c =
    let flags = c.args.flags.now in
    let ts = new_refs c.args.targets.now in
    record {
      so_far = λ s. subst (λ w. SettledBefore flags ts s w ts 0) (sym c.requires.waiting) (settled_none flags ts s (length-map c.args.targets.now new_ref ∙ c.requires.many));
      none = c.new-path.ensures.items;
      many = refl;
    }

pub loop-number-preserved : goal.loop-number-preserved
loop-number-preserved c = record {
  so_far = λ s.
      let flags = c.args.flags.now in
      let ts = new_refs c.args.targets.now in
      let before = c.loop-number.waiting in
      let old = new_refs c.loop-number.targets in
      let n = c.loop-number.number in
      let last = new_ref c.in_ok-last.last in
      let so = c.loop-number.invariant.so_far s in
      let number = ap (λ w. w.index) c.nth.ensures in
      let size = c.loop-number-test.true in
      let from : Settling flags ts s before old c.loop-number.path.items (result c.nth.result.index 0) =
      subst (λ p. Settling flags ts s before old p (result c.nth.result.index 0)) (sym c.loop-number.invariant.none)
      (so.settling (result c.nth.result.index 0) (λ j k is. let same : c.nth.result.index ≡ j = cc in subst (λ i. i < length flags) same (omega (arith, number, size, c.requires.count, c.requires.many)))) in
      let went : Followed flags ts s before c.follow.new.waiting old c.follow.new.path.items (result n 0) last =
      subst (λ i. Followed flags ts s before c.follow.new.waiting old c.follow.new.path.items (result i 0) last) number (c.in_ok-last.ensures flags ts s from) in
      settled_more flags ts s before c.follow.new.waiting old (new_refs c.settle_path.new.targets) c.follow.new.path.items n last went so
      (c.settle_path.ensures.settled ts s c.follow.new.waiting went.goes.settling went.none);
  none = c.settle_path.ensures.none;
  many = c.settle_path.ensures.many ∙ c.loop-number.invariant.many;
}

pub returns-clause-settled : goal.returns-clause-settled
returns-clause-settled c = λ s.
    all_settled c.args.flags.now (new_refs c.args.targets.now) s c.loop-number.waiting (new_refs c.loop-number.targets) c.loop-number.number (omega (arith, c.loop-number-test.false, c.requires.count, c.requires.many))
    (c.loop-number.invariant.so_far s)
