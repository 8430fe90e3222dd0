use Rattle.std.proofs.Common.{◌≡◌, ℕ, suc, ◌+◌, ◌-◌, ◌++◌, map, drop, ap, ap₂, ◌∙◌, arith}
use Rattle.std.specs.Prelude.{◌%◌}
use Rattle.wiring.proofs.Joined.{split_at}
use Rattle.hw_model.specs.TypeViews.{type_of}
use Rattle.aggregate_laws.specs.Choices.{test_at, leaf_choices, element_leaf, element_of}
use Rattle.lowering_rules.specs.Reading.{plain_of, new_refs}
use Rattle.lowering_rules.specs.Made.{made_in}
use Rattle.lowering_rules.proofs.ChoiceSteps.{leaf_more}
use Rattle.lowering_rules.proofs.choice_rules.put_part_choices.Goals as goal

pub loop-number-preserved : goal.loop-number-preserved
loop-number-preserved c =
    let o = plain_of c.args.op.now in
    let es = c.args.elements in
    let m = es.leaves in
    let own = c.args.own in
    let leaf = element_leaf es.length m (new_refs es.values.now) in
    let element = λ (i e : ℕ). leaf (i % m) (e + element_of own m i) in
    let sizes = λ (i : ℕ). es.length - element_of own m i in
    let ty = c.index-leaves-number.result in
    let l = c.loop-number.number in
    let all = c.args.leaves.now in
    let first : c.in_ok-first.first ≡ element_of own m l = c.in_ok-first.ensures ∙ ap (element_of own m) c.in_ok-leaf.ensures in
    let rest : c.in_ok-rest.rest ≡ l % m = c.in_ok-rest.ensures ∙ ap (λ i. i % m) c.in_ok-leaf.ensures in
    let size : es.length - c.in_ok-first.first ≡ es.length - element_of own m l = ap (λ n. es.length - n) first in
    let up : c.in_ok-next.next ≡ c.loop-number.next + suc (es.length - element_of own m l) = omega (arith, c.in_ok-next.ensures, c.in_ok-sum.ensures, c.saturating_sub.ensures, size) in
    leaf_more o (test_at es.tests) element sizes (λ e. leaf c.in_ok-rest.rest (e + c.in_ok-first.first)) (es.length - c.in_ok-first.first) (made_in c.loop-number.made.items) (made_in c.put_choices.new.made.items)
    (made_in c.args.made.now.items ++ leaf_choices o (test_at es.tests) element sizes c.args.start 0 (map type_of all))
    c.loop-number.next c.in_ok-next.next l (type_of ty) (map type_of (drop l all)) (map type_of (drop (l + 1) all))
    (ap (map type_of) (split_at all l ty c.loop-number-test.true c.index-leaves-number.is))
    (λ e. ap₂ (λ i n. leaf i (e + n)) rest first)
    size up c.in_ok-put_choices.ensures c.loop-number.invariant
