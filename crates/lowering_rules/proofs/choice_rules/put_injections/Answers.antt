use Rattle.std.proofs.Common.{ℕ, ◌+◌, List, ◌++◌, ◌∷◌, [], map, drop, sym, ap, ap₂, ◌∙◌, arith}
use Rattle.std.specs.Prelude.{◌%◌}
use Rattle.wiring.proofs.Joined.{split_at}
use Rattle.hw_model.specs.Types.{HwType}
use Rattle.hw_model.specs.TypeViews.{type_of}
use Rattle.hw_model.specs.Kinds.Kind.{mux}
use Rattle.hw_model.specs.Design.{Ref}
use Rattle.aggregate_laws.specs.Leaves.{part}
use Rattle.aggregate_laws.specs.OperationRules.{made_op, argument, for_each}
use Rattle.aggregate_laws.specs.Choices.{test_at, element_of}
use Rattle.lowering_rules.specs.Reading.{plain_of}
use Rattle.lowering_rules.specs.LeafTables.{arguments_of}
use Rattle.lowering_rules.specs.Made.{made_in}
use Rattle.lowering_rules.proofs.ChoiceSteps.{three}
use Rattle.lowering_rules.proofs.ForEach.{for_each_more}
use Rattle.lowering_rules.proofs.choice_rules.put_injections.Goals as goal

pub loop-number-preserved : goal.loop-number-preserved
loop-number-preserved c =
    let o = plain_of c.args.op.now in
    let args = arguments_of c.args.arguments in
    let own = c.args.own in
    let each = λ (i : ℕ) (t : HwType). made_op o mux (test_at c.args.start (element_of c.args.length own i) ∷ part (argument 2 args) (i % own) ∷ part (argument 0 args) i ∷ []) (t ∷ []) [] t in
    let ty = c.index-leaves-number.result in
    let t = type_of ty in
    let l = c.loop-number.number in
    let all = c.args.leaves.now in
    let now = made_in c.loop-number.made.items in
    let test = c.in_ok-test.ensures ∙ ap (test_at c.args.start) (c.in_ok-element_of.ensures ∙ ap (element_of c.args.length own) c.in_ok-leaf.ensures) in
    let value = c.part-value.ensures ∙ ap₂ part c.nth.ensures (c.in_ok-leaf_within.ensures ∙ ap (λ i. i % own) c.in_ok-leaf.ensures) in
    let stays = c.part-stays.ensures ∙ ap (λ rs. part rs l) c.nth-in-loop-number.ensures in
    let put = c.in_ok-put_plain.ensures ∙ ap (λ (rs : List Ref). now ++ made_op o mux rs (t ∷ []) [] t ∷ []) (three test value stays) in
    for_each_more each now (made_in c.put_plain.new.made.items) (made_in c.args.made.now.items ++ for_each each 0 (map type_of all)) l (l + 1) t (map type_of (drop (l + 1) all)) put (omega arith)
    (ap (λ tys. now ++ for_each each l (map type_of tys)) (sym (split_at all l ty c.loop-number-test.true c.index-leaves-number.is)) ∙ c.loop-number.invariant)
