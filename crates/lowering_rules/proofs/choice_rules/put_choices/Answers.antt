use Rattle.std.proofs.Common.{◌≡◌, ℕ, suc, ◌+◌, ◌-◌, List, ◌++◌, ◌∷◌, [], pos, ap, ◌∙◌, arith}
use Rattle.hw_model.specs.TypeViews.{type_of}
use Rattle.hw_model.specs.Kinds.Kind.{constant, mux}
use Rattle.hw_model.specs.Design.{Ref}
use Rattle.hw_model.specs.Design.Ref.{result}
use Rattle.ir_store.specs.declared.operation.OpId.{OpId}
use Rattle.aggregate_laws.specs.OperationRules.{made_op}
use Rattle.aggregate_laws.specs.Choices.{test_at, choices, element_leaf}
use Rattle.lowering_rules.specs.Reading.{plain_of, new_refs}
use Rattle.lowering_rules.specs.Made.{made_in}
use Rattle.lowering_rules.proofs.ChoiceSteps.{choices_more, three}
use Rattle.lowering_rules.proofs.choice_rules.put_choices.Goals as goal

pub loop-left-preserved : goal.loop-left-preserved
loop-left-preserved c =
    let o = plain_of c.args.op.now in
    let t = type_of c.args.ty.now in
    let es = c.args.elements in
    let element = λ (e : ℕ). element_leaf es.length es.leaves (new_refs es.values.now) c.args.leaf (e + c.args.first) in
    let now = made_in c.loop-left.made.items in
    let n = c.loop-left.left - 1 in
    let one : c.loop-left.left ≡ suc n = omega (arith, c.loop-left-test.true) in
    let up : c.in_ok-before.before ≡ suc c.loop-left.before = omega (arith, c.in_ok-before.ensures) in
    let chosen = c.leaf-value.ensures ∙ ap (element_leaf es.length es.leaves (new_refs es.values.now) c.args.leaf) c.in_ok-sum.ensures in
    let low = ap (λ (i : OpId). result i.index 0) c.nth.ensures in
    choices_more o t (test_at es.tests) element now (made_in c.put_plain-in-loop-left.new.made.items)
    (made_in c.args.made.now.items ++ (made_op o (constant (pos 0)) [] (t ∷ []) [] t ∷ choices o t (test_at es.tests) element c.args.start (es.length - c.args.first)))
    c.loop-left.before c.in_ok-before.before c.loop-left.left n one up
    (c.in_ok-put_plain-2.ensures ∙ ap (λ (rs : List Ref). now ++ made_op o mux rs (t ∷ []) [] t ∷ []) (three c.in_ok-test.ensures chosen low))
    c.loop-left.invariant
