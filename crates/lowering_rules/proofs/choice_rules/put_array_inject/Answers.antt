use Rattle.std.proofs.Common.{◌≡◌, ◌∷◌, [], length, map, ap, subst, ◌∙◌}
use Rattle.std.specs.Prelude.{OnOk, ◌%◌}
use Rattle.hw_model.specs.Types.{width, leaves}
use Rattle.hw_model.specs.TypeViews.{type_of}
use Rattle.hw_model.specs.Kinds.Kind.{mux}
use Rattle.hw_model.specs.Value.{nth_type}
use Rattle.aggregate_laws.specs.Leaves.{part}
use Rattle.aggregate_laws.specs.OperationRules.{made_op, all_leaves, argument, for_each}
use Rattle.aggregate_laws.specs.Choices.{tests, test_at, element_of}
use Rattle.aggregate_laws.specs.Aggregates.{array_length, element_type}
use Rattle.lowering_rules.specs.Reading.{plain_of, new_ref}
use Rattle.lowering_rules.specs.LeafTables.{arguments_of}
use Rattle.lowering_rules.specs.Made.{made_in}
use Rattle.lowering_rules.proofs.ChoiceSteps.{tests_same, inject_same, after_tests}
use Rattle.lowering_rules.proofs.choice_rules.put_array_inject.Goals as goal

pub returns : goal.returns
returns c =
    let o = plain_of c.args.op.now in
    let args = arguments_of c.args.arguments in
    let start = c.args.start in
    let all = c.args.leaves.now in
    let n = array_length (nth_type o.types 0) in
    let w = width (nth_type o.types 1) in
    let m = length (leaves (element_type (nth_type o.types 0))) in
    let n' = c.operand_length-length.result in
    let m' = c.in_ok-own.own in
    let index = c.part-index.ensures ∙ ap (λ us. part us 0) c.nth.ensures in
    subst (λ os. OnOk c.put_injections.result (made_in c.put_injections.new.made.items ≡ os))
    (after_tests (made_in c.args.made.now.items) (made_in c.put_tests.new.made.items) (tests o c.in_ok-width.width (new_ref c.part-index.result) start 0 n') (tests o w (part (argument 1 args) 0) start 0 n)
    (for_each (λ l t. made_op o mux (test_at start (element_of n' m' l) ∷ part (argument 2 args) (l % m') ∷ part (argument 0 args) l ∷ []) (t ∷ []) [] t) 0 (map type_of all))
    (for_each (λ l t. made_op o mux (test_at start (element_of n m l) ∷ part (argument 2 args) (l % m) ∷ part (argument 0 args) l ∷ []) (t ∷ []) [] t) 0 (all_leaves o))
    c.in_ok-put_tests.ensures
    (tests_same o c.in_ok-width.width w (new_ref c.part-index.result) (part (argument 1 args) 0) start n' n c.in_ok-width.ensures index c.operand_length-length.ensures)
    (inject_same o (test_at start) n' n m' m (argument 0 args) (argument 2 args) (map type_of all) (all_leaves o) c.operand_length-length.ensures c.in_ok-own.ensures c.requires))
    c.put_injections.ensures
