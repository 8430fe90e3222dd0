use Rattle.std.proofs.Common.{◌≡◌, ◌+◌, ◌-◌, ◌*◌, length, map, sym, ap, subst, ◌∙◌, arith}
use Rattle.std.specs.Prelude.{OnOk, ◌%◌}
use Rattle.std.proofs.lemmas.List.{length-map}
use Rattle.hw_model.specs.Types.{width}
use Rattle.hw_model.specs.TypeViews.{type_of}
use Rattle.hw_model.specs.Value.{nth_type}
use Rattle.aggregate_laws.specs.Leaves.{part}
use Rattle.aggregate_laws.specs.OperationRules.{all_leaves, argument}
use Rattle.aggregate_laws.specs.Choices.{tests, test_at, leaf_choices, element_leaf, element_of}
use Rattle.aggregate_laws.specs.Aggregates.{array_length}
use Rattle.lowering_rules.specs.Reading.{plain_of, new_ref, new_refs}
use Rattle.lowering_rules.specs.LeafTables.{arguments_of}
use Rattle.lowering_rules.specs.Made.{made_in}
use Rattle.lowering_rules.proofs.ChoiceSteps.{tests_same, one_part, get_same, after_tests}
use Rattle.lowering_rules.proofs.choice_rules.put_get.Goals as goal

pub returns : goal.returns
returns c =
    let o = plain_of c.args.op.now in
    let args = arguments_of c.args.arguments in
    let start = c.args.start in
    let all = c.args.leaves.now in
    let n = array_length (nth_type o.types 0) in
    let w = width (nth_type o.types 1) in
    let m = length (all_leaves o) in
    let n' = c.operand_length.result in
    let m' = c.in_ok-count_of.field-0 in
    let rs = new_refs c.nth.result.now in
    let own : c.in_ok-count_of.field-0 ≡ m = c.in_ok-count_of.ensures ∙ sym (length-map all type_of) ∙ ap length c.requires in
    let next : c.in_ok-next.next ≡ start + 2 * n = omega (arith, c.in_ok-next.ensures, c.in_ok-sum.ensures, c.operand_length.ensures) in
    let index = c.part-index.ensures ∙ ap (λ rs. part rs 0) c.nth-2.ensures in
    subst (λ os. OnOk c.put_part_choices.result (made_in c.put_part_choices.new.made.items ≡ os))
    (after_tests (made_in c.args.made.now.items) (made_in c.put_tests.new.made.items) (tests o c.in_ok-width.width (new_ref c.part-index.result) start 0 c.operand_length.result) (tests o w (part (argument 1 args) 0) start 0 n)
    (leaf_choices o (test_at start) (λ l e. element_leaf n' m' rs (l % m') (e + element_of 1 m' l)) (λ l. n' - element_of 1 m' l) c.in_ok-next.next 0 (map type_of all))
    (leaf_choices o (test_at start) (element_leaf n m (argument 0 args)) (λ l. n) (start + 2 * n) 0 (all_leaves o))
    c.in_ok-put_tests.ensures
    (tests_same o c.in_ok-width.width w (new_ref c.part-index.result) (part (argument 1 args) 0) start c.operand_length.result n c.in_ok-width.ensures index c.operand_length.ensures)
    (one_part o (test_at start) n' m' rs c.in_ok-next.next 0 (map type_of all) (omega (arith, c.in_ok-count_of.ensures, length-map all type_of))
    ∙ get_same o (test_at start) n' n m' m c.in_ok-next.next (start + 2 * n) rs (argument 0 args) (map type_of all) (all_leaves o) c.operand_length.ensures own c.nth.ensures next c.requires))
    c.put_part_choices.ensures
