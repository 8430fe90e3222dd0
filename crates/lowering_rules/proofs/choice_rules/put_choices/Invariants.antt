use Rattle.std.proofs.Common.{◌≡◌, ◌++◌, ◌∷◌, ◌+◌, ◌-◌, [], pos}
use Rattle.hw_model.specs.TypeViews.{type_of}
use Rattle.hw_model.specs.Kinds.Kind.{constant}
use Rattle.aggregate_laws.specs.OperationRules.{made_op}
use Rattle.aggregate_laws.specs.Choices.{test_at, choices, element_leaf}
use Rattle.lowering_rules.specs.Reading.{plain_of, new_refs}
use Rattle.lowering_rules.specs.Made.{made_in}
use Rattle.lowering_rules.proofs.choice_rules.put_choices.Given as goal

abbrev pub invariant-loop-left : goal.invariant-loop-left
invariant-loop-left l =
    made_in l.made.items
    ++ choices (plain_of l.op) (type_of l.ty) (test_at l.elements.tests) (λ e. element_leaf l.elements.length l.elements.leaves (new_refs l.elements.values.now) l.leaf (e + l.first)) l.before l.left
    ≡ made_in l.fn.made.items
    ++ (made_op (plain_of l.op) (constant (pos 0)) [] (type_of l.ty ∷ []) [] (type_of l.ty)
    ∷ choices (plain_of l.op) (type_of l.ty) (test_at l.elements.tests) (λ e. element_leaf l.elements.length l.elements.leaves (new_refs l.elements.values.now) l.leaf (e + l.first)) l.start (l.elements.length - l.first))

abbrev pub decreases-loop-left : goal.decreases-loop-left
decreases-loop-left l = l.left
