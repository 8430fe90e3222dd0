use Rattle.std.proofs.Common.{◌++◌, ◌-◌, ◌∙◌, arith}
use Rattle.hw_model.specs.Types.{Name}
use Rattle.hw_model.specs.TypeViews.{type_of}
use Rattle.aggregate_laws.specs.Aggregates.{leaf_names, element_names}
use Rattle.lowering_rules.proofs.LeafNames.{elements_more}
use Rattle.lowering_rules.proofs.leaf_texts.+leaf_names.Goals as goal

pub push_element_names-loop-left-preserved-in_ok-push_leaf_names : goal.push_element_names-loop-left-preserved-in_ok-push_leaf_names
push_element_names-loop-left-preserved-in_ok-push_leaf_names t c =
    let inner = λ (name : Name). leaf_names name (type_of c.args.element.now) in
    elements_more inner c.args.name.now c.as_bytes.result.now c.loop-left.names.items c.push_leaf_names.new.names.items (c.args.names.now.items ++ element_names inner c.args.name.now c.args.length)
    c.loop-left.left (c.loop-left.left - 1) (omega (arith, c.loop-left-test.true)) (c.as_bytes.ensures ∙ c.in_ok-inner.ensures) c.in_ok-push_leaf_names.ensures c.loop-left.invariant

pub push_element_names-loop-left-preserved : goal.push_element_names-loop-left-preserved
push_element_names-loop-left-preserved t c =
    let inner = λ (name : Name). leaf_names name (type_of c.args.element.now) in
    elements_more inner c.args.name.now c.as_bytes.result.now c.loop-left.names.items c.push_leaf_names.new.names.items (c.args.names.now.items ++ element_names inner c.args.name.now c.args.length)
    c.loop-left.left (c.loop-left.left - 1) (omega (arith, c.loop-left-test.true)) (c.as_bytes.ensures ∙ c.in_ok-inner.ensures) c.in_ok-push_leaf_names.ensures c.loop-left.invariant
