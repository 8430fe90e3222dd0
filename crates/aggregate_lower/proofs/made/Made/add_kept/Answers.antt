use Rattle.std.proofs.Common.{◌≡◌, ◌++◌, ◌-◌, length, ap₂, ◌∙◌, arith}
use Rattle.hw_model.specs.KindViews.{kind_of}
use Rattle.ir_store.specs.Designs.{design_of}
use Rattle.hw_model.specs.Design.Ref.{result as result_ref}
use Rattle.aggregate_laws.specs.Leaves.{in_row}
use Rattle.aggregate_laws.specs.Aggregates.{rule_of}
use Rattle.lowering_rules.specs.LeafTables.{arguments_of}
use Rattle.lowering_rules.specs.LoweringRules.{leaf_named}
use Rattle.lowering_rules.specs.Reading.{plain_of, new_refs}
use Rattle.aggregate_lower.proofs.MadeParts.{kept_added}
use Rattle.aggregate_lower.proofs.made.Made.add_kept.Goals as goal

pub returns : goal.returns
returns c =
    let block = (rule_of (leaf_named (design_of c.args.callees.now.design.now)) (plain_of c.args.op.now) (kind_of c.args.op.now.kind.now)).made (arguments_of c.args.arguments) c.args.start in
    let old = c.args.self.now in
    let few : old.kept.len ≡ length old.kept.items = omega (arith, old.kept.ok.0) in
    let many : c.put_block.new.made.len ≡ length c.put_block.new.made.items = omega (arith, c.put_block.new.made.ok.0) in
    kept_added block old (record { kept = c.put_block.new.made; flags = c.push_flags.new.flags; targets = c.push_results.new.targets }) c.len-before.result c.len-after.result (c.len-before.ensures ∙ few) (c.len-after.ensures ∙ many)
    c.in_ok-put_block.ensures c.in_ok-push_flags.ensures
    (c.in_ok-push_results.ensures ∙ ap₂ (λ low high. new_refs old.targets.items ++ in_row (λ i. result_ref i 0) low (high - low)) c.in_ok-low.ensures c.in_ok-high.ensures)
