use Rattle.std.proofs.Common.{OnOk, sym, subst, ◌∙◌}
use Rattle.hw_model.specs.KindViews.{kind_of}
use Rattle.ir_store.specs.Designs.{design_of}
use Rattle.aggregate_laws.specs.Aggregates.{rule_of}
use Rattle.lowering_rules.specs.LeafTables.{arguments_of}
use Rattle.lowering_rules.specs.LoweringRules.{leaf_named}
use Rattle.lowering_rules.specs.Reading.{plain_of}
use Rattle.aggregate_lower.specs.MadeBodies.{all_made_by, AddsMade}
use Rattle.aggregate_lower.proofs.made.Made.add.Goals as goal

pub returns-then-only_joins : goal.returns-then-only_joins
returns-then-only_joins c =
    let block = (rule_of (leaf_named (design_of c.args.callees.now.design.now)) (plain_of c.args.op.now) (kind_of c.args.op.now.kind.now)).made (arguments_of c.args.arguments) c.args.start in
    subst (λ b. OnOk c.add_wires.result (AddsMade (all_made_by b block) c.args.self.now c.add_wires.new.self)) (sym c.if-only_joins.true ∙ c.only_joins.ensures) c.add_wires.ensures

pub returns-else-only_joins : goal.returns-else-only_joins
returns-else-only_joins c =
    let block = (rule_of (leaf_named (design_of c.args.callees.now.design.now)) (plain_of c.args.op.now) (kind_of c.args.op.now.kind.now)).made (arguments_of c.args.arguments) c.args.start in
    subst (λ b. OnOk c.add_kept.result (AddsMade (all_made_by b block) c.args.self.now c.add_kept.new.self)) (sym c.if-only_joins.false ∙ c.only_joins.ensures) c.add_kept.ensures
