use Rattle.std.proofs.Common.{[], refl, ◌∙◌}
use Rattle.aggregate_laws.specs.OperationRules.{argument}
use Rattle.lowering_rules.specs.LeafTables.{leaves_at}
use Rattle.lowering_rules.proofs.Offsets.{position_index, position_past}
use Rattle.lowering_rules.proofs.arguments.Arguments.nth.Goals as goal

pub returns-in-Some : goal.returns-in-Some
returns-in-Some c =
    let h = c.in-Some.ensures.lookup in
    c.leaves.ensures ∙ position_index (λ args n. argument n args) (leaves_at c.args.self.table.now) (λ y ys. refl) (λ y ys n. refl) c.args.self.operands.now c.args.number c.in-Some.operand.now h.3.0 h.1

pub returns-in-None : goal.returns-in-None
returns-in-None c =
    let h = c.in-None.ensures.lookup in
    position_past (λ args n. argument n args) (leaves_at c.args.self.table.now) [] (λ n. refl) (λ y ys n. refl) c.args.self.operands.now c.args.number h.3
