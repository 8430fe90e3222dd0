use Rattle.std.proofs.Common.{◌≡◌, map, take, length}
use Rattle.ir_store.specs.Designs.{design_of, modules_of}
use Rattle.aggregate_acceptance.specs.Joins.{joined_module}
use Rattle.lowering_rules.specs.LoweringRules.{lowering_rules}
use Rattle.aggregate_lower.proofs.lowering.lowered_design.Given as goal

abbrev pub invariant-loop-number : goal.invariant-loop-number
invariant-loop-number l = record {
  count : length (modules_of l.lowered) ≡ l.number;
  made : design_of l.lowered ≡ map (joined_module (lowering_rules (design_of l.design))) (take l.number (design_of l.design));
}
