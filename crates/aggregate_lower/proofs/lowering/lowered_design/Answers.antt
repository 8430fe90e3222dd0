use Rattle.std.proofs.Common.{map, length, ap, ◌∙◌, ◌∷◌, [], arith}
use Rattle.std.proofs.lemmas.List.{map-append, length_push}
use Rattle.ir_store.specs.Designs.{modules_of, module_of, numbered_module, design_of}
use Rattle.aggregate_acceptance.specs.Joins.{joined_module}
use Rattle.lowering_rules.specs.LoweringRules.{lowering_rules}
use Rattle.aggregate_lower.proofs.ModuleSteps.{one_more, module_there}
use Rattle.aggregate_lower.proofs.lowering.lowered_design.Goals as goal

pub lowered_module-requires-clause-there : goal.lowered_module-requires-clause-there
lowered_module-requires-clause-there c = module_there (modules_of c.args.design.now) c.loop-number.number (module_of c.module.result.now) c.module.ensures

pub loop-number-preserved : goal.loop-number-preserved
loop-number-preserved c = record {
  count =
      let more = ap length c.in_ok-add_module.ensures.ok ∙ length_push (modules_of c.loop-number.lowered) (module_of c.in_ok-one.one) in
      omega (arith, more, c.loop-number.invariant.count);
  made =
      one_more (modules_of c.args.design.now) c.loop-number.number (module_of c.module.result.now) c.module.ensures (joined_module (lowering_rules (design_of c.args.design.now)))
      (design_of c.loop-number.lowered) (design_of c.add_module.new.self) (numbered_module (module_of c.in_ok-one.one))
      (ap (map numbered_module) c.in_ok-add_module.ensures.ok ∙ map-append numbered_module (modules_of c.loop-number.lowered) (module_of c.in_ok-one.one ∷ []))
      c.in_ok-one.ensures c.loop-number.invariant.made;
}
