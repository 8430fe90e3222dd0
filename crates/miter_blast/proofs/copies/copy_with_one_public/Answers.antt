use Rattle.std.proofs.Common.{map, length, ap, ◌∙◌, ◌∷◌, [], arith}
use Rattle.std.proofs.lemmas.List.{map-append, length_push}
use Rattle.ir_store.specs.Designs.{modules_of, module_of, numbered_module, design_of}
use Rattle.aggregate_lower.proofs.ModuleSteps.{one_more}
use Rattle.miter_blast.specs.FlatCopy.{is_other}
use Rattle.miter_blast.proofs.Marks.{marked}
use Rattle.miter_blast.proofs.copies.copy_with_one_public.Goals as goal

pub loop-number-preserved : goal.loop-number-preserved
loop-number-preserved c = record {
  count =
      let more = ap length c.in_ok-add_module.ensures.ok ∙ length_push (modules_of c.loop-number.copy) (module_of c.in_ok-one.one) in
      omega (arith, more, c.loop-number.invariant.count);
  made =
      one_more (modules_of c.args.design.now) c.loop-number.number (module_of c.module.result.now) c.module.ensures (marked (is_other c.args.symbol.now))
      (design_of c.loop-number.copy) (design_of c.add_module.new.self) (numbered_module (module_of c.in_ok-one.one))
      (ap (map numbered_module) c.in_ok-add_module.ensures.ok ∙ map-append numbered_module (modules_of c.loop-number.copy) (module_of c.in_ok-one.one ∷ []))
      c.in_ok-one.ensures c.loop-number.invariant.made;
}
