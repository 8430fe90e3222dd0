use Rattle.std.proofs.Common.{map, ap, sym, ◌∙◌, rules}
use Rattle.std.proofs.lemmas.List.{nil_from_length}
use Rattle.ir_store.specs.Designs.{modules_of, module_of}
use Rattle.pass_manager.proofs.PublicKept.{keeping_more, all_public}
use Rattle.pass_manager.proofs.public_modules.keep_public.Goals as goal

pub loop-module-preserved : goal.loop-module-preserved
loop-module-preserved c = record {
  keeping =
      keeping_more (modules_of c.args.design.now) (modules_of c.loop-module.design) (modules_of c.add_public.new.design) (map module_of c.loop-module.module-iterator.rest.items)
      (map module_of c.next.new.self.rest.items) (module_of c.in-Some.module) c.loop-module.invariant.keeping (ap (map module_of) c.in-Some.ensures.steps.0) c.in_ok-add_public.ensures;
  left = search rules;
}

pub returns : goal.returns
returns c =
    all_public (modules_of c.args.design.now) (modules_of c.loop-module.design) (map module_of c.loop-module.module-iterator.rest.items) c.loop-module.invariant.keeping
    (ap (map module_of) (nil_from_length c.loop-module.module-iterator.rest.items (sym c.loop-module.invariant.left ∙ c.in-None.ensures.steps.0)))
