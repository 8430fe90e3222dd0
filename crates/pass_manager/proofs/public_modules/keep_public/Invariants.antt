use Rattle.std.proofs.Common.{◌≡◌, length, map}
use Rattle.ir_store.specs.Designs.{modules_of, module_of}
use Rattle.pass_manager.proofs.PublicKept.{IsKeepingPublic}
use Rattle.pass_manager.proofs.public_modules.keep_public.Given as goal

abbrev pub invariant-loop-module : goal.invariant-loop-module
invariant-loop-module l = record {
  keeping : IsKeepingPublic (modules_of l.fn.design) (modules_of l.design) (map module_of l.module-iterator.rest.items);
  left : l.module-iterator.rest.len ≡ length l.module-iterator.rest.items;
}
