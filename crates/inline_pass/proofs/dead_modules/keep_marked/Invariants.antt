use Rattle.std.proofs.Common.{◌≡◌, length, map}
use Rattle.ir_store.specs.Designs.{modules_of, module_of}
use Rattle.inline_pass.proofs.Keeping.{IsKeeping}
use Rattle.inline_pass.proofs.dead_modules.keep_marked.Given as goal

abbrev pub invariant-loop-mark : goal.invariant-loop-mark
invariant-loop-mark l =
    IsKeeping l.marks (modules_of l.fn.design) (modules_of l.design) l.mark-iterator.a.rest.now (map module_of l.mark-iterator.b.rest.items)
    × (l.mark-iterator.b.rest.len ≡ length l.mark-iterator.b.rest.items)
