use Rattle.std.proofs.Common.{map, subst}
use Rattle.std.specs.Slice.Iter.{iter_steps}
use Rattle.std.specs.Vec.Iter.{into_iter_steps}
use Rattle.std.proofs.lemmas.Iterator.{zips}
use Rattle.ir_store.specs.Designs.{modules_of, module_of}
use Rattle.inline_pass.proofs.Keeping.{all_kept, none_left}
use Rattle.inline_pass.proofs.dead_modules.keep_marked.Goals as goal

pub returns : goal.returns
returns c =
    all_kept c.args.marks.now (modules_of c.args.design.now) (modules_of c.loop-mark.design) c.loop-mark.mark-iterator.a.rest.now (map module_of c.loop-mark.mark-iterator.b.rest.items)
    c.loop-mark.invariant.0
    (none_left module_of c.loop-mark.mark-iterator.a.rest.now c.loop-mark.mark-iterator.b.rest.items c.loop-mark.mark-iterator.b.rest.len c.loop-mark.invariant.1
    (subst (λ o. zips iter_steps into_iter_steps c.loop-mark.mark-iterator o c.next.new.self) c.in-None.is c.next.ensures.steps))
