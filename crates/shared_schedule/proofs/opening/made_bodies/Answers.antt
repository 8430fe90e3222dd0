use Rattle.std.proofs.Common.{ap, sym, ◌∙◌, rules, arith}
use mathlib.Core.Option.{some-injective}
use lib.ListN.{get_elem?}
use Rattle.std.specs.Slots.{slots_items}
use Rattle.shared_schedule.specs.declared.slot.Slot.TheVariants.{Made}
use Rattle.shared_schedule.proofs.FirstTable.{pushed-len, pushed-bodies}
use Rattle.shared_schedule.proofs.opening.made_bodies.Goals as goal

pub push_made-bodies-requires : goal.push_made-bodies-requires
push_made-bodies-requires g c =
    let body = c.requires.made c.loop-m.m (omega arith) in
    (body.0, some-injective c.take.result (Made body.0) (sym c.take.ensures.value ∙ ap (λ s. get_elem? s c.loop-m.m) c.loop-m.invariant.items ∙ body.1))

pub loop-m-preserved : goal.loop-m-preserved
loop-m-preserved g c = record {
  slots = search rules;
  items = c.take.ensures.others.0 ∙ c.loop-m.invariant.items;
  filled = search rules;
  empty = search rules;
  len = pushed-len (λ v. v.items) c.take.result c.loop-m.m c.loop-m.bodies c.push_made-bodies.result c.push_made-bodies.ensures c.loop-m.invariant.len;
  bodies = pushed-bodies (λ v. v.items) c.take.result c.loop-m.m (slots_items c.args.closed.now.slots) c.loop-m.bodies c.push_made-bodies.result
      (ap (λ s. get_elem? s c.loop-m.m) (sym c.loop-m.invariant.items) ∙ c.take.ensures.value) c.push_made-bodies.ensures
      c.loop-m.invariant.len c.loop-m.invariant.bodies;
}
