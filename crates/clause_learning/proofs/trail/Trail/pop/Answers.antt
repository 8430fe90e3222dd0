use Rattle.std.proofs.Common.{◌-◌, arith, None}
use Rattle.std.proofs.lemmas.List.{length-set}
use Rattle.clause_learning.proofs.Entries.{tied_pop}
use Rattle.clause_learning.proofs.trail.Trail.pop.Goals as goal

pub invariant_of-self : goal.invariant_of-self
invariant_of-self c =
    let len = length-set c.self.inside.marks.items (c.in-Some.entry.literal.variable - 1) None in
    let room = c.pop.ensures.capacity in
    (tied_pop c.self.inside.marks.items c.pop.new.self.items c.in-Some.entry (rw c.in-Some.ensures.items at c.self.invariant.0), omega (arith, len, room, c.self.invariant.1))
