use Rattle.std.proofs.Common.{◌≡◌, ◌-◌, ◌∙◌, false, length, arith}
use Rattle.std.proofs.lemmas.List.{length-set}
use Rattle.clause_learning.proofs.Listing.{listed_pop, read_off, set_off}
use Rattle.clause_learning.proofs.marked.Marked.take.Goals as goal

pub loop-variable-preserved : goal.loop-variable-preserved
loop-variable-preserved c =
    let seen = c.loop-variable.self-inside.seen.items in
    let v = c.in-Some.variable in
    let off = read_off seen (v - 1) c.index-was_marked.result.now c.index-was_marked.ensures c.if-was_marked.false in
    let listed = listed_pop seen c.loop-variable.self-inside.listed.items c.pop.new.self.items v (rw c.in-Some.ensures.items at c.loop-variable.invariant.0) in
    let n = length-set seen (v - 1) false in
    let room = c.pop.ensures.capacity in
    (listed, omega (arith, n, room, c.loop-variable.invariant.1), set_off seen v off ∙ c.loop-variable.invariant.2)
