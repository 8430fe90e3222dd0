use Rattle.std.proofs.Common.{◌≡◌, ◌-◌, true, length, vec_len, rules, arith}
use Rattle.std.proofs.lemmas.List.{length-set}
use Rattle.clause_learning.proofs.Listing.{listed_few, listed_push, read_off}
use Rattle.clause_learning.proofs.marked.Marked.mark.Goals as goal

pub push_reserved-requires : goal.push_reserved-requires
push_reserved-requires c =
    let few = listed_few c.self.inside.seen.items c.self.inside.listed.items c.self.inside.list.items c.self.invariant.0 in
    let n : vec_len c.self.inside.list ≡ length c.self.inside.list.items = search rules in
    omega (arith, few, n, c.self.invariant.1)

pub invariant_of-self-2 : goal.invariant_of-self-2
invariant_of-self-2 c =
    let high = rw (← c.self.view_is) at c.requires.among in
    let new = read_off c.self.inside.listed.items (c.args.variable - 1) c.index.result.now c.index.ensures c.if-index.false in
    let listed = listed_push c.self.inside.seen.items c.self.inside.listed.items c.self.inside.list.items c.args.variable c.requires.positive high new c.self.invariant.0 in
    let n = length-set c.self.inside.seen.items (c.args.variable - 1) true in
    let room = c.push_reserved.ensures.capacity in
    (rw c.push_reserved.ensures.items listed, omega (arith, n, room, c.self.invariant.1))
