use Rattle.std.proofs.Common.{◌≡◌, length, set, ◌-◌, Some, rules, arith, vec_len}
use Rattle.std.proofs.lemmas.Bool.{not-true}
use Rattle.std.proofs.lemmas.List.{length-set, length_push}
use Rattle.clause_learning.specs.declared.trail.Mark.{Mark}
use Rattle.clause_learning.specs.Trail.{IsTied}
use Rattle.clause_learning.proofs.Entries.{tied_push, AreApart_from, length_below}
use Rattle.clause_learning.proofs.trail.Trail.add.Goals as goal

kept : (c : goal.After-self-1) → IsTied (set c.self.inside.marks.items (c.args.entry.literal.variable - 1) (Some (record { positive = c.args.entry.literal.positive; position = c.len-position.result }))) c.push_reserved.new.self.items
kept c =
    let among = rw (← c.self.view_is) at c.requires.among in
    let free = rw (← c.self.view_is) at c.requires.free in
    let at = tied_push c.self.inside.marks.items c.self.inside.entries.items c.args.entry c.self.invariant.0 among (not-true _ free) in
    let position : c.len-position.result ≡ length c.self.inside.entries.items = search rules in
    rw (position, c.push_reserved.ensures.items) at

pub push_reserved-requires : goal.push_reserved-requires
push_reserved-requires c =
    let among = rw (← c.self.view_is) at c.requires.among in
    let free = rw (← c.self.view_is) at c.requires.free in
    let mark : Mark = record { positive = c.args.entry.literal.positive; position = length c.self.inside.entries.items } in
    let tied = tied_push c.self.inside.marks.items c.self.inside.entries.items c.args.entry c.self.invariant.0 among (not-true _ free) in
    let bound = length_below _ _ (AreApart_from _ _ tied) in
    let long = length_push c.self.inside.entries.items c.args.entry in
    let len = length-set c.self.inside.marks.items (c.args.entry.literal.variable - 1) (Some mark) in
    let n : vec_len c.self.inside.entries ≡ length c.self.inside.entries.items = search rules in
    omega (arith, bound, long, len, n, c.self.invariant.1)

pub invariant_of-self : goal.invariant_of-self
invariant_of-self c =
    let len = length-set c.self.inside.marks.items (c.args.entry.literal.variable - 1) (Some (record { positive = c.args.entry.literal.positive; position = c.len-position.result })) in
    let room = c.push_reserved.ensures.capacity in
    (kept c, omega (arith, len, room, c.self.invariant.1))

pub returns-clause-room : goal.returns-clause-room
returns-clause-room c = length_below _ _ (AreApart_from _ _ (kept c))
