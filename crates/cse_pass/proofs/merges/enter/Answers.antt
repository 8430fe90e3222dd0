use Rattle.std.proofs.Common.{take, sym, subst, ◌∙◌, refl}
use Rattle.ir_store.specs.Bodies.{ops_of, read_op}
use Rattle.cse_pass.specs.Groups.{IsGrouping}
use Rattle.cse_pass.proofs.Grouping.{take_more, grouped_past, grouped_more, on_ok3}
use Rattle.cse_pass.proofs.EarlierEqual.{stands_here}
use Rattle.cse_pass.proofs.merges.enter.Goals as goal

pub returns-then-not-is_pure : goal.returns-then-not-is_pure
returns-then-not-is_pure c =
    rw (take_more (ops_of c.args.body.now) c.args.position (read_op c.args.op c.op-own.result) (stands_here c.args.body.now c.requires.fit c.args.op c.op-own.result c.op-own.ensures c.args.position c.requires.position))
    (grouped_past c.args.groups.now (take c.args.position (ops_of c.args.body.now)) (read_op c.args.op c.op-own.result) c.requires.grouped (sym c.is_pure.ensures ∙ c.if-not-is_pure.true))

pub returns : goal.returns
returns c =
    on_ok3 c.add.result
    (λ group stay named.
    subst (IsGrouping c.add.new.self)
    (sym (take_more (ops_of c.args.body.now) c.args.position (read_op c.args.op c.op-own.result) (stands_here c.args.body.now c.requires.fit c.args.op c.op-own.result c.op-own.ensures c.args.position c.requires.position)))
    (grouped_more c.args.groups.now c.add.new.self (take c.args.position (ops_of c.args.body.now)) (read_op c.args.op c.op-own.result) c.args.op c.hash_of.result c.requires.grouped
    (sym c.is_pure.ensures ∙ c.if-not-is_pure.false) refl c.hash_of.ensures group stay named))
    c.add.ensures.group c.add.ensures.noted c.add.ensures.named
