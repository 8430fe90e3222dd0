use Rattle.std.proofs.Common.{sym, ap, ◌∙◌, find}
use Rattle.ir_store.specs.declared.operation.OpId.{OpId}
use Rattle.ir_store.specs.Bodies.{ops_of}
use Rattle.cse_pass.specs.Same.{are_same_at}
use Rattle.cse_pass.specs.Groups.{group_of}
use Rattle.cse_pass.proofs.EarlierEqual.{none_impure, position_found, found_there, group_there}
use Rattle.cse_pass.proofs.merges.equal_earlier.Goals as goal

pub find_same-requires-clause-there : goal.find_same-requires-clause-there
find_same-requires-clause-there c = rw c.of.ensures (group_there (ops_of c.args.body.now) c.args.groups.now c.args.position c.hash_of.result c.requires.grouped)

pub returns-then-not-is_pure-clause-equal : goal.returns-then-not-is_pure-clause-equal
returns-then-not-is_pure-clause-equal c =
    none_impure c.args.body.now c.requires.fit c.args.op c.op-own.result c.op-own.ensures c.args.position c.requires.position (sym c.is_pure.ensures ∙ c.if-not-is_pure.true)

pub returns-clause-equal : goal.returns-clause-equal
returns-clause-equal c =
    position_found c.args.body.now c.requires.fit c.args.op c.op-own.result c.op-own.ensures c.args.position c.requires.position (sym c.is_pure.ensures ∙ c.if-not-is_pure.false)
    c.args.groups.now c.requires.grouped c.find_same.result
    (c.find_same.ensures ∙ ap (find (λ (x : OpId). are_same_at (ops_of c.args.body.now) x c.args.op)) (c.of.ensures ∙ ap (group_of c.args.groups.now) c.hash_of.ensures))

pub returns-clause-live : goal.returns-clause-live
returns-clause-live c =
    found_there c.args.body.now c.requires.fit c.args.op c.op-own.result c.op-own.ensures c.args.position c.requires.position
    c.args.groups.now c.requires.grouped c.hash_of.result c.find_same.result
    (c.find_same.ensures ∙ ap (find (λ (x : OpId). are_same_at (ops_of c.args.body.now) x c.args.op)) c.of.ensures)
