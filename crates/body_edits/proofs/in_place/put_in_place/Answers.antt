use Rattle.std.proofs.Common.{ap, subst, sym, ◌∙◌}
use Rattle.std.specs.Prelude.{Contains}
use Rattle.ir_store.specs.declared.operation.Value.TheVariants.{Result}
use Rattle.ir_store.specs.BodyOps.{ids_in, all_replaced, taken_out, IsUnused}
use Rattle.body_edits.proofs.InPlace.{still_in_place, unused_in_place, put_replaced, replaced_is_live}
use Rattle.body_edits.proofs.in_place.put_in_place.Goals as goal

pub erase-requires-clause-live : goal.erase-requires-clause-live
erase-requires-clause-live c =
    still_in_place c.args.body.now c.args.op c.in_ok-id.id c.args.new c.requires.fit c.requires.live c.requires.named c.in_ok-id.ensures.fresh
    c.requires.alone c.replace_all_uses.new.self (c.replace_all_uses.ensures.ops ∙ ap (all_replaced (Result c.args.op 0) (Result c.in_ok-id.id 0)) c.in_ok-id.ensures.ok)

pub erase-requires-clause-unused : goal.erase-requires-clause-unused
erase-requires-clause-unused c =
    subst (IsUnused c.args.op.index)
    (sym (c.replace_all_uses.ensures.ops ∙ ap (all_replaced (Result c.args.op 0) (Result c.in_ok-id.id 0)) c.in_ok-id.ensures.ok))
    (unused_in_place c.args.body.now c.args.op c.in_ok-id.id c.args.new c.requires.fit c.requires.live c.requires.named c.in_ok-id.ensures.fresh c.requires.alone)

pub returns-clause-replaced : goal.returns-clause-replaced
returns-clause-replaced c =
    put_replaced c.args.body.now c.args.op c.in_ok-id.id c.args.new c.requires.fit c.requires.live c.requires.named c.in_ok-id.ensures.fresh
    c.requires.alone c.erase.new.self
    (c.erase.ensures.ops
    ∙ ap (taken_out c.args.op.index) (c.replace_all_uses.ensures.ops ∙ ap (all_replaced (Result c.args.op 0) (Result c.in_ok-id.id 0)) c.in_ok-id.ensures.ok))

pub returns-clause-operands : goal.returns-clause-operands
returns-clause-operands c =
    replaced_is_live c.args.body.now c.args.op c.in_ok-id.id c.args.new c.requires.fit c.requires.live c.requires.named c.in_ok-id.ensures.fresh
    c.requires.alone c.erase.new.self
    (subst (λ ops. Contains (ids_in ops) c.in_ok-id.id.index) c.in_ok-id.ensures.ok c.in_ok-id.ensures.there)
    (c.erase.ensures.ops
    ∙ ap (taken_out c.args.op.index) (c.replace_all_uses.ensures.ops ∙ ap (all_replaced (Result c.args.op 0) (Result c.in_ok-id.id 0)) c.in_ok-id.ensures.ok))
