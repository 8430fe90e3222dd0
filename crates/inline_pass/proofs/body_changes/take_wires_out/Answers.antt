use Rattle.std.proofs.Common.{◌≡◌, List, ◌∷◌, length, sym, ap, subst, ◌∙◌, drop, get_or, ◌+◌}
use Rattle.std.specs.Prelude.{Contains}
use Rattle.std.proofs.lemmas.List.{at_drop_more}
use Rattle.ir_store.specs.Bodies.{ops_of, op_id}
use Rattle.ir_store.specs.BodyOps.{BodyOp, ids_in, taken_out, all_replaced, IsUnused}
use Rattle.ir_store.specs.Numbered.{ops_by_position}
use Rattle.ir_store.specs.declared.operation.OpId.{OpId}
use Rattle.ir_store.specs.declared.operation.Value.TheVariants.{Result}
use Rattle.ir_store.proofs.BodyLemmas.{ids_once}
use Rattle.ir_store.proofs.Living.{ids-all_replaced}
use Rattle.inline_laws.specs.Unwire.{unwire}
use Rattle.body_edits.specs.Views.{body_ops}
use Rattle.body_edits.specs.WiresOut.{StandTogether, first_position, ids_without, carried_value}
use Rattle.body_edits.proofs.WiresTakenOut.{wire_there, wire_unused, wire_ids, others_together, wire_out}
use Rattle.inline_pass.proofs.body_changes.take_wires_out.Goals as goal

pub carried_value-value-requires : goal.carried_value-value-requires
carried_value-value-requires c =
    let i = c.loop-wire.wire-index in
    let w = get_or c.args.wires.now i (op_id 0) in
    let rest = drop (i + 1) c.args.wires.now in
    let steps : drop i c.args.wires.now ≡ w ∷ rest = at_drop_more (λ (ws : List OpId). ws) c.args.wires.now i (op_id 0) c.loop-wire-test.true in
    let ops = ops_of c.loop-wire.body in
    wire_there w rest ops (ids_once c.loop-wire.body) (subst (λ ws. StandTogether ws ops) steps c.loop-wire.invariant.together)

pub erase-requires-clause-live : goal.erase-requires-clause-live
erase-requires-clause-live c =
    let i = c.loop-wire.wire-index in
    let w = get_or c.args.wires.now i (op_id 0) in
    let rest = drop (i + 1) c.args.wires.now in
    let steps : drop i c.args.wires.now ≡ w ∷ rest = at_drop_more (λ (ws : List OpId). ws) c.args.wires.now i (op_id 0) c.loop-wire-test.true in
    let ops = ops_of c.loop-wire.body in
    subst (λ ids. Contains ids w.index) (sym (ap ids_in c.replace_all_uses.ensures.ops ∙ ids-all_replaced (Result w 0) c.carried_value-value.result ops))
    (wire_there w rest ops (ids_once c.loop-wire.body) (subst (λ ws. StandTogether ws ops) steps c.loop-wire.invariant.together))

pub erase-requires-clause-unused : goal.erase-requires-clause-unused
erase-requires-clause-unused c =
    let i = c.loop-wire.wire-index in
    let w = get_or c.args.wires.now i (op_id 0) in
    let rest = drop (i + 1) c.args.wires.now in
    let steps : drop i c.args.wires.now ≡ w ∷ rest = at_drop_more (λ (ws : List OpId). ws) c.args.wires.now i (op_id 0) c.loop-wire-test.true in
    let ops = ops_of c.loop-wire.body in
    subst (IsUnused w.index) (sym (c.replace_all_uses.ensures.ops ∙ ap (λ v. all_replaced (Result w 0) v ops) c.carried_value-value.ensures))
    (wire_unused w rest ops (ids_once c.loop-wire.body) (subst (λ ws. StandTogether ws ops) steps c.loop-wire.invariant.together))

pub loop-wire-preserved : goal.loop-wire-preserved
unfolding body_ops
loop-wire-preserved c =
    let i = c.loop-wire.wire-index in
    let w = get_or c.args.wires.now i (op_id 0) in
    let rest = drop (i + 1) c.args.wires.now in
    let steps : drop i c.args.wires.now ≡ w ∷ rest = at_drop_more (λ (ws : List OpId). ws) c.args.wires.now i (op_id 0) c.loop-wire-test.true in
    let ops = ops_of c.loop-wire.body in
    let together = subst (λ ws. StandTogether ws ops) steps c.loop-wire.invariant.together in
    let now : ops_of c.erase.new.self ≡ taken_out w.index (all_replaced (Result w 0) (carried_value w.index ops) ops) =
    c.erase.ensures.ops ∙ ap (taken_out w.index) (c.replace_all_uses.ensures.ops ∙ ap (λ v. all_replaced (Result w 0) v ops) c.carried_value-value.ensures) in
    record {
      together = subst (StandTogether rest) (sym now) (others_together w rest ops (ids_once c.loop-wire.body) together);
      left = ap (λ (os : List BodyOp). unwire (first_position (ids_in os) rest) (length rest) (ops_by_position os)) now
          ∙ wire_out w rest ops (ids_once c.loop-wire.body) together
          ∙ ap (λ (ws : List OpId). unwire (first_position (ids_in ops) ws) (length ws) (ops_by_position ops)) (sym steps)
          ∙ c.loop-wire.invariant.left;
      ids = ap (λ (os : List BodyOp). ids_without rest (ids_in os)) now
          ∙ ap (ids_without rest) (wire_ids w rest ops (ids_once c.loop-wire.body) together)
          ∙ ap (λ (ws : List OpId). ids_without ws (ids_in ops)) (sym steps)
          ∙ c.loop-wire.invariant.ids;
    }
