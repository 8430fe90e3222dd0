use Rattle.std.proofs.Common.{◌≡◌, ℕ, List, Option, map, sym, ap, ap₂, subst, ◌∙◌}
use Rattle.std.specs.Prelude.{All, Contains, IfSome}
use Rattle.std.proofs.lemmas.List.{length-map}
use Rattle.ir_store.specs.declared.operation.OpId.{OpId}
use Rattle.ir_store.specs.declared.operation.Value.{Value}
use Rattle.ir_store.specs.Bodies.{ops_of, ids_of, read_op}
use Rattle.ir_store.specs.BodyOps.{BodyOp, ids_in}
use Rattle.ir_store.specs.Designs.{ports_in}
use Rattle.ir_store.specs.Live.{AreDistinct}
use Rattle.body_index.specs.PositionTables.{ArePositions}
use Rattle.ir_store.proofs.BodyLemmas.{ids_once}
use Rattle.inline_pass.specs.Inlinable.{own_name}
use Rattle.inline_pass.specs.MovedOps.{ArePutBefore, moved_value, operands_moved, without_id, wires_of}
use Rattle.inline_pass.specs.declared.moved_ops.Destinations.{Destinations}
use Rattle.inline_pass.specs.Destinations.{value_there}
use Rattle.inline_pass.proofs.PutInlined.{moved_distinct, put_there, put_stays, all_stay, ids_moved, are_put_before, destinations_told}
use Rattle.inline_pass.proofs.inlining.put_inlined.Goals as goal

pub positions_of-requires : goal.positions_of-requires
positions_of-requires c =
    subst AreDistinct (ap (map (λ (i : OpId). i.index)) (sym c.as_slice.ensures.value))
    (moved_distinct c.own_name.result.now (ops_of c.args.callee.body.now) c.in_ok-moved.moved.ids.items c.in_ok-moved.moved.copies.items c.in_ok-moved.moved.given.items c.in_ok-moved.ensures
    (ids_once c.args.callee.body.now))

pub put_all_before-requires-2 : goal.put_all_before-requires-2
put_all_before-requires-2 c = put_stays c.args.op.index c.args.op.index _ (ops_of c.args.body.now) (ops_of c.put_all_before.new.body) c.in_ok-wires-2.ensures.put c.requires

pub move_operands-requires-clause-destinations : goal.move_operands-requires-clause-destinations
move_operands-requires-clause-destinations c =
    destinations_told (record { joined = c.as_slice-2.result; ids = c.as_slice-3.result; positions = c.as_slice-4.result; copies = c.as_slice-5.result }) c.own_name.result.now
    (ops_of c.args.callee.body.now) c.in_ok-moved.moved.ids.items c.in_ok-copies.copies.items c.in_ok-moved.moved.copies.items
    c.in_ok-moved.moved.given.items c.in_ok-positions.positions.items c.in_ok-moved.ensures (ids_once c.args.callee.body.now)
    (subst (λ (is : List OpId). ArePositions (map (λ (i : OpId). i.index) is) c.in_ok-positions.positions.items) c.as_slice.ensures.value c.in_ok-positions.ensures) c.in_ok-copies.ensures.many
    c.as_slice-3.ensures.value c.as_slice-4.ensures.value c.as_slice-5.ensures.value

pub move_operands-requires-clause-live : goal.move_operands-requires-clause-live
move_operands-requires-clause-live c =
    subst (All (λ (i : OpId). Contains (ids_of c.put_all_before-2.new.body) i.index)) (sym c.as_slice-6.ensures.value)
    (all_stay c.in_ok-wires-2.wires.items c.args.op.index _ (ops_of c.put_all_before.new.body) (ops_of c.put_all_before-2.new.body) c.in_ok-copies.ensures.put
    (put_there c.args.op.index c.in_ok-wires-2.wires.items (map without_id c.in_ok-wires.wires.items) (ops_of c.args.body.now) (ops_of c.put_all_before.new.body)
    (c.in_ok-wires-2.ensures.many ∙ sym (length-map c.in_ok-wires.wires.items without_id)) c.in_ok-wires-2.ensures.put))

pub move_operands-requires-2-clause-destinations : goal.move_operands-requires-2-clause-destinations
move_operands-requires-2-clause-destinations c =
    destinations_told (record { joined = c.as_slice-2.result; ids = c.as_slice-3.result; positions = c.as_slice-4.result; copies = c.as_slice-5.result }) c.own_name.result.now
    (ops_of c.args.callee.body.now) c.in_ok-moved.moved.ids.items c.in_ok-copies.copies.items c.in_ok-moved.moved.copies.items
    c.in_ok-moved.moved.given.items c.in_ok-positions.positions.items c.in_ok-moved.ensures (ids_once c.args.callee.body.now)
    (subst (λ (is : List OpId). ArePositions (map (λ (i : OpId). i.index) is) c.in_ok-positions.positions.items) c.as_slice.ensures.value c.in_ok-positions.ensures) c.in_ok-copies.ensures.many
    c.as_slice-3.ensures.value c.as_slice-4.ensures.value c.as_slice-5.ensures.value

pub move_operands-requires-2-clause-live : goal.move_operands-requires-2-clause-live
move_operands-requires-2-clause-live c =
    let destinations : Destinations = record { joined = c.as_slice-2.result; ids = c.as_slice-3.result; positions = c.as_slice-4.result; copies = c.as_slice-5.result } in
    subst (All (λ (i : OpId). Contains (ids_of c.move_operands.new.body) i.index)) (sym c.as_slice-7.ensures.value)
    (subst (λ ids. All (λ (i : OpId). Contains ids i.index) c.in_ok-copies.copies.items)
    (sym (ap ids_in c.in_ok-move_operands.ensures ∙ ids_moved (value_there destinations) c.as_slice-6.result.now (ops_of c.put_all_before-2.new.body)))
    (put_there c.args.op.index c.in_ok-copies.copies.items (map without_id c.in_ok-moved.moved.copies.items) (ops_of c.put_all_before.new.body) (ops_of c.put_all_before-2.new.body)
    (c.in_ok-copies.ensures.many ∙ sym (length-map c.in_ok-moved.moved.copies.items without_id)) c.in_ok-copies.ensures.put))

pub returns : goal.returns
returns c =
    let destinations : Destinations = record { joined = c.as_slice-2.result; ids = c.as_slice-3.result; positions = c.as_slice-4.result; copies = c.as_slice-5.result } in
    let o = read_op c.args.op c.op-instance.result in
    let joined = c.in_ok-joined.joined.items in
    let numbers : List ℕ = map (λ (i : OpId). i.index) c.in_ok-moved.moved.ids.items in
    let there : value_there destinations ≡ moved_value joined numbers c.in_ok-copies.copies.items =
    ap (λ (vs : List Value). moved_value vs (map (λ (i : OpId). i.index) c.as_slice-3.result.now) c.as_slice-5.result.now) c.as_slice-2.ensures.value
    ∙ ap₂ (λ (is js : List OpId). moved_value joined (map (λ (i : OpId). i.index) is) js) c.as_slice-3.ensures.value c.as_slice-5.ensures.value in
    let put = are_put_before c.own_name.result.now (ports_in c.args.callee.header.now.ports) (ops_of c.args.callee.body.now) o (ops_of c.args.body.now) (ops_of c.put_all_before.new.body)
    (ops_of c.put_all_before-2.new.body) (ops_of c.move_operands.new.body) (ops_of c.move_operands-2.new.body) c.in_ok-wires-2.wires.items c.in_ok-copies.copies.items
    c.in_ok-moved.moved.ids.items c.in_ok-moved.moved.copies.items c.in_ok-wires.wires.items c.in_ok-moved.moved.given.items joined (value_there destinations) c.in_ok-moved.ensures
    (c.in_ok-wires.ensures ∙ ap (wires_of o.parts.location o.parts.results) c.as_slice-given.ensures.value) c.in_ok-wires-2.ensures.many c.in_ok-wires-2.ensures.few c.in_ok-copies.ensures.many
    c.in_ok-wires-2.ensures.put c.in_ok-copies.ensures.put there c.in_ok-joined.ensures
    (c.in_ok-move_operands.ensures ∙ ap (λ (ids : List OpId). operands_moved (value_there destinations) ids (ops_of c.put_all_before-2.new.body)) c.as_slice-6.ensures.value)
    (c.in_ok-move_operands-2.ensures ∙ ap (λ (ids : List OpId). operands_moved (value_there destinations) ids (ops_of c.move_operands.new.body)) c.as_slice-7.ensures.value) in
    subst (λ (x : Option BodyOp). IfSome x (λ (y : BodyOp). ArePutBefore (own_name y.parts.kind) (ports_in c.args.callee.header.now.ports) (ops_of c.args.callee.body.now) y (ops_of c.args.body.now)
    (ops_of c.move_operands-2.new.body) c.in_ok-wires-2.wires.items)) (sym c.op-instance.ensures)
    (subst (λ u. ArePutBefore u (ports_in c.args.callee.header.now.ports) (ops_of c.args.callee.body.now) o (ops_of c.args.body.now) (ops_of c.move_operands-2.new.body) c.in_ok-wires-2.wires.items)
    c.own_name.ensures put)
