use Rattle.std.proofs.Common.{◌≡◌, ◌+◌, [], ◌∷◌, ℕ, cond, nat_eq, map, length, subst, sym, ◌∙◌, ap, refl, List}
use Rattle.ir_store.specs.BodyOps.{BodyOp, ids_in}
use Rattle.ir_store.specs.Bodies.{ops_of, ids_of, ids_left, op_id, read_op}
use Rattle.ir_store.specs.Live.{AreDistinct}
use Rattle.ir_store.proofs.BodyLemmas.{ids_once}
use Rattle.printing_laws.specs.NameHints.{name_hints, body_name_hints, name_count}
use Rattle.mlir_printer.specs.Chosen.{Chosen, with_name_hints}
use Rattle.mlir_printer.specs.Slots.{slot_at, slot_in, slot_for}
use Rattle.mlir_printer.specs.Shown.{parts_in_body}
use Rattle.mlir_printer.specs.Views.{names_held, chosen_names}
use Rattle.mlir_printer.proofs.names.Choosing.{name_hints_step, name_hints_length}
use Rattle.mlir_printer.proofs.names.Placing.{slot_left, position_step, once_step, none_kept}
use Rattle.ir_store.proofs.Walks.{ops_at, through_all, walk, all_among, first_among, rest_among}
use Rattle.mlir_printer.proofs.value_names.ValueNames.add_operations.Goals as goal

pub loop-id-init : goal.loop-id-init
loop-id-init c =
    let b = c.args.body.now in
    let left : ids_left c.into_iter-id-iterator.result ≡ map op_id (ids_of b) = ap ids_left c.into_iter-id-iterator.ensures.into_iter_gives ∙ c.ops-id-items.ensures in
    let all = ap (ops_at (ops_of b)) left ∙ through_all (ops_of b) (ids_once b) in
    record {
      live = all_among (ids_of b) (ids_left c.into_iter-id-iterator.result) left;
      chosen = ap (λ (os : List BodyOp). with_name_hints (chosen_names c.args.self.now) (body_name_hints (parts_in_body os))) all;
      ports = refl;
      once = subst (λ (os : List BodyOp). AreDistinct (ids_in os)) (sym all) (ids_once b);
      slots = λ id.
          ap (λ ps. slot_left ps (length (names_held c.args.self.now)) (ops_at (ops_of b) (ids_left c.into_iter-id-iterator.result)) id) c.requires
          ∙ ap (λ (os : List BodyOp). slot_left [] (length (names_held c.args.self.now)) os id) all
          ∙ none_kept (length (names_held c.args.self.now)) (ops_of b) id;
    }

-- each id that is left is one of the body
pub op-op-requires : goal.op-op-requires
op-op-requires c =
    first_among (ids_of c.args.body.now) c.in-Some.id (ids_left c.loop-id.id-iterator) (ids_left c.next.new.self) c.in-Some.ensures.steps c.loop-id.invariant.live

pub loop-id-preserved : goal.loop-id-preserved
loop-id-preserved c =
    let b = c.args.body.now in
    let o = read_op c.in-Some.id c.op-op.result in
    let after = ops_at (ops_of b) (ids_left c.next.new.self) in
    let steps : ops_at (ops_of b) (ids_left c.loop-id.id-iterator) ≡ o ∷ after =
    walk (ops_of b) c.in-Some.id (ids_left c.loop-id.id-iterator) (ids_left c.next.new.self) o c.op-op.ensures c.in-Some.ensures.steps in
    let put : (id : ℕ) → slot_for c.put_slot.new.slots.items id ≡ cond (nat_eq o.id id) (slot_at (length (names_held c.loop-id.self)) o.parts) (slot_for c.loop-id.self.slots.items id) =
    λ id. c.in_ok-put_slot.ensures id
    ∙ ap (λ n. cond (nat_eq n id) c.in_ok-slot.slot (slot_for c.add_operation.new.self.slots.items id)) c.number.ensures
    ∙ ap (λ p. cond (nat_eq o.id id) p (slot_for c.add_operation.new.self.slots.items id)) c.in_ok-slot.ensures.slot
    ∙ ap (λ ps. cond (nat_eq o.id id) (slot_at (length (names_held c.loop-id.self)) o.parts) (slot_for ps.items id)) c.add_operation.ensures.slots in
    let more : length (names_held c.add_operation.new.self) ≡ length (names_held c.loop-id.self) + name_count o.parts =
    ap (λ (n : Chosen). length n.names) c.in_ok-slot.ensures.chosen ∙ name_hints_length (chosen_names c.loop-id.self) (name_hints o.parts) in
    record {
      live = rest_among (ids_of b) c.in-Some.id (ids_left c.loop-id.id-iterator) (ids_left c.next.new.self) c.in-Some.ensures.steps c.loop-id.invariant.live;
      chosen =
          name_hints_step (chosen_names c.loop-id.self) (chosen_names c.add_operation.new.self) _ (name_hints o.parts) (body_name_hints (parts_in_body after)) c.in_ok-slot.ensures.chosen
          (ap (λ (os : List BodyOp). with_name_hints (chosen_names c.loop-id.self) (body_name_hints (parts_in_body os))) (sym steps) ∙ c.loop-id.invariant.chosen);
      ports = c.add_operation.ensures.ports ∙ c.loop-id.invariant.ports;
      once = once_step o (ops_at (ops_of b) (ids_left c.loop-id.id-iterator)) after steps c.loop-id.invariant.once;
      slots =
          position_step c.loop-id.self.slots.items c.put_slot.new.slots.items (length (names_held c.loop-id.self)) (length (names_held c.add_operation.new.self)) o
          (ops_at (ops_of b) (ids_left c.loop-id.id-iterator)) after (slot_in (length (names_held c.args.self.now)) (ops_of b)) steps c.loop-id.invariant.once put more c.loop-id.invariant.slots;
    }
