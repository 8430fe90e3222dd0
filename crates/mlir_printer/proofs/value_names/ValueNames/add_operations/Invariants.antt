use Rattle.std.proofs.Common.{◌≡◌, ℕ, length}
use Rattle.std.specs.Prelude.{All, Contains}
use Rattle.ir_store.specs.declared.operation.OpId.{OpId}
use Rattle.ir_store.specs.BodyOps.{ids_in}
use Rattle.ir_store.specs.Bodies.{ids_of, ops_of, ids_left}
use Rattle.ir_store.specs.Live.{AreDistinct}
use Rattle.printing_laws.specs.NameHints.{body_name_hints}
use Rattle.mlir_printer.specs.Chosen.{with_name_hints}
use Rattle.mlir_printer.specs.Slots.{slot_in}
use Rattle.mlir_printer.specs.Shown.{parts_in_body}
use Rattle.mlir_printer.specs.Views.{names_held, chosen_names}
use Rattle.mlir_printer.proofs.names.Placing.{slot_left}
use Rattle.ir_store.proofs.Walks.{ops_at}
use Rattle.mlir_printer.proofs.value_names.ValueNames.add_operations.Given as goal

abbrev pub invariant-loop-id : goal.invariant-loop-id
invariant-loop-id l = record {
  live : All (λ (i : OpId). Contains (ids_of l.body) i.index) (ids_left l.id-iterator);
  chosen : with_name_hints (chosen_names l.self) (body_name_hints (parts_in_body (ops_at (ops_of l.body) (ids_left l.id-iterator))))
      ≡ with_name_hints (chosen_names l.initial.self) (body_name_hints (parts_in_body (ops_of l.body)));
  ports : l.self.ports ≡ l.initial.self.ports;
  once : AreDistinct (ids_in (ops_at (ops_of l.body) (ids_left l.id-iterator)));
  slots : (id : ℕ) → slot_left l.self.slots.items (length (names_held l.self)) (ops_at (ops_of l.body) (ids_left l.id-iterator)) id
      ≡ slot_in (length (names_held l.initial.self)) (ops_of l.body) id;
}
