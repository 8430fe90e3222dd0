-- The values of a module are called as they are defined.
use Rattle.std.proofs.Common.{◌≡◌, ◌<◌, ◌^◌, List, [], ◌++◌, length, refl, sym, ap, ◌∙◌, arith}
use Rattle.std.specs.Prelude.{Option, slice_get}
use Rattle.std.proofs.lemmas.List.{length-map}
use Rattle.fresh_names.specs.Fresh.{fresh}
use Rattle.fresh_names.specs.TakenViews.{taken_names}
use Rattle.hw_model.specs.Types.{Name}
use Rattle.hw_model.specs.Design.{Port}
use Rattle.ir_store.specs.declared.operation.Value.{Value}
use Rattle.ir_store.specs.declared.operation.Value.TheVariants as value
use Rattle.ir_store.specs.BodyOps.{BodyOp, ids_in}
use Rattle.ir_store.specs.Numbered.{position_of, ref_by}
use Rattle.mlir_printer.specs.Naming.{hints_or_numbers, input_count, names_given, value_named}
use Rattle.printing_laws.specs.NameHints.{port_name_hints, body_name_hints}
use Rattle.mlir_printer.specs.Chosen.{Chosen, with_name_hints}
use Rattle.mlir_printer.specs.Choices.{name_chosen}
use Rattle.mlir_printer.specs.Slots.{HaveSlots, port_slots}
use Rattle.mlir_printer.specs.Shown.{parts_in_body}
use Rattle.mlir_printer.specs.Views.{names_held, value_held, slot_value, port_placed}
use Rattle.mlir_printer.specs.declared.value_names.ValueNames.{ValueNames}
use Rattle.mlir_printer.proofs.names.Choosing.{name_hints_append, name_hints_names, name_hints_length}
use Rattle.mlir_printer.proofs.names.Placing.{port_called, table_called, result_called}

-- there are no more names than a u32 counts
pub names_few : (v : ValueNames) → length (names_held v) < 2 ^ 32
names_few v = omega (arith, v.names.few, length-map v.names.choices.items (name_chosen (taken_names v.names.words)))

-- the names of ports and operations, from none on
pub all_names : (start mid end : Chosen) (ps : List Port) (ops : List BodyOp) → start.names ≡ [] → start.next ≡ 0
    → mid ≡ with_name_hints start (port_name_hints ps) → end ≡ with_name_hints mid (body_name_hints (parts_in_body ops)) → end.names ≡ names_given ps (parts_in_body ops)
all_names start mid end ps ops empty zero p q =
    let ws : List (Option Name) = port_name_hints ps ++ body_name_hints (parts_in_body ops) in
    ap (λ (c : Chosen). c.names) (q ∙ ap (λ c. with_name_hints c (body_name_hints (parts_in_body ops))) p ∙ sym (name_hints_append start (port_name_hints ps) (body_name_hints (parts_in_body ops))))
    ∙ name_hints_names start ws
    ∙ ap (λ (ns : List Name). ns ++ fresh ns (hints_or_numbers start.next ws)) empty
    ∙ ap (λ n. fresh [] (hints_or_numbers n ws)) zero

-- the names of the operations stand after those of the ports
pub ports_first : (start mid : Chosen) (ps : List Port) → start.names ≡ [] → mid ≡ with_name_hints start (port_name_hints ps) → length mid.names ≡ input_count ps
ports_first start mid ps empty p = omega (arith, ap (λ (c : Chosen). length c.names) p, name_hints_length start (port_name_hints ps), ap length empty)

pub all_values : (v : ValueNames) (ps : List Port) (ops : List BodyOp) → v.ports.items ≡ port_slots 0 ps → HaveSlots (input_count ps) ops v.slots.items
    → (x : Value) → value_held v x ≡ value_named (names_held v) ps (parts_in_body ops) (ref_by (position_of (ids_in ops)) x)
unfolding value_held
all_values v ps ops ports slots (value.Port n) = ap (λ l. port_placed (names_held v) (slice_get l n)) ports ∙ port_called (names_held v) ps 0 n
all_values v ps ops ports slots (value.Result id k) =
    table_called (names_held v) v.slots.items id.index k
    ∙ ap (λ p. slot_value (names_held v) p k) (slots id.index)
    ∙ result_called (names_held v) ops (input_count ps) id.index k
all_values v ps ops ports slots value.Undefined = refl
