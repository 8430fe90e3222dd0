-- What values of the code stand for.
use Rattle.std.specs.Prelude.{ℕ, ◌+◌, cond, nat_lt, List, map, drop, slice_get, Option, Some, None}
use Rattle.hw_model.specs.Types.{Name}
use Rattle.hw_model.specs.TypeViews.{type_of}
use Rattle.hw_model.specs.KindViews.{predicate_of, integer_of, literals_in, instance_of}
use Rattle.ir_store.specs.declared.operation.Value.{Value}
use Rattle.ir_store.specs.declared.operation.Value.TheVariants.{Port, Result, Undefined}
use Rattle.mlir_operations.specs.ElementText.{InherentAttributes}
use Rattle.mlir_operations.specs.ElementText as text
use Rattle.printing_laws.specs.Numbers.{shown_literals}
use Rattle.mlir_printer.specs.Elements.{ValueText as Shown, Pending as Left, no_value}
use Rattle.mlir_printer.specs.Naming.{first_name, name_value_text}
use Rattle.mlir_printer.specs.Chosen.{Chosen}
use Rattle.mlir_printer.specs.ChosenViews.{names_in, chosen_in}
use Rattle.mlir_printer.specs.declared.value_names.ValueText.{ValueText}
use Rattle.mlir_printer.specs.declared.value_names.ValueNames.{ValueNames}
use Rattle.mlir_printer.specs.declared.value_names.Slot.{Slot}
use Rattle.mlir_printer.specs.declared.inherent_view.InherentView.{InherentView}
use Rattle.mlir_printer.specs.declared.inherent_view.InherentView.TheVariants as inherent_view
use Rattle.mlir_printer.specs.declared.inherent_view.Pending.{Pending}

-- a value as it is printed
abbrev pub value_of : ValueText → Shown
value_of v = record { name = v.name.now; number = v.number }

-- the names of a module's values, in order
abbrev pub names_held : ValueNames → List Name
names_held v = names_in v.names

-- the names, and the next number for what wants none
abbrev pub chosen_names : ValueNames → Chosen
chosen_names v = chosen_in v.names

-- result k of a position
abbrev pub slot_value : List Name → Slot → ℕ → Shown
slot_value ns p k =
    cond (nat_lt k p.count)
    (cond p.pack (record { name = first_name (drop p.first ns); number = Some k }) (name_value_text (first_name (drop (p.first + k) ns))))
    no_value

abbrev pub value_in_slot : List Name → Option Slot → ℕ → Shown
value_in_slot ns None k = no_value
value_in_slot ns (Some p) k = slot_value ns p k

-- the value of a port
abbrev pub port_placed : List Name → Option (Option ℕ) → Shown
port_placed ns None = no_value
port_placed ns (Some None) = no_value
port_placed ns (Some (Some n)) = name_value_text (first_name (drop n ns))

-- a value, as the table of names has it
unfoldable pub value_held : ValueNames → Value → Shown
value_held v (Port n) = port_placed (names_held v) (slice_get v.ports.items n)
value_held v (Result id k) = value_in_slot (names_held v) (slice_get v.slots.items id.index) k
value_held v Undefined = no_value

-- what an operation says besides operands and types
abbrev pub inherent_of : InherentView → InherentAttributes
inherent_of inherent_view.Nothing = text.InherentAttributes.nothing
inherent_of inherent_view.WithReset = text.InherentAttributes.with_reset
inherent_of inherent_view.WithAsyncReset = text.InherentAttributes.with_async_reset
inherent_of (inherent_view.Predicate p) = text.InherentAttributes.predicate (predicate_of p)
inherent_of (inherent_view.Position n) = text.InherentAttributes.position n
inherent_of (inherent_view.Number z) = text.InherentAttributes.number (integer_of z)
inherent_of (inherent_view.Literals ls) = text.InherentAttributes.literals (shown_literals (literals_in ls.now))
inherent_of (inherent_view.FieldName name) = text.InherentAttributes.field_name name.now
inherent_of (inherent_view.Child i) = text.InherentAttributes.child (instance_of i.now)

-- what is left of an operation, where values are named so
abbrev pub pending_of : ValueNames → Pending → Left
pending_of v p = record { operands = map (value_held v) p.operands.now; types = map type_of p.types.now; inherent = inherent_of p.inherent_view }
