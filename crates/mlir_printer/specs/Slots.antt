-- Where the names of ports and of the results of operations stand among the names of a module.
use Rattle.std.specs.Prelude.{◌≡◌, ℕ, ◌+◌, cond, false, nat_eq, List, [], ◌∷◌, length, Option, Some, None, slice_index_or}
use Rattle.hw_model.specs.Design.{Port}
use Rattle.ir_store.specs.OperationViews.{OpParts}
use Rattle.ir_store.specs.BodyOps.{BodyOp}
use Rattle.printing_laws.specs.NameHints.{is_pack, name_count, port_name_hint}
use Rattle.mlir_printer.specs.declared.value_names.Slot.{Slot}

-- the position of what has no names
abbrev pub no_slot : Slot
no_slot = record { first = 0; count = 0; pack = false }

-- the position of an operation's results, after so many names
abbrev pub slot_at : ℕ → OpParts → Slot
slot_at first o = record {
  first = first;
  count = cond (is_pack o.kind (length o.results)) (length o.results) (name_count o);
  pack = is_pack o.kind (length o.results);
}

-- the position of the operation of an id, where the names of the operations stand after so many
abbrev pub slot_in : ℕ → List BodyOp → ℕ → Slot
slot_in first [] id = no_slot
slot_in first (o ∷ os) id = cond (nat_eq o.id id) (slot_at first o.parts) (slot_in (first + name_count o.parts) os id)

-- what a table of positions has for an id
abbrev pub slot_for : List Slot → ℕ → Slot
slot_for slots id = slice_index_or slots id no_slot

-- a table has the positions of operations whose names stand after so many
abbrev pub HaveSlots : ℕ → List BodyOp → List Slot → Type 0
HaveSlots first ops slots = (id : ℕ) → slot_for slots id ≡ slot_in first ops id

-- of each port the number of its name, after so many names; of an output none
abbrev pub port_slots : ℕ → List Port → List (Option ℕ)
port_slots first [] = []
port_slots first (p ∷ ps) = cond p.is_output None (Some first) ∷ port_slots (first + length (port_name_hint p)) ps
