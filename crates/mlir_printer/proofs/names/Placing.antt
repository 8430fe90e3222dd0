-- Where names stand, and what values are called by them.
use Rattle.std.proofs.Common.{◌≡◌, ℕ, zero, suc, ◌+◌, ◌<◌, ◌≤◌, Bool, true, false, cond, nat_eq, List, [], ◌∷◌, ◌++◌, length, drop, set, subst, refl, sym, ap, ◌∙◌, arith}
use Rattle.std.proofs.lemmas.Bool.{ltb-true}
use Rattle.std.specs.Prelude.{nat_lt, Some, None, slice_get}
use Rattle.wiring.proofs.Equal.{zero_suc, suc_zero, suc_suc}
use Rattle.hw_model.specs.Types.{Name}
use Rattle.hw_model.specs.Design.{Port}
use Rattle.ir_store.specs.OperationViews.{OpParts}
use Rattle.ir_store.specs.BodyOps.{BodyOp, ids_in}
use Rattle.linked_lists.specs.Ids.{times}
use Rattle.ir_store.specs.Live.{AreDistinct}
use Rattle.ir_store.specs.Numbered.{position_of}
use Rattle.mlir_printer.specs.Naming.{first_name, name_value_text, port_value, value_at, value_in}
use Rattle.printing_laws.specs.NameHints.{is_pack, name_count, port_name_hint}
use Rattle.mlir_printer.specs.Elements.{no_value}
use Rattle.mlir_printer.specs.Slots.{no_slot, slot_at, slot_in, slot_for, port_slots}
use Rattle.mlir_printer.specs.Shown.{parts_in_body}
use Rattle.mlir_printer.specs.Views.{value_in_slot, slot_value, port_placed}
use Rattle.mlir_printer.specs.declared.value_names.Slot.{Slot}
use Rattle.mlir_printer.proofs.steps.Passing.{drop_again}

-- ---- ports

pub port_called : (ns : List Name) (ps : List Port) (first j : ℕ) → port_placed ns (slice_get (port_slots first ps) j) ≡ port_value (drop first ns) ps j
port_called ns [] first j = refl
port_called ns (p ∷ ps) first zero = go p.is_output
  where
    go : (b : Bool) → port_placed ns (Some (cond b None (Some first))) ≡ cond b no_value (name_value_text (first_name (drop first ns)))
    go true = refl
    go false = refl
port_called ns (p ∷ ps) first (suc j) =
    port_called ns ps (first + length (port_name_hint p)) j ∙ ap (λ l. port_value l ps j) (sym (drop_again (length (port_name_hint p)) first ns))

-- ---- results

none_below : (k : ℕ) → nat_lt k 0 ≡ false
none_below k = go (nat_lt k 0) refl
  where
    go : (b : Bool) → nat_lt k 0 ≡ b → nat_lt k 0 ≡ false
    go true e = absurd (omega (arith, ltb-true k 0 e))
    go false e = e

nowhere : (ns : List Name) (k : ℕ) → slot_value ns no_slot k ≡ no_value
nowhere ns k = ap (λ b. cond b (name_value_text (first_name (drop (0 + k) ns))) no_value) (none_below k)

pub table_called : (ns : List Name) (slots : List Slot) (id k : ℕ) → value_in_slot ns (slice_get slots id) k ≡ slot_value ns (slot_for slots id) k
table_called ns [] id k = sym (nowhere ns k)
table_called ns (p ∷ slots) zero k = refl
table_called ns (p ∷ slots) (suc id) k = table_called ns slots id k

at_position : (ns : List Name) (first k : ℕ) (o : OpParts) → slot_value ns (slot_at first o) k ≡ value_at o (drop first ns) k
at_position ns first k o = go (is_pack o.kind (length o.results))
  where
    go : (b : Bool) →
        cond (nat_lt k (cond b (length o.results) (name_count o))) (cond b (record { name = first_name (drop first ns); number = Some k }) (name_value_text (first_name (drop (first + k) ns)))) no_value
        ≡ cond b (cond (nat_lt k (length o.results)) (record { name = first_name (drop first ns); number = Some k }) no_value)
        (cond (nat_lt k (name_count o)) (name_value_text (first_name (drop k (drop first ns)))) no_value)
    go true = refl
    go false = ap (λ l. cond (nat_lt k (name_count o)) (name_value_text (first_name l)) no_value) (sym (drop_again k first ns))

pub result_called : (ns : List Name) (ops : List BodyOp) (first id k : ℕ)
    → slot_value ns (slot_in first ops id) k ≡ value_in (drop first ns) (parts_in_body ops) (position_of (ids_in ops) id) k
result_called ns [] first id k = nowhere ns k
result_called ns (o ∷ ops) first id k = go (nat_eq o.id id) (result_called ns ops (first + name_count o.parts) id k)
  where
    go : (b : Bool) → slot_value ns (slot_in (first + name_count o.parts) ops id) k ≡ value_in (drop (first + name_count o.parts) ns) (parts_in_body ops) (position_of (ids_in ops) id) k
        → slot_value ns (cond b (slot_at first o.parts) (slot_in (first + name_count o.parts) ops id)) k
        ≡ value_in (drop first ns) (parts_in_body (o ∷ ops)) (cond b 0 (suc (position_of (ids_in ops) id))) k
    go true rest = at_position ns first k o.parts
    go false rest = rest ∙ ap (λ l. value_in l (parts_in_body ops) (position_of (ids_in ops) id) k) (sym (drop_again (name_count o.parts) first ns))

-- ---- a table of positions as it grows

-- the position of an id: of an operation that is left, after so many names, or else what the table has
abbrev pub slot_left : List Slot → ℕ → List BodyOp → ℕ → Slot
slot_left slots first [] id = slot_for slots id
slot_left slots first (o ∷ os) id = cond (nat_eq o.id id) (slot_at first o.parts) (slot_left slots (first + name_count o.parts) os id)

pub none_kept : (first : ℕ) (ops : List BodyOp) (id : ℕ) → slot_left [] first ops id ≡ slot_in first ops id
none_kept first [] id = refl
none_kept first (o ∷ ops) id = ap (cond (nat_eq o.id id) (slot_at first o.parts)) (none_kept (first + name_count o.parts) ops id)

same_table : (slots others : List Slot) (first : ℕ) (ops : List BodyOp) (id : ℕ) → slot_for others id ≡ slot_for slots id
    → slot_left others first ops id ≡ slot_left slots first ops id
same_table slots others first [] id e = e
same_table slots others first (o ∷ ops) id e = ap (cond (nat_eq o.id id) (slot_at first o.parts)) (same_table slots others (first + name_count o.parts) ops id e)

not_left : (slots : List Slot) (first : ℕ) (ops : List BodyOp) (id : ℕ) → times id (ids_in ops) ≡ 0 → slot_left slots first ops id ≡ slot_for slots id
not_left slots first [] id none = refl
not_left slots first (o ∷ ops) id none = go (nat_eq o.id id) none (not_left slots (first + name_count o.parts) ops id)
  where
    go : (b : Bool) → cond b (suc (times id (ids_in ops))) (times id (ids_in ops)) ≡ 0
        → (times id (ids_in ops) ≡ 0 → slot_left slots (first + name_count o.parts) ops id ≡ slot_for slots id)
        → cond b (slot_at first o.parts) (slot_left slots (first + name_count o.parts) ops id) ≡ slot_for slots id
    go true n rest = absurd (omega (arith, n))
    go false n rest = rest n

position_next : (slots others : List Slot) (first : ℕ) (o : BodyOp) (ops : List BodyOp) (id : ℕ) → AreDistinct (ids_in (o ∷ ops))
    → slot_for others id ≡ cond (nat_eq o.id id) (slot_at first o.parts) (slot_for slots id)
    → slot_left others (first + name_count o.parts) ops id ≡ slot_left slots first (o ∷ ops) id
position_next slots others first o ops id once put = go (nat_eq o.id id) put (once id)
  where
    go : (b : Bool) → slot_for others id ≡ cond b (slot_at first o.parts) (slot_for slots id) → cond b (suc (times id (ids_in ops))) (times id (ids_in ops)) ≤ 1
        → slot_left others (first + name_count o.parts) ops id ≡ cond b (slot_at first o.parts) (slot_left slots (first + name_count o.parts) ops id)
    go true put once = not_left others (first + name_count o.parts) ops id (omega (arith, once)) ∙ put
    go false put once = same_table slots others (first + name_count o.parts) ops id put

-- one operation more has its position
pub position_step : (slots others : List Slot) (first more : ℕ) (o : BodyOp) (before after : List BodyOp) (whole : ℕ → Slot) → before ≡ o ∷ after → AreDistinct (ids_in before)
    → ((id : ℕ) → slot_for others id ≡ cond (nat_eq o.id id) (slot_at first o.parts) (slot_for slots id)) → more ≡ first + name_count o.parts
    → ((id : ℕ) → slot_left slots first before id ≡ whole id) → (id : ℕ) → slot_left others more after id ≡ whole id
position_step slots others first more o before after whole steps once put count kept id =
    ap (λ n. slot_left others n after id) count
    ∙ position_next slots others first o after id (subst (λ l. AreDistinct (ids_in l)) steps once) (put id)
    ∙ ap (λ l. slot_left slots first l id) (sym steps)
    ∙ kept id

pub once_step : (o : BodyOp) (before after : List BodyOp) → before ≡ o ∷ after → AreDistinct (ids_in before) → AreDistinct (ids_in after)
once_step o before after steps once v = go (nat_eq o.id v) ((subst (λ l. AreDistinct (ids_in l)) steps once) v)
  where
    go : (b : Bool) → cond b (suc (times v (ids_in after))) (times v (ids_in after)) ≤ 1 → times v (ids_in after) ≤ 1
    go true h = omega (arith, h)
    go false h = h

-- ---- one position is put into a table

get_same : (slots : List Slot) (j : ℕ) (p : Slot) → j < length slots → (id : ℕ) → slot_for (set slots j p) id ≡ cond (nat_eq j id) p (slot_for slots id)
get_same [] j p lt id = absurd (omega (arith, lt))
get_same (q ∷ slots) zero p lt zero = refl
get_same (q ∷ slots) zero p lt (suc id) = sym (ap (λ b. cond b p (slot_for slots id)) (zero_suc id))
get_same (q ∷ slots) (suc j) p lt zero = sym (ap (λ b. cond b p q) (suc_zero j))
get_same (q ∷ slots) (suc j) p lt (suc id) = get_same slots j p (omega (arith, lt)) id ∙ sym (ap (λ b. cond b p (slot_for slots id)) (suc_suc j id))

pub position_set : (old slots : List Slot) (j : ℕ) (p : Slot) → j < length slots → ((id : ℕ) → slot_for slots id ≡ slot_for old id)
    → (id : ℕ) → slot_for (set slots j p) id ≡ cond (nat_eq j id) p (slot_for old id)
position_set old slots j p lt same id = get_same slots j p lt id ∙ ap (cond (nat_eq j id) p) (same id)

get_last : (slots : List Slot) (p : Slot) (id : ℕ) → slot_for (slots ++ p ∷ []) id ≡ cond (nat_eq (length slots) id) p (slot_for slots id)
get_last [] p zero = refl
get_last [] p (suc id) = sym (ap (λ b. cond b p no_slot) (zero_suc id))
get_last (q ∷ slots) p zero = sym (ap (λ b. cond b p q) (suc_zero (length slots)))
get_last (q ∷ slots) p (suc id) = get_last slots p id ∙ sym (ap (λ b. cond b p (slot_for slots id)) (suc_suc (length slots) id))

pub position_last : (old slots new : List Slot) (j : ℕ) (p : Slot) → length slots ≡ j → new ≡ slots ++ p ∷ [] → ((id : ℕ) → slot_for slots id ≡ slot_for old id)
    → (id : ℕ) → slot_for new id ≡ cond (nat_eq j id) p (slot_for old id)
position_last old slots new j p count pushed same id =
    ap (λ l. slot_for l id) pushed ∙ get_last slots p id ∙ ap (λ n. cond (nat_eq n id) p (slot_for slots id)) count ∙ ap (cond (nat_eq j id) p) (same id)

-- an empty position more changes nothing
pub position_empty : (old slots new : List Slot) → new ≡ slots ++ no_slot ∷ [] → ((id : ℕ) → slot_for slots id ≡ slot_for old id)
    → (id : ℕ) → slot_for new id ≡ slot_for old id
position_empty old slots new pushed same id = ap (λ l. slot_for l id) pushed ∙ more slots id ∙ same id
  where
    more : (slots : List Slot) (id : ℕ) → slot_for (slots ++ no_slot ∷ []) id ≡ slot_for slots id
    more [] zero = refl
    more [] (suc id) = refl
    more (q ∷ slots) zero = refl
    more (q ∷ slots) (suc id) = more slots id
