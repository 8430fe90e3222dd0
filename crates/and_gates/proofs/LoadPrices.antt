-- The gates of registers that load at every step are no more than their prices, and 3 for each bit that they hold.
use Rattle.std.proofs.Common.{◌≡◌, refl, ap, ◌∙◌, ℕ, ◌+◌, ◌*◌, ◌≤◌, Bool, true, false, cond, is_some, List, [], ◌∷◌, map, filter, Option, Some, None, arith, option_and_then}
use Rattle.wiring.specs.Lists.{total}
use Rattle.hw_model.specs.Kinds.{Kind, Reset}
use Rattle.hw_model.specs.Kinds.Reset.{no_reset, sync_reset}
use Rattle.hw_model.specs.Kinds.Kind.{register, async_firreg}
use Rattle.hw_model.specs.Design.{Ref, Op, Module, Design, RegisterForm, takes_enable, register_form, is_register}
use Rattle.hw_model.specs.Flat.{Slot, register_parts, has_async_reset, async_parts, held_width, registers, state, depth}
use Rattle.hw_model.proofs.Content.{slots_width, registers_width}
use Rattle.net_gates.specs.RegisterPrices.{next_price, next_cost}
use Rattle.net_gates.proofs.RegisterParts.{slots_price}
use Rattle.flat_module_laws.specs.FlatPrices.{op_price, module_price}
use Rattle.flat_module_laws.specs.Sides.{IsFlat}
use Rattle.flat_module_gates.specs.FlatSteps.{slot, slots_of}
use Rattle.flat_module_gates.proofs.LinkedRegisters.{registers_are}
use Rattle.miter_blast.specs.ComparisonPrices.{choice_price}
use Rattle.miter_blast.specs.ExportPrices.{reset_price, load_price, export_price}
use Rattle.miter_blast.proofs.CappedSums.{total_both}

-- a register without an asynchronous reset
sync_paid : (w : ℕ) (has_enable : Bool) (reset : Reset) (rs : List Ref)
    → next_price w None (register_parts has_enable reset rs) ≤ choice_price has_enable w + reset_price reset w + 3 * w
sync_paid w false no_reset (d ∷ c ∷ []) = omega arith
sync_paid w true no_reset (d ∷ c ∷ e ∷ []) = omega arith
sync_paid w false sync_reset (d ∷ c ∷ r ∷ v ∷ []) = omega arith
sync_paid w true sync_reset (d ∷ c ∷ e ∷ r ∷ v ∷ []) = omega arith
sync_paid w has_enable reset rs = omega arith

-- one with an asynchronous reset
async_paid : (w : ℕ) (rs : List Ref) → next_price w (async_parts rs) (register_parts false sync_reset rs) ≤ 6 * w
async_paid w (d ∷ c ∷ r ∷ v ∷ []) = omega arith
async_paid w rs = omega arith

kind_paid : (w : ℕ) (kind : Kind) (rs : List Ref)
    → next_price w (cond (has_async_reset kind) (async_parts rs) None) (option_and_then (λ (f : RegisterForm). register_parts f.has_enable f.reset rs) (register_form kind))
    ≤ load_price w (register_form kind) + 3 * w
kind_paid w (register f r) rs = let paid = sync_paid w (takes_enable f) r rs in omega (arith, paid)
kind_paid w async_firreg rs = let paid = async_paid w rs in omega (arith, paid)
kind_paid w kind rs = omega arith

-- what the loads of a register take
abbrev op_loads : Op → ℕ
op_loads o = load_price (held_width o) (register_form o.kind)

abbrev slot_loads : Slot → ℕ
slot_loads s = op_loads s.op

slot_paid : (s : Slot) → next_cost s ≤ slot_loads s + 3 * held_width s.op
slot_paid s = kind_paid (held_width s.op) s.op.kind s.op.operands

slots_paid : (ss : List Slot) → slots_price next_cost ss ≤ total (map slot_loads ss) + 3 * slots_width ss
slots_paid [] = omega arith
slots_paid (s ∷ ss) =
    let own = slot_paid s in
    let rest = slots_paid ss in
    omega (arith, own, rest)

-- those of a body are its operations'
loads_total : (os : List Op) → total (map slot_loads (slots_of os)) ≡ total (map op_loads os)
loads_total [] = refl
loads_total (o ∷ os) = go (register_form o.kind) refl (loads_total os)
  where
    go : (x : Option RegisterForm) → register_form o.kind ≡ x → total (map slot_loads (slots_of os)) ≡ total (map op_loads os)
        → total (map slot_loads (map slot (cond (is_some x) (o ∷ filter is_register os) (filter is_register os)))) ≡ load_price (held_width o) x + total (map op_loads os)
    go (Some f) is rest = let own : op_loads o ≡ load_price (held_width o) (Some f) = ap (load_price (held_width o)) is in omega (arith, own, rest)
    go None is rest = omega (arith, rest)

-- the price of operations and of loads is that of the module
pub loads_paid : (c : Design) (m : Module) (order : List ℕ) → IsFlat c m.symbol m order
    → module_price m + slots_price next_cost (registers c m.symbol) ≤ export_price m.ports m.body + 3 * state c m.symbol
loads_paid c m order flat =
    let paid = slots_paid (registers c m.symbol) in
    let wide = registers_width c (depth c) [] m.symbol in
    let loads : total (map slot_loads (registers c m.symbol)) ≡ total (map op_loads m.body) = ap (λ (ss : List Slot). total (map slot_loads ss)) (registers_are c m.symbol m order flat) ∙ loads_total m.body in
    let both : module_price m + total (map op_loads m.body) ≡ export_price m.ports m.body = total_both (op_price m.ports m.body) op_loads m.body in
    omega (arith, paid, wide, loads, both)
