-- The prices of registers by their types are no less than those of their gates, and can be summed along a flat body.
use Rattle.std.proofs.Common.{◌≡◌, refl, ap, ap₂, ◌∙◌, ℕ, suc, ◌+◌, ◌*◌, ◌≤◌, Bool, true, false, cond, List, [], ◌∷◌, map, length, slice_get, Option, Some, None, arith, option_and_then}
use Rattle.wiring.specs.Lists.{total}
use Rattle.wiring.proofs.Totals.{total-map_append}
use Rattle.hw_model.specs.Types.{Name}
use Rattle.hw_model.specs.Kinds.{Kind, Reset}
use Rattle.hw_model.specs.Kinds.Reset.{no_reset, sync_reset}
use Rattle.hw_model.specs.Kinds.Kind.{register, async_firreg}
use Rattle.hw_model.specs.Design.{Ref, Op, Module, Design, RegisterForm, instance_in, is_instance, takes_enable, register_form}
use Rattle.hw_model.specs.Flat.{Path, Slot, register_parts, has_async_reset, async_parts, held_width, op_registers, body_registers, registers_of, module_registers}
use Rattle.net_gates.specs.RegisterPrices.{load_price, next_price, load_cost, next_cost, registers_price}
use Rattle.flat_module_laws.specs.Sides.{IsFlat}
use Rattle.flat_module_laws.proofs.FlatBodies.{no_instance}
use Rattle.miter_blast.specs.ComparisonPrices.{choice_price, clock_price, form_price, register_price, registers_total}

-- a register without an asynchronous reset
sync_paid : (w : ℕ) (has_enable : Bool) (reset : Reset) (rs : List Ref)
    → next_price w None (register_parts has_enable reset rs) ≤ choice_price has_enable w + clock_price false reset w
sync_paid w false no_reset (d ∷ c ∷ []) = omega arith
sync_paid w true no_reset (d ∷ c ∷ e ∷ []) = omega arith
sync_paid w false sync_reset (d ∷ c ∷ r ∷ v ∷ []) = omega arith
sync_paid w true sync_reset (d ∷ c ∷ e ∷ r ∷ v ∷ []) = omega arith
sync_paid w has_enable reset rs = omega arith

-- one with an asynchronous reset
async_paid : (w : ℕ) (rs : List Ref)
    → load_price w (async_parts rs) + next_price w (async_parts rs) (register_parts false sync_reset rs) ≤ 9 * w
async_paid w (d ∷ c ∷ r ∷ v ∷ []) = omega arith
async_paid w rs = omega arith

kind_paid : (w : ℕ) (kind : Kind) (rs : List Ref)
    → load_price w (cond (has_async_reset kind) (async_parts rs) None)
    + next_price w (cond (has_async_reset kind) (async_parts rs) None) (option_and_then (λ (f : RegisterForm). register_parts f.has_enable f.reset rs) (register_form kind))
    ≤ form_price (has_async_reset kind) w (register_form kind)
kind_paid w (register f r) rs = let paid = sync_paid w (takes_enable f) r rs in omega (arith, paid)
kind_paid w async_firreg rs = let paid = async_paid w rs in omega (arith, paid)
kind_paid w kind rs = omega arith

slot_paid : (s : Slot) → load_cost s + next_cost s ≤ register_price s.op
slot_paid s = kind_paid (held_width s.op) s.op.kind s.op.operands

pub registers_paid : (ss : List Slot) → registers_price ss ≤ total (map (λ (r : Slot). register_price r.op) ss)
registers_paid [] = omega arith
registers_paid (s ∷ ss) =
    let own = slot_paid s in
    let rest = registers_paid ss in
    omega (arith, own, rest)

-- ---- registers of a body without instances

abbrev slot_price : Slot → ℕ
slot_price r = register_price r.op

body_total : (inner : Path → Name → List Slot) (p : Path) (u : ℕ) (os : List Op) → ((j : ℕ) (o : Op) → slice_get os j ≡ Some o → instance_in o.kind ≡ None)
    → total (map slot_price (body_registers inner p u os)) ≡ total (map register_price os)
body_total inner p u [] none = refl
body_total inner p u (o ∷ os) none =
    total-map_append slot_price (op_registers inner p u o) (body_registers inner p (cond (is_instance o) (suc u) u) os)
    ∙ ap₂ (λ (a b : ℕ). a + b) (own (register_form o.kind) refl) (body_total inner p (cond (is_instance o) (suc u) u) os (λ j q at. none (suc j) q at))
  where
    own : (x : Option RegisterForm) → register_form o.kind ≡ x → total (map slot_price (op_registers inner p u o)) ≡ register_price o
    own (Some f) is = simp is (omega arith)
    own None is = simp (is, none 0 o refl)

-- the registers of a flat module are those of its operations that are registers
pub body_registers_total : (d : Design) (top : Name) (m : Module) (order : List ℕ) → IsFlat d top m order → registers_total d top ≡ total (map register_price m.body)
body_registers_total d top m order flat =
    ap (λ o. total (map slot_price (registers_of (module_registers (length d) d) [] o))) flat.plain.found
    ∙ body_total (module_registers (length d) d) [] 0 m.body (no_instance d top m order flat)
