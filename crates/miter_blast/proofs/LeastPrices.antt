-- What registers take at least: 3 gates for each bit.
use Rattle.std.proofs.Common.{◌≡◌, ℕ, zero, suc, ◌+◌, ◌*◌, ◌≤◌, Bool, true, false, cond, List, [], ◌∷◌, ◌++◌, map, Option, Some, None, arith}
use Rattle.wiring.specs.Lists.{total}
use Rattle.wiring.proofs.Totals.{total-map_append}
use Rattle.hw_model.specs.Types.{Name}
use Rattle.hw_model.specs.Kinds.{Reset}
use Rattle.hw_model.specs.Kinds.Reset.{no_reset, sync_reset}
use Rattle.hw_model.specs.Design.{Op, Module, Design, RegisterForm, find_module, is_instance}
use Rattle.hw_model.specs.Flat.{Path, Slot, has_async_reset, held_width, op_registers, body_registers, registers_of, module_registers, state, depth, registers}
use Rattle.hw_model.proofs.Content.{slots_width, registers_width}
use Rattle.hw_model.proofs.Sorts.{Sort, sort_of}
use Rattle.hw_model.proofs.Sorts.Sort.{a_register, an_instance, an_output, a_made}
use Rattle.miter_blast.specs.ComparisonPrices.{choice_price, clock_price, form_price, register_price, registers_total}

form_least : (is_async : Bool) (w : ℕ) (f : RegisterForm) → 3 * w ≤ form_price is_async w (Some f)
form_least is_async w f = go is_async f.has_enable f.reset
  where
    go : (a e : Bool) (r : Reset) → 3 * w ≤ choice_price e w + clock_price a r w
    go true true r = omega arith
    go true false r = omega arith
    go false true no_reset = omega arith
    go false false no_reset = omega arith
    go false true sync_reset = omega arith
    go false false sync_reset = omega arith

abbrev slot_price : Slot → ℕ
slot_price r = register_price r.op

-- registers take so much
abbrev AreDear : List Slot → Type 0
AreDear ss = 3 * slots_width ss ≤ total (map slot_price ss)

width_append : (xs ys : List Slot) → slots_width (xs ++ ys) ≡ slots_width xs + slots_width ys
width_append [] ys = omega arith
width_append (s ∷ xs) ys = let rest : slots_width (xs ++ ys) ≡ slots_width xs + slots_width ys = width_append xs ys in omega arith

dear_append : (xs ys : List Slot) → AreDear xs → AreDear ys → AreDear (xs ++ ys)
dear_append xs ys first second =
    go (slots_width (xs ++ ys)) (slots_width xs) (slots_width ys) (total (map slot_price (xs ++ ys))) (total (map slot_price xs)) (total (map slot_price ys)) (width_append xs ys)
    (total-map_append slot_price xs ys) first second
  where
    go : (a b c x y z : ℕ) → a ≡ b + c → x ≡ y + z → 3 * b ≤ y → 3 * c ≤ z → 3 * a ≤ x
    go a b c x y z e1 e2 e3 e4 = omega arith

module _ (inner : Path → Name → List Slot) (dear : (q : Path) (t : Name) → AreDear (inner q t)) where
  body_dear : (p : Path) (u : ℕ) (os : List Op) → AreDear (body_registers inner p u os)
  body_dear p u [] = omega arith
  body_dear p u (o ∷ os) =
      dear_append (op_registers inner p u o) (body_registers inner p (cond (is_instance o) (suc u) u) os) (here (sort_of o.kind)) (body_dear p (cond (is_instance o) (suc u) u) os)
    where
      here : Sort o.kind → AreDear (op_registers inner p u o)
      here (a_register f r i k) =
          simp (r, i)
          (let least : 3 * held_width o ≤ choice_price f.has_enable (held_width o) + clock_price (has_async_reset o.kind) f.reset (held_width o) =
          form_least (has_async_reset o.kind) (held_width o) f in
          omega arith)
      here (an_instance x r i k) = simp (r, i) (dear (u ∷ p) x.symbol)
      here (an_output r i k) = simp (r, i) (omega arith)
      here (a_made r i k) = simp (r, i) (omega arith)

module_dear : (d : Design) (n : ℕ) (p : Path) (s : Name) → AreDear (module_registers n d p s)
module_dear d zero p s = omega arith
module_dear d (suc n) p s = go (find_module d s) (λ q t. module_dear d n q t)
  where
    go : (x : Option Module) → ((q : Path) (t : Name) → AreDear (module_registers n d q t)) → AreDear (registers_of (module_registers n d) p x)
    go None inner = omega arith
    go (Some m) inner = body_dear (module_registers n d) inner p 0 m.body

pub registers_least : (d : Design) (s : Name) → 3 * state d s ≤ registers_total d s
registers_least d s =
    let dear : 3 * slots_width (registers d s) ≤ total (map slot_price (registers d s)) = module_dear d (depth d) [] s in
    let bits : slots_width (registers d s) ≡ state d s = registers_width d (depth d) [] s in
    omega arith
