-- The operands of a register and their types, what an asynchronous reset says of a register, and the target of its block.
use Rattle.std.proofs.Common.{◌≡◌, ℕ, Bool, true, false, cond, List, [], ◌∷◌, map, slice_get, Option, Some, None, refl, sym, ◌∙◌, ap, inr, option_and_then, option_map}
use Rattle.hw_model.specs.Types.{Name, HwType}
use Rattle.hw_model.specs.Types.HwType.{int, clock}
use Rattle.hw_model.specs.Kinds.{Kind, Reset}
use Rattle.hw_model.specs.Kinds.Reset.{no_reset, sync_reset}
use Rattle.hw_model.specs.Kinds.Kind.{register, async_firreg}
use Rattle.hw_model.specs.Design.{Ref, OpResult, Op, Module, Design, RegisterForm, takes_enable, find_module, register_form, result_type}
use Rattle.hw_model.specs.Flat.{Register, ResetBy, register_parts, register_in, has_async_reset, async_parts, async_reset_in}
use Rattle.hw_model.specs.Sound.{type_in, register_types, Fits}
use Rattle.verilog_model.specs.Tree.{Expr}
use Rattle.verilog_model.specs.Hierarchy.{block_target}
use Rattle.lowering_options.specs.declared.lowering.Lowering.{Lowering}
use Rattle.export_verilog.specs.Lowerings.{load_place, own_place}
use Rattle.export_verilog.specs.Identifiers.{emission_of}
use Rattle.export_verilog.specs.Identifiers.Emission.{as_reg}
use Rattle.export_verilog.specs.Exported.{expression, block_of, module_block}
use Rattle.export_verilog.proofs.names.IdentifiersOf.{register_of_emission}
use Rattle.export_verilog.proofs.items.Settings.{Setting, module_sound, result_at_first}

-- the operands of a register of type t have their types
pub record AreOperands (type_of : Ref → Option HwType) (t : HwType) (r : Register) : Type 0 where
  pub next : type_of r.next ≡ Some t
  pub clocked : type_of r.clock ≡ Some clock
  pub enable : (e : Ref) → r.enable ≡ Some e → type_of e ≡ Some (int 1)
  pub signal : (b : ResetBy) → r.reset ≡ Some b → type_of b.signal ≡ Some (int 1)
  pub value : (b : ResetBy) → r.reset ≡ Some b → type_of b.value ≡ Some t

module _ (type_of : Ref → Option HwType) (t : HwType) where
  pub parts_typed : (e : Bool) (r : Reset) (rs : List Ref) → map type_of rs ≡ register_types e r t → (g : Register) × (register_parts e r rs ≡ Some g) × AreOperands type_of t g
  parts_typed false no_reset [] is = cc
  parts_typed false no_reset (a ∷ []) is = cc
  parts_typed false no_reset (a ∷ b ∷ []) is =
      let p : type_of a ≡ Some t = cc in let q : type_of b ≡ Some clock = cc in
      (record { next = a; clock = b; enable = None; reset = None }, refl, record { next = p; clocked = q; enable = λ e h. cc; signal = λ e h. cc; value = λ e h. cc })
  parts_typed false no_reset (a ∷ b ∷ c ∷ rs) is = cc
  parts_typed true no_reset [] is = cc
  parts_typed true no_reset (a ∷ []) is = cc
  parts_typed true no_reset (a ∷ b ∷ []) is = cc
  parts_typed true no_reset (a ∷ b ∷ c ∷ []) is =
      let p : type_of a ≡ Some t = cc in let q : type_of b ≡ Some clock = cc in let u : type_of c ≡ Some (int 1) = cc in (
        record { next = a; clock = b; enable = Some c; reset = None },
        refl,
        record { next = p; clocked = q; enable = λ e h. (let same : c ≡ e = cc in ap type_of (sym same) ∙ u); signal = λ e h. cc; value = λ e h. cc },
      )
  parts_typed true no_reset (a ∷ b ∷ c ∷ f ∷ rs) is = cc
  parts_typed false sync_reset [] is = cc
  parts_typed false sync_reset (a ∷ []) is = cc
  parts_typed false sync_reset (a ∷ b ∷ []) is = cc
  parts_typed false sync_reset (a ∷ b ∷ c ∷ []) is = cc
  parts_typed false sync_reset (a ∷ b ∷ c ∷ f ∷ []) is =
      let p : type_of a ≡ Some t = cc in let q : type_of b ≡ Some clock = cc in let u : type_of c ≡ Some (int 1) = cc in let v : type_of f ≡ Some t = cc in
      let by : ResetBy = record { signal = c; value = f } in (
        record { next = a; clock = b; enable = None; reset = Some (record { signal = c; value = f }) },
        refl,
        record {
          next = p;
          clocked = q;
          enable = λ e h. cc;
          signal = λ e h. (let same : by ≡ e = cc in ap (λ (z : ResetBy). type_of z.signal) (sym same) ∙ u);
          value = λ e h. (let same : by ≡ e = cc in ap (λ (z : ResetBy). type_of z.value) (sym same) ∙ v);
        },
      )
  parts_typed false sync_reset (a ∷ b ∷ c ∷ f ∷ g ∷ rs) is = cc
  parts_typed true sync_reset [] is = cc
  parts_typed true sync_reset (a ∷ []) is = cc
  parts_typed true sync_reset (a ∷ b ∷ []) is = cc
  parts_typed true sync_reset (a ∷ b ∷ c ∷ []) is = cc
  parts_typed true sync_reset (a ∷ b ∷ c ∷ f ∷ []) is = cc
  parts_typed true sync_reset (a ∷ b ∷ z ∷ c ∷ f ∷ []) is =
      let p : type_of a ≡ Some t = cc in let q : type_of b ≡ Some clock = cc in let w : type_of z ≡ Some (int 1) = cc in
      let u : type_of c ≡ Some (int 1) = cc in let v : type_of f ≡ Some t = cc in
      let by : ResetBy = record { signal = c; value = f } in (
        record { next = a; clock = b; enable = Some z; reset = Some (record { signal = c; value = f }) },
        refl,
        record {
          next = p;
          clocked = q;
          enable = λ e h. (let same : z ≡ e = cc in ap type_of (sym same) ∙ w);
          signal = λ e h. (let same : by ≡ e = cc in ap (λ (z : ResetBy). type_of z.signal) (sym same) ∙ u);
          value = λ e h. (let same : by ≡ e = cc in ap (λ (z : ResetBy). type_of z.value) (sym same) ∙ v);
        },
      )
  parts_typed true sync_reset (a ∷ b ∷ z ∷ c ∷ f ∷ g ∷ rs) is = cc

pub form_fits : (kind : Kind) (f : RegisterForm) (ts : List HwType) (xs : List (Option HwType)) (t : HwType) (k : ℕ) → register_form kind ≡ Some f → Fits kind ts xs t k
    → xs ≡ register_types f.has_enable f.reset t
form_fits (register g r) f ts xs t k is fits =
    fits ∙ ap (λ (z : RegisterForm). register_types z.has_enable z.reset t) (let e : record { has_enable = takes_enable g; reset = r } ≡ f = cc in e)
form_fits async_firreg f ts xs t k is fits =
    fits ∙ ap (λ (z : RegisterForm). register_types z.has_enable z.reset t) (let e : record { has_enable = false; reset = sync_reset } ≡ f = cc in e)
form_fits kind f ts xs t k is fits = cc

-- ---- asynchronous resets

-- a register with an asynchronous reset: where its clock rises it loads as one with a synchronous reset and no enable
pub record IsAsync (o : Op) (b : ResetBy) : Type 0 where
  pub next : Ref
  pub clock_ref : Ref
  pub is_register : register_in o ≡ Some (record { next = next; clock = clock_ref; enable = None; reset = Some b })

pub async_register : (o : Op) (b : ResetBy) → async_reset_in o ≡ Some b → IsAsync o b
async_register o b is = let g = go o.kind o.operands is in record { next = g.0; clock_ref = g.1; is_register = g.2 } where
  go : (k : Kind) (rs : List Ref) → cond (has_async_reset k) (async_parts rs) None ≡ Some b
      → (next : Ref) × (clock_ref : Ref) × (option_and_then (λ (f : RegisterForm). register_parts f.has_enable f.reset rs) (register_form k) ≡ Some (record { next = next; clock = clock_ref; enable = None; reset = Some b }))
  go async_firreg (p ∷ q ∷ r ∷ v ∷ []) h = (p, q, ap (λ (z : Option ResetBy). Some (record { next = p; clock = q; enable = None; reset = z })) h)
  go async_firreg _ h = cc
  go _ rs h = cc

-- its reset is that of the register, and it has no enable
pub async_parts_of : (o : Op) (b : ResetBy) → async_reset_in o ≡ Some b → (r : Register) → register_in o ≡ Some r → (r.reset ≡ Some b) × (r.enable ≡ None)
async_parts_of o b is r at =
    let g = async_register o b is in
    let e : Some (record { next = g.next; clock = g.clock_ref; enable = None; reset = Some b }) ≡ Some r = sym g.is_register ∙ at in
    let f : record { next = g.next; clock = g.clock_ref; enable = None; reset = Some b } ≡ r = cc in
    (ap (λ (z : Register). z.reset) (sym f), ap (λ (z : Register). z.enable) (sym f))

pub async_reset_of : (o : Op) (b : ResetBy) → async_reset_in o ≡ Some b → (r : Register) → register_in o ≡ Some r → r.reset ≡ Some b
async_reset_of o b is r at = (async_parts_of o b is r at).0

-- ---- blocks

block_of_target : (asked ex : Ref → Expr) (q : Name) (next : Ref) (e : Option Ref) (b : Option ResetBy) → block_target (block_of asked ex q next e b) ≡ q
block_of_target asked ex q next None None = refl
block_of_target asked ex q next (Some e) None = refl
block_of_target asked ex q next None (Some b) = refl
block_of_target asked ex q next (Some e) (Some b) = refl

-- the block of a register loads the register
pub module_block_target : (via : Lowering) (m : Module) (q : Name) (r : Register) (a : Option ResetBy) → block_target (module_block via m q r a) ≡ q
module_block_target via m q r None = block_of_target (expression m (own_place via)) (expression m (load_place via)) q r.next r.enable r.reset
module_block_target via m q r (Some b) = refl

module _ (d : Design) (x : Setting d) (s : Name) (m : Module) (is : find_module d s ≡ Some m) where
  pub typed_register : (i : ℕ) (o : Op) → slice_get m.body i ≡ Some o → emission_of m.ports m.body i o ≡ as_reg → (t : HwType) → result_type o 0 ≡ Some t
      → (r : Register) × (register_in o ≡ Some r) × AreOperands (type_in m.ports m.body) t r
  typed_register i o there emission t typed =
      let f = register_of_emission m.ports m.body i o emission in
      let fits = form_fits o.kind f.0 o.types (map (type_in m.ports m.body) o.operands) t 0 f.1 ((module_sound d x s m is).ops i o there 0 t typed) in
      let g = parts_typed (type_in m.ports m.body) t f.0.has_enable f.0.reset o.operands fits in
      (g.0, ap (λ z. option_and_then (λ (f : RegisterForm). register_parts f.has_enable f.reset o.operands) z) f.1 ∙ g.1, g.2)

  pub register_of : (i : ℕ) (o : Op) → slice_get m.body i ≡ Some o → emission_of m.ports m.body i o ≡ as_reg → (r : Register) × (register_in o ≡ Some r)
  register_of i o there emission =
      let h = result_at_first d x s m is i o there (inr emission) in
      let g = typed_register i o there emission h.0.type (ap (option_map (λ (z : OpResult). z.type)) h.1) in (g.0, g.1)
