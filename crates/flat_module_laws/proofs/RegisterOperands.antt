-- The operands of a register, by the types that they fit.
use Rattle.std.proofs.Common.{◌≡◌, refl, sym, ap, subst, ◌∙◌, ℕ, Bool, true, false, cond, List, [], ◌∷◌, map, Option, Some, None}
use Rattle.wiring.specs.Wiring.{In}
use Rattle.hw_model.specs.Types.{HwType}
use Rattle.hw_model.specs.Kinds.{Kind, Reset}
use Rattle.hw_model.specs.Kinds.Reset.{no_reset, sync_reset}
use Rattle.hw_model.specs.Kinds.Kind.{register, async_firreg}
use Rattle.hw_model.specs.Design.{Ref, Op, RegisterForm, takes_enable, register_form}
use Rattle.hw_model.specs.Flat.{Register, ResetBy, register_parts, register_in, has_async_reset, async_parts, async_reset_in}
use Rattle.hw_model.specs.Sound.{register_types, Fits}
use Rattle.net_gates.specs.RegisterMiters.{parts_of}

-- a register's parts are its operands; its data and its reset's value have its type
pub record PartsFit (type_of : Ref → Option HwType) (t : HwType) (rs : List Ref) (r : Register) : Type 0 where
  pub among : (y : Ref) → In y (parts_of r) → In y rs
  pub next : type_of r.next ≡ Some t
  pub value : (v : ResetBy) → r.reset ≡ Some v → type_of v.value ≡ Some t

module _ (type_of : Ref → Option HwType) (t : HwType) where
  -- a register with these parts
  abbrev Fit : List Ref → Register → Type 0
  Fit rs r = PartsFit type_of t rs r

  plain_fit : (d c : Ref) → type_of d ≡ Some t → Fit (d ∷ c ∷ []) (record { next = d; clock = c; enable = None; reset = None })
  plain_fit d c typed = record { among = λ y here. here; next = typed; value = λ v is. cc }

  enabled_fit : (d c e : Ref) → type_of d ≡ Some t → Fit (d ∷ c ∷ e ∷ []) (record { next = d; clock = c; enable = Some e; reset = None })
  enabled_fit d c e typed = record { among = λ y here. here; next = typed; value = λ v is. cc }

  reset_value : (z v : ResetBy) → type_of z.value ≡ Some t → Some z ≡ Some v → type_of v.value ≡ Some t
  reset_value z v typed is = let same : z ≡ v = cc in sym (ap (λ (y : ResetBy). type_of y.value) same) ∙ typed

  reset_fit : (d c r w : Ref) → type_of d ≡ Some t → type_of w ≡ Some t
      → Fit (d ∷ c ∷ r ∷ w ∷ []) (record { next = d; clock = c; enable = None; reset = Some (record { signal = r; value = w }) })
  reset_fit d c r w typed also = record { among = λ y here. here; next = typed; value = λ v is. reset_value (record { signal = r; value = w }) v also is }

  both_fit : (d c e r w : Ref) → type_of d ≡ Some t → type_of w ≡ Some t
      → Fit (d ∷ c ∷ e ∷ r ∷ w ∷ []) (record { next = d; clock = c; enable = Some e; reset = Some (record { signal = r; value = w }) })
  both_fit d c e r w typed also = record { among = λ y here. here; next = typed; value = λ v is. reset_value (record { signal = r; value = w }) v also is }

  same_fit : (rs : List Ref) (z r : Register) → Some z ≡ Some r → Fit rs z → Fit rs r
  same_fit rs z r is fit = let same : z ≡ r = cc in subst (Fit rs) same fit

  pub parts_fit : (has_enable : Bool) (reset : Reset) (rs : List Ref) (r : Register) → map type_of rs ≡ register_types has_enable reset t
      → register_parts has_enable reset rs ≡ Some r → Fit rs r
  parts_fit false no_reset (d ∷ c ∷ []) r typed is = same_fit (d ∷ c ∷ []) _ r is (plain_fit d c (let e : type_of d ≡ Some t = cc in e))
  parts_fit true no_reset (d ∷ c ∷ e ∷ []) r typed is = same_fit (d ∷ c ∷ e ∷ []) _ r is (enabled_fit d c e (let f : type_of d ≡ Some t = cc in f))
  parts_fit false sync_reset (d ∷ c ∷ p ∷ w ∷ []) r typed is =
      same_fit (d ∷ c ∷ p ∷ w ∷ []) _ r is (reset_fit d c p w (let f : type_of d ≡ Some t = cc in f) (let g : type_of w ≡ Some t = cc in g))
  parts_fit true sync_reset (d ∷ c ∷ e ∷ p ∷ w ∷ []) r typed is =
      same_fit (d ∷ c ∷ e ∷ p ∷ w ∷ []) _ r is (both_fit d c e p w (let f : type_of d ≡ Some t = cc in f) (let g : type_of w ≡ Some t = cc in g))
  parts_fit has_enable reset rs r typed is = cc

form_types : (kind : Kind) (ts : List HwType) (xs : List (Option HwType)) (t : HwType) (k : ℕ) (f : RegisterForm) → register_form kind ≡ Some f → Fits kind ts xs t k
    → xs ≡ register_types f.has_enable f.reset t
form_types (register w r) ts xs t k f is fits =
    let same : record { has_enable = takes_enable w; reset = r } ≡ f = cc in
    fits ∙ ap (λ (g : RegisterForm). register_types g.has_enable g.reset t) same
form_types async_firreg ts xs t k f is fits =
    let same : record { has_enable = false; reset = sync_reset } ≡ f = cc in
    fits ∙ ap (λ (g : RegisterForm). register_types g.has_enable g.reset t) same
form_types kind ts xs t k f is fits = cc

-- the parts of a register that fits
pub register_fit : (type_of : Ref → Option HwType) (t : HwType) (o : Op) (k : ℕ) (f : RegisterForm) → register_form o.kind ≡ Some f
    → Fits o.kind o.types (map type_of o.operands) t k → (r : Register) → register_in o ≡ Some r → PartsFit type_of t o.operands r
register_fit type_of t o k f is fits r found =
    parts_fit type_of t f.has_enable f.reset o.operands r (form_types o.kind o.types (map type_of o.operands) t k f is fits) (simp is at found)

-- an asynchronous reset is the reset of its register
async_same : (kind : Kind) (rs : List Ref) (v : ResetBy) → cond (has_async_reset kind) (async_parts rs) None ≡ Some v
    → (f : RegisterForm) × (register_form kind ≡ Some f) × (r : Register) × (register_parts f.has_enable f.reset rs ≡ Some r) × (r.reset ≡ Some v)
async_same async_firreg (d ∷ c ∷ p ∷ w ∷ []) v is =
    (record { has_enable = false; reset = sync_reset }, refl, record { next = d; clock = c; enable = None; reset = Some (record { signal = p; value = w }) }, refl, is)
async_same kind rs v is = cc

pub async_register : (o : Op) (v : ResetBy) → async_reset_in o ≡ Some v → (r : Register) × (register_in o ≡ Some r) × (r.reset ≡ Some v)
async_register o v is =
    let found = async_same o.kind o.operands v is in
    (found.2, simp found.1 found.3, found.4)
