-- What a register takes is decided by the words of its operands.
use Rattle.std.proofs.Common.{◌≡◌, refl, sym, ap, ap₂, ◌∙◌, ℕ, Bool, true, false, cond, length, Option, Some, None, inl, inr}
use Rattle.wiring.specs.Wiring.{In}
use Rattle.wiring.proofs.Members.{In-append_left, In-append_right}
use Rattle.bits_core.specs.Word.{Word, first}
use Rattle.bits_core.proofs.First.{first_all}
use Rattle.hw_model.specs.Design.{Ref}
use Rattle.hw_model.specs.Flat.{Register, ResetBy}
use Rattle.hw_model.specs.Meaning.{value_if_enabled, reset, next_value, rise_value}
use Rattle.hw_model.specs.Value.{is_high}
use Rattle.net_gates.specs.RegisterMiters.{enable_refs, reset_refs, parts_of}

cond_long : (b : Bool) (u v : Word) (w : ℕ) → length u ≡ w → length v ≡ w → length (cond b u v) ≡ w
cond_long true u v w eu ev = eu
cond_long false u v w eu ev = ev

-- what a reset that rises asks: its signal has the same word before and now, its value the same now, as wide as the register
pub record RisesAlike (v : ResetBy) (τ υ τ' υ' : Ref → Word) (w : ℕ) : Type 0 where
  pub before : τ v.signal ≡ τ' v.signal
  pub now : υ v.signal ≡ υ' v.signal
  pub value : υ v.value ≡ υ' v.value
  pub long : length (υ' v.value) ≡ w

pub rise_same : (a : Option ResetBy) (τ υ τ' υ' : Ref → Word) (old : Word) (w : ℕ) → ((v : ResetBy) → a ≡ Some v → RisesAlike v τ υ τ' υ' w) → length old ≡ w
    → rise_value a τ υ old ≡ first w (rise_value a τ' υ' old)
rise_same None τ υ τ' υ' old w alike long = sym (first_all w old long)
rise_same (Some v) τ υ τ' υ' old w alike long =
    let own : RisesAlike v τ υ τ' υ' w = alike v refl in
    let inner : Word = cond (is_high (υ' v.signal)) (υ' v.value) old in
    ap₂ (λ (a b : Word). cond (is_high a) old (cond (is_high b) (υ v.value) old)) own.before own.now
    ∙ ap (λ (u : Word). cond (is_high (τ' v.signal)) old (cond (is_high (υ' v.signal)) u old)) own.value
    ∙ sym
    (first_all w (cond (is_high (τ' v.signal)) old inner)
    (cond_long (is_high (τ' v.signal)) old inner w long (cond_long (is_high (υ' v.signal)) (υ' v.value) old w own.long long)))

enabled_same : (e : Option Ref) (τ τ' : Ref → Word) (old u v : Word) → ((y : Ref) → In y (enable_refs e) → τ y ≡ τ' y) → u ≡ v → value_if_enabled e τ old u ≡ value_if_enabled e τ' old v
enabled_same None τ τ' old u v alike same = same
enabled_same (Some e) τ τ' old u v alike same = ap₂ (λ (a b : Word). cond (is_high a) b old) (alike e (inl refl)) same

reset_same : (r : Option ResetBy) (τ τ' : Ref → Word) (u v : Word) → ((y : Ref) → In y (reset_refs r) → τ y ≡ τ' y) → u ≡ v → reset r τ u ≡ reset r τ' v
reset_same None τ τ' u v alike same = same
reset_same (Some r) τ τ' u v alike same =
    ap₂ (λ (a b : Word). cond (is_high a) b u) (alike r.signal (inl refl)) (alike r.value (inr (inl refl)))
    ∙ ap (λ (b : Word). cond (is_high (τ' r.signal)) (τ' r.value) b) same

pub next_same : (a : Option Register) (τ τ' : Ref → Word) (old : Word) → ((r : Register) → a ≡ Some r → (y : Ref) → In y (parts_of r) → τ y ≡ τ' y)
    → next_value a τ old ≡ next_value a τ' old
next_same None τ τ' old alike = refl
next_same (Some r) τ τ' old alike =
    let own : (y : Ref) → In y (parts_of r) → τ y ≡ τ' y = alike r refl in
    ap₂ (λ (a b : Word). cond (is_high a) b old) (own r.clock (inr (inl refl)))
    (reset_same r.reset τ τ' (value_if_enabled r.enable τ old (τ r.next)) (value_if_enabled r.enable τ' old (τ' r.next))
    (λ y here. own y (inr (inr (In-append_right y (enable_refs r.enable) (reset_refs r.reset) here))))
    (enabled_same r.enable τ τ' old (τ r.next) (τ' r.next) (λ y here. own y (inr (inr (In-append_left y (enable_refs r.enable) (reset_refs r.reset) here)))) (own r.next (inl refl))))
