-- The gate lists of a register carry what its asynchronous reset makes of it, and what it holds after a step.
use Rattle.std.proofs.Common.{◌≡◌, refl, sym, subst, ◌∙◌, ℕ, ◌+◌, ◌*◌, ◌≤◌, Bool, true, false, cond, List, map, length, take, drop, Option, Some, None, inl, inr, le_trans}
use Rattle.wiring.specs.Wiring.{In}
use Rattle.wiring.proofs.Members.{In-append_left, In-append_right}
use Rattle.bits_core.specs.Word.{Word, first}
use Rattle.bits_core.proofs.Complement.{length-bits_of_ℤ}
use Rattle.gates.specs.declared.signal.Signal.{Signal}
use Rattle.gates.proofs.Carrying.{Carrying, Makes, makes-done, makes_then}
use Rattle.gate_words.proofs.Words.{CarriesWord, IsWord, word_later, word_same}
use Rattle.hw_model.specs.Types.{Name, HwType, width}
use Rattle.hw_model.specs.Kinds.{Kind}
use Rattle.hw_model.specs.Kinds.Kind.{constant}
use Rattle.hw_model.specs.Design.{Ref, Design}
use Rattle.hw_model.specs.Flat.{Net, net, Source, source, Slot, Register, ResetBy}
use Rattle.hw_model.specs.Flat.Source.{nowhere, input, held, copy, op_result}
use Rattle.hw_model.specs.Meaning.{needs_of, value_of, Settled, value_if_enabled, reset, next_value}
use Rattle.hw_model.specs.Value.{is_high}
use Rattle.net_gates.specs.RegisterGateLists.{input_signals, source_constant, load_gate_list, enable_gate_list, reset_gate_list, any_reset_gate_list, next_gate_list, slot_source}
use Rattle.net_gates.specs.RegisterPrices.{load_price, enable_price, reset_price, any_reset_price, next_price}
use Rattle.net_gates.specs.RegisterMiters.{IsInput, IsConstantOf, IsConstantKind, enable_refs, reset_refs, parts_of}
use Rattle.net_gates.proofs.RegisterParts.{word_part, makes-load, makes-chosen}

-- ---- widths

cond_long : (b : Bool) (u v : Word) (w : ℕ) → length u ≡ w → length v ≡ w → length (cond b u v) ≡ w
cond_long true u v w eu ev = eu
cond_long false u v w eu ev = ev

enabled_long : (e : Option Ref) (τ : Ref → Word) (old new : Word) (w : ℕ) → length old ≡ w → length new ≡ w → length (value_if_enabled e τ old new) ≡ w
enabled_long None τ old new w eo en = en
enabled_long (Some e) τ old new w eo en = cond_long (is_high (τ e)) new old w en eo

pub reset_long : (r : Option ResetBy) (τ : Ref → Word) (new : Word) (w : ℕ) → ((v : ResetBy) → r ≡ Some v → length (τ v.value) ≡ w) → length new ≡ w
    → length (reset r τ new) ≡ w
reset_long None τ new w wide en = en
reset_long (Some v) τ new w wide en = cond_long (is_high (τ v.signal)) (τ v.value) new w (wide v refl) en

pub next_long : (o : Option Register) (τ : Ref → Word) (old : Word) (w : ℕ) → ((r : Register) → o ≡ Some r → length (τ r.next) ≡ w)
    → ((r : Register) (v : ResetBy) → o ≡ Some r → r.reset ≡ Some v → length (τ v.value) ≡ w) → length old ≡ w → length (next_value o τ old) ≡ w
next_long None τ old w wide valued eo = eo
next_long (Some r) τ old w wide valued eo =
    cond_long (is_high (τ r.clock)) (reset r.reset τ (value_if_enabled r.enable τ old (τ r.next))) old w
    (reset_long r.reset τ (value_if_enabled r.enable τ old (τ r.next)) w (λ v is. valued r v refl is) (enabled_long r.enable τ old (τ r.next) w eo (wide r refl))) eo

-- ---- inputs and constants

module _ (d : Design) (top : Name) (x q : Word) (ρ : Net → Word) (settled : Settled d top x q ρ) where
  -- a constant's net has its word
  pub constant_is : (n : Net) (w : ℕ) → IsConstantOf w (source d top n) → (ρ n ≡ source_constant (source d top n)) × (length (source_constant (source d top n)) ≡ w)
  constant_is n w is = go (source d top n) (settled n) is
    where
      by_kind : (kind : Kind) (ts : List HwType) (t : HwType) (k : ℕ) (ns : List Net) → ρ n ≡ value_of x q (op_result kind ts t k ns) (map ρ ns) → IsConstantKind kind → width t ≡ w
          → (ρ n ≡ source_constant (op_result kind ts t k ns)) × (length (source_constant (op_result kind ts t k ns)) ≡ w)
      by_kind (constant z) ts t k ns has one wide = (has, length-bits_of_ℤ (width t) z ∙ wide)
      by_kind kind ts t k ns has one wide = absurd one

      go : (s : Source) → ρ n ≡ value_of x q s (map ρ (needs_of s)) → IsConstantOf w s → (ρ n ≡ source_constant s) × (length (source_constant s) ≡ w)
      go (op_result kind ts t k ns) has (one, wide) = by_kind kind ts t k ns has one wide
      go nowhere has is = absurd is
      go (input start v) has is = absurd is
      go (held start v) has is = absurd is
      go (copy m) has is = absurd is

  module _ {total : ℕ} (c : Carrying total) (ins : List Signal) (least : ℕ) (given : CarriesWord c least x ins) where
    input_carried : (n : Net) (k : ℕ) → least ≤ k → IsInput (length x) (source d top n) → CarriesWord c k (ρ n) (input_signals ins (source d top n))
    input_carried n k l is = go (source d top n) (settled n) is
      where
        go : (s : Source) → ρ n ≡ value_of x q s (map ρ (needs_of s)) → IsInput (length x) s → CarriesWord c k (ρ n) (input_signals ins s)
        go (input start w) has is =
            word_same c k (first w (drop start x)) (ρ n) (take w (drop start ins)) (sym has) (word_part c k start w x ins is (word_later c least k x ins l given))
        go nowhere has is = absurd is
        go (held start v) has is = absurd is
        go (copy m) has is = absurd is
        go (op_result kind ts t i ns) has is = absurd is

    module _ (s : Slot) (w : ℕ) where
      -- the value of a reset where it is 1
      pub makes-loaded : (a : Option ResetBy) → ((v : ResetBy) → a ≡ Some v → IsInput (length x) (slot_source d top s v.signal))
          → ((v : ResetBy) → a ≡ Some v → IsConstantOf w (slot_source d top s v.value)) → (k : ℕ) → least ≤ k → (old : Word) (xs : List Signal)
          → CarriesWord c k old xs → length old ≡ w
          → Makes c (load_gate_list ins (slot_source d top s) a xs) k (load_price w a) (IsWord c (reset a (λ r. ρ (net s.path r)) old))
      makes-loaded None signal value k l old xs here eo = makes-done c xs k (IsWord c old) here
      makes-loaded (Some v) signal value k l old xs here eo =
          let known = constant_is (net s.path v.value) w (value v refl) in
          subst (λ g. Makes c (load_gate_list ins (slot_source d top s) (Some v) xs) k g (IsWord c (reset (Some v) (λ r. ρ (net s.path r)) old))) eo
          (subst (λ u. Makes c (load_gate_list ins (slot_source d top s) (Some v) xs) k (length old) (IsWord c (cond (is_high (ρ (net s.path v.signal))) u old))) (sym known.0)
          (makes-load c k (input_signals ins (slot_source d top s v.signal)) (ρ (net s.path v.signal)) (input_carried (net s.path v.signal) k l (signal v refl))
          (source_constant (slot_source d top s v.value)) old xs here (known.1 ∙ sym eo)))

      -- the word of an operand
      abbrev Has : ℕ → (Net → List Signal) → Ref → Type 0
      Has k signals r = CarriesWord c k (ρ (net s.path r)) (signals (net s.path r))

      has_later : (k j : ℕ) (signals : Net → List Signal) (r : Ref) → k ≤ j → Has k signals r → Has j signals r
      has_later k j signals r l has = word_later c k j (ρ (net s.path r)) (signals (net s.path r)) l has

      makes-enabled : (e : Option Ref) (k : ℕ) (signals : Net → List Signal) → ((r : Ref) → In r (enable_refs e) → Has k signals r)
          → (old : Word) (xs : List Signal) → CarriesWord c k old xs → (new : Word) (ys : List Signal) → CarriesWord c k new ys → length old ≡ w → length new ≡ w
          → Makes c (enable_gate_list e (λ r. signals (net s.path r)) xs ys) k (enable_price w e) (IsWord c (value_if_enabled e (λ r. ρ (net s.path r)) old new))
      makes-enabled None k signals has old xs ho new ys hn eo en = makes-done c ys k (IsWord c new) hn
      makes-enabled (Some e) k signals has old xs ho new ys hn eo en =
          makes-chosen c k (signals (net s.path e)) (ρ (net s.path e)) (has e (inl refl)) w new ys hn old xs ho en eo

      makes-reset : (r : Option ResetBy) (k : ℕ) (signals : Net → List Signal) → ((y : Ref) → In y (reset_refs r) → Has k signals y)
          → ((v : ResetBy) → r ≡ Some v → length (ρ (net s.path v.value)) ≡ w) → (new : Word) (ys : List Signal) → CarriesWord c k new ys → length new ≡ w
          → Makes c (reset_gate_list r (λ y. signals (net s.path y)) ys) k (reset_price w r) (IsWord c (reset r (λ y. ρ (net s.path y)) new))
      makes-reset None k signals has wide new ys hn en = makes-done c ys k (IsWord c new) hn
      makes-reset (Some v) k signals has wide new ys hn en =
          makes-chosen c k (signals (net s.path v.signal)) (ρ (net s.path v.signal)) (has v.signal (inl refl)) w (ρ (net s.path v.value)) (signals (net s.path v.value))
          (has v.value (inr (inl refl))) new ys hn (wide v refl) en

      makes-any_reset : (a r : Option ResetBy) → ((v : ResetBy) → a ≡ Some v → IsInput (length x) (slot_source d top s v.signal))
          → ((v : ResetBy) → a ≡ Some v → IsConstantOf w (slot_source d top s v.value)) → ((v : ResetBy) → a ≡ Some v → r ≡ Some v)
          → (k : ℕ) → least ≤ k → (signals : Net → List Signal) → ((y : Ref) → In y (reset_refs r) → Has k signals y)
          → ((v : ResetBy) → r ≡ Some v → length (ρ (net s.path v.value)) ≡ w) → (new : Word) (ys : List Signal) → CarriesWord c k new ys → length new ≡ w
          → Makes c (any_reset_gate_list ins (slot_source d top s) a r (λ y. signals (net s.path y)) ys) k (any_reset_price w a r) (IsWord c (reset r (λ y. ρ (net s.path y)) new))
      makes-any_reset None r signal value same k l signals has wide new ys hn en = makes-reset r k signals has wide new ys hn en
      makes-any_reset (Some v) r signal value same k l signals has wide new ys hn en =
          subst (λ z. Makes c (load_gate_list ins (slot_source d top s) (Some v) ys) k (load_price w (Some v)) (IsWord c (reset z (λ y. ρ (net s.path y)) new))) (sym (same v refl))
          (makes-loaded (Some v) signal value k l new ys hn en)

      -- what the register holds after a step
      pub makes-next : (a : Option ResetBy) (o : Option Register) → ((v : ResetBy) → a ≡ Some v → IsInput (length x) (slot_source d top s v.signal))
          → ((v : ResetBy) → a ≡ Some v → IsConstantOf w (slot_source d top s v.value))
          → ((r : Register) (v : ResetBy) → o ≡ Some r → a ≡ Some v → r.reset ≡ Some v) → (k : ℕ) → least ≤ k → (signals : Net → List Signal)
          → ((r : Register) → o ≡ Some r → (y : Ref) → In y (parts_of r) → Has k signals y)
          → ((r : Register) → o ≡ Some r → length (ρ (net s.path r.next)) ≡ w)
          → ((r : Register) (v : ResetBy) → o ≡ Some r → r.reset ≡ Some v → length (ρ (net s.path v.value)) ≡ w)
          → (old : Word) (xs : List Signal) → CarriesWord c k old xs → length old ≡ w
          → Makes c (next_gate_list ins (slot_source d top s) a o (λ y. signals (net s.path y)) xs) k (next_price w a o) (IsWord c (next_value o (λ y. ρ (net s.path y)) old))
      makes-next a None signal value same k l signals has wide valued old xs ho eo = makes-done c xs k (IsWord c old) ho
      makes-next a (Some r) signal value same k l signals has wide valued old xs ho eo =
          let τ : Ref → Word = λ y. ρ (net s.path y) in
          let taken = value_if_enabled r.enable τ old (τ r.next) in
          let taken_long : length taken ≡ w = enabled_long r.enable τ old (τ r.next) w eo (wide r refl) in
          let reset_to = reset r.reset τ taken in
          let to_long : length reset_to ≡ w = reset_long r.reset τ taken w (λ v is. valued r v refl is) taken_long in
          makes_then c _ _ k (enable_price w r.enable) (any_reset_price w a r.reset + 3 * w) (IsWord c taken) _
          (makes-enabled r.enable k signals (λ y here. has r refl y (inr (inr (In-append_left y (enable_refs r.enable) (reset_refs r.reset) here)))) old xs ho
          (τ r.next) (signals (net s.path r.next)) (has r refl r.next (inl refl)) eo (wide r refl))
          (λ ys j m hy.
          makes_then c _ _ j (any_reset_price w a r.reset) (3 * w) (IsWord c reset_to) _
          (makes-any_reset a r.reset signal value (λ v is. same r v refl is) j (le_trans l m) signals
          (λ y here. has_later k j signals y m (has r refl y (inr (inr (In-append_right y (enable_refs r.enable) (reset_refs r.reset) here)))))
          (λ v is. valued r v refl is) taken ys hy taken_long)
          (λ zs i n hz.
          makes-chosen c i (signals (net s.path r.clock)) (τ r.clock) (has_later k i signals r.clock (le_trans m n) (has r refl r.clock (inr (inl refl)))) w
          reset_to zs hz old xs (word_later c k i old xs (le_trans m n) ho) to_long eo))
