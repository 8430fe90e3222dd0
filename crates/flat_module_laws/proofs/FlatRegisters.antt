-- The registers of a flat module fit.
use Rattle.std.proofs.Common.{◌≡◌, refl, sym, ap, subst, ◌∙◌, ℕ, suc, Bool, true, false, cond, ◌&&◌, is_some, List, [], ◌∷◌, length, take, slice_get, Option, Some, None, ◌⊎◌, inl, inr, option_and_then}
use Rattle.std.proofs.lemmas.Bool.{not-false}
use Rattle.wiring.specs.Wiring.{In}
use Rattle.wiring.proofs.Members.{In-append_cases}
use Rattle.bits_core.specs.Word.{Word}
use Rattle.hw_model.specs.Types.{Name, HwType, width}
use Rattle.hw_model.specs.Kinds.{Kind}
use Rattle.hw_model.specs.Kinds.Kind.{constant, aggregate_constant}
use Rattle.hw_model.specs.Design.{Ref, Port, Op, Module, Design, RegisterForm, instance_in, register_form, is_instance, is_output_kind, result_type}
use Rattle.hw_model.specs.Design.Ref.{port, result, undefined}
use Rattle.hw_model.specs.Equality.{both_of}
use Rattle.hw_model.specs.Flat.{Path, Net, net, Slot, Register, ResetBy, register_in, async_reset_in, instance_registers, op_registers, body_registers, module_registers, registers_of, registers}
use Rattle.hw_model.specs.Flat.{input_width, input_of, held_width, width_of, made_of, state, source}
use Rattle.hw_model.specs.Flat.Source.{nowhere, input}
use Rattle.hw_model.specs.Meaning.{Settled}
use Rattle.hw_model.specs.Resets.{is_constant}
use Rattle.hw_model.specs.Sound.{type_in, input_type}
use Rattle.op_verifier.specs.ResetChecks.{is_input_port, is_constant_op, is_constant_ref, has_other_reset}
use Rattle.operation_gates.specs.Operands.{IsPlain}
use Rattle.net_gates.specs.RegisterMiters.{parts_of, IsInput, IsConstantKind, IsConstantOf, SlotFits}
use Rattle.flat_module_laws.specs.Sides.{side_of, IsFlat}
use Rattle.flat_module_laws.proofs.FlatBodies.{flat_body, no_instance, operand_there, reset_known}
use Rattle.flat_module_laws.proofs.FlatWords.{word_width}
use Rattle.flat_module_laws.proofs.FlatSources.{of_side, inputs_within, port_from, held_type, held_result, ResultFrom, result_is}
use Rattle.flat_module_laws.proofs.FlatSources.ResultFrom.{from_register, from_output, from_operands}
use Rattle.flat_module_laws.proofs.FlatGateLists.{plain_kind}
use Rattle.flat_module_laws.proofs.FlatOrders.{value_among}
use Rattle.flat_module_laws.proofs.RegisterOperands.{PartsFit, register_fit, async_register}

-- ---- which registers there are

-- a slot of a body without instances is of an operation of it
pub record OfBody (os : List Op) (t : Slot) : Type 0 where
  pub position : ℕ
  pub op : Op
  pub there : slice_get os position ≡ Some op
  pub form : RegisterForm
  pub is_one : register_form op.kind ≡ Some form
  pub same : record { path = []; op = op } ≡ t

of_later : (y : Op) (os : List Op) (t : Slot) → OfBody os t → OfBody (y ∷ os) t
of_later y os t b = record { position = suc b.position; op = b.op; there = b.there; form = b.form; is_one = b.is_one; same = b.same }

of_body : (inner : Path → Name → List Slot) (os : List Op) (u : ℕ) → ((j : ℕ) (o : Op) → slice_get os j ≡ Some o → instance_in o.kind ≡ None)
    → (t : Slot) → In t (body_registers inner [] u os) → OfBody os t
of_body inner [] u none t here = absurd here
of_body inner (o ∷ os) u none t here =
    by_part (In-append_cases t (op_registers inner [] u o) (body_registers inner [] (cond (is_instance o) (suc u) u) os) here)
    (of_body inner os (cond (is_instance o) (suc u) u) (λ j p at. none (suc j) p at) t)
  where
    own : (x : Option RegisterForm) → register_form o.kind ≡ x → In t (cond (is_some x) (record { path = []; op = o } ∷ []) (instance_registers inner [] u (instance_in o.kind))) → OfBody (o ∷ os) t
    own (Some f) is (inl same) = record { position = 0; op = o; there = refl; form = f; is_one = is; same = sym same }
    own (Some f) is (inr never) = absurd never
    own None is there = absurd (subst (λ x. In t (instance_registers inner [] u x)) (none 0 o refl) there)

    by_part : In t (op_registers inner [] u o) ⊎ In t (body_registers inner [] (cond (is_instance o) (suc u) u) os)
        → (In t (body_registers inner [] (cond (is_instance o) (suc u) u) os) → OfBody os t) → OfBody (o ∷ os) t
    by_part (inl first) rest = own (register_form o.kind) refl first
    by_part (inr later) rest = of_later o os t (rest later)

-- ---- a register

module _ (d : Design) (top : Name) (m : Module) (order : List ℕ) (flat : IsFlat d top m order) where
  pub slot_of : (t : Slot) → In t (registers d top) → OfBody m.body t
  slot_of t here =
      of_body (module_registers (length d) d) m.body 0 (no_instance d top m order flat) t
      (subst (λ o. In t (registers_of (module_registers (length d) d) [] o)) flat.plain.found here)

  module _ (i : ℕ) (o : Op) (at : slice_get m.body i ≡ Some o) (f : RegisterForm) (is : register_form o.kind ≡ Some f) where
    type_of : (t : HwType) × (result_type o 0 ≡ Some t)
    type_of = held_type d top m order flat i o at f is

    wide : held_width o ≡ width type_of.0
    wide = held_result d top m order flat i o at f is 0 type_of.0 type_of.1

    parts : (r : Register) → register_in o ≡ Some r → PartsFit (type_in m.ports m.body) type_of.0 o.operands r
    parts = register_fit (type_in m.ports m.body) type_of.0 o 0 f is ((flat_body d top m order flat).ops i o at 0 type_of.0 type_of.1)

    among : (r : Register) → register_in o ≡ Some r → (y : Ref) → In y (parts_of r) → In (net [] y) (side_of d top order).nets
    among r found y here =
        of_side d top m order flat (λ ns. In (net [] y) ns) (value_among d top m order flat y (operand_there d top m order flat i o at y ((parts r found).among y here)))

    value_wide : (y : Ref) → type_in m.ports m.body y ≡ Some type_of.0 → (x q : Word) (ρ : Net → Word) → Settled d top x q ρ → length (ρ (net [] y)) ≡ held_width o
    value_wide y typed x q ρ settled = word_width d top m order flat x q ρ settled y (type_of.0, typed) ∙ ap width_of typed ∙ sym wide

    -- ---- its asynchronous reset

    reset_is : (v : ResetBy) → async_reset_in o ≡ Some v → (is_input_port m.ports v.signal ≡ true) × (is_constant_ref m.body v.value ≡ true)
    reset_is v found =
        both_of (is_input_port m.ports v.signal) (is_constant_ref m.body v.value)
        (not-false (is_input_port m.ports v.signal && is_constant_ref m.body v.value) (sym (ap (has_other_reset m.ports m.body) found) ∙ reset_known d top m order flat i o at))

    signal_input : (y : Ref) → is_input_port m.ports y ≡ true → IsInput (input_width m.ports) (source d top (net [] y))
    signal_input (port j) marked = subst (IsInput (input_width m.ports)) (sym (port_from d top m order flat j)) (go (slice_get m.ports j) refl marked)
      where
        by_way : (p : Port) → slice_get m.ports j ≡ Some p → (b : Bool) → p.is_output ≡ b → is_some (cond b None (Some p.type)) ≡ true
            → IsInput (input_width m.ports) (cond b nowhere (input (input_width (take j m.ports)) (width p.type)))
        by_way p there true way marked = cc
        by_way p there false way marked = inputs_within m.ports j p there way

        go : (y : Option Port) → slice_get m.ports j ≡ y → is_some (input_type y) ≡ true → IsInput (input_width m.ports) (input_of y (input_width (take j m.ports)))
        go None there marked = cc
        go (Some p) there marked = by_way p there p.is_output refl marked
    signal_input (result j k) marked = cc
    signal_input undefined marked = cc

    constant_kind : (kind : Kind) → is_constant kind ≡ true → IsPlain kind → IsConstantKind kind
    constant_kind (constant z) one plain = tt
    constant_kind (aggregate_constant ls) one plain = absurd plain
    constant_kind kind one plain = cc

    made_constant : (kind : Kind) → is_constant kind ≡ true → (register_form kind ≡ None) × (instance_in kind ≡ None) × (is_output_kind kind ≡ false)
    made_constant (constant z) one = (refl, refl, refl)
    made_constant (aggregate_constant ls) one = (refl, refl, refl)
    made_constant kind one = cc

    value_constant : (y : Ref) → is_constant_ref m.body y ≡ true → type_in m.ports m.body y ≡ Some type_of.0 → IsConstantOf (held_width o) (source d top (net [] y))
    value_constant (port j) one typed = cc
    value_constant undefined one typed = cc
    value_constant (result j k) one typed = go (slice_get m.body j) refl one typed
      where
        by_op : (p : Op) (there : slice_get m.body j ≡ Some p) → is_constant p.kind ≡ true → result_type p k ≡ Some type_of.0 → ResultFrom d top m order flat j p there k
            → IsConstantOf (held_width o) (source d top (net [] (result j k)))
        by_op p there one has (from_register g is_one from) = let no_form = (made_constant p.kind one).0 in cc
        by_op p there one has (from_output none from) = let other = (made_constant p.kind one).2 in cc
        by_op p there one has (from_operands r n u from) =
            subst (IsConstantOf (held_width o)) (sym (from ∙ ap (made_of [] p k) has))
            (constant_kind p.kind one (plain_kind d top m order flat j k p there r n u type_of.0 has), sym wide)

        go : (y : Option Op) → slice_get m.body j ≡ y → is_constant_op y ≡ true → option_and_then (λ (p : Op). result_type p k) y ≡ Some type_of.0
            → IsConstantOf (held_width o) (source d top (net [] (result j k)))
        go None there one has = cc
        go (Some p) there one has = by_op p there one has (result_is d top m order flat j p there k)

    -- ---- all of it

    fits_own : SlotFits (input_width m.ports) (state d top) (side_of d top order) (record { path = []; op = o })
    fits_own = record {
      among = among;
      next_width = λ r found x q ρ ex eq settled. value_wide r.next (parts r found).next x q ρ settled;
      value_width = λ r v found to x q ρ ex eq settled. value_wide v.value ((parts r found).value v to) x q ρ settled;
      signal = λ v found. signal_input v.signal (reset_is v found).0;
      value = λ v found.
          let own = async_register o v found in
          value_constant v.value (reset_is v found).1 ((parts own.0 own.1).value v own.2);
      same = λ r v found to.
          let own = async_register o v to in
          let alike : own.0 ≡ r = (let e : Some own.0 ≡ Some r = sym own.1 ∙ found in cc) in
          ap (λ (z : Register). z.reset) (sym alike) ∙ own.2;
    }

  pub slots_fit : (t : Slot) → In t (registers d top) → SlotFits (input_width m.ports) (state d top) (side_of d top order) t
  slots_fit t here =
      let of = slot_of t here in
      subst (SlotFits (input_width m.ports) (state d top) (side_of d top order)) of.same (fits_own of.position of.op of.there of.form of.is_one)
