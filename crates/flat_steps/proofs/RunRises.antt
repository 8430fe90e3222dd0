-- What registers of a flat module take in a step, from tables that hold its words: once their asynchronous resets have risen, and as they load.
use Rattle.std.proofs.Common.{◌≡◌, refl, sym, ap, ◌∙◌, ℕ, ◌+◌, true, ◌&&◌, List, [], length, take, drop, slice_get, Option, Some, None, arith}
use Rattle.std.specs.Prelude.{is_some, option_and_then}
use Rattle.std.proofs.lemmas.Bool.{not-false}
use Rattle.bits_core.specs.Word.{Word, first}
use Rattle.bits_core.proofs.First.{length-first, first_all}
use Rattle.hw_model.specs.Types.{Name, HwType}
use Rattle.hw_model.specs.Design.{Ref, Op, Module, Design, RegisterForm, register_form, is_register, result_type}
use Rattle.hw_model.specs.Design.Ref.{port, result, undefined}
use Rattle.hw_model.specs.Equality.{both_of}
use Rattle.hw_model.specs.Flat.{Net, net, Register, ResetBy, register_in, async_reset_in, held_width, width_of, state}
use Rattle.hw_model.specs.Meaning.{Settled, next_value, next_in, rise_value, rise_in}
use Rattle.hw_model.specs.Sound.{type_in, input_type}
use Rattle.op_verifier.specs.ResetChecks.{is_input_port, is_constant_op, is_constant_ref, has_other_reset}
use Rattle.net_gates.proofs.RegisterSlots.{next_long}
use Rattle.flat_module_laws.specs.Sides.{IsFlat}
use Rattle.flat_module_laws.proofs.FlatBodies.{flat_body, operand_there, reset_known}
use Rattle.flat_module_laws.proofs.FlatSources.{held_type}
use Rattle.flat_module_laws.proofs.FlatWords.{word_width}
use Rattle.flat_module_laws.proofs.RegisterOperands.{PartsFit, register_fit, async_register}
use Rattle.flat_steps.specs.Tables.{cell, word_in}
use Rattle.flat_steps.specs.Holds.{PortsHold, ResultsHold}
use Rattle.flat_steps.specs.Steps.{risen_word, next_word}
use Rattle.flat_steps.specs.Runs.{ConstantsHold}
use Rattle.flat_steps.proofs.RunTables.{kept_width}
use Rattle.flat_steps.proofs.RunPlaces.{Gives}
use Rattle.flat_steps.proofs.RunRegisters.{RisesAlike, rise_same, next_same}
use Rattle.flat_steps.proofs.RunNets.{constant_net, port_net}
use Rattle.flat_steps.proofs.RunSettled.{form_of, before_register}

module _ (d : Design) (top : Name) (m : Module) (order : List ℕ) (flat : IsFlat d top m order) where
  -- ---- words that need not have settled

  module _ (x q : Word) (ρ : Net → Word) (settled : Settled d top x q ρ) (ports results : List Word) where
    -- an input port's
    input_word : PortsHold m.ports ports x → (y : Ref) → is_input_port m.ports y ≡ true → word_in ports results y ≡ ρ (net [] y)
    input_word hold (port j) marked = go (input_type (slice_get m.ports j)) refl marked
      where
        go : (z : Option HwType) → input_type (slice_get m.ports j) ≡ z → is_some z ≡ true → cell ports j ≡ ρ (net [] (port j))
        go None typed one = cc
        go (Some t) typed one = port_net d top m order flat x q ρ settled ports hold j t typed
    input_word hold (result j k) marked = cc
    input_word hold undefined marked = cc

    -- a constant's
    constant_value : ConstantsHold m.body results → (y : Ref) → is_constant_ref m.body y ≡ true → (t : HwType) → type_in m.ports m.body y ≡ Some t → word_in ports results y ≡ ρ (net [] y)
    constant_value have (port j) one t typed = cc
    constant_value have undefined one t typed = cc
    constant_value have (result j k) one t typed = go (slice_get m.body j) refl one typed
      where
        go : (z : Option Op) → slice_get m.body j ≡ z → is_constant_op z ≡ true → option_and_then (λ (o : Op). result_type o k) z ≡ Some t → cell results j ≡ ρ (net [] (result j k))
        go None at is has = cc
        go (Some o) at is has = have j o at is ∙ sym (constant_net d top m order flat x q ρ settled j k o at is t has)

  -- ---- one register

  module _ (i : ℕ) (o : Op) (at : slice_get m.body i ≡ Some o) (is : is_register o ≡ true) where
    form : (f : RegisterForm) × (register_form o.kind ≡ Some f)
    form = form_of o is

    own_type : (t : HwType) × (result_type o 0 ≡ Some t)
    own_type = held_type d top m order flat i o at form.0 form.1

    parts : (r : Register) → register_in o ≡ Some r → PartsFit (type_in m.ports m.body) own_type.0 o.operands r
    parts = register_fit (type_in m.ports m.body) own_type.0 o 0 form.0 form.1 ((flat_body d top m order flat).ops i o at 0 own_type.0 own_type.1)

    as_wide : (y : Ref) → type_in m.ports m.body y ≡ Some own_type.0 → (x q : Word) (ρ : Net → Word) → Settled d top x q ρ → length (ρ (net [] y)) ≡ held_width o
    as_wide y typed x q ρ settled = word_width d top m order flat x q ρ settled y (own_type.0, typed) ∙ ap width_of typed ∙ sym (ap width_of own_type.1)

    reset_is : (v : ResetBy) → async_reset_in o ≡ Some v → (is_input_port m.ports v.signal ≡ true) × (is_constant_ref m.body v.value ≡ true)
    reset_is v found =
        both_of (is_input_port m.ports v.signal) (is_constant_ref m.body v.value)
        (not-false (is_input_port m.ports v.signal && is_constant_ref m.body v.value) (sym (ap (has_other_reset m.ports m.body) found) ∙ reset_known d top m order flat i o at))

    reset_typed : (v : ResetBy) → async_reset_in o ≡ Some v → type_in m.ports m.body v.value ≡ Some own_type.0
    reset_typed v found =
        let own = async_register o v found in
        (parts own.0 own.1).value v own.2

  -- ---- once asynchronous resets have risen

  module _ (before inputs content : Word) (ρ υ : Net → Word) (earlier : Settled d top before content ρ) (now : Settled d top inputs content υ)
      (ports ports' results : List Word) (held_before : PortsHold m.ports ports before) (held_now : PortsHold m.ports ports' inputs)
      (keeps : ResultsHold (state d) m.body results content) (constants : ConstantsHold m.body results) where
    rises_alike : (i : ℕ) (o : Op) (at : slice_get m.body i ≡ Some o) (is : is_register o ≡ true) (v : ResetBy) → async_reset_in o ≡ Some v
        → RisesAlike v (word_in ports results) (word_in ports' results) (λ r. ρ (net [] r)) (λ r. υ (net [] r)) (held_width o)
    rises_alike i o at is v found =
        let known = reset_is i o at is v found in
        let typed : type_in m.ports m.body v.value ≡ Some (own_type i o at is).0 = reset_typed i o at is v found in
        record {
          before = input_word before content ρ earlier ports results held_before v.signal known.0;
          now = input_word inputs content υ now ports' results held_now v.signal known.0;
          value = constant_value inputs content υ now ports' results constants v.value known.1 (own_type i o at is).0 typed;
          long = as_wide i o at is v.value typed inputs content υ now;
        }

    abbrev pub risen_at : ℕ → Word
    risen_at i = risen_word ports ports' results (slice_get m.body i) (cell results i)

    pub risen_gives : Gives (rise_in ρ υ) m.body 0 risen_at content
    risen_gives i o at is =
        let here : 0 + i ≡ i = omega arith in
        let old : Word = first (held_width o) (drop (kept_width is_register held_width (take i m.body)) content) in
        ap risen_at here
        ∙ ap (λ (y : Option Op). risen_word ports ports' results y (cell results i)) at
        ∙ ap (rise_value (async_reset_in o) (word_in ports results) (word_in ports' results))
        (keeps i o at is ∙ ap (λ (n : ℕ). first (held_width o) (drop n content)) (before_register d top m order flat i))
        ∙ rise_same (async_reset_in o) (word_in ports results) (word_in ports' results) (λ r. ρ (net [] r)) (λ r. υ (net [] r)) old (held_width o) (rises_alike i o at is)
        (length-first (held_width o) (drop (kept_width is_register held_width (take i m.body)) content))

  -- ---- as registers load, once operations have settled

  module _ (x q : Word) (σ : Net → Word) (settled : Settled d top x q σ) (ports made : List Word)
      (words : (r : Ref) → (t : HwType) × (type_in m.ports m.body r ≡ Some t) → word_in ports made r ≡ σ (net [] r)) (held : ResultsHold (state d) m.body made q) where
    abbrev pub next_at : ℕ → Word
    next_at i = next_word ports made (slice_get m.body i) (cell made i)

    pub next_gives : Gives (next_in σ) m.body 0 next_at q
    next_gives i o at is =
        let here : 0 + i ≡ i = omega arith in
        let w : ℕ = held_width o in
        let old : Word = first (held_width o) (drop (kept_width is_register held_width (take i m.body)) q) in
        let τ : Ref → Word = λ r. σ (net [] r) in
        ap next_at here
        ∙ ap (λ (y : Option Op). next_word ports made y (cell made i)) at
        ∙ ap (next_value (register_in o) (word_in ports made)) (held i o at is ∙ ap (λ (n : ℕ). first (held_width o) (drop n q)) (before_register d top m order flat i))
        ∙ next_same (register_in o) (word_in ports made) τ old (λ r found y here. words y (operand_there d top m order flat i o at y ((parts i o at is r found).among y here)))
        ∙ sym
        (first_all w (next_value (register_in o) τ old)
        (next_long (register_in o) τ old w
        (λ r found. as_wide i o at is r.next (parts i o at is r found).next x q σ settled)
        (λ r v found to. as_wide i o at is v.value ((parts i o at is r found).value v to) x q σ settled)
        (length-first w (drop (kept_width is_register held_width (take i m.body)) q))))
