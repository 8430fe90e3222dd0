-- Tables of a flat module once its operations have settled, and with words for its registers.
use Rattle.std.proofs.Common.{◌≡◌, refl, sym, ap, ap₂, ◌∙◌, ℕ, ◌+◌, Bool, true, false, cond, List, [], ◌∷◌, map, length, take, drop, slice_get, Option, Some, None, arith}
use Rattle.std.specs.Prelude.{is_some, ◌||◌}
use Rattle.wiring.proofs.Members.{map_same}
use Rattle.bits_core.specs.Word.{Word, first}
use Rattle.hw_model.specs.Types.{Name, HwType, width}
use Rattle.hw_model.specs.Design.{Ref, Op, Module, Design, RegisterForm, register_form, is_register, is_output_op, result_type, output_refs}
use Rattle.hw_model.specs.Design.Ref.{result}
use Rattle.hw_model.specs.Flat.{Net, net, Slot, held_width, width_of, body_state, state, registers}
use Rattle.hw_model.specs.Meaning.{Settled, map_slots, outputs, outputs_of}
use Rattle.hw_model.specs.Sound.{type_in, output_types}
use Rattle.hw_model.specs.Value.{concat_words}
use Rattle.hw_model.proofs.Finite.{settles_with_heights}
use Rattle.flat_module_laws.specs.Sides.{IsFlat}
use Rattle.flat_module_laws.proofs.FlatBodies.{IsThere, flat_body, flat_heights, no_instance, output_there}
use Rattle.flat_module_laws.proofs.FlatSources.{held_type}
use Rattle.flat_module_laws.proofs.FlatWords.{word_width}
use Rattle.flat_module_gates.proofs.LinkedRegisters.{registers_are}
use Rattle.flat_steps.specs.Tables.{cell, put, word_in, made, with_words, register_positions, with_op, settled_results}
use Rattle.flat_steps.specs.Holds.{PortsHold, ResultsHold}
use Rattle.flat_steps.specs.Steps.{output_words}
use Rattle.flat_steps.specs.Runs.{ConstantsHold}
use Rattle.flat_steps.proofs.SettledTables.{operations_settle}
use Rattle.flat_steps.proofs.CellWords.{put_length}
use Rattle.flat_steps.proofs.RunTables.{kept_places, kept_width, kept_widths, stays, placed}
use Rattle.flat_steps.proofs.RunPlaces.{positions_are, state_is, Gives, joined_slots, gives_widths}
use Rattle.flat_steps.proofs.RunNets.{register_varies, constant_typed, register_net, constant_net, value_net}

-- a register has a form
pub form_of : (o : Op) → is_register o ≡ true → (f : RegisterForm) × (register_form o.kind ≡ Some f)
form_of o is = go (register_form o.kind) refl is
  where
    go : (y : Option RegisterForm) → register_form o.kind ≡ y → is_some y ≡ true → (f : RegisterForm) × (register_form o.kind ≡ Some f)
    go None at one = absurd (let no : ⊥ = cc in no)
    go (Some f) at one = (f, at)

op_long : (ports results : List Word) (i : ℕ) (y : Option Op) → length (with_op ports results i y) ≡ length results
op_long ports results i None = refl
op_long ports results i (Some o) = by_test (is_register o || is_output_op o)
  where
    by_test : (t : Bool) → length (cond t results (put results i (made o (map (word_in ports results) o.operands)))) ≡ length results
    by_test true = refl
    by_test false = put_length results i (made o (map (word_in ports results) o.operands))

pub settled_long : (ports : List Word) (os : List Op) (is : List ℕ) (results : List Word) → length (settled_results ports os is results) ≡ length results
settled_long ports os [] results = refl
settled_long ports os (i ∷ is) results = settled_long ports os is (with_op ports results i (slice_get os i)) ∙ op_long ports results i (slice_get os i)

module _ (d : Design) (top : Name) (m : Module) (order : List ℕ) (flat : IsFlat d top m order) where
  -- ---- words for registers

  pub before_register : (i : ℕ) → body_state (state d) (take i m.body) ≡ kept_width is_register held_width (take i m.body)
  before_register = state_is (state d) m.body (no_instance d top m order flat)

  -- given as words that are as wide as the registers
  pub registers_given : (ws results : List Word) → map length ws ≡ kept_widths is_register held_width m.body → length results ≡ length m.body
      → ResultsHold (state d) m.body (with_words (register_positions 0 m.body) ws results) (concat_words ws)
  registers_given ws results size long i o at is =
      let here : i ≡ 0 + i = omega arith in
      ap (λ (ps : List ℕ). cell (with_words ps ws results) i) (positions_are 0 m.body)
      ∙ ap (cell (with_words (kept_places is_register 0 m.body) ws results)) here
      ∙ placed is_register held_width m.body 0 ws results size (omega (arith, long)) i o at is
      ∙ ap (λ (n : ℕ). first (held_width o) (drop n (concat_words ws))) (sym (before_register i))

  -- given by a function of their positions
  pub registers_written : (each : Slot → Word → Word) (f : ℕ → Word) (content : Word) (results : List Word) → Gives each m.body 0 f content → length results ≡ length m.body
      → ResultsHold (state d) m.body (with_words (register_positions 0 m.body) (map f (register_positions 0 m.body)) results) (map_slots each (registers d top) content)
  registers_written each f content results gives long i o at is =
      let ws : List Word = map f (kept_places is_register 0 m.body) in
      let joined : concat_words ws ≡ map_slots each (registers d top) content =
      joined_slots each m.body 0 f content gives ∙ ap (λ (ss : List Slot). map_slots each ss content) (sym (registers_are d top m order flat)) in
      ap (λ (ps : List ℕ). cell (with_words (register_positions 0 m.body) (map f ps) results) i) (positions_are 0 m.body)
      ∙ registers_given ws results (gives_widths each m.body f content gives) long i o at is
      ∙ ap (λ (u : Word). first (held_width o) (drop (body_state (state d) (take i m.body)) u)) joined

  -- constants stay
  pub constants_stay : (ws results : List Word) → ConstantsHold m.body results → ConstantsHold m.body (with_words (register_positions 0 m.body) ws results)
  constants_stay ws results have i o at one =
      let here : i ≡ 0 + i = omega arith in
      ap (λ (ps : List ℕ). cell (with_words ps ws results) i) (positions_are 0 m.body)
      ∙ ap (cell (with_words (kept_places is_register 0 m.body) ws results)) here
      ∙ stays is_register m.body 0 ws results i o at (no_register (is_register o) refl)
      ∙ ap (cell results) (sym here)
      ∙ have i o at one
    where
      no_register : (b : Bool) → is_register o ≡ b → is_register o ≡ false
      no_register false is = is
      no_register true is =
          let form = form_of o is in
          absurd (let varies = register_varies o.kind form.0 form.1 in let no : ⊥ = cc in no)

  -- ---- once operations have settled

  module _ (x q : Word) (ports results : List Word) (hold : PortsHold m.ports ports x) (keeps : ResultsHold (state d) m.body results q) (long : length results ≡ length m.body) where
    abbrev made_results : List Word
    made_results = settled_results ports m.body order results

    any_map : (ρ : Net → Word) × Settled d top x q ρ × ((σ : Net → Word) → Settled d top x q σ → (n : Net) → σ n ≡ ρ n)
    any_map = settles_with_heights d top (flat_heights d top m order flat) x q

    module _ (ρ : Net → Word) (settled : Settled d top x q ρ) where
      results_are : (j : ℕ) (o : Op) (t : HwType) → slice_get m.body j ≡ Some o → result_type o 0 ≡ Some t → cell made_results j ≡ ρ (net [] (result j 0))
      results_are = operations_settle d top m order flat x q ρ settled ports results hold keeps long

      pub values_are : (r : Ref) → IsThere m.ports m.body r → word_in ports made_results r ≡ ρ (net [] r)
      values_are = value_net d top m order flat x q ρ settled ports hold made_results results_are

      -- the outputs are those of the module
      pub outputs_are : concat_words (output_words m.body ports made_results) ≡ outputs d top ρ
      outputs_are =
          ap concat_words (map_same (word_in ports made_results) (λ (r : Ref). ρ (net [] r)) (output_refs m.body) (λ r here. values_are r (output_there d top m order flat r here)))
          ∙ ap (λ (y : Option Module). concat_words (map (λ (r : Ref). ρ (net [] r)) (outputs_of y))) (sym flat.plain.found)

    pub settled_registers : ResultsHold (state d) m.body made_results q
    settled_registers i o at is =
        let form = form_of o is in
        results_are any_map.0 any_map.1 i o (typed form.0 form.1).0 at (typed form.0 form.1).1 ∙ register_net d top m order flat x q any_map.0 any_map.1 i o at form.0 form.1
      where
        typed : (f : RegisterForm) → register_form o.kind ≡ Some f → (t : HwType) × (result_type o 0 ≡ Some t)
        typed f one = held_type d top m order flat i o at f one

    pub settled_constants : ConstantsHold m.body made_results
    settled_constants i o at one =
        let typed = constant_typed d top m order flat i o at one in
        results_are any_map.0 any_map.1 i o typed.0 at typed.1 ∙ constant_net d top m order flat x q any_map.0 any_map.1 i 0 o at one typed.0 typed.1

    -- each output is as wide as its port
    value_long : (r : Ref) (t : HwType) → type_in m.ports m.body r ≡ Some t → length (word_in ports made_results r) ≡ width t
    value_long r t typed =
        ap length (values_are any_map.0 any_map.1 r (t, typed)) ∙ word_width d top m order flat x q any_map.0 any_map.1 r (t, typed) ∙ ap width_of typed

    values_long : (rs : List Ref) (ts : List HwType) → map (type_in m.ports m.body) rs ≡ map (λ (t : HwType). Some t) ts
        → map length (map (word_in ports made_results) rs) ≡ map width ts
    values_long [] [] same = refl
    values_long [] (t ∷ ts) same = cc
    values_long (r ∷ rs) [] same = cc
    values_long (r ∷ rs) (t ∷ ts) same =
        let own : type_in m.ports m.body r ≡ Some t = cc in
        let rest : map (type_in m.ports m.body) rs ≡ map (λ (u : HwType). Some u) ts = cc in
        ap₂ (λ (n : ℕ) (ns : List ℕ). n ∷ ns) (value_long r t own) (values_long rs ts rest)

    pub outputs_long : map length (output_words m.body ports made_results) ≡ map width (output_types m.ports)
    outputs_long = values_long (output_refs m.body) (output_types m.ports) (flat_body d top m order flat).outputs
