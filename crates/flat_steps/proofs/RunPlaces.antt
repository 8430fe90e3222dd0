-- The input ports and the registers of a flat module as what is kept of its ports and operations.
use Rattle.std.proofs.Common.{◌≡◌, refl, sym, ap, ap₂, ◌∙◌, ℕ, zero, suc, ◌+◌, Bool, true, false, cond, not, List, [], ◌∷◌, ◌++◌, map, filter, length, take, drop, slice_get, Some, None, arith, drop-drop}
use Rattle.bits_core.specs.Word.{Word, first}
use Rattle.bits_core.proofs.First.{length-first}
use Rattle.hw_model.specs.Types.{Name, width}
use Rattle.hw_model.specs.Design.{Port, Op, instance_in, is_register}
use Rattle.hw_model.specs.Flat.{Slot, held_width, input_width, body_state, instance_state}
use Rattle.hw_model.specs.Meaning.{map_slots}
use Rattle.hw_model.specs.Sound.{input_types}
use Rattle.hw_model.specs.Value.{concat_words}
use Rattle.flat_module_gates.specs.FlatSteps.{slot, slots_of}
use Rattle.flat_steps.specs.Tables.{input_places, register_positions}
use Rattle.flat_steps.proofs.RunTables.{kept_places, kept_width, kept_widths, given_widths}

-- ---- input ports

abbrev pub is_input : Port → Bool
is_input p = not p.is_output

abbrev pub port_width : Port → ℕ
port_width p = width p.type

pub inputs_are : (j : ℕ) (ps : List Port) → input_places j ps ≡ kept_places is_input j ps
inputs_are j [] = refl
inputs_are j (p ∷ ps) = go p.is_output (inputs_are (j + 1) ps)
  where
    go : (b : Bool) → input_places (j + 1) ps ≡ kept_places is_input (j + 1) ps
        → cond b [] (j ∷ []) ++ input_places (j + 1) ps ≡ cond (not b) (j ∷ kept_places is_input (j + 1) ps) (kept_places is_input (j + 1) ps)
    go true rest = rest
    go false rest = ap (λ (js : List ℕ). j ∷ js) rest

pub input_width_is : (ps : List Port) → input_width ps ≡ kept_width is_input port_width ps
input_width_is [] = refl
input_width_is (p ∷ ps) = go p.is_output (input_width_is ps)
  where
    go : (b : Bool) → input_width ps ≡ kept_width is_input port_width ps
        → cond b (input_width ps) (width p.type + input_width ps) ≡ cond (not b) (width p.type + kept_width is_input port_width ps) (kept_width is_input port_width ps)
    go true rest = rest
    go false rest = ap (λ (n : ℕ). width p.type + n) rest

pub input_widths_are : (ps : List Port) → map width (input_types ps) ≡ kept_widths is_input port_width ps
input_widths_are [] = refl
input_widths_are (p ∷ ps) = go p.is_output (input_widths_are ps)
  where
    go : (b : Bool) → map width (input_types ps) ≡ kept_widths is_input port_width ps
        → map width (cond b (input_types ps) (p.type ∷ input_types ps)) ≡ cond (not b) (width p.type ∷ kept_widths is_input port_width ps) (kept_widths is_input port_width ps)
    go true rest = rest
    go false rest = ap (λ (ns : List ℕ). width p.type ∷ ns) rest

-- ---- registers

pub positions_are : (i : ℕ) (os : List Op) → register_positions i os ≡ kept_places is_register i os
positions_are i [] = refl
positions_are i (o ∷ os) = go (is_register o) (positions_are (i + 1) os)
  where
    go : (b : Bool) → register_positions (i + 1) os ≡ kept_places is_register (i + 1) os
        → cond b (i ∷ []) [] ++ register_positions (i + 1) os ≡ cond b (i ∷ kept_places is_register (i + 1) os) (kept_places is_register (i + 1) os)
    go true rest = ap (λ (is : List ℕ). i ∷ is) rest
    go false rest = rest

pub held_widths_are : (os : List Op) → map held_width (filter is_register os) ≡ kept_widths is_register held_width os
held_widths_are [] = refl
held_widths_are (o ∷ os) = go (is_register o) (held_widths_are os)
  where
    go : (b : Bool) → map held_width (filter is_register os) ≡ kept_widths is_register held_width os
        → map held_width (cond b (o ∷ filter is_register os) (filter is_register os)) ≡ cond b (held_width o ∷ kept_widths is_register held_width os) (kept_widths is_register held_width os)
    go true rest = ap (λ (ns : List ℕ). held_width o ∷ ns) rest
    go false rest = rest

-- the content before an operation of a body without instances
pub state_is : (inner : Name → ℕ) (os : List Op) → ((j : ℕ) (o : Op) → slice_get os j ≡ Some o → instance_in o.kind ≡ None)
    → (i : ℕ) → body_state inner (take i os) ≡ kept_width is_register held_width (take i os)
state_is inner os none zero = refl
state_is inner [] none (suc i) = refl
state_is inner (o ∷ os) none (suc i) = go (is_register o) (state_is inner os (λ j p at. none (suc j) p at) i)
  where
    go : (b : Bool) → body_state inner (take i os) ≡ kept_width is_register held_width (take i os)
        → cond b (held_width o) (instance_state inner (instance_in o.kind)) + body_state inner (take i os)
        ≡ cond b (held_width o + kept_width is_register held_width (take i os)) (kept_width is_register held_width (take i os))
    go true rest = ap (λ (n : ℕ). held_width o + n) rest
    go false rest =
        let alone : instance_state inner (instance_in o.kind) ≡ 0 = ap (instance_state inner) (none 0 o refl) in
        omega (arith, alone, rest)

-- ---- content, register by register

-- a function gives, by the position of each register, what `each` makes of its bits of the content
abbrev pub Gives : (Slot → Word → Word) → List Op → ℕ → (ℕ → Word) → Word → Type 0
Gives each os n f content =
    (i : ℕ) (o : Op) → slice_get os i ≡ Some o → is_register o ≡ true
    → f (n + i) ≡ first (held_width o) (each (slot o) (first (held_width o) (drop (kept_width is_register held_width (take i os)) content)))

-- joined its words are what `each` makes of the content
pub joined_slots : (each : Slot → Word → Word) (os : List Op) (n : ℕ) (f : ℕ → Word) (content : Word) → Gives each os n f content
    → concat_words (map f (kept_places is_register n os)) ≡ map_slots each (slots_of os) content
joined_slots each [] n f content gives = refl
joined_slots each (o ∷ os) n f content gives = go (is_register o) refl (λ c given. joined_slots each os (n + 1) f c given)
  where
    go : (b : Bool) → is_register o ≡ b → ((c : Word) → Gives each os (n + 1) f c → concat_words (map f (kept_places is_register (n + 1) os)) ≡ map_slots each (slots_of os) c)
        → concat_words (map f (cond b (n ∷ kept_places is_register (n + 1) os) (kept_places is_register (n + 1) os)))
        ≡ map_slots each (map slot (cond b (o ∷ filter is_register os) (filter is_register os))) content
    go true told rest =
        let here : n ≡ n + 0 = omega arith in
        ap₂ (λ (u v : Word). u ++ v) (ap f here ∙ gives 0 o refl told)
        (rest (drop (held_width o) content)
        (λ i p at is.
        let next : n + 1 + i ≡ n + suc i = omega arith in
        ap f next ∙ gives (suc i) p at is
        ∙ ap (λ (c : Word). first (held_width p) (each (slot p) (first (held_width p) c)))
        (ap (λ (b : Bool). drop (cond b (held_width o + kept_width is_register held_width (take i os)) (kept_width is_register held_width (take i os))) content) told
        ∙ sym (drop-drop (kept_width is_register held_width (take i os)) (held_width o) content))))
    go false told rest =
        rest content
        (λ i p at is.
        let next : n + 1 + i ≡ n + suc i = omega arith in
        ap f next ∙ gives (suc i) p at is
        ∙ ap (λ (b : Bool). first (held_width p) (each (slot p) (first (held_width p) (drop (cond b (held_width o + kept_width is_register held_width (take i os)) (kept_width is_register held_width (take i os))) content)))) told)

-- and each is as wide as its register
pub gives_widths : (each : Slot → Word → Word) (os : List Op) (f : ℕ → Word) (content : Word) → Gives each os 0 f content → map length (map f (kept_places is_register 0 os)) ≡ kept_widths is_register held_width os
gives_widths each os f content gives =
    given_widths is_register held_width os 0 f
    (λ i o at is. ap length (gives i o at is) ∙ length-first (held_width o) (each (slot o) (first (held_width o) (drop (kept_width is_register held_width (take i os)) content))))
