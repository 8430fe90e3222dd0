-- The nets of a flat module under a settled map: of ports, of registers, of constants, and any that tables hold.
use Rattle.std.proofs.Common.{◌≡◌, refl, sym, ap, ap₂, ◌∙◌, ℕ, ◌+◌, Bool, true, false, cond, List, [], map, take, drop, slice_get, Option, Some, None, inl, inr, arith}
use Rattle.std.specs.Prelude.{option_map, option_and_then}
use Rattle.bits_core.specs.Word.{Word, first}
use Rattle.hw_model.specs.Types.{Name, HwType, width}
use Rattle.hw_model.specs.Types.HwType.{int}
use Rattle.hw_model.specs.Kinds.{Kind}
use Rattle.hw_model.specs.Kinds.Kind.{constant, aggregate_constant}
use Rattle.hw_model.specs.Design.{Ref, Port, OpResult, Op, Module, Design, RegisterForm, instance_in, register_form, is_output_kind, is_output_op, result_type}
use Rattle.hw_model.specs.Design.Ref.{port, result, undefined}
use Rattle.hw_model.specs.Flat.{Net, net, Source, input_width, input_of, held_width, width_of, held_of, made_of, body_state, state, source}
use Rattle.hw_model.specs.Flat.Source.{nowhere, input, held, op_result}
use Rattle.hw_model.specs.Meaning.{Settled, needs_of, value_of}
use Rattle.hw_model.specs.Resets.{is_constant}
use Rattle.hw_model.specs.Sound.{type_in, input_type}
use Rattle.hw_model.specs.Value.{op_value}
use Rattle.flat_module_laws.specs.Sides.{IsFlat}
use Rattle.flat_module_laws.proofs.FlatBodies.{IsThere}
use Rattle.flat_module_laws.proofs.FlatSources.{port_from, held_type, ResultFrom, result_is}
use Rattle.flat_module_laws.proofs.FlatSources.ResultFrom.{from_register, from_output, from_operands}
use Rattle.flat_module_gates.proofs.Linking.{HasOne}
use Rattle.flat_module_gates.proofs.SingleResults.{plain_is_single}
use Rattle.flat_steps.specs.Tables.{cell, word_in, made}
use Rattle.flat_steps.proofs.SingleValues.{value_first}
use Rattle.flat_steps.specs.Holds.{PortsHold}

-- ---- constants

constant_made : (kind : Kind) → is_constant kind ≡ true → (register_form kind ≡ None) × (instance_in kind ≡ None) × (is_output_kind kind ≡ false)
constant_made (constant z) one = (refl, refl, refl)
constant_made (aggregate_constant ls) one = (refl, refl, refl)
constant_made kind one = cc

-- a constant's word is decided by the width of its result
constant_word : (kind : Kind) → is_constant kind ≡ true → (ts : List HwType) (t : HwType) (k : ℕ) (xs : List Word) → op_value kind ts t k xs ≡ op_value kind [] (int (width t)) 0 []
constant_word (constant z) one ts t k xs = refl
constant_word (aggregate_constant ls) one ts t k xs = refl
constant_word kind one ts t k xs = cc

-- a register is no constant
pub register_varies : (kind : Kind) (f : RegisterForm) → register_form kind ≡ Some f → is_constant kind ≡ false
register_varies (constant z) f is = cc
register_varies (aggregate_constant ls) f is = cc
register_varies kind f is = refl

-- ---- operations with one result

-- one that is no output has one
first_typed : (o : Op) → HasOne o → is_output_op o ≡ false → (t : HwType) × (result_type o 0 ≡ Some t)
first_typed o (inl (given, empty)) none = absurd (let no : ⊥ = cc in no)
first_typed o (inr (r, one, given)) none = (r.type, ap (λ (rs : List OpResult). option_map (λ (s : OpResult). s.type) (slice_get rs 0)) one)

module _ (d : Design) (top : Name) (m : Module) (order : List ℕ) (flat : IsFlat d top m order) where
  has_one : (j : ℕ) (o : Op) → slice_get m.body j ≡ Some o → HasOne o
  has_one = plain_is_single d top m flat.plain

  pub constant_typed : (j : ℕ) (o : Op) → slice_get m.body j ≡ Some o → is_constant o.kind ≡ true → (t : HwType) × (result_type o 0 ≡ Some t)
  constant_typed j o at one = first_typed o (has_one j o at) (constant_made o.kind one).2

  module _ (x q : Word) (ρ : Net → Word) (settled : Settled d top x q ρ) where
    pub from_source : (n : Net) (s : Source) → source d top n ≡ s → ρ n ≡ value_of x q s (map ρ (needs_of s))
    from_source n s is = settled n ∙ ap (λ (z : Source). value_of x q z (map ρ (needs_of z))) is

    -- a register's net has its bits of the content
    pub register_net : (i : ℕ) (o : Op) → slice_get m.body i ≡ Some o → (f : RegisterForm) → register_form o.kind ≡ Some f
        → ρ (net [] (result i 0)) ≡ first (held_width o) (drop (body_state (state d) (take i m.body)) q)
    register_net i o at f is = go (result_is d top m order flat i o at 0)
      where
        typed : (t : HwType) × (result_type o 0 ≡ Some t)
        typed = held_type d top m order flat i o at f is

        go : ResultFrom d top m order flat i o at 0 → ρ (net [] (result i 0)) ≡ first (held_width o) (drop (body_state (state d) (take i m.body)) q)
        go (from_register g one from) =
            let start : 0 + body_state (state d) (take i m.body) ≡ body_state (state d) (take i m.body) = omega arith in
            from_source (net [] (result i 0)) (held (0 + body_state (state d) (take i m.body)) (width typed.0)) (from ∙ ap (held_of (0 + body_state (state d) (take i m.body))) typed.1)
            ∙ ap₂ (λ (w n : ℕ). first w (drop n q)) (sym (ap width_of typed.1)) start
        go (from_output u from) = absurd (let free : is_output_op o ≡ false = (value_first o 0 typed.0 (has_one i o at) typed.1).1 in let no : ⊥ = cc in no)
        go (from_operands none n u from) = absurd (let no : ⊥ = cc in no)

    -- a constant's net has its word
    pub constant_net : (i k : ℕ) (o : Op) → slice_get m.body i ≡ Some o → is_constant o.kind ≡ true → (t : HwType) → result_type o k ≡ Some t → ρ (net [] (result i k)) ≡ made o []
    constant_net i k o at one t typed = go (result_is d top m order flat i o at k)
      where
        go : ResultFrom d top m order flat i o at k → ρ (net [] (result i k)) ≡ made o []
        go (from_register f is from) = absurd (let none : register_form o.kind ≡ None = (constant_made o.kind one).0 in let no : ⊥ = cc in no)
        go (from_output u from) = absurd (let free : is_output_kind o.kind ≡ false = (constant_made o.kind one).2 in let no : ⊥ = cc in no)
        go (from_operands r n u from) =
            let first_one : k ≡ 0 = (value_first o k t (has_one i o at) typed).0 in
            let wide : held_width o ≡ width t = ap width_of (ap (result_type o) (sym first_one) ∙ typed) in
            from_source (net [] (result i k)) (op_result o.kind o.types t k (map (net []) o.operands)) (from ∙ ap (made_of [] o k) typed)
            ∙ constant_word o.kind one o.types t k (map ρ (map (net []) o.operands))
            ∙ ap (λ (w : ℕ). op_value o.kind [] (int w) 0 []) (sym wide)

    module _ (ports : List Word) (hold : PortsHold m.ports ports x) where
      -- a port's word is that of its net
      pub port_net : (j : ℕ) (t : HwType) → type_in m.ports m.body (port j) ≡ Some t → cell ports j ≡ ρ (net [] (port j))
      port_net j t typed = go (slice_get m.ports j) refl typed
        where
          by_way : (p : Port) → slice_get m.ports j ≡ Some p → (b : Bool) → p.is_output ≡ b → cond b None (Some p.type) ≡ Some t → cell ports j ≡ ρ (net [] (port j))
          by_way p there true way is = absurd (let no : ⊥ = cc in no)
          by_way p there false way is =
              let from : source d top (net [] (port j)) ≡ input (input_width (take j m.ports)) (width p.type) =
              port_from d top m order flat j ∙ ap (λ (y : Option Port). input_of y (input_width (take j m.ports))) there
              ∙ ap (λ (b : Bool). cond b nowhere (input (input_width (take j m.ports)) (width p.type))) way in
              hold j p there way ∙ sym (from_source (net [] (port j)) (input (input_width (take j m.ports)) (width p.type)) from)

          go : (y : Option Port) → slice_get m.ports j ≡ y → input_type y ≡ Some t → cell ports j ≡ ρ (net [] (port j))
          go None there is = absurd (let no : ⊥ = cc in no)
          go (Some p) there is = by_way p there p.is_output refl is

      -- and that of any value, where each first result has the word of its net
      pub value_net : (results : List Word) → ((j : ℕ) (o : Op) (t : HwType) → slice_get m.body j ≡ Some o → result_type o 0 ≡ Some t → cell results j ≡ ρ (net [] (result j 0)))
          → (r : Ref) → IsThere m.ports m.body r → word_in ports results r ≡ ρ (net [] r)
      value_net results has (port j) (t, typed) = port_net j t typed
      value_net results has undefined (t, typed) = absurd (let no : ⊥ = cc in no)
      value_net results has (result j k) (t, typed) = go (slice_get m.body j) refl typed
        where
          go : (y : Option Op) → slice_get m.body j ≡ y → option_and_then (λ (o : Op). result_type o k) y ≡ Some t → cell results j ≡ ρ (net [] (result j k))
          go None at is = absurd (let no : ⊥ = cc in no)
          go (Some o) at is =
              let first_one : k ≡ 0 = (value_first o k t (has_one j o at) is).0 in
              has j o t at (ap (result_type o) (sym first_one) ∙ is) ∙ ap (λ (n : ℕ). ρ (net [] (result j n))) (sym first_one)
