-- Where the nets of a flat module get their values from.
use Rattle.std.proofs.Common.{◌≡◌, refl, sym, ap, subst, ◌∙◌, ℕ, zero, suc, ◌+◌, ◌<◌, ◌≤◌, Bool, true, false, cond, List, [], ◌∷◌, length, take, drop, slice_get, Some, None, arith, option_map}
use Rattle.std.proofs.lemmas.Option.{slice_get_within}
use Rattle.wiring.proofs.Lists.{split_at, slice_get_some}
use Rattle.wiring.proofs.Options.{option_map_some}
use Rattle.hw_model.specs.Types.{Name, HwType, width}
use Rattle.hw_model.specs.Kinds.{Kind}
use Rattle.hw_model.specs.Kinds.Kind.{register, async_firreg}
use Rattle.hw_model.specs.Design.{Port, OpResult, Op, Module, Design, RegisterForm, find_module, instance_in, register_form, is_output_kind, result_type}
use Rattle.hw_model.specs.Design.Ref.{port, result}
use Rattle.hw_model.specs.Flat.{Net, net, input_width, input_of, held_of, made_of, op_state, body_state, state, state_of, module_state, held_width, width_of, source}
use Rattle.hw_model.specs.Flat.Source.{nowhere}
use Rattle.hw_model.specs.Sound.{body_of, ports_of}
use Rattle.hw_model.proofs.Content.{body_state_same, body_state-append}
use Rattle.hw_model.proofs.Paths.{input_ports, op_in, result_in, result_here}
use Rattle.hw_model.proofs.Sorts.{Sort, sort_of}
use Rattle.hw_model.proofs.Sorts.Sort.{a_register, an_instance, an_output, a_made}
use Rattle.type_inference.specs.ResultTypes.{result_count}
use Rattle.op_verifier.proofs.NoCauseAlone.{result_number}
use Rattle.flat_module_laws.specs.Sides.{flat_nets, side_of, IsPlain, IsFlat}
use Rattle.flat_module_laws.proofs.FlatBodies.{no_callee, no_instance, no_own_cause}

-- ---- inputs

-- the inputs up to a port, and its bits
pub inputs_within : (ps : List Port) (j : ℕ) (q : Port) → slice_get ps j ≡ Some q → q.is_output ≡ false → input_width (take j ps) + width q.type ≤ input_width ps
inputs_within [] j q at inward = cc
inputs_within (p ∷ ps) zero q at inward =
    let same : p ≡ q = cc in
    let way : p.is_output ≡ false = ap (λ (z : Port). z.is_output) same ∙ inward in
    let own : width p.type ≡ width q.type = ap (λ (z : Port). width z.type) same in
    simp way (omega (arith, own))
inputs_within (p ∷ ps) (suc j) q at inward = go p.is_output (inputs_within ps j q at inward)
  where
    go : (b : Bool) → input_width (take j ps) + width q.type ≤ input_width ps
        → cond b (input_width (take j ps)) (width p.type + input_width (take j ps)) + width q.type ≤ cond b (input_width ps) (width p.type + input_width ps)
    go true h = h
    go false h = omega (arith, h)

-- ---- registers

one_result : (kind : Kind) (ts : List HwType) (f : RegisterForm) → register_form kind ≡ Some f → result_count kind ts ≡ 1
unfolding result_count
one_result (register w r) ts f is = refl
one_result async_firreg ts f is = refl
one_result kind ts f is = cc

module _ (inner : Name → ℕ) (os : List Op) (i : ℕ) (o : Op) (at : slice_get os i ≡ Some o) where
  -- the content up to an operation, and its bits
  pub content_within : body_state inner (take i os) + op_state inner o ≤ body_state inner os
  content_within =
      let split : body_state inner os ≡ body_state inner (take i os) + (op_state inner o + body_state inner (drop (suc i) os)) =
      ap (body_state inner) (split_at os i o at) ∙ body_state-append inner (take i os) (o ∷ drop (suc i) os) in
      omega (arith, split)

-- ---- nets

-- a result of a flat module
pub plain_result : (d : Design) (top : Name) (m : Module) → IsPlain d top m → (i k : ℕ)
    → source d top (net [] (result i k)) ≡ result_in d top [] m.body i k (slice_get m.body i)
plain_result d top m plain i k = result_here d top [] i k ∙ ap (λ o. result_in d top [] (body_of o) i k (slice_get (body_of o) i)) plain.found

module _ (d : Design) (top : Name) (m : Module) (order : List ℕ) (flat : IsFlat d top m order) where
  -- what holds of the nets by ports and body holds of the side's
  pub of_side : (P : List Net → Type 0) → P (flat_nets m.ports m.body order) → P (side_of d top order).nets
  of_side P have = subst (λ o. P (flat_nets (ports_of o) (body_of o) order)) (sym flat.plain.found) have

  pub port_from : (j : ℕ) → source d top (net [] (port j)) ≡ input_of (slice_get m.ports j) (input_width (take j m.ports))
  port_from j =
      input_ports j (find_module d top)
      ∙ ap (λ o. input_of (slice_get (ports_of o) j) (input_width (take j (ports_of o)))) flat.plain.found

  pub result_from : (i k : ℕ) → source d top (net [] (result i k)) ≡ result_in d top [] m.body i k (slice_get m.body i)
  result_from = plain_result d top m flat.plain

  -- the content of the module, by its body
  state_is : state d top ≡ body_state (state d) m.body
  state_is =
      ap (state_of (module_state (length d) d)) flat.plain.found
      ∙ body_state_same (module_state (length d) d) (state d) m.body (λ s here. absurd (no_callee d top m order flat s here))

  module _ (i : ℕ) (o : Op) (at : slice_get m.body i ≡ Some o) where
    -- a register has one result
    one_held : (f : RegisterForm) → register_form o.kind ≡ Some f → length o.results ≡ 1
    one_held f is = result_number m.ports m.body o (no_own_cause d top m order flat i o at) ∙ one_result o.kind o.types f is

    pub held_type : (f : RegisterForm) → register_form o.kind ≡ Some f → (t : HwType) × (result_type o 0 ≡ Some t)
    held_type f is =
        let one = one_held f is in
        let first = slice_get_some o.results 0 (omega (arith, one)) in
        (first.0.type, ap (option_map (λ (r : OpResult). r.type)) first.1)

    -- a register's results have its bits
    pub held_result : (f : RegisterForm) → register_form o.kind ≡ Some f → (k : ℕ) (t : HwType) → result_type o k ≡ Some t → held_width o ≡ width t
    held_result f is k t typed =
        let found = option_map_some (λ (r : OpResult). r.type) (slice_get o.results k) typed in
        let below : k < length o.results = slice_get_within o.results k found.0 found.1 in
        let one = one_held f is in
        let first : k ≡ 0 = omega (arith, one) in
        ap width_of (ap (result_type o) (sym first) ∙ typed)

    pub held_within : (f : RegisterForm) → register_form o.kind ≡ Some f → (k : ℕ) (t : HwType) → result_type o k ≡ Some t
        → 0 + body_state (state d) (take i m.body) + width t ≤ state d top
    held_within f is k t typed =
        let own : op_state (state d) o ≡ held_width o = simp is refl in
        let wide : held_width o ≡ width t = held_result f is k t typed in
        let within : body_state (state d) (take i m.body) + op_state (state d) o ≤ body_state (state d) m.body = content_within (state d) m.body i o at in
        omega (arith, own, wide, within, state_is)

    -- what a result is
    pub data ResultFrom (k : ℕ) : Type 0 where
      from_register : (f : RegisterForm) → register_form o.kind ≡ Some f
          → source d top (net [] (result i k)) ≡ held_of (0 + body_state (state d) (take i m.body)) (result_type o k) → ResultFrom k
      from_output : is_output_kind o.kind ≡ true → source d top (net [] (result i k)) ≡ nowhere → ResultFrom k
      from_operands : register_form o.kind ≡ None → instance_in o.kind ≡ None → is_output_kind o.kind ≡ false
          → source d top (net [] (result i k)) ≡ made_of [] o k (result_type o k) → ResultFrom k

    pub result_is : (k : ℕ) → ResultFrom k
    result_is k = go (sort_of o.kind)
      where
        here : source d top (net [] (result i k)) ≡ op_in d top [] m.body i k o
        here = result_from i k ∙ ap (result_in d top [] m.body i k) at

        go : Sort o.kind → ResultFrom k
        go (a_register f r n u) = from_register f r (here ∙ simp r refl)
        go (an_instance x r n u) = absurd (let no : ⊥ = (let clash : Some x ≡ None = sym n ∙ no_instance d top m order flat i o at in cc) in no)
        go (an_output r n u) = from_output u (here ∙ simp (r, n, u) refl)
        go (a_made r n u) = from_operands r n u (here ∙ simp (r, n, u) refl)
