-- The names that are wanted for the things of a body, in the order of the things.
use Rattle.std.proofs.Common.{◌≡◌, ℕ, suc, ◌+◌, true, false, cond, is_some, List, [], ◌∷◌, ◌++◌, map, length, slice_get, codes, Some, None, refl, sym, ◌∙◌, ap, ap₂, add-zero, add-suc, zero-add, suc-add, add-one}
use Rattle.std.proofs.lemmas.List.{map-append}
use Rattle.hw_model.specs.Types.{Name}
use Rattle.hw_model.specs.Kinds.{Instance}
use Rattle.hw_model.specs.Design.{Port, OpResult, Op, Module, is_register, is_instance, instance_in}
use Rattle.name_legalise.specs.Legal.{legal, legal_after}
use Rattle.verilog_expr.specs.Spilling.{is_wire_kind, hint_of}
use Rattle.export_verilog.specs.Identifiers.{Emission, each, emission_of, result_identifiers, identifiers_of, op_identifiers, port_identifiers, name_hint, value_name_hint, instance_name_hint}
use Rattle.export_verilog.specs.Identifiers.{instance_name, op_name_hint, instance_result_name_hint, result_name_hint, or_name, names}
use Rattle.export_verilog.specs.Identifiers.Emission.{inline, as_wire, as_reg, as_instance}
use Rattle.export_verilog.specs.Held.{own_name_hint, result_name_hints, name_hints_of, op_name_hints}
use Rattle.export_verilog.specs.Walks.{body_name_hints}
use Rattle.export_verilog.proofs.names.IdentifiersOf.{register_of_emission, instance_of_emission, made_of_emission}
use Rattle.export_verilog.proofs.names.PortNames.{legal_append, ports_name_hint}

module _ (m : Module) where
  results_name_hint : (i k : ℕ) (o : Op) (x : Instance) (rs : List OpResult) → slice_get m.body i ≡ Some o → ((l : ℕ) → op_name_hint l o ≡ result_name_hint x l)
      → map (name_hint m) (result_identifiers i k rs) ≡ result_name_hints x k (length rs)
  results_name_hint i k o x [] at is = refl
  results_name_hint i k o x (r ∷ rs) at is = ap₂ (λ n ns. n ∷ ns) (ap (value_name_hint k) at ∙ is k) (results_name_hint i (suc k) o x rs at is)

  module _ (i : ℕ) (o : Op) (at : slice_get m.body i ≡ Some o) where
    pub instance_name_hints : (x : Instance) → is_register o ≡ false → instance_in o.kind ≡ Some x → (k : ℕ) → op_name_hint k o ≡ result_name_hint x k
    instance_name_hints x other is k =
        ap (λ b. cond b (or_name o.name (codes "_reg")) (cond (is_instance o) (instance_result_name_hint (instance_in o.kind) k)
        (cond (is_wire_kind o.kind) (or_name o.name (codes "_wire")) (or_name (hint_of o) (codes "_GEN"))))) other
        ∙ ap (λ y. cond (is_some y) (instance_result_name_hint y k) (cond (is_wire_kind o.kind) (or_name o.name (codes "_wire")) (or_name (hint_of o) (codes "_GEN")))) is

    register_name_hint : is_register o ≡ true → op_name_hint 0 o ≡ own_name_hint o
    register_name_hint is =
        ap (λ b. cond b (or_name o.name (codes "_reg")) (cond (is_instance o) (instance_result_name_hint (instance_in o.kind) 0)
        (cond (is_wire_kind o.kind) (or_name o.name (codes "_wire")) (or_name (hint_of o) (codes "_GEN"))))) is
        ∙ sym (ap (λ b. cond b (or_name o.name (codes "_reg")) (cond (is_wire_kind o.kind) (or_name o.name (codes "_wire")) (or_name (hint_of o) (codes "_GEN")))) is)

    net_name_hint : instance_in o.kind ≡ None → op_name_hint 0 o ≡ own_name_hint o
    net_name_hint none =
        ap (λ y. cond (is_register o) (or_name o.name (codes "_reg")) (cond (is_some y) (instance_result_name_hint y 0)
        (cond (is_wire_kind o.kind) (or_name o.name (codes "_wire")) (or_name (hint_of o) (codes "_GEN"))))) none

    by_emission : (r : Emission) → emission_of m.ports m.body i o ≡ r → map (name_hint m) (identifiers_of r i o) ≡ op_name_hints r o
    by_emission inline emission = refl
    by_emission as_wire emission =
        let made = made_of_emission m.ports m.body i o emission in
        ap (λ n. n ∷ []) (ap (value_name_hint 0) at ∙ net_name_hint made.1)
    by_emission as_reg emission =
        let is = register_of_emission m.ports m.body i o emission in
        ap (λ n. n ∷ []) (ap (value_name_hint 0) at ∙ register_name_hint (ap is_some is.1))
    by_emission as_instance emission =
        let is = instance_of_emission m.ports m.body i o emission in
        ap₂ (λ n ns. n ∷ ns) (ap instance_name_hint at ∙ ap instance_name is.2)
        (results_name_hint i 0 o is.0 o.results at (instance_name_hints is.0 (ap is_some is.1) is.2))
        ∙ sym (ap (λ y. name_hints_of as_instance y o) is.2)

    pub op_name_hints_are : map (name_hint m) (op_identifiers m.ports m.body i o) ≡ op_name_hints (emission_of m.ports m.body i o) o
    op_name_hints_are = by_emission (emission_of m.ports m.body i o) refl

  body_name_hints_from : (i : ℕ) (xs : List Op) → ((k : ℕ) → slice_get m.body (i + k) ≡ slice_get xs k)
      → map (name_hint m) (each (op_identifiers m.ports m.body) i xs) ≡ body_name_hints m.ports m.body i xs
  body_name_hints_from i [] at = refl
  body_name_hints_from i (x ∷ xs) at =
      map-append (name_hint m) (op_identifiers m.ports m.body i x) (each (op_identifiers m.ports m.body) (suc i) xs)
      ∙ ap₂ (λ n ns. n ++ ns) (op_name_hints_are i x (ap (slice_get m.body) (sym (add-zero i)) ∙ at 0))
      (body_name_hints_from (suc i) xs (λ k. ap (slice_get m.body) (suc-add i k ∙ sym (add-suc i k)) ∙ at (suc k))
      ∙ ap (λ n. body_name_hints m.ports m.body n xs) (sym (add-one i)))

  pub body_name_hints_are : map (name_hint m) (each (op_identifiers m.ports m.body) 0 m.body) ≡ body_name_hints m.ports m.body 0 m.body
  body_name_hints_are = body_name_hints_from 0 m.body (λ k. ap (slice_get m.body) (zero-add k))

  -- the names of a module: those of its ports, and then of its body
  pub names_are : (ns : List Name) → ns ≡ legal (map (λ (p : Port). p.name) m.ports) → names m ≡ ns ++ legal_after ns (body_name_hints m.ports m.body 0 m.body)
  unfolding names
  names_are ns e =
      let ws = map (λ (p : Port). p.name) m.ports in
      let bs = body_name_hints m.ports m.body 0 m.body in
      ap legal (map-append (name_hint m) (each port_identifiers 0 m.ports) (each (op_identifiers m.ports m.body) 0 m.body)
      ∙ ap₂ (λ x y. x ++ y) (ports_name_hint m 0 m.ports (λ k. ap (slice_get m.ports) (zero-add k))) body_name_hints_are)
      ∙ legal_append [] ws bs ∙ ap (λ l. l ++ legal_after l bs) (sym e)
