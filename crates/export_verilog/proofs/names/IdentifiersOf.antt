-- Which things of a module have names: what each key belongs to.
use Rattle.std.proofs.Common.{◌≡◌, ℕ, zero, suc, ◌+◌, ◌⊎◌, Bool, true, false, cond, is_some, List, [], ◌∷◌, slice_get, Some, None, refl, sym, ◌∙◌, ap, subst, inl, inr, add-zero, add-suc, zero-add, suc-add}
use Rattle.wiring.specs.Wiring.{In}
use Rattle.wiring.proofs.Members.{In-append_left, In-append_right}
use Rattle.hw_model.specs.Kinds.{Instance}
use Rattle.hw_model.specs.Design.{Port, OpResult, Op, Module, RegisterForm, instance_in, register_form, is_output_kind, is_instance, is_output_op}
use Rattle.hw_model.specs.Design.Ref.{result}
use Rattle.hw_model.proofs.Sorts.{Sort, sort_of}
use Rattle.hw_model.proofs.Sorts.Sort.{a_register, an_instance as is_an_instance, an_output, a_made}
use Rattle.verilog_expr.specs.Spilling.{is_wire_kind, spilled}
use Rattle.export_verilog.specs.Identifiers.{Identifier, Emission, each, emission_of, result_identifiers, identifiers_of, op_identifiers, port_identifiers, module_identifiers}
use Rattle.export_verilog.specs.Identifiers.Identifier.{port_identifier, value_identifier, instance_identifier}
use Rattle.export_verilog.specs.Identifiers.Emission.{inline, as_wire, as_reg, as_instance}
use Rattle.export_verilog.proofs.items.Lists.{in_append, in_each, each_in}

-- ---- lists made element by element from the first position on

module _ {A B : Type 0} (f : ℕ → A → List B) where
  pub from_each : (xs : List A) (y : B) → In y (each f 0 xs) → (i : ℕ) × (x : A) × (slice_get xs i ≡ Some x) × In y (f i x)
  from_each xs y here = let e = in_each f 0 xs y here in
      (e.position, e.element, e.there, subst (λ n. In y (f n e.element)) (zero-add e.position) e.within)

  pub into_each : (xs : List A) (y : B) (i : ℕ) (x : A) → slice_get xs i ≡ Some x → In y (f i x) → In y (each f 0 xs)
  into_each xs y i x there within = each_in f 0 xs y i x there (subst (λ n. In y (f n x)) (sym (zero-add i)) within)

-- ---- roles

module _ (ports : List Port) (os : List Op) (i : ℕ) (o : Op) where
  pub emission_of_register : (f : RegisterForm) → register_form o.kind ≡ Some f → emission_of ports os i o ≡ as_reg
  emission_of_register f r = ap (λ x. cond (is_some x) as_reg
      (cond (is_instance o) as_instance (cond (is_output_op o) inline (cond (is_wire_kind o.kind) as_wire (cond (spilled ports os (result i 0)) as_wire inline))))) r

  pub emission_of_instance : (x : Instance) → register_form o.kind ≡ None → instance_in o.kind ≡ Some x → emission_of ports os i o ≡ as_instance
  emission_of_instance x r n = ap (λ y. cond (is_some y) as_reg
      (cond (is_instance o) as_instance (cond (is_output_op o) inline (cond (is_wire_kind o.kind) as_wire (cond (spilled ports os (result i 0)) as_wire inline))))) r
      ∙ ap (λ y. cond (is_some y) as_instance (cond (is_output_op o) inline (cond (is_wire_kind o.kind) as_wire (cond (spilled ports os (result i 0)) as_wire inline)))) n

  pub emission_of_output : register_form o.kind ≡ None → instance_in o.kind ≡ None → is_output_kind o.kind ≡ true → emission_of ports os i o ≡ inline
  emission_of_output r n u = ap (λ y. cond (is_some y) as_reg
      (cond (is_instance o) as_instance (cond (is_output_op o) inline (cond (is_wire_kind o.kind) as_wire (cond (spilled ports os (result i 0)) as_wire inline))))) r
      ∙ ap (λ y. cond (is_some y) as_instance (cond (is_output_op o) inline (cond (is_wire_kind o.kind) as_wire (cond (spilled ports os (result i 0)) as_wire inline)))) n
      ∙ ap (λ b. cond b inline (cond (is_wire_kind o.kind) as_wire (cond (spilled ports os (result i 0)) as_wire inline))) u

  pub emission_of_made : register_form o.kind ≡ None → instance_in o.kind ≡ None → is_output_kind o.kind ≡ false
      → emission_of ports os i o ≡ cond (is_wire_kind o.kind) as_wire (cond (spilled ports os (result i 0)) as_wire inline)
  emission_of_made r n u = ap (λ y. cond (is_some y) as_reg
      (cond (is_instance o) as_instance (cond (is_output_op o) inline (cond (is_wire_kind o.kind) as_wire (cond (spilled ports os (result i 0)) as_wire inline))))) r
      ∙ ap (λ y. cond (is_some y) as_instance (cond (is_output_op o) inline (cond (is_wire_kind o.kind) as_wire (cond (spilled ports os (result i 0)) as_wire inline)))) n
      ∙ ap (λ b. cond b inline (cond (is_wire_kind o.kind) as_wire (cond (spilled ports os (result i 0)) as_wire inline))) u

  net_or_hidden : (b c : Bool) → (cond b as_wire (cond c as_wire inline) ≡ as_reg → ⊥) × (cond b as_wire (cond c as_wire inline) ≡ as_instance → ⊥)
  net_or_hidden true c = (λ e. cc, λ e. cc)
  net_or_hidden false true = (λ e. cc, λ e. cc)
  net_or_hidden false false = (λ e. cc, λ e. cc)

  pub register_of_emission : emission_of ports os i o ≡ as_reg → (f : RegisterForm) × (register_form o.kind ≡ Some f)
  register_of_emission e = go (sort_of o.kind) where
    go : Sort o.kind → (f : RegisterForm) × (register_form o.kind ≡ Some f)
    go (a_register f r n u) = (f, r)
    go (is_an_instance x r n u) = absurd (let h : as_instance ≡ as_reg = sym (emission_of_instance x r n) ∙ e in cc)
    go (an_output r n u) = absurd (let h : inline ≡ as_reg = sym (emission_of_output r n u) ∙ e in cc)
    go (a_made r n u) = absurd ((net_or_hidden (is_wire_kind o.kind) (spilled ports os (result i 0))).0 (sym (emission_of_made r n u) ∙ e))

  pub instance_of_emission : emission_of ports os i o ≡ as_instance → (x : Instance) × (register_form o.kind ≡ None) × (instance_in o.kind ≡ Some x)
  instance_of_emission e = go (sort_of o.kind) where
    go : Sort o.kind → (x : Instance) × (register_form o.kind ≡ None) × (instance_in o.kind ≡ Some x)
    go (a_register f r n u) = absurd (let h : as_reg ≡ as_instance = sym (emission_of_register f r) ∙ e in cc)
    go (is_an_instance x r n u) = (x, r, n)
    go (an_output r n u) = absurd (let h : inline ≡ as_instance = sym (emission_of_output r n u) ∙ e in cc)
    go (a_made r n u) = absurd ((net_or_hidden (is_wire_kind o.kind) (spilled ports os (result i 0))).1 (sym (emission_of_made r n u) ∙ e))

  -- what a wire stands for is made of its operands
  pub made_of_emission : emission_of ports os i o ≡ as_wire → (register_form o.kind ≡ None) × (instance_in o.kind ≡ None) × (is_output_kind o.kind ≡ false)
  made_of_emission e = go (sort_of o.kind) where
    go : Sort o.kind → (register_form o.kind ≡ None) × (instance_in o.kind ≡ None) × (is_output_kind o.kind ≡ false)
    go (a_register f r n u) = absurd (let h : as_reg ≡ as_wire = sym (emission_of_register f r) ∙ e in cc)
    go (is_an_instance x r n u) = absurd (let h : as_instance ≡ as_wire = sym (emission_of_instance x r n) ∙ e in cc)
    go (an_output r n u) = absurd (let h : inline ≡ as_wire = sym (emission_of_output r n u) ∙ e in cc)
    go (a_made r n u) = (r, n, u)

-- ---- the results of an instance

pub in_results : (i k : ℕ) (rs : List OpResult) (identifier : Identifier) → In identifier (result_identifiers i k rs) → (n : ℕ) × (r : OpResult) × (slice_get rs n ≡ Some r) × (identifier ≡ value_identifier i (k + n))
in_results i k [] identifier here = absurd here
in_results i k (r ∷ rs) identifier (inl same) = (0, r, refl, same ∙ ap (value_identifier i) (sym (add-zero k)))
in_results i k (r ∷ rs) identifier (inr here) = let found = in_results i (suc k) rs identifier here in
    (suc found.0, found.1, found.2, found.3 ∙ ap (value_identifier i) (suc-add k found.0 ∙ sym (add-suc k found.0)))

pub results_in : (i k : ℕ) (rs : List OpResult) (n : ℕ) (r : OpResult) → slice_get rs n ≡ Some r → In (value_identifier i (k + n)) (result_identifiers i k rs)
results_in i k [] n r is = cc
results_in i k (x ∷ rs) zero r is = inl (ap (value_identifier i) (add-zero k))
results_in i k (x ∷ rs) (suc n) r is =
    inr (subst (λ j. In (value_identifier i j) (result_identifiers i (suc k) rs)) (suc-add k n ∙ sym (add-suc k n)) (results_in i (suc k) rs n r is))

-- ---- what a key belongs to

pub data Owner (m : Module) (identifier : Identifier) : Type 0 where
  a_port : (j : ℕ) (p : Port) → slice_get m.ports j ≡ Some p → identifier ≡ port_identifier j → Owner m identifier
  a_net : (i : ℕ) (o : Op) → slice_get m.body i ≡ Some o → emission_of m.ports m.body i o ≡ as_wire → identifier ≡ value_identifier i 0 → Owner m identifier
  a_variable : (i : ℕ) (o : Op) → slice_get m.body i ≡ Some o → emission_of m.ports m.body i o ≡ as_reg → identifier ≡ value_identifier i 0 → Owner m identifier
  an_instance : (i : ℕ) (o : Op) → slice_get m.body i ≡ Some o → emission_of m.ports m.body i o ≡ as_instance → identifier ≡ instance_identifier i → Owner m identifier
  a_result : (i k : ℕ) (o : Op) (r : OpResult) → slice_get m.body i ≡ Some o → emission_of m.ports m.body i o ≡ as_instance → slice_get o.results k ≡ Some r
      → identifier ≡ value_identifier i k → Owner m identifier

module _ (m : Module) where
  pub owner_of : (identifier : Identifier) → In identifier (module_identifiers m) → Owner m identifier
  owner_of identifier here = by_part (in_append identifier (each port_identifiers 0 m.ports) (each (op_identifiers m.ports m.body) 0 m.body) here) where
    of_op : (i : ℕ) (o : Op) → slice_get m.body i ≡ Some o → (r : Emission) → emission_of m.ports m.body i o ≡ r → In identifier (identifiers_of r i o) → Owner m identifier
    of_op i o there inline emission within = absurd within
    of_op i o there as_wire emission (inl same) = a_net i o there emission same
    of_op i o there as_wire emission (inr never) = absurd never
    of_op i o there as_reg emission (inl same) = a_variable i o there emission same
    of_op i o there as_reg emission (inr never) = absurd never
    of_op i o there as_instance emission (inl same) = an_instance i o there emission same
    of_op i o there as_instance emission (inr within) = let found = in_results i 0 o.results identifier within in
        a_result i found.0 o found.1 there emission found.2 (found.3 ∙ ap (value_identifier i) (zero-add found.0))

    of_port : (j : ℕ) (p : Port) → slice_get m.ports j ≡ Some p → In identifier (port_identifiers j p) → Owner m identifier
    of_port j p there (inl same) = a_port j p there same
    of_port j p there (inr never) = absurd never

    by_part : In identifier (each port_identifiers 0 m.ports) ⊎ In identifier (each (op_identifiers m.ports m.body) 0 m.body) → Owner m identifier
    by_part (inl h) = let e = from_each port_identifiers m.ports identifier h in of_port e.0 e.1 e.2 e.3
    by_part (inr h) = let e = from_each (op_identifiers m.ports m.body) m.body identifier h in
        of_op e.0 e.1 e.2 (emission_of m.ports m.body e.0 e.1) refl e.3

  of_body : (identifier : Identifier) (i : ℕ) (o : Op) → slice_get m.body i ≡ Some o → (r : Emission) → emission_of m.ports m.body i o ≡ r → In identifier (identifiers_of r i o) → In identifier (module_identifiers m)
  of_body identifier i o there r emission within =
      In-append_right identifier (each port_identifiers 0 m.ports) (each (op_identifiers m.ports m.body) 0 m.body)
      (into_each (op_identifiers m.ports m.body) m.body identifier i o there (subst (λ x. In identifier (identifiers_of x i o)) (sym emission) within))

  pub port_in : (j : ℕ) (p : Port) → slice_get m.ports j ≡ Some p → In (port_identifier j) (module_identifiers m)
  port_in j p there =
      In-append_left (port_identifier j) (each port_identifiers 0 m.ports) (each (op_identifiers m.ports m.body) 0 m.body) (into_each port_identifiers m.ports (port_identifier j) j p there (inl refl))

  pub net_in : (i : ℕ) (o : Op) → slice_get m.body i ≡ Some o → emission_of m.ports m.body i o ≡ as_wire → In (value_identifier i 0) (module_identifiers m)
  net_in i o there emission = of_body (value_identifier i 0) i o there as_wire emission (inl refl)

  pub variable_in : (i : ℕ) (o : Op) → slice_get m.body i ≡ Some o → emission_of m.ports m.body i o ≡ as_reg → In (value_identifier i 0) (module_identifiers m)
  variable_in i o there emission = of_body (value_identifier i 0) i o there as_reg emission (inl refl)

  pub instance_in_identifiers : (i : ℕ) (o : Op) → slice_get m.body i ≡ Some o → emission_of m.ports m.body i o ≡ as_instance → In (instance_identifier i) (module_identifiers m)
  instance_in_identifiers i o there emission = of_body (instance_identifier i) i o there as_instance emission (inl refl)

  pub result_in_identifiers : (i k : ℕ) (o : Op) (r : OpResult) → slice_get m.body i ≡ Some o → emission_of m.ports m.body i o ≡ as_instance → slice_get o.results k ≡ Some r
      → In (value_identifier i k) (module_identifiers m)
  result_in_identifiers i k o r there emission found =
      of_body (value_identifier i k) i o there as_instance emission (inr (subst (λ n. In (value_identifier i n) (result_identifiers i 0 o.results)) (zero-add k) (results_in i 0 o.results k r found)))
