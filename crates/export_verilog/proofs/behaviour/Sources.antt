-- Where the nets of a design come from, by what stands at the end of a path.
use Rattle.std.proofs.Common.{◌≡◌, ℕ, zero, suc, Bool, true, false, cond, List, [], ◌∷◌, map, length, take, slice_get, is_some, Option, Some, None, refl, sym, ◌∙◌, ap, subst, option_map}
use Rattle.wiring.specs.Wiring.{In, Chain, IsAcyclic}
use Rattle.wiring.proofs.Members.{In-map}
use Rattle.hw_model.specs.Types.{Name, HwType}
use Rattle.hw_model.specs.Kinds.{Instance}
use Rattle.hw_model.specs.Design.{Ref, OpResult, Op, Module, Design, RegisterForm, find_module, instance_in, register_form, is_output_kind, is_instance, is_output_op, result_type}
use Rattle.hw_model.specs.Design.Ref.{port, result, undefined}
use Rattle.hw_model.specs.Flat.{Path, net, source, module_at, instances, offset, copy_of, given_ref, held_of, made_of, op_source, result_source, result_source_of}
use Rattle.hw_model.specs.Flat.Source.{nowhere, op_result}
use Rattle.hw_model.specs.Meaning.{needs, needs_of, HasNoCycle}
use Rattle.hw_model.proofs.Sorts.{Sort, sort_of}
use Rattle.hw_model.proofs.Sorts.Sort.{a_register, an_instance, an_output, a_made}
use Rattle.verilog_expr.specs.Spilling.{is_pure, is_wire_kind, inner_of, inner_needs}

module _ (d : Design) (top : Name) (p : Path) (m : Module) (here : module_at d top p ≡ Some m) where
  pub result_from : (i k : ℕ) (o : Op) → slice_get m.body i ≡ Some o → source d top (net p (result i k)) ≡ op_source d top p m i k o
  result_from i k o there = ap (result_source d top p i k) here ∙ ap (result_source_of d top p m i k) there

  pub no_op_from : (i k : ℕ) → slice_get m.body i ≡ None → source d top (net p (result i k)) ≡ nowhere
  no_op_from i k there = ap (result_source d top p i k) here ∙ ap (result_source_of d top p m i k) there

  pub register_from : (i k : ℕ) (o : Op) (f : RegisterForm) → slice_get m.body i ≡ Some o → register_form o.kind ≡ Some f
      → source d top (net p (result i k)) ≡ held_of (offset d top p m i) (result_type o k)
  register_from i k o f there r = result_from i k o there
      ∙ ap (λ z. cond (is_some z) (held_of (offset d top p m i) (result_type o k))
      (cond (is_instance o) (copy_of (length (instances (take i m.body)) ∷ p) (given_ref d k o)) (cond (is_output_op o) nowhere (made_of p o k (result_type o k))))) r

  pub instance_from : (i k : ℕ) (o : Op) (y : Instance) → slice_get m.body i ≡ Some o → register_form o.kind ≡ None → instance_in o.kind ≡ Some y
      → source d top (net p (result i k)) ≡ copy_of (length (instances (take i m.body)) ∷ p) (given_ref d k o)
  instance_from i k o y there r n = result_from i k o there
      ∙ ap (λ z. cond (is_some z) (held_of (offset d top p m i) (result_type o k))
      (cond (is_instance o) (copy_of (length (instances (take i m.body)) ∷ p) (given_ref d k o)) (cond (is_output_op o) nowhere (made_of p o k (result_type o k))))) r
      ∙ ap (λ z. cond (is_some z) (copy_of (length (instances (take i m.body)) ∷ p) (given_ref d k o)) (cond (is_output_op o) nowhere (made_of p o k (result_type o k)))) n

  pub rest_from : (i k : ℕ) (o : Op) → slice_get m.body i ≡ Some o → register_form o.kind ≡ None → instance_in o.kind ≡ None
      → source d top (net p (result i k)) ≡ cond (is_output_op o) nowhere (made_of p o k (result_type o k))
  rest_from i k o there r n = result_from i k o there
      ∙ ap (λ z. cond (is_some z) (held_of (offset d top p m i) (result_type o k))
      (cond (is_instance o) (copy_of (length (instances (take i m.body)) ∷ p) (given_ref d k o)) (cond (is_output_op o) nowhere (made_of p o k (result_type o k))))) r
      ∙ ap (λ z. cond (is_some z) (copy_of (length (instances (take i m.body)) ∷ p) (given_ref d k o)) (cond (is_output_op o) nowhere (made_of p o k (result_type o k)))) n

  pub made_from : (i k : ℕ) (o : Op) (t : HwType) → slice_get m.body i ≡ Some o → register_form o.kind ≡ None → instance_in o.kind ≡ None → is_output_kind o.kind ≡ false
      → result_type o k ≡ Some t → source d top (net p (result i k)) ≡ op_result o.kind o.types t k (map (net p) o.operands)
  made_from i k o t there r n u typed = rest_from i k o there r n ∙ ap (λ b. cond b nowhere (made_of p o k (result_type o k))) u ∙ ap (made_of p o k) typed

-- ---- a value that a pure operation needs is a net that its result needs

pub pure_sort : (o : Op) → is_pure o ≡ true → (register_form o.kind ≡ None) × (instance_in o.kind ≡ None) × (is_output_kind o.kind ≡ false) × (is_wire_kind o.kind ≡ false)
pure_sort o pure = go (sort_of o.kind) where
  wire : register_form o.kind ≡ None → instance_in o.kind ≡ None → is_output_kind o.kind ≡ false → (b : Bool) → is_wire_kind o.kind ≡ b → is_wire_kind o.kind ≡ false
  wire r n u false e = e
  wire r n u true e = absurd (let h : false ≡ true = simp (r, n, u, e) at pure in cc)

  go : Sort o.kind → (register_form o.kind ≡ None) × (instance_in o.kind ≡ None) × (is_output_kind o.kind ≡ false) × (is_wire_kind o.kind ≡ false)
  go (a_register f r n u) = absurd (let h : false ≡ true = simp r at pure in cc)
  go (an_instance y r n u) = absurd (let h : false ≡ true = simp (r, n) at pure in cc)
  go (an_output r n u) = absurd (let h : false ≡ true = simp (r, n, u) at pure in cc)
  go (a_made r n u) = (r, n, u, wire r n u (is_wire_kind o.kind) refl)

module _ (d : Design) (s : Name) (m : Module) (is : find_module d s ≡ Some m)
    (one : (i : ℕ) (o : Op) → slice_get m.body i ≡ Some o → instance_in o.kind ≡ None → is_output_kind o.kind ≡ false → (r : OpResult) × (o.results ≡ r ∷ [])) where
  inner_need : (a b : Ref) → In b (inner_needs m.body a) → In (net [] b) (needs d s (net [] a))
  inner_need (port j) b here = absurd here
  inner_need undefined b here = absurd here
  inner_need (result i (suc k)) b here = absurd here
  inner_need (result i zero) b here = go (slice_get m.body i) refl here where
    pure_need : (o : Op) → slice_get m.body i ≡ Some o → (p : Bool) → is_pure o ≡ p → In b (cond p o.operands []) → In (net [] b) (needs d s (net [] (result i 0)))
    pure_need o there false pure within = absurd within
    pure_need o there true pure within =
        let h = pure_sort o pure in
        let r = one i o there h.1 h.2 in
        let typed : result_type o 0 ≡ Some r.0.type = ap (λ (rs : List OpResult). option_map (λ (z : OpResult). z.type) (slice_get rs 0)) r.1 in
        subst (λ z. In (net [] b) (needs_of z)) (sym (made_from d s [] m is i 0 o r.0.type there h.0 h.1 h.2 typed)) (In-map (net []) b o.operands within)

    go : (o : Option Op) → slice_get m.body i ≡ o → In b (inner_of o) → In (net [] b) (needs d s (net [] (result i 0)))
    go None there within = absurd within
    go (Some o) there within = pure_need o there (is_pure o) refl within

  inner_chain : (n : ℕ) (a b : Ref) → Chain (inner_needs m.body) n a b → Chain (needs d s) n (net [] a) (net [] b)
  inner_chain zero a b chain = ap (net []) chain
  inner_chain (suc n) a b chain = (net [] chain.0, inner_need a chain.0 chain.1, inner_chain n chain.0 b chain.2)

  pub inner_acyclic : HasNoCycle d s → IsAcyclic (inner_needs m.body)
  inner_acyclic acyclic a depends = acyclic (net [] a) (depends.0, inner_chain (suc depends.0) a a depends.1)
