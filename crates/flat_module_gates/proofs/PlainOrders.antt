-- The operations of a flat module have an order: the heights of their results are ranks.
use Rattle.std.proofs.Common.{◌≡◌, refl, sym, ap, subst, ◌∙◌, ℕ, ◌<◌, ◌≤◌, true, false, List, [], map, length, Some, slice_get, inl, inr, arith, option_map}
use Rattle.std.proofs.lemmas.Option.{slice_get_within}
use Rattle.wiring.specs.Wiring.{In}
use Rattle.wiring.proofs.Heights.{FallsAlong-height}
use Rattle.wiring.proofs.Members.{In-map}
use Rattle.wiring.proofs.Options.{and_then_some, option_map_some}
use Rattle.hw_model.specs.Types.{Name, HwType}
use Rattle.hw_model.specs.Design.{OpResult, Op, Module, Design, is_register, is_output_op, result_type}
use Rattle.hw_model.specs.Design.Ref.{result}
use Rattle.hw_model.specs.Flat.{net, made_of}
use Rattle.hw_model.specs.Meaning.{needs_of, needs}
use Rattle.hw_model.proofs.Paths.{op_in, result_in}
use Rattle.flat_module_laws.specs.Sides.{IsPlain}
use Rattle.flat_module_laws.proofs.FlatBodies.{plain_heights, plain_no_instance, plain_operand_there}
use Rattle.flat_module_laws.proofs.FlatSources.{plain_result}
use Rattle.flat_module_gates.specs.Orders.{HasOrder}
use Rattle.flat_module_gates.proofs.Linking.{HasOne}
use Rattle.flat_module_gates.proofs.SingleResults.{plain_is_single}
use Rattle.flat_module_gates.proofs.Orders.{ranked_order}

-- ---- an operation with one result, or an output

one_at_most : (o : Op) → HasOne o → length o.results ≤ 1
one_at_most o (inl (given, none)) = let n : length o.results ≡ 0 = ap length none in omega (arith, n)
one_at_most o (inr (r, one, given)) = let n : length o.results ≡ 1 = ap length one in omega (arith, n)

first_typed : (o : Op) → HasOne o → is_output_op o ≡ false → (t : HwType) × (result_type o 0 ≡ Some t)
first_typed o (inl (given, none)) other = absurd (let no : true ≡ false = sym given ∙ other in let never : ⊥ = cc in never)
first_typed o (inr (r, one, given)) other = (r.type, ap (λ (rs : List OpResult). option_map (λ (x : OpResult). x.type) (slice_get rs 0)) one)

module _ (d : Design) (top : Name) (m : Module) (plain : IsPlain d top m) where
  -- the height of an operation's first result
  abbrev rank : ℕ → ℕ
  rank i = (plain_heights d top m plain).0 (net [] (result i 0))

  module _ (i : ℕ) (o : Op) (at : slice_get m.body i ≡ Some o) (r : is_register o ≡ false) (u : is_output_op o ≡ false) where
    -- it needs its operands
    needs_operands : needs d top (net [] (result i 0)) ≡ map (net []) o.operands
    needs_operands =
        let alone = plain_no_instance d top m plain i o at in
        let first = first_typed o (plain_is_single d top m plain i o at) u in
        let made : op_in d top [] m.body i 0 o ≡ made_of [] o 0 (result_type o 0) = simp (r, alone, u) refl in
        ap needs_of (plain_result d top m plain i 0 ∙ ap (result_in d top [] m.body i 0) at ∙ made ∙ ap (made_of [] o 0) first.1)

    takes_lower : (j k : ℕ) → In (result j k) o.operands → (j < length m.body) × (rank j < rank i)
    takes_lower j k here =
        let there = plain_operand_there d top m plain i o at (result j k) here in
        let found = and_then_some (slice_get m.body j) (λ (p : Op). result_type p k) there.1 in
        let one = option_map_some (λ (x : OpResult). x.type) (slice_get found.0.results k) found.2 in
        let below : k < length found.0.results = slice_get_within found.0.results k one.0 one.1 in
        let few : length found.0.results ≤ 1 = one_at_most found.0 (plain_is_single d top m plain j found.0 found.1) in
        let first : k ≡ 0 = omega (arith, below, few) in
        let listed = In-map (net []) (result j 0) o.operands (subst (λ n. In (result j n) o.operands) first here) in (
          slice_get_within m.body j found.0 found.1,
          FallsAlong-height (needs d top) (plain_heights d top m plain).0 (plain_heights d top m plain).1 (net [] (result i 0)) (net [] (result j 0))
              (subst (In (net [] (result j 0))) (sym needs_operands) listed),
        )

pub plain_has_order : (d : Design) (top : Name) (m : Module) → IsPlain d top m → HasOrder m.body
plain_has_order d top m plain = ranked_order m.body (rank d top m plain) (λ i o at r u j k here. takes_lower d top m plain i o at r u j k here)
