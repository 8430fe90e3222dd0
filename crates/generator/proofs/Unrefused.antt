-- Nothing is refused of a generated design, one by one.
use Rattle.std.proofs.Common.{◌≡◌, ℕ, zero, suc, ◌+◌, ◌*◌, ◌/◌, ◌<◌, ◌≤◌, Bool, true, false, cond, not, List, [], ◌∷◌, ◌++◌, slice_get, Some, None, option_map, refl, sym, ap, ap₂, subst, ◌∙◌, inl, inr, arith}
use Rattle.wiring.specs.Wiring.{In}
use Rattle.wiring.proofs.Members.{position_of_In, In-slice_get}
use Rattle.diag.specs.declared.cause.Cause.TheVariants.{DuplicateSymbol, MissingOutput}
use Rattle.hw_model.specs.Kinds.{Kind}
use Rattle.hw_model.specs.Design.{Ref, Op, Module, Design}
use Rattle.hw_model.specs.Design.Ref.{port, result}
use Rattle.hw_model.specs.Flat.{async_parts, async_reset_in}
use Rattle.port_checks.specs.ResetPorts.{IsResetPort, is_reset_port}
use Rattle.port_checks.specs.ResetPorts.IsResetPort.{named, joined}
use Rattle.port_checks.proofs.Least.{called_module, is_sound}
use Rattle.op_checks.specs.TypeChecks.{is_outside}
use Rattle.op_verifier.specs.Answers.{when, or_else}
use Rattle.op_verifier.specs.Faults.{header_refusal, body_fault, module_fault, first_fault}
use Rattle.op_verifier.specs.Headers.{has_output, ports_cause, header_cause}
use Rattle.generator.specs.Draws.{state_after}
use Rattle.generator.specs.Generated.{generated_ports, word_op, first_ops, last_ops, generated}
use Rattle.op_verifier.proofs.NoFaults.{no_faults, none_before}
use Rattle.generator.proofs.ChosenKinds.{IsBinary}
use Rattle.generator.proofs.FirstOps.{first_kind, second_kind, third_kind, binary_first, binary_second, binary_third, has_output_rest}
use Rattle.generator.proofs.GeneratedModules.{made, made_at, at_made, distinct, found}
use Rattle.generator.proofs.OpCauses.{first_unrefused, next_unrefused}

-- ---- no register has an asynchronous reset

binary_op : (o : Op) (kind : Kind) (rs : List Ref) → o ≡ word_op kind rs → IsBinary kind → async_reset_in o ≡ None
binary_op o kind rs same is = ap async_reset_in same ∙ ap (λ b. cond b (async_parts rs) None) is.no_reset

no_async : (x k : ℕ) (o : Op) → In o (first_ops x ++ last_ops k) → async_reset_in o ≡ None
no_async x k o (inl same) = ap async_reset_in same
no_async x k o (inr (inl same)) = binary_op o (first_kind x) (port 2 ∷ port 3 ∷ []) same (binary_first x)
no_async x k o (inr (inr (inl same))) = binary_op o (second_kind x) (result 1 0 ∷ result 0 0 ∷ []) same (binary_second x)
no_async x k o (inr (inr (inr (inl same)))) = binary_op o (third_kind x) (result 2 0 ∷ result 1 0 ∷ []) same (binary_third x)
no_async x k o (inr (inr (inr (inr (inl same))))) = ap async_reset_in same
no_async x k o (inr (inr (inr (inr (inr later))))) = go k later
  where
    go : (k : ℕ) → In o (last_ops k) → async_reset_in o ≡ None
    go zero (inl same) = ap async_reset_in same
    go zero (inr (inl same)) = ap async_reset_in same
    go zero (inr (inr never)) = absurd never
    go (suc k) (inl same) = ap async_reset_in same
    go (suc k) (inr (inl same)) = ap async_reset_in same
    go (suc k) (inr (inr (inl same))) = ap async_reset_in same
    go (suc k) (inr (inr (inr never))) = absurd never

-- so no port is a reset port
never_reset : (d : Design) → ((m : Module) → In m d → (o : Op) → In o m.body → async_reset_in o ≡ None) → (m : Module) (j : ℕ) → In m d → IsResetPort d m j → ⊥
never_reset d none m j here (named _ _ o r is there reset signal) = let e : None ≡ Some r = sym (none m here o there) ∙ reset in cc
never_reset d none m j here (joined _ _ o c k is there found allowed has ref) = never_reset d none c k (called_module d o c found) has

module _ (seed n : ℕ) (few : n ≤ 10000) where
  abbrev design : Design
  design = generated seed n

  unreset : (m : Module) → In m design → (o : Op) → In o m.body → async_reset_in o ≡ None
  unreset m here o there =
      let position = position_of_In m design here in
      let is : m ≡ made seed n position.0 = (made_at seed n position.0 m position.1).1 in
      no_async (state_after seed (4 * position.0)) position.0 o (subst (λ (x : Module). In o x.body) is there)

  no_reset_port : (m : Module) → In m design → (j : ℕ) → is_reset_port design m j ≡ false
  no_reset_port m here j = go (is_reset_port design m j) refl
    where
      go : (b : Bool) → is_reset_port design m j ≡ b → is_reset_port design m j ≡ false
      go false is = is
      go true is = absurd (never_reset design unreset m j here (is_sound design m j is))

  -- ---- headers

  no_ports_cause : ports_cause generated_ports ≡ None
  unfolding is_outside
  no_ports_cause = refl

  some_output : (x k : ℕ) → has_output (first_ops x ++ last_ops k) ≡ true
  some_output x zero = has_output_rest x (last_ops zero)
  some_output x (suc k) = has_output_rest x (last_ops (suc k))

  no_header_cause : (i : ℕ) → slice_get design i ≡ Some (made seed n i) → header_cause design i (made seed n i) ≡ None
  no_header_cause i there =
      ap₂ (λ a b. or_else a b) no_ports_cause
      (ap₂ (λ a b. or_else (when a DuplicateSymbol) (when (not b) MissingOutput)) (none_before design (distinct seed n few) i (made seed n i) there)
      (some_output (state_after seed (4 * i)) i))

  -- ---- modules

  no_body_fault : (i : ℕ) → i < n → body_fault design generated_ports (made seed n i).body (made seed n i).body ≡ None
  no_body_fault zero low = first_unrefused design (state_after seed (4 * zero))
  no_body_fault (suc k) low =
      let half : k / 2 < n = omega arith in
      let there = found seed n few (k / 2) half in
      next_unrefused design (state_after seed (4 * suc k)) k (made seed n (k / 2)) there refl (no_reset_port (made seed n (k / 2)) (In-slice_get (made seed n (k / 2)) design (k / 2) (at_made seed n (k / 2) half)))

  no_module_fault : (i : ℕ) (m : Module) → slice_get design i ≡ Some m → module_fault design i m ≡ None
  no_module_fault i m there =
      let is = made_at seed n i m there in
      let same : m ≡ made seed n i = is.1 in
      let here : slice_get design i ≡ Some (made seed n i) = there ∙ ap Some same in
      ap (module_fault design i) same
      ∙ ap₂ (λ a b. or_else (option_map (header_refusal (made seed n i)) a) b) (no_header_cause i here) (no_body_fault i is.0)

  pub nothing_refused : first_fault design ≡ None
  nothing_refused = no_faults design 0 design (λ i m there. let same : 0 + i ≡ i = omega arith in ap (λ k. module_fault design k m) same ∙ no_module_fault i m there)
