-- No operation of an imported design is refused.
use Rattle.std.proofs.Common.{◌≡◌, ◌⊎◌, ℕ, suc, ◌+◌, ◌<◌, ◌≤◌, ◌==◌, pos, Bool, true, false, cond, not, ◌&&◌, ◌||◌, List, [], ◌∷◌, ◌++◌, map, length, Option, Some, None, is_some, option_map, refl}
use Rattle.std.proofs.Common.{sym, ap, ap₂, subst, ◌∙◌, inl, inr, arith, eq-eqb}
use Rattle.std.proofs.lemmas.Bool.{and_parts}
use Rattle.std.specs.Prelude.{nat_eq}
use Rattle.std.specs.List.{list_any}
use Rattle.std.specs.Cmp.Lexicographic.{pointwise}
use Rattle.std.proofs.lemmas.List.{map-append, length-map}
use Rattle.wiring.specs.Wiring.{In}
use Rattle.wiring.proofs.Members.{In-append_cases, map_same}
use Rattle.diag.specs.declared.cause.Cause.{Cause}
use Rattle.diag.specs.declared.cause.Cause.TheVariants as cause
use Rattle.hw_model.specs.Types.{HwType}
use Rattle.hw_model.specs.Types.HwType.{clock}
use Rattle.hw_model.specs.Kinds.{Variadic}
use Rattle.hw_model.specs.Kinds.Variadic.{and, xor}
use Rattle.hw_model.specs.Kinds.RegisterOp.{compreg}
use Rattle.hw_model.specs.Kinds.Reset.{no_reset}
use Rattle.hw_model.specs.Kinds.Kind.{variadic, constant, output, register}
use Rattle.hw_model.specs.Design.{Ref, Port, Op, Design, instance_in, is_output_op, callee}
use Rattle.hw_model.specs.Design.Ref.{port, result}
use Rattle.hw_model.specs.Flat.{async_reset_in}
use Rattle.hw_model.specs.Sound.{type_in, output_types}
use Rattle.hw_model.specs.SameType.{same_type}
use Rattle.type_inference.specs.ResultTypes.{result_type, result_types, result_count}
use Rattle.port_checks.specs.InstanceChecks.{instance_cause}
use Rattle.op_checks.specs.TypeLists.{differ}
use Rattle.op_checks.specs.TypeChecks.{is_outside, has_bad_field, has_clock_part, is_clock}
use Rattle.op_checks.specs.LiteralChecks.{is_out_of_range}
use Rattle.op_checks.specs.CountChecks.{operands_written, operand_count, type_count, has_miscounted_parts, has_wrong_operands, has_wrong_results, has_wrong_count}
use Rattle.op_checks.specs.LimitChecks.{of_type, has_type_outside, has_constant_outside, has_extract_outside, has_broken_copy, has_wide_concat, has_unknown_divisor, has_wrong_index, has_wrong_field}
use Rattle.op_checks.specs.LimitChecks.{has_unequal_widths, has_clock_operand, has_clock_value}
use Rattle.op_checks.specs.OperandChecks.{has_other_form, has_other_operand, has_other_result, has_mismatch}
use Rattle.op_checks.specs.OwnChecks.{cause_if, own_cause}
use Rattle.op_verifier.specs.Answers.{when, or_else}
use Rattle.op_verifier.specs.OpChecks.{has_again, has_undefined, has_other_outputs, divides_by_constant, alone_cause, op_cause, settled_type}
use Rattle.op_verifier.specs.ResetChecks.{has_other_reset, has_other_join}
use Rattle.op_verifier.specs.Faults.{op_refusal, is_empty, body_fault}
use Rattle.op_verifier.proofs.Unrefused.{NoOpCause}
use Rattle.aiger_laws.specs.declared.tree.Latch.{Latch}
use Rattle.aiger_laws.specs.Trees.{Aiger, variable, is_negated}
use Rattle.aiger_design.specs.Operations.{one_bit, bit_op, constant_op, inverter_op, register_op, output_op}
use Rattle.aiger_design.specs.Positions.{User, gate_user, output_user, users, is_inverted, inverter_count, variable_ref, plain_ref, operands}
use Rattle.aiger_design.specs.Built.{clock_ports, input_ports, output_ports, imported_ports, imported_body}
use Rattle.aiger_design.proofs.Operands.{IsDefined}
use Rattle.aiger_design.proofs.Fronts.{front, last_start, last_op, body_is, length-front, gate_user_in, output_user_in, of_front}
use Rattle.aiger_design.proofs.AcceptedValues.{IsBit, clock_there, true_bit, inverted_bit, operand_bits}

-- ---- no cause

none_of_all : (a b : Bool) (x : Option Cause) (c : Bool) (y : Option Cause) (e f g : Bool) → a ≡ false → b ≡ false → x ≡ None → c ≡ false → y ≡ None → e ≡ false → f ≡ false
    → g ≡ false
    → or_else (or_else (when a cause.Redefined) (when b cause.Undefined))
    (or_else x (or_else (or_else (when c cause.OutputMismatch) (or_else y (when e cause.MissingOutput))) (when (f || g) cause.AsyncReset))) ≡ None
none_of_all a b x c y e f g pa b_is px pc py pe pf pg = rw (pa, b_is, px, pc, py, pe, pf, pg) refl

-- an operation has no cause where it has none of the parts
no_cause : (d : Design) (ports : List Port) (os : List Op) (last : Bool) (o : Op) → NoOpCause d ports os last o → op_cause d ports os last o ≡ None
no_cause d ports os last o none =
    none_of_all (has_again o.results) (has_undefined ports os o.operands) (alone_cause ports os o) (has_other_outputs ports o) (instance_cause d o.types (instance_in o.kind))
    (is_output_op o && not last) (has_other_reset ports os (async_reset_in o)) (has_other_join d ports o.operands (callee d o))
    none.again none.defined none.alone none.outputs none.called none.ends none.reset none.join

-- ---- causes of the forms, by the types of their operands

constant_alone : (b known : Bool) → own_cause (constant (pos (cond b 1 0))) (one_bit ∷ []) (one_bit ∷ []) 1 [] known ≡ None
unfolding result_type result_types result_count is_outside is_out_of_range operands_written operand_count type_count has_miscounted_parts has_wrong_operands has_wrong_results has_wrong_count has_type_outside has_constant_outside has_extract_outside has_broken_copy has_wide_concat has_unknown_divisor has_wrong_index has_wrong_field has_unequal_widths has_clock_operand has_clock_value has_other_form has_other_operand has_other_result has_mismatch own_cause
constant_alone true known = refl
constant_alone false known = refl

variadic_alone : (v : Variadic) (known : Bool) → own_cause (variadic v) (one_bit ∷ []) (one_bit ∷ []) 1 (Some one_bit ∷ Some one_bit ∷ []) known ≡ None
unfolding result_type result_types result_count is_outside is_out_of_range operands_written operand_count type_count has_miscounted_parts has_wrong_operands has_wrong_results has_wrong_count has_type_outside has_constant_outside has_extract_outside has_broken_copy has_wide_concat has_unknown_divisor has_wrong_index has_wrong_field has_unequal_widths has_clock_operand has_clock_value has_other_form has_other_operand has_other_result has_mismatch own_cause
variadic_alone v known = refl

register_alone : (known : Bool) → own_cause (register compreg no_reset) (one_bit ∷ []) (one_bit ∷ []) 1 (Some one_bit ∷ Some clock ∷ []) known ≡ None
unfolding result_type result_types result_count is_outside is_out_of_range operands_written operand_count type_count has_miscounted_parts has_wrong_operands has_wrong_results has_wrong_count has_type_outside has_constant_outside has_extract_outside has_broken_copy has_wide_concat has_unknown_divisor has_wrong_index has_wrong_field has_unequal_widths has_clock_operand has_clock_value has_other_form has_other_operand has_other_result has_mismatch own_cause
register_alone known = refl

-- as many times one bit
abbrev bits : List ℕ → List HwType
bits ls = map (λ l. one_bit) ls

abbrev known_bits : List ℕ → List (Option HwType)
known_bits ls = map (λ l. Some one_bit) ls

none_of_bits : (test : HwType → Bool) → test one_bit ≡ false → (ls : List ℕ) → list_any test (bits ls) ≡ false
none_of_bits test is [] = refl
none_of_bits test is (l ∷ ls) = ap (λ b. b || list_any test (bits ls)) is ∙ none_of_bits test is ls

no_clock_known : (ls : List ℕ) → list_any (of_type is_clock) (known_bits ls) ≡ false
no_clock_known [] = refl
no_clock_known (l ∷ ls) = no_clock_known ls

same_known : (ls : List ℕ) → differ (known_bits ls) (map (λ (t : HwType). Some t) (bits ls)) ≡ false
same_known [] = refl
same_known (l ∷ ls) = same_known ls

no_cause_if : (a b c e f g h i : Bool) → a ≡ false → b ≡ false → c ≡ false → e ≡ false → f ≡ false → g ≡ false → h ≡ true → i ≡ true
    → cause_if (false || (a || false)) cause.TypeMismatch
    (cause_if (b || (false || false)) cause.WidthLimit
    (cause_if (c || false) cause.Field (cause_if (e || (f || g)) cause.ClockOperand (cause_if ((not h || not i) || (false || false)) cause.Arity None)))) ≡ None
no_cause_if a b c e f g h i a_is b_is c_is e_is f_is g_is h_is i_is = rw (a_is, b_is, c_is, e_is, f_is, g_is, h_is, i_is) refl

outside_one : is_outside one_bit ≡ false
unfolding is_outside
outside_one = refl

output_alone : (ls : List ℕ) (known : Bool) → own_cause output (bits ls) [] 0 (known_bits ls) known ≡ None
unfolding result_type result_types result_count is_out_of_range operands_written operand_count type_count has_miscounted_parts has_wrong_operands has_wrong_results has_wrong_count has_type_outside has_constant_outside has_extract_outside has_broken_copy has_wide_concat has_unknown_divisor has_wrong_index has_wrong_field has_unequal_widths has_clock_operand has_clock_value has_other_form has_other_operand has_other_result has_mismatch own_cause
output_alone ls known =
    no_cause_if (differ (known_bits ls) (map (λ (t : HwType). Some t) (bits ls))) (list_any is_outside (bits ls)) (list_any has_bad_field (bits ls)) (list_any has_clock_part (bits ls))
    (list_any is_clock (bits ls)) (list_any (of_type is_clock) (known_bits ls)) (nat_eq (length (known_bits ls)) (length (known_bits ls))) (nat_eq (length (bits ls)) (length (known_bits ls)))
    (same_known ls) (none_of_bits is_outside outside_one ls) (none_of_bits has_bad_field refl ls) (none_of_bits has_clock_part refl ls) (none_of_bits is_clock refl ls) (no_clock_known ls)
    (eq-eqb (length (known_bits ls)) (length (known_bits ls)) refl)
    (eq-eqb (length (bits ls)) (length (known_bits ls)) (length-map ls (λ l. one_bit) ∙ sym (length-map ls (λ l. Some one_bit))))

-- ---- operands

module _ {B : Type 0} (t : Aiger) (b : B) where
  -- there are as many operands as literals
  pub operands_as : (p : ℕ) (ls : List ℕ) → map (λ (r : Ref). b) (operands t p ls) ≡ map (λ (l : ℕ). b) ls
  operands_as p [] = refl
  operands_as p (l ∷ ls) = go (is_inverted l) (operands_as (suc p) ls) (operands_as p ls)
    where
      go : (c : Bool) → map (λ (r : Ref). b) (operands t (suc p) ls) ≡ map (λ (m : ℕ). b) ls → map (λ (r : Ref). b) (operands t p ls) ≡ map (λ (m : ℕ). b) ls
          → map (λ (r : Ref). b) (cond c (result p 0 ∷ operands t (suc p) ls) (plain_ref t l ∷ operands t p ls)) ≡ b ∷ map (λ (m : ℕ). b) ls
      go true behind beside = ap (λ xs. b ∷ xs) behind
      go false behind beside = ap (λ xs. b ∷ xs) beside

module _ (t : Aiger) where
  abbrev ports : List Port
  ports = imported_ports t

  abbrev whole : List Op
  whole = imported_body t

  no_undefined : (rs : List Ref) → ((r : Ref) → In r rs → is_some (type_in ports whole r) ≡ true) → has_undefined ports whole rs ≡ false
  no_undefined [] there = refl
  no_undefined (r ∷ rs) there = ap (λ b. cond b (has_undefined ports whole rs) true) (there r (inl refl)) ∙ no_undefined rs (λ s here. there s (inr here))

  settled_bits : (rs : List Ref) → ((r : Ref) → In r rs → IsBit t r) → map (settled_type ports whole) rs ≡ map (λ (r : Ref). Some one_bit) rs
  settled_bits rs of_bits = map_same (settled_type ports whole) (λ r. Some one_bit) rs (λ r here. (of_bits r here).settled)

  is_there : (r : Ref) → IsBit t r → is_some (type_in ports whole r) ≡ true
  is_there r bit = ap is_some bit.is

  module _ (d : Design) where
    -- an operation has no cause, whether it is the last or not
    abbrev pub IsFine : Op → Type 0
    IsFine o = (last : Bool) → op_cause d ports whole last o ≡ None

    constant_fine : (b : Bool) → IsFine (constant_op b)
    constant_fine b last =
        no_cause d ports whole last (constant_op b)
        (record { again = refl; defined = refl; alone = constant_alone b (divides_by_constant whole []); outputs = refl; called = refl; ends = refl; reset = refl; join = refl })

    variadic_fine : (v : Variadic) (rs : List Ref) → map (λ (r : Ref). Some one_bit) rs ≡ Some one_bit ∷ Some one_bit ∷ [] → ((r : Ref) → In r rs → IsBit t r) → IsFine (bit_op (variadic v) rs)
    variadic_fine v rs two of_bits last =
        no_cause d ports whole last (bit_op (variadic v) rs)
        (record {
          again = refl;
          defined = no_undefined rs (λ r here. is_there r (of_bits r here));
          alone = ap (λ xs. own_cause (variadic v) (one_bit ∷ []) (one_bit ∷ []) 1 xs (divides_by_constant whole rs)) (settled_bits rs of_bits ∙ two) ∙ variadic_alone v (divides_by_constant whole rs);
          outputs = refl;
          called = refl;
          ends = refl;
          reset = refl;
          join = refl;
        })

    register_fine : (k : ℕ) (rs : List Ref) → map (λ (r : Ref). Some one_bit) rs ≡ Some one_bit ∷ [] → ((r : Ref) → In r rs → IsBit t r)
        → type_in ports whole (port 0) ≡ Some clock → settled_type ports whole (port 0) ≡ Some clock → IsFine (register_op k rs)
    register_fine k rs one of_bits clocked settled last =
        no_cause d ports whole last (register_op k rs)
        (record {
          again = refl;
          defined = no_undefined (rs ++ port 0 ∷ []) (λ r here. there r (In-append_cases r rs (port 0 ∷ []) here));
          alone = ap (λ xs. own_cause (register compreg no_reset) (one_bit ∷ []) (one_bit ∷ []) 1 xs (divides_by_constant whole (rs ++ port 0 ∷ []))) types
              ∙ register_alone (divides_by_constant whole (rs ++ port 0 ∷ []));
          outputs = refl;
          called = refl;
          ends = refl;
          reset = refl;
          join = refl;
        })
      where
        there : (r : Ref) → In r rs ⊎ In r (port 0 ∷ []) → is_some (type_in ports whole r) ≡ true
        there r (inl here) = is_there r (of_bits r here)
        there r (inr (inl same)) = ap (λ s. is_some (type_in ports whole s)) same ∙ ap is_some clocked
        there r (inr (inr never)) = absurd never

        types : map (settled_type ports whole) (rs ++ port 0 ∷ []) ≡ Some one_bit ∷ Some clock ∷ []
        types =
            map-append (settled_type ports whole) rs (port 0 ∷ []) ∙ ap₂ (λ xs x. xs ++ x ∷ []) (settled_bits rs of_bits ∙ one) settled

    -- ---- the output

    output_types_are : output_types ports ≡ bits t.outputs
    output_types_are = of_clock t.latches
      where
        of_outputs : (k : ℕ) (ls : List ℕ) → output_types (output_ports k ls) ≡ bits ls
        of_outputs k [] = refl
        of_outputs k (l ∷ ls) = ap (λ ts. one_bit ∷ ts) (of_outputs (suc k) ls)

        of_inputs : (k : ℕ) (ls : List ℕ) → output_types (input_ports k ls ++ output_ports 0 t.outputs) ≡ bits t.outputs
        of_inputs k [] = of_outputs 0 t.outputs
        of_inputs k (l ∷ ls) = of_inputs (suc k) ls

        of_clock : (ls : List Latch) → output_types (clock_ports ls ++ (input_ports 0 t.inputs ++ output_ports 0 t.outputs)) ≡ bits t.outputs
        of_clock [] = of_inputs 0 t.inputs
        of_clock (l ∷ ls) = of_inputs 0 t.inputs

    same_bits : (ls : List ℕ) → pointwise same_type (bits ls) (bits ls) ≡ true
    same_bits [] = refl
    same_bits (l ∷ ls) = same_bits ls

    output_fine : (rs : List Ref) → map (λ (r : Ref). Some one_bit) rs ≡ known_bits t.outputs → map (λ (r : Ref). one_bit) rs ≡ bits t.outputs → ((r : Ref) → In r rs → IsBit t r)
        → op_cause d ports whole true (output_op rs) ≡ None
    output_fine rs known types of_bits =
        no_cause d ports whole true (output_op rs)
        (record {
          again = refl;
          defined = no_undefined rs (λ r here. is_there r (of_bits r here));
          alone = ap₂ (λ ts xs. own_cause output ts [] 0 xs (divides_by_constant whole rs)) types (settled_bits rs of_bits ∙ known) ∙ output_alone t.outputs (divides_by_constant whole rs);
          outputs = ap₂ (λ ts us. not (pointwise same_type ts us)) types output_types_are ∙ ap not (same_bits t.outputs);
          called = refl;
          ends = refl;
          reset = refl;
          join = refl;
        })

    -- ---- the body

    module _ (defined : IsDefined t) where
      front_fine : (o : Op) → In o (front t) → IsFine o
      front_fine = of_front t IsFine
          (record {
            of_constants = constant_fine;
            of_inverters = λ u here l within is. inverter_fine u here l within is;
            of_registers = λ k l low u here are p within. latch_fine k l low u here are p within;
            of_gates = λ g here p within.
                variadic_fine and (operands t p (g.left ∷ g.right ∷ [])) (operands_as t (Some one_bit) p (g.left ∷ g.right ∷ []))
                (operand_bits t (gate_user g) (gate_user_in t g here) (λ l among. defined.used (gate_user g) l (gate_user_in t g here) among) p (g.left ∷ g.right ∷ []) (λ l among. among) within);
          })
        where
          inverter_fine : (u : User) → In u (users t) → (l : ℕ) → In l u.literals → is_inverted l ≡ true → IsFine (inverter_op (variable_ref t (variable l)))
          inverter_fine u here l within is = variadic_fine xor (variable_ref t (variable l) ∷ result 0 0 ∷ []) refl both
            where
              both : (r : Ref) → In r (variable_ref t (variable l) ∷ result 0 0 ∷ []) → IsBit t r
              both r (inl same) = subst (IsBit t) (sym same) (inverted_bit t l (defined.used u l here within) is)
              both r (inr (inl same)) = subst (IsBit t) (sym same) (true_bit t u here l within (and_parts (is_negated l) (not (variable l == 0)) is).0)
              both r (inr (inr never)) = absurd never

          latch_fine : (k : ℕ) (l : Latch) → k < length t.latches → (u : User) → In u (users t) → u.literals ≡ l.next ∷ [] → (p : ℕ) → p + inverter_count (l.next ∷ []) ≤ length (front t)
              → IsFine (register_op k (operands t p (l.next ∷ [])))
          latch_fine k l low u here are p within =
              register_fine k (operands t p (l.next ∷ [])) (operands_as t (Some one_bit) p (l.next ∷ []))
              (operand_bits t u here (λ m among. defined.used u m here among) p (l.next ∷ []) (λ m among. subst (In m) (sym are) among) within)
              (clock_there t.latches (input_ports 0 t.inputs ++ output_ports 0 t.outputs) (omega (arith, low)))
              (clock_there t.latches (input_ports 0 t.inputs ++ output_ports 0 t.outputs) (omega (arith, low)))

      last_fine : op_cause d ports whole true (last_op t) ≡ None
      last_fine =
          let all : length (front t) ≡ last_start t + inverter_count t.outputs = length-front t in
          output_fine (operands t (last_start t) t.outputs) (operands_as t (Some one_bit) (last_start t) t.outputs) (operands_as t one_bit (last_start t) t.outputs)
          (operand_bits t (output_user t.outputs) (output_user_in t) (λ l among. defined.used (output_user t.outputs) l (output_user_in t) among) (last_start t) t.outputs (λ l among. among)
          (omega (arith, all)))

      faults_none : (os : List Op) (last : Op) → ((o : Op) → In o os → IsFine o) → op_cause d ports whole true last ≡ None → body_fault d ports whole (os ++ last ∷ []) ≡ None
      faults_none [] last fine ends = ap (λ c. or_else (option_map (op_refusal last) c) None) ends
      faults_none (o ∷ os) last fine ends =
          ap₂ (λ c x. or_else (option_map (op_refusal o) c) x) (fine o (inl refl) (is_empty (os ++ last ∷ []))) (faults_none os last (λ p here. fine p (inr here)) ends)

      -- no operation of the body is refused
      pub no_body_fault : body_fault d ports whole whole ≡ None
      no_body_fault = ap (body_fault d ports whole) (body_is t) ∙ faults_none (front t) (last_op t) front_fine last_fine
