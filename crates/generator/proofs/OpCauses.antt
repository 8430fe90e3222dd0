-- No operation of a generated module is refused.
use Rattle.std.proofs.Common.{◌≡◌, ℕ, zero, suc, ◌/◌, ◌<◌, ◌^◌, pos, Bool, true, false, cond, not, ◌&&◌, ◌||◌, List, [], ◌∷◌, ◌++◌, length, Option, Some, None, option_map, refl, ap, ap₂, ◌∙◌, option_and_then}
use Rattle.std.specs.Prelude.{slice_index_or}
use Rattle.std.proofs.lemmas.Bool.{lt-leb}
use Rattle.std.specs.Cmp.Lexicographic.{pointwise}
use Rattle.diag.specs.declared.cause.Cause.{Cause}
use Rattle.diag.specs.declared.cause.Cause.TheVariants.{Redefined, Undefined, OutputMismatch, MissingOutput, AsyncReset, ConstantRange, InstancePorts}
use Rattle.hw_model.specs.Types.{HwType}
use Rattle.hw_model.specs.Types.HwType.{int, clock}
use Rattle.hw_model.specs.Kinds.{Kind, Instance}
use Rattle.hw_model.specs.Kinds.Variadic.{xor}
use Rattle.hw_model.specs.Kinds.RegisterOp.{compreg}
use Rattle.hw_model.specs.Kinds.Reset.{sync_reset}
use Rattle.hw_model.specs.Kinds.Kind.{variadic, constant, instance, output, register}
use Rattle.hw_model.specs.Design.{Ref, Port, Op, Module, Design, find_module, instance_in, is_output_op, callee}
use Rattle.hw_model.specs.Design.Ref.{port, result}
use Rattle.hw_model.specs.Flat.{async_parts, async_reset_in, port_ref}
use Rattle.hw_model.specs.SameType.{same_type}
use Rattle.type_inference.specs.ResultTypes.{result_type, result_types, result_count}
use Rattle.port_checks.specs.InstanceChecks.{port_types, names_ports, call_cause, instance_cause}
use Rattle.port_checks.specs.ResetPorts.{is_reset_port}
use Rattle.op_checks.specs.TypeChecks.{is_outside}
use Rattle.op_checks.specs.LiteralChecks.{is_out_of_range}
use Rattle.op_checks.specs.CountChecks.{operands_written, operand_count, type_count, has_miscounted_parts, has_wrong_operands, has_wrong_results, has_wrong_count}
use Rattle.op_checks.specs.LimitChecks.{has_type_outside, has_constant_outside, has_extract_outside, has_broken_copy, has_wide_concat, has_unknown_divisor, has_wrong_index, has_wrong_field}
use Rattle.op_checks.specs.LimitChecks.{has_unequal_widths, has_clock_operand, has_clock_value}
use Rattle.op_checks.specs.OperandChecks.{has_other_form, has_other_operand, has_other_result, has_mismatch}
use Rattle.op_checks.specs.OwnChecks.{own_cause}
use Rattle.op_verifier.specs.Answers.{when, or_else}
use Rattle.op_verifier.specs.Faults.{op_refusal, is_empty, body_fault}
use Rattle.op_verifier.specs.OpChecks.{has_again, has_undefined, has_other_outputs, divides_by_constant, alone_cause, op_cause}
use Rattle.op_verifier.specs.ResetChecks.{has_other_reset, joins_other, has_other_join}
use Rattle.op_verifier.proofs.Unrefused.{NoOpCause}
use Rattle.generator.specs.Draws.{number_drawn}
use Rattle.generator.specs.Generated.{word, generated_ports, module_symbol, chosen_kind, word_op, register_op, instance_of_module, instance_op, xor_op, output_op, first_ops, last_ops}
use Rattle.generator.proofs.ChosenKinds.{IsBinary, binary_variadic, binary_chosen}
use Rattle.generator.proofs.FirstOps.{drawn_small, IsWord, word_a, word_b, word_constant, word_first, word_second, word_third, word_register, body, after_first, after_second, after_third}

-- ---- no cause

none_of_all : (a b : Bool) (x : Option Cause) (c : Bool) (y : Option Cause) (e f g : Bool) → a ≡ false → b ≡ false → x ≡ None → c ≡ false → y ≡ None → e ≡ false → f ≡ false
    → g ≡ false
    → or_else (or_else (when a Redefined) (when b Undefined))
    (or_else x (or_else (or_else (when c OutputMismatch) (or_else y (when e MissingOutput))) (when (f || g) AsyncReset))) ≡ None
none_of_all a b x c y e f g pa pb px pc py pe pf pg = rw (pa, pb, px, pc, py, pe, pf, pg) refl

-- an operation has no cause where it has none of the parts
no_cause : (d : Design) (ports : List Port) (os : List Op) (last : Bool) (o : Op) → NoOpCause d ports os last o → op_cause d ports os last o ≡ None
no_cause d ports os last o none =
    none_of_all (has_again o.results) (has_undefined ports os o.operands) (alone_cause ports os o) (has_other_outputs ports o) (instance_cause d o.types (instance_in o.kind))
    (is_output_op o && not last) (has_other_reset ports os (async_reset_in o)) (has_other_join d ports o.operands (callee d o))
    none.again none.defined none.alone none.outputs none.called none.ends none.reset none.join

-- ---- operations with two words for operands

not_undefined : (a b : Bool) → a ≡ true → b ≡ true → cond a (cond b false true) true ≡ false
not_undefined a b p q = rw (p, q) refl

pub binary_cause : (d : Design) (os : List Op) (last : Bool) (kind : Kind) (r s : Ref) → IsBinary kind → IsWord os r → IsWord os s
    → op_cause d generated_ports os last (word_op kind (r ∷ s ∷ [])) ≡ None
binary_cause d os last kind r s is left right =
    no_cause d generated_ports os last (word_op kind (r ∷ s ∷ []))
    (record {
      again = refl;
      defined = not_undefined _ _ left.there right.there;
      alone = ap₂ (λ t u. own_cause kind (word ∷ []) (word ∷ []) 1 (t ∷ u ∷ []) (divides_by_constant os (r ∷ s ∷ []))) left.settled right.settled ∙ is.own (divides_by_constant os (r ∷ s ∷ []));
      outputs = ap (λ b. b && not (pointwise same_type (word ∷ []) (port_types true generated_ports))) is.no_output;
      called = ap (instance_cause d (word ∷ [])) is.no_instance;
      ends = ap (λ b. b && not last) is.no_output;
      reset = ap (λ b. has_other_reset generated_ports os (cond b (async_parts (r ∷ s ∷ [])) None)) is.no_reset;
      join = ap (λ x. has_other_join d generated_ports (r ∷ s ∷ []) (option_and_then (λ (i : Instance). find_module d i.symbol) x)) is.no_instance;
    })

-- ---- constants

constant_alone : (n : ℕ) (known : Bool) → n < 2 ^ 16 → own_cause (constant (pos n)) (word ∷ []) (word ∷ []) 1 [] known ≡ None
unfolding result_type result_types result_count is_outside is_out_of_range operands_written operand_count type_count has_miscounted_parts has_wrong_operands has_wrong_results has_wrong_count has_type_outside has_constant_outside has_extract_outside has_broken_copy has_wide_concat has_unknown_divisor has_wrong_index has_wrong_field has_unequal_widths has_clock_operand has_clock_value has_other_form has_other_operand has_other_result has_mismatch own_cause
constant_alone n known small = ap (λ b. cond b (Some ConstantRange) None) (lt-leb (2 ^ 16) n small)

constant_cause : (d : Design) (os : List Op) (last : Bool) (n : ℕ) → n < 2 ^ 16 → op_cause d generated_ports os last (word_op (constant (pos n)) []) ≡ None
constant_cause d os last n small =
    no_cause d generated_ports os last (word_op (constant (pos n)) [])
    (record {
      again = refl;
      defined = refl;
      alone = constant_alone n (divides_by_constant os []) small;
      outputs = refl;
      called = refl;
      ends = refl;
      reset = refl;
      join = refl;
    })

-- ---- registers

register_alone : (known : Bool) → own_cause (register compreg sync_reset) (word ∷ []) (word ∷ []) 1 (Some word ∷ Some clock ∷ Some (int 1) ∷ Some word ∷ []) known ≡ None
unfolding result_type result_types result_count is_outside is_out_of_range operands_written operand_count type_count has_miscounted_parts has_wrong_operands has_wrong_results has_wrong_count has_type_outside has_constant_outside has_extract_outside has_broken_copy has_wide_concat has_unknown_divisor has_wrong_index has_wrong_field has_unequal_widths has_clock_operand has_clock_value has_other_form has_other_operand has_other_result has_mismatch own_cause
register_alone known = refl

register_cause : (d : Design) (os : List Op) (last : Bool) → IsWord os (result 3 0) → IsWord os (result 0 0) → op_cause d generated_ports os last register_op ≡ None
register_cause d os last next value =
    no_cause d generated_ports os last register_op
    (record {
      again = refl;
      defined = not_undefined _ _ next.there value.there;
      alone = ap₂ (λ t u. own_cause (register compreg sync_reset) (word ∷ []) (word ∷ []) 1 (t ∷ Some clock ∷ Some (int 1) ∷ u ∷ [])
          (divides_by_constant os (result 3 0 ∷ port 0 ∷ port 1 ∷ result 0 0 ∷ []))) next.settled value.settled
          ∙ register_alone (divides_by_constant os (result 3 0 ∷ port 0 ∷ port 1 ∷ result 0 0 ∷ []));
      outputs = refl;
      called = refl;
      ends = refl;
      reset = refl;
      join = refl;
    })

-- ---- instances

no_join : (resets : ℕ → Bool) → ((j : ℕ) → resets j ≡ false) → (ports : List Port) (joined : ℕ → Option Ref) (n : ℕ) → joins_other resets ports joined n ≡ false
no_join resets none ports joined zero = refl
no_join resets none ports joined (suc n) = rw (no_join resets none ports joined n, none n) refl

abbrev call_types : List HwType
call_types = clock ∷ int 1 ∷ word ∷ word ∷ word ∷ []

abbrev call_operands : List Ref
call_operands = port 0 ∷ port 1 ∷ result 4 0 ∷ result 3 0 ∷ []

instance_alone : (j : ℕ) (known : Bool)
    → own_cause (instance (instance_of_module j)) call_types (word ∷ []) 1 (Some clock ∷ Some (int 1) ∷ Some word ∷ Some word ∷ []) known ≡ None
unfolding result_type result_types result_count is_outside is_out_of_range operands_written operand_count type_count has_miscounted_parts has_wrong_operands has_wrong_results has_wrong_count has_type_outside has_constant_outside has_extract_outside has_broken_copy has_wide_concat has_unknown_divisor has_wrong_index has_wrong_field has_unequal_widths has_clock_operand has_clock_value has_other_form has_other_operand has_other_result has_mismatch own_cause
instance_alone j known = refl

instance_cause_none : (d : Design) (os : List Op) (last : Bool) (j : ℕ) (m : Module) → IsWord os (result 4 0) → IsWord os (result 3 0)
    → find_module d (module_symbol j) ≡ Some m → m.ports ≡ generated_ports → ((n : ℕ) → is_reset_port d m n ≡ false)
    → op_cause d generated_ports os last (instance_op j) ≡ None
instance_cause_none d os last j m a b found ports none =
    no_cause d generated_ports os last (instance_op j)
    (record {
      again = refl;
      defined = not_undefined _ _ a.there b.there;
      alone = ap₂ (λ t u. own_cause (instance (instance_of_module j)) call_types (word ∷ []) 1 (Some clock ∷ Some (int 1) ∷ t ∷ u ∷ []) (divides_by_constant os call_operands)) a.settled b.settled
          ∙ instance_alone j (divides_by_constant os call_operands);
      outputs = refl;
      called = ap (call_cause (instance_of_module j) call_types) found ∙ ap (λ ps. when (not (names_ports (instance_of_module j) call_types ps)) InstancePorts) ports;
      ends = refl;
      reset = refl;
      join = ap (has_other_join d generated_ports call_operands) found ∙ no_join (is_reset_port d m) none generated_ports (port_ref m.ports call_operands) (length m.ports);
    })

-- ---- the output

output_alone : (known : Bool) → own_cause output (word ∷ []) [] 0 (Some word ∷ []) known ≡ None
unfolding result_type result_types result_count is_outside is_out_of_range operands_written operand_count type_count has_miscounted_parts has_wrong_operands has_wrong_results has_wrong_count has_type_outside has_constant_outside has_extract_outside has_broken_copy has_wide_concat has_unknown_divisor has_wrong_index has_wrong_field has_unequal_widths has_clock_operand has_clock_value has_other_form has_other_operand has_other_result has_mismatch own_cause
output_alone known = refl

output_cause : (d : Design) (os : List Op) (i : ℕ) → IsWord os (result i 0) → op_cause d generated_ports os true (output_op i) ≡ None
output_cause d os i is =
    no_cause d generated_ports os true (output_op i)
    (record {
      again = refl;
      defined = ap (λ b. cond b false true) is.there;
      alone = ap (λ t. own_cause output (word ∷ []) [] 0 (t ∷ []) (divides_by_constant os (result i 0 ∷ []))) is.settled ∙ output_alone (divides_by_constant os (result i 0 ∷ []));
      outputs = refl;
      called = refl;
      ends = refl;
      reset = refl;
      join = refl;
    })

-- ---- bodies

one_more : (d : Design) (whole : List Op) (o : Op) (os : List Op) → op_cause d generated_ports whole (is_empty os) o ≡ None → body_fault d generated_ports whole os ≡ None
    → body_fault d generated_ports whole (o ∷ os) ≡ None
one_more d whole o os here rest = ap₂ (λ c x. or_else (option_map (op_refusal o) c) x) here rest

-- none of the operations that a module has first
first_causes : (d : Design) (x : ℕ) (o : Op) (rest : List Op) → body_fault d generated_ports (first_ops x ++ o ∷ rest) (o ∷ rest) ≡ None
    → body_fault d generated_ports (first_ops x ++ o ∷ rest) (first_ops x ++ o ∷ rest) ≡ None
first_causes d x o rest after =
    let whole : List Op = body x (o ∷ rest) in
    let first : List Op = after_first x (o ∷ rest) in
    let second : List Op = after_second x (o ∷ rest) in
    let third : List Op = after_third x (o ∷ rest) in
    one_more d whole (word_op (constant (pos (number_drawn x 1))) []) (word_op (chosen_kind (number_drawn x 2)) (port 2 ∷ port 3 ∷ []) ∷ first)
    (constant_cause d whole false (number_drawn x 1) (drawn_small x 0))
    (one_more d whole (word_op (chosen_kind (number_drawn x 2)) (port 2 ∷ port 3 ∷ [])) first
    (binary_cause d whole false (chosen_kind (number_drawn x 2)) (port 2) (port 3) (binary_chosen (number_drawn x 2)) (word_a x (o ∷ rest)) (word_b x (o ∷ rest)))
    (one_more d whole (word_op (chosen_kind (number_drawn x 3)) (result 1 0 ∷ result 0 0 ∷ [])) second
    (binary_cause d whole false (chosen_kind (number_drawn x 3)) (result 1 0) (result 0 0) (binary_chosen (number_drawn x 3)) (word_first x (o ∷ rest)) (word_constant x (o ∷ rest)))
    (one_more d whole (word_op (chosen_kind (number_drawn x 4)) (result 2 0 ∷ result 1 0 ∷ [])) third
    (binary_cause d whole false (chosen_kind (number_drawn x 4)) (result 2 0) (result 1 0) (binary_chosen (number_drawn x 4)) (word_second x (o ∷ rest)) (word_first x (o ∷ rest)))
    (one_more d whole register_op (o ∷ rest) (register_cause d whole false (word_third x (o ∷ rest)) (word_constant x (o ∷ rest))) after))))

-- ---- the two bodies

-- the xor is the operation of its number, and gives a word
word_xor_first : (x : ℕ) → IsWord (first_ops x ++ last_ops zero) (result 5 0)
word_xor_first x = record { there = refl; settled = ap (λ ts. slice_index_or ts 0 None) (binary_variadic xor).settles }

word_xor_next : (x k : ℕ) → IsWord (first_ops x ++ last_ops (suc k)) (result 6 0)
word_xor_next x k = record { there = refl; settled = ap (λ ts. slice_index_or ts 0 None) (binary_variadic xor).settles }

word_call : (x k : ℕ) → IsWord (first_ops x ++ last_ops (suc k)) (result 5 0)
unfolding result_types
word_call x k = record { there = refl; settled = refl }

pub first_unrefused : (d : Design) (x : ℕ) → body_fault d generated_ports (first_ops x ++ last_ops zero) (first_ops x ++ last_ops zero) ≡ None
first_unrefused d x =
    let whole : List Op = first_ops x ++ last_ops zero in
    first_causes d x (xor_op 4) (output_op 5 ∷ [])
    (one_more d whole (xor_op 4) (output_op 5 ∷ [])
    (binary_cause d whole false (variadic xor) (result 4 0) (result 2 0) (binary_variadic xor) (word_register x (last_ops zero)) (word_second x (last_ops zero)))
    (one_more d whole (output_op 5) [] (output_cause d whole 5 (word_xor_first x)) refl))

pub next_unrefused : (d : Design) (x k : ℕ) (m : Module) → find_module d (module_symbol (k / 2)) ≡ Some m → m.ports ≡ generated_ports
    → ((n : ℕ) → is_reset_port d m n ≡ false)
    → body_fault d generated_ports (first_ops x ++ last_ops (suc k)) (first_ops x ++ last_ops (suc k)) ≡ None
next_unrefused d x k m found ports none =
    let whole : List Op = first_ops x ++ last_ops (suc k) in
    first_causes d x (instance_op (k / 2)) (xor_op 5 ∷ output_op 6 ∷ [])
    (one_more d whole (instance_op (k / 2)) (xor_op 5 ∷ output_op 6 ∷ [])
    (instance_cause_none d whole false (k / 2) m (word_register x (last_ops (suc k))) (word_third x (last_ops (suc k))) found ports none)
    (one_more d whole (xor_op 5) (output_op 6 ∷ [])
    (binary_cause d whole false (variadic xor) (result 5 0) (result 2 0) (binary_variadic xor) (word_call x k) (word_second x (last_ops (suc k))))
    (one_more d whole (output_op 6) [] (output_cause d whole 6 (word_xor_next x k)) refl)))
