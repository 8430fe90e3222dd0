-- Operations without a cause fit.
use Rattle.std.proofs.Common.{◌≡◌, ℕ, ◌+◌, ◌≤◌, max, Bool, false, List, length, take, drop, length-drop, sym, ap, ◌∙◌, arith}
use Rattle.std.specs.Prelude.{Option, Some, None, slice_get}
use Rattle.hw_model.specs.Types.{HwType, width}
use Rattle.hw_model.specs.Kinds.{Kind, Instance}
use Rattle.hw_model.specs.Kinds.ArrayOp.{array_create, array_concat, array_get, array_slice, array_inject}
use Rattle.hw_model.specs.Kinds.StructOp.{struct_create, struct_extract, struct_inject, struct_explode}
use Rattle.hw_model.specs.Kinds.Reset.{sync_reset}
use Rattle.hw_model.specs.Kinds.RegisterOp.{compreg, compreg_ce, firreg}
use Rattle.hw_model.specs.Kinds.Kind.{variadic, sub, division, shift, icmp, parity, extract, concat, replicate, mux, constant, aggregate_constant, on_array, on_struct, bitcast, wire, instance, output, register, async_firreg}
use Rattle.hw_model.specs.Sound.{Fits}
use Rattle.type_inference.specs.ResultTypes.{first_type, second_type, result_type, result_types, result_count}
use Rattle.op_checks.specs.TypeLists.{known_types}
use Rattle.op_checks.specs.OperandChecks.{has_other_form, has_other_operand}
use Rattle.op_checks.specs.LimitChecks.{has_extract_outside, has_broken_copy, has_wide_concat, are_unequal, has_unequal_widths}
use Rattle.op_checks.specs.CountChecks.{operands_written, operand_count, type_count, has_miscounted_parts}
use Rattle.op_checks.specs.OwnChecks.{own_cause}
use Rattle.op_checks.proofs.Agreeing.{same_number, pairwise_agreed, prefix_agreed}
use Rattle.op_checks.proofs.FitArrays.{creation, joining, element, slicing, injection}
use Rattle.op_checks.proofs.NoOwnCause.{NoOwnCause, no_settled_cause}
use Rattle.op_checks.proofs.FitStructs.{aggregate, construction, selection, exchange, explosion, plain_register, enabled_register, without_results}
use Rattle.op_checks.proofs.FitIntegers.{variadic_fits, binary, unary, comparison, parities, extraction, replication, concatenation, choice, recast, none_left}

-- the widths of two types that are there
equal_widths : (x y : Option HwType) (u v : HwType) → are_unequal x y ≡ false → x ≡ Some u → y ≡ Some v → width u ≡ width v
equal_widths (Some t) (Some s) u v h p q =
    let a = same_number (width t) (width s) h in
    let b : t ≡ u = cc in
    let c : s ≡ v = cc in cc
equal_widths None y u v h p q = cc
equal_widths (Some t) None u v h p q = cc

some_joined : (m n : ℕ) → n ≡ max 1 n → m ≡ n → 1 ≤ m
some_joined m n h e = omega arith

fits_by : {named : ℕ} {is_known : Bool} (kind : Kind) (ts rs us : List HwType) → NoOwnCause kind ts rs named (length us) (known_types us) is_known → (k : ℕ) (t : HwType) → slice_get rs k ≡ Some t → Fits kind ts (known_types us) t k
unfolding has_other_form has_other_operand operands_written operand_count type_count result_type result_types result_count has_extract_outside has_broken_copy has_wide_concat has_unequal_widths has_miscounted_parts
fits_by (variadic v) ts rs us h k t e = variadic_fits ts rs us k t h.types h.results h.operand h.result e
fits_by sub ts rs us h k t e = binary ts rs us k t h.types h.results h.operands h.operand h.result e
fits_by (division d) ts rs us h k t e = binary ts rs us k t h.types h.results h.operands h.operand h.result e
fits_by (shift s) ts rs us h k t e = binary ts rs us k t h.types h.results h.operands h.operand h.result e
fits_by (icmp p) ts rs us h k t e = comparison ts rs us k t h.types h.results h.operands h.operand h.result e
fits_by parity ts rs us h k t e = parities ts rs us k t h.types h.results h.operands h.operand h.result e
fits_by (extract low) ts rs us h k t e = extraction low ts rs us k t h.types h.results h.operands h.form h.operand h.extract h.result e
fits_by concat ts rs us h k t e = concatenation ts rs us k t (sym h.types) h.results h.form h.operand h.wide h.result e
fits_by replicate ts rs us h k t e = replication ts rs us k t h.types h.results h.operands h.form h.operand h.copy h.result e
fits_by mux ts rs us h k t e = choice ts rs us k t h.types h.results h.operands h.operand h.result e
fits_by (constant z) ts rs us h k t e = none_left us h.operands
fits_by (aggregate_constant ls) ts rs us h k t e = aggregate ls ts rs us k t h.types h.operands h.results h.operand h.parts h.result e
fits_by (on_array array_create) ts rs us h k t e = creation ts rs us k t h.types h.results h.operand h.array h.result e
fits_by (on_array array_concat) ts rs us h k t e = joining ts rs us k t (some_joined (length ts) (length us) h.operands h.types) (sym h.types) h.results h.form h.operand h.array h.result e
fits_by (on_array array_get) ts rs us h k t e = element ts rs us k t h.types h.operands h.results h.form h.operand h.result e
fits_by (on_array array_slice) ts rs us h k t e = slicing ts rs us k t h.types h.operands h.results h.form h.operand h.result e
fits_by (on_array array_inject) ts rs us h k t e = injection ts rs us k t h.types h.operands h.results h.form h.operand h.result e
fits_by (on_struct struct_create) ts rs us h k t e = construction ts rs us k t h.types h.operands h.results h.form h.operand h.result e
fits_by (on_struct (struct_extract name)) ts rs us h k t e = selection name ts rs us k t h.types h.operands h.results h.form h.operand h.field h.result e
fits_by (on_struct (struct_inject name)) ts rs us h k t e = exchange name ts rs us k t h.types h.operands h.results h.form h.operand h.field h.result e
fits_by (on_struct struct_explode) ts rs us h k t e = explosion ts rs us k t h.types h.operands h.results h.form h.operand h.result e
fits_by bitcast ts rs us h k t e = recast ts rs us k t h.types h.results h.operands h.operand (λ u v. equal_widths (first_type ts) (second_type ts) u v h.widths) h.result e
fits_by wire ts rs us h k t e = unary ts rs us k t h.types h.results h.operands h.operand h.result e
fits_by (instance i) ts rs us h k t e = tt
fits_by output ts rs us h k t e = without_results rs k t h.results e
fits_by (register compreg r) ts rs us h k t e = plain_register r ts rs us k t h.types h.operands h.results h.operand h.result e
fits_by (register compreg_ce r) ts rs us h k t e = enabled_register r ts rs us k t h.types h.operands h.results h.operand h.result e
fits_by (register firreg r) ts rs us h k t e = plain_register r ts rs us k t h.types h.operands h.results h.operand h.result e
fits_by async_firreg ts rs us h k t e = plain_register sync_reset ts rs us k t h.types h.operands h.results h.operand h.result e

pub fits : (kind : Kind) (ts rs : List HwType) (named : ℕ) (us : List HwType) (is_known : Bool) → own_cause kind ts rs named (known_types us) is_known ≡ None
    → (k : ℕ) (t : HwType) → slice_get rs k ≡ Some t → Fits kind ts (known_types us) t k
fits kind ts rs named us is_known h = fits_by kind ts rs us (no_settled_cause kind ts rs named us is_known h)

-- an instance's operands and results have its written types
instance_by : {named : ℕ} {is_known : Bool} (i : Instance) (ts rs us : List HwType) → NoOwnCause (instance i) ts rs named (length us) (known_types us) is_known → (us ≡ take (length i.inputs) ts) × (rs ≡ drop (length i.inputs) ts)
unfolding has_other_operand operands_written operand_count type_count result_types result_count
instance_by i ts rs us h =
    let n : length us ≡ length i.inputs = h.operands in
    let l : length us ≤ length ts = at_most (length us) (length i.inputs) (length i.outputs) (length ts) n h.types in
    let m : length rs ≡ length (drop (length i.inputs) ts) = h.results ∙ sym (length-drop (length i.inputs) ts) in
    (prefix_agreed us ts l h.operand ∙ ap (λ (c : ℕ). take c ts) n, pairwise_agreed rs (drop (length i.inputs) ts) m h.result)
  where
    at_most : (a b c d : ℕ) → a ≡ b → d ≡ b + c → a ≤ d
    at_most a b c d e f = omega arith

pub instance_types : (i : Instance) (ts rs : List HwType) (named : ℕ) (us : List HwType) (is_known : Bool)
    → own_cause (instance i) ts rs named (known_types us) is_known ≡ None → (us ≡ take (length i.inputs) ts) × (rs ≡ drop (length i.inputs) ts)
instance_types i ts rs named us is_known h = instance_by i ts rs us (no_settled_cause (instance i) ts rs named us is_known h)

-- an output's operands have its written types
output_by : {named : ℕ} {is_known : Bool} (ts rs us : List HwType) → NoOwnCause output ts rs named (length us) (known_types us) is_known → us ≡ ts
unfolding has_other_operand type_count
output_by ts rs us h = pairwise_agreed us ts (sym h.types) h.operand

pub output_types : (ts rs : List HwType) (named : ℕ) (us : List HwType) (is_known : Bool) → own_cause output ts rs named (known_types us) is_known ≡ None → us ≡ ts
output_types ts rs named us is_known h = output_by ts rs us (no_settled_cause output ts rs named us is_known h)
