-- Kinds of operations that are made of their operands, have one result and are no constants.
use Rattle.std.proofs.Common.{◌≡◌, ℕ, Bool, true, false, cond, List, [], ◌∷◌, refl}
use Rattle.std.specs.Prelude.{is_some}
use Rattle.hw_model.specs.Types.{HwType}
use Rattle.hw_model.specs.Kinds.{Kind}
use Rattle.hw_model.specs.Kinds.StructOp.{struct_explode}
use Rattle.hw_model.specs.Kinds.Kind.{constant, aggregate_constant, on_struct, instance, output, register, async_firreg}
use Rattle.hw_model.specs.Design.{instance_in, register_form, is_output_kind}
use Rattle.hw_model.specs.Resets.{is_constant}
use Rattle.type_inference.specs.ResultTypes.{result_type as type_of_result, result_types}
use Rattle.op_verifier.specs.OpChecks.{is_nonzero_kind}

-- whether a kind is such a one
abbrev pub is_made : Kind → Bool
is_made (constant z) = false
is_made (aggregate_constant ls) = false
is_made (on_struct struct_explode) = false
is_made (instance i) = false
is_made output = false
is_made (register f r) = false
is_made async_firreg = false
is_made _ = true

-- whether a kind is a register, an instance or an output
abbrev pub anchors_kind : Kind → Bool
anchors_kind kind = cond (is_some (register_form kind)) true (cond (is_some (instance_in kind)) true (is_output_kind kind))

pub made_plain : (kind : Kind) → is_made kind ≡ true → anchors_kind kind ≡ false
made_plain (instance i) is = cc
made_plain output is = cc
made_plain (register f r) is = cc
made_plain async_firreg is = cc
made_plain _ is = refl

pub made_no_constant : (kind : Kind) → is_made kind ≡ true → is_constant kind ≡ false
made_no_constant (constant z) is = cc
made_no_constant (aggregate_constant ls) is = cc
made_no_constant _ is = refl

pub made_no_number : (kind : Kind) → is_made kind ≡ true → is_nonzero_kind kind ≡ false
made_no_number (constant z) is = cc
made_no_number _ is = refl

pub made_one_result : (kind : Kind) (ts : List HwType) (n : ℕ) → is_made kind ≡ true → result_types kind ts n ≡ type_of_result kind ts n ∷ []
unfolding result_types
made_one_result (constant z) ts n is = cc
made_one_result (aggregate_constant ls) ts n is = cc
made_one_result (on_struct struct_explode) ts n is = cc
made_one_result (instance i) ts n is = cc
made_one_result output ts n is = cc
made_one_result (register f r) ts n is = cc
made_one_result async_firreg ts n is = cc
made_one_result _ ts n is = refl
