-- How many results operations have: a `seq.firreg` one, whatever resets it, and all but a few kinds one.
use Rattle.std.proofs.Common.{◌≡◌, ℕ, true, List, [], ◌∷◌, refl}
use Rattle.hw_model.specs.Types.{HwType}
use Rattle.hw_model.specs.Kinds.{Kind}
use Rattle.hw_model.specs.Kinds.StructOp.{struct_explode}
use Rattle.hw_model.specs.Kinds.Kind.{on_struct, instance, output}
use Rattle.type_inference.specs.ResultTypes.{result_type, result_types, result_count}
use Rattle.type_inference.specs.SettledTypes.{has_one_result}
use Rattle.mlir_operations.specs.ElementText.{InherentAttributes}
use Rattle.mlir_operations.specs.ElementText.InherentAttributes.{with_async_reset}
use Rattle.mlir_reader.specs.Resolving.{firreg_kind}

pub firreg_count : (e : InherentAttributes) (ts : List HwType) → result_count (firreg_kind e) ts ≡ 1
unfolding result_count
firreg_count with_async_reset ts = refl
firreg_count _ ts = refl

-- an operation that has one result has a list of one type
pub one_type : (kind : Kind) → has_one_result kind ≡ true → (ts : List HwType) (n : ℕ) → result_types kind ts n ≡ result_type kind ts n ∷ []
unfolding result_types
one_type output is ts n = cc
one_type (on_struct struct_explode) is ts n = cc
one_type (instance i) is ts n = cc
one_type _ is ts n = refl
