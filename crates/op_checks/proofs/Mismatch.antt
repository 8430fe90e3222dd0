-- A mismatch that is left to the results.
use Rattle.std.proofs.Common.{◌≡◌, Bool, false, List, map, length}
use Rattle.std.specs.Prelude.{Option}
use Rattle.std.proofs.lemmas.List.{length-map}
use Rattle.hw_model.specs.Types.{HwType}
use Rattle.hw_model.specs.Kinds.{Kind}
use Rattle.op_checks.specs.OperandChecks.{has_other_form, has_other_operand, has_other_result, has_mismatch}
use Rattle.op_checks.proofs.Lists.{last_of_three}

pub mismatch_by_results : {A : Type 0} (kind : Kind) (ts us rs qs : List HwType) (view : A → Option HwType) (os : List A) (r : Bool)
    → us ≡ ts → qs ≡ rs → false ≡ has_other_form kind us → false ≡ has_other_operand kind us (map view os)
    → r ≡ has_other_result kind us rs (length os) → r ≡ has_mismatch kind ts qs (map view os)
unfolding has_mismatch
mismatch_by_results kind ts us rs qs view os r e f p q h =
    let n : length (map view os) ≡ length os = length-map os view in
    last_of_three (has_other_form kind ts) (has_other_operand kind ts (map view os)) r (has_other_result kind ts qs (length (map view os)))
    (cc) (cc) (cc)
