-- The value of an operation on integers is decided by the width of its result, and not by the types that it writes.
use Rattle.std.proofs.Common.{◌≡◌, ℕ, List, [], refl}
use Rattle.bits_core.specs.Word.{Word}
use Rattle.hw_model.specs.Types.{HwType, width}
use Rattle.hw_model.specs.Types.HwType.{int}
use Rattle.hw_model.specs.Kinds.{Kind}
use Rattle.hw_model.specs.Kinds.Kind.{aggregate_constant, on_array, on_struct, bitcast, wire, instance, output, register, async_firreg}
use Rattle.hw_model.specs.IntegerKinds.{TakesWords}
use Rattle.hw_model.specs.Value.{op_value}

pub value_by_width : (kind : Kind) (ts : List HwType) (t : HwType) (k : ℕ) (xs : List Word) → TakesWords kind (width t) xs
    → op_value kind ts t k xs ≡ op_value kind [] (int (width t)) 0 xs
value_by_width (aggregate_constant ls) ts t k xs h = absurd h
value_by_width (on_array a) ts t k xs h = absurd h
value_by_width (on_struct s) ts t k xs h = absurd h
value_by_width bitcast ts t k xs h = absurd h
value_by_width wire ts t k xs h = absurd h
value_by_width (instance i) ts t k xs h = absurd h
value_by_width output ts t k xs h = absurd h
value_by_width (register f r) ts t k xs h = absurd h
value_by_width async_firreg ts t k xs h = absurd h
value_by_width _ ts t k xs h = refl
