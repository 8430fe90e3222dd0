-- The fold by which an operation of constants becomes the constant of its value (CIRCT, Comb dialect: folds of its
-- operations).
use Rattle.std.specs.Prelude.{Bool, true, false, cond, List, [], ◌∷◌, Option, Some, None, option_and_then, option_map}
use Rattle.bits_core.specs.Word.{Word, number}
use Rattle.hw_model.specs.Kinds.{Kind}
use Rattle.hw_model.specs.Kinds.Kind.{variadic, sub, division, shift, icmp, parity, extract, concat, replicate, mux}
use Rattle.hw_model.specs.Design.{Ref, Op}
use Rattle.hw_model.specs.Value.{op_value}
use Rattle.fold_laws.specs.Constants.{constant_at}
use Rattle.fold_laws.specs.Edits.{FoldPattern}
use Rattle.fold_laws.specs.Numbers.{Numbering, by_number}

-- whether a kind is of the comb dialect
abbrev pub is_comb : Kind → Bool
is_comb (variadic v) = true
is_comb sub = true
is_comb (division d) = true
is_comb (shift s) = true
is_comb (icmp p) = true
is_comb parity = true
is_comb (extract low) = true
is_comb concat = true
is_comb replicate = true
is_comb mux = true
is_comb _ = false

-- the words of values that all are constants
abbrev pub constants_at : List Op → List Ref → Option (List Word)
constants_at os [] = Some []
constants_at os (r ∷ rs) = option_and_then (λ (w : Word). option_map (λ (ws : List Word). w ∷ ws) (constants_at os rs)) (constant_at os r)

-- the value of an operation of constants
abbrev pub value_of_constants : Numbering
value_of_constants os kind ts t rs = cond (is_comb kind) (option_map (λ (ws : List Word). number (op_value kind ts t 0 ws)) (constants_at os rs)) None

-- an operation on integers whose operands all are constants becomes the constant of its value
abbrev pub fold_evaluated : FoldPattern
fold_evaluated = by_number value_of_constants
