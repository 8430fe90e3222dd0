-- Values of a body that are constants, and tests of their words (CIRCT, HW dialect: hw.constant).
use Rattle.std.specs.Prelude.{zero, ◌+◌, ◌^◌, ℤ, Bool, true, false, nat_eq, nat_le, List, length, Option, Some, None, slice_get}
use Rattle.bits_core.specs.Word.{Word, number, bits_of_ℤ, flag, same_word}
use Rattle.hw_model.specs.Types.{HwType}
use Rattle.hw_model.specs.Types.HwType.{int}
use Rattle.hw_model.specs.Kinds.{Kind}
use Rattle.hw_model.specs.Kinds.Kind.{constant}
use Rattle.hw_model.specs.Design.{Ref, Op, result_type}
use Rattle.hw_model.specs.Design.Ref.{result}

-- the bits of an integer of a type; None where the type is no integer's
abbrev pub integer_word : ℤ → Option HwType → Option Word
integer_word z (Some (int w)) = Some (bits_of_ℤ w z)
integer_word z _ = None

-- the word of an hw.constant of a type
abbrev pub constant_word : Kind → Option HwType → Option Word
constant_word (constant z) t = integer_word z t
constant_word _ t = None

abbrev pub first_result_word : Option Op → Option Word
first_result_word None = None
first_result_word (Some o) = constant_word o.kind (result_type o 0)

-- the word of a value that is the result of an hw.constant
abbrev pub constant_at : List Op → Ref → Option Word
constant_at os (result j zero) = first_result_word (slice_get os j)
constant_at os _ = None

-- whether a word is there and meets a test
abbrev pub meets : (Word → Bool) → Option Word → Bool
meets test None = false
meets test (Some w) = test w

-- whether a value is the result of an hw.constant whose word meets a test
abbrev pub is_constant_where : (Word → Bool) → List Op → Ref → Bool
is_constant_where test os r = meets test (constant_at os r)

-- ---- tests

-- all bits are 0
abbrev pub is_zero : Word → Bool
is_zero w = nat_eq (number w) 0

-- the number is 1, which one bit of 1 is too, whatever its sign
abbrev pub is_one : Word → Bool
is_one w = nat_eq (number w) 1

-- all bits are 1
abbrev pub is_ones : Word → Bool
is_ones w = nat_eq (number w + 1) (2 ^ length w)

-- as an amount it shifts all bits of as wide a word out
abbrev pub shifts_out : Word → Bool
shifts_out w = nat_le (length w) (number w)

-- it is true, it is false, as words of one bit
abbrev pub is_true : Word → Bool
is_true w = same_word w (flag true)

abbrev pub is_false : Word → Bool
is_false w = same_word w (flag false)
