-- The value of each operation (CIRCT: Comb and HW rationales and operation references), on words of bits.
-- An aggregate's word is its parts joined: an array's from the highest index to 0, a struct's from its first field.
use Rattle.std.specs.Prelude.{ℕ, zero, suc, ◌+◌, ◌*◌, ◌/◌, Bool, false, cond, not, ◌==◌, nat_lt, List, [], ◌∷◌, ◌++◌, map, take, drop, length}
use Rattle.wiring.specs.Lists.{total}
use Rattle.bits_core.specs.Word.{Word, number, bits, bits_of_ℤ, zeros, ones, flag, extract as bits_from, copies, add as sum_of, mul as product_of, sub as difference, quotient, rest, signed_quotient}
use Rattle.bits_core.specs.Word.{signed_rest, and_words, or_words, xor_words, parity as odd, shift_left, shift_right, shift_right_signed, less, signed_less, same_word}
use Rattle.hw_model.specs.Types.{Name, HwType, FieldTypes, width}
use Rattle.hw_model.specs.Types.HwType.{array, struct}
use Rattle.hw_model.specs.Types.FieldTypes.{no_fields, field}
use Rattle.hw_model.specs.Kinds.{Kind, Predicate, Literal, Literals, Variadic, Division, Shift, ArrayOp, StructOp}
use Rattle.hw_model.specs.Kinds.Predicate.{eq, ne, slt, sle, sgt, sge, ult, ule, ugt, uge, ceq, cne, weq, wne}
use Rattle.hw_model.specs.Kinds.Literal.{leaf, parts}
use Rattle.hw_model.specs.Kinds.Literals.{no_literals, literal}
use Rattle.hw_model.specs.Kinds.Variadic.{add, mul, and, or, xor}
use Rattle.hw_model.specs.Kinds.Division.{divu, modu, divs, mods}
use Rattle.hw_model.specs.Kinds.Shift.{shl, shru, shrs}
use Rattle.hw_model.specs.Kinds.ArrayOp.{array_create, array_concat, array_get, array_slice, array_inject}
use Rattle.hw_model.specs.Kinds.StructOp.{struct_create, struct_extract, struct_inject, struct_explode}
use Rattle.hw_model.specs.Kinds.Kind.{variadic, sub, division, shift, icmp, parity, extract, concat, replicate, mux, constant, aggregate_constant, on_array, on_struct, bitcast, wire, instance, output, register, async_firreg}
use Rattle.hw_model.specs.Design.{same_name}

-- the words joined, the first most significant
abbrev pub concat_words : List Word → Word
concat_words [] = []
concat_words (x ∷ xs) = x ++ concat_words xs

-- whether a word's first bit is 1: a condition, an enable, a reset, a clock that rises
abbrev pub is_high : Word → Bool
is_high [] = false
is_high (b ∷ bs) = b

-- ---- operations with any number of operands

-- the product of a list
abbrev pub product : List ℕ → ℕ
product [] = 1
product (n ∷ ns) = n * product ns

abbrev pub and_all : ℕ → List Word → Word
and_all w [] = ones w
and_all w (x ∷ xs) = and_words x (and_all w xs)

abbrev pub or_all : ℕ → List Word → Word
or_all w [] = zeros w
or_all w (x ∷ xs) = or_words x (or_all w xs)

abbrev pub xor_all : ℕ → List Word → Word
xor_all w [] = zeros w
xor_all w (x ∷ xs) = xor_words x (xor_all w xs)

-- ---- operations with one, two or three operands; no value for another number

abbrev pub of_one : (Word → Word) → List Word → Word
of_one f (x ∷ []) = f x
of_one f _ = []

abbrev pub of_two : (Word → Word → Word) → List Word → Word
of_two f (x ∷ y ∷ []) = f x y
of_two f _ = []

abbrev pub of_three : (Word → Word → Word → Word) → List Word → Word
of_three f (x ∷ y ∷ z ∷ []) = f x y z
of_three f _ = []

-- ---- comparison

abbrev pub compare : Predicate → Word → Word → Bool
compare eq x y = same_word x y
compare ne x y = not (same_word x y)
compare slt x y = signed_less x y
compare sle x y = not (signed_less y x)
compare sgt x y = signed_less y x
compare sge x y = not (signed_less x y)
compare ult x y = less x y
compare ule x y = not (less y x)
compare ugt x y = less y x
compare uge x y = not (less x y)
compare ceq x y = same_word x y
compare cne x y = not (same_word x y)
compare weq x y = same_word x y
compare wne x y = not (same_word x y)

-- ---- constants of aggregate types

abbrev mutual
  pub word_of_literal : Literal → Word
  word_of_literal (leaf z t) = bits_of_ℤ (width t) z
  word_of_literal (parts ls) = word_of_literals ls

  pub word_of_literals : Literals → Word
  word_of_literals no_literals = []
  word_of_literals (literal l ls) = word_of_literal l ++ word_of_literals ls

-- ---- arrays

-- element i of an array's word; zero past the end
abbrev pub element : HwType → Word → ℕ → Word
element (array n t) a i = cond (nat_lt i n) (bits_from (i * width t) (width t) a) (zeros (width t))
element _ a i = []

-- elements i + m - 1 down to i
abbrev pub elements_from : HwType → Word → ℕ → ℕ → Word
elements_from t a i zero = []
elements_from t a i (suc m) = element t a (i + m) ++ elements_from t a i m

abbrev pub slice_of : HwType → Word → ℕ → HwType → Word
slice_of t a i (array m e) = elements_from t a i m
slice_of t a i _ = []

-- the elements below n, from the highest down, v standing in place of element i
abbrev pub injected_below : ℕ → HwType → Word → ℕ → Word → Word
injected_below zero t a i v = []
injected_below (suc n) t a i v = cond (n == i) v (element t a n) ++ injected_below n t a i v

abbrev pub inject_element : HwType → Word → ℕ → Word → Word
inject_element (array n t) a i v = injected_below n (array n t) a i v
inject_element _ a i v = []

-- ---- structs

-- the part of a struct's word that is the field of that name
abbrev pub field_of : FieldTypes → Name → Word → Word
field_of no_fields name s = []
field_of (field f t fs) name s = cond (same_name f name) (take (width t) s) (field_of fs name (drop (width t) s))

-- the struct's word with v instead of that field
abbrev pub with_field : FieldTypes → Name → Word → Word → Word
with_field no_fields name s v = s
with_field (field f t fs) name s v = cond (same_name f name) (v ++ drop (width t) s) (take (width t) s ++ with_field fs name (drop (width t) s) v)

-- the part that is the k-th field
abbrev pub field_at : FieldTypes → ℕ → Word → Word
field_at no_fields k s = []
field_at (field f t fs) zero s = take (width t) s
field_at (field f t fs) (suc k) s = field_at fs k (drop (width t) s)

-- the fields of a struct type
abbrev pub fields : HwType → FieldTypes
fields (struct fs) = fs
fields _ = no_fields

-- the n-th of the types that an operation writes; a type without bits where there is none
abbrev pub nth_type : List HwType → ℕ → HwType
nth_type [] n = struct no_fields
nth_type (t ∷ ts) zero = t
nth_type (t ∷ ts) (suc n) = nth_type ts n

-- ---- families

-- the result of w bits of an operation of any number of operands
abbrev pub variadic_value : Variadic → ℕ → List Word → Word
variadic_value add w xs = bits w (total (map number xs))
variadic_value mul w xs = bits w (product (map number xs))
variadic_value and w xs = and_all w xs
variadic_value or w xs = or_all w xs
variadic_value xor w xs = xor_all w xs

-- the result of such an operation on one more operand before others, of which it gives a word
abbrev pub with_operand : Variadic → Word → Word → Word
with_operand add x all = sum_of x all
with_operand mul x all = product_of x all
with_operand and x all = and_words x all
with_operand or x all = or_words x all
with_operand xor x all = xor_words x all

abbrev pub division_value : Division → Word → Word → Word
division_value divu = quotient
division_value modu = rest
division_value divs = signed_quotient
division_value mods = signed_rest

-- a word shifted by a number
abbrev pub shift_value : Shift → Word → ℕ → Word
shift_value shl = shift_left
shift_value shru = shift_right
shift_value shrs = shift_right_signed

-- the result of type t of an operation on arrays that writes a type `a` first
abbrev pub array_value : ArrayOp → HwType → HwType → List Word → Word
array_value array_create a t xs = concat_words xs
array_value array_concat a t xs = concat_words xs
array_value array_get a t xs = of_two (λ x i. element a x (number i)) xs
array_value array_slice a t xs = of_two (λ x i. slice_of a x (number i) t) xs
array_value array_inject a t xs = of_three (λ x i v. inject_element a x (number i) v) xs

-- the k-th result of an operation on structs that writes a struct of these fields first
abbrev pub struct_value : StructOp → FieldTypes → ℕ → List Word → Word
struct_value struct_create fs k xs = concat_words xs
struct_value (struct_extract name) fs k xs = of_one (field_of fs name) xs
struct_value (struct_inject name) fs k xs = of_two (with_field fs name) xs
struct_value struct_explode fs k xs = of_one (field_at fs k) xs

-- ---- the value

-- the k-th result of an operation that writes the types `ts`, of type t, from its operands' words `xs`.
-- Registers, instances and outputs have no value of this kind.
abbrev pub op_value : Kind → List HwType → HwType → ℕ → List Word → Word
op_value (variadic v) ts t k xs = variadic_value v (width t) xs
op_value sub ts t k xs = of_two difference xs
op_value (division d) ts t k xs = of_two (division_value d) xs
op_value (shift s) ts t k xs = of_two (λ x y. shift_value s x (number y)) xs
op_value (icmp p) ts t k xs = of_two (λ x y. flag (compare p x y)) xs
op_value parity ts t k xs = of_one (λ x. flag (odd x)) xs
op_value (extract low) ts t k xs = of_one (bits_from low (width t)) xs
op_value concat ts t k xs = concat_words xs
op_value replicate ts t k xs = of_one (λ x. copies (width t / length x) x) xs
op_value mux ts t k xs = of_three (λ c x y. cond (is_high c) x y) xs
op_value (constant z) ts t k xs = bits_of_ℤ (width t) z
op_value (aggregate_constant ls) ts t k xs = word_of_literals ls
op_value (on_array a) ts t k xs = array_value a (nth_type ts 0) t xs
op_value (on_struct s) ts t k xs = struct_value s (fields (nth_type ts 0)) k xs
op_value bitcast ts t k xs = of_one (λ x. x) xs
op_value wire ts t k xs = of_one (λ x. x) xs
op_value (instance i) ts t k xs = []
op_value output ts t k xs = []
op_value (register f r) ts t k xs = []
op_value async_firreg ts t k xs = []
