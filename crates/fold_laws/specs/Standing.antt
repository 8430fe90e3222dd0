-- Folds by which a value stands for the only result of an operation, which goes (CIRCT, Comb and HW dialects: folds of
-- their operations).
use Rattle.std.specs.Prelude.{Bool, true, false, cond, ◌&&◌, List, [], ◌∷◌, Option, Some, None, slice_get, option_and_then, option_map}
use Rattle.hw_model.specs.Types.{HwType}
use Rattle.hw_model.specs.SameType.{same_type}
use Rattle.hw_model.specs.Kinds.{Kind}
use Rattle.hw_model.specs.Kinds.Variadic.{mul, and, or}
use Rattle.hw_model.specs.Kinds.Division.{divu, divs}
use Rattle.hw_model.specs.Kinds.Kind.{variadic, sub, division, shift, extract, concat, replicate, mux, bitcast}
use Rattle.hw_model.specs.Design.{Ref, Op}
use Rattle.hw_model.specs.Value.{is_high}
use Rattle.ir_store.specs.Positions.{same_ref}
use Rattle.fold_laws.specs.Constants.{constant_at, is_constant_where, is_zero, is_one, is_ones, is_true, is_false}
use Rattle.fold_laws.specs.Edits.{FoldPattern}
use Rattle.fold_laws.specs.Edits.Edit.{erased}

-- ---- values that stand for results

-- the value of a body that may stand for the result of an operation, by its kind, the types that it writes and its
-- operands; None where none may
abbrev pub Stand : Type 0
Stand = List Op → Kind → List HwType → List Ref → Option Ref

-- the pattern by which the value stands for the result, and the operation goes
abbrev pub by_stand : Stand → FoldPattern
by_stand stand os i = option_and_then (λ (o : Op). option_map (λ (x : Ref). erased i x ∷ []) (stand os o.kind o.types o.operands)) (slice_get os i)

-- ---- operands

-- a value where a test is met
abbrev pub when : Bool → Option Ref → Option Ref
when true x = x
when false x = None

-- the only operand
abbrev pub only_operand : List Ref → Option Ref
only_operand (x ∷ []) = Some x
only_operand _ = None

-- the first of two operands, where the second meets a test
abbrev pub first_where : (Ref → Bool) → List Ref → Option Ref
first_where test (x ∷ y ∷ []) = when (test y) (Some x)
first_where test _ = None

-- what is chosen of three operands
abbrev pub of_three_operands : (Ref → Ref → Ref → Option Ref) → List Ref → Option Ref
of_three_operands choose (x ∷ y ∷ z ∷ []) = choose x y z
of_three_operands choose _ = None

-- the first operand that meets a test
abbrev pub first_operand : (Ref → Bool) → List Ref → Option Ref
first_operand test [] = None
first_operand test (x ∷ xs) = cond (test x) (Some x) (first_operand test xs)

-- whether two types are written, and they are one
abbrev pub writes_one_type : List HwType → Bool
writes_one_type (t ∷ u ∷ []) = same_type t u
writes_one_type _ = false

-- ---- operations of any number of operands

-- one operand of add, mul, and, or, xor stands for the result
abbrev pub single_operand : Stand
single_operand os (variadic v) ts rs = only_operand rs
single_operand os _ ts rs = None

-- an operand 0 of and, ones of or, 0 of mul stands for the result
abbrev pub absorbing_and : Stand
absorbing_and os (variadic and) ts rs = first_operand (is_constant_where is_zero os) rs
absorbing_and os _ ts rs = None

abbrev pub absorbing_or : Stand
absorbing_or os (variadic or) ts rs = first_operand (is_constant_where is_ones os) rs
absorbing_or os _ ts rs = None

abbrev pub absorbing_mul : Stand
absorbing_mul os (variadic mul) ts rs = first_operand (is_constant_where is_zero os) rs
absorbing_mul os _ ts rs = None

-- ---- differences, quotients, shifts

-- x stands for x - 0
abbrev pub sub_zero : Stand
sub_zero os sub ts rs = first_where (is_constant_where is_zero os) rs
sub_zero os _ ts rs = None

-- x stands for x shifted by 0
abbrev pub shift_zero : Stand
shift_zero os (shift s) ts rs = first_where (is_constant_where is_zero os) rs
shift_zero os _ ts rs = None

-- x stands for its quotient by 1
abbrev pub div_one : Stand
div_one os (division divu) ts rs = first_where (is_constant_where is_one os) rs
div_one os (division divs) ts rs = first_where (is_constant_where is_one os) rs
div_one os _ ts rs = None

-- ---- choices

-- the chosen value stands for a mux with a constant condition
abbrev pub mux_constant : Stand
mux_constant os mux ts rs = of_three_operands (λ c x y. option_map (λ w. cond (is_high w) x y) (constant_at os c)) rs
mux_constant os _ ts rs = None

-- x stands for a mux of x and x
abbrev pub mux_same : Stand
mux_same os mux ts rs = of_three_operands (λ c x y. when (same_ref x y) (Some x)) rs
mux_same os _ ts rs = None

-- its condition stands for a mux of true and false
abbrev pub mux_bool : Stand
mux_bool os mux ts rs = of_three_operands (λ c x y. when (is_constant_where is_true os x && is_constant_where is_false os y) (Some c)) rs
mux_bool os _ ts rs = None

-- ---- parts and copies

-- x stands for all its bits
abbrev pub full_extract : Stand
full_extract os (extract low) ts rs = when (writes_one_type ts) (only_operand rs)
full_extract os _ ts rs = None

-- x stands for x joined to nothing
abbrev pub trivial_concat : Stand
trivial_concat os concat ts rs = only_operand rs
trivial_concat os _ ts rs = None

-- x stands for one copy of x
abbrev pub trivial_replicate : Stand
trivial_replicate os replicate ts rs = when (writes_one_type ts) (only_operand rs)
trivial_replicate os _ ts rs = None

-- x stands for x as its own type
abbrev pub trivial_bitcast : Stand
trivial_bitcast os bitcast ts rs = when (writes_one_type ts) (only_operand rs)
trivial_bitcast os _ ts rs = None

-- ---- the patterns

-- add, mul, and, or, xor of one operand becomes that operand
abbrev pub fold_single_operand : FoldPattern
fold_single_operand = by_stand single_operand

-- and with an operand 0 becomes that operand
abbrev pub fold_and_zero : FoldPattern
fold_and_zero = by_stand absorbing_and

-- or with an operand of ones becomes that operand
abbrev pub fold_or_ones : FoldPattern
fold_or_ones = by_stand absorbing_or

-- mul with an operand 0 becomes that operand
abbrev pub fold_mul_zero : FoldPattern
fold_mul_zero = by_stand absorbing_mul

-- sub x, 0 becomes x
abbrev pub fold_sub_zero : FoldPattern
fold_sub_zero = by_stand sub_zero

-- shl, shru, shrs of x by 0 becomes x
abbrev pub fold_shift_zero : FoldPattern
fold_shift_zero = by_stand shift_zero

-- divu, divs of x by 1 becomes x
abbrev pub fold_div_one : FoldPattern
fold_div_one = by_stand div_one

-- mux with a constant condition becomes the chosen operand
abbrev pub fold_mux_constant : FoldPattern
fold_mux_constant = by_stand mux_constant

-- mux c, x, x becomes x
abbrev pub fold_mux_same : FoldPattern
fold_mux_same = by_stand mux_same

-- mux c, true, false becomes c
abbrev pub fold_mux_bool : FoldPattern
fold_mux_bool = by_stand mux_bool

-- an extract of the whole width of x becomes x
abbrev pub fold_full_extract : FoldPattern
fold_full_extract = by_stand full_extract

-- concat of one operand becomes that operand
abbrev pub fold_trivial_concat : FoldPattern
fold_trivial_concat = by_stand trivial_concat

-- replicate of x to its own width becomes x
abbrev pub fold_trivial_replicate : FoldPattern
fold_trivial_replicate = by_stand trivial_replicate

-- bitcast of x to its own type becomes x
abbrev pub fold_trivial_bitcast : FoldPattern
fold_trivial_bitcast = by_stand trivial_bitcast
