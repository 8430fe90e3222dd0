-- What a type is, by what its first token begins and by whether one more may be opened.
use Rattle.std.proofs.Common.{◌≡◌, ℕ, zero, suc, ◌-◌, ◌<◌, List, Ok, Err, refl, sym, arith}
use Rattle.diag.specs.declared.refusal.OpName.{OpName}
use Rattle.diag.specs.declared.cause.Cause.TheVariants.{OutsideProfile, TooDeep}
use Rattle.hw_model.specs.Types.HwType.{clock}
use Rattle.mlir_syntax.specs.Stream.{StreamToken, first, after, refusal_at, unexpected_refusal}
use Rattle.mlir_syntax.specs.TypeText.{type_text, type_with, type_head, width_type, array_text, struct_text, too_deep, field_text, name_text}
use Rattle.mlir_syntax.specs.TypeText.TypeHead.{integer_type, clock_type, array_type, struct_type, foreign_type, no_type}
use Rattle.mlir_syntax.proofs.Lists.{IsItem}

pub is_field : (room : ℕ) (op : OpName) → IsItem op (field_text (type_text room op) op)
unfolding field_text name_text
is_field room op = refl

pub integer_at : (room : ℕ) (op : OpName) (s : List StreamToken) (digits : List ℕ) → integer_type digits ≡ type_head (first s) → type_text room op s ≡ width_type op s digits
unfolding type_with
integer_at zero op s digits e = rw (sym e) refl
integer_at (suc room) op s digits e = rw (sym e) refl

pub clock_at : (room : ℕ) (op : OpName) (s : List StreamToken) → clock_type ≡ type_head (first s) → type_text room op s ≡ Ok (clock, after s)
unfolding type_with
clock_at zero op s e = rw (sym e) refl
clock_at (suc room) op s e = rw (sym e) refl

pub array_at : (room : ℕ) (op : OpName) (s : List StreamToken) → array_type ≡ type_head (first s) → 0 < room
    → type_text room op s ≡ array_text (type_text (room - 1) op) op s
unfolding type_with
array_at zero op s e some = absurd (omega arith)
array_at (suc room) op s e some = let one : suc room - 1 ≡ room = omega arith in rw (one, sym e) refl

pub struct_at : (room : ℕ) (op : OpName) (s : List StreamToken) → struct_type ≡ type_head (first s) → 0 < room
    → type_text room op s ≡ struct_text (type_text (room - 1) op) op s
unfolding type_with
struct_at zero op s e some = absurd (omega arith)
struct_at (suc room) op s e some = let one : suc room - 1 ≡ room = omega arith in rw (one, sym e) refl

pub deep_array_at : (room : ℕ) (op : OpName) (s : List StreamToken) → array_type ≡ type_head (first s) → room ≡ 0
    → type_text room op s ≡ Err (refusal_at TooDeep op s)
unfolding type_with too_deep
deep_array_at zero op s e none = rw (sym e) refl
deep_array_at (suc room) op s e none = absurd (omega arith)

pub deep_struct_at : (room : ℕ) (op : OpName) (s : List StreamToken) → struct_type ≡ type_head (first s) → room ≡ 0
    → type_text room op s ≡ Err (refusal_at TooDeep op s)
unfolding type_with too_deep
deep_struct_at zero op s e none = rw (sym e) refl
deep_struct_at (suc room) op s e none = absurd (omega arith)

pub foreign_at : (room : ℕ) (op : OpName) (s : List StreamToken) → foreign_type ≡ type_head (first s) → type_text room op s ≡ Err (refusal_at OutsideProfile op s)
unfolding type_with
foreign_at zero op s e = rw (sym e) refl
foreign_at (suc room) op s e = rw (sym e) refl

pub nothing_at : (room : ℕ) (op : OpName) (s : List StreamToken) → no_type ≡ type_head (first s) → type_text room op s ≡ Err (unexpected_refusal op s)
unfolding type_with
nothing_at zero op s e = rw (sym e) refl
nothing_at (suc room) op s e = rw (sym e) refl
