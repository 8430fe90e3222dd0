-- What a constant is, by what its first token begins and by whether one more list may be opened.
use Rattle.std.proofs.Common.{◌≡◌, ℕ, zero, suc, ◌-◌, ◌<◌, Bool, List, Ok, Err, refl, sym, arith}
use Rattle.diag.specs.declared.refusal.OpName.{OpName}
use Rattle.diag.specs.declared.cause.Cause.TheVariants.{TooDeep}
use Rattle.mlir_syntax.specs.Stream.{StreamToken, first, after, refusal_at, unexpected_refusal}
use Rattle.mlir_syntax.specs.TypeText.{too_deep}
use Rattle.mlir_syntax.specs.LiteralText.{literal_text, literal_with, literal_head, number_leaf, truth_leaf, list_part}
use Rattle.mlir_syntax.specs.LiteralText.LiteralHead.{truth_literal, number_literal, list_literal, no_literal}
use Rattle.mlir_syntax.proofs.Lists.{IsItem}

pub is_literal : (room : ℕ) (op : OpName) → IsItem op (literal_text room op)
unfolding literal_with
is_literal zero op = refl
is_literal (suc room) op = refl

pub truth_at : (room : ℕ) (op : OpName) (s : List StreamToken) (b : Bool) → truth_literal b ≡ literal_head (first s) → literal_text room op s ≡ Ok (truth_leaf b, after s)
unfolding literal_with
truth_at zero op s b e = rw (sym e) refl
truth_at (suc room) op s b e = rw (sym e) refl

pub number_at : (room : ℕ) (op : OpName) (s : List StreamToken) → number_literal ≡ literal_head (first s) → literal_text room op s ≡ number_leaf room op s
unfolding literal_with
number_at zero op s e = rw (sym e) refl
number_at (suc room) op s e = rw (sym e) refl

pub list_at : (room : ℕ) (op : OpName) (s : List StreamToken) → list_literal ≡ literal_head (first s) → 0 < room
    → literal_text room op s ≡ list_part (literal_text (room - 1) op) op s
unfolding literal_with
list_at zero op s e some = absurd (omega arith)
list_at (suc room) op s e some = let one : suc room - 1 ≡ room = omega arith in rw (one, sym e) refl

pub deep_list_at : (room : ℕ) (op : OpName) (s : List StreamToken) → list_literal ≡ literal_head (first s) → room ≡ 0 → literal_text room op s ≡ Err (refusal_at TooDeep op s)
unfolding literal_with too_deep
deep_list_at zero op s e none = rw (sym e) refl
deep_list_at (suc room) op s e none = absurd (omega arith)

pub nothing_at : (room : ℕ) (op : OpName) (s : List StreamToken) → no_literal ≡ literal_head (first s) → literal_text room op s ≡ Err (unexpected_refusal op s)
unfolding literal_with
nothing_at zero op s e = rw (sym e) refl
nothing_at (suc room) op s e = rw (sym e) refl
