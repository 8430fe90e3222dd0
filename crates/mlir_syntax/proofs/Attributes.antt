-- What an attribute is, by what its first token begins and by whether one more list may be opened.
use Rattle.std.proofs.Common.{◌≡◌, ℕ, zero, suc, ◌-◌, ◌<◌, Bool, List, Ok, Err, refl, sym, arith}
use Rattle.diag.specs.declared.refusal.OpName.{OpName}
use Rattle.diag.specs.declared.cause.Cause.TheVariants.{OutsideProfile, TooDeep}
use Rattle.hw_model.specs.Design.Attribute.{text_value, symbol_value, truth_value}
use Rattle.mlir_syntax.specs.Stream.{StreamToken, first, after, refusal_at, unexpected_refusal}
use Rattle.mlir_syntax.specs.TypeText.{too_deep}
use Rattle.mlir_syntax.specs.AttributeText.{attribute_text, attribute_with, attribute_head, typed_integer, list_text}
use Rattle.mlir_syntax.specs.AttributeText.AttributeHead.{text_head, symbol_head, truth_head, number_head, list_head, alias_head, no_head}
use Rattle.mlir_syntax.proofs.Lists.{IsItem}

pub is_attribute : (room : ℕ) (op : OpName) → IsItem op (attribute_text room op)
unfolding attribute_with
is_attribute zero op = refl
is_attribute (suc room) op = refl

pub text_at : (room : ℕ) (op : OpName) (s : List StreamToken) (text : List ℕ) → text_head text ≡ attribute_head (first s) → attribute_text room op s ≡ Ok (text_value text, after s)
unfolding attribute_with
text_at zero op s text e = rw (sym e) refl
text_at (suc room) op s text e = rw (sym e) refl

pub symbol_at : (room : ℕ) (op : OpName) (s : List StreamToken) (name : List ℕ) → symbol_head name ≡ attribute_head (first s) → attribute_text room op s ≡ Ok (symbol_value name, after s)
unfolding attribute_with
symbol_at zero op s name e = rw (sym e) refl
symbol_at (suc room) op s name e = rw (sym e) refl

pub truth_at : (room : ℕ) (op : OpName) (s : List StreamToken) (b : Bool) → truth_head b ≡ attribute_head (first s) → attribute_text room op s ≡ Ok (truth_value b, after s)
unfolding attribute_with
truth_at zero op s b e = rw (sym e) refl
truth_at (suc room) op s b e = rw (sym e) refl

pub number_at : (room : ℕ) (op : OpName) (s : List StreamToken) → number_head ≡ attribute_head (first s) → attribute_text room op s ≡ typed_integer room op s
unfolding attribute_with
number_at zero op s e = rw (sym e) refl
number_at (suc room) op s e = rw (sym e) refl

pub list_at : (room : ℕ) (op : OpName) (s : List StreamToken) → list_head ≡ attribute_head (first s) → 0 < room
    → attribute_text room op s ≡ list_text (attribute_text (room - 1) op) op s
unfolding attribute_with
list_at zero op s e some = absurd (omega arith)
list_at (suc room) op s e some = let one : suc room - 1 ≡ room = omega arith in rw (one, sym e) refl

pub deep_list_at : (room : ℕ) (op : OpName) (s : List StreamToken) → list_head ≡ attribute_head (first s) → room ≡ 0 → attribute_text room op s ≡ Err (refusal_at TooDeep op s)
unfolding attribute_with too_deep
deep_list_at zero op s e none = rw (sym e) refl
deep_list_at (suc room) op s e none = absurd (omega arith)

pub alias_at : (room : ℕ) (op : OpName) (s : List StreamToken) → alias_head ≡ attribute_head (first s) → attribute_text room op s ≡ Err (refusal_at OutsideProfile op s)
unfolding attribute_with
alias_at zero op s e = rw (sym e) refl
alias_at (suc room) op s e = rw (sym e) refl

pub nothing_at : (room : ℕ) (op : OpName) (s : List StreamToken) → no_head ≡ attribute_head (first s) → attribute_text room op s ≡ Err (unexpected_refusal op s)
unfolding attribute_with
nothing_at zero op s e = rw (sym e) refl
nothing_at (suc room) op s e = rw (sym e) refl
