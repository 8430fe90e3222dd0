-- Lists with commas between their items, and lists between two marks.
use Rattle.std.proofs.Common.{◌≡◌, ℕ, ◌+◌, ◌≤◌, false, ◌==◌, List, [], ◌∷◌, ◌++◌, refl, sym, ap, arith}
use Rattle.std.specs.Prelude.{codes}
use Rattle.std.proofs.lemmas.List.{append-nil}
use Rattle.std.proofs.lemmas.Bool.{cond-false}
use Rattle.mlir_lexer.specs.Classes.{is_suffix_byte}
use Rattle.mlir_lexer.specs.declared.token.TokenKind.{TokenKind}
use Rattle.mlir_lexer.specs.declared.token.TokenKind.TheVariants as kind
use Rattle.mlir_syntax.specs.Spelling.{Phrase, Mark, Commas, Between}
use Rattle.mlir_printer.specs.Commas.{comma_bytes, items_from, commas}
use Rattle.stored_form.specs.Bytes.{Each}
use Rattle.mlir_printer.proofs.lexed.LexedTexts.{Whole, Lexed, lexed, lexed_by, then, then_on, then_whole, closed, nothing, blank_after, blank_on_whole, comma_mark, colon_mark, equals_mark, arrow_mark}
use Rattle.mlir_printer.proofs.lexed.LexedNames.{none_zero}

-- ---- marks with blanks

pub comma_blank : Whole (Mark kind.Comma) (codes ", ")
comma_blank = blank_after (lexed comma_mark)

pub colon_blank : Whole (Mark kind.Colon) (codes ": ")
colon_blank = blank_after (lexed colon_mark)

pub blank_colon : Whole (Mark kind.Colon) (codes " : ")
blank_colon = blank_on_whole colon_blank

pub blank_equals : Whole (Mark kind.Equals) (codes " = ")
blank_equals = blank_on_whole (blank_after (lexed equals_mark))

pub blank_arrow : Whole (Mark kind.Arrow) (codes " -> ")
blank_arrow = blank_on_whole (blank_after (lexed arrow_mark))

-- ---- lists

comma_is : (i : ℕ) → 1 ≤ i → comma_bytes i ≡ codes ", "
unfolding comma_bytes
comma_is i some = cond-false (i == 0) [] (codes ", ") (none_zero i some)

-- items after a first one
pub items_lexed : {A : Type 0} (P : A → Phrase) (bytes : A → List ℕ) (i : ℕ) → 1 ≤ i → (x : A) (xs : List A) → Lexed (P x) (bytes x)
    → Each (λ y. Lexed (P y) (bytes y)) xs → Lexed (Commas P (x ∷ xs)) (bytes x ++ items_from bytes i xs)
items_lexed P bytes i some x [] one each = lexed_by (sym (append-nil (bytes x))) one
items_lexed P bytes i some x (y ∷ ys) one each =
    let more = items_lexed P bytes (i + 1) (omega arith) y ys each.0 each.1 in
    lexed_by (ap (λ c. bytes x ++ (c ++ (bytes y ++ items_from bytes (i + 1) ys))) (sym (comma_is i some))) (then one (then_on comma_blank more) refl)

-- items
pub commas_lexed : {A : Type 0} (P : A → Phrase) (bytes : A → List ℕ) (xs : List A) → Each (λ y. Lexed (P y) (bytes y)) xs
    → Lexed (Commas P xs) (commas bytes xs)
unfolding comma_bytes
commas_lexed P bytes [] each = lexed nothing
commas_lexed P bytes (x ∷ xs) each = items_lexed P bytes 1 (omega arith) x xs each.0 each.1

-- each of a list
pub each_of : {A : Type 0} {P Q : A → Type 0} → ((x : A) → P x → Q x) → (xs : List A) → Each P xs → Each Q xs
each_of to [] h = tt
each_of to (x ∷ xs) h = (to x h.0, each_of to xs h.1)

-- ---- between marks

pub between : {left right : TokenKind} {P : Phrase} {a b : List ℕ} (c : ℕ) (cs : List ℕ) → Whole (Mark left) a → Lexed P b
    → Whole (Mark right) (c ∷ cs)
    → is_suffix_byte c ≡ false → Whole (Between left right P) (a ++ (b ++ (c ∷ cs)))
between c cs opened inside close ends = then_whole opened (closed c cs inside close ends)
