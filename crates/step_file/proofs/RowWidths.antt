-- The words that a step file says have the widths that are asked for.
use Rattle.std.proofs.Common.{◌≡◌, ℕ, suc, ◌+◌, Bool, true, false, List, [], ◌∷◌, ◌++◌, map, length, refl, sym, ap, subst, ◌∙◌, append_assoc, append-nil}
use Rattle.std.specs.Prelude.{cond, ◌==◌, ◌^◌, Option, Some, None, Result, Ok, Err, nat_lt, nat_eq, codes}
use Rattle.std.specs.Cmp.Lexicographic.{pointwise}
use Rattle.std.specs.List.{list_all}
use Rattle.bits_core.specs.Word.{Word, bits}
use Rattle.bits_core.specs.Fields.{length-bits}
use Rattle.text_lines.specs.Lines.{lines, words, is_wordless}
use Rattle.step_file.specs.declared.fail.StepCause.{StepCause}
use Rattle.step_file.specs.declared.fail.StepCause.TheVariants.{WrongCount, BadLine, WrongWidth, TooLong}
use Rattle.step_file.specs.Literals.{Literal, literal_of, is_literal, bits_in, word_in}
use Rattle.step_file.specs.Rows.{on_word, words_from, or_wrong_width, row_of}
use Rattle.step_file.specs.StepFile.{Steps, on_row, rows_from, content_of, with_rows, steps_from, steps_of}

-- each row has a word of each width
abbrev pub AreWide : List ℕ → List (List Word) → Type 0
AreWide widths [] = Unit {0}
AreWide widths (row ∷ rows) = (map length row ≡ widths) × AreWide widths rows

wide_more : (widths : List ℕ) (rows : List (List Word)) (row : List Word) → AreWide widths rows → map length row ≡ widths → AreWide widths (rows ++ row ∷ [])
wide_more widths [] row wide one = (one, tt)
wide_more widths (r ∷ rows) row wide one = (wide.0, wide_more widths rows row wide.1 one)

-- ---- words

bits_wide : (n : ℕ) (l : Option Literal) (x : Word) → bits_in n l ≡ Some x → length x ≡ n
bits_wide n None x is = cc
bits_wide n (Some l) x is = go (l.width == n) is
  where
    go : (b : Bool) → cond b (Some (bits n l.value)) None ≡ Some x → length x ≡ n
    go true e = let same : bits n l.value ≡ x = cc in ap length (sym same) ∙ length-bits n l.value
    go false e = cc

lengths_more : (row : List Word) (x : Word) → map length (row ++ x ∷ []) ≡ map length row ++ length x ∷ []
lengths_more [] x = refl
lengths_more (r ∷ row) x = ap (λ ns. length r ∷ ns) (lengths_more row x)

words_wide : (ns : List ℕ) (ws : List (List ℕ)) (row out : List Word) → words_from row ns ws ≡ Some out → map length out ≡ map length row ++ ns
words_wide [] ws row out is = let same : row ≡ out = cc in ap (map length) (sym same) ∙ sym (append-nil (map length row))
words_wide (n ∷ ns) [] row out is = cc
words_wide (n ∷ ns) (w ∷ ws) row out is = go (word_in n w) refl (λ x. words_wide ns ws (row ++ x ∷ []) out) is
  where
    go : (o : Option Word) → word_in n w ≡ o → ((x : Word) → words_from (row ++ x ∷ []) ns ws ≡ Some out → map length out ≡ map length (row ++ x ∷ []) ++ ns)
        → on_word o (λ x. words_from (row ++ x ∷ []) ns ws) ≡ Some out → map length out ≡ map length row ++ n ∷ ns
    go None at more e = cc
    go (Some x) at more e =
        more x e
        ∙ ap (λ ks. ks ++ ns) (lengths_more row x ∙ ap (λ k. map length row ++ k ∷ []) (bits_wide n (literal_of w) x at))
        ∙ append_assoc (map length row) (n ∷ []) ns

row_wide : (widths : List ℕ) (ws : List (List ℕ)) (row : List Word) → row_of widths ws ≡ Ok row → map length row ≡ widths
unfolding row_of
row_wide widths ws row is = first (list_all is_literal ws) is
  where
    last : (o : Option (List Word)) → words_from [] widths ws ≡ o → or_wrong_width o ≡ Ok row → map length row ≡ widths
    last None at e = cc
    last (Some out) at e = let same : out ≡ row = cc in words_wide widths ws [] row (at ∙ ap (λ x. Some x) same)

    second : (b : Bool) → cond b (or_wrong_width (words_from [] widths ws)) (Err WrongCount) ≡ Ok row → map length row ≡ widths
    second true e = last (words_from [] widths ws) refl e
    second false e = cc

    first : (b : Bool) → cond b (cond (length ws == length widths) (or_wrong_width (words_from [] widths ws)) (Err WrongCount)) (Err BadLine) ≡ Ok row → map length row ≡ widths
    first true e = second (length ws == length widths) e
    first false e = cc

-- ---- lines

rows_wide : (n : ℕ) (widths : List ℕ) (rows : List (List Word)) (ls : List (List ℕ)) (out : List (List Word)) → rows_from n widths rows ls ≡ Ok out → AreWide widths rows → AreWide widths out
rows_wide n widths rows [] out is wide = let same : rows ≡ out = cc in subst (AreWide widths) same wide
rows_wide n widths rows (l ∷ ls) out is wide =
    go (is_wordless (words l)) (λ e. rows_wide (n + 1) widths rows ls out e wide) (λ row. rows_wide (n + 1) widths (rows ++ row ∷ []) ls out) is
  where
    row_case : (r : Result (List Word) StepCause) → row_of widths (words l) ≡ r
        → ((row : List Word) → rows_from (n + 1) widths (rows ++ row ∷ []) ls ≡ Ok out → AreWide widths (rows ++ row ∷ []) → AreWide widths out)
        → on_row n r (λ row. rows_from (n + 1) widths (rows ++ row ∷ []) ls) ≡ Ok out → AreWide widths out
    row_case (Err cause) at more e = cc
    row_case (Ok row) at more e = more row e (wide_more widths rows row wide (row_wide widths (words l) row at))

    go : (b : Bool) → (rows_from (n + 1) widths rows ls ≡ Ok out → AreWide widths out)
        → ((row : List Word) → rows_from (n + 1) widths (rows ++ row ∷ []) ls ≡ Ok out → AreWide widths (rows ++ row ∷ []) → AreWide widths out)
        → cond b (rows_from (n + 1) widths rows ls) (on_row n (row_of widths (words l)) (λ row. rows_from (n + 1) widths (rows ++ row ∷ []) ls)) ≡ Ok out → AreWide widths out
    go true rest more e = rest e
    go false rest more e = row_case (row_of widths (words l)) refl more e

content_wide : (widths : List ℕ) (ws : List (List ℕ)) (row : List Word) → content_of widths ws ≡ Ok row → map length row ≡ widths
unfolding content_of
content_wide widths [] row is = cc
content_wide widths (w ∷ ws) row is = go (pointwise nat_eq w (codes "state")) is
  where
    go : (b : Bool) → cond b (row_of widths ws) (Err BadLine) ≡ Ok row → map length row ≡ widths
    go true e = row_wide widths ws row e
    go false e = cc

-- ---- the whole

-- the content and the rows
abbrev SaysWide : List ℕ → List ℕ → Steps → Type 0
SaysWide registers inputs says = (map length says.content ≡ registers) × AreWide inputs says.rows

from_wide : (n : ℕ) (registers inputs : List ℕ) (ls : List (List ℕ)) (says : Steps) → steps_from n registers inputs ls ≡ Ok says → SaysWide registers inputs says
from_wide n registers inputs [] says is = cc
from_wide n registers inputs (l ∷ ls) says is = go (is_wordless (words l)) (from_wide (n + 1) registers inputs ls says) is
  where
    with_wide : (content : List Word) → map length content ≡ registers → (r : Result (List (List Word)) (ℕ × StepCause)) → rows_from (n + 1) inputs [] ls ≡ r → with_rows content r ≡ Ok says → SaysWide registers inputs says
    with_wide content wide (Err fault) at e = cc
    with_wide content wide (Ok rows) at e =
        let same : record { content = content; rows = rows } ≡ says = cc in
        subst (SaysWide registers inputs) same (wide, rows_wide (n + 1) inputs [] ls rows at tt)

    content_case : (r : Result (List Word) StepCause) → content_of registers (words l) ≡ r → on_row n r (λ content. with_rows content (rows_from (n + 1) inputs [] ls)) ≡ Ok says → SaysWide registers inputs says
    content_case (Err cause) at e = cc
    content_case (Ok content) at e = with_wide content (content_wide registers (words l) content at) (rows_from (n + 1) inputs [] ls) refl e

    go : (b : Bool) → (steps_from (n + 1) registers inputs ls ≡ Ok says → SaysWide registers inputs says)
        → cond b (steps_from (n + 1) registers inputs ls) (on_row n (content_of registers (words l)) (λ content. with_rows content (rows_from (n + 1) inputs [] ls))) ≡ Ok says
        → SaysWide registers inputs says
    go true rest e = rest e
    go false rest e = content_case (content_of registers (words l)) refl e

-- what is read has a word for each width
pub steps_wide : (registers inputs text : List ℕ) (says : Steps) → steps_of registers inputs text ≡ Ok says → SaysWide registers inputs says
unfolding steps_of
steps_wide registers inputs text says is = go (nat_lt (2 ^ 26) (length text)) is
  where
    go : (b : Bool) → cond b (Err (1, TooLong)) (steps_from 1 registers inputs (lines text)) ≡ Ok says → SaysWide registers inputs says
    go true e = cc
    go false e = from_wide 1 registers inputs (lines text) says e
