-- Rows that are read word by word.
use Rattle.std.proofs.Common.{◌≡◌, ℕ, suc, ◌+◌, List, [], ◌∷◌, ◌++◌, sym, ◌∙◌, ap, ap₂, subst, arith}
use Rattle.std.specs.Prelude.{Option, Some}
use Rattle.std.specs.List.{All}
use Rattle.bits_core.specs.Word.{Word}
use Rattle.step_file.specs.Literals.{word_in}
use Rattle.step_file.specs.Rows.{on_word, words_from}
use Rattle.step_file.specs.Answers.{IsWidth}

-- widths behind the first
pub widths_rest : (ns ms : List ℕ) (n : ℕ) → ns ≡ n ∷ ms → All IsWidth ns → All IsWidth ms
widths_rest ns ms n e all k d h =
    let whole : All IsWidth (n ∷ ms) = subst (λ (xs : List ℕ). All IsWidth xs) e all in
    whole (suc k) d (omega (arith, h))

-- one more word is read
pub words_more : (row more : List Word) (ns ms : List ℕ) (n : ℕ) (ws vs : List (List ℕ)) (w : List ℕ) (x : Word) → ns ≡ n ∷ ms → ws ≡ w ∷ vs → word_in n w ≡ Some x
    → more ≡ row ++ x ∷ [] → words_from more ms vs ≡ words_from row ns ws
words_more row more ns ms n ws vs w x e f is new =
    sym (ap₂ (λ (xs : List ℕ) (ys : List (List ℕ)). words_from row xs ys) e f
    ∙ ap (λ (o : Option Word). on_word o (λ (y : Word). words_from (row ++ y ∷ []) ms vs)) is
    ∙ ap (λ (r : List Word). words_from r ms vs) (sym new))
