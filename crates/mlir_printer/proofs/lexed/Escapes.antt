-- Strings whose bytes stand for themselves before.
use Rattle.std.proofs.Common.{◌≡◌, ℕ, suc, ◌+◌, ◌-◌, ◌/◌, ◌%◌, Bool, true, false, cond, List, [], ◌∷◌, ◌++◌, take, drop, length, refl, sym, ap, ◌∙◌, append_assoc, arith}
use Rattle.std.specs.Prelude.{◌==◌}
use Rattle.std.proofs.lemmas.List.{take_all, length-drop}
use Rattle.mlir_lexer.specs.Runs.{run}
use Rattle.mlir_printer.specs.Strings.{is_plain, hex_digit, escaped_byte, escaped_bytes}

plain_stays : (b : ℕ) → is_plain b ≡ true → escaped_byte b ≡ b ∷ []
unfolding escaped_byte
plain_stays b e = ap (λ t. cond t (b ∷ []) (cond (b == 92) (92 ∷ 92 ∷ []) (92 ∷ hex_digit (b / 16) ∷ hex_digit (b % 16) ∷ []))) e

-- the plain bytes before, and the others as they are escaped
plain_prefix : (bs : List ℕ) → take (run is_plain bs) bs ++ escaped_bytes (drop (run is_plain bs) bs) ≡ escaped_bytes bs
plain_prefix [] = refl
plain_prefix (b ∷ bs) = go (is_plain b) refl (plain_prefix bs)
  where
    go : (t : Bool) → is_plain b ≡ t → take (run is_plain bs) bs ++ escaped_bytes (drop (run is_plain bs) bs) ≡ escaped_bytes bs
        → take (cond t (run is_plain bs + 1) 0) (b ∷ bs) ++ escaped_bytes (drop (cond t (run is_plain bs + 1) 0) (b ∷ bs)) ≡ escaped_byte b ++ escaped_bytes bs
    go true e rest =
        let n : run is_plain bs + 1 ≡ suc (run is_plain bs) = omega arith in
        ap (λ k. take k (b ∷ bs) ++ escaped_bytes (drop k (b ∷ bs))) n ∙ ap (λ l. b ∷ l) rest ∙ sym (ap (λ l. l ++ escaped_bytes bs) (plain_stays b e))
    go false e rest = refl

-- both parts added
pub plain_parts : (out one two text : List ℕ) (n : ℕ) → n ≡ run is_plain text → one ≡ out ++ take n text → two ≡ one ++ escaped_bytes (take (length text - n) (drop n text)) → two ≡ out ++ escaped_bytes text
plain_parts out one two text n is p q =
    q ∙ ap (λ l. one ++ escaped_bytes l) (take_all (length text - n) (drop n text) (omega (arith, length-drop n text)))
    ∙ ap (λ x. x ++ escaped_bytes (drop n text)) p ∙ append_assoc out (take n text) (escaped_bytes (drop n text))
    ∙ ap (λ k. out ++ (take k text ++ escaped_bytes (drop k text))) is ∙ ap (λ l. out ++ l) (plain_prefix text)
