-- What is left of a list from a position on, and lists to which others were added.
use Rattle.std.proofs.Common.{◌≡◌, ℕ, ◌+◌, ◌<◌, List, ◌∷◌, ◌++◌, length, drop, get_or, sym, ap, ◌∙◌, append_assoc}
use Rattle.std.proofs.lemmas.List.{drop_more}

-- from a position on there is the item at it, and what is after it
pub split_at : {A : Type 0} (xs : List A) (i : ℕ) (x : A) → i < length xs → x ≡ get_or xs i x → drop i xs ≡ x ∷ drop (i + 1) xs
split_at xs i x lt at = drop_more xs i x lt ∙ ap (λ y. y ∷ drop (i + 1) xs) (sym at)

-- three parts added
pub three_added : (out one two end a b c : List ℕ) → one ≡ out ++ a → two ≡ one ++ b → end ≡ two ++ c → end ≡ out ++ (a ++ (b ++ c))
three_added out one two end a b c p q r =
    r ∙ ap (λ x. x ++ c) (q ∙ ap (λ x. x ++ b) p) ∙ append_assoc (out ++ a) b c ∙ append_assoc out a (b ++ c)
