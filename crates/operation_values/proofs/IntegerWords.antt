-- The words of integers, one more at a time.
use Rattle.std.proofs.Common.{◌≡◌, ℕ, suc, ◌+◌, ◌<◌, List, [], ◌∷◌, ◌++◌, length, take, get_or, All, inl, inr, take-suc, sym, ap, subst, ◌∙◌, arith}
use Rattle.std.proofs.lemmas.List.Elements.{All-append}
use Rattle.wiring.specs.Wiring.{In}
use Rattle.wiring.proofs.Members.{All-from_members}
use Rattle.bits_core.specs.Word.{Word}
use Rattle.operation_values.specs.Suits.{IsInteger}

-- the first items and one more
pub take_more : {A : Type 0} (xs : List A) (i : ℕ) (x : A) → i < length xs → x ≡ get_or xs i x → take (i + 1) xs ≡ take i xs ++ (x ∷ [])
take_more xs i x within is =
    let e : i + 1 ≡ suc i = omega arith in ap (λ n. take n xs) e ∙ take-suc xs i x within ∙ ap (λ z. take i xs ++ (z ∷ [])) (sym is)

-- an integer alone
all_one : (x : Word) → IsInteger x → All IsInteger (x ∷ [])
all_one x is = All-from_members IsInteger (x ∷ []) member
  where
    member : (y : Word) → In y (x ∷ []) → IsInteger y
    member y (inl same) = subst IsInteger (sym same) is
    member y (inr none) = absurd none

-- one integer more
pub integers_more : (xs : List Word) (i : ℕ) (x : Word) → i < length xs → x ≡ get_or xs i x → All IsInteger (take i xs) → IsInteger x → All IsInteger (take (i + 1) xs)
integers_more xs i x within is before next =
    subst (All IsInteger) (sym (take_more xs i x within is)) (All-append IsInteger (take i xs) (x ∷ []) before (all_one x next))
