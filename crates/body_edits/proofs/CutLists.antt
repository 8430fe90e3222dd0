-- Lists put together from the part before an element, others, and the part after it.
use Rattle.std.proofs.Common.{◌≡◌, ℕ, zero, suc, ◌<◌, List, [], ◌∷◌, ◌++◌, length, map, take, drop, refl, ap, ◌∙◌, arith}
use Rattle.fold_laws.specs.Nested.{splice}

cut_after : {A : Type 0} (n : ℕ) (ys xs : List A) → n < length xs → take n xs ++ ys ++ drop (suc n) xs ≡ splice n ys xs
cut_after n ys [] within = absurd (omega (arith, within))
cut_after zero ys (x ∷ xs) within = refl
cut_after (suc n) ys (x ∷ xs) within = ap (λ zs. x ∷ zs) (cut_after n ys xs (omega (arith, within)))

pub splice_cut : {A : Type 0} (n k : ℕ) (ys xs : List A) → k ≡ suc n → n < length xs → take n xs ++ ys ++ drop k xs ≡ splice n ys xs
splice_cut n k ys xs next within = ap (λ m. take n xs ++ ys ++ drop m xs) next ∙ cut_after n ys xs within

map_after : {A B : Type 0} (f : A → B) (n : ℕ) (ys : List B) (xs : List A) → n < length xs → map f (take n xs) ++ ys ++ map f (drop (suc n) xs) ≡ splice n ys (map f xs)
map_after f n ys [] within = absurd (omega (arith, within))
map_after f zero ys (x ∷ xs) within = refl
map_after f (suc n) ys (x ∷ xs) within = ap (λ zs. f x ∷ zs) (map_after f n ys xs (omega (arith, within)))

pub map_cut : {A B : Type 0} (f : A → B) (n k : ℕ) (ys : List B) (xs : List A) → k ≡ suc n → n < length xs → map f (take n xs) ++ ys ++ map f (drop k xs) ≡ splice n ys (map f xs)
map_cut f n k ys xs next within = ap (λ m. map f (take n xs) ++ ys ++ map f (drop m xs)) next ∙ map_after f n ys xs within
