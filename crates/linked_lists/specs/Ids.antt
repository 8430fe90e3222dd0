-- Ids in a list.
use Rattle.std.specs.Prelude.{ℕ, suc, cond, nat_eq, List, [], ◌∷◌, ◌++◌, take, drop}

-- how many times an id stands among ids
abbrev pub times : ℕ → List ℕ → ℕ
times v [] = 0
times v (i ∷ ids) = cond (nat_eq i v) (suc (times v ids)) (times v ids)

-- a list with another element at a position, which may be the one after the last
abbrev pub put_at : {A : Type 0} → ℕ → A → List A → List A
put_at i x xs = take i xs ++ x ∷ drop (suc i) xs
