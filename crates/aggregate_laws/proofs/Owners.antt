-- Which of the parts of joined lists a position is in, by their lengths.
use Rattle.std.proofs.Common.{◌≡◌, ℕ, zero, suc, ◌+◌, ◌-◌, ◌<◌, cond, nat_lt, List, [], ◌∷◌, length, map, take, flat_map, slice_get, Some, refl, ap, ◌∙◌, arith, zero-add, length-append}
use Rattle.std.proofs.lemmas.Bool.{lt-ltb, le-ltb}
use Rattle.wiring.specs.Lists.{total}

abbrev pub owner : List ℕ → ℕ → ℕ
owner [] n = 0
owner (s ∷ ss) n = cond (nat_lt n s) 0 (suc (owner ss (n - s)))

pub owner_at : (ss : List ℕ) (j i s : ℕ) → slice_get ss j ≡ Some s → i < s → owner ss (total (take j ss) + i) ≡ j
owner_at [] j i s is below = cc
owner_at (x ∷ ss) zero i s is below =
    let same : x ≡ s = cc in
    ap (λ n. owner (x ∷ ss) n) (zero-add i) ∙ ap (λ b. cond b 0 (suc (owner ss (i - x)))) (lt-ltb i x (omega arith))
owner_at (x ∷ ss) (suc j) i s is below =
    ap (λ b. cond b 0 (suc (owner ss (x + total (take j ss) + i - x)))) (le-ltb (x + total (take j ss) + i) x (omega arith))
    ∙ ap (λ n. suc (owner ss n)) (let e : x + total (take j ss) + i - x ≡ total (take j ss) + i = omega arith in e)
    ∙ ap suc (owner_at ss j i s is below)

-- the lengths of the parts give where they begin
pub starts : {A B : Type 0} (f : A → List B) (xs : List A) (j : ℕ) → length (flat_map f (take j xs)) ≡ total (take j (map (λ x. length (f x)) xs))
starts f xs zero = refl
starts f [] (suc j) = refl
starts f (x ∷ xs) (suc j) = length-append (f x) (flat_map f (take j xs)) ∙ ap (λ n. length (f x) + n) (starts f xs j)

pub take_counts : {A : Type 0} (f : A → ℕ) (xs : List A) (j : ℕ) → total (map f (take j xs)) ≡ total (take j (map f xs))
take_counts f xs zero = refl
take_counts f [] (suc j) = refl
take_counts f (x ∷ xs) (suc j) = ap (λ n. f x + n) (take_counts f xs j)
