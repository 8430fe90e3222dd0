-- Ids in a list: how often each stands in it after an edit, and what a list has at a position that is written.
use Rattle.std.proofs.Common.{◌≡◌, ℕ, zero, suc, ◌+◌, ◌<◌, ◌≤◌, Bool, true, false, cond, nat_eq, List, [], ◌∷◌, ◌++◌, map, length, get_or, set, take, drop, refl, ap, sym, arith}
use Rattle.std.specs.Prelude.{insert, max, Contains}
use Rattle.std.proofs.lemmas.List.{take-append-drop, set_split}
use Rattle.std.proofs.lemmas.Bool.{eqb-true, eqb-false}
use Rattle.linked_lists.specs.Ids.{times, put_at}

-- ---- how often an id stands in a list

pub times-append : (v : ℕ) (xs ys : List ℕ) → times v (xs ++ ys) ≡ times v xs + times v ys
times-append v [] ys = omega arith
times-append v (i ∷ xs) ys = go (nat_eq i v) (times-append v xs ys)
  where
    go : (b : Bool) → times v (xs ++ ys) ≡ times v xs + times v ys →
        cond b (suc (times v (xs ++ ys))) (times v (xs ++ ys)) ≡ cond b (suc (times v xs)) (times v xs) + times v ys
    go true r = omega (arith, r)
    go false r = r

-- an id that is there stands there once at least
pub contained_times : (ids : List ℕ) (v : ℕ) → Contains ids v → 0 < times v ids
contained_times [] v (k, l, e) = absurd (omega arith)
contained_times (i ∷ ids) v h = go (nat_eq i v) refl h (contained_times ids v)
  where
    go : (b : Bool) → nat_eq i v ≡ b → Contains (i ∷ ids) v → (Contains ids v → 0 < times v ids) → 0 < cond b (suc (times v ids)) (times v ids)
    go true t h r = omega arith
    go false t (zero, l, e) r = absurd (eqb-false i v t e)
    go false t (suc k, l, e) r = r (k, omega arith, e)

-- an id that stands there once at least is there
pub times_contained : (ids : List ℕ) (v : ℕ) → 0 < times v ids → Contains ids v
times_contained [] v h = absurd (omega arith)
times_contained (i ∷ ids) v h = go (nat_eq i v) refl h (times_contained ids v)
  where
    go : (b : Bool) → nat_eq i v ≡ b → 0 < cond b (suc (times v ids)) (times v ids) → (0 < times v ids → Contains ids v) → Contains (i ∷ ids) v
    go true t h r = (0, omega arith, eqb-true i v t)
    go false t h r = let q = r h in (suc q.0, omega (arith, q.1), q.2)

pub not_contained : (ids : List ℕ) (v : ℕ) → times v ids ≡ 0 → Contains ids v → ⊥
not_contained ids v e h = omega (arith, e, contained_times ids v h)

-- an id that is there is below a bound above which none stands
pub live_below : (xs ys : List ℕ) (n v : ℕ) → ((w : ℕ) → n ≤ w → times w (xs ++ ys) ≡ 0) → Contains xs v → v < n
live_below xs ys n v b h =
    let p : 0 < times v (xs ++ ys) = omega (arith, contained_times xs v h, times-append v xs ys) in
    let q : n ≤ v → times v (xs ++ ys) ≡ 0 = b v in
    grind (arith, p, q)

pub times-insert : (v p : ℕ) (xs : List ℕ) (x : ℕ) → times v (insert xs p x) ≡ times v (xs ++ x ∷ [])
times-insert v p xs x =
    omega (arith, times-append v (take p xs) (x ∷ drop p xs), times-append v (x ∷ []) (drop p xs), ap (times v) (take-append-drop p xs), times-append v (take p xs) (drop p xs), times-append v xs (x ∷ []))

-- ---- a list that is written at a position, or made longer by one

module _ {A : Type 0} where
  pub get_or-put_at_same : (i : ℕ) (x d : A) (xs : List A) → i ≤ length xs → get_or (put_at i x xs) i d ≡ x
  get_or-put_at_same zero x d xs h = refl
  get_or-put_at_same (suc i) x d [] h = absurd (omega arith)
  get_or-put_at_same (suc i) x d (y ∷ ys) h = get_or-put_at_same i x d ys (omega arith)

  pub get_or-put_at_other : (i j : ℕ) (x d : A) (xs : List A) → i ≤ length xs → (j ≡ i → ⊥) → get_or (put_at i x xs) j d ≡ get_or xs j d
  get_or-put_at_other zero zero x d xs h n = absurd (n refl)
  get_or-put_at_other zero (suc j) x d [] h n = refl
  get_or-put_at_other zero (suc j) x d (y ∷ ys) h n = refl
  get_or-put_at_other (suc i) j x d [] h n = absurd (omega arith)
  get_or-put_at_other (suc i) zero x d (y ∷ ys) h n = refl
  get_or-put_at_other (suc i) (suc j) x d (y ∷ ys) h n = get_or-put_at_other i j x d ys (omega arith) (λ e. n (ap suc e))

  pub length-put_at : (i : ℕ) (x : A) (xs : List A) → i ≤ length xs → length (put_at i x xs) ≡ max (length xs) (i + 1)
  length-put_at zero x [] h = refl
  length-put_at zero x (y ∷ ys) h = omega arith
  length-put_at (suc i) x [] h = absurd (omega arith)
  length-put_at (suc i) x (y ∷ ys) h = omega (arith, length-put_at i x ys (omega arith))

  pub put_at_end : (i : ℕ) (x : A) (xs : List A) → i ≡ length xs → put_at i x xs ≡ xs ++ x ∷ []
  put_at_end i x [] e = rw e refl
  put_at_end zero x (y ∷ ys) e = absurd (omega arith)
  put_at_end (suc i) x (y ∷ ys) e = ap (λ zs. y ∷ zs) (put_at_end i x ys (omega arith))

  pub put_at_set : (i : ℕ) (x : A) (xs : List A) → i < length xs → put_at i x xs ≡ set xs i x
  put_at_set i x xs h = sym (set_split xs i x h)

-- what is written twice is what was written last
pub set-put_at : {A : Type 0} (i : ℕ) (x y : A) (xs : List A) → i ≤ length xs → set (put_at i x xs) i y ≡ put_at i y xs
set-put_at zero x y xs h = refl
set-put_at (suc i) x y [] h = absurd (omega (arith, h))
set-put_at (suc i) x y (z ∷ zs) h = ap (λ ws. z ∷ ws) (set-put_at i x y zs (omega (arith, h)))

pub map-put_at : {A B : Type 0} (f : A → B) (i : ℕ) (x : A) (xs : List A) → map f (put_at i x xs) ≡ put_at i (f x) (map f xs)
map-put_at f zero x [] = refl
map-put_at f zero x (y ∷ ys) = refl
map-put_at f (suc i) x [] = refl
map-put_at f (suc i) x (y ∷ ys) = ap (λ zs. f y ∷ zs) (map-put_at f i x ys)

-- a number that is not the bound is below it
pub below_unless : (i n : ℕ) → i ≤ n → (i ≡ n → ⊥) → i < n
below_unless zero zero h f = absurd (f refl)
below_unless zero (suc n) h f = omega arith
below_unless (suc i) zero h f = absurd (omega arith)
below_unless (suc i) (suc n) h f = omega (arith, below_unless i n (omega arith) (λ e. f (ap suc e)))

-- an id that is put in is there
pub insert_there : (xs : List ℕ) (p x : ℕ) → Contains (insert xs p x) x
insert_there xs zero x = (0, omega arith, refl)
insert_there [] (suc p) x = (0, omega arith, refl)
insert_there (y ∷ ys) (suc p) x = let q = insert_there ys p x in (suc q.0, omega (arith, q.1), q.2)
