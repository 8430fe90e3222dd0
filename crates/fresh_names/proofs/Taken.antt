-- Names that are taken.
use Rattle.std.proofs.Common.{◌≡◌, ◌⊎◌, inl, inr, ℕ, zero, suc, ◌+◌, ◌-◌, ◌<◌, Bool, true, false, cond, ◌&&◌, ◌||◌, not, nat_eq, List, [], ◌∷◌, ◌++◌, map, length, set, get_or, subst, refl, sym, ap, ◌∙◌, arith, eq-eqb, length-append}
use Rattle.std.specs.Prelude.{Some, None, position, is_some, slice_get, option_map}
use Rattle.std.specs.Cmp.Lexicographic.{pointwise}
use Rattle.std.specs.List.{list_any}
use Rattle.std.proofs.lemmas.Bool.{eqb-true, eqb-false}
use Rattle.std.proofs.lemmas.List.Quantifiers.{position-Some}
use Rattle.std.proofs.lemmas.Option.{slice_get-map, slice_get-get_or, slice_get_within}
use Rattle.fresh_names.specs.Fresh.{Name, is_taken, with_suffix, free_from}
use Rattle.fresh_names.specs.Tried.{IsTried, AreTried}
use Rattle.fresh_names.proofs.Steps.{free_next}

-- ---- equal names

pub same_is : (a b : Name) → pointwise nat_eq a b ≡ true → a ≡ b
same_is [] [] e = refl
same_is [] (y ∷ b) e = cc
same_is (x ∷ a) [] e = cc
same_is (x ∷ a) (y ∷ b) e = go (nat_eq x y) refl e (same_is a b)
  where
    go : (t : Bool) → nat_eq x y ≡ t → t && pointwise nat_eq a b ≡ true → (pointwise nat_eq a b ≡ true → a ≡ b) → x ∷ a ≡ y ∷ b
    go true is r same = ap (λ z. z ∷ a) (eqb-true x y is) ∙ ap (λ l. y ∷ l) (same r)
    go false is r same = cc

pub is_same : (a : Name) → pointwise nat_eq a a ≡ true
is_same [] = refl
is_same (x ∷ a) = ap (λ t. t && pointwise nat_eq a a) (eq-eqb x x refl) ∙ is_same a

both : (s t : Bool) → (s ≡ true → t ≡ true) → (t ≡ true → s ≡ true) → s ≡ t
both true t f g = sym (f refl)
both false true f g = g refl
both false false f g = refl

pub same_back : (a b : Name) → pointwise nat_eq a b ≡ pointwise nat_eq b a
same_back a b = both (pointwise nat_eq a b) (pointwise nat_eq b a)
    (λ e. ap (λ x. pointwise nat_eq x a) (sym (same_is a b e)) ∙ is_same a)
    (λ e. ap (λ x. pointwise nat_eq x b) (sym (same_is b a e)) ∙ is_same b)

-- ---- as keys of a table

module _ {K : Type 0} (f : K → Name) where
  pub taken_any : (ks : List K) (q : Name) → list_any (λ k. pointwise nat_eq q (f k)) ks ≡ is_taken (map f ks) q
  taken_any [] q = refl
  taken_any (k ∷ ks) q = rw (same_back q (f k), taken_any ks q) (or_else (pointwise nat_eq (f k) q) (is_taken (map f ks) q))
    where
      or_else : (a b : Bool) → (a || b) ≡ cond a true b
      or_else true b = refl
      or_else false b = refl

  -- where a name is found it stands there
  pub position_taken : (ks : List K) (q : Name) (i : ℕ) → position (λ k. pointwise nat_eq q (f k)) ks ≡ Some i → slice_get (map f ks) i ≡ Some q
  position_taken [] q i e = cc
  position_taken (k ∷ ks) q i e =
      let at = position-Some (λ k. pointwise nat_eq q (f k)) (k ∷ ks) i k e in
      slice_get-map f (k ∷ ks) i ∙ ap (option_map f) (slice_get-get_or (k ∷ ks) i k at.0) ∙ ap Some (sym (same_is q (f (get_or (k ∷ ks) i k)) at.1))

  -- where none is found the name is not taken
  pub position_none : (ks : List K) (q : Name) → is_some (position (λ k. pointwise nat_eq q (f k)) ks) ≡ list_any (λ k. pointwise nat_eq q (f k)) ks
      → position (λ k. pointwise nat_eq q (f k)) ks ≡ None → is_taken (map f ks) q ≡ false
  position_none ks q found e = sym (taken_any ks q) ∙ sym found ∙ ap is_some e

-- ---- more names

pub taken_more : (ts us : List Name) (q : Name) → is_taken ts q ≡ true → is_taken (ts ++ us) q ≡ true
taken_more [] us q e = cc
taken_more (t ∷ ts) us q e = go (pointwise nat_eq t q) e (taken_more ts us q)
  where
    go : (b : Bool) → cond b true (is_taken ts q) ≡ true → (is_taken ts q ≡ true → is_taken (ts ++ us) q ≡ true) → cond b true (is_taken (ts ++ us) q) ≡ true
    go true e r = refl
    go false e r = r e

pub taken_last : (ts : List Name) (q : Name) → is_taken (ts ++ q ∷ []) q ≡ true
taken_last [] q = ap (λ b. cond b true false) (is_same q)
taken_last (t ∷ ts) q = go (pointwise nat_eq t q) (taken_last ts q)
  where
    go : (b : Bool) → is_taken (ts ++ q ∷ []) q ≡ true → cond b true (is_taken (ts ++ q ∷ []) q) ≡ true
    go true e = refl
    go false e = e

-- a name that is among those taken
pub taken_at : (ts : List Name) (i : ℕ) (q : Name) → slice_get ts i ≡ Some q → is_taken ts q ≡ true
taken_at [] i q e = cc
taken_at (t ∷ ts) zero q e = let s : t ≡ q = cc in ap (λ x. cond (pointwise nat_eq x q) true (is_taken ts q)) s ∙ ap (λ b. cond b true (is_taken ts q)) (is_same q)
taken_at (t ∷ ts) (suc i) q e = go (pointwise nat_eq t q) (taken_at ts i q e)
  where
    go : (b : Bool) → is_taken ts q ≡ true → cond b true (is_taken ts q) ≡ true
    go true r = refl
    go false r = r

-- ---- what is known of suffixed names

pub tried_none : (ts : List Name) (w : Name) → IsTried ts w 0
tried_none ts w = record { within = omega arith; taken_below = λ k lt. absurd (omega (arith, lt)) }

pub tried_more : (ts us : List Name) (w : Name) (n : ℕ) → IsTried ts w n → IsTried (ts ++ us) w n
tried_more ts us w n h = record {
  within = omega (arith, h.within, length-append {A = Name});
  taken_below = λ k lt. taken_more ts us (with_suffix w k) (h.taken_below k lt);
}

-- one more
pub tried_next : (ts us : List Name) (w : Name) (n : ℕ) → n < length ts → is_taken ts (with_suffix w n) ≡ true → IsTried ts w n → IsTried ts w (n + 1)
tried_next ts us w n lt t h = record { within = omega (arith, lt); taken_below = below }
  where
    below : (k : ℕ) → k < n + 1 → is_taken ts (with_suffix w k) ≡ true
    below k small = go (nat_eq k n) refl
      where
        go : (b : Bool) → nat_eq k n ≡ b → is_taken ts (with_suffix w k) ≡ true
        go true e = ap (λ j. is_taken ts (with_suffix w j)) (eqb-true k n e) ∙ t
        go false e = h.taken_below k (omega (arith, small, eqb-false k n e))

-- the free name is taken
pub tried_taken : (ts : List Name) (w : Name) (n : ℕ) → IsTried ts w n → IsTried (ts ++ with_suffix w n ∷ []) w (n + 1)
tried_taken ts w n h = record { within = omega (arith, h.within, length-append {A = Name}); taken_below = below }
  where
    below : (k : ℕ) → k < n + 1 → is_taken (ts ++ with_suffix w n ∷ []) (with_suffix w k) ≡ true
    below k small = go (nat_eq k n) refl
      where
        go : (b : Bool) → nat_eq k n ≡ b → is_taken (ts ++ with_suffix w n ∷ []) (with_suffix w k) ≡ true
        go true e = ap (λ j. is_taken (ts ++ with_suffix w n ∷ []) (with_suffix w j)) (eqb-true k n e) ∙ taken_last ts (with_suffix w n)
        go false e = taken_more ts (with_suffix w n ∷ []) (with_suffix w k) (h.taken_below k (omega (arith, small, eqb-false k n e)))

-- ---- tables

pub get_prefix : {A : Type 0} (xs : List A) (x y : A) (i : ℕ) → slice_get (xs ++ x ∷ []) i ≡ Some y → (slice_get xs i ≡ Some y) ⊎ (i ≡ length xs) × (x ≡ y)
get_prefix [] x y zero e = inr (refl, cc)
get_prefix [] x y (suc i) e = cc
get_prefix (z ∷ xs) x y zero e = inl e
get_prefix (z ∷ xs) x y (suc i) e = go (get_prefix xs x y i e)
  where
    go : ((slice_get xs i ≡ Some y) ⊎ (i ≡ length xs) × (x ≡ y)) → (slice_get xs i ≡ Some y) ⊎ (suc i ≡ suc (length xs)) × (x ≡ y)
    go (inl h) = inl h
    go (inr h) = inr (ap suc h.0, h.1)

get_below : {A : Type 0} (xs : List A) (i : ℕ) (y : A) → slice_get xs i ≡ Some y → i < length xs
get_below xs i y e = slice_get_within xs i y e

-- a name more, of which nothing is known
pub table_more : (ts : List Name) (ns : List ℕ) (t : Name) → length ns ≡ length ts → AreTried ts ns → AreTried (ts ++ t ∷ []) (ns ++ 0 ∷ [])
table_more ts ns t paired h i n w e f = go (get_prefix ts t w i e) (get_prefix ns 0 n i f)
  where
    go : ((slice_get ts i ≡ Some w) ⊎ (i ≡ length ts) × (t ≡ w)) → ((slice_get ns i ≡ Some n) ⊎ (i ≡ length ns) × (0 ≡ n)) → IsTried (ts ++ t ∷ []) w n
    go (inl a) (inl b) = tried_more ts (t ∷ []) w n (h i n w a b)
    go (inl a) (inr b) = absurd (omega (arith, get_below ts i w a, b.0, paired))
    go (inr a) (inl b) = absurd (omega (arith, get_below ns i n b, a.0, paired))
    go (inr a) (inr b) = subst (IsTried (ts ++ t ∷ []) w) b.1 (tried_none (ts ++ t ∷ []) w)

get_set : {A : Type 0} (xs : List A) (j i : ℕ) (x y : A) → slice_get (set xs j x) i ≡ Some y → (slice_get xs i ≡ Some y) ⊎ (i ≡ j) × (x ≡ y)
get_set [] j i x y e = inl e
get_set (z ∷ xs) zero zero x y e = inr (refl, cc)
get_set (z ∷ xs) zero (suc i) x y e = inl e
get_set (z ∷ xs) (suc j) zero x y e = inl e
get_set (z ∷ xs) (suc j) (suc i) x y e = go (get_set xs j i x y e)
  where
    go : ((slice_get xs i ≡ Some y) ⊎ (i ≡ j) × (x ≡ y)) → (slice_get xs i ≡ Some y) ⊎ (suc i ≡ suc j) × (x ≡ y)
    go (inl h) = inl h
    go (inr h) = inr (ap suc h.0, h.1)

-- more is known of one name
pub table_set : (ts : List Name) (ns : List ℕ) (j m : ℕ) (t : Name) → slice_get ts j ≡ Some t → IsTried ts t m → AreTried ts ns → AreTried ts (set ns j m)
table_set ts ns j m t at more h i n w e f = go (get_set ns j i m n f)
  where
    go : ((slice_get ns i ≡ Some n) ⊎ (i ≡ j) × (m ≡ n)) → IsTried ts w n
    go (inl a) = h i n w e a
    go (inr a) =
        let same : t ≡ w = (let q : Some t ≡ Some w = sym at ∙ ap (slice_get ts) (sym a.0) ∙ e in cc) in
        subst (IsTried ts w) a.1 (subst (λ x. IsTried ts x m) same more)

-- what is tried does not change what is found
pub tried_same : (ts : List Name) (w : Name) (k : ℕ) → IsTried ts w k → free_from ts w (length ts - k) k ≡ free_from ts w (length ts) 0
tried_same ts w zero h = let e : length ts - 0 ≡ length ts = omega arith in ap (λ n. free_from ts w n 0) e
tried_same ts w (suc k) h =
    let lt : k < length ts = omega (arith, h.within) in
    let e : suc k ≡ k + 1 = omega arith in
    let less : IsTried ts w k = record { within = omega (arith, lt); taken_below = λ j small. h.taken_below j (omega (arith, small)) } in
    ap (λ j. free_from ts w (length ts - j) j) e
    ∙ free_next ts w (length ts) k (free_from ts w (length ts) 0) lt (h.taken_below k (omega arith)) (tried_same ts w k less)

-- a key that is not there goes last
pub key_last : {K : Type 0} (b : Bool) (ks : List K) (k : K) → b ≡ false → cond b ks (ks ++ k ∷ []) ≡ ks ++ k ∷ []
key_last b ks k e = ap (λ t. cond t ks (ks ++ k ∷ [])) e

-- a key that is there changes nothing
pub key_kept : {K : Type 0} (b : Bool) (ks : List K) (k : K) → b ≡ true → cond b ks (ks ++ k ∷ []) ≡ ks
key_kept b ks k e = ap (λ t. cond t ks (ks ++ k ∷ [])) e

pub one_more : {A : Type 0} (xs : List A) (x : A) → length (xs ++ x ∷ []) ≡ length xs + 1
one_more [] x = refl
one_more (y ∷ xs) x = let e : suc (length xs + 1) ≡ suc (length xs) + 1 = omega arith in ap suc (one_more xs x) ∙ e

-- an item stays where it is
pub get_stays : {A : Type 0} (xs ys : List A) (i : ℕ) (x : A) → slice_get xs i ≡ Some x → slice_get (xs ++ ys) i ≡ Some x
get_stays [] ys i x e = cc
get_stays (z ∷ xs) ys zero x e = e
get_stays (z ∷ xs) ys (suc i) x e = get_stays xs ys i x e
