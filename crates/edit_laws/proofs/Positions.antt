-- Positions, operations and anchors of a body after an operation is put in, taken out or changed in place.
use Rattle.std.proofs.Common.{◌≡◌, ℕ, zero, suc, ◌≤◌, Bool, true, false, cond, List, [], ◌∷◌, length, map, take, set, insert, remove, slice_get, Some, None, refl, sym, ap, ◌∙◌, arith, option_map}
use Rattle.wiring.proofs.Options.{option_map_some, option_map_none}
use Rattle.hw_model.specs.Design.{Ref, Op}
use Rattle.edit_laws.specs.Edit.{retarget, is_anchor, anchors}
use Rattle.edit_laws.specs.Laws.{up, down, other_than}

-- ---- positions

pub down-up : (i j : ℕ) → down i (up i j) ≡ Some j
down-up zero j = refl
down-up (suc i) zero = refl
down-up (suc i) (suc j) = ap (option_map suc) (down-up i j)

pub up_from_down : (i j j' : ℕ) → down i j ≡ Some j' → up i j' ≡ j
up_from_down zero zero j' is = cc
up_from_down zero (suc j) j' is = let same : j ≡ j' = cc in ap suc (sym same)
up_from_down (suc i) zero j' is = let same : zero ≡ j' = cc in ap (up (suc i)) (sym same)
up_from_down (suc i) (suc j) j' is =
    let from = option_map_some suc (down i j) is in
    ap (up (suc i)) (sym from.2) ∙ ap suc (up_from_down i j from.0 from.1)

pub down_none : (i j : ℕ) → down i j ≡ None → j ≡ i
down_none zero zero is = refl
down_none zero (suc j) is = cc
down_none (suc i) zero is = cc
down_none (suc i) (suc j) is = ap suc (down_none i j (option_map_none suc (down i j) is))

pub down_same : (i : ℕ) → down i i ≡ None
down_same zero = refl
down_same (suc i) = ap (option_map suc) (down_same i)

pub other_some : (i j j' : ℕ) → other_than i j ≡ Some j' → j ≡ j'
other_some zero zero j' is = cc
other_some zero (suc j) j' is = cc
other_some (suc i) zero j' is = cc
other_some (suc i) (suc j) j' is =
    let from = option_map_some suc (other_than i j) is in
    ap suc (other_some i j from.0 from.1) ∙ from.2

pub other_none : (i j : ℕ) → other_than i j ≡ None → j ≡ i
other_none zero zero is = refl
other_none zero (suc j) is = cc
other_none (suc i) zero is = cc
other_none (suc i) (suc j) is = ap suc (other_none i j (option_map_none suc (other_than i j) is))

pub other_same : (i : ℕ) → other_than i i ≡ None
other_same zero = refl
other_same (suc i) = ap (option_map suc) (other_same i)

-- ---- what stands at a position

module _ {A : Type 0} where
  pub get_put : (xs : List A) (i j : ℕ) (x : A) → i ≤ length xs → slice_get (insert xs i x) (up i j) ≡ slice_get xs j
  get_put xs zero j x within = refl
  get_put [] (suc i) j x within = absurd (omega arith)
  get_put (y ∷ ys) (suc i) zero x within = refl
  get_put (y ∷ ys) (suc i) (suc j) x within = get_put ys i j x (omega arith)

  pub get_taken : (xs : List A) (i j j' : ℕ) → down i j ≡ Some j' → slice_get (remove xs i) j' ≡ slice_get xs j
  get_taken [] zero j j' is = refl
  get_taken [] (suc i) j j' is = refl
  get_taken (y ∷ ys) zero zero j' is = cc
  get_taken (y ∷ ys) zero (suc j) j' is = let same : j ≡ j' = cc in ap (slice_get ys) (sym same)
  get_taken (y ∷ ys) (suc i) zero j' is = let same : zero ≡ j' = cc in ap (slice_get (y ∷ remove ys i)) (sym same)
  get_taken (y ∷ ys) (suc i) (suc j) j' is =
      let from = option_map_some suc (down i j) is in
      ap (slice_get (y ∷ remove ys i)) (sym from.2) ∙ get_taken ys i j from.0 from.1

  pub get_other : (xs : List A) (i j j' : ℕ) (x : A) → other_than i j ≡ Some j' → slice_get (set xs i x) j ≡ slice_get xs j
  get_other [] i j j' x is = refl
  get_other (y ∷ ys) zero zero j' x is = cc
  get_other (y ∷ ys) zero (suc j) j' x is = refl
  get_other (y ∷ ys) (suc i) zero j' x is = refl
  get_other (y ∷ ys) (suc i) (suc j) j' x is = let from = option_map_some suc (other_than i j) is in get_other ys i j from.0 x from.1

  pub take_map : {B : Type 0} (f : A → B) (n : ℕ) (xs : List A) → take n (map f xs) ≡ map f (take n xs)
  take_map f zero xs = refl
  take_map f (suc n) [] = refl
  take_map f (suc n) (x ∷ xs) = ap (λ ys. f x ∷ ys) (take_map f n xs)

-- ---- anchors

pub anchors-retarget : (f : Ref → Ref) (os : List Op) → anchors (map (retarget f) os) ≡ map (retarget f) (anchors os)
anchors-retarget f [] = refl
anchors-retarget f (o ∷ os) = go (is_anchor o) (anchors-retarget f os)
  where
    go : (b : Bool) → anchors (map (retarget f) os) ≡ map (retarget f) (anchors os)
        → cond b (retarget f o ∷ anchors (map (retarget f) os)) (anchors (map (retarget f) os)) ≡ map (retarget f) (cond b (o ∷ anchors os) (anchors os))
    go true rest = ap (λ xs. retarget f o ∷ xs) rest
    go false rest = rest

skip : (o : Op) (os : List Op) → is_anchor o ≡ false → anchors (o ∷ os) ≡ anchors os
skip o os plain = ap (λ b. cond b (o ∷ anchors os) (anchors os)) plain

both : (o : Op) (os os' : List Op) → anchors os ≡ anchors os' → anchors (o ∷ os) ≡ anchors (o ∷ os')
both o os os' same = ap (λ xs. cond (is_anchor o) (o ∷ xs) xs) same

pub anchors-insert : (os : List Op) (i : ℕ) (o : Op) → is_anchor o ≡ false → anchors (insert os i o) ≡ anchors os
anchors-insert os zero o plain = skip o os plain
anchors-insert [] (suc i) o plain = skip o [] plain
anchors-insert (y ∷ ys) (suc i) o plain = both y (insert ys i o) ys (anchors-insert ys i o plain)

pub anchors-remove : (os : List Op) (i : ℕ) (o : Op) → slice_get os i ≡ Some o → is_anchor o ≡ false → anchors (remove os i) ≡ anchors os
anchors-remove [] i o is plain = cc
anchors-remove (y ∷ ys) zero o is plain = let same : y ≡ o = cc in sym (skip y ys (ap is_anchor same ∙ plain))
anchors-remove (y ∷ ys) (suc i) o is plain = both y (remove ys i) ys (anchors-remove ys i o is plain)

pub anchors-set : (os : List Op) (i : ℕ) (o o' : Op) → slice_get os i ≡ Some o → is_anchor o ≡ false → is_anchor o' ≡ false → anchors (set os i o') ≡ anchors os
anchors-set [] i o o' is plain plain' = refl
anchors-set (y ∷ ys) zero o o' is plain plain' = let same : y ≡ o = cc in skip o' ys plain' ∙ sym (skip y ys (ap is_anchor same ∙ plain))
anchors-set (y ∷ ys) (suc i) o o' is plain plain' = both y (set ys i o') ys (anchors-set ys i o o' is plain plain')

pub before-insert : (os : List Op) (i j : ℕ) (o : Op) → i ≤ length os → is_anchor o ≡ false → anchors (take (up i j) (insert os i o)) ≡ anchors (take j os)
before-insert os zero j o within plain = skip o (take j os) plain
before-insert [] (suc i) j o within plain = absurd (omega arith)
before-insert (y ∷ ys) (suc i) zero o within plain = refl
before-insert (y ∷ ys) (suc i) (suc j) o within plain = both y (take (up i j) (insert ys i o)) (take j ys) (before-insert ys i j o (omega arith) plain)

pub before-remove : (os : List Op) (i j j' : ℕ) (o : Op) → slice_get os i ≡ Some o → is_anchor o ≡ false → down i j ≡ Some j'
    → anchors (take j' (remove os i)) ≡ anchors (take j os)
before-remove [] i j j' o is plain at_j = cc
before-remove (y ∷ ys) zero zero j' o is plain at_j = cc
before-remove (y ∷ ys) zero (suc j) j' o is plain at_j =
    let same : y ≡ o = cc in
    let here : j ≡ j' = cc in
    ap (λ n. anchors (take n ys)) (sym here) ∙ sym (skip y (take j ys) (ap is_anchor same ∙ plain))
before-remove (y ∷ ys) (suc i) zero j' o is plain at_j =
    let here : zero ≡ j' = cc in
    ap (λ n. anchors (take n (y ∷ remove ys i))) (sym here)
before-remove (y ∷ ys) (suc i) (suc j) j' o is plain at_j =
    let from = option_map_some suc (down i j) at_j in
    ap (λ n. anchors (take n (y ∷ remove ys i))) (sym from.2)
    ∙ both y (take from.0 (remove ys i)) (take j ys) (before-remove ys i j from.0 o is plain from.1)

pub before-set : (os : List Op) (i j : ℕ) (o o' : Op) → slice_get os i ≡ Some o → is_anchor o ≡ false → is_anchor o' ≡ false
    → anchors (take j (set os i o')) ≡ anchors (take j os)
before-set [] i j o o' is plain plain' = refl
before-set (y ∷ ys) i zero o o' is plain plain' = beginning (y ∷ ys) i
  where
    beginning : (xs : List Op) (i : ℕ) → anchors (take zero (set xs i o')) ≡ []
    beginning xs i = refl
before-set (y ∷ ys) zero (suc j) o o' is plain plain' =
    let same : y ≡ o = cc in
    skip o' (take j ys) plain' ∙ sym (skip y (take j ys) (ap is_anchor same ∙ plain))
before-set (y ∷ ys) (suc i) (suc j) o o' is plain plain' = both y (take j (set ys i o')) (take j ys) (before-set ys i j o o' is plain plain')
