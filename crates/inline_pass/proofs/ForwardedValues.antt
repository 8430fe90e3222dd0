-- A value that stands for a result of an operation of a body, while wires are taken out of that.
use Rattle.std.proofs.Common.{◌≡◌, ◌⊎◌, ℕ, zero, suc, ◌+◌, ◌<◌, ◌≤◌, Bool, true, false, cond, nat_eq, ◌&&◌, List, [], ◌∷◌, map, remove, Option, Some, None, slice_get, refl, sym, ap, ap₂, subst, ◌∙◌, inl, inr, arith, eq-eqb, option_map, option_and_then}
use Rattle.std.proofs.lemmas.Bool.{eqb-true, eqb-false}
use Rattle.std.proofs.lemmas.Option.{slice_get-map}
use Rattle.wiring.proofs.Edits.{map-remove}
use Rattle.hw_model.specs.Design.{Ref, Op}
use Rattle.hw_model.specs.Design.Ref.{port, result, undefined}
use Rattle.ir_store.specs.Positions.{same_ref, replaced_ref}
use Rattle.edit_laws.specs.Edit.{retarget}
use Rattle.edit_laws.specs.Laws.{up, down, ref_after_erase, without, erase_op}
use Rattle.edit_laws.proofs.Positions.{up_from_down, down_none, down_same, get_taken}
use Rattle.edit_laws.proofs.OtherOperands.{option_map_retarget_id}
use Rattle.inline_laws.specs.Inline.{ref_or_undefined}
use Rattle.inline_laws.specs.Unwire.{operand_at, unwire}

-- ---- one value in the place of a result

is_it : (i k : ℕ) (r : Ref) → (r ≡ result i k) ⊎ (r ≡ result i k → ⊥)
is_it i k (port n) = inr (λ e. cc)
is_it i k undefined = inr (λ e. cc)
is_it i k (result j l) = go (nat_eq i j) refl (nat_eq k l) refl
  where
    go : (b : Bool) → nat_eq i j ≡ b → (c : Bool) → nat_eq k l ≡ c → (result j l ≡ result i k) ⊎ (result j l ≡ result i k → ⊥)
    go true e true f = inl (ap₂ result (sym (eqb-true i j e)) (sym (eqb-true k l f)))
    go true e false f = inr (λ same. eqb-false k l f (let h : k ≡ l = cc in h))
    go false e c f = inr (λ same. eqb-false i j e (let h : i ≡ j = cc in h))

pub moved_itself : (i k : ℕ) (y : Ref) → replaced_ref (result i k) y (result i k) ≡ y
moved_itself i k y = ap₂ (λ b c. cond (b && c) y (result i k)) (eq-eqb i i refl) (eq-eqb k k refl)

pub moved_other : (i k : ℕ) (y r : Ref) → (r ≡ result i k → ⊥) → replaced_ref (result i k) y r ≡ r
moved_other i k y (port n) away = refl
moved_other i k y undefined away = refl
moved_other i k y (result j l) away = go (nat_eq i j) refl (nat_eq k l) refl
  where
    go : (b : Bool) → nat_eq i j ≡ b → (c : Bool) → nat_eq k l ≡ c → cond (b && c) y (result j l) ≡ result j l
    go true e true f = absurd (away (ap₂ result (sym (eqb-true i j e)) (sym (eqb-true k l f))))
    go true e false f = refl
    go false e true f = refl
    go false e false f = refl

-- values change by F where one stands for another before, and by G where it does not
pub moved_through : (F G : Ref → Ref) (i k i' k' : ℕ) (y y' : Ref) → F (result i k) ≡ result i' k' → G y ≡ y'
    → ((r : Ref) → (r ≡ result i k → ⊥) → G r ≡ replaced_ref (result i' k') y' (F r)) → (r : Ref)
    → G (replaced_ref (result i k) y r) ≡ replaced_ref (result i' k') y' (F r)
moved_through F G i k i' k' y y' goes stands others r = go (is_it i k r)
  where
    go : (r ≡ result i k) ⊎ (r ≡ result i k → ⊥) → G (replaced_ref (result i k) y r) ≡ replaced_ref (result i' k') y' (F r)
    go (inl same) =
        ap (λ z. G (replaced_ref (result i k) y z)) same ∙ ap G (moved_itself i k y) ∙ stands
        ∙ sym (ap (λ z. replaced_ref (result i' k') y' (F z)) same ∙ ap (replaced_ref (result i' k') y') goes ∙ moved_itself i' k' y')
    go (inr away) = ap G (moved_other i k y r away) ∙ others r away

-- ---- lists

refs_both : (f g f' g' : Ref → Ref) → ((r : Ref) → g (f r) ≡ g' (f' r)) → (rs : List Ref) → map g (map f rs) ≡ map g' (map f' rs)
refs_both f g f' g' same [] = refl
refs_both f g f' g' same (r ∷ rs) = ap₂ (λ x xs. x ∷ xs) (same r) (refs_both f g f' g' same rs)

pub both_ways : (f g f' g' : Ref → Ref) → ((r : Ref) → g (f r) ≡ g' (f' r)) → (os : List Op) → map (retarget g) (map (retarget f) os) ≡ map (retarget g') (map (retarget f') os)
both_ways f g f' g' same [] = refl
both_ways f g f' g' same (o ∷ os) = ap₂ (λ rs xs. record o { operands = rs } ∷ xs) (refs_both f g f' g' same o.operands) (both_ways f g f' g' same os)

refs_one : (f g g' : Ref → Ref) → ((r : Ref) → g (f r) ≡ g' r) → (rs : List Ref) → map g (map f rs) ≡ map g' rs
refs_one f g g' same [] = refl
refs_one f g g' same (r ∷ rs) = ap₂ (λ x xs. x ∷ xs) (same r) (refs_one f g g' same rs)

one_way : (f g g' : Ref → Ref) → ((r : Ref) → g (f r) ≡ g' r) → (os : List Op) → map (retarget g) (map (retarget f) os) ≡ map (retarget g') os
one_way f g g' same [] = refl
one_way f g g' same (o ∷ os) = ap₂ (λ rs xs. record o { operands = rs } ∷ xs) (refs_one f g g' same o.operands) (one_way f g g' same os)

pub first_moved : (f : Ref → Ref) → f undefined ≡ undefined → (x : Option Op)
    → ref_or_undefined (option_and_then (λ (o : Op). slice_get o.operands 0) (option_map (retarget f) x)) ≡ f (ref_or_undefined (option_and_then (λ (o : Op). slice_get o.operands 0) x))
first_moved f none None = sym none
first_moved f none (Some o) = go o.operands
  where
    go : (rs : List Ref) → ref_or_undefined (slice_get (map f rs) 0) ≡ f (ref_or_undefined (slice_get rs 0))
    go [] = sym none
    go (r ∷ rs) = refl

pub operand_moved : (f : Ref → Ref) → f undefined ≡ undefined → (p : ℕ) (os : List Op) → operand_at p (map (retarget f) os) ≡ f (operand_at p os)
operand_moved f none p os =
    ap (λ x. ref_or_undefined (option_and_then (λ (o : Op). slice_get o.operands 0) x)) (slice_get-map (retarget f) os p) ∙ first_moved f none (slice_get os p)

-- ---- positions

pub down_less : (p j : ℕ) → j < p → down p j ≡ Some j
down_less zero j below = absurd (omega (arith, below))
down_less (suc p) zero below = refl
down_less (suc p) (suc j) below = ap (option_map suc) (down_less p j (omega (arith, below)))

pub down_more : (p j : ℕ) → p ≤ j → down p (suc j) ≡ Some j
down_more zero j past = refl
down_more (suc p) zero past = absurd (omega (arith, past))
down_more (suc p) (suc j) past = ap (option_map suc) (down_more p j (omega (arith, past)))

up_more : (p j : ℕ) → p ≤ j → up p j ≡ suc j
up_more zero j past = refl
up_more (suc p) zero past = absurd (omega (arith, past))
up_more (suc p) (suc j) past = ap suc (up_more p j (omega (arith, past)))

-- where a position was that is now at or past p
pub was_after : (p a j : ℕ) → down p a ≡ Some j → p ≤ j → a ≡ suc j
was_after p a j is past = sym (up_from_down p a j is) ∙ up_more p j past

-- ---- a wire at position p goes

-- the value is no result of n operations from position p on
abbrev pub IsClear : ℕ → ℕ → Ref → Type 0
IsClear p n y = (j l : ℕ) → y ≡ result j l → p ≤ j → p + n ≤ j

-- such a value is the same whatever stands for what goes
pub clear_same : (p : ℕ) (x x' y : Ref) → IsClear p 1 y → without p x y ≡ without p x' y
clear_same p x x' (port n) clear = refl
clear_same p x x' undefined clear = refl
clear_same p x x' (result j l) clear = go (down p j) refl
  where
    go : (z : Option ℕ) → down p j ≡ z → ref_after_erase z x l ≡ ref_after_erase z x' l
    go (Some a) is = refl
    go None is = let at = down_none p j is in let past = clear j l refl (omega (arith, at)) in absurd (omega (arith, at, past))

pub clear_one : (p n : ℕ) (y : Ref) → IsClear p (suc n) y → IsClear p 1 y
clear_one p n y clear j l is past = let h = clear j l is past in omega (arith, h)

pub still_clear : (p n : ℕ) (y : Ref) → IsClear p (suc n) y → IsClear p n (without p undefined y)
still_clear p n (port m) clear j l is past = cc
still_clear p n undefined clear j l is past = cc
still_clear p n (result a m) clear j l is past = go (down p a) refl m is
  where
    go : (z : Option ℕ) → down p a ≡ z → (m : ℕ) → ref_after_erase z undefined m ≡ result j l → p + n ≤ j
    go None at zero e = cc
    go None at (suc m) e = cc
    go (Some b) at m e =
        let same : b ≡ j = cc in
        let was = was_after p a j (at ∙ ap Some same) past in
        let h = clear a _ refl (omega (arith, was, past)) in
        omega (arith, h, was)

-- another value does not become the result of an operation past p
never : (p j k : ℕ) (r : Ref) → p ≤ j → (r ≡ result (suc j) k → ⊥) → (a l a' : ℕ) → r ≡ result a l → down p a ≡ Some a' → result a' l ≡ result j k → ⊥
never p j k r past away a l a' is goes same =
    let first : a' ≡ j = cc in
    let second : l ≡ k = cc in
    away (is ∙ ap₂ result (was_after p a j (goes ∙ ap Some first) past) second)

lowered_other : (p j k : ℕ) (r : Ref) → p ≤ j → (r ≡ result (suc j) k → ⊥) → without p undefined r ≡ result j k → ⊥
lowered_other p j k (port n) past away same = cc
lowered_other p j k undefined past away same = cc
lowered_other p j k (result a l) past away same = go (down p a) refl l refl same
  where
    go : (z : Option ℕ) → down p a ≡ z → (m : ℕ) → l ≡ m → ref_after_erase z undefined m ≡ result j k → ⊥
    go None at zero is e = cc
    go None at (suc m) is e = cc
    go (Some b) at m is e = never p j k (result a l) past away a m b (ap (result a) is) at e

lowered_it : (p j k : ℕ) (x : Ref) → p ≤ j → without p x (result (suc j) k) ≡ result j k
lowered_it p j k x past = ap (λ z. ref_after_erase z x k) (down_more p j past)

-- a value stands for a result of an operation past p, before the wire goes and after that
erased_values : (p j k : ℕ) (y x : Ref) → p ≤ j → IsClear p 1 y → (r : Ref)
    → without p (without p undefined (replaced_ref (result (suc j) k) y x)) (replaced_ref (result (suc j) k) y r)
    ≡ replaced_ref (result j k) (without p undefined y) (without p (without p undefined x) r)
erased_values p j k y x past clear r =
    ap (λ z. without p z (replaced_ref (result (suc j) k) y r)) stands
    ∙ moved_through (without p X) (without p X') (suc j) k j k y y' (lowered_it p j k X past) (clear_same p X' undefined y clear) others r
  where
    y' : Ref
    y' = without p undefined y

    X : Ref
    X = without p undefined x

    X' : Ref
    X' = replaced_ref (result j k) y' X

    stands : without p undefined (replaced_ref (result (suc j) k) y x) ≡ X'
    stands = moved_through (without p undefined) (without p undefined) (suc j) k j k y y' (lowered_it p j k undefined past) refl
        (λ z away. sym (moved_other j k y' (without p undefined z) (lowered_other p j k z past away))) x

    others : (z : Ref) → (z ≡ result (suc j) k → ⊥) → without p X' z ≡ replaced_ref (result j k) y' (without p X z)
    others (port n) away = refl
    others undefined away = refl
    others (result a l) away = go (down p a) refl l refl
      where
        go : (z : Option ℕ) → down p a ≡ z → (m : ℕ) → l ≡ m → ref_after_erase z X' m ≡ replaced_ref (result j k) y' (ref_after_erase z X m)
        go None at zero is = refl
        go None at (suc m) is = refl
        go (Some b) at m is = sym (moved_other j k y' (result b m) (never p j k (result a l) past away a m b (ap (result a) is) at))

erase_moved : (p j k : ℕ) (y : Ref) (os : List Op) → p ≤ j → IsClear p 1 y
    → erase_op p (operand_at p (map (retarget (replaced_ref (result (suc j) k) y)) os)) (map (retarget (replaced_ref (result (suc j) k) y)) os)
    ≡ map (retarget (replaced_ref (result j k) (without p undefined y))) (erase_op p (operand_at p os) os)
erase_moved p j k y os past clear =
    ap₂ (λ x xs. map (retarget (without p (without p undefined x))) xs) (operand_moved (replaced_ref (result (suc j) k) y) refl p os)
    (sym (map-remove (retarget (replaced_ref (result (suc j) k) y)) os p))
    ∙ both_ways (replaced_ref (result (suc j) k) y) (without p (without p undefined (replaced_ref (result (suc j) k) y (operand_at p os))))
    (without p (without p undefined (operand_at p os))) (replaced_ref (result j k) (without p undefined y))
    (erased_values p j k y (operand_at p os) past clear) (remove os p)

-- a value stands for the result of the wire that goes and carries it
erase_own : (p : ℕ) (y : Ref) (os : List Op) → IsClear p 1 y → operand_at p os ≡ y
    → erase_op p (operand_at p (map (retarget (replaced_ref (result p 0) y)) os)) (map (retarget (replaced_ref (result p 0) y)) os) ≡ erase_op p (operand_at p os) os
erase_own p y os clear carried =
    ap₂ (λ x xs. map (retarget (without p (without p undefined x))) xs) (operand_moved (replaced_ref (result p 0) y) refl p os ∙ ap (replaced_ref (result p 0) y) carried ∙ moved_other p 0 y y other)
    (sym (map-remove (retarget (replaced_ref (result p 0) y)) os p))
    ∙ one_way (replaced_ref (result p 0) y) (without p (without p undefined y)) (without p (without p undefined y)) (λ r. values r (is_it p 0 r)) (remove os p)
    ∙ ap (λ x. map (retarget (without p (without p undefined x))) (remove os p)) (sym carried)
  where
    other : y ≡ result p 0 → ⊥
    other same = let h = clear p 0 same (omega arith) in absurd (omega (arith, h))

    values : (r : Ref) → (r ≡ result p 0) ⊎ (r ≡ result p 0 → ⊥) → without p (without p undefined y) (replaced_ref (result p 0) y r) ≡ without p (without p undefined y) r
    values r (inl same) =
        ap (λ z. without p (without p undefined y) (replaced_ref (result p 0) y z)) same ∙ ap (without p (without p undefined y)) (moved_itself p 0 y)
        ∙ clear_same p (without p undefined y) undefined y clear
        ∙ sym (ap (without p (without p undefined y)) same ∙ ap (λ z. ref_after_erase z (without p undefined y) 0) (down_same p))
    values r (inr away) = ap (without p (without p undefined y)) (moved_other p 0 y r away)

-- what stands past p
pub erased_at : (p j : ℕ) (x : Ref) (os : List Op) → p ≤ j → slice_get (erase_op p x os) j ≡ option_map (retarget (without p (without p undefined x))) (slice_get os (suc j))
erased_at p j x os past =
    slice_get-map (retarget (without p (without p undefined x))) (remove os p) j
    ∙ ap (option_map (retarget (without p (without p undefined x)))) (get_taken os p (suc j) j (down_more p j past))

-- ---- n wires from position p on go

-- what is then a value that is none of theirs
abbrev pub lowered : ℕ → ℕ → Ref → Ref
lowered p zero y = y
lowered p (suc n) y = lowered p n (without p undefined y)

-- what is then any value
abbrev pub unwired : ℕ → ℕ → List Op → Ref → Ref
unwired p zero os r = r
unwired p (suc n) os r = unwired p n (erase_op p (operand_at p os) os) (without p (without p undefined (operand_at p os)) r)

pub unwired_clear : (p n : ℕ) (os : List Op) (y : Ref) → IsClear p n y → unwired p n os y ≡ lowered p n y
unwired_clear p zero os y clear = refl
unwired_clear p (suc n) os y clear =
    ap (unwired p n (erase_op p (operand_at p os) os)) (clear_same p (without p undefined (operand_at p os)) undefined y (clear_one p n y clear))
    ∙ unwired_clear p n (erase_op p (operand_at p os) os) (without p undefined y) (still_clear p n y clear)

pub unwired_none : (p n : ℕ) (os : List Op) → unwired p n os undefined ≡ undefined
unwired_none p zero os = refl
unwired_none p (suc n) os = unwired_none p n (erase_op p (operand_at p os) os)

pub unwired_at : (p n d : ℕ) (os : List Op) → slice_get (unwire p n os) (p + d) ≡ option_map (retarget (unwired p n os)) (slice_get os (p + (n + d)))
unwired_at p zero d os = ap (slice_get os) (omega arith) ∙ sym (option_map_retarget_id (slice_get os (p + (0 + d))))
unwired_at p (suc n) d os =
    let next : suc (p + (n + d)) ≡ p + (suc n + d) = omega arith in
    unwired_at p n d (erase_op p (operand_at p os) os)
    ∙ ap (option_map (retarget (unwired p n (erase_op p (operand_at p os) os)))) (erased_at p (p + (n + d)) (operand_at p os) os (omega arith))
    ∙ twice (slice_get os (suc (p + (n + d))))
    ∙ ap (λ j. option_map (retarget (unwired p (suc n) os)) (slice_get os j)) next
  where
    f : Ref → Ref
    f = without p (without p undefined (operand_at p os))

    g : Ref → Ref
    g = unwired p n (erase_op p (operand_at p os) os)

    twice : (x : Option Op) → option_map (retarget g) (option_map (retarget f) x) ≡ option_map (retarget (λ r. g (f r))) x
    twice None = refl
    twice (Some o) = ap (λ rs. Some (record o { operands = rs })) (refs_one f g (λ r. g (f r)) (λ r. refl) o.operands)

pub unwire_moved : (n p d k : ℕ) (y : Ref) (os : List Op) → IsClear p n y
    → unwire p n (map (retarget (replaced_ref (result (p + (n + d)) k) y)) os) ≡ map (retarget (replaced_ref (result (p + d) k) (lowered p n y))) (unwire p n os)
unwire_moved zero p d k y os clear = ap (λ j. map (retarget (replaced_ref (result j k) y)) os) (omega arith)
unwire_moved (suc n) p d k y os clear =
    let next : p + (suc n + d) ≡ suc (p + (n + d)) = omega arith in
    ap (λ j. unwire p (suc n) (map (retarget (replaced_ref (result j k) y)) os)) next
    ∙ ap (unwire p n) (erase_moved p (p + (n + d)) k y os (omega arith) (clear_one p n y clear))
    ∙ unwire_moved n p d k (without p undefined y) (erase_op p (operand_at p os) os) (still_clear p n y clear)

pub unwire_own : (n p m : ℕ) (y : Ref) (os : List Op) → m < n → IsClear p n y → operand_at (p + m) os ≡ y
    → unwire p n (map (retarget (replaced_ref (result (p + m) 0) y)) os) ≡ unwire p n os
unwire_own zero p m y os below clear carried = absurd (omega (arith, below))
unwire_own (suc n) p zero y os below clear carried =
    let here : p + 0 ≡ p = omega arith in
    ap (λ j. unwire p (suc n) (map (retarget (replaced_ref (result j 0) y)) os)) here
    ∙ ap (unwire p n) (erase_own p y os (clear_one p n y clear) (ap (λ j. operand_at j os) (sym here) ∙ carried))
unwire_own (suc n) p (suc m) y os below clear carried =
    let next : p + suc m ≡ suc (p + m) = omega arith in
    let x : Ref = operand_at p os in
    ap (λ j. unwire p (suc n) (map (retarget (replaced_ref (result j 0) y)) os)) next
    ∙ ap (unwire p n) (erase_moved p (p + m) 0 y os (omega arith) (clear_one p n y clear))
    ∙ unwire_own n p m (without p undefined y) (erase_op p x os) (omega (arith, below)) (still_clear p n y clear)
    (ap (λ z. ref_or_undefined (option_and_then (λ (o : Op). slice_get o.operands 0) z)) (erased_at p (p + m) x os (omega arith))
    ∙ first_moved (without p (without p undefined x)) refl (slice_get os (suc (p + m)))
    ∙ ap (λ j. without p (without p undefined x) (operand_at j os)) (sym next) ∙ ap (without p (without p undefined x)) carried
    ∙ clear_same p (without p undefined x) undefined y (clear_one p n y clear))
