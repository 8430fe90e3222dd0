-- Operands that are parts of what was made of them, as code looks for them.
use Rattle.std.proofs.Common.{◌≡◌, ℕ, zero, suc, ◌+◌, ◌-◌, ◌<◌, ◌≤◌, min, Bool, true, false, cond, nat_eq, ◌&&◌, List, [], ◌∷◌, length, map, get_or, Some, None, refl, sym, ap, ap₂, ◌∙◌, ◌⊎◌, inl, inr, arith, eq-eqb}
use Rattle.std.proofs.lemmas.Bool.{eqb-true}
use Rattle.std.proofs.lemmas.List.{length-map}
use Rattle.wiring.specs.Lists.{total}
use Rattle.hw_model.specs.Types.{HwType, width}
use Rattle.hw_model.specs.TypeViews.{type_of, field_of, fields_of}
use Rattle.hw_model.specs.declared.types.Ty.{Ty}
use Rattle.hw_model.specs.declared.types.Field.{Field}
use Rattle.hw_model.specs.Design.{Ref}
use Rattle.hw_model.specs.Value.{nth_type}
use Rattle.ir_store.specs.declared.operation.Value.{Value}
use Rattle.fold_laws.specs.Parts.{covered_operand, field_operand, element_operand}
use Rattle.body_edits.specs.Widths.{counted_width}

-- ---- bits of what was joined

-- a width that is no second one
pub no_second : (xs ys : List Ty) → xs ≡ ys → length xs < 2 → 0 ≡ width (nth_type (map type_of ys) 1)
no_second xs [] same few = refl
no_second xs (y ∷ []) same few = refl
no_second xs (y ∷ z ∷ ys) same few = absurd (omega (arith, few, ap length same))

-- a number below the limit is the sum of widths just where it is their sum as it is counted
counted_total : (us : List HwType) (n : ℕ) → n < 18446744073709551615 → counted_width us ≡ n → total (map width us) ≡ n
counted_total [] n less is = is
counted_total (t ∷ us) n less is =
    let rest = counted_total us (counted_width us) (omega (arith, less, is)) refl in
    omega (arith, rest, less, is)

total_counted : (us : List HwType) (n : ℕ) → n < 18446744073709551615 → total (map width us) ≡ n → counted_width us ≡ n
total_counted [] n less is = is
total_counted (t ∷ us) n less is =
    let rest = total_counted us (total (map width us)) (omega (arith, less, is)) refl in
    omega (arith, rest, less, is)

module _ (low w : ℕ) (low_less : low < 18446744073709551615) (w_less : w < 18446744073709551615) (left own : ℕ) (ts us : List Ty) (t : Ty)
    (begins : ts ≡ t ∷ us) (counted : left ≡ counted_width (map type_of ts)) (is_own : own ≡ min (width (type_of t)) 18446744073709551615) where
  counted_left : left ≡ own + counted_width (map type_of us)
  counted_left = counted ∙ ap (λ xs. counted_width (map type_of xs)) begins ∙ ap (λ n. n + counted_width (map type_of us)) (sym is_own)

  -- what is left after a type
  pub left_over : (other : ℕ) → other ≡ own → left - other ≡ counted_width (map type_of us)
  left_over other same = omega (arith, same, counted_left)

  module _ (f : Value → Ref) (xs ys : List Value) (x : Value) (starts : xs ≡ x ∷ ys) where
    opened : covered_operand low w (map type_of ts) (map f xs)
        ≡ cond (nat_eq low (total (map width (map type_of us))) && nat_eq w (width (type_of t))) (Some (f x)) (covered_operand low w (map type_of us) (map f ys))
    opened = ap₂ (λ vs zs. covered_operand low w (map type_of vs) (map f zs)) begins starts

    -- the operand that is covered, and another one
    pub covered_here : counted_width (map type_of us) ≡ low → own ≡ w → Some (f x) ≡ covered_operand low w (map type_of ts) (map f xs)
    covered_here is_low is_w =
        let wide : w ≡ width (type_of t) = omega (arith, is_own, is_w, w_less) in
        let below : low ≡ total (map width (map type_of us)) = sym (counted_total (map type_of us) low low_less is_low) in
        sym (opened
        ∙ ap₂ (λ a b. cond (a && b) (Some (f x)) (covered_operand low w (map type_of us) (map f ys))) (eq-eqb low (total (map width (map type_of us))) below)
        (eq-eqb w (width (type_of t)) wide))

    pub covered_later : (counted_width (map type_of us) ≡ low → own ≡ w → ⊥) → covered_operand low w (map type_of us) (map f ys) ≡ covered_operand low w (map type_of ts) (map f xs)
    covered_later other = sym (opened ∙ go (nat_eq low (total (map width (map type_of us)))) refl (nat_eq w (width (type_of t))) refl)
      where
        go : (a : Bool) → nat_eq low (total (map width (map type_of us))) ≡ a → (b : Bool) → nat_eq w (width (type_of t)) ≡ b
            → cond (a && b) (Some (f x)) (covered_operand low w (map type_of us) (map f ys)) ≡ covered_operand low w (map type_of us) (map f ys)
        go true is true fits =
            let wide : w ≡ width (type_of t) = eqb-true w (width (type_of t)) fits in
            absurd (other (total_counted (map type_of us) low low_less (sym (eqb-true low (total (map width (map type_of us))) is))) (omega (arith, is_own, wide, w_less)))
        go true is false fits = refl
        go false is b fits = refl

pub covered_none : (low w : ℕ) (f : Value → Ref) (ts : List Ty) (xs : List Value) → (length ts ≡ 0) ⊎ (length xs ≡ 0) → None ≡ covered_operand low w (map type_of ts) (map f xs)
covered_none low w f [] xs end = refl
covered_none low w f (t ∷ ts) [] end = refl
covered_none low w f (t ∷ ts) (x ∷ xs) (inl end) = absurd (omega (arith, end))
covered_none low w f (t ∷ ts) (x ∷ xs) (inr end) = absurd (omega (arith, end))

-- ---- fields

pub field_none : (f : Value → Ref) (name : List ℕ) (fs : List Field) (xs : List Value) → (length fs ≡ 0) ⊎ (length xs ≡ 0) → None ≡ field_operand (fields_of (map field_of fs)) name (map f xs)
field_none f name [] xs end = refl
field_none f name (g ∷ fs) [] end = refl
field_none f name (g ∷ fs) (x ∷ xs) (inl end) = absurd (omega (arith, end))
field_none f name (g ∷ fs) (x ∷ xs) (inr end) = absurd (omega (arith, end))

-- ---- elements

pub element_here : (f : Value → Ref) (n k : ℕ) (xs : List Value) (d : Value) → k + n + 1 ≡ length xs → Some (f (get_or xs k d)) ≡ element_operand n (map f xs)
element_here f n k [] d is = absurd (omega (arith, is))
element_here f n zero (x ∷ xs) d is =
    let same : n ≡ length (map f xs) = omega (arith, is, length-map xs f) in
    sym (ap (λ b. cond b (Some (f x)) (element_operand n (map f xs))) (eq-eqb n (length (map f xs)) same))
element_here f n (suc k) (x ∷ xs) d is = go (nat_eq n (length (map f xs))) refl (element_here f n k xs d)
  where
    go : (b : Bool) → nat_eq n (length (map f xs)) ≡ b → (k + n + 1 ≡ length xs → Some (f (get_or xs k d)) ≡ element_operand n (map f xs))
        → Some (f (get_or xs k d)) ≡ cond b (Some (f x)) (element_operand n (map f xs))
    go true same later = let e = eqb-true n (length (map f xs)) same in absurd (omega (arith, e, is, length-map xs f))
    go false other later = later (omega (arith, is))

pub element_none : (f : Value → Ref) (n : ℕ) (xs : List Value) → length xs ≤ n → None ≡ element_operand n (map f xs)
element_none f n [] few = refl
element_none f n (x ∷ xs) few = go (nat_eq n (length (map f xs))) refl (element_none f n xs (omega (arith, few)))
  where
    go : (b : Bool) → nat_eq n (length (map f xs)) ≡ b → None ≡ element_operand n (map f xs) → None ≡ cond b (Some (f x)) (element_operand n (map f xs))
    go true same later = let e = eqb-true n (length (map f xs)) same in absurd (omega (arith, e, few, length-map xs f))
    go false other later = later
