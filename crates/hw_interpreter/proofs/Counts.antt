-- How many instances stand before an operation of a body, and what stands from it on.
use Rattle.std.proofs.Common.{◌≡◌, ℕ, suc, ◌+◌, ◌-◌, ◌^◌, ◌<◌, Bool, true, false, cond, List, [], ◌∷◌, length, drop, get_or, drop-cons, refl, sym, ap, subst, inl, ◌∙◌, arith}
use Rattle.wiring.specs.Wiring.{In}
use Rattle.wiring.proofs.Members.{from_In-drop}
use Rattle.hw_model.specs.Design.{Op, is_instance}
use Rattle.hw_model.specs.Flat.{instances}

-- an operation more, counted where it is an instance
count_by : (b : Bool) (n : ℕ) (o : Op) (os : List Op) → is_instance o ≡ b → cond b (suc n) n + length (instances os) ≡ n + length (instances (o ∷ os))
count_by true n o os is = rw is (omega arith)
count_by false n o os is = rw is refl

pub count_more : (n : ℕ) (o : Op) (os : List Op) (all : ℕ) → n + length (instances (o ∷ os)) ≡ all
    → cond (is_instance o) (suc n) n + length (instances os) ≡ all
count_more n o os all before = count_by (is_instance o) n o os refl ∙ before

-- fewer than 2^32 instances are numbered below 2^32 - 1 where one more follows
pub count_full : (n : ℕ) (o : Op) (os : List Op) (all : ℕ) → is_instance o ≡ true → n + length (instances (o ∷ os)) ≡ all → n ≡ 2 ^ 32 - 1 → all < 2 ^ 32 → ⊥
count_full n o os all is before last few =
    let more : suc n + length (instances os) ≡ all = count_by true n o os is ∙ before in absurd (omega (arith, more, last, few))

-- what stands from a position on: the item there, and the rest
pub from_position : {A : Type 0} (xs : List A) (i : ℕ) (x : A) → i < length xs → x ≡ get_or xs i x → drop i xs ≡ x ∷ drop (suc i) xs
from_position xs i x within is = drop-cons xs i x within ∙ ap (λ z. z ∷ drop (suc i) xs) (sym is)

-- the item at a position is a member
pub member_at : {A : Type 0} (xs : List A) (i : ℕ) (x : A) → i < length xs → x ≡ get_or xs i x → In x xs
member_at xs i x within is = from_In-drop x i xs (subst (In x) (sym (from_position xs i x within is)) (inl refl))

pub member_of : {A : Type 0} (xs : List A) (i : ℕ) (d : A) → i < length xs → In (get_or xs i d) xs
member_of xs i d within = from_In-drop (get_or xs i d) i xs (subst (In (get_or xs i d)) (sym (drop-cons xs i d within)) (inl refl))

-- a list of fewer than one item has none
pub none_below : {A : Type 0} (xs : List A) → length xs < 1 → xs ≡ []
none_below [] less = refl
none_below (x ∷ xs) less = absurd (omega (arith, less))
