-- What tests that do not hold say of lists of types.
use Rattle.std.proofs.Common.{◌≡◌, ℕ, zero, suc, ◌≤◌, true, false, not, List, [], ◌∷◌, length, take, refl, ap, ◌∙◌, arith, inl, inr}
use Rattle.std.specs.Prelude.{Option, Some, None, is_some, slice_get, nat_eq}
use Rattle.std.specs.List.{list_all}
use Rattle.std.proofs.lemmas.Bool.{eqb-true, not-false}
use Rattle.hw_model.specs.Types.{HwType}
use Rattle.hw_model.specs.SameType.{same_type, type_from}
use Rattle.hw_model.specs.Sound.{AllAre}
use Rattle.op_checks.specs.TypeLists.{known_types, differs, any_differs, differ}
use Rattle.op_checks.proofs.Widths.{neither}

pub same_number : (m n : ℕ) → not (nat_eq m n) ≡ false → m ≡ n
same_number m n h = eqb-true m n (not-false (nat_eq m n) h)

-- types that do not differ are one
pub agreed : (t u : HwType) → differs (Some t) (Some u) ≡ false → t ≡ u
agreed t u h = type_from t u (not-false (same_type t u) h)

-- each of them is the type
pub all_agreed : (us : List HwType) (t : HwType) → any_differs (known_types us) (Some t) ≡ false → AllAre t (known_types us)
all_agreed [] t h x i = absurd i
all_agreed (u ∷ us) t h x (inl e) = e ∙ ap Some (agreed u t (neither (differs (Some u) (Some t)) (any_differs (known_types us) (Some t)) h).0)
all_agreed (u ∷ us) t h x (inr i) = all_agreed us t (neither (differs (Some u) (Some t)) (any_differs (known_types us) (Some t)) h).1 x i

some_from : (t u : HwType) → Some t ≡ Some u → t ≡ u
some_from t u h = cc

-- lists of one and of two types that all are one
pub one_agreed : (us : List HwType) (t : HwType) → length us ≡ 1 → AllAre t (known_types us) → known_types us ≡ Some t ∷ []
one_agreed [] t n h = absurd (omega arith)
one_agreed (a ∷ []) t n h = ap (λ (x : Option HwType). x ∷ []) (h (Some a) (inl refl))
one_agreed (a ∷ b ∷ us) t n h = absurd (omega arith)

pub two_agreed : (us : List HwType) (t : HwType) → length us ≡ 2 → AllAre t (known_types us) → known_types us ≡ Some t ∷ Some t ∷ []
two_agreed [] t n h = absurd (omega arith)
two_agreed (a ∷ []) t n h = absurd (omega arith)
two_agreed (a ∷ b ∷ []) t n h =
    let e : a ≡ t = some_from a t (h (Some a) (inl refl)) in
    let f : b ≡ t = some_from b t (h (Some b) (inr (inl refl))) in cc
two_agreed (a ∷ b ∷ c ∷ us) t n h = absurd (omega arith)

-- lists of one length that differ at no position are one
pub pairwise_agreed : (us ts : List HwType) → length us ≡ length ts → differ (known_types us) (known_types ts) ≡ false → us ≡ ts
pairwise_agreed [] [] n h = refl
pairwise_agreed [] (t ∷ ts) n h = absurd (omega arith)
pairwise_agreed (u ∷ us) [] n h = absurd (omega arith)
pairwise_agreed (u ∷ us) (t ∷ ts) n h =
    let p = neither (differs (Some u) (Some t)) (differ (known_types us) (known_types ts)) h in
    let e : u ≡ t = agreed u t p.0 in
    let f : us ≡ ts = pairwise_agreed us ts (omega arith) p.1 in cc

-- the result of an operation that has one
pub single : (rs : List HwType) (u t : HwType) (k : ℕ) → length rs ≡ 1 → differ (known_types rs) (Some u ∷ []) ≡ false → slice_get rs k ≡ Some t → t ≡ u
single [] u t k n h e = absurd (omega arith)
single (r ∷ []) u t zero n h e =
    let f : r ≡ u = agreed r u (neither (differs (Some r) (Some u)) _ h).0 in
    let g : r ≡ t = some_from r t e in cc
single (r ∷ []) u t (suc k) n h e = cc
single (r ∷ s ∷ rs) u t k n h e = absurd (omega arith)

-- a list that differs at no position from the beginning of another
pub prefix_agreed : (us ts : List HwType) → length us ≤ length ts → differ (known_types us) (known_types ts) ≡ false → us ≡ take (length us) ts
prefix_agreed [] ts n h = refl
prefix_agreed (u ∷ us) [] n h = absurd (omega arith)
prefix_agreed (u ∷ us) (t ∷ ts) n h =
    let p = neither (differs (Some u) (Some t)) (differ (known_types us) (known_types ts)) h in
    let e : u ≡ t = agreed u t p.0 in
    let f : us ≡ take (length us) ts = prefix_agreed us ts (omega arith) p.1 in cc

-- types that are all settled
pub settled_from : (xs : List (Option HwType)) → list_all is_some xs ≡ true → (us : List HwType) × (xs ≡ known_types us)
settled_from [] h = ([], refl)
settled_from (Some u ∷ xs) h = let r = settled_from xs h in (u ∷ r.0, ap (λ (ys : List (Option HwType)). Some u ∷ ys) r.1)
settled_from (None ∷ xs) h = cc
