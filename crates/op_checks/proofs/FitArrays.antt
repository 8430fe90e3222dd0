-- Operations on arrays without a cause fit.
use Rattle.std.proofs.Common.{◌≡◌, ℕ, zero, suc, ◌*◌, ◌≤◌, ◌==◌, false, cond, ◌||◌, List, [], ◌∷◌, map, length, refl, sym, ap, subst, ◌∙◌, arith}
use Rattle.std.specs.Prelude.{Option, Some, None, slice_get, nat_lt}
use Rattle.std.specs.List.{list_any}
use Rattle.std.proofs.lemmas.Bool.Decides.{nat_tests}
use Rattle.std.proofs.lemmas.List.{length-map}
use Rattle.wiring.specs.Lists.{total}
use Rattle.hw_model.specs.Types.{HwType, FieldTypes, width, width_of_fields}
use Rattle.hw_model.specs.Types.HwType.{int, clock, array, struct}
use Rattle.hw_model.specs.Types.FieldTypes.{no_fields, field}
use Rattle.hw_model.specs.SameType.{same_type}
use Rattle.hw_model.specs.Sound.{AllAre}
use Rattle.hw_model.specs.Value.{nth_type}
use Rattle.type_inference.specs.ResultTypes.{first_type, second_type, elements_in, sum_of, length_joined, joined_length, as_array, array_of, element_of, kept_size}
use Rattle.op_checks.specs.TypeChecks.{has_bad_part, has_bad_part_among, is_without_fields, is_outside}
use Rattle.op_checks.specs.TypeLists.{known_types, is_no_array, is_no_int, differs, any_differs, differ, differ_in_three, settled_at}
use Rattle.op_checks.specs.OperandChecks.{is_no_array_of, has_other_array}
use Rattle.op_checks.specs.LimitChecks.{of_type}
use Rattle.op_checks.proofs.Widths.{neither, bits_within}
use Rattle.op_checks.proofs.Agreeing.{agreed, all_agreed, pairwise_agreed, single}
use Rattle.op_checks.proofs.FitIntegers.{apart, three_agreed}
use Rattle.std.proofs.lemmas.Bool.{not-false}

product_of_ones : (a b : ℕ) → 1 ≤ a → 1 ≤ b → 1 ≤ a * b
product_of_ones zero b h k = absurd (omega arith)
product_of_ones (suc a) b h k = grind arith

factor_small : (a b m : ℕ) → 1 ≤ b → a * b ≤ m → a ≤ m
factor_small a zero m h k = absurd (omega arith)
factor_small a (suc b) m h k = grind arith

-- the result that there is, is the first
within : (rs : List HwType) (k : ℕ) (t : HwType) → length rs ≡ 1 → of_type is_outside (first_type rs) ≡ false → slice_get rs k ≡ Some t → is_outside t ≡ false
within [] k t n h e = absurd (omega arith)
within (r ∷ []) zero t n h e = let f : r ≡ t = cc in let P : HwType → Type 0 = λ v. is_outside v ≡ false in subst P f h
within (r ∷ []) (suc k) t n h e = cc
within (r ∷ s ∷ rs) k t n h e = absurd (omega arith)

-- a type of parts that values have has bits
mutual
  pub has_bits : (t : HwType) → has_bad_part t ≡ false → 1 ≤ width t
  has_bits (int w) h = let a = (neither (w == 0) (nat_lt 128 w) h).0 in grind (arith, nat_tests, a)
  has_bits clock h = omega arith
  has_bits (array n t) h =
      let p = neither (n == 0) (has_bad_part t) h in
      let a : 1 ≤ n = grind (arith, nat_tests, p.0) in
      let b : 1 ≤ width t = has_bits t p.1 in product_of_ones n (width t) a b
  has_bits (struct fs) h =
      let p = neither (is_without_fields fs) (has_bad_part_among fs) h in have_bits fs p.0 p.1

  have_bits : (fs : FieldTypes) → is_without_fields fs ≡ false → has_bad_part_among fs ≡ false → 1 ≤ width_of_fields fs
  have_bits no_fields e h = absurd (apart e)
  have_bits (field name t fs) e h =
      let p = neither (has_bad_part t) (has_bad_part_among fs) h in
      let a : 1 ≤ width t = has_bits t p.0 in omega arith

-- an array within the limits has fewer elements than a type can keep
pub kept_within : (n : ℕ) (t : HwType) → is_outside (array (kept_size n) t) ≡ false → kept_size n ≡ n
unfolding is_outside
kept_within n t h =
    let p = neither (has_bad_part (array (kept_size n) t)) _ h in
    let q = neither (kept_size n == 0) (has_bad_part t) p.0 in
    let a : 1 ≤ width t = has_bits t q.1 in
    let b : kept_size n * width t ≤ 4096 = bits_within (array (kept_size n) t) h in
    let c : kept_size n ≤ 4096 = factor_small (kept_size n) (width t) 4096 a b in omega arith

-- an array of operands of one type
pub creation : (ts rs us : List HwType) (k : ℕ) (t : HwType) → length ts ≡ 1 → length rs ≡ 1 → any_differs (known_types us) (first_type ts) ≡ false
    → of_type is_outside (first_type rs) ≡ false → differ (known_types rs) (as_array (length us) (first_type ts) ∷ []) ≡ false → slice_get rs k ≡ Some t
    → (e : HwType) × (t ≡ array (length (known_types us)) e) × AllAre e (known_types us)
creation [] rs us k t n m h w d e = absurd (omega arith)
creation (u ∷ []) rs us k t n m h w d e =
    let f : t ≡ array (kept_size (length us)) u = single rs (array (kept_size (length us)) u) t k m d e in
    let g : is_outside t ≡ false = within rs k t m w e in
    let kept : kept_size (length us) ≡ length us = kept_within (length us) u (let P : HwType → Type 0 = λ v. is_outside v ≡ false in subst P f g) in
    let long : length (known_types us) ≡ length us = length-map us (λ (v : HwType). Some v) in
    (u, f ∙ ap (λ (l : ℕ). array l u) (kept ∙ sym long), all_agreed us u h)
creation (u ∷ v ∷ ts) rs us k t n m h w d e = absurd (omega arith)

-- arrays of one type of elements
arrays_of : (e : HwType) (ts : List HwType) → list_any (is_no_array_of (Some e)) ts ≡ false
    → (ns : List ℕ) × (ts ≡ map (λ (n : ℕ). array n e) ns) × (length_joined (Some e) ts ≡ Some (total ns))
arrays_of e [] h = ([], refl, refl)
arrays_of e (array n u ∷ ts) h =
    let p = neither (differs (Some u) (Some e)) _ h in
    let same : u ≡ e = agreed u e p.0 in
    let rest = arrays_of e ts p.1 in
    let all : ts ≡ map (λ (n : ℕ). array n e) rest.0 = rest.1 in
    let sum : length_joined (Some e) ts ≡ Some (total rest.0) = rest.2 in
    let one : elements_in (Some e) (array n u) ≡ Some n = ap (λ b. cond b (Some n) None) (not-false (same_type u e) p.0) in
    (n ∷ rest.0, cc, ap (λ m. sum_of m (length_joined (Some e) ts)) one ∙ ap (sum_of (Some n)) sum)
arrays_of e (int w ∷ ts) h = absurd (apart h)
arrays_of e (clock ∷ ts) h = absurd (apart h)
arrays_of e (struct fs ∷ ts) h = absurd (apart h)

settled_arrays : (e : HwType) (ns : List ℕ) → known_types (map (λ (n : ℕ). array n e) ns) ≡ map (λ (n : ℕ). Some (array n e)) ns
settled_arrays e [] = refl
settled_arrays e (n ∷ ns) = ap (λ (xs : List (Option HwType)). Some (array n e) ∷ xs) (settled_arrays e ns)

-- arrays joined
pub joining : (ts rs us : List HwType) (k : ℕ) (t : HwType) → 1 ≤ length ts → length us ≡ length ts → length rs ≡ 1 → has_other_array ts ≡ false
    → differ (known_types us) (known_types ts) ≡ false → of_type is_outside (first_type rs) ≡ false
    → differ (known_types rs) (array_of (joined_length ts) (element_of (first_type ts)) ∷ []) ≡ false → slice_get rs k ≡ Some t
    → (e : HwType) × (ns : List ℕ) × (known_types us ≡ map (λ (n : ℕ). Some (array n e)) ns) × (t ≡ array (total ns) e)
unfolding joined_length
joining [] rs us k t l n m f h w d e = absurd (omega arith)
joining (array n0 u ∷ ts) rs us k t l n m f h w d e =
    let same : us ≡ array n0 u ∷ ts = pairwise_agreed us (array n0 u ∷ ts) n h in
    let a = arrays_of u (array n0 u ∷ ts) f in
    let y = rw a.2 at d in
    let g : t ≡ array (kept_size (total a.0)) u = single rs (array (kept_size (total a.0)) u) t k m y e in
    let o : is_outside t ≡ false = within rs k t m w e in
    let kept : kept_size (total a.0) ≡ total a.0 = kept_within (total a.0) u (let P : HwType → Type 0 = λ v. is_outside v ≡ false in subst P g o) in
    (u, a.0, ap known_types (same ∙ a.1) ∙ settled_arrays u a.0, g ∙ ap (λ (s : ℕ). array s u) kept)
joining (int v ∷ ts) rs us k t l n m f h w d e = absurd (apart f)
joining (clock ∷ ts) rs us k t l n m f h w d e = absurd (apart f)
joining (struct fs ∷ ts) rs us k t l n m f h w d e = absurd (apart f)

-- an element of an array
pub element : (ts rs us : List HwType) (k : ℕ) (t : HwType) → length ts ≡ 2 → length us ≡ 2 → length rs ≡ 1
    → is_no_array (first_type ts) || is_no_int (second_type ts) ≡ false → differ (known_types us) (known_types ts) ≡ false
    → differ (known_types rs) (element_of (first_type ts) ∷ []) ≡ false → slice_get rs k ≡ Some t
    → (n : ℕ) × (u : HwType) × (known_types us ≡ Some (array n t) ∷ Some u ∷ []) × (nth_type ts 0 ≡ array n t)
element [] rs us k t n m o f h d e = absurd (omega arith)
element (u ∷ []) rs us k t n m o f h d e = absurd (omega arith)
element (array c v ∷ i ∷ []) rs us k t n m o f h d e =
    let g : t ≡ v = single rs v t k o d e in
    let same : us ≡ array c v ∷ i ∷ [] = pairwise_agreed us (array c v ∷ i ∷ []) m h in
    (c, i, ap known_types same ∙ ap (λ (s : HwType). Some (array c s) ∷ Some i ∷ []) (sym g), ap (λ (s : HwType). array c s) (sym g))
element (int w ∷ i ∷ []) rs us k t n m o f h d e = absurd (apart f)
element (clock ∷ i ∷ []) rs us k t n m o f h d e = absurd (apart f)
element (struct fs ∷ i ∷ []) rs us k t n m o f h d e = absurd (apart f)
element (u ∷ v ∷ s ∷ ts) rs us k t n m o f h d e = absurd (omega arith)

first_agreed : (us : List HwType) (t : HwType) → length us ≡ 2 → differs (settled_at (known_types us) 0) (Some t) ≡ false → (i : HwType) × (known_types us ≡ Some t ∷ Some i ∷ [])
first_agreed [] t n h = absurd (omega arith)
first_agreed (a ∷ []) t n h = absurd (omega arith)
first_agreed (a ∷ b ∷ []) t n h = let e : a ≡ t = agreed a t h in (b, cc)
first_agreed (a ∷ b ∷ c ∷ us) t n h = absurd (omega arith)

-- a slice of an array
pub slicing : (ts rs us : List HwType) (k : ℕ) (t : HwType) → length ts ≡ 2 → length us ≡ 2 → length rs ≡ 1 → has_other_array ts ≡ false
    → differs (settled_at (known_types us) 0) (first_type ts) || is_no_int (settled_at (known_types us) 1) ≡ false
    → differ (known_types rs) (second_type ts ∷ []) ≡ false → slice_get rs k ≡ Some t
    → (n : ℕ) × (m : ℕ) × (e : HwType) × (u : HwType) × (known_types us ≡ Some (array n e) ∷ Some u ∷ []) × (nth_type ts 0 ≡ array n e) × (t ≡ array m e)
slicing [] rs us k t n m o f h d e = absurd (omega arith)
slicing (u ∷ []) rs us k t n m o f h d e = absurd (omega arith)
slicing (array c v ∷ array s x ∷ []) rs us k t n m o f h d e =
    let p = neither (differs (Some v) (Some v)) _ f in
    let q = neither (differs (Some x) (Some v)) _ p.1 in
    let same : x ≡ v = agreed x v q.0 in
    let g : t ≡ array s x = single rs (array s x) t k o d e in
    let a = first_agreed us (array c v) m (neither (differs (settled_at (known_types us) 0) (Some (array c v))) _ h).0 in
    (c, s, v, a.0, a.1, refl, g ∙ ap (λ (y : HwType). array s y) same)
slicing (array c v ∷ int w ∷ []) rs us k t n m o f h d e = absurd (apart ((neither (differs (Some v) (Some v)) _ f).1))
slicing (array c v ∷ clock ∷ []) rs us k t n m o f h d e = absurd (apart ((neither (differs (Some v) (Some v)) _ f).1))
slicing (array c v ∷ struct fs ∷ []) rs us k t n m o f h d e = absurd (apart ((neither (differs (Some v) (Some v)) _ f).1))
slicing (int w ∷ v ∷ []) rs us k t n m o f h d e = absurd (apart f)
slicing (clock ∷ v ∷ []) rs us k t n m o f h d e = absurd (apart f)
slicing (struct fs ∷ v ∷ []) rs us k t n m o f h d e = absurd (apart f)
slicing (u ∷ v ∷ s ∷ ts) rs us k t n m o f h d e = absurd (omega arith)

-- an array with an element put in
pub injection : (ts rs us : List HwType) (k : ℕ) (t : HwType) → length ts ≡ 2 → length us ≡ 3 → length rs ≡ 1
    → is_no_array (first_type ts) || is_no_int (second_type ts) ≡ false
    → differ_in_three (known_types us) (first_type ts) (second_type ts) (element_of (first_type ts)) ≡ false
    → differ (known_types rs) (first_type ts ∷ []) ≡ false → slice_get rs k ≡ Some t
    → (n : ℕ) × (e : HwType) × (u : HwType) × (known_types us ≡ Some t ∷ Some u ∷ Some e ∷ []) × (nth_type ts 0 ≡ t) × (t ≡ array n e)
injection [] rs us k t n m o f h d e = absurd (omega arith)
injection (u ∷ []) rs us k t n m o f h d e = absurd (omega arith)
injection (array c v ∷ i ∷ []) rs us k t n m o f h d e =
    let g : t ≡ array c v = single rs (array c v) t k o d e in
    let a = three_agreed us (array c v) i v m h in
    (c, v, i, a ∙ ap (λ (s : HwType). Some s ∷ Some i ∷ Some v ∷ []) (sym g), sym g, g)
injection (int w ∷ i ∷ []) rs us k t n m o f h d e = absurd (apart f)
injection (clock ∷ i ∷ []) rs us k t n m o f h d e = absurd (apart f)
injection (struct fs ∷ i ∷ []) rs us k t n m o f h d e = absurd (apart f)
injection (u ∷ v ∷ s ∷ ts) rs us k t n m o f h d e = absurd (omega arith)
