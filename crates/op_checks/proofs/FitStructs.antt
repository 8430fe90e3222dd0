-- Operations on structs, aggregate constants and registers without a cause fit.
use Rattle.std.proofs.Common.{◌≡◌, ℕ, suc, ◌+◌, ◌*◌, true, false, not, List, [], ◌∷◌, map, length, refl, sym, ap, ◌∙◌, arith}
use Rattle.std.specs.Prelude.{Option, Some, None, slice_get, nat_eq, is_none}
use Rattle.hw_model.specs.Types.{Name, HwType, FieldTypes, width, width_of_fields}
use Rattle.hw_model.specs.Types.HwType.{int, clock, array, struct}
use Rattle.hw_model.specs.Types.FieldTypes.{no_fields, field}
use Rattle.hw_model.specs.Kinds.{Literal, Literals, Reset}
use Rattle.hw_model.specs.Kinds.Literal.{leaf, parts}
use Rattle.hw_model.specs.Kinds.Literals.{no_literals, literal}
use Rattle.hw_model.specs.Kinds.Reset.{no_reset, sync_reset}
use Rattle.hw_model.specs.SameType.{same_type, type_from}
use Rattle.hw_model.specs.Sound.{field_list, field_type, literal_width, literals_width, register_types}
use Rattle.hw_model.specs.Value.{nth_type}
use Rattle.type_inference.specs.ResultTypes.{first_type, field_of, fields_of, field_count}
use Rattle.op_checks.specs.TypeLists.{known_types, is_no_struct, differs, any_differs, differ, differ_in_two}
use Rattle.op_checks.specs.LiteralChecks.{literal_count, literal_differs, any_literal_differs, literals_differ, is_miscounted, any_miscounted, are_miscounted}
use Rattle.op_checks.specs.OperandChecks.{parts_differ, register_differs}
use Rattle.op_checks.specs.CountChecks.{reset_operands, parts_miscounted}
use Rattle.op_checks.proofs.Widths.{neither}
use Rattle.op_checks.proofs.Agreeing.{same_number, agreed, all_agreed, one_agreed, pairwise_agreed, single}
use Rattle.op_checks.proofs.FitIntegers.{apart, none_left, pair_agreed}
use Rattle.std.proofs.lemmas.Bool.{not-false}

-- ---- aggregate constants

one_more : (a b n w : ℕ) → a ≡ w → b ≡ n * w → a + b ≡ suc n * w
one_more a b n w e f = grind arith

mutual
  literal_fits : (l : Literal) (t : HwType) → literal_differs l t ≡ false → is_miscounted l t ≡ false → literal_width l ≡ width t
  literal_fits (leaf z u) (int w) h m = ap width (type_from u (int w) (not-false (same_type u (int w)) h))
  literal_fits (leaf z u) clock h m = absurd (apart h)
  literal_fits (leaf z u) (array n t) h m = absurd (apart h)
  literal_fits (leaf z u) (struct fs) h m = absurd (apart h)
  literal_fits (parts ls) (int w) h m = absurd (apart h)
  literal_fits (parts ls) clock h m = absurd (apart h)
  literal_fits (parts ls) (array n t) h m =
      let p = neither (not (nat_eq (literal_count ls) n)) (any_miscounted ls t) m in
      let e : literal_count ls ≡ n = same_number (literal_count ls) n p.0 in
      elements_fit ls t h p.1 ∙ ap (λ (c : ℕ). c * width t) e
  literal_fits (parts ls) (struct fs) h m =
      let p = neither (not (nat_eq (literal_count ls) (length (field_list fs)))) (are_miscounted ls fs) m in
      fields_fit ls fs (same_number (literal_count ls) (length (field_list fs)) p.0) h p.1

  elements_fit : (ls : Literals) (t : HwType) → any_literal_differs ls t ≡ false → any_miscounted ls t ≡ false → literals_width ls ≡ literal_count ls * width t
  elements_fit no_literals t h m = omega arith
  elements_fit (literal l ls) t h m =
      let p = neither (literal_differs l t) (any_literal_differs ls t) h in
      let q = neither (is_miscounted l t) (any_miscounted ls t) m in
      let a : literal_width l ≡ width t = literal_fits l t p.0 q.0 in
      let b : literals_width ls ≡ literal_count ls * width t = elements_fit ls t p.1 q.1 in
      one_more (literal_width l) (literals_width ls) (literal_count ls) (width t) a b

  fields_fit : (ls : Literals) (fs : FieldTypes) → literal_count ls ≡ length (field_list fs) → literals_differ ls fs ≡ false → are_miscounted ls fs ≡ false
      → literals_width ls ≡ width_of_fields fs
  fields_fit no_literals no_fields n h m = refl
  fields_fit no_literals (field name t fs) n h m = absurd (omega arith)
  fields_fit (literal l ls) no_fields n h m = absurd (omega arith)
  fields_fit (literal l ls) (field name t fs) n h m =
      let p = neither (literal_differs l t) (literals_differ ls fs) h in
      let q = neither (is_miscounted l t) (are_miscounted ls fs) m in
      let a : literal_width l ≡ width t = literal_fits l t p.0 q.0 in
      let b : literals_width ls ≡ width_of_fields fs = fields_fit ls fs (omega arith) p.1 q.1 in cc

pub aggregate : (ls : Literals) (ts rs us : List HwType) (k : ℕ) (t : HwType) → length ts ≡ 1 → length us ≡ 0 → length rs ≡ 1
    → parts_differ ls (first_type ts) ≡ false → parts_miscounted ls (first_type ts) ≡ false
    → differ (known_types rs) (first_type ts ∷ []) ≡ false → slice_get rs k ≡ Some t → (known_types us ≡ []) × (literals_width ls ≡ width t)
aggregate ls [] rs us k t n m o h c d e = absurd (omega arith)
aggregate ls (u ∷ []) rs us k t n m o h c d e =
    let f : t ≡ u = single rs u t k o d e in
    (none_left us m, literal_fits (parts ls) u h c ∙ ap width (sym f))
aggregate ls (u ∷ v ∷ ts) rs us k t n m o h c d e = absurd (omega arith)

-- ---- structs

-- a struct of its fields
pub construction : (ts rs us : List HwType) (k : ℕ) (t : HwType) → length ts ≡ 1 → length us ≡ field_count (first_type ts) → length rs ≡ 1
    → is_no_struct (first_type ts) ≡ false → differ (known_types us) (fields_of (first_type ts)) ≡ false
    → differ (known_types rs) (first_type ts ∷ []) ≡ false → slice_get rs k ≡ Some t
    → (fs : FieldTypes) × (t ≡ struct fs) × (known_types us ≡ map (λ (u : HwType). Some u) (field_list fs))
construction [] rs us k t n m o f h d e = absurd (omega arith)
construction (struct fs ∷ []) rs us k t n m o f h d e =
    (fs, single rs (struct fs) t k o d e, ap known_types (pairwise_agreed us (field_list fs) m h))
construction (int w ∷ []) rs us k t n m o f h d e = absurd (apart f)
construction (clock ∷ []) rs us k t n m o f h d e = absurd (apart f)
construction (array c v ∷ []) rs us k t n m o f h d e = absurd (apart f)
construction (u ∷ v ∷ ts) rs us k t n m o f h d e = absurd (omega arith)

pub is_some_type : (x : Option HwType) → is_none x ≡ false → (t : HwType) × (x ≡ Some t)
is_some_type None h = absurd (apart h)
is_some_type (Some t) h = (t, refl)

-- a field of a struct
pub selection : (name : Name) (ts rs us : List HwType) (k : ℕ) (t : HwType) → length ts ≡ 1 → length us ≡ 1 → length rs ≡ 1
    → is_no_struct (first_type ts) ≡ false → any_differs (known_types us) (first_type ts) ≡ false → is_none (field_of (first_type ts) name) ≡ false
    → differ (known_types rs) (field_of (first_type ts) name ∷ []) ≡ false → slice_get rs k ≡ Some t
    → (fs : FieldTypes) × (known_types us ≡ Some (struct fs) ∷ []) × (nth_type ts 0 ≡ struct fs) × (field_type fs name ≡ Some t)
selection name [] rs us k t n m o f h x d e = absurd (omega arith)
selection name (struct fs ∷ []) rs us k t n m o f h x d e =
    let a = is_some_type (field_type fs name) x in
    let y = rw a.1 at d in
    let g : t ≡ a.0 = single rs a.0 t k o y e in
    (fs, one_agreed us (struct fs) m (all_agreed us (struct fs) h), refl, a.1 ∙ ap (λ (s : HwType). Some s) (sym g))
selection name (int w ∷ []) rs us k t n m o f h x d e = absurd (apart f)
selection name (clock ∷ []) rs us k t n m o f h x d e = absurd (apart f)
selection name (array c v ∷ []) rs us k t n m o f h x d e = absurd (apart f)
selection name (u ∷ v ∷ ts) rs us k t n m o f h x d e = absurd (omega arith)

-- a struct with a field put in
pub exchange : (name : Name) (ts rs us : List HwType) (k : ℕ) (t : HwType) → length ts ≡ 1 → length us ≡ 2 → length rs ≡ 1
    → is_no_struct (first_type ts) ≡ false → differ_in_two (known_types us) (first_type ts) (field_of (first_type ts) name) ≡ false
    → is_none (field_of (first_type ts) name) ≡ false → differ (known_types rs) (first_type ts ∷ []) ≡ false → slice_get rs k ≡ Some t
    → (fs : FieldTypes) × (e : HwType) × (known_types us ≡ Some t ∷ Some e ∷ []) × (nth_type ts 0 ≡ t) × (t ≡ struct fs) × (field_type fs name ≡ Some e)
exchange name [] rs us k t n m o f h x d e = absurd (omega arith)
exchange name (struct fs ∷ []) rs us k t n m o f h x d e =
    let a = is_some_type (field_type fs name) x in
    let y = rw a.1 at h in
    let g : t ≡ struct fs = single rs (struct fs) t k o d e in
    (fs, a.0, pair_agreed us (struct fs) a.0 m y ∙ ap (λ (s : HwType). Some s ∷ Some a.0 ∷ []) (sym g), sym g, g, a.1)
exchange name (int w ∷ []) rs us k t n m o f h x d e = absurd (apart f)
exchange name (clock ∷ []) rs us k t n m o f h x d e = absurd (apart f)
exchange name (array c v ∷ []) rs us k t n m o f h x d e = absurd (apart f)
exchange name (u ∷ v ∷ ts) rs us k t n m o f h x d e = absurd (omega arith)

-- the fields of a struct, one result for each
pub explosion : (ts rs us : List HwType) (k : ℕ) (t : HwType) → length ts ≡ 1 → length us ≡ 1 → length rs ≡ field_count (first_type ts)
    → is_no_struct (first_type ts) ≡ false → any_differs (known_types us) (first_type ts) ≡ false
    → differ (known_types rs) (fields_of (first_type ts)) ≡ false → slice_get rs k ≡ Some t
    → (fs : FieldTypes) × (known_types us ≡ Some (struct fs) ∷ []) × (nth_type ts 0 ≡ struct fs) × (slice_get (field_list fs) k ≡ Some t)
explosion [] rs us k t n m o f h d e = absurd (omega arith)
explosion (struct fs ∷ []) rs us k t n m o f h d e =
    let same : rs ≡ field_list fs = pairwise_agreed rs (field_list fs) o d in
    (fs, one_agreed us (struct fs) m (all_agreed us (struct fs) h), refl, ap (λ (vs : List HwType). slice_get vs k) (sym same) ∙ e)
explosion (int w ∷ []) rs us k t n m o f h d e = absurd (apart f)
explosion (clock ∷ []) rs us k t n m o f h d e = absurd (apart f)
explosion (array c v ∷ []) rs us k t n m o f h d e = absurd (apart f)
explosion (u ∷ v ∷ ts) rs us k t n m o f h d e = absurd (omega arith)

-- ---- registers

-- the operands of a register of a type that do not differ from what is due
plain_operands : (r : Reset) (us : List HwType) (u : HwType) → length us ≡ 2 + reset_operands r → register_differs false r (Some u) (known_types us) ≡ false
    → known_types us ≡ register_types false r u
plain_operands no_reset [] u n h = absurd (omega arith)
plain_operands no_reset (a ∷ []) u n h = absurd (omega arith)
plain_operands no_reset (a ∷ b ∷ []) u n h =
    let p = neither (differ_in_two (known_types (a ∷ b ∷ [])) (Some u) (Some clock)) _ h in
    pair_agreed (a ∷ b ∷ []) u clock refl p.0
plain_operands no_reset (a ∷ b ∷ c ∷ us) u n h = absurd (omega arith)
plain_operands sync_reset [] u n h = absurd (omega arith)
plain_operands sync_reset (a ∷ []) u n h = absurd (omega arith)
plain_operands sync_reset (a ∷ b ∷ []) u n h = absurd (omega arith)
plain_operands sync_reset (a ∷ b ∷ c ∷ []) u n h = absurd (omega arith)
plain_operands sync_reset (a ∷ b ∷ c ∷ d ∷ []) u n h =
    let p = neither (differ_in_two (known_types (a ∷ b ∷ c ∷ d ∷ [])) (Some u) (Some clock)) _ h in
    let q = neither (differs (Some a) (Some u)) (differs (Some b) (Some clock)) p.0 in
    let r = neither (differs (Some c) (Some (int 1))) (differs (Some d) (Some u)) p.1 in
    let e : a ≡ u = agreed a u q.0 in
    let f : b ≡ clock = agreed b clock q.1 in
    let g : c ≡ int 1 = agreed c (int 1) r.0 in
    let i : d ≡ u = agreed d u r.1 in cc
plain_operands sync_reset (a ∷ b ∷ c ∷ d ∷ v ∷ us) u n h = absurd (omega arith)

enabled_operands : (r : Reset) (us : List HwType) (u : HwType) → length us ≡ 3 + reset_operands r → register_differs true r (Some u) (known_types us) ≡ false
    → known_types us ≡ register_types true r u
enabled_operands no_reset [] u n h = absurd (omega arith)
enabled_operands no_reset (a ∷ []) u n h = absurd (omega arith)
enabled_operands no_reset (a ∷ b ∷ []) u n h = absurd (omega arith)
enabled_operands no_reset (a ∷ b ∷ c ∷ []) u n h =
    let p = neither (differ_in_two (known_types (a ∷ b ∷ c ∷ [])) (Some u) (Some clock)) _ h in
    let q = neither (differs (Some a) (Some u)) (differs (Some b) (Some clock)) p.0 in
    let r = neither (differs (Some c) (Some (int 1))) _ p.1 in
    let e : a ≡ u = agreed a u q.0 in
    let f : b ≡ clock = agreed b clock q.1 in
    let g : c ≡ int 1 = agreed c (int 1) r.0 in cc
enabled_operands no_reset (a ∷ b ∷ c ∷ d ∷ us) u n h = absurd (omega arith)
enabled_operands sync_reset [] u n h = absurd (omega arith)
enabled_operands sync_reset (a ∷ []) u n h = absurd (omega arith)
enabled_operands sync_reset (a ∷ b ∷ []) u n h = absurd (omega arith)
enabled_operands sync_reset (a ∷ b ∷ c ∷ []) u n h = absurd (omega arith)
enabled_operands sync_reset (a ∷ b ∷ c ∷ d ∷ []) u n h = absurd (omega arith)
enabled_operands sync_reset (a ∷ b ∷ c ∷ d ∷ v ∷ []) u n h =
    let p = neither (differ_in_two (known_types (a ∷ b ∷ c ∷ d ∷ v ∷ [])) (Some u) (Some clock)) _ h in
    let q = neither (differs (Some a) (Some u)) (differs (Some b) (Some clock)) p.0 in
    let s = neither (differs (Some c) (Some (int 1))) _ p.1 in
    let r = neither (differs (Some d) (Some (int 1))) (differs (Some v) (Some u)) s.1 in
    let e : a ≡ u = agreed a u q.0 in
    let f : b ≡ clock = agreed b clock q.1 in
    let g : c ≡ int 1 = agreed c (int 1) s.0 in
    let i : d ≡ int 1 = agreed d (int 1) r.0 in
    let j : v ≡ u = agreed v u r.1 in cc
enabled_operands sync_reset (a ∷ b ∷ c ∷ d ∷ v ∷ w ∷ us) u n h = absurd (omega arith)

pub plain_register : (r : Reset) (ts rs us : List HwType) (k : ℕ) (t : HwType) → length ts ≡ 1 → length us ≡ 2 + reset_operands r → length rs ≡ 1
    → register_differs false r (first_type ts) (known_types us) ≡ false → differ (known_types rs) (first_type ts ∷ []) ≡ false → slice_get rs k ≡ Some t
    → known_types us ≡ register_types false r t
plain_register r [] rs us k t n m o h d e = absurd (omega arith)
plain_register r (u ∷ []) rs us k t n m o h d e =
    let f : t ≡ u = single rs u t k o d e in plain_operands r us u m h ∙ ap (register_types false r) (sym f)
plain_register r (u ∷ v ∷ ts) rs us k t n m o h d e = absurd (omega arith)

pub enabled_register : (r : Reset) (ts rs us : List HwType) (k : ℕ) (t : HwType) → length ts ≡ 1 → length us ≡ 3 + reset_operands r → length rs ≡ 1
    → register_differs true r (first_type ts) (known_types us) ≡ false → differ (known_types rs) (first_type ts ∷ []) ≡ false → slice_get rs k ≡ Some t
    → known_types us ≡ register_types true r t
enabled_register r [] rs us k t n m o h d e = absurd (omega arith)
enabled_register r (u ∷ []) rs us k t n m o h d e =
    let f : t ≡ u = single rs u t k o d e in enabled_operands r us u m h ∙ ap (register_types true r) (sym f)
enabled_register r (u ∷ v ∷ ts) rs us k t n m o h d e = absurd (omega arith)

-- what gives no results has none
pub without_results : (rs : List HwType) (k : ℕ) (t : HwType) → length rs ≡ 0 → slice_get rs k ≡ Some t → ⊥
without_results [] k t n e = cc
without_results (r ∷ rs) k t n e = omega arith
