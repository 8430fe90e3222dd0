-- An operation of a flat module that makes its result of its operands is of a plain kind, and short where it shifts.
use Rattle.std.proofs.Common.{◌≡◌, refl, sym, ap, subst, ◌∙◌, ℕ, zero, suc, ◌≤◌, ◌==◌, nat_lt, Bool, true, false, List, [], ◌∷◌, length, slice_get, Option, Some, None, arith, inl}
use Rattle.std.proofs.lemmas.Bool.{ltb-false}
use Rattle.std.specs.List.{list_any}
use Rattle.wiring.specs.Wiring.{In}
use Rattle.wiring.specs.Lists.{total}
use Rattle.hw_model.specs.Types.{HwType, width}
use Rattle.hw_model.specs.Types.HwType.{int, clock, array, struct}
use Rattle.hw_model.specs.Kinds.{Kind, Literals}
use Rattle.hw_model.specs.Kinds.Literal.{parts as literal_parts}
use Rattle.hw_model.specs.Kinds.ArrayOp.{array_create, array_concat, array_get, array_slice, array_inject}
use Rattle.hw_model.specs.Kinds.StructOp.{struct_create, struct_extract, struct_inject, struct_explode}
use Rattle.hw_model.specs.Kinds.Kind.{shift, aggregate_constant, on_array, on_struct, instance, output, register, async_firreg}
use Rattle.hw_model.specs.Design.{RegisterForm, instance_in, register_form, is_output_kind}
use Rattle.hw_model.specs.Sound.{Fits}
use Rattle.aggregate_laws.specs.Aggregates.{is_scalar}
use Rattle.type_inference.specs.ResultTypes.{first_type, result_type, result_types}
use Rattle.op_checks.specs.TypeChecks.{has_bad_part, is_outside}
use Rattle.op_checks.specs.TypeLists.{known_types}
use Rattle.op_checks.specs.LiteralChecks.{literal_differs}
use Rattle.op_checks.specs.OperandChecks.{parts_differ, has_other_operand}
use Rattle.op_checks.proofs.Widths.{neither}
use Rattle.op_checks.proofs.NoOwnCause.{NoOwnCause}
use Rattle.op_checks.proofs.Settled.{settles}
use Rattle.operation_gates.specs.Operands.{IsPlain, IsShort}

-- each type that is there has no parts
abbrev pub AreScalar : List (Option HwType) → Type 0
AreScalar xs = (t : HwType) → In (Some t) xs → is_scalar t ≡ true

-- the one result's type, where it is the first one written
first_written : (x : Option HwType) (rs : List HwType) (k : ℕ) (t : HwType) → x ∷ [] ≡ known_types rs → slice_get rs k ≡ Some t → x ≡ Some t
first_written x [] k t same there = cc
first_written x (r ∷ []) zero t same there = cc
first_written x (r ∷ []) (suc k) t same there = cc
first_written x (r ∷ s ∷ rs) k t same there = cc

-- a type within the limits that is written first
first_inside : (ts : List HwType) (t : HwType) → first_type ts ≡ Some t → list_any is_outside ts ≡ false → is_outside t ≡ false
first_inside [] t is inside = cc
first_inside (u ∷ ts) t is inside =
    let same : u ≡ t = cc in
    sym (ap is_outside same) ∙ (neither (is_outside u) (list_any is_outside ts) inside).0

short : (t : HwType) → is_scalar t ≡ true → is_outside t ≡ false → width t ≤ 128
unfolding is_outside
short (int w) scalar inside =
    let part = neither (has_bad_part (int w)) _ inside in
    let wide = neither (w == 0) (nat_lt 128 w) part.0 in
    ltb-false 128 w wide.1
short clock scalar inside = omega arith
short (array n t) scalar inside = cc
short (struct fs) scalar inside = cc

-- a type without parts is of a word of 1 to 128 bits
pub word : (t : HwType) → is_scalar t ≡ true → is_outside t ≡ false → (1 ≤ width t) × (width t ≤ 128)
unfolding is_outside
word (int zero) scalar inside = cc
word (int (suc w)) scalar inside = (omega arith, short (int (suc w)) scalar inside)
word clock scalar inside = (omega arith, omega arith)
word (array n t) scalar inside = cc
word (struct fs) scalar inside = cc

no_literal : {A : Type 0} (ls : Literals) (t : HwType) → is_scalar t ≡ true → literal_differs (literal_parts ls) t ≡ false → A
no_literal ls (int w) scalar same = cc
no_literal ls clock scalar same = cc
no_literal ls (array n t) scalar same = cc
no_literal ls (struct fs) scalar same = cc

-- a type is not both
both_ways : {A : Type 0} (t u : HwType) → is_scalar t ≡ true → t ≡ u → is_scalar u ≡ false → A
both_ways t u scalar same parts = let clash : false ≡ true = sym parts ∙ sym (ap is_scalar same) ∙ scalar in absurd (let no : false ≡ true → ⊥ = λ e. cc in no clash)

first_scalar : (xs zs : List (Option HwType)) (u : HwType) → AreScalar xs → xs ≡ Some u ∷ zs → is_scalar u ≡ true
first_scalar xs zs u all is = all u (subst (In (Some u)) (sym is) (inl refl))

module _ (named n : ℕ) (ys : List (Option HwType)) (is_known : Bool) (ts rs : List HwType) (xs : List (Option HwType)) (t : HwType) (k : ℕ)
    (there : slice_get rs k ≡ Some t) (scalar : is_scalar t ≡ true) (operands : AreScalar xs) where
  -- what is made of operands is of a plain kind
  pub made_plain : (kind : Kind) → register_form kind ≡ None → instance_in kind ≡ None → is_output_kind kind ≡ false
      → NoOwnCause kind ts rs named n ys is_known → Fits kind ts xs t k → IsPlain kind
  unfolding result_types result_type has_other_operand
  made_plain (aggregate_constant ls) r i u own fits =
      let first : first_type ts ≡ Some t = first_written (first_type ts) rs k t (settles (aggregate_constant ls) ts rs own) there in
      no_literal ls t scalar (sym (ap (parts_differ ls) first) ∙ own.operand)
  made_plain (on_array array_create) r i u own (e, is, all) = both_ways t (array (length xs) e) scalar is refl
  made_plain (on_array array_concat) r i u own (e, ns, are, is) = both_ways t (array (total ns) e) scalar is refl
  made_plain (on_array array_get) r i u own (m, v, are, first) = both_ways (array m t) (array m t) (first_scalar xs (Some v ∷ []) (array m t) operands are) refl refl
  made_plain (on_array array_slice) r i u own (m, l, e, v, are, first, is) = both_ways t (array l e) scalar is refl
  made_plain (on_array array_inject) r i u own (m, e, v, are, first, is) = both_ways t (array m e) scalar is refl
  made_plain (on_struct struct_create) r i u own (fs, is, are) = both_ways t (struct fs) scalar is refl
  made_plain (on_struct (struct_extract name)) r i u own (fs, are, first, field) = both_ways (struct fs) (struct fs) (first_scalar xs [] (struct fs) operands are) refl refl
  made_plain (on_struct (struct_inject name)) r i u own (fs, e, are, first, is, field) = both_ways t (struct fs) scalar is refl
  made_plain (on_struct struct_explode) r i u own (fs, are, first, field) = both_ways (struct fs) (struct fs) (first_scalar xs [] (struct fs) operands are) refl refl
  made_plain (instance x) r i u own fits = cc
  made_plain output r i u own fits = cc
  made_plain (register f x) r i u own fits = cc
  made_plain async_firreg r i u own fits = cc
  made_plain kind r i u own fits = tt

  -- a shift is of a word of 128 bits at most
  pub made_short : (kind : Kind) → NoOwnCause kind ts rs named n ys is_known → IsShort kind (width t)
  unfolding result_types result_type
  made_short (shift s) own =
      let first : first_type ts ≡ Some t = first_written (first_type ts) rs k t (settles (shift s) ts rs own) there in
      short t scalar (first_inside ts t first own.written)
  made_short kind own = tt

  -- what a register holds is a word
  pub made_held : (kind : Kind) (f : RegisterForm) → register_form kind ≡ Some f → NoOwnCause kind ts rs named n ys is_known → (1 ≤ width t) × (width t ≤ 128)
  unfolding result_types result_type
  made_held (register g x) f is own = word t scalar (first_inside ts t (first_written (first_type ts) rs k t (settles (register g x) ts rs own) there) own.written)
  made_held async_firreg f is own = word t scalar (first_inside ts t (first_written (first_type ts) rs k t (settles async_firreg ts rs own) there) own.written)
  made_held kind f is own = cc
