-- Operations that have one value, part by part.
use Rattle.std.proofs.Common.{◌≡◌, ℤ, Bool, true, false, ◌&&◌, List, [], ◌∷◌, map, Option, Some, None, refl, sym, ap, ◌∙◌}
use Rattle.std.specs.Prelude.{option_map, slice_get}
use Rattle.std.specs.Cmp.Lexicographic.{pointwise}
use Rattle.hw_model.specs.Types.{HwType}
use Rattle.hw_model.specs.Kinds.{Kind, Literals}
use Rattle.hw_model.specs.Kinds.Kind.{constant, aggregate_constant, on_struct}
use Rattle.hw_model.specs.Kinds.StructOp.{struct_extract, struct_inject}
use Rattle.hw_model.specs.Design.{OpResult}
use Rattle.hw_model.specs.declared.kinds.Integer.{Integer}
use Rattle.hw_model.specs.declared.kinds.LiteralList.{LiteralList}
use Rattle.hw_model.specs.declared.kinds.OpKind.{OpKind}
use Rattle.hw_model.specs.declared.kinds.OpKind.TheVariants as kinds
use Rattle.hw_model.specs.KindViews.{kind_of}
use Rattle.hw_model.specs.SameKind.{same_kind}
use Rattle.hw_model.specs.SameType.{same_type, type_from}
use Rattle.ir_store.specs.declared.operation.Value.{Value}
use Rattle.ir_store.specs.BodyOps.{same_value}
use Rattle.ir_store.specs.OperationViews.{OpParts}
use Rattle.cse_pass.specs.EqualOps.{value_kind}
use Rattle.cse_pass.specs.Same.{first_type, types_of_results, are_same}

-- ---- kinds

-- whether a kind is a constant
abbrev pub is_constant_kind : Kind → Bool
is_constant_kind (constant z) = true
is_constant_kind (aggregate_constant ls) = true
is_constant_kind _ = false

-- a kind that is no constant is read as it is
stays : (t : Option HwType) (k : Kind) → is_constant_kind k ≡ false → value_kind t k ≡ k
stays t (constant z) other = cc
stays t (aggregate_constant ls) other = cc
stays None _ other = refl
stays (Some t) _ other = refl

-- what does not look into constants does not tell how they are read
looks_past : (f : Kind → Bool) → ((y z : ℤ) → f (constant y) ≡ f (constant z)) → ((ks ls : Literals) → f (aggregate_constant ks) ≡ f (aggregate_constant ls))
    → (t : Option HwType) (k : Kind) → f k ≡ f (value_kind t k)
looks_past f numbers parts None (constant z) = refl
looks_past f numbers parts None (aggregate_constant ls) = parts _ _
looks_past f numbers parts None _ = refl
looks_past f numbers parts (Some t) (constant z) = numbers _ _
looks_past f numbers parts (Some t) (aggregate_constant ls) = parts _ _
looks_past f numbers parts (Some t) _ = refl

past_numbers : (j : Kind) → is_constant_kind j ≡ false → (y z : ℤ) → same_kind j (constant y) ≡ same_kind j (constant z)
past_numbers (constant x) other y z = cc
past_numbers (aggregate_constant ls) other y z = cc
past_numbers (on_struct (struct_extract n)) other y z = refl
past_numbers (on_struct (struct_inject n)) other y z = refl
past_numbers _ other y z = refl

past_parts : (j : Kind) → is_constant_kind j ≡ false → (ks ls : Literals) → same_kind j (aggregate_constant ks) ≡ same_kind j (aggregate_constant ls)
past_parts (constant x) other ks ls = cc
past_parts (aggregate_constant x) other ks ls = cc
past_parts (on_struct (struct_extract n)) other ks ls = refl
past_parts (on_struct (struct_inject n)) other ks ls = refl
past_parts _ other ks ls = refl

-- of kinds the first of which is no constant
pub other_kinds : (t : Option HwType) (j k : Kind) → is_constant_kind j ≡ false → same_kind j k ≡ same_kind (value_kind t j) (value_kind t k)
other_kinds t j k other =
    looks_past (same_kind j) (past_numbers j other) (past_parts j other) t k ∙ ap (λ i. same_kind i (value_kind t k)) (sym (stays t j other))

-- so one in code
pub not_constant : (a : OpKind) → ((z : Integer) → a ≡ kinds.Constant z → ⊥) → ((ls : LiteralList) → a ≡ kinds.AggregateConstant ls → ⊥) → is_constant_kind (kind_of a) ≡ false
not_constant (kinds.Constant z) number parts = absurd (number z refl)
not_constant (kinds.AggregateConstant ls) number parts = absurd (parts ls refl)
not_constant _ number parts = refl

-- ---- operations

no_last : (a b c : Bool) → false ≡ a && (b && (c && false))
no_last false b c = refl
no_last true false c = refl
no_last true true false = refl
no_last true true true = refl

no_third : (a b d : Bool) → false ≡ a && (b && (false && d))
no_third false b d = refl
no_third true false d = refl
no_third true true d = refl

no_second : (a c : Bool) → false ≡ a && (false && c)
no_second false c = refl
no_second true c = refl

-- results of the same types have first ones of the same type
pub first_types : (rs ss : List OpResult) → pointwise same_type (map (λ (r : OpResult). r.type) rs) (map (λ (r : OpResult). r.type) ss) ≡ true
    → option_map (λ (r : OpResult). r.type) (slice_get rs 0) ≡ option_map (λ (r : OpResult). r.type) (slice_get ss 0)
first_types [] [] same = refl
first_types [] (s ∷ ss) same = cc
first_types (r ∷ rs) [] same = cc
first_types (r ∷ rs) (s ∷ ss) same = ap Some (type_from r.type s.type (both (same_type r.type s.type) _ same))
  where
    both : (a b : Bool) → a && b ≡ true → a ≡ true
    both true b e = refl
    both false b e = e

module _ (p : OpParts) (vs : List Value) (q : OpParts) (ws : List Value) where
  pub no_values : pointwise same_value vs ws ≡ false → false ≡ are_same p vs q ws
  unfolding are_same
  no_values none =
      rw none (no_second (same_kind (value_kind (first_type p) p.kind) (value_kind (first_type q) q.kind)) (pointwise same_type p.types q.types && pointwise same_type (types_of_results p) (types_of_results q)))

  pub no_types : pointwise same_type p.types q.types ≡ false → false ≡ are_same p vs q ws
  unfolding are_same
  no_types none =
      rw none (no_third (same_kind (value_kind (first_type p) p.kind) (value_kind (first_type q) q.kind)) (pointwise same_value vs ws) (pointwise same_type (types_of_results p) (types_of_results q)))

  pub no_results : pointwise same_type (types_of_results p) (types_of_results q) ≡ false → false ≡ are_same p vs q ws
  unfolding are_same
  no_results none =
      rw none (no_last (same_kind (value_kind (first_type p) p.kind) (value_kind (first_type q) q.kind)) (pointwise same_value vs ws) (pointwise same_type p.types q.types))

  pub all_same : (k : Bool) → pointwise same_value vs ws ≡ true → pointwise same_type (types_of_results p) (types_of_results q) ≡ true → pointwise same_type p.types q.types ≡ true
      → k ≡ same_kind (value_kind (first_type p) p.kind) (value_kind (first_type p) q.kind) → k ≡ are_same p vs q ws
  unfolding are_same
  all_same k values results types kinds =
      rw (values, results, types)
      (kinds ∙ ap (λ t. same_kind (value_kind (first_type p) p.kind) (value_kind t q.kind)) (first_types p.results q.results results) ∙ sym (and_true _))
    where
      and_true : (b : Bool) → b && true ≡ b
      and_true true = refl
      and_true false = refl
