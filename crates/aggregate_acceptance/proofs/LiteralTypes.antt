-- The leaves of a constant of an aggregate type have the types of that type's leaves.
use Rattle.std.proofs.Common.{◌≡◌, false, not, nat_eq, List, [], ◌∷◌, ◌++◌, length, refl, ap, ap₂, ◌∙◌, arith}
use Rattle.std.proofs.lemmas.Bool.{not-false}
use Rattle.hw_model.specs.Types.{HwType, FieldTypes, leaves, leaves_of_fields, list_copies}
use Rattle.hw_model.specs.Types.HwType.{int, clock, array, struct}
use Rattle.hw_model.specs.Types.FieldTypes.{no_fields, field}
use Rattle.hw_model.specs.Kinds.{Literal, Literals}
use Rattle.hw_model.specs.Kinds.Literal.{leaf, parts}
use Rattle.hw_model.specs.Kinds.Literals.{no_literals, literal}
use Rattle.hw_model.specs.SameType.{same_type, type_from}
use Rattle.hw_model.specs.Sound.{field_list}
use Rattle.op_checks.specs.LiteralChecks.{literal_count, literal_differs, any_literal_differs, literals_differ, is_miscounted, any_miscounted, are_miscounted}
use Rattle.op_checks.proofs.Widths.{neither}
use Rattle.op_checks.proofs.Agreeing.{same_number}
use Rattle.op_checks.proofs.FitIntegers.{apart}
use Rattle.aggregate_laws.specs.OperationRules.{literal_types, literals_types}

mutual
  pub literal_leaves : (l : Literal) (t : HwType) → literal_differs l t ≡ false → is_miscounted l t ≡ false → literal_types l ≡ leaves t
  literal_leaves (leaf z u) (int w) h m = ap (λ (t : HwType). t ∷ []) (type_from u (int w) (not-false (same_type u (int w)) h))
  literal_leaves (leaf z u) clock h m = absurd (apart h)
  literal_leaves (leaf z u) (array n t) h m = absurd (apart h)
  literal_leaves (leaf z u) (struct fs) h m = absurd (apart h)
  literal_leaves (parts ls) (int w) h m = absurd (apart h)
  literal_leaves (parts ls) clock h m = absurd (apart h)
  literal_leaves (parts ls) (array n t) h m =
      let p = neither (not (nat_eq (literal_count ls) n)) (any_miscounted ls t) m in
      elements_leaves ls t h p.1 ∙ ap (λ c. list_copies c (leaves t)) (same_number (literal_count ls) n p.0)
  literal_leaves (parts ls) (struct fs) h m =
      let p = neither (not (nat_eq (literal_count ls) (length (field_list fs)))) (are_miscounted ls fs) m in
      fields_leaves ls fs (same_number (literal_count ls) (length (field_list fs)) p.0) h p.1

  elements_leaves : (ls : Literals) (t : HwType) → any_literal_differs ls t ≡ false → any_miscounted ls t ≡ false
      → literals_types ls ≡ list_copies (literal_count ls) (leaves t)
  elements_leaves no_literals t h m = refl
  elements_leaves (literal l ls) t h m =
      let p = neither (literal_differs l t) (any_literal_differs ls t) h in
      let q = neither (is_miscounted l t) (any_miscounted ls t) m in
      ap₂ (λ (xs ys : List HwType). xs ++ ys) (literal_leaves l t p.0 q.0) (elements_leaves ls t p.1 q.1)

  fields_leaves : (ls : Literals) (fs : FieldTypes) → literal_count ls ≡ length (field_list fs) → literals_differ ls fs ≡ false → are_miscounted ls fs ≡ false
      → literals_types ls ≡ leaves_of_fields fs
  fields_leaves no_literals no_fields n h m = refl
  fields_leaves no_literals (field name t fs) n h m = absurd (omega arith)
  fields_leaves (literal l ls) no_fields n h m = absurd (omega arith)
  fields_leaves (literal l ls) (field name t fs) n h m =
      let p = neither (literal_differs l t) (literals_differ ls fs) h in
      let q = neither (is_miscounted l t) (are_miscounted ls fs) m in
      ap₂ (λ (xs ys : List HwType). xs ++ ys) (literal_leaves l t p.0 q.0) (fields_leaves ls fs (omega arith) p.1 q.1)
