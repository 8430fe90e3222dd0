-- Registers, instances and outputs split by what becomes of them, under any names.
use Rattle.std.proofs.Common.{◌≡◌, ℕ, suc, true, false, List, [], ◌∷◌, length, map, flat_map, Option, Some, None, is_some, refl, sym, ap, ap₂, ◌∙◌, slice_get}
use Rattle.hw_model.specs.Types.{Name, HwType, leaves}
use Rattle.hw_model.specs.Kinds.{Kind}
use Rattle.hw_model.specs.Design.{Ref, Op, RegisterForm, register_form, is_register, result_type}
use Rattle.edit_laws.specs.Edit.{is_anchor}
use Rattle.aggregate_laws.specs.Leaves.{bare, bare_kind, bare_op, leaf_operands, leaf_registers, leaves_of, lower_anchor, result_types}
use Rattle.aggregate_laws.specs.Rules.{Rule, Splits, block}
use Rattle.aggregate_laws.specs.OperationRules.{made_op, all_leaves, for_each, register_rule, spread_rule, register_stays_rule}
use Rattle.aggregate_laws.proofs.Lists.{flat_map-map}
use Rattle.aggregate_laws.proofs.Bare.{types_bare, type_listed}
use Rattle.aggregate_laws.proofs.Anchors.{lowered_register, lowered_other}
use Rattle.aggregate_laws.proofs.Bodies.{register_anchor}
use Rattle.aggregate_laws.proofs.Leafwise.{length-for_each}

-- a rule whose block is what becomes of the operation, but for names
anchor_splits : (rule : Rule) (old_type : Ref → Option HwType) (stand : Ref → List Ref) (o : Op) → is_anchor o ≡ true → ((start : ℕ) → length (block rule stand start o) ≡ rule.count)
    → ((start : ℕ) → map bare_op (block rule stand start o) ≡ lower_anchor stand o) → (is_register o ≡ true → (k : ℕ) → result_type o (suc k) ≡ None)
    → (is_register o ≡ true → (i : ℕ) → rule.position i ≡ i) → Splits rule old_type stand o
anchor_splits rule old_type stand o anchor size becomes one position = record {
  shape = record {
    size = size;
    anchor = λ is. becomes;
    plain = λ plain start x here. let clash : true ≡ false = sym anchor ∙ plain in cc;
    register_has_one = one;
    register_position = position;
    leaf_type = λ plain start k i t u typed at_u. let clash : true ≡ false = sym anchor ∙ plain in cc;
  };
  has_first = λ plain start i x at_i. absurd (apart plain);
  well = λ plain new_type start stands. absurd (apart plain);
}
  where
    apart : is_anchor o ≡ false → ⊥
    apart plain = let clash : true ≡ false = sym anchor ∙ plain in cc

leaf_registers_made : (o : Op) (g : ℕ → List Ref) (names : ℕ → Name) (n : ℕ) (ts : List HwType)
    → map bare_op (for_each (λ i t. made_op o o.kind (g i) (t ∷ []) (names i) t) n ts) ≡ leaf_registers (bare_kind o.kind) g n ts
leaf_registers_made o g names n [] = refl
leaf_registers_made o g names n (t ∷ ts) = ap (λ xs. bare (bare_kind o.kind) (g n) (t ∷ []) ∷ xs) (leaf_registers_made o g names (suc n) ts)

pub register_splits : (o : Op) (form : RegisterForm) (names : ℕ → Name) (old_type : Ref → Option HwType) (stand : Ref → List Ref) → register_form o.kind ≡ Some form
    → ((k : ℕ) → result_type o (suc k) ≡ None) → Splits (register_rule o form names) old_type stand o
register_splits o form names old_type stand is one =
    anchor_splits (register_rule o form names) old_type stand o (register_anchor o form is)
    (λ start. length-for_each (λ i t. made_op o o.kind (leaf_operands form.has_enable form.reset (map stand o.operands) i) (t ∷ []) (names i) t) 0 (leaves_of (result_type o 0)))
    (λ start. leaf_registers_made o (leaf_operands form.has_enable form.reset (map stand o.operands)) names 0 (leaves_of (result_type o 0)) ∙ sym (lowered_register stand o form is))
    (λ register. one) (λ register i. refl)

pub register_stays_splits : (o : Op) (form : RegisterForm) (old_type : Ref → Option HwType) (stand : Ref → List Ref) (t : HwType) → register_form o.kind ≡ Some form
    → result_types o ≡ t ∷ [] → leaves t ≡ t ∷ [] → Splits (register_stays_rule o form) old_type stand o
register_stays_splits o form old_type stand t is one scalar =
    anchor_splits (register_stays_rule o form) old_type stand o (register_anchor o form is) (λ start. refl)
    (λ start.
    ap (λ ts. bare (bare_kind o.kind) (leaf_operands form.has_enable form.reset (map stand o.operands) 0) ts ∷ []) one
    ∙ ap (leaf_registers (bare_kind o.kind) (leaf_operands form.has_enable form.reset (map stand o.operands)) 0) (sym scalar)
    ∙ ap (λ x. leaf_registers (bare_kind o.kind) (leaf_operands form.has_enable form.reset (map stand o.operands)) 0 (leaves_of x)) (sym first_result)
    ∙ sym (lowered_register stand o form is))
    (λ register k. type_listed o (suc k) ∙ ap (λ ts. slice_get ts (suc k)) one) (λ register i. refl)
  where
    first_result : result_type o 0 ≡ Some t
    first_result = type_listed o 0 ∙ ap (λ ts. slice_get ts 0) one

pub spread_splits : (o : Op) (kind : Kind) (old_type : Ref → Option HwType) (stand : Ref → List Ref) → is_anchor o ≡ true → register_form o.kind ≡ None
    → bare_kind kind ≡ bare_kind o.kind → Splits (spread_rule o kind) old_type stand o
spread_splits o kind old_type stand anchor none same =
    anchor_splits (spread_rule o kind) old_type stand o anchor (λ start. refl)
    (λ start.
    ap (λ x. x ∷ [])
    (ap₂ (λ rs ts. bare (bare_kind kind) rs ts) (flat_map-map (λ (rs : List Ref). rs) stand o.operands) (types_bare (all_leaves o))
    ∙ ap (λ k. bare k (flat_map stand o.operands) (all_leaves o)) same)
    ∙ sym (lowered_other stand o none))
    (λ register. absurd (no_register register)) (λ register i. refl)
  where
    no_register : is_register o ≡ true → ⊥
    no_register register = let clash : true ≡ false = sym register ∙ ap is_some none in cc
