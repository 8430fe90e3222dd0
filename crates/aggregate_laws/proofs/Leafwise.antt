-- Operations that become one for each leaf of their results.
use Rattle.std.proofs.Common.{◌≡◌, ℕ, zero, suc, ◌+◌, true, false, cond, List, [], ◌∷◌, length, map, flat_map, slice_get, Option, Some, refl, sym, ap, ap₂, subst, ◌∙◌, inl, arith, zero-add, add-zero, option_and_then, option_map}
use Rattle.std.proofs.lemmas.Option.{slice_get_within}
use Rattle.wiring.specs.Wiring.{In}
use Rattle.wiring.proofs.Options.{option_map_some}
use Rattle.wiring.proofs.Members.{position_of_In}
use Rattle.bits_core.specs.Word.{Word}
use Rattle.hw_model.specs.Types.{Name, HwType, leaves}
use Rattle.hw_model.specs.Kinds.{Kind}
use Rattle.hw_model.specs.Value.{concat_words}
use Rattle.hw_model.specs.Design.{Ref, Op, result_type}
use Rattle.hw_model.specs.Design.Ref.{result}
use Rattle.hw_model.specs.Sound.{HasWidth, Fits, OpFits}
use Rattle.edit_laws.specs.Edit.{is_anchor, result_word}
use Rattle.aggregate_laws.specs.Leaves.{in_row, result_types, result_start}
use Rattle.aggregate_laws.specs.Lowered.{whole}
use Rattle.aggregate_laws.specs.Rules.{leaf_ref, SplitsShape, Splits}
use Rattle.aggregate_laws.specs.OperationRules.{made_op, all_leaves, for_each, leafwise}
use Rattle.aggregate_laws.proofs.Lists.{flat_map_at}
use Rattle.aggregate_laws.proofs.Bare.{type_listed}
use Rattle.aggregate_laws.proofs.Bodies.{plain_not_one, plain_no_register}

-- ---- lists of operations

pub length-for_each : (each : ℕ → HwType → Op) (n : ℕ) (ts : List HwType) → length (for_each each n ts) ≡ length ts
length-for_each each n [] = refl
length-for_each each n (t ∷ ts) = ap suc (length-for_each each (suc n) ts)

pub for_each_at : (each : ℕ → HwType → Op) (ts : List HwType) (n i : ℕ) → slice_get (for_each each n ts) i ≡ option_map (each (n + i)) (slice_get ts i)
for_each_at each [] n i = refl
for_each_at each (t ∷ ts) n zero = ap (λ m. Some (each m t)) (sym (add-zero n))
for_each_at each (t ∷ ts) n (suc i) = for_each_at each ts (suc n) i ∙ ap (λ m. option_map (each m) (slice_get ts i)) (let e : suc n + i ≡ n + suc i = omega arith in e)

-- a made operation has one result
pub one_result : (o : Op) (kind : Kind) (rs : List Ref) (ts : List HwType) (name : Name) (t t' : HwType) (k : ℕ)
    → result_type (made_op o kind rs ts name t) k ≡ Some t' → (k ≡ 0) × (t ≡ t')
one_result o kind rs ts name t t' zero is = (refl, cc)
one_result o kind rs ts name t t' (suc k) is = cc

-- it fits where it fits at that
pub made_fits : (new_type : Ref → Option HwType) (o : Op) (kind : Kind) (rs : List Ref) (ts : List HwType) (name : Name) (t : HwType)
    → Fits kind ts (map new_type rs) t 0 → OpFits new_type (made_op o kind rs ts name t)
made_fits new_type o kind rs ts name t fits k t' typed =
    let one = one_result o kind rs ts name t t' k typed in
    subst (λ n. Fits kind ts (map new_type rs) t' n) (sym one.0) (subst (λ u. Fits kind ts (map new_type rs) u 0) one.1 fits)

-- an operation with one result
pub only_result : (o : Op) (t t' : HwType) (k : ℕ) → result_types o ≡ t ∷ [] → result_type o k ≡ Some t' → (k ≡ 0) × (t ≡ t')
only_result o t t' k one typed = go k (ap (λ ts. slice_get ts k) (sym one) ∙ sym (type_listed o k) ∙ typed)
  where
    go : (k : ℕ) → slice_get (t ∷ []) k ≡ Some t' → (k ≡ 0) × (t ≡ t')
    go zero is = (refl, cc)
    go (suc k) is = cc

-- ---- one operation for each leaf

-- what the operations for the leaves owe: they fit, they are made of what stands for the operands, and their words in a row,
-- joined, are the word of each result
pub record EachWell (o : Op) (each : ℕ → HwType → Op) (new_type : Ref → Option HwType) (parts : Ref → List Ref) : Type 0 where
  pub fits : (i : ℕ) (t : HwType) → slice_get (all_leaves o) i ≡ Some t → OpFits new_type (each i t)
  pub operands : (i : ℕ) (t : HwType) (r : Ref) → slice_get (all_leaves o) i ≡ Some t → In r (each i t).operands → (x : Ref) × In x o.operands × In r (parts x)
  pub words : (τ : Ref → Word) → ((r : Ref) → HasWidth (new_type r) (τ r)) → (g : ℕ → Word)
      → ((i : ℕ) (t : HwType) → slice_get (all_leaves o) i ≡ Some t → g i ≡ result_word τ (each i t) 0 (Some t))
      → (k : ℕ) (t : HwType) → result_type o k ≡ Some t
      → result_word (whole parts τ) o k (Some t) ≡ concat_words (in_row g (result_start o k) (length (leaves t)))

-- the i-th leaf of result k among all leaves
pub leaf_among : (o : Op) (k i : ℕ) (t u : HwType) → result_type o k ≡ Some t → slice_get (leaves t) i ≡ Some u → slice_get (all_leaves o) (result_start o k + i) ≡ Some u
leaf_among o k i t u typed at_u =
    flat_map_at leaves (result_types o) k i t (sym (type_listed o k) ∙ typed) (slice_get_within (leaves t) i u at_u) ∙ at_u

module _ (o : Op) (each : List (List Ref) → ℕ → HwType → Op) (old_type : Ref → Option HwType) (parts : Ref → List Ref)
    (typed_each : (args : List (List Ref)) (i : ℕ) (t : HwType) → result_type (each args i t) 0 ≡ Some t)
    (plain_each : (args : List (List Ref)) (i : ℕ) (t : HwType) → is_anchor (each args i t) ≡ false) (plain : is_anchor o ≡ false) where
  found_each : (i : ℕ) (x : Op) → slice_get (for_each (each (map parts o.operands)) 0 (all_leaves o)) i ≡ Some x
      → (t : HwType) × (slice_get (all_leaves o) i ≡ Some t) × (each (map parts o.operands) i t ≡ x)
  found_each i x is =
      option_map_some (each (map parts o.operands) i) (slice_get (all_leaves o) i)
      (ap (λ n. option_map (each (map parts o.operands) n) (slice_get (all_leaves o) i)) (sym (zero-add i)) ∙ sym (for_each_at (each (map parts o.operands)) (all_leaves o) 0 i) ∙ is)

  leaf_there : (i : ℕ) (t : HwType) → slice_get (all_leaves o) i ≡ Some t → slice_get (for_each (each (map parts o.operands)) 0 (all_leaves o)) i ≡ Some (each (map parts o.operands) i t)
  leaf_there i t is =
      for_each_at (each (map parts o.operands)) (all_leaves o) 0 i ∙ ap (λ n. option_map (each (map parts o.operands) n) (slice_get (all_leaves o) i)) (zero-add i)
      ∙ ap (option_map (each (map parts o.operands) i)) is

  leafwise_shape : SplitsShape (leafwise o each) parts o
  leafwise_shape = record {
    size = λ start. length-for_each (each (map parts o.operands)) 0 (all_leaves o);
    anchor = λ anchored start. let clash : true ≡ false = sym anchored ∙ plain in cc;
    plain = λ is start x here.
        let position = position_of_In x (for_each (each (map parts o.operands)) 0 (all_leaves o)) here in
        let found = found_each position.0 x position.1 in
        ap is_anchor (sym found.2) ∙ plain_each (map parts o.operands) position.0 found.0;
    register_has_one = λ register k. let clash : true ≡ false = sym register ∙ plain_no_register o plain in cc;
    register_position = λ register i. refl;
    leaf_type = λ is start k i t u typed at_u.
        ap (λ y. option_and_then (λ (x : Op). result_type x 0) y) (leaf_there (result_start o k + i) u (leaf_among o k i t u typed at_u))
        ∙ typed_each (map parts o.operands) (result_start o k + i) u;
  }

  -- where there is a leaf there is a first result
  first_typed : (i : ℕ) (t : HwType) → slice_get (all_leaves o) i ≡ Some t → (u : HwType) × (result_type o 0 ≡ Some u)
  first_typed i t is = go (result_types o) refl is
    where
      go : (ts : List HwType) → result_types o ≡ ts → slice_get (flat_map leaves ts) i ≡ Some t → (u : HwType) × (result_type o 0 ≡ Some u)
      go [] none never = cc
      go (u ∷ ts) some here = (u, type_listed o 0 ∙ ap (λ xs. slice_get xs 0) some)

  pub leafwise_splits : ((new_type : Ref → Option HwType) → ((r : Ref) (t : HwType) → old_type r ≡ Some t → map new_type (parts r) ≡ map (λ (u : HwType). Some u) (leaves t))
      → EachWell o (each (map parts o.operands)) new_type parts) → Splits (leafwise o each) old_type parts o
  leafwise_splits well_each = record {
    shape = leafwise_shape;
    has_first = λ is start i x at_i. let found = found_each i x at_i in first_typed i found.0 found.1;
    well = λ is new_type start stands.
        let wells = well_each new_type stands.typed in
        record {
          fits = λ i x at_i. let found = found_each i x at_i in subst (OpFits new_type) found.2 (wells.fits i found.0 found.1);
          operands = λ i x r at_i here.
              let found = found_each i x at_i in
              inl (wells.operands i found.0 r found.1 (subst (λ (y : Op). In r y.operands) (sym found.2) here));
          words = λ τ wide holds k t typed.
              wells.words τ wide (λ i. τ (result (start + i) 0))
              (λ i u at_u. holds i (each (map parts o.operands) i u) u (leaf_there i u at_u) (typed_each (map parts o.operands) i u)) k t typed
              ∙ ap concat_words (rule_of τ start (result_start o k) (length (leaves t)));
        };
  }
    where
      rule_of : (τ : Ref → Word) (start s n : ℕ) → in_row (λ i. τ (result (start + i) 0)) s n ≡ map τ (in_row (leaf_ref (leafwise o each) start o) s n)
      rule_of τ start s zero = refl
      rule_of τ start s (suc n) =
          ap₂ (λ x xs. x ∷ xs) (ap (λ b. τ (cond b (result start s) (result (start + s) 0))) (sym (plain_not_one o plain))) (rule_of τ start (suc s) n)
