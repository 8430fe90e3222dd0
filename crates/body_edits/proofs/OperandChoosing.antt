-- The operands that patterns choose by ids are those of the table by positions.
use Rattle.std.proofs.Common.{◌≡◌, ℕ, suc, ◌+◌, ◌-◌, ◌<◌, ◌≤◌, Bool, true, false, cond, not, List, [], ◌∷◌, ◌++◌, length, map, take, drop, Option, Some, None, refl, sym, ap, subst, ◌∙◌, arith, option_and_then}
use Rattle.std.specs.Prelude.{option_map, position, remove, IfSome, All}
use Rattle.std.specs.List.{list_any}
use Rattle.std.proofs.lemmas.List.{length-map, drop-map, take_rest}
use Rattle.hw_model.specs.Design.{Ref}
use Rattle.ir_store.specs.declared.body.Body.{Body}
use Rattle.ir_store.specs.declared.operation.Value.{Value}
use Rattle.ir_store.specs.Bodies.{ids_of}
use Rattle.ir_store.specs.BodyOps.{same_value}
use Rattle.ir_store.specs.Live.{IsLive}
use Rattle.ir_store.specs.Positions.{same_ref}
use Rattle.ir_store.proofs.Numbering.{same-ref_by}
use Rattle.fold_laws.specs.ConstantOperands.{has_other, with_first_last}
use Rattle.fold_laws.specs.Fewer.{without_first, without_first_of_more, without_repeat, without_pair, without_pair_of_more}
use Rattle.body_edits.specs.declared.operand_choices.Repeat.{Repeat}
use Rattle.body_edits.specs.OperandEdits.{first_repeat}
use Rattle.body_edits.specs.Views.{value_ref}
use Rattle.body_edits.proofs.FirstPositions.{position-map, first_goes}
use Rattle.body_edits.proofs.LastValues.{first_moves, other_any, any_map}
use Rattle.body_edits.proofs.Repeats.{repeat_goes, pair_goes, repeat_within, repeat-map}

-- ---- lists of enough values

pub first_of_two : (test : Ref → Bool) (rs : List Ref) → 2 ≤ length rs → without_first_of_more test rs ≡ without_first test rs
first_of_two test (x ∷ y ∷ rs) enough = refl
first_of_two test [] enough = absurd (omega (arith, enough))
first_of_two test (x ∷ []) enough = absurd (omega (arith, enough))

pub pair_of_three : (rs : List Ref) → 3 ≤ length rs → without_pair_of_more rs ≡ without_pair rs
pair_of_three (x ∷ y ∷ z ∷ rs) enough = refl
pair_of_three [] enough = absurd (omega (arith, enough))
pair_of_three (x ∷ []) enough = absurd (omega (arith, enough))
pair_of_three (x ∷ y ∷ []) enough = absurd (omega (arith, enough))

-- ---- values of a body

module _ (b : Body) (vs : List Value) where
  -- the first that meets a test goes
  pub one_goes : (test : Ref → Bool) (o : Option ℕ) → 2 ≤ length vs → o ≡ position (λ v. test (value_ref b v)) vs
      → option_map (λ k. remove (map (value_ref b) vs) k) o ≡ without_first_of_more test (map (value_ref b) vs)
  one_goes test o enough is =
      let count = length-map vs (value_ref b) in
      ap (option_map (λ k. remove (map (value_ref b) vs) k)) (is ∙ sym (position-map test (value_ref b) vs))
      ∙ first_goes test (map (value_ref b) vs)
      ∙ sym (first_of_two test (map (value_ref b) vs) (omega (arith, enough, count)))

  -- whether some value after a position does not meet a test
  other_after : (test : Ref → Bool) (k : ℕ) → list_any (λ v. not (test (value_ref b v))) (drop (suc k) vs) ≡ has_other test (drop (suc k) (map (value_ref b) vs))
  other_after test k =
      any_map (λ r. not (test r)) (value_ref b) (drop (suc k) vs)
      ∙ other_any test (map (value_ref b) (drop (suc k) vs))
      ∙ ap (has_other test) (sym (drop-map (value_ref b) (suc k) vs))

  -- a constant moves after the others
  pub one_moves : (test : Ref → Bool) (o : Option ℕ) → o ≡ position (λ v. test (value_ref b v)) vs
      → option_and_then (λ k. cond (list_any (λ v. not (test (value_ref b v))) (drop (suc k) vs)) (Some (remove (map (value_ref b) vs) k ++ take 1 (drop k (map (value_ref b) vs)))) None) o
      ≡ with_first_last test (map (value_ref b) vs)
  one_moves test None is = ap (λ (o : Option ℕ). option_and_then (λ j. cond (has_other test (drop (suc j) (map (value_ref b) vs)))
      (Some (remove (map (value_ref b) vs) j ++ take 1 (drop j (map (value_ref b) vs)))) None) o) (is ∙ sym (position-map test (value_ref b) vs)) ∙ first_moves test (map (value_ref b) vs)
  one_moves test (Some k) is =
      ap (λ h. cond h (Some (remove (map (value_ref b) vs) k ++ take 1 (drop k (map (value_ref b) vs)))) None) (other_after test k)
      ∙ ap (λ (o : Option ℕ). option_and_then (λ j. cond (has_other test (drop (suc j) (map (value_ref b) vs)))
      (Some (remove (map (value_ref b) vs) j ++ take 1 (drop j (map (value_ref b) vs)))) None) o) (is ∙ sym (position-map test (value_ref b) vs)) ∙ first_moves test (map (value_ref b) vs)

  -- at a position, by whether some later value does not meet the test
  other_later : (test : Ref → Bool) (k : ℕ) → list_any (λ v. not (test (value_ref b v))) (drop (suc k) vs) ≡ list_any (λ v. not (test (value_ref b v))) (take (length vs - (k + 1)) (drop (k + 1) vs))
  other_later test k =
      let after : suc k ≡ k + 1 = omega arith in
      ap (list_any (λ v. not (test (value_ref b v)))) (ap (λ j. drop j vs) after ∙ sym (take_rest vs (k + 1)))

  pub one_moves_last : (test : Ref → Bool) (k : ℕ) → Some k ≡ position (λ v. test (value_ref b v)) vs → list_any (λ v. not (test (value_ref b v))) (take (length vs - (k + 1)) (drop (k + 1) vs)) ≡ true
      → Some (remove (map (value_ref b) vs) k ++ take 1 (drop k (map (value_ref b) vs))) ≡ with_first_last test (map (value_ref b) vs)
  one_moves_last test k is other =
      sym (ap (λ h. cond h (Some (remove (map (value_ref b) vs) k ++ take 1 (drop k (map (value_ref b) vs)))) None) (other_later test k ∙ other)) ∙ one_moves test (Some k) is

  pub none_moves_last : (test : Ref → Bool) (k : ℕ) → Some k ≡ position (λ v. test (value_ref b v)) vs → list_any (λ v. not (test (value_ref b v))) (take (length vs - (k + 1)) (drop (k + 1) vs)) ≡ false
      → None ≡ with_first_last test (map (value_ref b) vs)
  none_moves_last test k is other =
      sym (ap (λ h. cond h (Some (remove (map (value_ref b) vs) k ++ take 1 (drop k (map (value_ref b) vs)))) None) (other_later test k ∙ other)) ∙ one_moves test (Some k) is

module _ (b : Body) (vs : List Value) (live : All (IsLive (ids_of b)) vs) where
  -- repeats by ids are repeats by positions
  same_repeat : first_repeat same_value vs ≡ first_repeat same_ref (map (value_ref b) vs)
  unfolding value_ref
  same_repeat = repeat-map (value_ref b) same_value same_ref (IsLive (ids_of b)) (λ x y. same-ref_by (ids_of b) x y) vs live

  pub repeated_goes : (o : Option Repeat) → o ≡ first_repeat same_value vs → option_map (λ (r : Repeat). remove (map (value_ref b) vs) r.second) o ≡ without_repeat (map (value_ref b) vs)
  repeated_goes o is = ap (option_map (λ (r : Repeat). remove (map (value_ref b) vs) r.second)) (is ∙ same_repeat) ∙ repeat_goes (map (value_ref b) vs)

  pub both_go : (o : Option Repeat) → 3 ≤ length vs → o ≡ first_repeat same_value vs
      → option_map (λ (r : Repeat). remove (remove (map (value_ref b) vs) r.second) r.first) o ≡ without_pair_of_more (map (value_ref b) vs)
  both_go o enough is =
      let count = length-map vs (value_ref b) in
      ap (option_map (λ (r : Repeat). remove (remove (map (value_ref b) vs) r.second) r.first)) (is ∙ same_repeat)
      ∙ pair_goes (map (value_ref b) vs)
      ∙ sym (pair_of_three (map (value_ref b) vs) (omega (arith, enough, count)))

pub both_within : (b : Body) (vs : List Value) (o : Option Repeat) → o ≡ first_repeat same_value vs → IfSome o (λ (r : Repeat). (r.first < r.second) × (r.second < length (map (value_ref b) vs)))
both_within b vs o is =
    subst (λ x. IfSome x (λ (r : Repeat). (r.first < r.second) × (r.second < length (map (value_ref b) vs)))) (sym is)
    (subst (λ n. IfSome (first_repeat same_value vs) (λ (r : Repeat). (r.first < r.second) × (r.second < n))) (sym (length-map vs (value_ref b))) (repeat_within same_value vs))
