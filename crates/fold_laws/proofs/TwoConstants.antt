-- Two constants among the operands of an operation of any number of them may be joined: the operation with the constant of their
-- value in the place of the second one has the value that it had.
use Rattle.std.proofs.Common.{◌≡◌, ◌⊎◌, ℕ, suc, pos, ◌+◌, ◌*◌, ◌^◌, ◌<◌, ◌≤◌, Bool, true, false, cond, List, [], ◌∷◌, length, map, set, Option, Some, None, slice_get, refl, sym, ap, subst, ◌∙◌, inl, inr, arith, option_and_then, option_map}
use Rattle.std.specs.Prelude.{is_some}
use Rattle.std.proofs.lemmas.List.{length-map, set-set}
use Rattle.std.proofs.lemmas.Option.{slice_get_within}
use Rattle.wiring.specs.Wiring.{In}
use Rattle.wiring.proofs.Lists.{slice_get-set_same}
use Rattle.wiring.proofs.Members.{In-map, from_In-map}
use Rattle.wiring.proofs.Options.{and_then_some}
use Rattle.bits_core.specs.Word.{Word, number, bits}
use Rattle.bits_core.proofs.Numbers.{bits-number, number_below}
use Rattle.hw_model.specs.Types.{Name, HwType}
use Rattle.hw_model.specs.Types.HwType.{int}
use Rattle.hw_model.specs.Kinds.{Kind, Variadic}
use Rattle.hw_model.specs.Kinds.Kind.{variadic, constant}
use Rattle.hw_model.specs.Design.{Ref, Op, Module, Design, result_type}
use Rattle.hw_model.specs.Design.Ref.{result}
use Rattle.hw_model.specs.Sound.{type_in, Fits}
use Rattle.hw_model.specs.Value.{variadic_value}
use Rattle.hw_model.specs.Weight.{kind_weight, body_weight, weight}
use Rattle.type_inference.specs.ResultTypes.{result_type as type_of_result}
use Rattle.stored_form.specs.ResultTypes.{type_or_none}
use Rattle.op_checks.specs.CountChecks.{type_count}
use Rattle.op_checks.specs.OperandChecks.{has_other_form}
use Rattle.edit_laws.specs.Edit.{retarget}
use Rattle.edit_laws.specs.Laws.{up_ref, insert_op, with_body, Inserted}
use Rattle.edit_laws.proofs.Inserted.{insert_op_preserves}
use Rattle.edit_laws.proofs.Weights.{weight-set, weight_with_body}
use Rattle.acceptance_laws.specs.Keeps.{IsFitting, IsFit}
use Rattle.acceptance_laws.proofs.PutIn.{fit_inserted}
use Rattle.pass_laws.specs.Steady.{IsSteady}
use Rattle.pass_laws.proofs.Shapes.{shape_insert}
use Rattle.pass_laws.proofs.Steady.{steady_then, steady_with_body}
use Rattle.fold_laws.specs.ConstantOperands.{with_word, constants_among, joined_number, with_first_as, with_two_as, with_joined, joining_edits, fold_two_constants}
use Rattle.fold_laws.specs.Constants.{first_result_word, constant_word, constant_at}
use Rattle.fold_laws.specs.Edits.{Edit, edited_by, fold_by}
use Rattle.fold_laws.specs.Edits.Edit.{changed, put_in}
use Rattle.fold_laws.specs.Fold.{kind_measure, measure, is_constant_in, IsSmaller, IsFold, FoldLaw}
use Rattle.fold_laws.specs.Numbers.{number_op}
use Rattle.fold_laws.proofs.Constants.{constant_typed, constant_high}
use Rattle.fold_laws.proofs.FewerOperands.{IsLike, like_itself, KeepsValue, operands_steady}
use Rattle.fold_laws.proofs.IntegerTypes.{IsIntegerType, integer_first}
use Rattle.fold_laws.proofs.MadeKinds.{is_made}
use Rattle.fold_laws.proofs.Measures.{measure-set}
use Rattle.fold_laws.proofs.NumberOps.{number_fits}
use Rattle.fold_laws.proofs.PutIn.{new_op, next_op, old_constant, measure_put, weight_put}
use Rattle.fold_laws.proofs.Patterns.{PatternLaw, pattern_is_fold}
use Rattle.fold_laws.proofs.Stands.{Known, op_found, op_typed, op_known}
use Rattle.fold_laws.proofs.VariadicValues.{value_more, value_turned, value_wide, value_joined}

-- ---- operands

-- each of the new operands is the constant, or one of the old ones
module _ (test : Ref → Bool) (f : Ref → Ref) (c r : Ref) where
  or_more : (x : Ref) (xs : List Ref) → (r ≡ c) ⊎ In r (map f xs) → (r ≡ c) ⊎ In r (map f (x ∷ xs))
  or_more x xs (inl same) = inl same
  or_more x xs (inr here) = inr (inr here)

  first_within : (xs : List Ref) → In r (with_first_as test f c xs) → (r ≡ c) ⊎ In r (map f xs)
  first_within [] here = absurd here
  first_within (x ∷ xs) here = go (test x) here (first_within xs)
    where
      go : (b : Bool) → In r (cond b (c ∷ map f xs) (f x ∷ with_first_as test f c xs)) → (In r (with_first_as test f c xs) → (r ≡ c) ⊎ In r (map f xs))
          → (r ≡ c) ⊎ In r (map f (x ∷ xs))
      go true (inl same) later = inl same
      go true (inr there) later = inr (inr there)
      go false (inl same) later = inr (inl same)
      go false (inr there) later = or_more x xs (later there)

  two_within : (xs : List Ref) → In r (with_two_as test f c xs) → (r ≡ c) ⊎ In r (map f xs)
  two_within [] here = absurd here
  two_within (x ∷ xs) here = go (test x) here (two_within xs)
    where
      go : (b : Bool) → In r (cond b (with_first_as test f c xs) (f x ∷ with_two_as test f c xs)) → (In r (with_two_as test f c xs) → (r ≡ c) ⊎ In r (map f xs))
          → (r ≡ c) ⊎ In r (map f (x ∷ xs))
      go true there later = or_more x xs (first_within xs there)
      go false (inl same) later = inr (inl same)
      go false (inr there) later = or_more x xs (later there)

-- there is one operand less
module _ (os : List Op) (f : Ref → Ref) (c : Ref) where
  first_count : (xs : List Ref) (y : Word) (ws : List Word) → constants_among os xs ≡ y ∷ ws
      → (length (with_first_as (is_constant_in os) f c xs) ≡ length xs) × (1 ≤ length xs)
  first_count [] y ws are = cc
  first_count (x ∷ xs) y ws are = go (constant_at os x) are (λ h. first_count xs y ws h)
    where
      go : (o : Option Word) → with_word o (constants_among os xs) ≡ y ∷ ws
          → (constants_among os xs ≡ y ∷ ws → (length (with_first_as (is_constant_in os) f c xs) ≡ length xs) × (1 ≤ length xs))
          → (length (cond (is_some o) (c ∷ map f xs) (f x ∷ with_first_as (is_constant_in os) f c xs)) ≡ suc (length xs)) × (1 ≤ suc (length xs))
      go (Some u) h later = (ap suc (length-map xs f), omega arith)
      go None h later = (ap suc (later h).0, omega arith)

  two_count : (xs : List Ref) (x y : Word) (ws : List Word) → constants_among os xs ≡ x ∷ y ∷ ws
      → (suc (length (with_two_as (is_constant_in os) f c xs)) ≡ length xs) × (1 ≤ length (with_two_as (is_constant_in os) f c xs))
  two_count [] x y ws are = cc
  two_count (z ∷ zs) x y ws are = go (constant_at os z) are (λ h. two_count zs x y ws h)
    where
      go : (o : Option Word) → with_word o (constants_among os zs) ≡ x ∷ y ∷ ws
          → (constants_among os zs ≡ x ∷ y ∷ ws
          → (suc (length (with_two_as (is_constant_in os) f c zs)) ≡ length zs) × (1 ≤ length (with_two_as (is_constant_in os) f c zs)))
          → (suc (length (cond (is_some o) (with_first_as (is_constant_in os) f c zs) (f z ∷ with_two_as (is_constant_in os) f c zs))) ≡ suc (length zs))
          × (1 ≤ length (cond (is_some o) (with_first_as (is_constant_in os) f c zs) (f z ∷ with_two_as (is_constant_in os) f c zs)))
      go (Some u) h later =
          let rest : constants_among os zs ≡ y ∷ ws = cc in
          let one = first_count zs y ws rest in
          (ap suc one.0, subst (λ n. 1 ≤ n) (sym one.0) one.1)
      go None h later = (ap suc (later h).0, omega arith)

-- a word among the constants is the one of an operand
constant_named : (os : List Op) (y : Word) (rs : List Ref) → In y (constants_among os rs) → (r : Ref) × In r rs × (constant_at os r ≡ Some y)
constant_named os y [] here = absurd here
constant_named os y (z ∷ zs) here = go (constant_at os z) refl here (constant_named os y zs)
  where
    go : (o : Option Word) → constant_at os z ≡ o → In y (with_word o (constants_among os zs))
        → (In y (constants_among os zs) → (r : Ref) × In r zs × (constant_at os r ≡ Some y)) → (r : Ref) × In r (z ∷ zs) × (constant_at os r ≡ Some y)
    go (Some u) at (inl same) later = (z, inl refl, at ∙ ap Some (sym same))
    go (Some u) at (inr more) later = let rest = later more in (rest.0, inr rest.1, rest.2)
    go None at more later = let rest = later more in (rest.0, inr rest.1, rest.2)

-- ---- the value

module _ (os : List Op) (f : Ref → Ref) (c : Ref) (τ : Ref → Word) (v : Variadic) (w : ℕ) (held : (r : Ref) (u : Word) → constant_at os r ≡ Some u → τ (f r) ≡ u)
    (x y : Word) (joined : τ c ≡ variadic_value v w (x ∷ y ∷ [])) where
  first_same : (xs : List Ref) (ws : List Word) → constants_among os xs ≡ y ∷ ws → ((r : Ref) → In r (map f xs) → length (τ r) ≡ w)
      → variadic_value v w (x ∷ map τ (map f xs)) ≡ variadic_value v w (map τ (with_first_as (is_constant_in os) f c xs))
  first_same [] ws are wide = cc
  first_same (z ∷ zs) ws are wide = go (constant_at os z) refl are (λ h. first_same zs ws h (λ r here. wide r (inr here)))
    where
      each : (u : Word) → In u (map τ (map f zs)) → length u ≡ w
      each u here = let from = from_In-map τ u (map f zs) here in ap length from.2 ∙ wide from.0 (inr from.1)

      go : (o : Option Word) → constant_at os z ≡ o → with_word o (constants_among os zs) ≡ y ∷ ws
          → (constants_among os zs ≡ y ∷ ws
          → variadic_value v w (x ∷ map τ (map f zs)) ≡ variadic_value v w (map τ (with_first_as (is_constant_in os) f c zs)))
          → variadic_value v w (x ∷ τ (f z) ∷ map τ (map f zs))
          ≡ variadic_value v w (map τ (cond (is_some o) (c ∷ map f zs) (f z ∷ with_first_as (is_constant_in os) f c zs)))
      go (Some u) at h later =
          let same : u ≡ y = cc in
          ap (λ a. variadic_value v w (x ∷ a ∷ map τ (map f zs))) (held z u at ∙ same)
          ∙ sym (value_joined w (map τ (map f zs)) each v x y)
          ∙ ap (λ a. variadic_value v w (a ∷ map τ (map f zs))) (sym joined)
      go None at h later =
          value_turned v w x (τ (f z)) (map τ (map f zs))
          ∙ value_more v w (τ (f z)) (x ∷ map τ (map f zs)) (map τ (with_first_as (is_constant_in os) f c zs)) (later h)

  two_same : (xs : List Ref) (ws : List Word) → constants_among os xs ≡ x ∷ y ∷ ws → ((r : Ref) → In r (map f xs) → length (τ r) ≡ w)
      → variadic_value v w (map τ (map f xs)) ≡ variadic_value v w (map τ (with_two_as (is_constant_in os) f c xs))
  two_same [] ws are wide = cc
  two_same (z ∷ zs) ws are wide = go (constant_at os z) refl are (λ h. two_same zs ws h (λ r here. wide r (inr here)))
    where
      go : (o : Option Word) → constant_at os z ≡ o → with_word o (constants_among os zs) ≡ x ∷ y ∷ ws
          → (constants_among os zs ≡ x ∷ y ∷ ws
          → variadic_value v w (map τ (map f zs)) ≡ variadic_value v w (map τ (with_two_as (is_constant_in os) f c zs)))
          → variadic_value v w (τ (f z) ∷ map τ (map f zs))
          ≡ variadic_value v w (map τ (cond (is_some o) (with_first_as (is_constant_in os) f c zs) (f z ∷ with_two_as (is_constant_in os) f c zs)))
      go (Some u) at h later =
          let same : u ≡ x = cc in
          let rest : constants_among os zs ≡ y ∷ ws = cc in
          ap (λ a. variadic_value v w (a ∷ map τ (map f zs))) (held z u at ∙ same) ∙ first_same zs ws rest (λ r here. wide r (inr here))
      go None at h later = value_more v w (τ (f z)) (map τ (map f zs)) (map τ (with_two_as (is_constant_in os) f c zs)) (later h)

-- the only written type is an integer's
variadic_integer : (os : List Op) (v : Variadic) (ts : List HwType) (rs : List Ref) (type_of : Ref → Option HwType) (t : HwType) → Known os (variadic v) ts rs type_of t
    → IsIntegerType t
unfolding has_other_form type_of_result type_count
variadic_integer os v ts rs type_of t known = integer_first ts t known.written known.form known.limits known.settled

-- ---- an operation of a fit design

module _ (d : Design) (fit : IsFit d) (k : ℕ) (md : Module) (at : slice_get d k ≡ Some md) (i : ℕ) (o : Op) (there : slice_get md.body i ≡ Some o)
    (v : Variadic) (kind : o.kind ≡ variadic v) (t : HwType) (typed : result_type o 0 ≡ Some t) (x y : Word) (ws : List Word)
    (are : constants_among md.body o.operands ≡ x ∷ y ∷ ws) where
  made : is_made o.kind ≡ true
  made = ap is_made kind

  integer : IsIntegerType t
  integer =
      let settled : Some (type_or_none (type_of_result o.kind o.types (length o.operands))) ≡ Some t = sym (op_typed d fit k md at i o there made) ∙ typed in
      let same : type_or_none (type_of_result o.kind o.types (length o.operands)) ≡ t = cc in
      variadic_integer md.body v o.types o.operands (type_in md.ports md.body) t
      (subst (λ z. Known md.body z o.types o.operands (type_in md.ports md.body) t) kind
      (subst (Known md.body o.kind o.types o.operands (type_in md.ports md.body)) same (op_known d fit k md at i o there made)))

  operand_type : (r : Ref) → In r o.operands → type_in md.ports md.body r ≡ Some t
  operand_type r here =
      subst (λ z. Fits z o.types (map (type_in md.ports md.body) o.operands) t 0) kind
      ((fit.valid.sound md.symbol md (op_found d fit k md at i o there made)).ops i o there 0 t typed)
      (type_in md.ports md.body r) (In-map (type_in md.ports md.body) r o.operands here)

  constant_wide : (r : Ref) (u : Word) → In r o.operands → constant_at md.body r ≡ Some u → length u ≡ integer.bits_of
  constant_wide r u here is =
      let both : Some (int (length u)) ≡ Some (int integer.bits_of) = sym (constant_typed md.ports md.body r u is) ∙ operand_type r here ∙ ap Some integer.type_is in
      cc

  first : (r : Ref) × In r o.operands × (constant_at md.body r ≡ Some x)
  first = constant_named md.body x o.operands (subst (In x) (sym are) (inl refl))

  second : (r : Ref) × In r o.operands × (constant_at md.body r ≡ Some y)
  second = constant_named md.body y o.operands (subst (In y) (sym are) (inr (inl refl)))

  first_wide : length x ≡ integer.bits_of
  first_wide = constant_wide first.0 x first.1 first.2

  abbrev joined_word : Word
  joined_word = variadic_value v (length x) (x ∷ y ∷ [])

  joined_wide : length (variadic_value v (length x) (x ∷ y ∷ [])) ≡ integer.bits_of
  joined_wide = value_wide v (length x) (x ∷ y ∷ []) each ∙ first_wide
    where
      each : (z : Word) → In z (x ∷ y ∷ []) → length z ≡ length x
      each z (inl same) = ap length same
      each z (inr (inl same)) = ap length same ∙ constant_wide second.0 y second.1 second.2 ∙ sym first_wide
      each z (inr (inr none)) = absurd none

  -- ---- the constant is put in

  abbrev joined_op : Op
  joined_op = number_op (number joined_word) t o.location

  within : i < length md.body
  within = slice_get_within md.body i o there

  joined_fits : IsFitting md.ports md.body joined_op
  joined_fits =
      subst (λ u. IsFitting md.ports md.body (number_op (number joined_word) u o.location)) (sym integer.type_is)
      (number_fits md.ports md.body integer.bits_of (number joined_word) o.location integer.within
      (subst (λ m. number joined_word < 2 ^ m) joined_wide (number_below joined_word)))

  insertion : Inserted md i joined_op
  insertion = record { within = omega (arith, within); plain = refl; fits = λ j u is. refl }

  abbrev longer : List Op
  longer = insert_op i joined_op md.body

  put_steady : IsSteady d (with_body d k md longer)
  put_steady =
      steady_with_body d k md longer at (insert_op_preserves d k md i joined_op fit.valid at insertion)
      (fit_inserted d k md i joined_op fit at insertion (record { before_end = within; fits = joined_fits })) (shape_insert md.body i joined_op refl)

  -- ---- the operation is changed

  stays : (r : Ref) → constant_at longer (up_ref i r) ≡ constant_at md.body r
  stays = old_constant md.body i joined_op insertion.within

  new_word : constant_at longer (result i 0) ≡ Some joined_word
  new_word =
      ap first_result_word (new_op md.body i joined_op insertion.within)
      ∙ ap (λ u. constant_word (constant (pos (number joined_word))) (Some u)) integer.type_is
      ∙ ap Some (ap (λ m. bits m (number joined_word)) (sym joined_wide) ∙ bits-number joined_word)

  new_like : IsLike md.ports longer (map (up_ref i) o.operands) (result i 0)
  new_like = record {
    twin = up_ref i first.0;
    named = In-map (up_ref i) first.0 o.operands first.1;
    typed = constant_typed md.ports longer (result i 0) joined_word new_word
        ∙ ap (λ n. Some (int n)) (joined_wide ∙ sym first_wide)
        ∙ sym (constant_typed md.ports longer (up_ref i first.0) x (stays first.0 ∙ first.2));
    lower = λ h local.
        let one : h (result i 0) ≡ suc 0 = local.made i 0 (retarget (up_ref i) joined_op) t (new_op md.body i joined_op insertion.within) refl refl in
        let some : 1 ≤ h (up_ref i first.0) = constant_high longer h local (up_ref i first.0) x (stays first.0 ∙ first.2) in
        omega arith;
  }

  abbrev joined_operands : List Ref
  joined_operands = with_two_as (is_constant_in md.body) (up_ref i) (result i 0) o.operands

  counts : (suc (length joined_operands) ≡ length o.operands) × (1 ≤ length joined_operands)
  counts = two_count md.body (up_ref i) (result i 0) o.operands x y ws are

  keeps : KeepsValue md.ports v longer (map (up_ref i) o.operands) joined_operands
  keeps = record {
    no_more =
        let count : suc (length joined_operands) ≡ length o.operands = counts.0 in
        let same : length (map (up_ref i) o.operands) ≡ length o.operands = length-map o.operands (up_ref i) in
        omega arith;
    some = counts.1;
    within = λ r here. like r (two_within (is_constant_in md.body) (up_ref i) (result i 0) r o.operands here);
    words = λ w τ held wide.
        let size : length x ≡ w = ap length (sym (held (up_ref i first.0) x (stays first.0 ∙ first.2))) ∙ wide (up_ref i first.0) (In-map (up_ref i) first.0 o.operands first.1) in
        two_same md.body (up_ref i) (result i 0) τ v w (λ r u is. held (up_ref i r) u (stays r ∙ is)) x y
        (held (result i 0) joined_word new_word ∙ ap (λ m. variadic_value v m (x ∷ y ∷ [])) size) o.operands ws are wide;
  }
    where
      like : (r : Ref) → (r ≡ result i 0) ⊎ In r (map (up_ref i) o.operands) → IsLike md.ports longer (map (up_ref i) o.operands) r
      like r (inl same) = subst (IsLike md.ports longer (map (up_ref i) o.operands)) (sym same) new_like
      like r (inr here) = like_itself md.ports longer (map (up_ref i) o.operands) r here

  abbrev joined_body : List Op
  joined_body = set longer (suc i) (with_joined md.body i o)

  next : slice_get longer (suc i) ≡ Some (retarget (up_ref i) o)
  next = next_op md.body i joined_op insertion.within o there

  joined_steady : IsSteady d (with_body d k md joined_body)
  joined_steady =
      subst (IsSteady d) (set-set d k (record md { body = longer }) (record md { body = joined_body }))
      (steady_then d (with_body d k md longer) (with_body (with_body d k md longer) k (record md { body = longer }) joined_body) put_steady
      (operands_steady (with_body d k md longer) put_steady.fit k (record md { body = longer })
      (slice_get-set_same d k (record md { body = longer }) (slice_get_within d k md at)) (suc i) (retarget (up_ref i) o) next v kind joined_operands keeps))

  joined_lighter : (s : Name) → weight (with_body d k md joined_body) s ≤ weight d s
  joined_lighter =
      weight_with_body d k md joined_body at
      (λ inner.
      let put : body_weight inner longer ≡ 1 + body_weight inner md.body = weight_put md.body i joined_op insertion.within inner in
      let sum : kind_weight inner o.kind o.types (length (map (up_ref i) o.operands)) + body_weight inner joined_body
      ≡ kind_weight inner o.kind o.types (length joined_operands) + body_weight inner longer = weight-set inner longer (suc i) (retarget (up_ref i) o) (with_joined md.body i o) next in
      let old : kind_weight inner o.kind o.types (length (map (up_ref i) o.operands)) ≡ 1 + length o.operands =
      ap (λ z. kind_weight inner z o.types (length (map (up_ref i) o.operands))) kind ∙ ap (λ n. 1 + n) (length-map o.operands (up_ref i)) in
      let new : kind_weight inner o.kind o.types (length joined_operands) ≡ 1 + length joined_operands = ap (λ z. kind_weight inner z o.types (length joined_operands)) kind in
      let count : suc (length joined_operands) ≡ length o.operands = counts.0 in
      omega arith)

  joined_smaller : IsSmaller joined_body md.body
  joined_smaller =
      let put : measure longer ≡ 1 + measure md.body = measure_put md.body i joined_op insertion.within in
      let sum : kind_measure o.kind (length (map (up_ref i) o.operands)) + measure joined_body ≡ kind_measure o.kind (length joined_operands) + measure longer =
      measure-set longer (suc i) (retarget (up_ref i) o) (with_joined md.body i o) next in
      let old : kind_measure o.kind (length (map (up_ref i) o.operands)) ≡ 2 + 3 * length o.operands =
      ap (λ z. kind_measure z (length (map (up_ref i) o.operands))) kind ∙ ap (λ n. 2 + 3 * n) (length-map o.operands (up_ref i)) in
      let new : kind_measure o.kind (length joined_operands) ≡ 2 + 3 * length joined_operands = ap (λ z. kind_measure z (length joined_operands)) kind in
      let count : suc (length joined_operands) ≡ length o.operands = counts.0 in
      inl (omega arith)

  two_joined : IsFold d k md joined_body
  two_joined = record { steady = joined_steady; lighter = joined_lighter; smaller = joined_smaller }

-- ---- the law

two_constants_pattern : PatternLaw fold_two_constants
two_constants_pattern d k md i es fit at is =
    let found = and_then_some (slice_get md.body i) (λ (o : Op). option_and_then (λ (t : HwType). joining_edits md.body i o t o.kind) (result_type o 0)) is in
    let typed = and_then_some (result_type found.0 0) (λ (t : HwType). joining_edits md.body i found.0 t found.0.kind) found.2 in
    by_kind found.0 found.1 typed.0 typed.1 found.0.kind refl typed.2
  where
    by_words : (o : Op) → slice_get md.body i ≡ Some o → (t : HwType) → result_type o 0 ≡ Some t → (v : Variadic) → o.kind ≡ variadic v
        → (ws : List Word) → constants_among md.body o.operands ≡ ws
        → option_map (λ (n : ℕ). put_in i (number_op n t o.location) ∷ changed (suc i) (with_joined md.body i o) ∷ []) (joined_number v ws) ≡ Some es
        → IsFold d k md (edited_by es md.body)
    by_words o there t typed v kind [] are h = cc
    by_words o there t typed v kind (x ∷ []) are h = cc
    by_words o there t typed v kind (x ∷ y ∷ ws) are h =
        let same : put_in i (number_op (number (variadic_value v (length x) (x ∷ y ∷ []))) t o.location) ∷ changed (suc i) (with_joined md.body i o) ∷ [] ≡ es = cc in
        subst (λ (qs : List Edit). IsFold d k md (edited_by qs md.body)) same (two_joined d fit k md at i o there v kind t typed x y ws are)

    by_kind : (o : Op) → slice_get md.body i ≡ Some o → (t : HwType) → result_type o 0 ≡ Some t → (kind : Kind) → o.kind ≡ kind
        → joining_edits md.body i o t kind ≡ Some es → IsFold d k md (edited_by es md.body)
    by_kind o there t typed (variadic v) kind h = by_words o there t typed v kind (constants_among md.body o.operands) refl h
    by_kind o there t typed _ kind h = cc

pub two_constants_are_fold : FoldLaw (fold_by fold_two_constants)
two_constants_are_fold = pattern_is_fold fold_two_constants two_constants_pattern
