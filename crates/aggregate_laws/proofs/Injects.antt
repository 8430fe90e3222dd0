-- An array with another element by its leaves: a test for each index, and a multiplexer for each leaf.
use Rattle.std.proofs.Common.{◌≡◌, ◌⊎◌, ℕ, zero, suc, ◌+◌, ◌-◌, ◌*◌, ◌%◌, ◌^◌, ◌<◌, ◌≤◌, Bool, true, false, cond, ◌==◌, List, [], ◌∷◌, ◌++◌, length, map, slice_get, Option, Some, refl, sym, ap, ap₂}
use Rattle.std.proofs.Common.{subst, ◌∙◌, inl, inr, arith, zero-add, add-zero, append-nil, length-append, ◌≢◌, option_and_then, option_map}
use Rattle.std.proofs.lemmas.Bool.{lt-ltb, eq-eqb, ne_eqb}
use Rattle.std.proofs.lemmas.Bool.Decides.{eqb_tells}
use Rattle.wiring.specs.Wiring.{In}
use Rattle.wiring.proofs.Options.{option_map_some}
use Rattle.wiring.proofs.Lists.{slice_get_some, slice_get-append_right}
use Rattle.wiring.proofs.Members.{position_of_In}
use Rattle.bits_core.specs.Word.{Word, number, zeros, extract}
use Rattle.hw_model.specs.Types.{HwType, width, leaves, list_copies}
use Rattle.hw_model.specs.Types.HwType.{int, array}
use Rattle.hw_model.specs.Kinds.ArrayOp.{array_inject}
use Rattle.hw_model.specs.Kinds.Kind.{mux, on_array}
use Rattle.hw_model.specs.Value.{concat_words, element, injected_below, inject_element, nth_type, op_value}
use Rattle.hw_model.specs.Design.{Ref, Op, result_type}
use Rattle.hw_model.specs.Design.Ref.{result}
use Rattle.hw_model.specs.Sound.{HasWidth, OpFits}
use Rattle.edit_laws.specs.Edit.{is_anchor, result_word}
use Rattle.aggregate_laws.specs.Leaves.{in_row, part, result_types, result_start}
use Rattle.aggregate_laws.specs.Lowered.{whole}
use Rattle.aggregate_laws.specs.Rules.{Splits, SplitsShape, StandsBefore, leaf_ref}
use Rattle.aggregate_laws.specs.OperationRules.{made_op, all_leaves, argument, for_each}
use Rattle.aggregate_laws.specs.Choices.{tests, test_at, element_of, array_inject_rule}
use Rattle.aggregate_laws.proofs.Lists.{map-in_row}
use Rattle.aggregate_laws.proofs.Bare.{type_listed}
use Rattle.aggregate_laws.proofs.Registers.{single}
use Rattle.aggregate_laws.proofs.Bodies.{plain_not_one, plain_no_register}
use Rattle.aggregate_laws.proofs.Leafwise.{made_fits, leaf_among, length-for_each, for_each_at}
use Rattle.aggregate_laws.proofs.Joins.{rule_alike, plain_kind}
use Rattle.aggregate_laws.proofs.Muxes.{three_operands, part_there, typed_size, words_in_rule, one_rule, all_of_one}
use Rattle.aggregate_laws.proofs.Gets.{length-tests, EachOp, each_at, each_append, each_from, each_left, each_right, HoldsFrom, tests_hold, PlainOp, tests_plain, OwnType, GoodOp, tests_good}
use Rattle.aggregate_laws.proofs.Gets.{tests_typed, element_words, rule_shift, copies_at, copies_length, copies_position, leaf_number, stacked, stacked_rules}

injected_stacked : (t : HwType) (a : Word) (i : ℕ) (v : Word) (k : ℕ) → injected_below k t a i v ≡ stacked (λ j. cond (j == i) v (element t a j)) k
injected_stacked t a i v zero = refl
injected_stacked t a i v (suc k) = ap (λ x. cond (k == i) v (element t a k) ++ x) (injected_stacked t a i v k)

-- a test from either side
tested_back : (i j : ℕ) → (i == j) ≡ (j == i)
tested_back i j = go (eqb_tells i j)
  where
    go : ((i == j ≡ true) × (i ≡ j)) ⊎ ((i == j ≡ false) × (i ≢ j)) → (i == j) ≡ (j == i)
    go (inl (is, same)) = is ∙ sym (eq-eqb j i (sym same))
    go (inr (is, other)) = is ∙ sym (ne_eqb j i (λ same. other (sym same)))

-- an array with a leaf has an element
some_copies : {A : Type 0} (n l : ℕ) (xs : List A) (x : A) → slice_get (list_copies n xs) l ≡ Some x → 0 < n
some_copies zero l xs x is = cc
some_copies (suc n) l xs x is = omega arith

module _ (o : Op) (n w : ℕ) (old_type : Ref → Option HwType) (stand : Ref → List Ref) (e t : HwType) (is : o.kind ≡ on_array array_inject) (one : result_types o ≡ t ∷ []) (t_is : t ≡ array n e)
    (given : map old_type o.operands ≡ Some t ∷ Some (int w) ∷ Some e ∷ []) (written : nth_type o.types 0 ≡ t) (enough : n ≤ 2 ^ w) where
  plain_o : is_anchor o ≡ false
  plain_o = plain_kind o (on_array array_inject) is refl

  operands : (a : Ref) × (i : Ref) × (v : Ref) × (o.operands ≡ a ∷ i ∷ v ∷ []) × (old_type a ≡ Some t) × (old_type i ≡ Some (int w)) × (old_type v ≡ Some e)
  operands = three_operands old_type o.operands (Some t) (Some (int w)) (Some e) given

  abbrev first_part : List (List Ref) → ℕ → List Op
  first_part args start = tests o w (part (argument 1 args) 0) start 0 n

  abbrev leaf_mux : List (List Ref) → ℕ → ℕ → HwType → Op
  leaf_mux args start l u =
      made_op o mux (test_at start (element_of n (length (leaves e)) l) ∷ part (argument 2 args) (l % length (leaves e)) ∷ part (argument 0 args) l ∷ []) (u ∷ []) [] u

  abbrev second_part : List (List Ref) → ℕ → List Op
  second_part args start = for_each (leaf_mux args start) 0 (all_leaves o)

  found_mux : (args : List (List Ref)) (start i : ℕ) (x : Op) → slice_get (second_part args start) i ≡ Some x → (u : HwType) × (slice_get (all_leaves o) i ≡ Some u) × (leaf_mux args start i u ≡ x)
  found_mux args start i x at_i =
      option_map_some (leaf_mux args start i) (slice_get (all_leaves o) i)
      (ap (λ m. option_map (leaf_mux args start m) (slice_get (all_leaves o) i)) (sym (zero-add i)) ∙ sym (for_each_at (leaf_mux args start) (all_leaves o) 0 i) ∙ at_i)

  inject_size : (args : List (List Ref)) (start : ℕ) → length (first_part args start ++ second_part args start) ≡ 2 * n + length (all_leaves o)
  inject_size args start =
      length-append (first_part args start) (second_part args start)
      ∙ ap₂ (λ a b. a + b) (length-tests o w (part (argument 1 args) 0) start 0 n) (length-for_each (leaf_mux args start) 0 (all_leaves o))

  inject_member : (args : List (List Ref)) (start : ℕ) (x : Op) → In x (first_part args start ++ second_part args start) → is_anchor x ≡ false
  unfolding PlainOp
  inject_member args start x here =
      let position = position_of_In x (first_part args start ++ second_part args start) here in
      each_at PlainOp 0 (first_part args start ++ second_part args start)
      (each_append PlainOp 0 (first_part args start) (second_part args start) (tests_plain o w (part (argument 1 args) 0) 0 start 0 n)
      (each_from PlainOp (0 + length (first_part args start)) (second_part args start)
      (λ i y at_i. let found = found_mux args start i y at_i in ap is_anchor (sym found.2)))) position.0 x position.1

  inject_leaf : (args : List (List Ref)) (start l : ℕ) (u : HwType) → slice_get (all_leaves o) l ≡ Some u
      → option_and_then (λ (x : Op). result_type x 0) (slice_get (first_part args start ++ second_part args start) (2 * n + l)) ≡ Some u
  inject_leaf args start l u at_u =
      ap (λ m. option_and_then (λ (x : Op). result_type x 0) (slice_get (first_part args start ++ second_part args start) (m + l))) (sym (length-tests o w (part (argument 1 args) 0) start 0 n))
      ∙ ap (λ x. option_and_then (λ (y : Op). result_type y 0) x) (slice_get-append_right (first_part args start) (second_part args start) l)
      ∙ ap (λ x. option_and_then (λ (y : Op). result_type y 0) x) (for_each_at (leaf_mux args start) (all_leaves o) 0 l ∙ ap (option_map (leaf_mux args start (0 + l))) at_u)

  inject_shape : SplitsShape (array_inject_rule o n (length (leaves e)) w) stand o
  inject_shape = record {
    size = λ start. inject_size (map stand o.operands) start;
    anchor = λ anchored start. let clash : true ≡ false = sym anchored ∙ plain_o in cc;
    plain = λ plain start x here. inject_member (map stand o.operands) start x here;
    register_has_one = λ register k. let clash : true ≡ false = sym register ∙ plain_no_register o plain_o in cc;
    register_position = λ register i. let clash : true ≡ false = sym register ∙ plain_no_register o plain_o in cc;
    leaf_type = λ plain start k i v u typed at_u. inject_leaf (map stand o.operands) start (result_start o k + i) u (leaf_among o k i v u typed at_u);
  }

  module _ (new_type : Ref → Option HwType) (typed : (r : Ref) (u : HwType) → old_type r ≡ Some u → map new_type (stand r) ≡ map (λ (v : HwType). Some v) (leaves u)) (start : ℕ) where
    abbrev index : Ref
    index = part (stand operands.1) 0

    abbrev args : List (List Ref)
    args = stand operands.0 ∷ stand operands.1 ∷ stand operands.2 ∷ []

    index_there : (In index (stand operands.1)) × (new_type index ≡ Some (int w))
    index_there = part_there new_type (stand operands.1) (int w ∷ []) 0 (int w) (typed operands.1 (int w) operands.5) refl

    array_typed : map new_type (stand operands.0) ≡ map (λ (v : HwType). Some v) (list_copies n (leaves e))
    array_typed = typed operands.0 t operands.4 ∙ ap (λ x. map (λ (v : HwType). Some v) (leaves x)) t_is

    among : (x : Ref) → In x (operands.0 ∷ operands.1 ∷ operands.2 ∷ []) → In x o.operands
    among x within = subst (In x) (sym operands.3) within

    -- a leaf of the result, as one of the copies of the element's leaves
    leaf_copy : (l : ℕ) (u : HwType) → slice_get (all_leaves o) l ≡ Some u → slice_get (list_copies n (leaves e)) l ≡ Some u
    leaf_copy l u at_u = ap (λ x. slice_get (leaves x) l) (sym t_is) ∙ ap (λ ts. slice_get ts l) (sym (all_of_one o t one)) ∙ at_u

    inject_good : EachOp (OwnType new_type stand start o.operands) 0 (first_part args start ++ second_part args start)
        → EachOp (GoodOp new_type stand start o.operands) 0 (first_part args start ++ second_part args start)
    unfolding GoodOp
    inject_good own =
        each_append (GoodOp new_type stand start o.operands) 0 (first_part args start) (second_part args start)
        (tests_good new_type stand start o.operands o w index operands.1 index_there.1 (among operands.1 (inr (inl refl))) index_there.0 0 start 0 n (sym (add-zero start)) own_first)
        (each_from (GoodOp new_type stand start o.operands) (0 + length (first_part args start)) (second_part args start)
        (λ i x at_i. let found = found_mux args start i x at_i in
        subst (λ y. OpFits new_type y × ((r : Ref) → In r y.operands → StandsBefore stand start o.operands ((0 + length (first_part args start)) + i) r)) found.2 (mux_good i found.0 found.1)))
      where
        own_first : EachOp (OwnType new_type stand start o.operands) 0 (first_part args start)
        own_first = each_left (OwnType new_type stand start o.operands) 0 (first_part args start) (second_part args start) own

        mux_good : (i : ℕ) (u : HwType) → slice_get (all_leaves o) i ≡ Some u
            → OpFits new_type (leaf_mux args start i u) × ((r : Ref) → In r (leaf_mux args start i u).operands → StandsBefore stand start o.operands ((0 + length (first_part args start)) + i) r)
        mux_good i u at_u = (
          made_fits new_type o mux (test_at start (element_of n (length (leaves e)) i) ∷ part (stand operands.2) (i % length (leaves e)) ∷ part (stand operands.0) i ∷ []) (u ∷ []) [] u
              (ap₂ (λ a b. a ∷ b ∷ new_type (part (stand operands.0) i) ∷ [])
              (tests_typed new_type stand start o.operands o w index operands.1 index_there.1 (among operands.1 (inr (inl refl))) index_there.0 0 start 0 n (sym (add-zero start)) own_first
              (element_of n (length (leaves e)) i) below)
              value.1
              ∙ ap (λ c. Some (int 1) ∷ Some u ∷ c ∷ []) old_one.1),
          member,
        )
          where
            copy : slice_get (list_copies n (leaves e)) i ≡ Some u
            copy = leaf_copy i u at_u

            below : element_of n (length (leaves e)) i < n
            below = let some : 0 < n = some_copies n i (leaves e) u (leaf_copy i u at_u) in omega arith

            value : (In (part (stand operands.2) (i % length (leaves e))) (stand operands.2)) × (new_type (part (stand operands.2) (i % length (leaves e))) ≡ Some u)
            value = part_there new_type (stand operands.2) (leaves e) (i % length (leaves e)) u (typed operands.2 e operands.6) (copies_position n i (leaves e) u (leaf_copy i u at_u))

            old_one : (In (part (stand operands.0) i) (stand operands.0)) × (new_type (part (stand operands.0) i) ≡ Some u)
            old_one = part_there new_type (stand operands.0) (list_copies n (leaves e)) i u array_typed (leaf_copy i u at_u)

            member : (r : Ref) → In r (test_at start (element_of n (length (leaves e)) i) ∷ part (stand operands.2) (i % length (leaves e)) ∷ part (stand operands.0) i ∷ [])
                → StandsBefore stand start o.operands ((0 + length (first_part args start)) + i) r
            member r (inl same) =
                let under : element_of n (length (leaves e)) i < n = below in
                inr (2 * element_of n (length (leaves e)) i + 1, omega (arith, length-tests o w index start 0 n), same)
            member r (inr (inl same)) = inl (operands.2, among operands.2 (inr (inr (inl refl))), subst (λ x. In x (stand operands.2)) (sym same) value.0)
            member r (inr (inr (inl same))) = inl (operands.0, among operands.0 (inl refl), subst (λ x. In x (stand operands.0)) (sym same) old_one.0)
            member r (inr (inr (inr never))) = absurd never

    inject_words : (τ : Ref → Word) → ((r : Ref) → HasWidth (new_type r) (τ r)) → HoldsFrom τ start (first_part args start ++ second_part args start)
        → result_word (whole stand τ) o 0 (Some t) ≡ concat_words (map τ (in_row (leaf_ref (array_inject_rule o n (length (leaves e)) w) start o) 0 (length (leaves t))))
    inject_words τ wide holds =
        ap₂ (λ k rs. op_value k o.types t 0 (map (whole stand τ) rs)) is operands.3
        ∙ ap (λ u. inject_element u (whole stand τ operands.0) (number (whole stand τ operands.1)) (whole stand τ operands.2)) (written ∙ t_is)
        ∙ ap (λ x. injected_below n (array n e) (whole stand τ operands.0) (number x) (whole stand τ operands.2)) index_word
        ∙ injected_stacked (array n e) (whole stand τ operands.0) (number (τ index)) (whole stand τ operands.2) n
        ∙ stacked_rules (λ j. cond (j == number (τ index)) (whole stand τ operands.2) (element (array n e) (whole stand τ operands.0) j)) (length (leaves e)) n g element_rule
        ∙ ap (λ x. concat_words (in_row g 0 x)) (sym (ap (λ x. length (leaves x)) t_is ∙ copies_length n (leaves e)))
        ∙ ap concat_words (sym (map-in_row τ (leaf_ref (array_inject_rule o n (length (leaves e)) w) start o) 0 (length (leaves t))))
      where
        g : ℕ → Word
        g l = τ (leaf_ref (array_inject_rule o n (length (leaves e)) w) start o l)

        index_word : whole stand τ operands.1 ≡ τ index
        index_word =
            let one_part = single new_type (stand operands.1) (Some (int w)) (typed operands.1 (int w) operands.5) in
            ap (λ rs. concat_words (map τ rs)) one_part.1 ∙ append-nil (τ one_part.0) ∙ ap (λ rs. τ (part rs 0)) (sym one_part.1)

        index_size : length (τ index) ≡ w
        index_size = subst (λ x. HasWidth x (τ index)) index_there.1 (wide index)

        tests_held : HoldsFrom τ start (first_part args start)
        tests_held = each_left (λ m x. (v : HwType) → result_type x 0 ≡ Some v → τ (result m 0) ≡ result_word τ x 0 (Some v)) start (first_part args start) (second_part args start) holds

        muxes_held : HoldsFrom τ (start + length (first_part args start)) (second_part args start)
        muxes_held = each_right (λ m x. (v : HwType) → result_type x 0 ≡ Some v → τ (result m 0) ≡ result_word τ x 0 (Some v)) start (first_part args start) (second_part args start) holds

        -- a leaf is the value's where the index is that of its element
        leaf_is : (l : ℕ) (u : HwType) → slice_get (all_leaves o) l ≡ Some u
            → τ (leaf_ref (array_inject_rule o n (length (leaves e)) w) start o l)
            ≡ cond (number (τ index) == element_of n (length (leaves e)) l) (τ (part (stand operands.2) (l % length (leaves e)))) (τ (part (stand operands.0) l))
        leaf_is l u at_u =
            let some : 0 < n = some_copies n l (leaves e) u (leaf_copy l u at_u) in
            let there : slice_get (second_part args start) l ≡ Some (leaf_mux args start l u) =
            for_each_at (leaf_mux args start) (all_leaves o) 0 l ∙ ap (λ m. option_map (leaf_mux args start m) (slice_get (all_leaves o) l)) (zero-add l) ∙ ap (option_map (leaf_mux args start l)) at_u in
            ap (λ b. τ (cond b (result start l) (result (start + (2 * n + l)) 0))) (plain_not_one o plain_o)
            ∙ ap (λ m. τ (result m 0)) (let q : start + (2 * n + l) ≡ start + length (first_part args start) + l = omega (arith, length-tests o w index start 0 n) in q)
            ∙ each_at (λ m x. (v : HwType) → result_type x 0 ≡ Some v → τ (result m 0) ≡ result_word τ x 0 (Some v)) (start + length (first_part args start)) (second_part args start) muxes_held l (leaf_mux args start l u) there u refl
            ∙ ap (λ b. cond b (τ (part (stand operands.2) (l % length (leaves e)))) (τ (part (stand operands.0) l)))
            (tests_hold τ o w index start 0 n index_size (omega arith) tests_held (element_of n (length (leaves e)) l) (omega arith)
            ∙ ap (λ m. number (τ index) == m) (zero-add (element_of n (length (leaves e)) l)))

        element_rule : (j : ℕ) → j < n → cond (j == number (τ index)) (whole stand τ operands.2) (element (array n e) (whole stand τ operands.0) j)
            ≡ concat_words (in_row (λ l. τ (leaf_ref (array_inject_rule o n (length (leaves e)) w) start o l)) ((n - suc j) * length (leaves e)) (length (leaves e)))
        element_rule j below =
            by_test (j == number (τ index))
            ∙ ap concat_words
            (rule_alike (λ l. cond (j == number (τ index)) (τ (part (stand operands.2) l)) (τ (part (stand operands.0) ((n - suc j) * length (leaves e) + l))))
            (λ l. τ (leaf_ref (array_inject_rule o n (length (leaves e)) w) start o ((n - suc j) * length (leaves e) + l))) 0 (length (leaves e)) leaf_same
            ∙ rule_shift (λ l. τ (leaf_ref (array_inject_rule o n (length (leaves e)) w) start o l)) ((n - suc j) * length (leaves e)) 0 (length (leaves e))
            ∙ ap (λ x. in_row (λ l. τ (leaf_ref (array_inject_rule o n (length (leaves e)) w) start o l)) x (length (leaves e))) (add-zero ((n - suc j) * length (leaves e))))
          where
            by_test : (b : Bool) → cond b (whole stand τ operands.2) (element (array n e) (whole stand τ operands.0) j)
                ≡ concat_words (in_row (λ l. cond b (τ (part (stand operands.2) l)) (τ (part (stand operands.0) ((n - suc j) * length (leaves e) + l)))) 0 (length (leaves e)))
            by_test true = sym (words_in_rule τ (stand operands.2) (length (leaves e)) (typed_size new_type (stand operands.2) (leaves e) (typed operands.2 e operands.6)))
            by_test false =
                ap (λ b. cond b (extract (j * width e) (width e) (whole stand τ operands.0)) (zeros (width e))) (lt-ltb j n below)
                ∙ element_words new_type τ wide n e (stand operands.0) array_typed j below

            leaf_same : (l : ℕ) → 0 ≤ l → l < 0 + length (leaves e)
                → cond (j == number (τ index)) (τ (part (stand operands.2) l)) (τ (part (stand operands.0) ((n - suc j) * length (leaves e) + l)))
                ≡ τ (leaf_ref (array_inject_rule o n (length (leaves e)) w) start o ((n - suc j) * length (leaves e) + l))
            leaf_same l past within =
                let leaf_there = slice_get_some (leaves e) l (omega arith) in
                let numbers = leaf_number (length (leaves e)) n (n - suc j) l (omega arith) (omega arith) in
                let of_j : element_of n (length (leaves e)) ((n - suc j) * length (leaves e) + l) ≡ j = numbers.0 ∙ (let q : n - suc (n - suc j) ≡ j = omega arith in q) in
                let at_all : slice_get (all_leaves o) ((n - suc j) * length (leaves e) + l) ≡ Some leaf_there.0 =
                ap (λ ts. slice_get ts ((n - suc j) * length (leaves e) + l)) (all_of_one o t one) ∙ ap (λ x. slice_get (leaves x) ((n - suc j) * length (leaves e) + l)) t_is
                ∙ copies_at n (n - suc j) l (leaves e) (omega arith) (omega arith) ∙ leaf_there.1 in
                ap₂ (λ b x. cond b (τ (part (stand operands.2) x)) (τ (part (stand operands.0) ((n - suc j) * length (leaves e) + l))))
                (tested_back j (number (τ index)) ∙ ap (λ x. number (τ index) == x) (sym of_j)) (sym numbers.1)
                ∙ sym (leaf_is ((n - suc j) * length (leaves e) + l) leaf_there.0 at_all)

  pub inject_splits : Splits (array_inject_rule o n (length (leaves e)) w) old_type stand o
  unfolding OwnType GoodOp
  inject_splits = record {
    shape = inject_shape;
    has_first = λ plain start i x at_i. (t, type_listed o 0 ∙ ap (λ ts. slice_get ts 0) one);
    well = λ plain new_type start stands.
        let good = inject_good new_type stands.typed start
        (subst (λ given_args. EachOp (OwnType new_type stand start o.operands) 0 (first_part given_args start ++ second_part given_args start)) arguments
        (each_from (OwnType new_type stand start o.operands) 0 (first_part (map stand o.operands) start ++ second_part (map stand o.operands) start)
        (λ i x at_i. ap (λ m. new_type (result (start + m) 0)) (zero-add i) ∙ stands.own i x at_i))) in
        record {
          fits = λ i x at_i. (good_at new_type start good i x at_i).0;
          operands = λ i x r at_i here. (good_at new_type start good i x at_i).1 r here;
          words = λ τ wide holds.
              one_rule o t (λ k u. result_word (whole stand τ) o k (Some u) ≡ concat_words (map τ (in_row (leaf_ref (array_inject_rule o n (length (leaves e)) w) start o) (result_start o k) (length (leaves u))))) one
              (inject_words new_type stands.typed start τ wide
              (subst (λ given_args. HoldsFrom τ start (first_part given_args start ++ second_part given_args start)) arguments
              (each_from (λ m x. (v : HwType) → result_type x 0 ≡ Some v → τ (result m 0) ≡ result_word τ x 0 (Some v)) start (first_part (map stand o.operands) start ++ second_part (map stand o.operands) start)
              (λ i x at_i v typed_v. holds i x v at_i typed_v))));
        };
  }
    where
      arguments : map stand o.operands ≡ stand operands.0 ∷ stand operands.1 ∷ stand operands.2 ∷ []
      arguments = ap (map stand) operands.3

      good_at : (new_type : Ref → Option HwType) (start : ℕ)
          → EachOp (GoodOp new_type stand start o.operands) 0 (first_part (stand operands.0 ∷ stand operands.1 ∷ stand operands.2 ∷ []) start ++ second_part (stand operands.0 ∷ stand operands.1 ∷ stand operands.2 ∷ []) start)
          → (i : ℕ) (x : Op) → slice_get (first_part (map stand o.operands) start ++ second_part (map stand o.operands) start) i ≡ Some x
          → OpFits new_type x × ((r : Ref) → In r x.operands → StandsBefore stand start o.operands i r)
      good_at new_type start good i x at_i =
          subst (λ m. GoodOp new_type stand start o.operands m x) (zero-add i)
          (each_at (GoodOp new_type stand start o.operands) 0 (first_part (stand operands.0 ∷ stand operands.1 ∷ stand operands.2 ∷ []) start ++ second_part (stand operands.0 ∷ stand operands.1 ∷ stand operands.2 ∷ []) start) good i x
          (ap (λ given_args. slice_get (first_part given_args start ++ second_part given_args start) i) (sym arguments) ∙ at_i))
