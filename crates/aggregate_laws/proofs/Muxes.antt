-- Multiplexers of aggregates become one for each leaf; what has no aggregates stays.
use Rattle.std.proofs.Common.{◌≡◌, ℕ, zero, suc, ◌+◌, Bool, true, false, cond, List, [], ◌∷◌, ◌++◌, length, map, flat_map, slice_get, Option, Some, refl, sym, ap, ap₂, subst, ◌∙◌, inl, inr, arith}
use Rattle.std.proofs.Common.{zero-add, append-nil, option_and_then, option_map}
use Rattle.std.proofs.lemmas.List.{length-map}
use Rattle.std.proofs.lemmas.Option.{slice_get-map}
use Rattle.wiring.specs.Wiring.{In}
use Rattle.wiring.proofs.Options.{option_map_some}
use Rattle.wiring.proofs.Lists.{slice_get_some}
use Rattle.wiring.proofs.Members.{In-slice_get, from_In-flat_map}
use Rattle.bits_core.specs.Word.{Word}
use Rattle.hw_model.specs.Types.{HwType, leaves}
use Rattle.hw_model.specs.Types.HwType.{int}
use Rattle.hw_model.specs.Kinds.Kind.{mux}
use Rattle.hw_model.specs.Value.{concat_words, is_high, op_value}
use Rattle.hw_model.specs.Design.{Ref, Op, result_type}
use Rattle.hw_model.specs.Design.Ref.{result}
use Rattle.hw_model.specs.Sound.{OpFits, Fits}
use Rattle.edit_laws.specs.Edit.{is_anchor, result_word}
use Rattle.aggregate_laws.specs.Leaves.{in_row, part, or_undefined, result_types, result_start}
use Rattle.aggregate_laws.specs.Lowered.{whole}
use Rattle.aggregate_laws.specs.Rules.{Splits, leaf_ref}
use Rattle.aggregate_laws.specs.OperationRules.{made_op, all_leaves, argument, joined_parts, mux_rule, stays_rule}
use Rattle.aggregate_laws.proofs.Lists.{flat_map-map, map-is-in_row}
use Rattle.aggregate_laws.proofs.Bare.{type_listed}
use Rattle.aggregate_laws.proofs.Bodies.{plain_not_one, plain_no_register}
use Rattle.aggregate_laws.proofs.Leafwise.{made_fits, only_result, EachWell, leafwise_splits}
use Rattle.aggregate_laws.proofs.Joins.{rule_alike, plain_kind}
use Rattle.aggregate_laws.proofs.Registers.{single}
use Rattle.aggregate_laws.proofs.Types.{parts_typed}

-- ---- words in a row

-- a rule over the leaves of one result
pub one_rule : (o : Op) (t : HwType) (P : ℕ → HwType → Type 0) → result_types o ≡ t ∷ [] → P 0 t → (k : ℕ) (t' : HwType) → result_type o k ≡ Some t' → P k t'
one_rule o t P one here k t' typed =
    let only = only_result o t t' k one typed in
    subst (λ n. P n t') (sym only.0) (subst (P 0) only.1 here)

pub all_of_one : (o : Op) (t : HwType) → result_types o ≡ t ∷ [] → all_leaves o ≡ leaves t
all_of_one o t one = ap (flat_map leaves) one ∙ append-nil (leaves t)

-- ---- multiplexers

-- three operands of types
pub three_operands : (f : Ref → Option HwType) (rs : List Ref) (x y z : Option HwType) → map f rs ≡ x ∷ y ∷ z ∷ []
    → (a : Ref) × (b : Ref) × (c : Ref) × (rs ≡ a ∷ b ∷ c ∷ []) × (f a ≡ x) × (f b ≡ y) × (f c ≡ z)
three_operands f [] x y z is = cc
three_operands f (a ∷ []) x y z is = cc
three_operands f (a ∷ b ∷ []) x y z is = cc
three_operands f (a ∷ b ∷ c ∷ []) x y z is = (a, b, c, refl, cc, cc, cc)
three_operands f (a ∷ b ∷ c ∷ e ∷ rs) x y z is = cc

-- what stands for a value at a number
pub part_there : (type_of : Ref → Option HwType) (rs : List Ref) (ts : List HwType) (i : ℕ) (t : HwType) → map type_of rs ≡ map (λ (u : HwType). Some u) ts → slice_get ts i ≡ Some t
    → (In (part rs i) rs) × (type_of (part rs i) ≡ Some t)
part_there type_of rs ts i t typed is =
    let one = option_map_some type_of (slice_get rs i)
    (sym (slice_get-map type_of rs i) ∙ ap (λ xs. slice_get xs i) typed ∙ slice_get-map (λ (u : HwType). Some u) ts i ∙ ap (option_map (λ (u : HwType). Some u)) is) in
    let same : one.0 ≡ part rs i = sym (ap or_undefined one.1) in
    (subst (λ r. In r rs) same (In-slice_get one.0 rs i one.1), ap type_of (sym same) ∙ one.2)

-- the same number of values as types
pub typed_size : (type_of : Ref → Option HwType) (rs : List Ref) (ts : List HwType) → map type_of rs ≡ map (λ (u : HwType). Some u) ts → length rs ≡ length ts
typed_size type_of rs ts typed = sym (length-map rs type_of) ∙ ap length typed ∙ length-map ts (λ (u : HwType). Some u)

pub words_in_rule : (τ : Ref → Word) (rs : List Ref) (n : ℕ) → length rs ≡ n → concat_words (in_row (λ i. τ (part rs i)) 0 n) ≡ concat_words (map τ rs)
words_in_rule τ rs n size =
    ap concat_words (sym (map-is-in_row τ rs (λ i. τ (part rs i)) 0 n size (λ i r is. sym (ap (λ m. τ (part rs m)) (zero-add i) ∙ ap (λ x. τ (or_undefined x)) is))))

pub mux_splits : (o : Op) (old_type : Ref → Option HwType) (parts : Ref → List Ref) (t : HwType) → o.kind ≡ mux → result_types o ≡ t ∷ [] → OpFits old_type o → Splits (mux_rule o) old_type parts o
mux_splits o old_type parts t is one fits =
    leafwise_splits o (λ args i u. made_op o mux (part (argument 0 args) 0 ∷ part (argument 1 args) i ∷ part (argument 2 args) i ∷ []) (u ∷ []) [] u) old_type parts
    (λ args i u. refl) (λ args i u. refl) (plain_kind o mux is refl) each
  where
    operands : (c : Ref) × (x : Ref) × (y : Ref) × (o.operands ≡ c ∷ x ∷ y ∷ []) × (old_type c ≡ Some (int 1)) × (old_type x ≡ Some t) × (old_type y ≡ Some t)
    operands =
        three_operands old_type o.operands (Some (int 1)) (Some t) (Some t)
        (subst (λ k. Fits k o.types (map old_type o.operands) t 0) is (fits 0 t (type_listed o 0 ∙ ap (λ ts. slice_get ts 0) one)))

    each : (new_type : Ref → Option HwType) → ((r : Ref) (u : HwType) → old_type r ≡ Some u → map new_type (parts r) ≡ map (λ (v : HwType). Some v) (leaves u))
        → EachWell o (λ i u. made_op o mux (part (argument 0 (map parts o.operands)) 0 ∷ part (argument 1 (map parts o.operands)) i ∷ part (argument 2 (map parts o.operands)) i ∷ []) (u ∷ []) [] u) new_type parts
    each new_type typed =
        subst (λ args. EachWell o (λ i u. made_op o mux (part (argument 0 args) 0 ∷ part (argument 1 args) i ∷ part (argument 2 args) i ∷ []) (u ∷ []) [] u) new_type parts)
        (sym (ap (map parts) operands.3))
        (record {
          fits = λ i u at_u.
              let at_leaf : slice_get (leaves t) i ≡ Some u = ap (λ ts. slice_get ts i) (sym (all_of_one o t one)) ∙ at_u in
              made_fits new_type o mux (part (parts operands.0) 0 ∷ part (parts operands.1) i ∷ part (parts operands.2) i ∷ []) (u ∷ []) [] u
              (ap₂ (λ a b. a ∷ b ∷ new_type (part (parts operands.2) i) ∷ [])
              (part_there new_type (parts operands.0) (int 1 ∷ []) 0 (int 1) (typed operands.0 (int 1) operands.4) refl).1
              (part_there new_type (parts operands.1) (leaves t) i u (typed operands.1 t operands.5) at_leaf).1
              ∙ ap (λ c. Some (int 1) ∷ Some u ∷ c ∷ []) (part_there new_type (parts operands.2) (leaves t) i u (typed operands.2 t operands.6) at_leaf).1);
          operands = λ i u r at_u here.
              member new_type typed i u (ap (λ ts. slice_get ts i) (sym (all_of_one o t one)) ∙ at_u) r here;
          words = λ τ wide g is_g.
              one_rule o t (λ k u. result_word (whole parts τ) o k (Some u) ≡ concat_words (in_row g (result_start o k) (length (leaves u)))) one
              (ap₂ (λ k rs. op_value k o.types t 0 (map (whole parts τ) rs)) is operands.3
              ∙ ap (λ b. cond b (whole parts τ operands.1) (whole parts τ operands.2)) (condition new_type typed τ)
              ∙ chosen new_type typed τ (is_high (τ (part (parts operands.0) 0)))
              ∙ ap concat_words (rule_alike (λ i. cond (is_high (τ (part (parts operands.0) 0))) (τ (part (parts operands.1) i)) (τ (part (parts operands.2) i))) g 0 (length (leaves t))
              (λ i past below.
              let there = slice_get_some (leaves t) i (omega arith) in
              sym (is_g i there.0 (ap (λ ts. slice_get ts i) (all_of_one o t one) ∙ there.1)))));
        })
      where
        among : (x r : Ref) → In x (operands.0 ∷ operands.1 ∷ operands.2 ∷ []) → In r (parts x) → (y : Ref) × In y o.operands × In r (parts y)
        among x r within here = (x, subst (In x) (sym operands.3) within, here)

        member : (new_type : Ref → Option HwType) → ((r : Ref) (u : HwType) → old_type r ≡ Some u → map new_type (parts r) ≡ map (λ (v : HwType). Some v) (leaves u))
            → (i : ℕ) (u : HwType) → slice_get (leaves t) i ≡ Some u
            → (r : Ref) → In r (part (parts operands.0) 0 ∷ part (parts operands.1) i ∷ part (parts operands.2) i ∷ []) → (y : Ref) × In y o.operands × In r (parts y)
        member new_type typed i u at_u r (inl same) =
            among operands.0 r (inl refl) (subst (λ x. In x (parts operands.0)) (sym same) (part_there new_type (parts operands.0) (int 1 ∷ []) 0 (int 1) (typed operands.0 (int 1) operands.4) refl).0)
        member new_type typed i u at_u r (inr (inl same)) =
            among operands.1 r (inr (inl refl)) (subst (λ x. In x (parts operands.1)) (sym same) (part_there new_type (parts operands.1) (leaves t) i u (typed operands.1 t operands.5) at_u).0)
        member new_type typed i u at_u r (inr (inr (inl same))) =
            among operands.2 r (inr (inr (inl refl))) (subst (λ x. In x (parts operands.2)) (sym same) (part_there new_type (parts operands.2) (leaves t) i u (typed operands.2 t operands.6) at_u).0)
        member new_type typed i u at_u r (inr (inr (inr never))) = absurd never

        -- the condition is one bit
        condition : (new_type : Ref → Option HwType) → ((r : Ref) (u : HwType) → old_type r ≡ Some u → map new_type (parts r) ≡ map (λ (v : HwType). Some v) (leaves u))
            → (τ : Ref → Word) → is_high (whole parts τ operands.0) ≡ is_high (τ (part (parts operands.0) 0))
        condition new_type typed τ =
            let single_one = single new_type (parts operands.0) (Some (int 1)) (typed operands.0 (int 1) operands.4) in
            ap (λ rs. is_high (concat_words (map τ rs))) single_one.1 ∙ ap is_high (append-nil (τ single_one.0))
            ∙ ap (λ rs. is_high (τ (part rs 0))) (sym single_one.1)

        chosen : (new_type : Ref → Option HwType) → ((r : Ref) (u : HwType) → old_type r ≡ Some u → map new_type (parts r) ≡ map (λ (v : HwType). Some v) (leaves u))
            → (τ : Ref → Word) (b : Bool) → cond b (whole parts τ operands.1) (whole parts τ operands.2)
            ≡ concat_words (in_row (λ i. cond b (τ (part (parts operands.1) i)) (τ (part (parts operands.2) i))) 0 (length (leaves t)))
        chosen new_type typed τ true = sym (words_in_rule τ (parts operands.1) (length (leaves t)) (typed_size new_type (parts operands.1) (leaves t) (typed operands.1 t operands.5)))
        chosen new_type typed τ false = sym (words_in_rule τ (parts operands.2) (length (leaves t)) (typed_size new_type (parts operands.2) (leaves t) (typed operands.2 t operands.6)))

-- ---- what stays

scalar_leaves : (us : List HwType) → ((u : HwType) → In u us → leaves u ≡ u ∷ []) → flat_map leaves us ≡ us
scalar_leaves [] alone = refl
scalar_leaves (u ∷ us) alone = ap₂ (λ xs ys. xs ++ ys) (alone u (inl refl)) (scalar_leaves us (λ v here. alone v (inr here)))

-- each operand is one value, and so is the result
pub stays_splits : (o : Op) (old_type : Ref → Option HwType) (parts : Ref → List Ref) (t : HwType) (us : List HwType) → is_anchor o ≡ false → result_types o ≡ t ∷ [] → leaves t ≡ t ∷ []
    → map old_type o.operands ≡ map (λ (u : HwType). Some u) us → ((u : HwType) → In u us → leaves u ≡ u ∷ []) → OpFits old_type o → Splits (stays_rule o) old_type parts o
stays_splits o old_type parts t us plain one scalar given each_scalar fits = record {
  shape = record {
    size = λ start. refl;
    anchor = λ anchored start. let clash : true ≡ false = sym anchored ∙ plain in cc;
    plain = λ is start x here. only_member x here;
    register_has_one = λ register k. let clash : true ≡ false = sym register ∙ plain_no_register o plain in cc;
    register_position = λ register i. let clash : true ≡ false = sym register ∙ plain_no_register o plain in cc;
    leaf_type = λ is start k i u v typed at_v. leaf_is k i u v typed at_v;
  };
  has_first = λ is start i x at_i. (t, first_result);
  well = λ is new_type start stands. record {
    fits = λ i x at_i. kept_fits new_type stands.typed i x at_i;
    operands = λ i x r at_i here. inl (from_operands i x r at_i here);
    words = λ τ wide holds.
        one_rule o t (λ k u. result_word (whole parts τ) o k (Some u) ≡ concat_words (map τ (in_row (leaf_ref (stays_rule o) start o) (result_start o k) (length (leaves u))))) one
        (value new_type stands.typed τ
        ∙ sym (holds 0 (record o { operands = joined_parts (map parts o.operands) }) t refl first_result)
        ∙ sym (append-nil (τ (result (start + 0) 0)))
        ∙ ap (λ b. τ (cond b (result start 0) (result (start + 0) 0)) ++ []) (sym (plain_not_one o plain))
        ∙ ap (λ ts. concat_words (map τ (in_row (leaf_ref (stays_rule o) start o) 0 (length ts)))) (sym scalar));
  };
}
  where
    first_result : result_type o 0 ≡ Some t
    first_result = type_listed o 0 ∙ ap (λ ts. slice_get ts 0) one

    joined : joined_parts (map parts o.operands) ≡ flat_map parts o.operands
    joined = flat_map-map (λ (rs : List Ref). rs) parts o.operands

    only_member : (x : Op) → In x (record o { operands = joined_parts (map parts o.operands) } ∷ []) → is_anchor x ≡ false
    only_member x (inl same) = ap is_anchor same ∙ plain
    only_member x (inr never) = absurd never

    leaf_is : (k i : ℕ) (u v : HwType) → result_type o k ≡ Some u → slice_get (leaves u) i ≡ Some v
        → option_and_then (λ (x : Op). result_type x 0) (slice_get (record o { operands = joined_parts (map parts o.operands) } ∷ []) 0) ≡ Some v
    leaf_is k i u v typed at_v =
        let only = only_result o t u k one typed in
        first_result ∙ only_leaf i (ap (λ ts. slice_get ts i) (sym scalar ∙ ap leaves only.1) ∙ at_v)
      where
        only_leaf : (i : ℕ) → slice_get (t ∷ []) i ≡ Some v → Some t ≡ Some v
        only_leaf zero same = same
        only_leaf (suc i) never = cc

    operands_typed : (new_type : Ref → Option HwType) → ((r : Ref) (u : HwType) → old_type r ≡ Some u → map new_type (parts r) ≡ map (λ (v : HwType). Some v) (leaves u))
        → map new_type (joined_parts (map parts o.operands)) ≡ map old_type o.operands
    operands_typed new_type typed =
        ap (map new_type) joined ∙ parts_typed old_type new_type parts typed o.operands us given
        ∙ ap (map (λ (v : HwType). Some v)) (scalar_leaves us each_scalar) ∙ sym given

    kept_fits : (new_type : Ref → Option HwType) → ((r : Ref) (u : HwType) → old_type r ≡ Some u → map new_type (parts r) ≡ map (λ (v : HwType). Some v) (leaves u))
        → (i : ℕ) (x : Op) → slice_get (record o { operands = joined_parts (map parts o.operands) } ∷ []) i ≡ Some x → OpFits new_type x
    kept_fits new_type typed (suc i) x never = cc
    kept_fits new_type typed zero x here =
        let same : record o { operands = joined_parts (map parts o.operands) } ≡ x = cc in
        subst (OpFits new_type) same (λ k u typed_k. subst (λ xs. Fits o.kind o.types xs u k) (sym (operands_typed new_type typed)) (fits k u typed_k))

    from_operands : (i : ℕ) (x : Op) (r : Ref) → slice_get (record o { operands = joined_parts (map parts o.operands) } ∷ []) i ≡ Some x → In r x.operands → (y : Ref) × In y o.operands × In r (parts y)
    from_operands (suc i) x r never here = cc
    from_operands zero x r at_i here =
        let same : x ≡ record o { operands = joined_parts (map parts o.operands) } = cc in
        from_In-flat_map parts r o.operands (subst (In r) (ap (λ (y : Op). y.operands) same ∙ joined) here)

    -- the words of the operands are those of what stands for them
    value : (new_type : Ref → Option HwType) → ((r : Ref) (u : HwType) → old_type r ≡ Some u → map new_type (parts r) ≡ map (λ (v : HwType). Some v) (leaves u))
        → (τ : Ref → Word) → result_word (whole parts τ) o 0 (Some t) ≡ result_word τ (record o { operands = joined_parts (map parts o.operands) }) 0 (Some t)
    value new_type typed τ = ap (op_value o.kind o.types t 0) (words o.operands us given each_scalar ∙ ap (map τ) (sym joined))
      where
        words : (rs : List Ref) (vs : List HwType) → map old_type rs ≡ map (λ (u : HwType). Some u) vs → ((u : HwType) → In u vs → leaves u ≡ u ∷ []) → map (whole parts τ) rs ≡ map τ (flat_map parts rs)
        words [] vs is alone = refl
        words (r ∷ rs) [] is alone = cc
        words (r ∷ rs) (v ∷ vs) is alone =
            let one_part = single new_type (parts r) (Some v) (typed r v (cc) ∙ ap (map (λ (u : HwType). Some u)) (alone v (inl refl))) in
            ap₂ (λ x xs. x ∷ xs) (ap (λ ps. concat_words (map τ ps)) one_part.1 ∙ append-nil (τ one_part.0)) (words rs vs (cc) (λ u here. alone u (inr here)))
            ∙ ap (λ ps. map τ (ps ++ flat_map parts rs)) (sym one_part.1)
