-- Operations that only join and take apart become a wire for each leaf: wires, structs and arrays that are created or joined.
use Rattle.std.proofs.Common.{◌≡◌, ℕ, zero, suc, ◌+◌, ◌<◌, ◌≤◌, false, List, [], ◌∷◌, ◌++◌, length, map, take, drop, flat_map, slice_get, Option, Some, refl, sym, ap, ap₂, subst, ◌∙◌, inl, inr, arith}
use Rattle.std.proofs.Common.{zero-add, suc-add, append-nil, append_assoc, length-append, take_all, option_map}
use Rattle.std.proofs.lemmas.List.{length-map}
use Rattle.std.proofs.lemmas.Option.{slice_get-map}
use Rattle.wiring.specs.Lists.{total}
use Rattle.wiring.specs.Wiring.{In}
use Rattle.wiring.proofs.Options.{option_map_some}
use Rattle.wiring.proofs.Lists.{map-map, slice_get_some, drop_some}
use Rattle.wiring.proofs.Members.{In-slice_get, from_In-flat_map}
use Rattle.bits_core.specs.Word.{Word}
use Rattle.hw_model.specs.Types.{Name, HwType, FieldTypes, list_copies, leaves, leaves_of_fields}
use Rattle.hw_model.specs.Types.HwType.{array, struct}
use Rattle.hw_model.specs.Types.FieldTypes.{no_fields, field}
use Rattle.hw_model.specs.Kinds.{Kind}
use Rattle.hw_model.specs.Kinds.Kind.{on_array, on_struct, wire}
use Rattle.hw_model.specs.Kinds.ArrayOp.{array_create, array_concat}
use Rattle.hw_model.specs.Kinds.StructOp.{struct_create}
use Rattle.hw_model.specs.Value.{concat_words, op_value}
use Rattle.hw_model.specs.Design.{Ref, Op, result_type}
use Rattle.hw_model.specs.Sound.{HasWidth, field_list, AllAre, OpFits, Fits}
use Rattle.edit_laws.specs.Edit.{is_anchor, result_word}
use Rattle.aggregate_laws.specs.Leaves.{in_row, part, or_undefined, result_types, result_start}
use Rattle.aggregate_laws.specs.Lowered.{whole}
use Rattle.aggregate_laws.specs.Rules.{Splits}
use Rattle.aggregate_laws.specs.OperationRules.{made_op, all_leaves, joined_parts, wires, join_rule}
use Rattle.aggregate_laws.proofs.Lists.{flat_map-map, flat_map_split}
use Rattle.aggregate_laws.proofs.Words.{whole_flat_map}
use Rattle.aggregate_laws.proofs.Bare.{type_listed}
use Rattle.aggregate_laws.proofs.Types.{parts_typed}
use Rattle.aggregate_laws.proofs.Leafwise.{made_fits, only_result, EachWell, leafwise_splits}

-- ---- values in a row out of a list

pub rule_taken : (g : Ref → Word) (xs : List Ref) (s n : ℕ) → s + n ≤ length xs → in_row (λ i. g (part xs i)) s n ≡ map g (take n (drop s xs))
rule_taken g xs s zero within = refl
rule_taken g xs s (suc n) within =
    let there = slice_get_some xs s (omega arith) in
    ap₂ (λ y ys. y ∷ ys) (ap (λ x. g (or_undefined x)) there.1) (rule_taken g xs (suc s) n (omega arith))
    ∙ ap (λ ys. map g (take (suc n) ys)) (sym (drop_some xs s there.0 there.1))

-- two rules that agree on their numbers
pub rule_alike : {A : Type 0} (f g : ℕ → A) (s n : ℕ) → ((i : ℕ) → s ≤ i → i < s + n → f i ≡ g i) → in_row f s n ≡ in_row g s n
rule_alike f g s zero same = refl
rule_alike f g s (suc n) same = ap₂ (λ x xs. x ∷ xs) (same s (omega arith) (omega arith)) (rule_alike f g (suc s) n (λ i past below. same i (omega arith) (omega arith)))

-- ---- wires

-- what wires owe: what is chosen has the types of the leaves, is among what stands for the operands, and has the words of the results
pub record ChosenWell (o : Op) (chosen : List Ref) (new_type : Ref → Option HwType) (parts : Ref → List Ref) : Type 0 where
  pub typed : map new_type chosen ≡ map (λ (u : HwType). Some u) (all_leaves o)
  pub among : (r : Ref) → In r chosen → (x : Ref) × In x o.operands × In r (parts x)
  pub words : (τ : Ref → Word) → ((r : Ref) → HasWidth (new_type r) (τ r)) → (k : ℕ) (t : HwType) → result_type o k ≡ Some t
      → result_word (whole parts τ) o k (Some t) ≡ concat_words (map τ (take (length (leaves t)) (drop (result_start o k) chosen)))

-- the leaves of a result are within all leaves
pub start_within : (o : Op) (k : ℕ) (t : HwType) → result_type o k ≡ Some t → result_start o k + length (leaves t) ≤ length (all_leaves o)
start_within o k t typed =
    let split : all_leaves o ≡ flat_map leaves (take k (result_types o)) ++ (leaves t ++ flat_map leaves (drop (suc k) (result_types o))) =
    flat_map_split leaves (result_types o) k t (sym (type_listed o k) ∙ typed) in
    let size : length (all_leaves o) ≡ length (flat_map leaves (take k (result_types o))) + length (leaves t ++ flat_map leaves (drop (suc k) (result_types o))) =
    ap length split ∙ length-append (flat_map leaves (take k (result_types o))) (leaves t ++ flat_map leaves (drop (suc k) (result_types o))) in
    omega (arith, length-append (leaves t) (flat_map leaves (drop (suc k) (result_types o))))

pub wires_split : (o : Op) (names : ℕ → Name) (chosen : List (List Ref) → List Ref) (old_type : Ref → Option HwType) (parts : Ref → List Ref) → is_anchor o ≡ false
    → ((new_type : Ref → Option HwType) → ((r : Ref) (t : HwType) → old_type r ≡ Some t → map new_type (parts r) ≡ map (λ (u : HwType). Some u) (leaves t))
    → ChosenWell o (chosen (map parts o.operands)) new_type parts) → Splits (wires o names chosen) old_type parts o
wires_split o names chosen old_type parts plain well =
    leafwise_splits o (λ args i t. made_op o wire (part (chosen args) i ∷ []) (t ∷ []) (names i) t) old_type parts (λ args i t. refl) (λ args i t. refl) plain
    (λ new_type typed. each new_type (well new_type typed))
  where
    -- the i-th of what is chosen
    there : (new_type : Ref → Option HwType) → ChosenWell o (chosen (map parts o.operands)) new_type parts → (i : ℕ) (t : HwType) → slice_get (all_leaves o) i ≡ Some t
        → (r : Ref) × (slice_get (chosen (map parts o.operands)) i ≡ Some r) × (new_type r ≡ Some t)
    there new_type wells i t is =
        option_map_some new_type (slice_get (chosen (map parts o.operands)) i)
        (sym (slice_get-map new_type (chosen (map parts o.operands)) i) ∙ ap (λ xs. slice_get xs i) wells.typed
        ∙ slice_get-map (λ (u : HwType). Some u) (all_leaves o) i ∙ ap (option_map (λ (u : HwType). Some u)) is)

    size : (new_type : Ref → Option HwType) → ChosenWell o (chosen (map parts o.operands)) new_type parts → length (chosen (map parts o.operands)) ≡ length (all_leaves o)
    size new_type wells =
        sym (length-map (chosen (map parts o.operands)) new_type) ∙ ap length wells.typed ∙ length-map (all_leaves o) (λ (u : HwType). Some u)

    one_member : (new_type : Ref → Option HwType) → ChosenWell o (chosen (map parts o.operands)) new_type parts → (i : ℕ) (t : HwType) → slice_get (all_leaves o) i ≡ Some t
        → (r : Ref) → In r (part (chosen (map parts o.operands)) i ∷ []) → (x : Ref) × In x o.operands × In r (parts x)
    one_member new_type wells i t is r (inr never) = absurd never
    one_member new_type wells i t is r (inl same) =
        let one = there new_type wells i t is in
        let r_is : r ≡ one.0 = same ∙ ap or_undefined one.1 in
        wells.among r (subst (λ y. In y (chosen (map parts o.operands))) (sym r_is) (In-slice_get one.0 (chosen (map parts o.operands)) i one.1))

    each : (new_type : Ref → Option HwType) → ChosenWell o (chosen (map parts o.operands)) new_type parts
        → EachWell o (λ i t. made_op o wire (part (chosen (map parts o.operands)) i ∷ []) (t ∷ []) (names i) t) new_type parts
    each new_type wells = record {
      fits = λ i t is.
          let one = there new_type wells i t is in
          made_fits new_type o wire (part (chosen (map parts o.operands)) i ∷ []) (t ∷ []) (names i) t
          (ap (λ x. new_type (or_undefined x) ∷ []) one.1 ∙ ap (λ x. x ∷ []) one.2);
      operands = λ i t r is here. one_member new_type wells i t is r here;
      words = λ τ wide g is k t typed.
          wells.words τ wide k t typed
          ∙ ap concat_words
          (sym (rule_taken τ (chosen (map parts o.operands)) (result_start o k) (length (leaves t)) (omega (arith, size new_type wells, start_within o k t typed)))
          ∙ rule_alike (λ i. τ (part (chosen (map parts o.operands)) i)) g (result_start o k) (length (leaves t))
          (λ i past below.
          let found = slice_get_some (all_leaves o) i (omega (arith, start_within o k t typed)) in
          sym (is i found.0 found.1)));
    }

-- ---- the leaves of all operands in order

-- what stands for all operands, where the types of the operands have the leaves of the result
pub join_splits : (o : Op) (names : ℕ → Name) (old_type : Ref → Option HwType) (parts : Ref → List Ref) (t : HwType) (us : List HwType) → is_anchor o ≡ false
    → result_types o ≡ t ∷ [] → map old_type o.operands ≡ map (λ (u : HwType). Some u) us → leaves t ≡ flat_map leaves us
    → ((ws : List Word) → length ws ≡ length o.operands → op_value o.kind o.types t 0 ws ≡ concat_words ws) → Splits (join_rule o names) old_type parts o
join_splits o names old_type parts t us plain one typed_operands same_leaves value =
    wires_split o names joined_parts old_type parts plain
    (λ new_type typed. record {
      typed =
          ap (map new_type) joined ∙ parts_typed old_type new_type parts typed o.operands us typed_operands
          ∙ ap (map (λ (u : HwType). Some u)) (sym (all_are ∙ same_leaves));
      among = λ r here. from_In-flat_map parts r o.operands (subst (In r) joined here);
      words = λ τ wide k t' typed_k.
          let only = only_result o t t' k one typed_k in
          subst (λ n. result_word (whole parts τ) o n (Some t') ≡ concat_words (map τ (take (length (leaves t')) (drop (result_start o n) (joined_parts (map parts o.operands)))))) (sym only.0)
          (subst (λ u. result_word (whole parts τ) o 0 (Some u) ≡ concat_words (map τ (take (length (leaves u)) (joined_parts (map parts o.operands))))) only.1
          (value (map (whole parts τ) o.operands) (length-map o.operands (whole parts τ))
          ∙ sym (whole_flat_map parts τ o.operands)
          ∙ ap (λ rs. concat_words (map τ rs)) (sym joined)
          ∙ ap (λ rs. concat_words (map τ rs)) (sym (take_all (length (leaves t)) (joined_parts (map parts o.operands)) (omega (arith, size new_type typed))))));
    })
  where
    joined : joined_parts (map parts o.operands) ≡ flat_map parts o.operands
    joined = flat_map-map (λ (rs : List Ref). rs) parts o.operands

    all_are : all_leaves o ≡ leaves t
    all_are = ap (flat_map leaves) one ∙ append-nil (leaves t)

    size : (new_type : Ref → Option HwType) → ((r : Ref) (t : HwType) → old_type r ≡ Some t → map new_type (parts r) ≡ map (λ (u : HwType). Some u) (leaves t))
        → length (joined_parts (map parts o.operands)) ≡ length (leaves t)
    size new_type typed =
        ap length joined ∙ sym (length-map (flat_map parts o.operands) new_type)
        ∙ ap length (parts_typed old_type new_type parts typed o.operands us typed_operands)
        ∙ length-map (flat_map leaves us) (λ (u : HwType). Some u) ∙ ap length (sym same_leaves)

-- ---- kinds

pub plain_kind : (o : Op) (kind : Kind) → o.kind ≡ kind → is_anchor (record o { kind = kind }) ≡ false → is_anchor o ≡ false
plain_kind o kind is plain = ap (λ k. is_anchor (record o { kind = k })) is ∙ plain

pub leaves_fields : (fs : FieldTypes) → leaves_of_fields fs ≡ flat_map leaves (field_list fs)
leaves_fields no_fields = refl
leaves_fields (field name t fs) = ap (λ ts. leaves t ++ ts) (leaves_fields fs)

pub wire_splits : (o : Op) (names : ℕ → Name) (old_type : Ref → Option HwType) (parts : Ref → List Ref) (t : HwType) → o.kind ≡ wire → result_types o ≡ t ∷ [] → OpFits old_type o
    → Splits (join_rule o names) old_type parts o
wire_splits o names old_type parts t is one fits =
    join_splits o names old_type parts t (t ∷ []) (plain_kind o wire is refl) one operands (sym (append-nil (leaves t)))
    (λ ws size. ap (λ k. op_value k o.types t 0 ws) is ∙ value ws (size ∙ one_operand))
  where
    operands : map old_type o.operands ≡ Some t ∷ []
    operands = subst (λ k. Fits k o.types (map old_type o.operands) t 0) is (fits 0 t (type_listed o 0 ∙ ap (λ ts. slice_get ts 0) one))

    one_operand : length o.operands ≡ 1
    one_operand = sym (length-map o.operands old_type) ∙ ap length operands

    value : (ws : List Word) → length ws ≡ 1 → op_value wire o.types t 0 ws ≡ concat_words ws
    value [] size = cc
    value (w ∷ []) size = sym (append-nil w)
    value (w ∷ v ∷ ws) size = absurd (omega arith)

pub struct_create_splits : (o : Op) (names : ℕ → Name) (old_type : Ref → Option HwType) (parts : Ref → List Ref) (t : HwType) → o.kind ≡ on_struct struct_create
    → result_types o ≡ t ∷ [] → OpFits old_type o → Splits (join_rule o names) old_type parts o
struct_create_splits o names old_type parts t is one fits =
    join_splits o names old_type parts t (field_list made.0) (plain_kind o (on_struct struct_create) is refl) one made.2 (ap leaves made.1 ∙ leaves_fields made.0)
    (λ ws size. ap (λ k. op_value k o.types t 0 ws) is)
  where
    made : (fs : FieldTypes) × (t ≡ struct fs) × (map old_type o.operands ≡ map (λ (u : HwType). Some u) (field_list fs))
    made = subst (λ k. Fits k o.types (map old_type o.operands) t 0) is (fits 0 t (type_listed o 0 ∙ ap (λ ts. slice_get ts 0) one))

-- n times the same type
copies_types : (e : HwType) (xs : List (Option HwType)) → AllAre e xs → xs ≡ map (λ (u : HwType). Some u) (list_copies (length xs) (e ∷ []))
copies_types e [] all = refl
copies_types e (x ∷ xs) all = ap₂ (λ y ys. y ∷ ys) (all x (inl refl)) (copies_types e xs (λ y here. all y (inr here)))

copies_leaves : (n : ℕ) (e : HwType) → flat_map leaves (list_copies n (e ∷ [])) ≡ list_copies n (leaves e)
copies_leaves zero e = refl
copies_leaves (suc n) e = ap (λ ts. leaves e ++ ts) (copies_leaves n e)

pub array_create_splits : (o : Op) (names : ℕ → Name) (old_type : Ref → Option HwType) (parts : Ref → List Ref) (t : HwType) → o.kind ≡ on_array array_create
    → result_types o ≡ t ∷ [] → OpFits old_type o → Splits (join_rule o names) old_type parts o
array_create_splits o names old_type parts t is one fits =
    join_splits o names old_type parts t (list_copies (length (map old_type o.operands)) (made.0 ∷ [])) (plain_kind o (on_array array_create) is refl) one
    (copies_types made.0 (map old_type o.operands) made.2) (ap leaves made.1 ∙ sym (copies_leaves (length (map old_type o.operands)) made.0))
    (λ ws size. ap (λ k. op_value k o.types t 0 ws) is)
  where
    made : (e : HwType) × (t ≡ array (length (map old_type o.operands)) e) × AllAre e (map old_type o.operands)
    made = subst (λ k. Fits k o.types (map old_type o.operands) t 0) is (fits 0 t (type_listed o 0 ∙ ap (λ ts. slice_get ts 0) one))

list_copies-add : {A : Type 0} (n m : ℕ) (xs : List A) → list_copies (n + m) xs ≡ list_copies n xs ++ list_copies m xs
list_copies-add zero m xs = ap (λ k. list_copies k xs) (zero-add m)
list_copies-add (suc n) m xs =
    ap (λ k. list_copies k xs) (suc-add n m) ∙ ap (λ ys. xs ++ ys) (list_copies-add n m xs) ∙ sym (append_assoc xs (list_copies n xs) (list_copies m xs))

arrays_leaves : (e : HwType) (ns : List ℕ) → list_copies (total ns) (leaves e) ≡ flat_map leaves (map (λ (n : ℕ). array n e) ns)
arrays_leaves e [] = refl
arrays_leaves e (n ∷ ns) = list_copies-add n (total ns) (leaves e) ∙ ap (λ ts. list_copies n (leaves e) ++ ts) (arrays_leaves e ns)

pub array_concat_splits : (o : Op) (names : ℕ → Name) (old_type : Ref → Option HwType) (parts : Ref → List Ref) (t : HwType) → o.kind ≡ on_array array_concat
    → result_types o ≡ t ∷ [] → OpFits old_type o → Splits (join_rule o names) old_type parts o
array_concat_splits o names old_type parts t is one fits =
    join_splits o names old_type parts t (map (λ (n : ℕ). array n made.0) made.1) (plain_kind o (on_array array_concat) is refl) one
    (made.2 ∙ sym (map-map (λ (u : HwType). Some u) (λ (n : ℕ). array n made.0) made.1)) (ap leaves made.3 ∙ arrays_leaves made.0 made.1)
    (λ ws size. ap (λ k. op_value k o.types t 0 ws) is)
  where
    made : (e : HwType) × (ns : List ℕ) × (map old_type o.operands ≡ map (λ (n : ℕ). Some (array n e)) ns) × (t ≡ array (total ns) e)
    made = subst (λ k. Fits k o.types (map old_type o.operands) t 0) is (fits 0 t (type_listed o 0 ∙ ap (λ ts. slice_get ts 0) one))
