-- Fields of structs by leaves: taken out, put in, and all taken apart.
use Rattle.std.proofs.Common.{◌≡◌, ◌⊎◌, ℕ, zero, suc, Bool, true, false, cond, List, [], ◌∷◌, ◌++◌, length, map, take, drop, flat_map, slice_get, Option, Some, refl, sym, ap, ap₂, subst, ◌∙◌, inl}
use Rattle.std.proofs.Common.{inr, arith, append-nil, length-append, take_all, take-append-drop}
use Rattle.std.proofs.Math.Seq.{take-append_seam, drop-append_seam}
use Rattle.std.proofs.lemmas.List.{map-append, length-map, drop-drop}
use Rattle.wiring.specs.Wiring.{In}
use Rattle.wiring.proofs.Members.{from_In-take, from_In-drop, In-append_cases}
use Rattle.bits_core.specs.Word.{Word}
use Rattle.hw_model.specs.Types.{Name, HwType, FieldTypes, width, leaves, leaves_of_fields}
use Rattle.hw_model.specs.Types.HwType.{struct}
use Rattle.hw_model.specs.Types.FieldTypes.{no_fields, field}
use Rattle.hw_model.specs.Kinds.Kind.{on_struct}
use Rattle.hw_model.specs.Kinds.StructOp.{struct_extract, struct_inject, struct_explode}
use Rattle.hw_model.specs.Value.{concat_words, field_of, with_field, field_at, fields, nth_type, op_value}
use Rattle.hw_model.specs.Design.{Ref, Op, same_name}
use Rattle.hw_model.specs.Sound.{HasWidth, field_list, field_type, OpFits, Fits}
use Rattle.edit_laws.specs.Edit.{result_word}
use Rattle.edit_laws.proofs.Positions.{take_map}
use Rattle.aggregate_laws.specs.Leaves.{result_types, result_start}
use Rattle.aggregate_laws.specs.Lowered.{whole}
use Rattle.aggregate_laws.specs.Rules.{Splits}
use Rattle.aggregate_laws.specs.OperationRules.{joined_parts, argument, unnamed, field_parts, with_field_parts, join_rule, extract_rule, inject_rule}
use Rattle.aggregate_laws.proofs.Words.{leaves_width, concat-append}
use Rattle.aggregate_laws.proofs.Bare.{type_listed}
use Rattle.aggregate_laws.proofs.Registers.{single, joined_width}
use Rattle.aggregate_laws.proofs.Leafwise.{only_result}
use Rattle.aggregate_laws.proofs.Joins.{ChosenWell, wires_split, plain_kind, leaves_fields}

drop_map : {A B : Type 0} (f : A → B) (n : ℕ) (xs : List A) → drop n (map f xs) ≡ map f (drop n xs)
drop_map f zero xs = refl
drop_map f (suc n) [] = refl
drop_map f (suc n) (x ∷ xs) = drop_map f n xs

-- ---- a list of typed values cut in two

module _ (type_of : Ref → Option HwType) where
  pub take_typed : (rs : List Ref) (ts us : List HwType) → map type_of rs ≡ map (λ (u : HwType). Some u) (ts ++ us) → map type_of (take (length ts) rs) ≡ map (λ (u : HwType). Some u) ts
  take_typed rs ts us typed =
      sym (take_map type_of (length ts) rs) ∙ ap (take (length ts)) typed ∙ take_map (λ (u : HwType). Some u) (length ts) (ts ++ us)
      ∙ ap (map (λ (u : HwType). Some u)) (take-append_seam ts us)

  pub drop_typed : (rs : List Ref) (ts us : List HwType) → map type_of rs ≡ map (λ (u : HwType). Some u) (ts ++ us) → map type_of (drop (length ts) rs) ≡ map (λ (u : HwType). Some u) us
  drop_typed rs ts us typed =
      sym (drop_map type_of (length ts) rs) ∙ ap (drop (length ts)) typed ∙ drop_map (λ (u : HwType). Some u) (length ts) (ts ++ us)
      ∙ ap (map (λ (u : HwType). Some u)) (drop-append_seam ts us)

  module _ (τ : Ref → Word) (wide : (r : Ref) → HasWidth (type_of r) (τ r)) where
    abbrev word : List Ref → Word
    word rs = concat_words (map τ rs)

    word_cut : (rs : List Ref) (n : ℕ) → word rs ≡ word (take n rs) ++ word (drop n rs)
    word_cut rs n =
        ap word (sym (take-append-drop n rs)) ∙ ap concat_words (map-append τ (take n rs) (drop n rs)) ∙ concat-append (map τ (take n rs)) (map τ (drop n rs))

    prefix_width : (rs : List Ref) (t : HwType) (us : List HwType) → map type_of rs ≡ map (λ (u : HwType). Some u) (leaves t ++ us) → length (word (take (length (leaves t)) rs)) ≡ width t
    prefix_width rs t us typed = joined_width type_of τ wide (take (length (leaves t)) rs) (leaves t) (take_typed rs (leaves t) us typed) ∙ leaves_width t

    -- the bits of the first of some values, and of the others
    pub take_word : (rs : List Ref) (t : HwType) (us : List HwType) → map type_of rs ≡ map (λ (u : HwType). Some u) (leaves t ++ us) → take (width t) (word rs) ≡ word (take (length (leaves t)) rs)
    take_word rs t us typed =
        ap₂ take (sym (prefix_width rs t us typed)) (word_cut rs (length (leaves t))) ∙ take-append_seam (word (take (length (leaves t)) rs)) (word (drop (length (leaves t)) rs))

    pub drop_word : (rs : List Ref) (t : HwType) (us : List HwType) → map type_of rs ≡ map (λ (u : HwType). Some u) (leaves t ++ us) → drop (width t) (word rs) ≡ word (drop (length (leaves t)) rs)
    drop_word rs t us typed =
        ap₂ drop (sym (prefix_width rs t us typed)) (word_cut rs (length (leaves t))) ∙ drop-append_seam (word (take (length (leaves t)) rs)) (word (drop (length (leaves t)) rs))

    -- ---- the word of a field

    field_words : (fs : FieldTypes) (name : Name) (rs : List Ref) → map type_of rs ≡ map (λ (u : HwType). Some u) (leaves_of_fields fs) → field_of fs name (word rs) ≡ word (field_parts fs name rs)
    field_words no_fields name rs typed = refl
    field_words (field f t fs) name rs typed =
        go (same_name f name) (ap (field_of fs name) (drop_word rs t (leaves_of_fields fs) typed) ∙ field_words fs name (drop (length (leaves t)) rs) (drop_typed rs (leaves t) (leaves_of_fields fs) typed))
      where
        go : (b : Bool) → field_of fs name (drop (width t) (word rs)) ≡ word (field_parts fs name (drop (length (leaves t)) rs))
            → cond b (take (width t) (word rs)) (field_of fs name (drop (width t) (word rs))) ≡ word (cond b (take (length (leaves t)) rs) (field_parts fs name (drop (length (leaves t)) rs)))
        go true rest = take_word rs t (leaves_of_fields fs) typed
        go false rest = rest

    with_field_words : (fs : FieldTypes) (name : Name) (rs vs : List Ref) → map type_of rs ≡ map (λ (u : HwType). Some u) (leaves_of_fields fs)
        → with_field fs name (word rs) (word vs) ≡ word (with_field_parts fs name rs vs)
    with_field_words no_fields name rs vs typed = refl
    with_field_words (field f t fs) name rs vs typed =
        go (same_name f name)
        (ap (λ x. with_field fs name x (word vs)) (drop_word rs t (leaves_of_fields fs) typed)
        ∙ with_field_words fs name (drop (length (leaves t)) rs) vs (drop_typed rs (leaves t) (leaves_of_fields fs) typed))
      where
        joined : (xs ys : List Ref) → word (xs ++ ys) ≡ word xs ++ word ys
        joined xs ys = ap concat_words (map-append τ xs ys) ∙ concat-append (map τ xs) (map τ ys)

        go : (b : Bool) → with_field fs name (drop (width t) (word rs)) (word vs) ≡ word (with_field_parts fs name (drop (length (leaves t)) rs) vs)
            → cond b (word vs ++ drop (width t) (word rs)) (take (width t) (word rs) ++ with_field fs name (drop (width t) (word rs)) (word vs))
            ≡ word (cond b (vs ++ drop (length (leaves t)) rs) (take (length (leaves t)) rs ++ with_field_parts fs name (drop (length (leaves t)) rs) vs))
        go true rest = ap (λ x. word vs ++ x) (drop_word rs t (leaves_of_fields fs) typed) ∙ sym (joined vs (drop (length (leaves t)) rs))
        go false rest =
            ap₂ (λ x y. x ++ y) (take_word rs t (leaves_of_fields fs) typed) rest
            ∙ sym (joined (take (length (leaves t)) rs) (with_field_parts fs name (drop (length (leaves t)) rs) vs))

    field_at_words : (fs : FieldTypes) (k : ℕ) (t : HwType) (rs : List Ref) → slice_get (field_list fs) k ≡ Some t → map type_of rs ≡ map (λ (u : HwType). Some u) (leaves_of_fields fs)
        → field_at fs k (word rs) ≡ word (take (length (leaves t)) (drop (length (flat_map leaves (take k (field_list fs)))) rs))
    field_at_words no_fields k t rs is typed = cc
    field_at_words (field f u fs) zero t rs is typed =
        let same : u ≡ t = cc in
        take_word rs u (leaves_of_fields fs) typed ∙ ap (λ x. word (take (length (leaves x)) rs)) same
    field_at_words (field f u fs) (suc k) t rs is typed =
        ap (field_at fs k) (drop_word rs u (leaves_of_fields fs) typed)
        ∙ field_at_words fs k t (drop (length (leaves u)) rs) is (drop_typed rs (leaves u) (leaves_of_fields fs) typed)
        ∙ ap (λ xs. word (take (length (leaves t)) xs))
        (drop-drop (length (flat_map leaves (take k (field_list fs)))) (length (leaves u)) rs
        ∙ ap (λ n. drop n rs) (sym (length-append (leaves u) (flat_map leaves (take k (field_list fs))))))

  -- ---- the types of a field, and where its leaves are from

  field_typed : (fs : FieldTypes) (name : Name) (t : HwType) (rs : List Ref) → field_type fs name ≡ Some t → map type_of rs ≡ map (λ (u : HwType). Some u) (leaves_of_fields fs)
      → map type_of (field_parts fs name rs) ≡ map (λ (u : HwType). Some u) (leaves t)
  field_typed no_fields name t rs is typed = cc
  field_typed (field f u fs) name t rs is typed =
      go (same_name f name) is (λ found. field_typed fs name t (drop (length (leaves u)) rs) found (drop_typed rs (leaves u) (leaves_of_fields fs) typed))
    where
      go : (b : Bool) → cond b (Some u) (field_type fs name) ≡ Some t
          → (field_type fs name ≡ Some t → map type_of (field_parts fs name (drop (length (leaves u)) rs)) ≡ map (λ (v : HwType). Some v) (leaves t))
          → map type_of (cond b (take (length (leaves u)) rs) (field_parts fs name (drop (length (leaves u)) rs))) ≡ map (λ (v : HwType). Some v) (leaves t)
      go true found rest = let same : u ≡ t = cc in take_typed rs (leaves u) (leaves_of_fields fs) typed ∙ ap (λ x. map (λ (v : HwType). Some v) (leaves x)) same
      go false found rest = rest found

  with_field_typed : (fs : FieldTypes) (name : Name) (t : HwType) (rs vs : List Ref) → field_type fs name ≡ Some t → map type_of rs ≡ map (λ (u : HwType). Some u) (leaves_of_fields fs)
      → map type_of vs ≡ map (λ (u : HwType). Some u) (leaves t) → map type_of (with_field_parts fs name rs vs) ≡ map (λ (u : HwType). Some u) (leaves_of_fields fs)
  with_field_typed no_fields name t rs vs is typed value = cc
  with_field_typed (field f u fs) name t rs vs is typed value =
      go (same_name f name) is (λ found. with_field_typed fs name t (drop (length (leaves u)) rs) vs found (drop_typed rs (leaves u) (leaves_of_fields fs) typed) value)
    where
      go : (b : Bool) → cond b (Some u) (field_type fs name) ≡ Some t
          → (field_type fs name ≡ Some t → map type_of (with_field_parts fs name (drop (length (leaves u)) rs) vs) ≡ map (λ (v : HwType). Some v) (leaves_of_fields fs))
          → map type_of (cond b (vs ++ drop (length (leaves u)) rs) (take (length (leaves u)) rs ++ with_field_parts fs name (drop (length (leaves u)) rs) vs))
          ≡ map (λ (v : HwType). Some v) (leaves u ++ leaves_of_fields fs)
      go true found rest =
          let same : t ≡ u = cc in
          map-append type_of vs (drop (length (leaves u)) rs)
          ∙ ap₂ (λ xs ys. xs ++ ys) (value ∙ ap (λ x. map (λ (v : HwType). Some v) (leaves x)) same) (drop_typed rs (leaves u) (leaves_of_fields fs) typed)
          ∙ sym (map-append (λ (v : HwType). Some v) (leaves u) (leaves_of_fields fs))
      go false found rest =
          map-append type_of (take (length (leaves u)) rs) (with_field_parts fs name (drop (length (leaves u)) rs) vs)
          ∙ ap₂ (λ xs ys. xs ++ ys) (take_typed rs (leaves u) (leaves_of_fields fs) typed) (rest found)
          ∙ sym (map-append (λ (v : HwType). Some v) (leaves u) (leaves_of_fields fs))

field_among : (fs : FieldTypes) (name : Name) (rs : List Ref) (r : Ref) → In r (field_parts fs name rs) → In r rs
field_among no_fields name rs r never = absurd never
field_among (field f t fs) name rs r here = go (same_name f name) here (λ within. from_In-drop r (length (leaves t)) rs (field_among fs name (drop (length (leaves t)) rs) r within))
  where
    go : (b : Bool) → In r (cond b (take (length (leaves t)) rs) (field_parts fs name (drop (length (leaves t)) rs)))
        → (In r (field_parts fs name (drop (length (leaves t)) rs)) → In r rs) → In r rs
    go true within rest = from_In-take r (length (leaves t)) rs within
    go false within rest = rest within

with_field_among : (fs : FieldTypes) (name : Name) (rs vs : List Ref) (r : Ref) → In r (with_field_parts fs name rs vs) → In r rs ⊎ In r vs
with_field_among no_fields name rs vs r here = inl here
with_field_among (field f t fs) name rs vs r here =
    go (same_name f name) here (with_field_among fs name (drop (length (leaves t)) rs) vs r)
  where
    later : In r (drop (length (leaves t)) rs) ⊎ In r vs → In r rs ⊎ In r vs
    later (inl within) = inl (from_In-drop r (length (leaves t)) rs within)
    later (inr within) = inr within

    by_prefix : In r vs ⊎ In r (drop (length (leaves t)) rs) → In r rs ⊎ In r vs
    by_prefix (inl within) = inr within
    by_prefix (inr within) = inl (from_In-drop r (length (leaves t)) rs within)

    by_rest : (In r (with_field_parts fs name (drop (length (leaves t)) rs) vs) → In r (drop (length (leaves t)) rs) ⊎ In r vs)
        → In r (take (length (leaves t)) rs) ⊎ In r (with_field_parts fs name (drop (length (leaves t)) rs) vs) → In r rs ⊎ In r vs
    by_rest rest (inl within) = inl (from_In-take r (length (leaves t)) rs within)
    by_rest rest (inr within) = later (rest within)

    go : (b : Bool) → In r (cond b (vs ++ drop (length (leaves t)) rs) (take (length (leaves t)) rs ++ with_field_parts fs name (drop (length (leaves t)) rs) vs))
        → (In r (with_field_parts fs name (drop (length (leaves t)) rs) vs) → In r (drop (length (leaves t)) rs) ⊎ In r vs) → In r rs ⊎ In r vs
    go true within rest = by_prefix (In-append_cases r vs (drop (length (leaves t)) rs) within)
    go false within rest = by_rest rest (In-append_cases r (take (length (leaves t)) rs) (with_field_parts fs name (drop (length (leaves t)) rs) vs) within)

-- ---- kinds

-- two operands of types
pub two_operands : (f : Ref → Option HwType) (rs : List Ref) (x y : Option HwType) → map f rs ≡ x ∷ y ∷ [] → (r : Ref) × (s : Ref) × (rs ≡ r ∷ s ∷ []) × (f r ≡ x) × (f s ≡ y)
two_operands f [] x y is = cc
two_operands f (r ∷ []) x y is = cc
two_operands f (r ∷ s ∷ []) x y is = (r, s, refl, cc, cc)
two_operands f (r ∷ s ∷ v ∷ rs) x y is = cc

-- what an operation with one result owes, where what is chosen has the types of that
one_chosen : (o : Op) (t : HwType) (chosen : List Ref) (new_type : Ref → Option HwType) (parts : Ref → List Ref) → result_types o ≡ t ∷ []
    → map new_type chosen ≡ map (λ (u : HwType). Some u) (leaves t) → ((r : Ref) → In r chosen → (x : Ref) × In x o.operands × In r (parts x))
    → ((τ : Ref → Word) → ((r : Ref) → HasWidth (new_type r) (τ r)) → op_value o.kind o.types t 0 (map (whole parts τ) o.operands) ≡ concat_words (map τ chosen))
    → ChosenWell o chosen new_type parts
one_chosen o t chosen new_type parts one typed among value = record {
  typed = typed ∙ ap (map (λ (u : HwType). Some u)) (sym (ap (flat_map leaves) one ∙ append-nil (leaves t)));
  among = among;
  words = λ τ wide k t' typed_k.
      let only = only_result o t t' k one typed_k in
      let size : length chosen ≡ length (leaves t) = sym (length-map chosen new_type) ∙ ap length typed ∙ length-map (leaves t) (λ (u : HwType). Some u) in
      subst (λ n. result_word (whole parts τ) o n (Some t') ≡ concat_words (map τ (take (length (leaves t')) (drop (result_start o n) chosen)))) (sym only.0)
      (subst (λ u. result_word (whole parts τ) o 0 (Some u) ≡ concat_words (map τ (take (length (leaves u)) chosen))) only.1
      (value τ wide ∙ ap (λ rs. concat_words (map τ rs)) (sym (take_all (length (leaves t)) chosen (omega arith)))));
}

pub struct_extract_splits : (o : Op) (name : Name) (old_type : Ref → Option HwType) (parts : Ref → List Ref) (t : HwType) → o.kind ≡ on_struct (struct_extract name)
    → result_types o ≡ t ∷ [] → OpFits old_type o → Splits (extract_rule o name) old_type parts o
struct_extract_splits o name old_type parts t is one fits =
    wires_split o unnamed (λ args. field_parts (fields (nth_type o.types 0)) name (argument 0 args)) old_type parts (plain_kind o (on_struct (struct_extract name)) is refl)
    (λ new_type typed.
    subst (λ rs. ChosenWell o rs new_type parts) (sym chosen)
    (one_chosen o t (field_parts made.0 name (parts operand.0)) new_type parts one
    (field_typed new_type made.0 name t (parts operand.0) made.3 (typed operand.0 (struct made.0) operand_type))
    (λ r here. (operand.0, subst (In operand.0) (sym operand.1) (inl refl), field_among made.0 name (parts operand.0) r here))
    (λ τ wide.
    ap₂ (λ k rs. op_value k o.types t 0 (map (whole parts τ) rs)) is operand.1
    ∙ ap (λ u. field_of (fields u) name (whole parts τ operand.0)) made.2
    ∙ field_words new_type τ wide made.0 name (parts operand.0) (typed operand.0 (struct made.0) operand_type))))
  where
    made : (fs : FieldTypes) × (map old_type o.operands ≡ Some (struct fs) ∷ []) × (nth_type o.types 0 ≡ struct fs) × (field_type fs name ≡ Some t)
    made = subst (λ k. Fits k o.types (map old_type o.operands) t 0) is (fits 0 t (type_listed o 0 ∙ ap (λ ts. slice_get ts 0) one))

    operand : (r : Ref) × (o.operands ≡ r ∷ [])
    operand = single old_type o.operands (Some (struct made.0)) made.1

    operand_type : old_type operand.0 ≡ Some (struct made.0)
    operand_type = let e : old_type operand.0 ∷ [] ≡ Some (struct made.0) ∷ [] = ap (map old_type) (sym operand.1) ∙ made.1 in cc

    chosen : field_parts (fields (nth_type o.types 0)) name (argument 0 (map parts o.operands)) ≡ field_parts made.0 name (parts operand.0)
    chosen = ap₂ (λ u rs. field_parts (fields u) name (argument 0 (map parts rs))) made.2 operand.1

pub struct_inject_splits : (o : Op) (name : Name) (old_type : Ref → Option HwType) (parts : Ref → List Ref) (t : HwType) → o.kind ≡ on_struct (struct_inject name)
    → result_types o ≡ t ∷ [] → OpFits old_type o → Splits (inject_rule o name) old_type parts o
struct_inject_splits o name old_type parts t is one fits =
    wires_split o unnamed (λ args. with_field_parts (fields (nth_type o.types 0)) name (argument 0 args) (argument 1 args)) old_type parts (plain_kind o (on_struct (struct_inject name)) is refl)
    (λ new_type typed.
    let whole_typed : map new_type (parts operands.0) ≡ map (λ (u : HwType). Some u) (leaves_of_fields made.0) = typed operands.0 t operands.3 ∙ ap (λ u. map (λ (v : HwType). Some v) (leaves u)) made.4 in
    subst (λ rs. ChosenWell o rs new_type parts) (sym chosen)
    (one_chosen o t (with_field_parts made.0 name (parts operands.0) (parts operands.1)) new_type parts one
    (with_field_typed new_type made.0 name made.1 (parts operands.0) (parts operands.1) made.5 whole_typed (typed operands.1 made.1 operands.4)
    ∙ ap (λ u. map (λ (v : HwType). Some v) (leaves u)) (sym made.4))
    (λ r here. from_operand r (with_field_among made.0 name (parts operands.0) (parts operands.1) r here))
    (λ τ wide.
    ap₂ (λ k rs. op_value k o.types t 0 (map (whole parts τ) rs)) is operands.2
    ∙ ap (λ u. with_field (fields u) name (whole parts τ operands.0) (whole parts τ operands.1)) (made.3 ∙ made.4)
    ∙ with_field_words new_type τ wide made.0 name (parts operands.0) (parts operands.1) whole_typed)))
  where
    made : (fs : FieldTypes) × (e : HwType) × (map old_type o.operands ≡ Some t ∷ Some e ∷ []) × (nth_type o.types 0 ≡ t) × (t ≡ struct fs) × (field_type fs name ≡ Some e)
    made = subst (λ k. Fits k o.types (map old_type o.operands) t 0) is (fits 0 t (type_listed o 0 ∙ ap (λ ts. slice_get ts 0) one))

    operands : (s : Ref) × (v : Ref) × (o.operands ≡ s ∷ v ∷ []) × (old_type s ≡ Some t) × (old_type v ≡ Some made.1)
    operands = two_operands old_type o.operands (Some t) (Some made.1) made.2

    chosen : with_field_parts (fields (nth_type o.types 0)) name (argument 0 (map parts o.operands)) (argument 1 (map parts o.operands)) ≡ with_field_parts made.0 name (parts operands.0) (parts operands.1)
    chosen = ap₂ (λ u rs. with_field_parts (fields u) name (argument 0 (map parts rs)) (argument 1 (map parts rs))) (made.3 ∙ made.4) operands.2

    from_operand : (r : Ref) → In r (parts operands.0) ⊎ In r (parts operands.1) → (x : Ref) × In x o.operands × In r (parts x)
    from_operand r (inl here) = (operands.0, subst (In operands.0) (sym operands.2) (inl refl), here)
    from_operand r (inr here) = (operands.1, subst (In operands.1) (sym operands.2) (inr (inl refl)), here)

pub struct_explode_splits : (o : Op) (old_type : Ref → Option HwType) (parts : Ref → List Ref) (fs : FieldTypes) → o.kind ≡ on_struct struct_explode
    → nth_type o.types 0 ≡ struct fs → map old_type o.operands ≡ Some (struct fs) ∷ [] → result_types o ≡ field_list fs → Splits (join_rule o unnamed) old_type parts o
struct_explode_splits o old_type parts fs is written given all =
    wires_split o unnamed joined_parts old_type parts (plain_kind o (on_struct struct_explode) is refl)
    (λ new_type typed.
    subst (λ rs. ChosenWell o rs new_type parts) (sym chosen)
    (record {
      typed = typed operand.0 (struct fs) operand_type ∙ ap (map (λ (u : HwType). Some u)) (leaves_fields fs ∙ ap (flat_map leaves) (sym all));
      among = λ r here. (operand.0, subst (In operand.0) (sym operand.1) (inl refl), here);
      words = λ τ wide k t typed_k.
          ap₂ (λ kind rs. op_value kind o.types t k (map (whole parts τ) rs)) is operand.1
          ∙ ap (λ u. field_at (fields u) k (whole parts τ operand.0)) written
          ∙ field_at_words new_type τ wide fs k t (parts operand.0) (ap (λ ts. slice_get ts k) (sym all) ∙ sym (type_listed o k) ∙ typed_k) (typed operand.0 (struct fs) operand_type)
          ∙ ap (λ ts. concat_words (map τ (take (length (leaves t)) (drop (length (flat_map leaves (take k ts))) (parts operand.0))))) (sym all);
    }))
  where
    operand : (r : Ref) × (o.operands ≡ r ∷ [])
    operand = single old_type o.operands (Some (struct fs)) given

    operand_type : old_type operand.0 ≡ Some (struct fs)
    operand_type = let e : old_type operand.0 ∷ [] ≡ Some (struct fs) ∷ [] = ap (map old_type) (sym operand.1) ∙ given in cc

    chosen : joined_parts (map parts o.operands) ≡ parts operand.0
    chosen = ap (λ rs. joined_parts (map parts rs)) operand.1 ∙ append-nil (parts operand.0)
