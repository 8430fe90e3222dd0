-- A concat takes in an operand's concat that has no other use.
use Rattle.std.proofs.Common.{◌≡◌, ◌⊎◌, ℕ, zero, suc, ◌+◌, ◌*◌, ◌≤◌, max, Bool, true, false, not, List, [], ◌∷◌, length, map, Option, Some, None, slice_get, refl, sym, ap, ap₂, subst, ◌∙◌, inl, inr, arith, option_and_then, option_map}
use Rattle.std.specs.List.{list_any}
use Rattle.std.proofs.lemmas.List.{length-map}
use Rattle.std.proofs.lemmas.Option.{slice_get-map}
use Rattle.wiring.specs.Lists.{total}
use Rattle.wiring.specs.Wiring.{In}
use Rattle.wiring.proofs.Members.{position_of_In, map_same}
use Rattle.wiring.proofs.Options.{and_then_some, option_map_some}
use Rattle.bits_core.specs.Word.{Word}
use Rattle.hw_model.specs.Opcodes.{opcode_of}
use Rattle.hw_model.specs.SameType.{type_self}
use Rattle.hw_model.specs.Types.{HwType, width}
use Rattle.hw_model.specs.Kinds.{Kind}
use Rattle.hw_model.specs.Kinds.Kind.{concat}
use Rattle.hw_model.specs.Design.{Ref, Op, Module, Design, result_type}
use Rattle.hw_model.specs.Design.Ref.{result, undefined}
use Rattle.hw_model.specs.Sound.{type_in, Fits}
use Rattle.hw_model.specs.Value.{concat_words, op_value}
use Rattle.hw_model.specs.Weight.{kind_weight}
use Rattle.type_inference.specs.ResultTypes.{as_int, joined_width, result_type as type_of_result, result_types, result_count}
use Rattle.stored_form.specs.Limits.{IsAnyType}
use Rattle.stored_form.specs.ResultTypes.{type_or_none}
use Rattle.op_checks.specs.CountChecks.{operands_written, operand_count, type_count, has_miscounted_parts}
use Rattle.op_checks.specs.LimitChecks.{of_type, is_too_wide, has_constant_outside, has_extract_outside, has_broken_copy, has_wide_concat, has_unknown_divisor, has_wrong_index, has_unequal_widths, has_clock_operand}
use Rattle.op_checks.specs.OperandChecks.{has_other_form, has_other_operand}
use Rattle.op_checks.specs.TypeChecks.{is_int, is_clock}
use Rattle.op_checks.specs.TypeLists.{known_types, differ}
use Rattle.op_checks.proofs.FitIntegers.{joined_sum}
use Rattle.op_checks.proofs.NoOwnCause.{NoOwnCause}
use Rattle.op_verifier.specs.OpChecks.{settled_type, divides_by_constant, alone_cause}
use Rattle.op_verifier.proofs.NoCauseAlone.{types_of}
use Rattle.printing_laws.specs.Printable.{IsDefined, IsPrintableOp}
use Rattle.acceptance_laws.specs.Keeps.{IsFit}
use Rattle.acceptance_laws.proofs.Accepted.{each_at}
use Rattle.acceptance_laws.proofs.FitBodies.{settled_here}
use Rattle.fold_laws.specs.Edits.{Edit, edited_by, fold_by}
use Rattle.fold_laws.specs.Edits.Edit.{replaced, erased}
use Rattle.fold_laws.specs.Fold.{kind_measure, IsFold, FoldLaw}
use Rattle.fold_laws.specs.Nested.{uses_among, Nested, is_concat, first_nested, splice, joined_concat, concat_edits, fold_nested_concat}
use Rattle.fold_laws.specs.Unused.{is_pure}
use Rattle.fold_laws.proofs.JoinedParts.{joined_types}
use Rattle.fold_laws.proofs.MadeKinds.{is_made}
use Rattle.fold_laws.proofs.Nested.{TakesIn, IsNest, found_nest, nest_joined}
use Rattle.fold_laws.proofs.NestedUses.{uses-splice, own_result, IsNested, first_nested_is}
use Rattle.fold_laws.proofs.NestedValues.{words-splice}
use Rattle.fold_laws.proofs.NewOps.{own_none, new_printable}
use Rattle.fold_laws.proofs.Splices.{length-splice, In-splice, map-splice, none-splice, each-splice, total-splice}
use Rattle.fold_laws.proofs.Stands.{Known, Held, op_printable, op_own, op_typed, op_has_one, op_known}

-- ---- types

not_different : (ts : List HwType) → differ (known_types ts) (known_types ts) ≡ false
not_different [] = refl
not_different (t ∷ ts) =
    let rest : differ (known_types ts) (known_types ts) ≡ false = not_different ts in
    rw (type_self t, rest) refl

known_alike : (us ts : List HwType) → known_types us ≡ known_types ts → us ≡ ts
known_alike [] [] is = refl
known_alike [] (t ∷ ts) is = cc
known_alike (u ∷ us) [] is = cc
known_alike (u ∷ us) (t ∷ ts) is =
    let first : u ≡ t = cc in
    let rest : known_types us ≡ known_types ts = cc in
    ap₂ (λ a b. a ∷ b) first (known_alike us ts rest)

-- the types of one concat
record JoinsTypes (n : ℕ) (us ts : List HwType) : Type 0 where
  form : list_any (λ (v : HwType). not (is_int v)) (splice n us ts) ≡ false
  widths : total (map width (splice n us ts)) ≡ total (map width ts)
  sum : joined_width (splice n us ts) ≡ joined_width ts

joins_types : (n : ℕ) (us ts : List HwType) (u : HwType) → list_any (λ (v : HwType). not (is_int v)) us ≡ false → list_any (λ (v : HwType). not (is_int v)) ts ≡ false
    → slice_get ts n ≡ Some u → width u ≡ total (map width us) → JoinsTypes n us ts
joins_types n us ts u inner outer at size = record {
  form = both;
  widths = same;
  sum = joined_sum (splice n us ts) both ∙ ap Some same ∙ sym (joined_sum ts outer);
}
  where
    both : list_any (λ (v : HwType). not (is_int v)) (splice n us ts) ≡ false
    both = none-splice (λ (v : HwType). not (is_int v)) n us ts inner outer

    same : total (map width (splice n us ts)) ≡ total (map width ts)
    same =
        ap total (map-splice width n us ts)
        ∙ total-splice n (map width us) (map width ts) (slice_get-map width ts n ∙ ap (option_map width) at ∙ ap Some size)

-- joined types settle a type that is there
some_joined : (ts : List HwType) (t : HwType) → list_any (λ (v : HwType). not (is_int v)) ts ≡ false → t ≡ type_or_none (as_int (joined_width ts)) → as_int (joined_width ts) ≡ Some t
some_joined ts t form settled = go (joined_width ts) (joined_sum ts form) settled
  where
    go : (x : Option ℕ) → x ≡ Some (total (map width ts)) → t ≡ type_or_none (as_int x) → as_int x ≡ Some t
    go (Some w) is h = ap Some (sym h)
    go None is h = cc

same_result : (t : HwType) (x : Option HwType) → x ≡ Some t → differ (Some t ∷ []) (x ∷ []) ≡ false
same_result t x is = ap (λ z. differ (Some t ∷ []) (z ∷ [])) is ∙ not_different (t ∷ [])

-- one concat has no cause of its own where two had none
joined_own : (n named named' c c' : ℕ) (us ts rs rs' : List HwType) (xs xs' : List (Option HwType)) (known known' known'' : Bool) (u t : HwType)
    → NoOwnCause concat us rs named c xs known → NoOwnCause concat ts rs' named' c' xs' known' → slice_get ts n ≡ Some u → width u ≡ total (map width us)
    → t ≡ type_or_none (as_int (joined_width ts)) → splice n xs xs' ≡ known_types (splice n us ts) → 1 ≤ length (splice n xs xs')
    → NoOwnCause concat (splice n us ts) (t ∷ []) 1 (length (splice n xs xs')) (splice n xs xs') known''
unfolding has_other_form has_other_operand type_of_result result_types result_count has_constant_outside has_extract_outside has_broken_copy has_wide_concat has_unknown_divisor has_wrong_index has_unequal_widths has_clock_operand has_miscounted_parts operands_written operand_count type_count
joined_own n named named' c c' us ts rs rs' xs xs' known known' known'' u t inner outer at size settled types some = record {
  form = joins.form;
  operand = ap (λ z. differ z (known_types (splice n us ts))) types ∙ not_different (splice n us ts);
  result = same_result t (as_int (joined_width (splice n us ts))) (ap as_int joins.sum ∙ some_joined ts t outer.form settled);
  written = none-splice _ n us ts inner.written outer.written;
  leaf = refl;
  array = refl;
  constant = refl;
  extract = refl;
  copy = refl;
  wide = ap is_too_wide joins.sum ∙ outer.wide;
  divisor = refl;
  index = refl;
  field_names = none-splice _ n us ts inner.field_names outer.field_names;
  field = refl;
  widths = refl;
  clock_part = none-splice _ n us ts inner.clock_part outer.clock_part;
  clock_type = none-splice _ n us ts inner.clock_type outer.clock_type;
  clock_operand = none-splice (of_type is_clock) n xs xs' inner.clock_operand outer.clock_operand;
  operands = at_least (length (splice n xs xs')) some;
  types = sym (length-map (splice n us ts) (λ (v : HwType). Some v)) ∙ ap length (sym types);
  names = refl;
  results = refl;
  parts = refl;
}
  where
    joins : JoinsTypes n us ts
    joins = joins_types n us ts u inner.form outer.form at size

    at_least : (m : ℕ) → 1 ≤ m → m ≡ max 1 m
    at_least m h = omega arith

concat_is : (kind : Kind) → is_concat kind ≡ true → kind ≡ concat
concat_is concat is = refl
concat_is _ is = cc

-- ---- what nest there is

module _ (d : Design) (fit : IsFit d) (k : ℕ) (md : Module) (at : slice_get d k ≡ Some md) (i : ℕ) (o : Op) (there : slice_get md.body i ≡ Some o)
    (kind : o.kind ≡ concat) (t : HwType) (own_typed : result_type o 0 ≡ Some t) (n : Nested) (found : IsNested (is_concat) md.body i o.operands n) where
  inner_kind : n.inner.kind ≡ concat
  inner_kind = concat_is n.inner.kind found.kind

  made : is_made o.kind ≡ true
  made = ap is_made kind

  inner_made : is_made n.inner.kind ≡ true
  inner_made = ap is_made inner_kind

  nest : IsNest md i o n.number n.position n.inner
  nest = found_nest is_concat md i o n there found made inner_made (ap is_pure inner_kind)

  abbrev inner_type : HwType
  inner_type = type_or_none (type_of_result n.inner.kind n.inner.types (length n.inner.operands))

  abbrev joined : List Ref
  joined = splice n.number n.inner.operands o.operands

  abbrev joined_written : List HwType
  joined_written = splice n.number n.inner.types o.types

  -- ---- types

  known : Known md.body concat o.types o.operands (type_in md.ports md.body) t
  known =
      let settled : Some (type_or_none (type_of_result o.kind o.types (length o.operands))) ≡ Some t = sym (op_typed d fit k md at i o there made) ∙ own_typed in
      let same : type_or_none (type_of_result o.kind o.types (length o.operands)) ≡ t = cc in
      subst (λ z. Known md.body z o.types o.operands (type_in md.ports md.body) t) kind
      (subst (Known md.body o.kind o.types o.operands (type_in md.ports md.body)) same (op_known d fit k md at i o there made))

  inner_known : Known md.body concat n.inner.types n.inner.operands (type_in md.ports md.body) inner_type
  inner_known =
      subst (λ z. Known md.body z n.inner.types n.inner.operands (type_in md.ports md.body) inner_type) inner_kind
      (op_known d fit k md at n.position n.inner found.there inner_made)

  own_types : map (type_in md.ports md.body) o.operands ≡ known_types o.types
  own_types = joined_types md.body o.types o.operands (type_in md.ports md.body) t known

  inner_types : map (type_in md.ports md.body) n.inner.operands ≡ known_types n.inner.types
  inner_types = joined_types md.body n.inner.types n.inner.operands (type_in md.ports md.body) inner_type inner_known

  result_typed : result_type n.inner 0 ≡ Some inner_type
  result_typed = op_typed d fit k md at n.position n.inner found.there inner_made

  -- the operand's written type is the inner result's
  written_at : slice_get o.types n.number ≡ Some inner_type
  written_at =
      go (slice_get o.types n.number)
      (sym (slice_get-map (λ (v : HwType). Some v) o.types n.number) ∙ ap (λ z. slice_get z n.number) (sym own_types)
      ∙ slice_get-map (type_in md.ports md.body) o.operands n.number ∙ ap (option_map (type_in md.ports md.body)) found.named
      ∙ ap Some (ap (λ z. option_and_then (λ (y : Op). result_type y 0) z) found.there ∙ result_typed))
    where
      go : (x : Option HwType) → option_map (λ (v : HwType). Some v) x ≡ Some (Some inner_type) → x ≡ Some inner_type
      go (Some v) is = let same : Some v ≡ Some inner_type = cc in same
      go None is = cc

  -- it is as wide as what was joined
  inner_size : width inner_type ≡ total (map width n.inner.types)
  inner_size =
      let own = inner_known.fits in
      own.2 ∙ ap (λ us. total (map width us)) (known_alike own.0 n.inner.types (sym own.1 ∙ inner_types))

  all_types : map (type_in md.ports md.body) joined ≡ known_types joined_written
  all_types =
      map-splice (type_in md.ports md.body) n.number n.inner.operands o.operands
      ∙ ap₂ (λ a b. splice n.number a b) inner_types own_types
      ∙ sym (map-splice (λ (v : HwType). Some v) n.number n.inner.types o.types)

  joins : JoinsTypes n.number n.inner.types o.types
  unfolding has_other_form
  joins = joins_types n.number n.inner.types o.types inner_type inner_known.form known.form written_at inner_size

  own_form : list_any (λ (v : HwType). not (is_int v)) o.types ≡ false
  unfolding has_other_form
  own_form = known.form

  own_settled : t ≡ type_or_none (as_int (joined_width o.types))
  unfolding type_of_result
  own_settled = known.settled

  -- ---- values

  words : (τ : Ref → Word) → Held md.body (type_in md.ports md.body) τ
      → τ (result n.position 0) ≡ op_value n.inner.kind n.inner.types inner_type 0 (map τ n.inner.operands)
      → op_value o.kind o.types t 0 (map τ o.operands) ≡ concat_words (map τ joined)
  words τ held inner =
      ap (λ z. op_value z o.types t 0 (map τ o.operands)) kind
      ∙ words-splice n.number (map τ n.inner.operands) (map τ o.operands) (slice_get-map τ o.operands n.number ∙ ap (option_map τ) found.named ∙ ap Some word)
      ∙ ap concat_words (sym (map-splice τ n.number n.inner.operands o.operands))
    where
      word : τ (result n.position 0) ≡ concat_words (map τ n.inner.operands)
      word = inner ∙ ap (λ z. op_value z n.inner.types inner_type 0 (map τ n.inner.operands)) inner_kind

  fits : Fits concat joined_written (map (type_in md.ports md.body) joined) t 0
  fits =
      let own = known.fits in
      (joined_written, all_types, own.2 ∙ ap (λ us. total (map width us)) (known_alike own.0 o.types (sym own.1 ∙ own_types)) ∙ sym joins.widths)

  -- ---- counts

  count : length joined + 1 ≡ length n.inner.operands + length o.operands
  count = length-splice n.number n.inner.operands o.operands (result n.position 0) found.named

  some_of : (rs : List Ref) → length rs ≡ operands_written concat (length rs) → 1 ≤ length rs
  unfolding operands_written
  some_of rs is = omega arith

  some_in_all : 1 ≤ length joined
  some_in_all = omega (arith, count, some_of n.inner.operands inner_known.operands, some_of o.operands known.operands)

  -- ---- causes

  settled_types : (rs : List Ref) → map (settled_type md.ports md.body) rs ≡ map (type_in md.ports md.body) rs
  settled_types rs = map_same (settled_type md.ports md.body) (type_in md.ports md.body) rs (λ r here. settled_here d fit k md at r)

  all_settled : map (settled_type md.ports md.body) joined ≡ splice n.number (map (settled_type md.ports md.body) n.inner.operands) (map (settled_type md.ports md.body) o.operands)
  all_settled = map-splice (settled_type md.ports md.body) n.number n.inner.operands o.operands

  alone : alone_cause md.ports md.body (joined_concat o t n) ≡ None
  alone =
      own_none concat joined_written (t ∷ []) 1 (map (settled_type md.ports md.body) joined) (divides_by_constant md.body joined)
      (subst (λ xs. NoOwnCause concat joined_written (t ∷ []) 1 (length xs) xs (divides_by_constant md.body joined)) (sym all_settled)
      (joined_own n.number n.inner.named o.named (length n.inner.operands) (length o.operands) n.inner.types o.types (types_of n.inner.results) (types_of o.results)
      (map (settled_type md.ports md.body) n.inner.operands) (map (settled_type md.ports md.body) o.operands)
      (divides_by_constant md.body n.inner.operands) (divides_by_constant md.body o.operands) (divides_by_constant md.body joined) inner_type t
      (subst (λ z. NoOwnCause z n.inner.types (types_of n.inner.results) n.inner.named (length n.inner.operands) (map (settled_type md.ports md.body) n.inner.operands)
      (divides_by_constant md.body n.inner.operands)) inner_kind (op_own d fit k md at n.position n.inner found.there inner_made))
      (subst (λ z. NoOwnCause z o.types (types_of o.results) o.named (length o.operands) (map (settled_type md.ports md.body) o.operands) (divides_by_constant md.body o.operands)) kind
      (op_own d fit k md at i o there made))
      written_at inner_size own_settled (sym all_settled ∙ settled_types joined ∙ all_types)
      (subst (λ xs. 1 ≤ length xs) all_settled (subst (λ m. 1 ≤ m) (sym (length-map joined (settled_type md.ports md.body))) some_in_all))))

  -- ---- printing

  printable : IsPrintableOp md.ports md.body o
  printable = op_printable d fit k md at i o there made

  inner_printable : IsPrintableOp md.ports md.body n.inner
  inner_printable = op_printable d fit k md at n.position n.inner found.there inner_made

  defined : (r : Ref) → In r joined → IsDefined md.ports md.body r
  defined r here = go (In-splice r n.number n.inner.operands o.operands here)
    where
      go : In r n.inner.operands ⊎ In r o.operands → IsDefined md.ports md.body r
      go (inl own) = let position = position_of_In r n.inner.operands own in each_at (IsDefined md.ports md.body) n.inner.operands position.0 r inner_printable.defined position.1
      go (inr own) = let position = position_of_In r o.operands own in each_at (IsDefined md.ports md.body) o.operands position.0 r printable.defined position.1

  new_prints : IsPrintableOp md.ports md.body (joined_concat o t n)
  unfolding type_count type_of_result operands_written
  new_prints =
      new_printable md.ports md.body o concat joined joined_written t printable (sym (ap opcode_of kind)) defined
      (at_least (length joined) some_in_all)
      (sym (length-map joined_written (λ (v : HwType). Some v)) ∙ ap length (sym all_types) ∙ length-map joined (type_in md.ports md.body))
      (each-splice IsAnyType n.number n.inner.types o.types inner_printable.readable printable.readable) refl
      (own_settled ∙ ap (λ z. type_or_none (as_int z)) (sym joins.sum)) refl tt tt
    where
      at_least : (m : ℕ) → 1 ≤ m → m ≡ max 1 m
      at_least m h = omega arith

  -- ---- what is shown

  same_types : (j : ℕ) → result_type (joined_concat o t n) j ≡ result_type o j
  same_types zero = sym own_typed
  same_types (suc j) = sym (op_has_one d fit k md at i o there made j)

  takes : TakesIn md n.position o n.inner (joined_concat o t n) t inner_type
  takes = record {
    plain = refl;
    same_types = same_types;
    within = λ r here. In-splice r n.number n.inner.operands o.operands here;
    uses = ap (λ m. uses_among n.position joined + m) (sym (own_result n.position 0))
        ∙ uses-splice n.position n.number n.inner.operands o.operands (result n.position 0) found.named;
    fits = fits;
    words = words;
    first = refl;
    alone = alone;
    printable = new_prints;
    lighter = λ names.
        let old : kind_weight names o.kind o.types (length o.operands) ≡ 1 + length o.operands = ap (λ z. kind_weight names z o.types (length o.operands)) kind in
        let within : kind_weight names n.inner.kind n.inner.types (length n.inner.operands) ≡ 1 + length n.inner.operands =
        ap (λ z. kind_weight names z n.inner.types (length n.inner.operands)) inner_kind in
        omega (arith, count);
    smaller =
        let old : kind_measure o.kind (length o.operands) ≡ 2 + 3 * length o.operands = ap (λ z. kind_measure z (length o.operands)) kind in
        let within : kind_measure n.inner.kind (length n.inner.operands) ≡ 2 + 3 * length n.inner.operands = ap (λ z. kind_measure z (length n.inner.operands)) inner_kind in
        omega (arith, count);
  }

  pub concat_joined : IsFold d k md (edited_by (replaced i (joined_concat o t n) ∷ erased n.position undefined ∷ []) md.body)
  concat_joined =
      nest_joined d fit k md at i o n.number n.position n.inner nest t inner_type own_typed result_typed (joined_concat o t n) takes

-- ---- the law

pub nested_concat_is_fold : FoldLaw (fold_by fold_nested_concat)
nested_concat_is_fold d k md i os fit at is =
    let edits = option_map_some (λ (es : List Edit). edited_by es md.body) (fold_nested_concat md.body i) is in
    let found = and_then_some (slice_get md.body i) (λ (o : Op). option_and_then (concat_edits md.body i o o.kind) (result_type o 0)) edits.1 in
    let typed = and_then_some (result_type found.0 0) (concat_edits md.body i found.0 found.0.kind) found.2 in
    subst (IsFold d k md) edits.2 (by_kind found.0 found.1 found.0.kind refl typed.0 typed.1 edits.0 typed.2)
  where
    by_kind : (o : Op) → slice_get md.body i ≡ Some o → (kind : Kind) → o.kind ≡ kind → (t : HwType) → result_type o 0 ≡ Some t → (es : List Edit)
        → concat_edits md.body i o kind t ≡ Some es → IsFold d k md (edited_by es md.body)
    by_kind o there concat kind t typed es made =
        let given = option_map_some (λ (n : Nested). replaced i (joined_concat o t n) ∷ erased n.position undefined ∷ []) (first_nested (is_concat) md.body i o.operands) made in
        subst (λ z. IsFold d k md (edited_by z md.body)) given.2
        (concat_joined d fit k md at i o there kind t typed given.0 (first_nested_is (is_concat) md.body i o.operands given.0 given.1))
    by_kind o there _ kind t typed es made = cc
