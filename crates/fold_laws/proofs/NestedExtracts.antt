-- An extract of an extract that has no other use becomes one extract.
use Rattle.std.proofs.Common.{◌≡◌, ℕ, zero, suc, ◌+◌, ◌*◌, ◌<◌, ◌≤◌, ◌^◌, Bool, true, false, not, ◌||◌, List, [], ◌∷◌, length, map, Option, Some, None, slice_get, refl, sym, ap, ap₂, subst, ◌∙◌, inl, arith, option_and_then, option_map}
use Rattle.std.specs.List.{list_any}
use Rattle.std.proofs.lemmas.Bool.{le-ltb}
use Rattle.std.proofs.lemmas.List.{length-map}
use Rattle.wiring.specs.Wiring.{In}
use Rattle.wiring.proofs.Members.{position_of_In}
use Rattle.wiring.proofs.Options.{and_then_some, option_map_some}
use Rattle.bits_core.specs.Word.{Word, bit, extract as bits_from}
use Rattle.bits_core.proofs.First.{extract-extract}
use Rattle.hw_model.specs.SameType.{type_self}
use Rattle.hw_model.specs.Opcodes.{opcode_of}
use Rattle.hw_model.specs.Types.{HwType, width}
use Rattle.hw_model.specs.Types.HwType.{int, clock, array, struct}
use Rattle.hw_model.specs.Kinds.{Kind}
use Rattle.hw_model.specs.Kinds.Kind.{extract}
use Rattle.hw_model.specs.Design.{Ref, Op, Module, Design, result_type}
use Rattle.hw_model.specs.Design.Ref.{result, undefined}
use Rattle.hw_model.specs.Sound.{type_in}
use Rattle.hw_model.specs.Value.{nth_type, op_value}
use Rattle.hw_model.specs.Weight.{kind_weight}
use Rattle.type_inference.specs.ResultTypes.{second_type, result_type as type_of_result, result_types, result_count}
use Rattle.stored_form.specs.Bytes.{Each}
use Rattle.stored_form.specs.Limits.{IsAnyType}
use Rattle.stored_form.specs.ResultTypes.{type_or_none}
use Rattle.op_checks.specs.CountChecks.{operands_written, operand_count, type_count, has_miscounted_parts}
use Rattle.op_checks.specs.LimitChecks.{of_both, reaches_past, has_constant_outside, has_extract_outside, has_broken_copy, has_wide_concat, has_unknown_divisor, has_wrong_index, has_unequal_widths, has_clock_operand}
use Rattle.op_checks.specs.OperandChecks.{has_other_form, has_other_operand}
use Rattle.op_checks.specs.TypeChecks.{is_int, is_outside, has_bad_field, has_clock_part, is_clock}
use Rattle.op_checks.specs.TypeLists.{differs, int_width}
use Rattle.op_checks.proofs.Agreeing.{agreed}
use Rattle.op_checks.proofs.NoOwnCause.{NoOwnCause}
use Rattle.op_checks.proofs.Widths.{neither, bits_within}
use Rattle.op_verifier.specs.OpChecks.{settled_type, divides_by_constant, alone_cause}
use Rattle.op_verifier.proofs.NoCauseAlone.{types_of}
use Rattle.printing_laws.specs.Printable.{IsDefined, IsPrintableOp}
use Rattle.acceptance_laws.specs.Keeps.{IsFit}
use Rattle.acceptance_laws.proofs.Accepted.{each_at}
use Rattle.fold_laws.specs.Edits.{Edit, edited_by, fold_by}
use Rattle.fold_laws.specs.Edits.Edit.{replaced, erased}
use Rattle.fold_laws.specs.Fold.{kind_measure, IsFold, FoldLaw}
use Rattle.fold_laws.specs.Nested.{uses_among, Nested, first_nested, joined_extract, lowest_bit, is_extract, extract_edits, fold_extract_extract}
use Rattle.fold_laws.specs.Unused.{is_pure, is_result_of}
use Rattle.fold_laws.proofs.MadeKinds.{is_made}
use Rattle.fold_laws.proofs.Nested.{TakesIn, IsNest, found_nest, nest_joined}
use Rattle.fold_laws.proofs.NestedUses.{own_result, IsNested, first_nested_is}
use Rattle.fold_laws.proofs.NewOps.{own_none, new_printable}
use Rattle.fold_laws.proofs.Stands.{Known, Held, held_width, op_printable, op_own, op_typed, op_has_one, op_known}

-- ---- lists of one and two

one_of : (rs : List Ref) → length rs ≡ 1 → (x : Ref) × (rs ≡ x ∷ [])
one_of [] one = absurd (omega arith)
one_of (x ∷ []) one = (x, refl)
one_of (x ∷ y ∷ rs) one = absurd (omega arith)

one_named : (rs : List Ref) (n : ℕ) (r : Ref) → length rs ≡ 1 → slice_get rs n ≡ Some r → rs ≡ r ∷ []
one_named [] n r one is = cc
one_named (x ∷ []) zero r one is = let same : x ≡ r = cc in ap (λ z. z ∷ []) same
one_named (x ∷ []) (suc n) r one is = cc
one_named (x ∷ y ∷ rs) n r one is = absurd (omega arith)

two_of : (ts : List HwType) → length ts ≡ 2 → ts ≡ nth_type ts 0 ∷ nth_type ts 1 ∷ []
two_of [] two = absurd (omega arith)
two_of (u ∷ []) two = absurd (omega arith)
two_of (u ∷ v ∷ []) two = refl
two_of (u ∷ v ∷ w ∷ ts) two = absurd (omega arith)

second_of : (ts : List HwType) → length ts ≡ 2 → type_or_none (second_type ts) ≡ nth_type ts 1
second_of [] two = absurd (omega arith)
second_of (u ∷ []) two = absurd (omega arith)
second_of (u ∷ v ∷ ts) two = refl

-- an extract has one operand, whatever its lowest bit
written_one : (low n : ℕ) → n ≡ operands_written (extract low) n → n ≡ 1
unfolding operands_written
written_one low n is = is

any_low : (low m n : ℕ) → operands_written (extract m) n ≡ operands_written (extract low) n
unfolding operands_written
any_low low m n = refl

lowest_is : (kind : Kind) (m : ℕ) → lowest_bit kind ≡ Some m → kind ≡ extract m
lowest_is (extract low) m is = let same : low ≡ m = cc in ap extract same
lowest_is _ m is = cc

-- ---- causes

none_of_outer : (test : HwType → Bool) (p q v t : HwType) → list_any test (p ∷ q ∷ []) ≡ false → list_any test (v ∷ t ∷ []) ≡ false → list_any test (p ∷ t ∷ []) ≡ false
none_of_outer test p q v t inner outer =
    let first : test p ≡ false = (neither (test p) (list_any test (q ∷ [])) inner).0 in
    let second : test t ≡ false = (neither (test t) false (neither (test v) (list_any test (t ∷ [])) outer).1).0 in
    rw (first, second) refl

stays_within : (low : ℕ) (p t : HwType) → low + width t ≤ width p → of_both (reaches_past low) (int_width (Some p)) (int_width (Some t)) ≡ false
stays_within low (int w) (int v) room = le-ltb w (low + v) room
stays_within low (int w) clock room = refl
stays_within low (int w) (array n t) room = refl
stays_within low (int w) (struct fs) room = refl
stays_within low clock t room = refl
stays_within low (array n p) t room = refl
stays_within low (struct fs) t room = refl

same_result : (t : HwType) → differs (Some t) (Some t) || false ≡ false
same_result t = ap (λ b. not b || false) (type_self t)

-- one extract has no cause of its own where two had none
joined_own : (low m named named' n n' : ℕ) (p q v t : HwType) (rs rs' : List HwType) (xs xs' : List (Option HwType)) (known known' known'' : Bool)
    → NoOwnCause (extract m) (p ∷ q ∷ []) rs named n xs known → NoOwnCause (extract low) (v ∷ t ∷ []) rs' named' n' xs' known' → m + low + width t ≤ width p
    → NoOwnCause (extract (m + low)) (p ∷ t ∷ []) (t ∷ []) 1 n xs known''
unfolding has_other_form has_other_operand type_of_result result_types result_count has_constant_outside has_extract_outside has_broken_copy has_wide_concat has_unknown_divisor has_wrong_index has_unequal_widths has_clock_operand has_miscounted_parts operands_written operand_count type_count
joined_own low m named named' n n' p q v t rs rs' xs xs' known known' known'' inner outer room = record {
  form = none_of_outer (λ (z : HwType). not (is_int z)) p q v t inner.form outer.form;
  operand = inner.operand;
  result = same_result t;
  written = none_of_outer is_outside p q v t inner.written outer.written;
  leaf = refl;
  array = refl;
  constant = refl;
  extract = stays_within (m + low) p t room;
  copy = refl;
  wide = refl;
  divisor = refl;
  index = refl;
  field_names = none_of_outer has_bad_field p q v t inner.field_names outer.field_names;
  field = refl;
  widths = refl;
  clock_part = none_of_outer has_clock_part p q v t inner.clock_part outer.clock_part;
  clock_type = none_of_outer is_clock p q v t inner.clock_type outer.clock_type;
  clock_operand = inner.clock_operand;
  operands = inner.operands;
  types = refl;
  names = refl;
  results = refl;
  parts = refl;
}

-- ---- what is known of an extract

record KnowsExtract (low : ℕ) (ts : List HwType) (rs : List Ref) (x : Ref) (type_of : Ref → Option HwType) (t : HwType) : Type 0 where
  typed : type_of x ≡ Some (nth_type ts 0)
  second : nth_type ts 1 ≡ t
  room : low + width t ≤ width (nth_type ts 0)
  limit : is_outside (nth_type ts 0) ≡ false
  types : ts ≡ nth_type ts 0 ∷ t ∷ []

knows_extract : (os : List Op) (low : ℕ) (ts : List HwType) (rs : List Ref) (x : Ref) (type_of : Ref → Option HwType) (t : HwType) → rs ≡ x ∷ []
    → Known os (extract low) ts rs type_of t → KnowsExtract low ts rs x type_of t
unfolding has_other_operand type_of_result type_count
knows_extract os low ts rs x type_of t one known = record {
  typed = only ∙ ap Some first;
  second = second;
  room = subst (λ z. low + width t ≤ width z) first own.2;
  limit = (neither (is_outside (nth_type ts 0)) (list_any is_outside (nth_type ts 1 ∷ [])) (ap (list_any is_outside) (sym both) ∙ known.limits)).0;
  types = both ∙ ap (λ z. nth_type ts 0 ∷ z ∷ []) second;
}
  where
    own : (u : HwType) × (map type_of rs ≡ Some u ∷ []) × (low + width t ≤ width u)
    own = known.fits

    both : ts ≡ nth_type ts 0 ∷ nth_type ts 1 ∷ []
    both = two_of ts known.written

    second : nth_type ts 1 ≡ t
    second = sym (known.settled ∙ second_of ts known.written)

    only : type_of x ≡ Some own.0
    only = let same : type_of x ∷ [] ≡ Some own.0 ∷ [] = sym (ap (map type_of) one) ∙ own.1 in cc

    first : own.0 ≡ nth_type ts 0
    first =
        let asked : has_other_operand (extract low) (nth_type ts 0 ∷ nth_type ts 1 ∷ []) (Some own.0 ∷ []) ≡ false =
        ap₂ (λ us xs. has_other_operand (extract low) us xs) (sym both) (sym own.1) ∙ known.asked in
        agreed own.0 (nth_type ts 0) (neither (differs (Some own.0) (Some (nth_type ts 0))) false asked).0

-- ---- what nest there is

module _ (d : Design) (fit : IsFit d) (k : ℕ) (md : Module) (at : slice_get d k ≡ Some md) (i : ℕ) (o : Op) (there : slice_get md.body i ≡ Some o)
    (low : ℕ) (kind : o.kind ≡ extract low) (t : HwType) (own_typed : result_type o 0 ≡ Some t) (n : Nested) (found : IsNested is_extract md.body i o.operands n)
    (m : ℕ) (inner_kind : n.inner.kind ≡ extract m) where
  made : is_made o.kind ≡ true
  made = ap is_made kind

  inner_made : is_made n.inner.kind ≡ true
  inner_made = ap is_made inner_kind

  nest : IsNest md i o n.number n.position n.inner
  nest = found_nest is_extract md i o n there found made inner_made (ap is_pure inner_kind)

  -- ---- types and operands

  abbrev inner_type : HwType
  inner_type = type_or_none (type_of_result n.inner.kind n.inner.types (length n.inner.operands))

  known : Known md.body (extract low) o.types o.operands (type_in md.ports md.body) t
  known =
      let settled : Some (type_or_none (type_of_result o.kind o.types (length o.operands))) ≡ Some t = sym (op_typed d fit k md at i o there made) ∙ own_typed in
      let same : type_or_none (type_of_result o.kind o.types (length o.operands)) ≡ t = cc in
      subst (λ z. Known md.body z o.types o.operands (type_in md.ports md.body) t) kind
      (subst (Known md.body o.kind o.types o.operands (type_in md.ports md.body)) same (op_known d fit k md at i o there made))

  inner_known : Known md.body (extract m) n.inner.types n.inner.operands (type_in md.ports md.body) inner_type
  inner_known =
      subst (λ z. Known md.body z n.inner.types n.inner.operands (type_in md.ports md.body) inner_type) inner_kind
      (op_known d fit k md at n.position n.inner found.there inner_made)

  own_only : o.operands ≡ result n.position 0 ∷ []
  own_only = one_named o.operands n.number (result n.position 0) (written_one low (length o.operands) known.operands) found.named

  inner_only : (x : Ref) × (n.inner.operands ≡ x ∷ [])
  inner_only = one_of n.inner.operands (written_one m (length n.inner.operands) inner_known.operands)

  own : KnowsExtract low o.types o.operands (result n.position 0) (type_in md.ports md.body) t
  own = knows_extract md.body low o.types o.operands (result n.position 0) (type_in md.ports md.body) t own_only known

  inner : KnowsExtract m n.inner.types n.inner.operands inner_only.0 (type_in md.ports md.body) inner_type
  inner = knows_extract md.body m n.inner.types n.inner.operands inner_only.0 (type_in md.ports md.body) inner_type inner_only.1 inner_known

  result_typed : result_type n.inner 0 ≡ Some inner_type
  result_typed = op_typed d fit k md at n.position n.inner found.there inner_made

  -- the outer operand's type is that of the inner result
  between : nth_type o.types 0 ≡ inner_type
  between =
      let both : Some (nth_type o.types 0) ≡ Some inner_type =
      sym own.typed ∙ ap (λ z. option_and_then (λ (y : Op). result_type y 0) z) found.there ∙ result_typed in
      cc

  own_room : low + width t ≤ width inner_type
  own_room = subst (λ z. low + width t ≤ width z) between own.room

  room : m + low + width t ≤ width (nth_type n.inner.types 0)
  room =
      let a : low + width t ≤ width inner_type = own_room in
      let b : m + width inner_type ≤ width (nth_type n.inner.types 0) = inner.room in
      omega arith

  -- ---- values

  words : (τ : Ref → Word) → Held md.body (type_in md.ports md.body) τ
      → τ (result n.position 0) ≡ op_value n.inner.kind n.inner.types inner_type 0 (map τ n.inner.operands)
      → op_value o.kind o.types t 0 (map τ o.operands) ≡ op_value (extract (m + low)) (nth_type n.inner.types 0 ∷ t ∷ []) t 0 (map τ n.inner.operands)
  words τ held is =
      ap₂ (λ z rs. op_value z o.types t 0 (map τ rs)) kind own_only
      ∙ ap (bits_from low (width t)) word
      ∙ extract-extract low (width t) m (width inner_type) (τ inner_only.0) own_room
      (subst (λ z. m + width inner_type ≤ z) (sym (held_width held inner_only.0 (nth_type n.inner.types 0) inner.typed)) inner.room)
      ∙ sym (ap (λ rs. op_value (extract (m + low)) (nth_type n.inner.types 0 ∷ t ∷ []) t 0 (map τ rs)) inner_only.1)
    where
      word : τ (result n.position 0) ≡ bits_from m (width inner_type) (τ inner_only.0)
      word = is ∙ ap₂ (λ z rs. op_value z n.inner.types inner_type 0 (map τ rs)) inner_kind inner_only.1

  -- ---- causes

  own_none_of_inner : NoOwnCause (extract m) (nth_type n.inner.types 0 ∷ inner_type ∷ []) (types_of n.inner.results) n.inner.named (length n.inner.operands)
      (map (settled_type md.ports md.body) n.inner.operands) (divides_by_constant md.body n.inner.operands)
  own_none_of_inner =
      subst (λ ts. NoOwnCause (extract m) ts (types_of n.inner.results) n.inner.named (length n.inner.operands) (map (settled_type md.ports md.body) n.inner.operands)
      (divides_by_constant md.body n.inner.operands)) inner.types
      (subst (λ z. NoOwnCause z n.inner.types (types_of n.inner.results) n.inner.named (length n.inner.operands) (map (settled_type md.ports md.body) n.inner.operands)
      (divides_by_constant md.body n.inner.operands)) inner_kind (op_own d fit k md at n.position n.inner found.there inner_made))

  own_none_of_outer : NoOwnCause (extract low) (nth_type o.types 0 ∷ t ∷ []) (types_of o.results) o.named (length o.operands)
      (map (settled_type md.ports md.body) o.operands) (divides_by_constant md.body o.operands)
  own_none_of_outer =
      subst (λ ts. NoOwnCause (extract low) ts (types_of o.results) o.named (length o.operands) (map (settled_type md.ports md.body) o.operands)
      (divides_by_constant md.body o.operands)) own.types
      (subst (λ z. NoOwnCause z o.types (types_of o.results) o.named (length o.operands) (map (settled_type md.ports md.body) o.operands) (divides_by_constant md.body o.operands)) kind
      (op_own d fit k md at i o there made))

  alone : alone_cause md.ports md.body (joined_extract o t low n m) ≡ None
  alone =
      own_none (extract (m + low)) (nth_type n.inner.types 0 ∷ t ∷ []) (t ∷ []) 1 (map (settled_type md.ports md.body) n.inner.operands) (divides_by_constant md.body n.inner.operands)
      (subst (λ c. NoOwnCause (extract (m + low)) (nth_type n.inner.types 0 ∷ t ∷ []) (t ∷ []) 1 c (map (settled_type md.ports md.body) n.inner.operands)
      (divides_by_constant md.body n.inner.operands)) (sym (length-map n.inner.operands (settled_type md.ports md.body)))
      (joined_own low m n.inner.named o.named (length n.inner.operands) (length o.operands) (nth_type n.inner.types 0) inner_type (nth_type o.types 0) t
      (types_of n.inner.results) (types_of o.results) (map (settled_type md.ports md.body) n.inner.operands) (map (settled_type md.ports md.body) o.operands)
      (divides_by_constant md.body n.inner.operands) (divides_by_constant md.body o.operands) (divides_by_constant md.body n.inner.operands)
      own_none_of_inner own_none_of_outer room))

  -- ---- printing

  printable : IsPrintableOp md.ports md.body o
  printable = op_printable d fit k md at i o there made

  inner_printable : IsPrintableOp md.ports md.body n.inner
  inner_printable = op_printable d fit k md at n.position n.inner found.there inner_made

  defined : (r : Ref) → In r n.inner.operands → IsDefined md.ports md.body r
  defined r here =
      let position = position_of_In r n.inner.operands here in
      each_at (IsDefined md.ports md.body) n.inner.operands position.0 r inner_printable.defined position.1

  readable : Each IsAnyType (nth_type n.inner.types 0 ∷ t ∷ [])
  readable =
      let first : Each IsAnyType (nth_type n.inner.types 0 ∷ inner_type ∷ []) = subst (Each IsAnyType) inner.types inner_printable.readable in
      let second : Each IsAnyType (nth_type o.types 0 ∷ t ∷ []) = subst (Each IsAnyType) own.types printable.readable in
      (each_at IsAnyType (nth_type n.inner.types 0 ∷ inner_type ∷ []) 0 (nth_type n.inner.types 0) first refl, (each_at IsAnyType (nth_type o.types 0 ∷ t ∷ []) 1 t second refl, tt))

  low_small : m + low < 2 ^ 32
  low_small =
      let limit : width (nth_type n.inner.types 0) ≤ 4096 = bits_within (nth_type n.inner.types 0) inner.limit in
      omega (arith, room)

  new_prints : IsPrintableOp md.ports md.body (joined_extract o t low n m)
  unfolding type_count type_of_result
  new_prints =
      new_printable md.ports md.body o (extract (m + low)) n.inner.operands (nth_type n.inner.types 0 ∷ t ∷ []) t printable (sym (ap opcode_of kind)) defined
      (inner_known.operands ∙ any_low (m + low) m (length n.inner.operands)) refl readable refl refl refl tt low_small

  -- ---- what is shown

  same_types : (j : ℕ) → result_type (joined_extract o t low n m) j ≡ result_type o j
  same_types zero = sym own_typed
  same_types (suc j) = sym (op_has_one d fit k md at i o there made j)

  takes : TakesIn md n.position o n.inner (joined_extract o t low n m) t inner_type
  takes = record {
    plain = refl;
    same_types = same_types;
    within = λ r here. inl here;
    uses =
        let single : uses_among n.position o.operands ≡ bit (is_result_of n.position (result n.position 0)) + 0 = ap (uses_among n.position) own_only in
        let one : bit (is_result_of n.position (result n.position 0)) ≡ 1 = own_result n.position 0 in
        omega arith;
    fits = (nth_type n.inner.types 0, ap (map (type_in md.ports md.body)) inner_only.1 ∙ ap (λ z. z ∷ []) inner.typed, room);
    words = words;
    first = refl;
    alone = alone;
    printable = new_prints;
    lighter = λ names.
        let old : kind_weight names o.kind o.types (length o.operands) ≡ 1 + length o.operands = ap (λ z. kind_weight names z o.types (length o.operands)) kind in
        let within : kind_weight names n.inner.kind n.inner.types (length n.inner.operands) ≡ 1 + length n.inner.operands =
        ap (λ z. kind_weight names z n.inner.types (length n.inner.operands)) inner_kind in
        omega arith;
    smaller =
        let old : kind_measure o.kind (length o.operands) ≡ 2 + 3 * length o.operands = ap (λ z. kind_measure z (length o.operands)) kind in
        let within : kind_measure n.inner.kind (length n.inner.operands) ≡ 2 + 3 * length n.inner.operands = ap (λ z. kind_measure z (length n.inner.operands)) inner_kind in
        omega arith;
  }

  pub extract_joined : IsFold d k md (edited_by (replaced i (joined_extract o t low n m) ∷ erased n.position undefined ∷ []) md.body)
  extract_joined =
      nest_joined d fit k md at i o n.number n.position n.inner nest t inner_type own_typed result_typed (joined_extract o t low n m) takes

-- ---- the law

pub extract_extract_is_fold : FoldLaw (fold_by fold_extract_extract)
extract_extract_is_fold d k md i os fit at is =
    let edits = option_map_some (λ (es : List Edit). edited_by es md.body) (fold_extract_extract md.body i) is in
    let found = and_then_some (slice_get md.body i) (λ (o : Op). option_and_then (extract_edits md.body i o o.kind) (result_type o 0)) edits.1 in
    let typed = and_then_some (result_type found.0 0) (extract_edits md.body i found.0 found.0.kind) found.2 in
    subst (IsFold d k md) edits.2 (by_kind found.0 found.1 found.0.kind refl typed.0 typed.1 edits.0 typed.2)
  where
    by_kind : (o : Op) → slice_get md.body i ≡ Some o → (kind : Kind) → o.kind ≡ kind → (t : HwType) → result_type o 0 ≡ Some t → (es : List Edit)
        → extract_edits md.body i o kind t ≡ Some es → IsFold d k md (edited_by es md.body)
    by_kind o there (extract low) kind t typed es made =
        let given = and_then_some (first_nested is_extract md.body i o.operands)
        (λ (n : Nested). option_map (λ (m : ℕ). replaced i (joined_extract o t low n m) ∷ erased n.position undefined ∷ []) (lowest_bit n.inner.kind)) made in
        let bits = option_map_some (λ (m : ℕ). replaced i (joined_extract o t low given.0 m) ∷ erased given.0.position undefined ∷ []) (lowest_bit given.0.inner.kind) given.2 in
        subst (λ z. IsFold d k md (edited_by z md.body)) bits.2
        (extract_joined d fit k md at i o there low kind t typed given.0 (first_nested_is is_extract md.body i o.operands given.0 given.1) bits.0
        (lowest_is given.0.inner.kind bits.0 bits.1))
    by_kind o there _ kind t typed es made = cc
