-- The patterns by which an operation and another one that made an operand of it become a new one.
use Rattle.std.proofs.Common.{◌≡◌, ℕ, ◌<◌, ◌≤◌, ◌+◌, Bool, true, false, cond, ◌&&◌, List, [], ◌∷◌, length, map, Option, Some, None, slice_get, refl, sym, ap, ap₂, subst, ◌∙◌, inl, arith, option_and_then}
use Rattle.std.specs.Prelude.{is_some, option_map, Result, Ok, Err, IfOk}
use Rattle.std.proofs.lemmas.List.{length-map}
use Rattle.std.proofs.lemmas.Option.{slice_get_within}
use Rattle.wiring.specs.Wiring.{In}
use Rattle.hw_model.specs.Types.{HwType}
use Rattle.hw_model.specs.Kinds.{Kind}
use Rattle.hw_model.specs.Kinds.Kind.{extract, concat}
use Rattle.hw_model.specs.KindViews.{kind_of}
use Rattle.hw_model.specs.TypeViews.{type_of}
use Rattle.hw_model.specs.Design.{Op, result_type}
use Rattle.hw_model.specs.Design.Ref.{result, undefined}
use Rattle.hw_model.specs.Value.{nth_type}
use Rattle.ir_store.specs.declared.body.Body.{Body}
use Rattle.ir_store.specs.declared.body.Op.{Op as ReadOp}
use Rattle.ir_store.specs.declared.operation.OpId.{OpId}
use Rattle.ir_store.specs.declared.operation.NewOp.{NewOp}
use Rattle.ir_store.specs.declared.operation.Value.{Value}
use Rattle.ir_store.specs.Bodies.{ops_of, read_op}
use Rattle.ir_store.specs.BodyOps.{op_at}
use Rattle.ir_store.specs.OperationViews.{types_in}
use Rattle.ir_store.specs.ShortLists.{short_items}
use Rattle.fold_laws.specs.Edits.{FoldPattern}
use Rattle.fold_laws.specs.Edits.Edit.{replaced, erased}
use Rattle.fold_laws.specs.Nested.{Nested, uses_among, first_nested, splice, new_op, joined_extract, joined_concat, lowest_bit, is_extract, is_concat, extract_edits, concat_edits, fold_extract_extract, fold_nested_concat}
use Rattle.fold_laws.proofs.NestedUses.{uses-splice, own_result, named_once, IsNested, first_nested_is}
use Rattle.fold_laws.proofs.Splices.{In-splice, map-splice}
use Rattle.body_edits.specs.declared.nested.InnerKind.{InnerKind}
use Rattle.body_edits.specs.FitBodies.{IsOfFit}
use Rattle.body_edits.specs.Folded.{IsFolded}
use Rattle.comb_fold.specs.Merges.{low_of, nested_of, nested_in, TakesBoth, IsJoin, IsJoined}
use Rattle.body_edits.specs.Nests.{kind_test, IsInner}
use Rattle.body_edits.specs.Replaceable.{HaveNoFurther}
use Rattle.body_edits.specs.Replaced.{new_seen}
use Rattle.body_edits.specs.Views.{body_ops, position_in, value_ref, op_seen}
use Rattle.comb_fold.proofs.FitExtracts.{extract_types, low_within, concat_types}
use Rattle.body_edits.proofs.FitOps.{fit_no_further}
use Rattle.body_edits.proofs.NestedReads.{kinds_made}
use Rattle.comb_fold.proofs.NestedPattern.{within_ids}
use Rattle.body_edits.proofs.ReadBodies.{op_seen_at}

-- ---- what is found

pub record IsFoundIn (test : Kind → Bool) (os : List Op) (i : ℕ) (n : Nested) : Type 0 where
  pub outer : Op
  pub there : slice_get os i ≡ Some outer
  pub type : HwType
  pub typed : result_type outer 0 ≡ Some type
  pub kind : test outer.kind ≡ true
  pub found : first_nested test os i outer.operands ≡ Some n

module _ (test : Kind → Bool) (os : List Op) (i : ℕ) (n : Nested) where
  pub found_in : Some n ≡ nested_in test os i → IsFoundIn test os i n
  found_in is = of_op (slice_get os i) refl is
    where
      of_type : (o : Op) → slice_get os i ≡ Some o → (k : Bool) → test o.kind ≡ k → (x : Option HwType) → result_type o 0 ≡ x
          → Some n ≡ cond (k && is_some x) (first_nested test os i o.operands) None → IsFoundIn test os i n
      of_type o there true kind (Some t) typed is = record { outer = o; there = there; type = t; typed = typed; kind = kind; found = sym is }
      of_type o there true kind None typed is = cc
      of_type o there false kind x typed is = cc

      of_op : (x : Option Op) → slice_get os i ≡ x → Some n ≡ option_and_then (nested_of test os i) x → IsFoundIn test os i n
      of_op None there is = cc
      of_op (Some o) there is = of_type o there (test o.kind) refl (result_type o 0) refl is

  module _ (is : IsFoundIn test os i n) where
    nested : IsNested test os i is.outer.operands n
    nested = first_nested_is test os i is.outer.operands n is.found

    pub inner_kind : test n.inner.kind ≡ true
    inner_kind = nested.kind

    pub inner_there : slice_get os n.position ≡ Some n.inner
    inner_there = nested.there

    pub inner_of : IsInner os i n.number n.position
    inner_of = record { outer = is.outer; there = is.there; inner = n.inner; inside = nested.there; named = nested.named; other = nested.other; once = nested.once }

    -- an operation of the inner one's operands, or of both
    pub takes_inner : (o : Op) → o.operands ≡ n.inner.operands → TakesBoth os i n.position o
    unfolding inner_of
    takes_inner o same = record {
      number = n.number;
      is = inner_of;
      within = λ r here. inl (subst (In r) same here);
      uses =
          let named = named_once n.position n.number is.outer.operands nested.named in
          let uses = ap (uses_among n.position) same in
          omega (arith, named, uses);
    }

    pub takes_spliced : (o : Op) → o.operands ≡ splice n.number n.inner.operands is.outer.operands → TakesBoth os i n.position o
    unfolding inner_of
    takes_spliced o same = record {
      number = n.number;
      is = inner_of;
      within = λ r here. In-splice r n.number n.inner.operands is.outer.operands (subst (In r) same here);
      uses =
          let spliced = uses-splice n.position n.number n.inner.operands is.outer.operands (result n.position 0) nested.named in
          let own = own_result n.position 0 in
          let uses = ap (uses_among n.position) same in
          omega (arith, spliced, own, uses);
    }

-- ---- what code makes of it

pub join_folded : (pattern : FoldPattern) (b b' : Body) (i j : ℕ) (new : NewOp) → IsJoin pattern b i j new → IsJoined b b' i j (new_seen b new) → IsFolded pattern b b' i
join_folded pattern b b' i j new join is = record {
  edits = replaced i (new_seen b new) ∷ erased j undefined ∷ [];
  matches = join.edits;
  form = (refl, join.takes.is.other, within_ids b j join.takes.is.inner join.takes.is.inside);
  ops = is.ops;
  fresh = is.fresh;
  is_fresh = is.is_fresh;
  ids = is.ids;
}

-- ---- extracts

pub extract_is : (k : Kind) → is_extract k ≡ true → k ≡ extract (low_of k)
extract_is (extract low) is = refl
extract_is _ is = cc

low_is : (k : Kind) → is_extract k ≡ true → lowest_bit k ≡ Some (low_of k)
low_is (extract low) is = refl
low_is _ is = cc

pub extract_matches : (os : List Op) (i : ℕ) → is_some (nested_in is_extract os i) ≡ is_some (fold_extract_extract os i)
extract_matches os i = of_op (slice_get os i)
  where
    of_nested : (o : Op) (low : ℕ) (t : HwType) (x : Option Nested) → first_nested is_extract os i o.operands ≡ x
        → is_some x ≡ is_some (option_and_then (λ (n : Nested). option_map (λ (m : ℕ). replaced i (joined_extract o t low n m) ∷ erased n.position undefined ∷ []) (lowest_bit n.inner.kind)) x)
    of_nested o low t None is = refl
    of_nested o low t (Some n) is =
        sym (ap (λ y. is_some (option_map (λ (m : ℕ). replaced i (joined_extract o t low n m) ∷ erased n.position undefined ∷ []) y)) (low_is n.inner.kind (first_nested_is is_extract os i o.operands n is).kind))

    of_kind : (o : Op) (k : Kind) (x : Option HwType) → is_some (cond (is_extract k && is_some x) (first_nested is_extract os i o.operands) None) ≡ is_some (option_and_then (extract_edits os i o k) x)
    of_kind o (extract low) (Some t) = of_nested o low t (first_nested is_extract os i o.operands) refl
    of_kind o (extract low) None = refl
    of_kind o _ (Some t) = refl
    of_kind o _ None = refl

    of_op : (x : Option Op) → is_some (option_and_then (nested_of is_extract os i) x) ≡ is_some (option_and_then (λ (o : Op). option_and_then (extract_edits os i o o.kind) (result_type o 0)) x)
    of_op None = refl
    of_op (Some o) = of_kind o o.kind (result_type o 0)

pub extract_pattern : (os : List Op) (i : ℕ) (n : Nested) → (is : IsFoundIn is_extract os i n)
    → fold_extract_extract os i ≡ Some (replaced i (joined_extract is.outer is.type (low_of is.outer.kind) n (low_of n.inner.kind)) ∷ erased n.position undefined ∷ [])
extract_pattern os i n is =
    ap (λ x. option_and_then (λ (o : Op). option_and_then (extract_edits os i o o.kind) (result_type o 0)) x) is.there
    ∙ ap (λ x. option_and_then (extract_edits os i is.outer is.outer.kind) x) is.typed
    ∙ ap (λ k. extract_edits os i is.outer k is.type) (extract_is is.outer.kind is.kind)
    ∙ ap (λ x. option_and_then (λ (m : Nested). option_map (λ (l : ℕ). replaced i (joined_extract is.outer is.type (low_of is.outer.kind) m l) ∷ erased m.position undefined ∷ []) (lowest_bit m.inner.kind)) x) is.found
    ∙ ap (option_map (λ (l : ℕ). replaced i (joined_extract is.outer is.type (low_of is.outer.kind) n l) ∷ erased n.position undefined ∷ [])) (low_is n.inner.kind (inner_kind is_extract os i n is))

-- ---- concats

concat_is : (k : Kind) → is_concat k ≡ true → k ≡ concat
concat_is concat is = refl
concat_is _ is = cc

pub concat_matches : (os : List Op) (i : ℕ) → is_some (nested_in is_concat os i) ≡ is_some (fold_nested_concat os i)
concat_matches os i = of_op (slice_get os i)
  where
    of_nested : (o : Op) (t : HwType) (x : Option Nested) → is_some x ≡ is_some (option_map (λ (n : Nested). replaced i (joined_concat o t n) ∷ erased n.position undefined ∷ []) x)
    of_nested o t None = refl
    of_nested o t (Some n) = refl

    of_kind : (o : Op) (k : Kind) (x : Option HwType) → is_some (cond (is_concat k && is_some x) (first_nested is_concat os i o.operands) None) ≡ is_some (option_and_then (concat_edits os i o k) x)
    of_kind o concat (Some t) = of_nested o t (first_nested is_concat os i o.operands)
    of_kind o concat None = refl
    of_kind o _ (Some t) = refl
    of_kind o _ None = refl

    of_op : (x : Option Op) → is_some (option_and_then (nested_of is_concat os i) x) ≡ is_some (option_and_then (λ (o : Op). option_and_then (concat_edits os i o o.kind) (result_type o 0)) x)
    of_op None = refl
    of_op (Some o) = of_kind o o.kind (result_type o 0)

concat_pattern : (os : List Op) (i : ℕ) (n : Nested) → (is : IsFoundIn is_concat os i n)
    → fold_nested_concat os i ≡ Some (replaced i (joined_concat is.outer is.type n) ∷ erased n.position undefined ∷ [])
concat_pattern os i n is =
    ap (λ x. option_and_then (λ (o : Op). option_and_then (concat_edits os i o o.kind) (result_type o 0)) x) is.there
    ∙ ap (λ x. option_and_then (concat_edits os i is.outer is.outer.kind) x) is.typed
    ∙ ap (λ k. concat_edits os i is.outer k is.type) (concat_is is.outer.kind is.kind)
    ∙ ap (option_map (λ (m : Nested). replaced i (joined_concat is.outer is.type m) ∷ erased m.position undefined ∷ [])) is.found

-- ---- in code

-- what has an image is there
pub there_if : {A B : Type 0} (f : A → B) (x : Option A) (y : Option B) → option_map f x ≡ y → is_some x ≡ is_some y
there_if f None y is = ap is_some is
there_if f (Some a) y is = ap is_some is

-- in a fit design nothing names a further result of the operation
pub found_alone : (b : Body) → IsOfFit b → (t : InnerKind) (i : ℕ) (n : Nested) → Some n ≡ nested_in (kind_test t) (body_ops b) i → HaveNoFurther i (body_ops b)
found_alone b of t i n is =
    let found = found_in (kind_test t) (body_ops b) i n is in
    fit_no_further b of i found.outer found.there (kinds_made t found.outer.kind found.kind)

module _ (b : Body) (of : IsOfFit b) (op : OpId) (n : Nested) (o : ReadOp) (read : op_at (ops_of b) op.index ≡ Some (read_op op o)) where
  -- the operation that is read is the one that is found
  module _ (test : Kind → Bool) (is : IsFoundIn test (body_ops b) (position_in b op) n) where
    seen_outer : op_seen b o ≡ is.outer
    seen_outer = let both : Some (op_seen b o) ≡ Some is.outer = sym (op_seen_at b op o read) ∙ is.there in cc

    seen_type : (t : HwType) → Some t ≡ result_type (op_seen b o) 0 → t ≡ is.type
    seen_type t typed = let both : Some t ≡ Some is.type = typed ∙ ap (λ (p : Op). result_type p 0) seen_outer ∙ is.typed in cc

  pub no_untyped : (test : Kind → Bool) → Some n ≡ nested_in test (body_ops b) (position_in b op) → None ≡ result_type (op_seen b o) 0 → ⊥
  no_untyped test nested none =
      let is = found_in test (body_ops b) (position_in b op) n nested in
      let clash : None ≡ Some is.type = none ∙ ap (λ (p : Op). result_type p 0) (seen_outer test is) ∙ is.typed in cc

  module _ (nested : Some n ≡ nested_in is_extract (body_ops b) (position_in b op)) where
    extract_found : IsFoundIn is_extract (body_ops b) (position_in b op) n
    extract_found = found_in is_extract (body_ops b) (position_in b op) n nested

    inner_extract : n.inner.kind ≡ extract (low_of n.inner.kind)
    inner_extract = extract_is n.inner.kind (inner_kind is_extract (body_ops b) (position_in b op) n extract_found)

    pub inner_types : length n.inner.types ≡ 2
    inner_types =
        extract_types b of n.position n.inner (inner_there is_extract (body_ops b) (position_in b op) n extract_found) (low_of n.inner.kind) inner_extract

    pub low_sum : low_of n.inner.kind + low_of (kind_of o.kind.now) ≤ 8192
    low_sum =
        let first = low_within b of n.position n.inner (inner_there is_extract (body_ops b) (position_in b op) n extract_found) (low_of n.inner.kind) inner_extract in
        let second = low_within b of (position_in b op) extract_found.outer extract_found.there (low_of extract_found.outer.kind) (extract_is extract_found.outer.kind extract_found.kind) in
        let same : low_of (kind_of o.kind.now) ≡ low_of extract_found.outer.kind = ap (λ (p : Op). low_of p.kind) (seen_outer is_extract extract_found) in
        omega (arith, first, second, same)

    pub extract_join : (t : HwType) → Some t ≡ result_type (op_seen b o) 0 → (new : NewOp)
        → new_seen b new ≡ new_op (op_seen b o) (extract (low_of n.inner.kind + low_of (kind_of o.kind.now))) n.inner.operands (nth_type n.inner.types 0 ∷ t ∷ []) t
        → IsJoin fold_extract_extract b (position_in b op) n.position new
    extract_join t typed new seen = record {
      edits = extract_pattern (body_ops b) (position_in b op) n extract_found
          ∙ ap (λ (p : Op). Some (replaced (position_in b op) p ∷ erased n.position undefined ∷ []))
          (sym (seen ∙ ap₂ (λ (p : Op) u. new_op p (extract (low_of n.inner.kind + low_of p.kind)) n.inner.operands (nth_type n.inner.types 0 ∷ u ∷ []) u)
          (seen_outer is_extract extract_found) (seen_type is_extract extract_found t typed)));
      takes = takes_inner is_extract (body_ops b) (position_in b op) n extract_found (new_seen b new) (ap (λ (p : Op). p.operands) seen);
    }

    pub extract_if : {E : Type 0} (r : Result NewOp E) (low : ℕ) (vs : List Value) (ts : List HwType) (t : HwType) → Some t ≡ result_type (op_seen b o) 0
        → low ≡ low_of n.inner.kind + low_of (kind_of o.kind.now) → map (value_ref b) vs ≡ n.inner.operands → ts ≡ nth_type n.inner.types 0 ∷ t ∷ []
        → IfOk r (λ new. (c : Body) → new_seen c new ≡ new_op (op_seen c o) (extract low) (map (value_ref c) vs) ts t)
        → IfOk r (IsJoin fold_extract_extract b (position_in b op) n.position)
    extract_if (Ok new) low vs ts t typed sum values types is =
        extract_join t typed new
        (is b
        ∙ ap (λ k. new_op (op_seen b o) (extract k) (map (value_ref b) vs) ts t) sum
        ∙ ap₂ (λ rs us. new_op (op_seen b o) (extract (low_of n.inner.kind + low_of (kind_of o.kind.now))) rs us t) values types)
    extract_if (Err e) low vs ts t typed sum values types is = tt

  module _ (nested : Some n ≡ nested_in is_concat (body_ops b) (position_in b op)) where
    concat_found : IsFoundIn is_concat (body_ops b) (position_in b op) n
    concat_found = found_in is_concat (body_ops b) (position_in b op) n nested

    pub number_within : n.number < length o.operands.now
    number_within =
        let within = slice_get_within concat_found.outer.operands n.number (result n.position 0) (first_nested_is is_concat (body_ops b) (position_in b op) concat_found.outer.operands n concat_found.found).named in
        let same : length (op_seen b o).operands ≡ length concat_found.outer.operands = ap (λ (p : Op). length p.operands) (seen_outer is_concat concat_found) in
        let many = length-map o.operands.now (value_ref b) in
        omega (arith, within, same, many)

    pub number_of_types : n.number < length (short_items o.types.now)
    number_of_types =
        let within = number_within in
        let same : length (types_in o.types.now) ≡ length concat_found.outer.types = ap (λ (p : Op). length p.types) (seen_outer is_concat concat_found) in
        let values : length (op_seen b o).operands ≡ length concat_found.outer.operands = ap (λ (p : Op). length p.operands) (seen_outer is_concat concat_found) in
        let many = length-map o.operands.now (value_ref b) in
        let all = length-map (short_items o.types.now) type_of in
        let written = concat_types b of (position_in b op) concat_found.outer concat_found.there (concat_is concat_found.outer.kind concat_found.kind) in
        omega (arith, within, same, values, many, all, written)

    pub concat_join : (t : HwType) → Some t ≡ result_type (op_seen b o) 0 → (new : NewOp)
        → new_seen b new ≡ new_op (op_seen b o) concat (splice n.number n.inner.operands (op_seen b o).operands) (splice n.number n.inner.types (op_seen b o).types) t
        → IsJoin fold_nested_concat b (position_in b op) n.position new
    concat_join t typed new seen = record {
      edits = concat_pattern (body_ops b) (position_in b op) n concat_found
          ∙ ap (λ (p : Op). Some (replaced (position_in b op) p ∷ erased n.position undefined ∷ [])) (sym same);
      takes = takes_spliced is_concat (body_ops b) (position_in b op) n concat_found (new_seen b new) (ap (λ (p : Op). p.operands) same);
    }
      where
        same : new_seen b new ≡ joined_concat concat_found.outer concat_found.type n
        same = seen ∙ ap₂ (λ (p : Op) u. joined_concat p u n) (seen_outer is_concat concat_found) (seen_type is_concat concat_found t typed)

    pub concat_if : {E : Type 0} (r : Result NewOp E) (vs inner : List Value) (ts : List HwType) (t : HwType) → Some t ≡ result_type (op_seen b o) 0
        → map (value_ref b) inner ≡ n.inner.operands → vs ≡ splice n.number inner o.operands.now → ts ≡ splice n.number n.inner.types (types_in o.types.now)
        → IfOk r (λ new. (c : Body) → new_seen c new ≡ new_op (op_seen c o) concat (map (value_ref c) vs) ts t)
        → IfOk r (IsJoin fold_nested_concat b (position_in b op) n.position)
    concat_if (Ok new) vs inner ts t typed own values types is =
        concat_join t typed new
        (is b
        ∙ ap₂ (λ rs us. new_op (op_seen b o) concat rs us t)
        (ap (map (value_ref b)) values ∙ map-splice (value_ref b) n.number inner o.operands.now ∙ ap (λ rs. splice n.number rs (map (value_ref b) o.operands.now)) own) types)
    concat_if (Err e) vs inner ts t typed own values types is = tt
