-- What is known of the edits of a pattern: at which operations it matches, and which other operation it takes in.
use Rattle.std.proofs.Common.{◌≡◌, ◌⊎◌, ℕ, suc, ◌≤◌, Bool, true, false, cond, not, ◌&&◌, nat_eq, List, [], ◌∷◌, Some, None, slice_get, refl, sym, ap, subst, ◌∙◌, inl, inr, arith, option_and_then, option_map}
use Rattle.std.specs.Prelude.{⊤}
use Rattle.std.proofs.lemmas.Bool.{eqb-true}
use Rattle.wiring.specs.Wiring.{In}
use Rattle.wiring.proofs.Members.{In-slice_get}
use Rattle.wiring.proofs.Options.{and_then_some, option_map_some}
use Rattle.bits_core.specs.Word.{bit}
use Rattle.hw_model.specs.Types.{HwType}
use Rattle.hw_model.specs.Kinds.{Kind}
use Rattle.hw_model.specs.Kinds.Kind.{variadic, extract, concat}
use Rattle.hw_model.specs.Design.{Ref, Op, result_type}
use Rattle.hw_model.specs.Design.Ref.{result, undefined}
use Rattle.fold_laws.specs.ConstantOperands.{constants_among, joined_number, with_joined, joining_edits, fold_two_constants}
use Rattle.fold_laws.specs.Edits.{Edit, FoldPattern}
use Rattle.fold_laws.specs.Edits.Edit.{changed, replaced, erased, put_in}
use Rattle.fold_laws.specs.Fewer.{Operands, with_fewer, by_operands}
use Rattle.fold_laws.specs.Nested.{uses_among, use_count, Nested, splice, joined_operation, joined_concat, joined_extract, first_nested, is_variadic, is_concat, is_extract, lowest_bit, operand_edits}
use Rattle.fold_laws.specs.Nested.{fold_nested_operand, extract_edits, fold_extract_extract, concat_edits, fold_nested_concat}
use Rattle.fold_laws.specs.Numbers.{Numbering, number_op, with_number, by_number}
use Rattle.fold_laws.specs.Standing.{Stand, by_stand}
use Rattle.fold_laws.specs.Unused.{is_pure, is_result_of, is_used, fold_unused}
use Rattle.fold_laws.proofs.MadeKinds.{is_made}
use Rattle.fold_laws.proofs.NestedUses.{IsNested, uses-splice, first_nested_is}

-- an operation at position i that becomes o takes in that at position k, which made an operand of it and has no other use: what
-- that one uses, o uses as often at least
pub record IsTaken (os : List Op) (i k : ℕ) (o : Op) : Type 0 where
  pub outer : Op
  pub there : slice_get os i ≡ Some outer
  pub inner : Op
  pub inside : slice_get os k ≡ Some inner
  pub named : In (result k 0) outer.operands
  pub other : k ≡ i → ⊥
  pub once : use_count k os ≡ 1
  pub holds : (j : ℕ) → (j ≡ k → ⊥) → uses_among j inner.operands ≤ uses_among j o.operands

abbrev pub TakesIn : List Op → ℕ → List Edit → Type 0
TakesIn os i (changed j o ∷ erased k x ∷ []) = IsTaken os i k o
TakesIn os i (replaced j o ∷ erased k x ∷ []) = IsTaken os i k o
TakesIn os i _ = ⊤

-- the edits of a pattern at position i: the operation there has one result that others may use, or none is used
pub record IsShown (os : List Op) (i : ℕ) (es : List Edit) : Type 0 where
  pub alone : (o : Op) → slice_get os i ≡ Some o → (is_made o.kind ≡ true) ⊎ (is_used i os ≡ false)
  pub takes : TakesIn os i es

-- so are all edits that a pattern makes
abbrev pub ShowsEdits : FoldPattern → Type 0
ShowsEdits pattern = (os : List Op) (i : ℕ) (es : List Edit) → pattern os i ≡ Some es → IsShown os i es

-- ---- by kinds

-- the operation at a position is that one
of_one : (os : List Op) (i : ℕ) (o : Op) → slice_get os i ≡ Some o → is_made o.kind ≡ true → (p : Op) → slice_get os i ≡ Some p → (is_made p.kind ≡ true) ⊎ (is_used i os ≡ false)
of_one os i o there made p also = let same : o ≡ p = (let both : Some o ≡ Some p = sym there ∙ also in cc) in inl (subst (λ (z : Op). is_made z.kind ≡ true) same made)

pub stand_shown : (stand : Stand) → ((os : List Op) (kind : Kind) (ts : List HwType) (rs : List Ref) (x : Ref) → stand os kind ts rs ≡ Some x → is_made kind ≡ true) → ShowsEdits (by_stand stand)
stand_shown stand made os i es is =
    let found = and_then_some (slice_get os i) (λ (o : Op). option_map (λ (x : Ref). erased i x ∷ []) (stand os o.kind o.types o.operands)) is in
    let taken = option_map_some (λ (x : Ref). erased i x ∷ []) (stand os found.0.kind found.0.types found.0.operands) found.2 in
    record {
      alone = of_one os i found.0 found.1 (made os found.0.kind found.0.types found.0.operands taken.0 taken.1);
      takes = subst (TakesIn os i) taken.2 tt;
    }

pub number_shown : (numbering : Numbering) → ((os : List Op) (kind : Kind) (ts : List HwType) (t : HwType) (rs : List Ref) (n : ℕ) → numbering os kind ts t rs ≡ Some n → is_made kind ≡ true)
    → ShowsEdits (by_number numbering)
number_shown numbering made os i es is =
    let found = and_then_some (slice_get os i) (λ (o : Op). option_and_then (with_number numbering os i o) (result_type o 0)) is in
    let typed = and_then_some (result_type found.0 0) (with_number numbering os i found.0) found.2 in
    let given = option_map_some (λ (n : ℕ). replaced i (number_op n typed.0 found.0.location) ∷ []) (numbering os found.0.kind found.0.types typed.0 found.0.operands) typed.2 in
    record {
      alone = of_one os i found.0 found.1 (made os found.0.kind found.0.types typed.0 found.0.operands given.0 given.1);
      takes = subst (TakesIn os i) given.2 tt;
    }

pub operands_shown : (change : Operands) → ShowsEdits (by_operands change)
operands_shown change os i es is =
    let found = and_then_some (slice_get os i) (λ (o : Op). with_fewer change os i o o.kind) is in
    by_kind found.0 found.1 found.0.kind refl found.2
  where
    by_kind : (o : Op) → slice_get os i ≡ Some o → (kind : Kind) → o.kind ≡ kind → with_fewer change os i o kind ≡ Some es → IsShown os i es
    by_kind o there (variadic v) kind made =
        let given = option_map_some (λ (rs : List Ref). changed i (record o { operands = rs }) ∷ []) (change os v o.operands) made in
        record { alone = of_one os i o there (ap is_made kind); takes = subst (TakesIn os i) given.2 tt }
    by_kind o there _ kind made = cc

pub two_constants_shown : ShowsEdits fold_two_constants
two_constants_shown os i es is =
    let found = and_then_some (slice_get os i) (λ (o : Op). option_and_then (λ (t : HwType). joining_edits os i o t o.kind) (result_type o 0)) is in
    let typed = and_then_some (result_type found.0 0) (λ (t : HwType). joining_edits os i found.0 t found.0.kind) found.2 in
    by_kind found.0 found.1 typed.0 found.0.kind refl typed.2
  where
    by_kind : (o : Op) → slice_get os i ≡ Some o → (t : HwType) (kind : Kind) → o.kind ≡ kind → joining_edits os i o t kind ≡ Some es → IsShown os i es
    by_kind o there t (variadic v) kind made =
        let given = option_map_some (λ (n : ℕ). put_in i (number_op n t o.location) ∷ changed (suc i) (with_joined os i o) ∷ []) (joined_number v (constants_among os o.operands)) made in
        record { alone = of_one os i o there (ap is_made kind); takes = subst (TakesIn os i) given.2 tt }
    by_kind o there t _ kind made = cc

-- ---- operations that take others in

-- the first nested operation, in one that has its operands
taken : (test : Kind → Bool) (os : List Op) (i : ℕ) (o : Op) (n : Nested) (new : Op) → slice_get os i ≡ Some o → first_nested test os i o.operands ≡ Some n
    → ((j : ℕ) → (j ≡ n.position → ⊥) → uses_among j n.inner.operands ≤ uses_among j new.operands) → IsTaken os i n.position new
taken test os i o n new there is holds =
    let nested : IsNested test os i o.operands n = first_nested_is test os i o.operands n is in
    record {
      outer = o;
      there = there;
      inner = n.inner;
      inside = nested.there;
      named = In-slice_get (result n.position 0) o.operands n.number nested.named;
      other = nested.other;
      once = nested.once;
      holds = holds;
    }

-- a result of one operation is none of another one
other_result : (j k n : ℕ) → (j ≡ k → ⊥) → bit (is_result_of j (result k n)) ≡ 0
other_result j k n other = go (nat_eq k j) refl
  where
    go : (b : Bool) → nat_eq k j ≡ b → bit b ≡ 0
    go true is = absurd (other (sym (eqb-true k j is)))
    go false is = refl

spliced_hold : (test : Kind → Bool) (os : List Op) (i : ℕ) (rs : List Ref) (n : Nested) → first_nested test os i rs ≡ Some n
    → (j : ℕ) → (j ≡ n.position → ⊥) → uses_among j n.inner.operands ≤ uses_among j (splice n.number n.inner.operands rs)
spliced_hold test os i rs n is j other =
    let nested : IsNested test os i rs n = first_nested_is test os i rs n is in
    omega (arith, uses-splice j n.number n.inner.operands rs (result n.position 0) nested.named, other_result j n.position 0 other)

pub nested_operand_shown : ShowsEdits fold_nested_operand
nested_operand_shown os i es is =
    let found = and_then_some (slice_get os i) (λ (o : Op). operand_edits os i o o.kind) is in
    by_kind found.0 found.1 found.0.kind refl found.2
  where
    by_kind : (o : Op) → slice_get os i ≡ Some o → (kind : Kind) → o.kind ≡ kind → operand_edits os i o kind ≡ Some es → IsShown os i es
    by_kind o there (variadic v) kind made =
        let given = option_map_some (λ (n : Nested). changed i (joined_operation o n) ∷ erased n.position undefined ∷ []) (first_nested (is_variadic v) os i o.operands) made in
        record {
          alone = of_one os i o there (ap is_made kind);
          takes = subst (TakesIn os i) given.2
              (taken (is_variadic v) os i o given.0 (joined_operation o given.0) there given.1 (spliced_hold (is_variadic v) os i o.operands given.0 given.1));
        }
    by_kind o there _ kind made = cc

pub nested_concat_shown : ShowsEdits fold_nested_concat
nested_concat_shown os i es is =
    let found = and_then_some (slice_get os i) (λ (o : Op). option_and_then (concat_edits os i o o.kind) (result_type o 0)) is in
    let typed = and_then_some (result_type found.0 0) (concat_edits os i found.0 found.0.kind) found.2 in
    by_kind found.0 found.1 typed.0 found.0.kind refl typed.2
  where
    by_kind : (o : Op) → slice_get os i ≡ Some o → (t : HwType) (kind : Kind) → o.kind ≡ kind → concat_edits os i o kind t ≡ Some es → IsShown os i es
    by_kind o there t concat kind made =
        let given = option_map_some (λ (n : Nested). replaced i (joined_concat o t n) ∷ erased n.position undefined ∷ []) (first_nested is_concat os i o.operands) made in
        record {
          alone = of_one os i o there (ap is_made kind);
          takes = subst (TakesIn os i) given.2
              (taken is_concat os i o given.0 (joined_concat o t given.0) there given.1 (spliced_hold is_concat os i o.operands given.0 given.1));
        }
    by_kind o there t _ kind made = cc

pub extract_extract_shown : ShowsEdits fold_extract_extract
extract_extract_shown os i es is =
    let found = and_then_some (slice_get os i) (λ (o : Op). option_and_then (extract_edits os i o o.kind) (result_type o 0)) is in
    let typed = and_then_some (result_type found.0 0) (extract_edits os i found.0 found.0.kind) found.2 in
    by_kind found.0 found.1 typed.0 found.0.kind refl typed.2
  where
    by_kind : (o : Op) → slice_get os i ≡ Some o → (t : HwType) (kind : Kind) → o.kind ≡ kind → extract_edits os i o kind t ≡ Some es → IsShown os i es
    by_kind o there t (extract low) kind made =
        let one = and_then_some (first_nested is_extract os i o.operands)
        (λ (n : Nested). option_map (λ (m : ℕ). replaced i (joined_extract o t low n m) ∷ erased n.position undefined ∷ []) (lowest_bit n.inner.kind)) made in
        let given = option_map_some (λ (m : ℕ). replaced i (joined_extract o t low one.0 m) ∷ erased one.0.position undefined ∷ []) (lowest_bit one.0.inner.kind) one.2 in
        record {
          alone = of_one os i o there (ap is_made kind);
          takes = subst (TakesIn os i) given.2
              (taken is_extract os i o one.0 (joined_extract o t low one.0 given.0) there one.1 (λ j other. omega arith));
        }
    by_kind o there t _ kind made = cc

-- ---- operations that go

pub unused_shown : ShowsEdits fold_unused
unused_shown os i es is =
    let found = and_then_some (slice_get os i) (λ (o : Op). cond (is_pure o.kind && not (is_used i os)) (Some (erased i undefined ∷ [])) None) is in
    go (is_pure found.0.kind) (is_used i os) refl found.2
  where
    go : (p u : Bool) → is_used i os ≡ u → cond (p && not u) (Some (erased i undefined ∷ [])) None ≡ Some es → IsShown os i es
    go true false none made =
        let same : erased i undefined ∷ [] ≡ es = cc in
        record { alone = λ o there. inr none; takes = subst (TakesIn os i) same tt }
    go true true none made = cc
    go false u none made = cc
