-- Patterns by which an operation becomes a constant, has other operands, takes another one in, or goes: none matches at an operation
-- that sees no more.
use Rattle.std.proofs.Common.{◌≡◌, ℕ, suc, Bool, true, false, cond, not, ◌&&◌, List, [], ◌∷◌, map, Option, Some, None, refl, sym, ap, ◌∙◌, inl, inr, option_and_then, option_map}
use Rattle.std.specs.Prelude.{is_some}
use Rattle.wiring.specs.Wiring.{In}
use Rattle.wiring.proofs.Options.{option_map_none}
use Rattle.bits_core.specs.Word.{Word, number, bit}
use Rattle.hw_model.specs.Types.{HwType}
use Rattle.hw_model.specs.Kinds.{Kind, Variadic}
use Rattle.hw_model.specs.Kinds.Division.{modu, mods}
use Rattle.hw_model.specs.Kinds.Shift.{shl, shru}
use Rattle.hw_model.specs.Kinds.Variadic.{add, mul, and, or, xor}
use Rattle.hw_model.specs.Kinds.Kind.{variadic, sub, division, shift, icmp, extract, concat}
use Rattle.hw_model.specs.Design.{Ref, Op, result_type}
use Rattle.hw_model.specs.Design.Ref.{undefined}
use Rattle.hw_model.specs.Value.{op_value}
use Rattle.edit_laws.specs.Edit.{retarget}
use Rattle.ir_store.specs.Positions.{same_ref}
use Rattle.fold_laws.specs.ConstantOperands.{constants_among, joined_number, with_joined, joining_edits, constant_last, fold_two_constants}
use Rattle.fold_laws.specs.Constants.{is_constant_where, is_zero, is_one, is_ones, shifts_out}
use Rattle.fold_laws.specs.Edits.Edit.{changed, replaced, erased, put_in}
use Rattle.fold_laws.specs.Evaluated.{is_comb, value_of_constants}
use Rattle.fold_laws.specs.Fewer.{Operands, with_fewer, by_operands, without_first_of_more, add_zero, or_zero, xor_zero, and_ones, mul_one, repeated_operand, xor_pair}
use Rattle.fold_laws.specs.Fold.{is_constant_in}
use Rattle.fold_laws.specs.Nested.{Nested, nested_at, one_later, first_or_later, first_nested, joined_operation, joined_concat, joined_extract, is_variadic, is_concat, is_extract, lowest_bit}
use Rattle.fold_laws.specs.Nested.{operand_edits, fold_nested_operand, extract_edits, fold_extract_extract, concat_edits, fold_nested_concat}
use Rattle.fold_laws.specs.Numbers.{Numbering, number_op, with_number, by_number, sub_self, xor_self, shift_out, rest_by_one, holds_of_equals, icmp_self}
use Rattle.fold_laws.specs.Unused.{is_pure, is_used, fold_unused}
use Rattle.fold_laws.proofs.NestedUses.{first_nested_is}
use Rattle.canonicalise.specs.Reach.{AreAlike, StaysQuiet}
use Rattle.canonicalise.proofs.Alike.{number_named, without_more_named, repeat_named, pair_more_named, last_named, constant_named, tests_alike, constants_named, among_named}

-- ---- numbers

-- the number is the same under other names
abbrev pub NumbersAlike : Numbering → Type 0
NumbersAlike numbering = (name : Ref → Ref) (os os' : List Op) (rs : List Ref) → AreAlike name os os' rs → (kind : Kind) (ts : List HwType) (t : HwType)
    → numbering os' kind ts t (map name rs) ≡ numbering os kind ts t rs

pub number_quiet : (numbering : Numbering) → NumbersAlike numbering → StaysQuiet (by_number numbering)
number_quiet numbering same os i os' i' s none =
    ap (λ z. option_and_then (λ (o : Op). option_and_then (with_number numbering os' i' o) (result_type o 0)) z) s.still
    ∙ go (result_type s.op 0) (sym (ap (λ z. option_and_then (λ (o : Op). option_and_then (with_number numbering os i o) (result_type o 0)) z) s.there) ∙ none)
  where
    go : (u : Option HwType) → option_and_then (with_number numbering os i s.op) u ≡ None → option_and_then (with_number numbering os' i' (retarget s.name s.op)) u ≡ None
    go None before = refl
    go (Some t) before =
        let quiet : numbering os s.op.kind s.op.types t s.op.operands ≡ None =
        option_map_none (λ (n : ℕ). replaced i (number_op n t s.op.location) ∷ []) (numbering os s.op.kind s.op.types t s.op.operands) before in
        ap (option_map (λ (n : ℕ). replaced i' (number_op n t s.op.location) ∷ [])) (same s.name os os' s.op.operands s.alike s.op.kind s.op.types t ∙ quiet)

pub sub_self_alike : NumbersAlike sub_self
sub_self_alike name os os' rs alike sub ts t = number_named name same_ref same_ref 0 rs alike.apart
sub_self_alike name os os' rs alike _ ts t = refl

pub xor_self_alike : NumbersAlike xor_self
xor_self_alike name os os' rs alike (variadic xor) ts t = number_named name same_ref same_ref 0 rs alike.apart
xor_self_alike name os os' rs alike _ ts t = refl

pub icmp_self_alike : NumbersAlike icmp_self
icmp_self_alike name os os' rs alike (icmp p) ts t = number_named name same_ref same_ref (bit (holds_of_equals p)) rs alike.apart
icmp_self_alike name os os' rs alike _ ts t = refl

-- where the second operand is a constant that meets a test
second_alike : (test : Word → Bool) (name : Ref → Ref) (os os' : List Op) (rs : List Ref) → AreAlike name os os' rs → (x y : Ref) → In x rs → In y rs
    → is_constant_where test os' (name y) ≡ is_constant_where test os y
second_alike test name os os' rs alike x y one two = tests_alike name os os' test rs alike y two

pub shift_out_alike : NumbersAlike shift_out
shift_out_alike name os os' rs alike (shift shl) ts t =
    number_named name (λ x y. is_constant_where shifts_out os y) (λ x y. is_constant_where shifts_out os' y) 0 rs (second_alike shifts_out name os os' rs alike)
shift_out_alike name os os' rs alike (shift shru) ts t =
    number_named name (λ x y. is_constant_where shifts_out os y) (λ x y. is_constant_where shifts_out os' y) 0 rs (second_alike shifts_out name os os' rs alike)
shift_out_alike name os os' rs alike _ ts t = refl

pub rest_by_one_alike : NumbersAlike rest_by_one
rest_by_one_alike name os os' rs alike (division modu) ts t =
    number_named name (λ x y. is_constant_where is_one os y) (λ x y. is_constant_where is_one os' y) 0 rs (second_alike is_one name os os' rs alike)
rest_by_one_alike name os os' rs alike (division mods) ts t =
    number_named name (λ x y. is_constant_where is_one os y) (λ x y. is_constant_where is_one os' y) 0 rs (second_alike is_one name os os' rs alike)
rest_by_one_alike name os os' rs alike _ ts t = refl

pub value_alike : NumbersAlike value_of_constants
value_alike name os os' rs alike kind ts t =
    ap (λ z. cond (is_comb kind) (option_map (λ (ws : List Word). number (op_value kind ts t 0 ws)) z) None) (constants_named name os os' rs alike)

-- ---- other operands

-- where operands stayed, they stay under other names
abbrev pub OperandsAlike : Operands → Type 0
OperandsAlike change = (name : Ref → Ref) (os os' : List Op) (rs : List Ref) → AreAlike name os os' rs → (v : Variadic) → change os v rs ≡ None → change os' v (map name rs) ≡ None

pub operands_quiet : (change : Operands) → OperandsAlike change → StaysQuiet (by_operands change)
operands_quiet change same os i os' i' s none =
    ap (λ z. option_and_then (λ (o : Op). with_fewer change os' i' o o.kind) z) s.still
    ∙ go s.op.kind (sym (ap (λ z. option_and_then (λ (o : Op). with_fewer change os i o o.kind) z) s.there) ∙ none)
  where
    go : (kind : Kind) → with_fewer change os i s.op kind ≡ None → with_fewer change os' i' (retarget s.name s.op) kind ≡ None
    go (variadic v) before =
        let quiet : change os v s.op.operands ≡ None = option_map_none (λ (rs : List Ref). changed i (record s.op { operands = rs }) ∷ []) (change os v s.op.operands) before in
        ap (option_map (λ (rs : List Ref). changed i' (record s.op { operands = rs }) ∷ [])) (same s.name os os' s.op.operands s.alike v quiet)
    go _ before = refl

-- from what is chosen under other names
none_named : (name : Ref → Ref) (o o' : Option (List Ref)) → o' ≡ option_map (map name) o → o ≡ None → o' ≡ None
none_named name o o' same none = same ∙ ap (option_map (map name)) none

module _ (test : Word → Bool) (name : Ref → Ref) (os os' : List Op) (rs : List Ref) (alike : AreAlike name os os' rs) where
  neutral_alike : without_first_of_more (is_constant_where test os) rs ≡ None
      → without_first_of_more (is_constant_where test os') (map name rs) ≡ None
  neutral_alike none = none_named name (without_first_of_more (is_constant_where test os) rs)
      (without_first_of_more (is_constant_where test os') (map name rs))
      (without_more_named name (is_constant_where test os) (is_constant_where test os') rs (tests_alike name os os' test rs alike)) none

pub add_zero_alike : OperandsAlike add_zero
add_zero_alike name os os' rs alike add none = neutral_alike is_zero name os os' rs alike none
add_zero_alike name os os' rs alike _ none = refl

pub or_zero_alike : OperandsAlike or_zero
or_zero_alike name os os' rs alike or none = neutral_alike is_zero name os os' rs alike none
or_zero_alike name os os' rs alike _ none = refl

pub xor_zero_alike : OperandsAlike xor_zero
xor_zero_alike name os os' rs alike xor none = neutral_alike is_zero name os os' rs alike none
xor_zero_alike name os os' rs alike _ none = refl

pub and_ones_alike : OperandsAlike and_ones
and_ones_alike name os os' rs alike and none = neutral_alike is_ones name os os' rs alike none
and_ones_alike name os os' rs alike _ none = refl

pub mul_one_alike : OperandsAlike mul_one
mul_one_alike name os os' rs alike mul none = neutral_alike is_one name os os' rs alike none
mul_one_alike name os os' rs alike _ none = refl

pub repeated_alike : OperandsAlike repeated_operand
repeated_alike name os os' rs alike and none = repeat_named name rs alike.apart ∙ ap (option_map (map name)) none
repeated_alike name os os' rs alike or none = repeat_named name rs alike.apart ∙ ap (option_map (map name)) none
repeated_alike name os os' rs alike _ none = refl

pub xor_pair_alike : OperandsAlike xor_pair
xor_pair_alike name os os' rs alike xor none = pair_more_named name rs alike.apart ∙ ap (option_map (map name)) none
xor_pair_alike name os os' rs alike _ none = refl

pub constant_last_alike : OperandsAlike constant_last
constant_last_alike name os os' rs alike v none =
    last_named name (is_constant_in os) (is_constant_in os') rs (λ x here. ap is_some (constant_named name os os' rs alike x here)) none

-- ---- constants that are joined

pub two_constants_quiet : StaysQuiet fold_two_constants
two_constants_quiet os i os' i' s none =
    ap (λ z. option_and_then (λ (o : Op). option_and_then (λ (t : HwType). joining_edits os' i' o t o.kind) (result_type o 0)) z) s.still
    ∙ go (result_type s.op 0) s.op.kind (sym (ap (λ z. option_and_then (λ (o : Op). option_and_then (λ (t : HwType). joining_edits os i o t o.kind) (result_type o 0)) z) s.there) ∙ none)
  where
    go : (u : Option HwType) (kind : Kind) → option_and_then (λ (t : HwType). joining_edits os i s.op t kind) u ≡ None
        → option_and_then (λ (t : HwType). joining_edits os' i' (retarget s.name s.op) t kind) u ≡ None
    go None kind before = refl
    go (Some t) (variadic v) before =
        let quiet : joined_number v (constants_among os s.op.operands) ≡ None =
        option_map_none (λ (n : ℕ). put_in i (number_op n t s.op.location) ∷ changed (suc i) (with_joined os i s.op) ∷ []) (joined_number v (constants_among os s.op.operands)) before in
        ap (option_map (λ (n : ℕ). put_in i' (number_op n t s.op.location) ∷ changed (suc i') (with_joined os' i' (retarget s.name s.op)) ∷ []))
        (ap (joined_number v) (among_named s.name os os' s.op.operands s.alike) ∙ quiet)
    go (Some t) _ before = refl

-- ---- operations that take others in

module _ (test : Kind → Bool) (name : Ref → Ref) (os os' : List Op) (i i' : ℕ) where
  -- where none of the operands' operations could be taken in, none can
  first_quiet : (rs : List Ref) → ((x : Ref) → In x rs → nested_at test os i x ≡ None → nested_at test os' i' (name x) ≡ None)
      → first_nested test os i rs ≡ None → first_nested test os' i' (map name rs) ≡ None
  first_quiet [] inner none = refl
  first_quiet (x ∷ xs) inner none =
      let both = split (nested_at test os i x) (first_nested test os i xs) none in
      ap (λ z. first_or_later z (first_nested test os' i' (map name xs))) (inner x (inl refl) both.0)
      ∙ ap (option_map one_later) (first_quiet xs (λ y here. inner y (inr here)) both.1)
    where
      split : (a b : Option Nested) → first_or_later a b ≡ None → (a ≡ None) × (b ≡ None)
      split (Some n) b is = cc
      split None b is = (refl, option_map_none one_later b is)

pub nested_operand_quiet : StaysQuiet fold_nested_operand
nested_operand_quiet os i os' i' s none =
    ap (λ z. option_and_then (λ (o : Op). operand_edits os' i' o o.kind) z) s.still
    ∙ go s.op.kind (sym (ap (λ z. option_and_then (λ (o : Op). operand_edits os i o o.kind) z) s.there) ∙ none)
  where
    go : (kind : Kind) → operand_edits os i s.op kind ≡ None → operand_edits os' i' (retarget s.name s.op) kind ≡ None
    go (variadic v) before =
        let quiet : first_nested (is_variadic v) os i s.op.operands ≡ None =
        option_map_none (λ (n : Nested). changed i (joined_operation s.op n) ∷ erased n.position undefined ∷ []) (first_nested (is_variadic v) os i s.op.operands) before in
        ap (option_map (λ (n : Nested). changed i' (joined_operation (retarget s.name s.op) n) ∷ erased n.position undefined ∷ []))
        (first_quiet (is_variadic v) s.name os os' i i' s.op.operands (s.inner (is_variadic v)) quiet)
    go _ before = refl

pub nested_concat_quiet : StaysQuiet fold_nested_concat
nested_concat_quiet os i os' i' s none =
    ap (λ z. option_and_then (λ (o : Op). option_and_then (concat_edits os' i' o o.kind) (result_type o 0)) z) s.still
    ∙ go (result_type s.op 0) s.op.kind (sym (ap (λ z. option_and_then (λ (o : Op). option_and_then (concat_edits os i o o.kind) (result_type o 0)) z) s.there) ∙ none)
  where
    go : (u : Option HwType) (kind : Kind) → option_and_then (concat_edits os i s.op kind) u ≡ None → option_and_then (concat_edits os' i' (retarget s.name s.op) kind) u ≡ None
    go None kind before = refl
    go (Some t) concat before =
        let quiet : first_nested is_concat os i s.op.operands ≡ None =
        option_map_none (λ (n : Nested). replaced i (joined_concat s.op t n) ∷ erased n.position undefined ∷ []) (first_nested is_concat os i s.op.operands) before in
        ap (option_map (λ (n : Nested). replaced i' (joined_concat (retarget s.name s.op) t n) ∷ erased n.position undefined ∷ []))
        (first_quiet is_concat s.name os os' i i' s.op.operands (s.inner is_concat) quiet)
    go (Some t) _ before = refl

pub extract_extract_quiet : StaysQuiet fold_extract_extract
extract_extract_quiet os i os' i' s none =
    ap (λ z. option_and_then (λ (o : Op). option_and_then (extract_edits os' i' o o.kind) (result_type o 0)) z) s.still
    ∙ go (result_type s.op 0) s.op.kind (sym (ap (λ z. option_and_then (λ (o : Op). option_and_then (extract_edits os i o o.kind) (result_type o 0)) z) s.there) ∙ none)
  where
    lowest : (kind : Kind) → is_extract kind ≡ true → lowest_bit kind ≡ None → ⊥
    lowest (extract low) is gone = cc
    lowest _ is gone = cc

    -- none is found, since what is found is an extract
    quiet : (low : ℕ) (t : HwType) (x : Option Nested) → first_nested is_extract os i s.op.operands ≡ x
        → option_and_then (λ (n : Nested). option_map (λ (m : ℕ). replaced i (joined_extract s.op t low n m) ∷ erased n.position undefined ∷ []) (lowest_bit n.inner.kind)) x ≡ None → x ≡ None
    quiet low t None found before = refl
    quiet low t (Some n) found before =
        absurd (lowest n.inner.kind (first_nested_is is_extract os i s.op.operands n found).kind
        (option_map_none (λ (m : ℕ). replaced i (joined_extract s.op t low n m) ∷ erased n.position undefined ∷ []) (lowest_bit n.inner.kind) before))

    go : (u : Option HwType) (kind : Kind) → option_and_then (extract_edits os i s.op kind) u ≡ None → option_and_then (extract_edits os' i' (retarget s.name s.op) kind) u ≡ None
    go None kind before = refl
    go (Some t) (extract low) before =
        ap (λ z. option_and_then (λ (n : Nested). option_map (λ (m : ℕ). replaced i' (joined_extract (retarget s.name s.op) t low n m) ∷ erased n.position undefined ∷ []) (lowest_bit n.inner.kind)) z)
        (first_quiet is_extract s.name os os' i i' s.op.operands (s.inner is_extract) (quiet low t (first_nested is_extract os i s.op.operands) refl before))
    go (Some t) _ before = refl

-- ---- operations that go

pub unused_quiet : StaysQuiet fold_unused
unused_quiet os i os' i' s none =
    ap (λ z. option_and_then (λ (o : Op). cond (is_pure o.kind && not (is_used i' os')) (Some (erased i' undefined ∷ [])) None) z) s.still
    ∙ go (is_pure s.op.kind) (is_used i os) refl (is_used i' os') refl
    (sym (ap (λ z. option_and_then (λ (o : Op). cond (is_pure o.kind && not (is_used i os)) (Some (erased i undefined ∷ [])) None) z) s.there) ∙ none)
  where
    go : (p u : Bool) → is_used i os ≡ u → (u' : Bool) → is_used i' os' ≡ u' → cond (p && not u) (Some (erased i undefined ∷ [])) None ≡ None
        → cond (p && not u') (Some (erased i' undefined ∷ [])) None ≡ None
    go false u is u' is' before = refl
    go true false is u' is' before = cc
    go true true is true is' before = refl
    go true true is false is' before = let clash : true ≡ false = sym is ∙ s.used is' in cc
