-- Operations that made an operand of another one, by ids and by positions.
use Rattle.std.proofs.Common.{◌≡◌, ℕ, zero, suc, ◌+◌, ◌<◌, Bool, true, false, cond, not, ◌&&◌, nat_eq, List, length, map, drop, get_or, Option, Some, None, slice_get, refl, sym, ap, ◌∙◌, arith, drop-cons, eq-eqb, option_and_then}
use Rattle.std.specs.Prelude.{option_map, Contains}
use Rattle.std.proofs.Math.Seq.{drop-length}
use Rattle.std.proofs.lemmas.Bool.{eqb-true}
use Rattle.hw_model.specs.Kinds.{Kind}
use Rattle.hw_model.specs.Kinds.Kind.{variadic, extract, concat}
use Rattle.hw_model.specs.Design.{Ref, Op}
use Rattle.ir_store.specs.declared.body.Body.{Body}
use Rattle.ir_store.specs.declared.body.Op.{Op as ReadOp}
use Rattle.ir_store.specs.declared.operation.OpId.{OpId}
use Rattle.ir_store.specs.declared.operation.Value.{Value}
use Rattle.ir_store.specs.declared.operation.Value.TheVariants.{Port, Result, Undefined}
use Rattle.ir_store.specs.Bodies.{ids_of, ops_of, read_op}
use Rattle.ir_store.specs.BodyOps.{op_at}
use Rattle.ir_store.specs.Numbered.{position_of}
use Rattle.ir_store.proofs.Numbering.{same-ref_by}
use Rattle.fold_laws.specs.Nested.{Nested, has_one_use, nested_result, nested_at, one_later, first_or_later, first_nested}
use Rattle.fold_laws.proofs.MadeKinds.{is_made}
use Rattle.body_edits.specs.declared.nested.InnerKind.{InnerKind}
use Rattle.body_edits.specs.declared.nested.InnerKind.TheVariants.{Variadic as VariadicKind, Extract, Concat}
use Rattle.body_edits.specs.FitBodies.{IsOfFit}
use Rattle.body_edits.specs.Nests.{kind_test, nested_seen, later}
use Rattle.body_edits.specs.Replaceable.{HaveNoFurther}
use Rattle.body_edits.specs.Views.{HasOp, body_ops, position_in, value_ref, op_seen}
use Rattle.body_edits.proofs.FitOps.{fit_no_further}
use Rattle.body_edits.proofs.ReadBodies.{op_seen_at, maker_none}

-- ---- kinds

-- kinds that pass a test have one result
pub kinds_made : (t : InnerKind) (k : Kind) → kind_test t k ≡ true → is_made k ≡ true
kinds_made (VariadicKind v) (variadic u) is = refl
kinds_made Extract (extract low) is = refl
kinds_made Concat concat is = refl
kinds_made (VariadicKind v) _ is = cc
kinds_made Extract _ is = cc
kinds_made Concat _ is = cc

-- in a fit design nothing names a further result of an operation of such a kind
pub inner_alone : (b : Body) (id : OpId) (o : ReadOp) (t : InnerKind) → IsOfFit b → op_at (ops_of b) id.index ≡ Some (read_op id o) → kind_test t (op_seen b o).kind ≡ true
    → HaveNoFurther (position_in b id) (body_ops b)
inner_alone b id o t of is kind = fit_no_further b of (position_in b id) (op_seen b o) (op_seen_at b id o is) (kinds_made t (op_seen b o).kind kind)

-- ---- an operation of an id

-- operations that are there are one by ids just where they are one by positions
same_position : (b : Body) (i j : OpId) → HasOp b i → HasOp b j → nat_eq (position_in b i) (position_in b j) ≡ nat_eq i.index j.index
unfolding position_in
same_position b i j here there = sym (and_true (nat_eq (position_of (ids_of b) i.index) (position_of (ids_of b) j.index))) ∙ sym (same-ref_by (ids_of b) (Result i 0) (Result j 0) here there) ∙ and_true (nat_eq i.index j.index)
  where
    and_true : (t : Bool) → t && true ≡ t
    and_true true = refl
    and_true false = refl

one_position : (b : Body) (i j : OpId) → i.index ≡ j.index → position_in b i ≡ position_in b j
unfolding position_in
one_position b i j same = ap (position_of (ids_of b)) same

module _ (b : Body) (op id : OpId) (t : InnerKind) (n : ℕ) where
  at_result : nested_at (kind_test t) (body_ops b) (position_in b op) (value_ref b (Result id 0)) ≡ option_and_then (nested_result (kind_test t) (body_ops b) (position_in b op) (position_in b id)) (slice_get (body_ops b) (position_in b id))
  unfolding value_ref position_in
  at_result = refl

  -- the operation itself
  pub own_nested : nat_eq id.index op.index ≡ true → None ≡ option_map (later n) (nested_at (kind_test t) (body_ops b) (position_in b op) (value_ref b (Result id 0)))
  own_nested same = sym (ap (option_map (later n)) (at_result ∙ go (slice_get (body_ops b) (position_in b id))))
    where
      position : nat_eq (position_in b id) (position_in b op) ≡ true
      position = eq-eqb (position_in b id) (position_in b op) (one_position b id op (eqb-true id.index op.index same))

      refused : (k : Bool) (u : Bool) (m : Nested) → cond (k && (not (nat_eq (position_in b id) (position_in b op)) && u)) (Some m) None ≡ None
      refused true u m = ap (λ e. cond (not e && u) (Some m) None) position
      refused false u m = refl

      go : (x : Option Op) → option_and_then (nested_result (kind_test t) (body_ops b) (position_in b op) (position_in b id)) x ≡ None
      go None = refl
      go (Some o) = refused (kind_test t o.kind) (has_one_use (body_ops b) (position_in b id)) (record { number = 0; position = position_in b id; inner = o })

  -- one that is not there
  pub absent_nested : (Contains (ids_of b) id.index → ⊥) → None ≡ option_map (later n) (nested_at (kind_test t) (body_ops b) (position_in b op) (value_ref b (Result id 0)))
  unfolding value_ref position_in
  absent_nested other = sym (ap (option_map (later n)) (at_result ∙ ap (λ x. option_and_then (nested_result (kind_test t) (body_ops b) (position_in b op) (position_in b id)) x) (maker_none b id other)))

  module _ (o : ReadOp) (is : op_at (ops_of b) id.index ≡ Some (read_op id o)) where
    at_op : nested_at (kind_test t) (body_ops b) (position_in b op) (value_ref b (Result id 0)) ≡ nested_result (kind_test t) (body_ops b) (position_in b op) (position_in b id) (op_seen b o)
    at_op = at_result ∙ ap (λ x. option_and_then (nested_result (kind_test t) (body_ops b) (position_in b op) (position_in b id)) x) (op_seen_at b id o is)

    refused : (kind_test t (op_seen b o).kind && (not (nat_eq (position_in b id) (position_in b op)) && has_one_use (body_ops b) (position_in b id))) ≡ false
        → None ≡ option_map (later n) (nested_at (kind_test t) (body_ops b) (position_in b op) (value_ref b (Result id 0)))
    refused met = sym (ap (option_map (later n)) (at_op ∙ ap (λ c. cond c (Some (record { number = 0; position = position_in b id; inner = op_seen b o })) None) met))

    -- one of another kind
    pub other_kind : kind_test t (op_seen b o).kind ≡ false → None ≡ option_map (later n) (nested_at (kind_test t) (body_ops b) (position_in b op) (value_ref b (Result id 0)))
    other_kind kind = refused (ap (λ k. k && (not (nat_eq (position_in b id) (position_in b op)) && has_one_use (body_ops b) (position_in b id))) kind)

    -- one of more uses, or of none
    pub other_uses : has_one_use (body_ops b) (position_in b id) ≡ false → None ≡ option_map (later n) (nested_at (kind_test t) (body_ops b) (position_in b op) (value_ref b (Result id 0)))
    other_uses uses = refused (go (kind_test t (op_seen b o).kind) (not (nat_eq (position_in b id) (position_in b op))))
      where
        go : (k m : Bool) → (k && (m && has_one_use (body_ops b) (position_in b id))) ≡ false
        go true true = uses
        go true false = refl
        go false m = refl

    -- one of one use
    pub found_nested : HasOp b id → HasOp b op → nat_eq id.index op.index ≡ false → kind_test t (op_seen b o).kind ≡ true → has_one_use (body_ops b) (position_in b id) ≡ true
        → Some (nested_seen b (record { number = n; id = id; op = o })) ≡ option_map (later n) (nested_at (kind_test t) (body_ops b) (position_in b op) (value_ref b (Result id 0)))
    found_nested here there other kind uses =
        ap (λ k. Some (record { number = k; position = position_in b id; inner = op_seen b o })) (omega arith)
        ∙ sym (ap (option_map (later n)) (at_op ∙ ap (λ c. cond c (Some (record { number = 0; position = position_in b id; inner = op_seen b o })) None) met))
      where
        met : (kind_test t (op_seen b o).kind && (not (nat_eq (position_in b id) (position_in b op)) && has_one_use (body_ops b) (position_in b id))) ≡ true
        met = rw (kind, same_position b id op here there, other, uses) refl

-- ---- values that are no first result

pub further_nested : (b : Body) (op : OpId) (t : InnerKind) (n : ℕ) (id : OpId) (k : ℕ) → nat_eq k 0 ≡ false → None ≡ option_map (later n) (nested_at (kind_test t) (body_ops b) (position_in b op) (value_ref b (Result id k)))
unfolding value_ref
further_nested b op t n id zero is = cc
further_nested b op t n id (suc k) is = refl

pub port_nested : (b : Body) (op : OpId) (t : InnerKind) (n k : ℕ) → None ≡ option_map (later n) (nested_at (kind_test t) (body_ops b) (position_in b op) (value_ref b (Port k)))
unfolding value_ref
port_nested b op t n k = refl

pub undefined_nested : (b : Body) (op : OpId) (t : InnerKind) (n : ℕ) → None ≡ option_map (later n) (nested_at (kind_test t) (body_ops b) (position_in b op) (value_ref b Undefined))
unfolding value_ref
undefined_nested b op t n = refl

-- ---- the first one

later_later : (n : ℕ) (x : Option Nested) → option_map (later n) (option_map one_later x) ≡ option_map (later (n + 1)) x
later_later n None = refl
later_later n (Some m) = ap (λ k. Some (record m { number = k })) (omega arith)

module _ (test : Kind → Bool) (os : List Op) (i : ℕ) (ref : Value → Ref) (vs : List Value) where
  pub first_start : first_nested test os i (map ref vs) ≡ option_map (later 0) (first_nested test os i (map ref (drop 0 vs)))
  first_start = go (first_nested test os i (map ref vs))
    where
      go : (x : Option Nested) → x ≡ option_map (later 0) x
      go None = refl
      go (Some m) = ap (λ k. Some (record m { number = k })) (omega arith)

  module _ (n : ℕ) (d : Value) (within : n < length vs) (before : first_nested test os i (map ref vs) ≡ option_map (later n) (first_nested test os i (map ref (drop n vs)))) where
    here : first_nested test os i (map ref vs) ≡ option_map (later n) (first_or_later (nested_at test os i (ref (get_or vs n d))) (first_nested test os i (map ref (drop (suc n) vs))))
    here = before ∙ ap (λ ws. option_map (later n) (first_nested test os i (map ref ws))) (drop-cons vs n d within)

    pub first_found : (m : Nested) → Some m ≡ option_map (later n) (nested_at test os i (ref (get_or vs n d))) → Some m ≡ first_nested test os i (map ref vs)
    first_found m is = go (nested_at test os i (ref (get_or vs n d))) is ∙ sym here
      where
        go : (x : Option Nested) → Some m ≡ option_map (later n) x → Some m ≡ option_map (later n) (first_or_later x (first_nested test os i (map ref (drop (suc n) vs))))
        go None is = cc
        go (Some k) is = is

    pub first_step : None ≡ option_map (later n) (nested_at test os i (ref (get_or vs n d))) → first_nested test os i (map ref vs) ≡ option_map (later (n + 1)) (first_nested test os i (map ref (drop (n + 1) vs)))
    first_step none =
        let next : suc n ≡ n + 1 = omega arith in
        here ∙ go (nested_at test os i (ref (get_or vs n d))) none
        ∙ ap (λ k. option_map (later (n + 1)) (first_nested test os i (map ref (drop k vs)))) next
      where
        go : (x : Option Nested) → None ≡ option_map (later n) x
            → option_map (later n) (first_or_later x (first_nested test os i (map ref (drop (suc n) vs)))) ≡ option_map (later (n + 1)) (first_nested test os i (map ref (drop (suc n) vs)))
        go None is = later_later n (first_nested test os i (map ref (drop (suc n) vs)))
        go (Some k) is = cc

  pub first_none : (k : ℕ) → k ≡ length vs → first_nested test os i (map ref vs) ≡ option_map (later k) (first_nested test os i (map ref (drop k vs))) → None ≡ first_nested test os i (map ref vs)
  first_none k end before =
      sym (before ∙ ap (λ ws. option_map (later k) (first_nested test os i (map ref ws))) (ap (λ j. drop j vs) end ∙ drop-length vs))
