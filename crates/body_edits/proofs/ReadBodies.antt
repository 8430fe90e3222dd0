-- What is read of a body by ids is what stands at positions.
use Rattle.std.proofs.Common.{◌≡◌, ℕ, zero, suc, ℤ, Bool, true, false, cond, nat_eq, List, [], ◌∷◌, Option, Some, None, slice_get, refl, sym, subst}
use Rattle.std.specs.Prelude.{All, Contains, option_map}
use Rattle.std.specs.List.{AllByRecursion}
use Rattle.std.proofs.lemmas.List.Elements.{recursion_from_All}
use Rattle.std.proofs.lemmas.Bool.{eqb-false}
use Rattle.hw_model.specs.Types.{HwType}
use Rattle.hw_model.specs.Types.HwType.{int}
use Rattle.hw_model.specs.Kinds.{Kind}
use Rattle.hw_model.specs.Kinds.Kind.{constant}
use Rattle.hw_model.specs.KindViews.{kind_of}
use Rattle.hw_model.specs.Design.{Ref, Op, OpResult}
use Rattle.hw_model.specs.Design.Ref.{port, result, undefined}
use Rattle.ir_store.specs.declared.body.Body.{Body}
use Rattle.ir_store.specs.declared.body.Op.{Op as ReadOp}
use Rattle.ir_store.specs.declared.operation.OpId.{OpId}
use Rattle.ir_store.specs.declared.operation.Value.{Value}
use Rattle.ir_store.specs.declared.operation.Value.TheVariants.{Port, Result, Undefined}
use Rattle.ir_store.specs.Bodies.{ids_of, ops_of, read_op}
use Rattle.ir_store.specs.BodyOps.{BodyOp, op_at}
use Rattle.ir_store.specs.Live.{IsLive, HasLive, AreLive}
use Rattle.ir_store.specs.OperationViews.{results_in}
use Rattle.ir_store.specs.Numbered.{position_of, op_by}
use Rattle.fold_laws.specs.Constants.{first_result_word, constant_at}
use Rattle.fold_laws.specs.Parts.{maker}
use Rattle.body_edits.specs.Readable.{IsWidth, IsReadable, MayBeWord}
use Rattle.body_edits.specs.Views.{body_ops, position_in, value_ref, op_seen}
use Rattle.body_edits.proofs.Positions.{op_at_position, none_at_position}

-- an operation that is read of a body
pub op_seen_at : (b : Body) (id : OpId) (o : ReadOp) → op_at (ops_of b) id.index ≡ Some (read_op id o) → slice_get (body_ops b) (position_in b id) ≡ Some (op_seen b o)
unfolding body_ops position_in value_ref
op_seen_at b id o is = op_at_position (op_by (position_of (ids_of b))) id.index (ops_of b) (read_op id o) is

-- the maker of a result
pub maker_seen : (b : Body) (id : OpId) (o : ReadOp) → op_at (ops_of b) id.index ≡ Some (read_op id o) → maker (body_ops b) (value_ref b (Result id 0)) ≡ Some (op_seen b o)
unfolding body_ops position_in value_ref
maker_seen b id o is = op_at_position (op_by (position_of (ids_of b))) id.index (ops_of b) (read_op id o) is

-- that of an operation that is not there
pub maker_none : (b : Body) (id : OpId) → (Contains (ids_of b) id.index → ⊥) → maker (body_ops b) (value_ref b (Result id 0)) ≡ None
unfolding body_ops position_in value_ref
maker_none b id other = none_at_position (op_by (position_of (ids_of b))) id.index (ops_of b) other

-- what is no first result has none
pub maker_port : (b : Body) (n : ℕ) → None ≡ maker (body_ops b) (value_ref b (Port n))
unfolding value_ref
maker_port b n = refl

pub maker_undefined : (b : Body) → None ≡ maker (body_ops b) (value_ref b Undefined)
unfolding value_ref
maker_undefined b = refl

pub maker_further : (b : Body) (id : OpId) (n : ℕ) → nat_eq n 0 ≡ false → None ≡ maker (body_ops b) (value_ref b (Result id n))
unfolding value_ref
maker_further b id zero is = absurd (eqb-false 0 0 is refl)
maker_further b id (suc n) is = refl

-- a constant is what its maker says
pub constant_made : (os : List Op) (r : Ref) → constant_at os r ≡ first_result_word (maker os r)
constant_made os (port n) = refl
constant_made os undefined = refl
constant_made os (result j zero) = refl
constant_made os (result j (suc k)) = refl

-- ---- operands

found : (P : BodyOp → Type 0) (id : ℕ) (ops : List BodyOp) (o : BodyOp) → All P ops → op_at ops id ≡ Some o → P o
found P id ops o all = go ops (recursion_from_All P ops all)
  where
    step : (p : BodyOp) (x : Option BodyOp) → P p → (x ≡ Some o → P o) → (b : Bool) → cond b (Some p) x ≡ Some o → P o
    step p x h more true e = let same : p ≡ o = cc in subst P same h
    step p x h more false e = more e

    go : (ps : List BodyOp) → AllByRecursion P ps → op_at ps id ≡ Some o → P o
    go = elim [ [] ↦ λ h e. cc | p ∷ (ps → more) ↦ λ h. step p _ h.0 (more h.1) (nat_eq p.id id) ]

-- the operands of an operation that is read are those of operations that are there
pub op_live : (b : Body) (id : OpId) (o : ReadOp) → AreLive (ops_of b) → op_at (ops_of b) id.index ≡ Some (read_op id o) → All (IsLive (ids_of b)) o.operands.now
op_live b id o live is = found (HasLive (ids_of b)) id.index (ops_of b) (read_op id o) live is

-- ---- constants

-- a maker stands at a position
made_at : (os : List Op) (r : Ref) (o : Op) → maker os r ≡ Some o → (j : ℕ) × (slice_get os j ≡ Some o)
made_at os (port n) o is = cc
made_at os undefined o is = cc
made_at os (result j zero) o is = (j, is)
made_at os (result j (suc k)) o is = cc

word_for : (k : Kind) (t : Option HwType) → ((z : ℤ) (w : ℕ) → k ≡ constant z → t ≡ Some (int w) → IsWidth w) → MayBeWord k t
word_for (constant z) (Some (int w)) h = h z w refl refl
word_for _ _ h = tt

-- the maker of a value of a body that may be read is a word where it is a constant of an integer type
pub maker_word : (b : Body) (v : Value) (o : ReadOp) → IsReadable b → Some (op_seen b o) ≡ maker (body_ops b) (value_ref b v)
    → MayBeWord (kind_of o.kind.now) (option_map (λ (r : OpResult). r.type) (slice_get (results_in o.results.now) 0))
maker_word b v o readable is =
    let there = made_at (body_ops b) (value_ref b v) (op_seen b o) (sym is) in
    word_for (kind_of o.kind.now) (option_map (λ (r : OpResult). r.type) (slice_get (results_in o.results.now) 0)) (λ z w kind type. readable.words there.0 (op_seen b o) z w there.1 kind type)
