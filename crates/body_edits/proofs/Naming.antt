-- That nothing names an operation once another value stands for its first result.
use Rattle.std.proofs.Common.{◌≡◌, ℕ, zero, suc, Bool, true, false, cond, nat_eq, ◌&&◌, List, map, refl, sym, ap, ◌∙◌, eq-eqb}
use Rattle.std.specs.Prelude.{All}
use Rattle.std.proofs.lemmas.Bool.{eqb-true}
use Rattle.wiring.specs.Wiring.{In}
use Rattle.wiring.proofs.Members.{In-map, All-from_members}
use Rattle.hw_model.specs.Design.{Ref}
use Rattle.hw_model.specs.Design.Ref.{result}
use Rattle.ir_store.specs.declared.operation.OpId.{OpId}
use Rattle.ir_store.specs.declared.operation.Value.{Value}
use Rattle.ir_store.specs.declared.operation.Value.TheVariants.{Port, Result, Undefined}
use Rattle.ir_store.specs.BodyOps.{BodyOp, ids_in, all_replaced, same_value, replace_value, is_of, IsUnused}
use Rattle.ir_store.specs.Numbered.{position_of, ref_by, op_by, ops_by_position}
use Rattle.ir_store.proofs.Living.{all_mapped}
use Rattle.edit_laws.specs.Laws.{IsNotOf}
use Rattle.body_edits.specs.Replaceable.{IsNoFurther, HaveNoFurther}

-- a value is the first result of an operation where it is one of its results
abbrev pub IsFirstIf : OpId → Value → Type 0
IsFirstIf op v = is_of op.index v ≡ true → same_value (Result op 0) v ≡ true

-- so is each operand
abbrev pub AreFirstIf : OpId → List BodyOp → Type 0
AreFirstIf op ops = All (λ (o : BodyOp). All (IsFirstIf op) o.operands) ops

-- a value that stands for another one is no result of the operation
unnamed : (op : OpId) (x v : Value) → is_of op.index x ≡ false → IsFirstIf op v → is_of op.index (replace_value (Result op 0) x v) ≡ false
unnamed op x v other first = go (same_value (Result op 0) v) refl (is_of op.index v) refl
  where
    go : (b : Bool) → same_value (Result op 0) v ≡ b → (c : Bool) → is_of op.index v ≡ c → is_of op.index (cond b x v) ≡ false
    go true is c of = other
    go false is true of = let clash : true ≡ false = sym (first of) ∙ is in cc
    go false is false of = of

pub unused_replaced : (op : OpId) (x : Value) (ops : List BodyOp) → is_of op.index x ≡ false → AreFirstIf op ops → IsUnused op.index (all_replaced (Result op 0) x ops)
unused_replaced op x ops other first =
    all_mapped (λ (o : BodyOp). All (IsFirstIf op) o.operands) (λ (o : BodyOp). All (λ v. is_of op.index v ≡ false) o.operands)
    (λ (o : BodyOp). record o { operands = map (replace_value (Result op 0) x) o.operands })
    (λ o all. all_mapped (IsFirstIf op) (λ v. is_of op.index v ≡ false) (replace_value (Result op 0) x) (λ v h. unnamed op x v other h) o.operands all) ops first

-- ---- by positions

-- where values by positions are no further results, by ids they are first ones
pub first_values : (op : OpId) (ids : List ℕ) (vs : List Value) → ((r : Ref) → In r (map (ref_by (position_of ids)) vs) → IsNoFurther (position_of ids op.index) r) → All (IsFirstIf op) vs
first_values op ids vs none =
    All-from_members (IsFirstIf op) vs (λ v named. of_value v (none (ref_by (position_of ids) v) (In-map (ref_by (position_of ids)) v vs named)))
  where
    of_value : (v : Value) → ((k : ℕ) → ref_by (position_of ids) v ≡ result (position_of ids op.index) (suc k) → ⊥) → IsFirstIf op v
    of_value (Port n) none is = cc
    of_value Undefined none is = cc
    of_value (Result id zero) none is = ap (λ b. b && true) (eq-eqb op.index id.index (sym (eqb-true id.index op.index is)))
    of_value (Result id (suc k)) none is = absurd (none k (ap (λ n. result (position_of ids n) (suc k)) (eqb-true id.index op.index is)))

-- so are the operands of a body
pub first_named : (op : OpId) (ops : List BodyOp) → HaveNoFurther (position_of (ids_in ops) op.index) (ops_by_position ops) → AreFirstIf op ops
first_named op ops none =
    All-from_members (λ (o : BodyOp). All (IsFirstIf op) o.operands) ops
    (λ o here. first_values op (ids_in ops) o.operands (none (op_by (position_of (ids_in ops)) o) (In-map (op_by (position_of (ids_in ops))) o ops here)))

-- a value by positions that is no result of an operation is none by ids
pub other_value : (op : OpId) (x : Value) (ids : List ℕ) → IsNotOf (position_of ids op.index) (ref_by (position_of ids) x) → is_of op.index x ≡ false
other_value op (Port n) ids none = refl
other_value op Undefined ids none = refl
other_value op (Result id k) ids none = go (nat_eq id.index op.index) refl
  where
    go : (b : Bool) → nat_eq id.index op.index ≡ b → b ≡ false
    go true is = absurd (none k (ap (λ n. result (position_of ids n) k) (eqb-true id.index op.index is)))
    go false is = refl
