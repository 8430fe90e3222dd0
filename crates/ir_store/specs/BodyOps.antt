-- The operations of a body, each with its id, in text order.
use Rattle.std.specs.Prelude.{◌≡◌, All, Bool, true, ℕ, suc, ◌<◌, length, IfSome, false, cond, ◌&&◌, nat_eq, List, [], ◌∷◌, ◌++◌, Option, Some, None, map, find, ◌≤◌, slice_index_or}
use Rattle.hw_model.specs.Kinds.Kind.{output}
use Rattle.ir_store.specs.declared.operation.OpId.{OpId}
use Rattle.ir_store.specs.declared.operation.Value.{Value}
use Rattle.ir_store.specs.declared.operation.Value.TheVariants.{Port, Result, Undefined}
use Rattle.ir_store.specs.declared.operation.NewOp.{NewOp}
use Rattle.ir_store.specs.OperationViews.{OpParts, new_parts}

-- an operation with its id; an operand that is a result names its operation by the id
pub record BodyOp : Type 0 where
  pub id : ℕ
  pub parts : OpParts
  pub operands : List Value

-- the parts of an operation that is not there
abbrev pub no_parts : OpParts
no_parts = record {
  kind = output;
  types = [];
  results = [];
  named = 0;
  name = [];
  dictionary = [];
  bin = false;
  location = record { line = 1; col = 1 };
}

-- the operation of an id, where the parts and the operands stand by ids
abbrev pub stored_op : List OpParts → List (List Value) → ℕ → BodyOp
stored_op parts lists id = record { id = id; parts = slice_index_or parts id no_parts; operands = slice_index_or lists id [] }

-- an operation that is put in under an id
abbrev pub as_new : OpId → NewOp → BodyOp
as_new id o = record { id = id.index; parts = new_parts o; operands = o.operands.items }

-- the ids of operations
abbrev pub ids_in : List BodyOp → List ℕ
ids_in ops = map (λ (o : BodyOp). o.id) ops

-- the operation of an id
abbrev pub op_at : List BodyOp → ℕ → Option BodyOp
op_at ops id = find (λ (o : BodyOp). nat_eq o.id id) ops

-- an operation put before the named one, or at the end
abbrev pub put_before : Option OpId → BodyOp → List BodyOp → List BodyOp
put_before None o ops = ops ++ o ∷ []
put_before (Some b) o [] = o ∷ []
put_before (Some b) o (p ∷ ops) = cond (nat_eq p.id b.index) (o ∷ p ∷ ops) (p ∷ put_before (Some b) o ops)

-- the position of the named id among ids, or the position after the last
abbrev pub position_before : Option OpId → List ℕ → ℕ
position_before None ids = length ids
position_before (Some b) [] = 0
position_before (Some b) (i ∷ ids) = cond (nat_eq i b.index) 0 (suc (position_before (Some b) ids))

-- a change of the operands of the operation of an id alone
abbrev pub operands_at : ℕ → (List Value → List Value) → List BodyOp → List BodyOp
operands_at id f ops = map (λ (o : BodyOp). cond (nat_eq o.id id) (record o { operands = f o.operands }) o) ops

-- the operation of an id has so many operands, and more
abbrev pub HasOperand : List BodyOp → ℕ → ℕ → Type 0
HasOperand ops id k = IfSome (op_at ops id) (λ o. k < length o.operands)

-- whether two operands are the same
abbrev pub same_value : Value → Value → Bool
same_value (Port m) (Port n) = nat_eq m n
same_value (Result i m) (Result j n) = nat_eq i.index j.index && nat_eq m n
same_value Undefined Undefined = true
same_value _ _ = false

-- an operand, where one value stands for another
abbrev pub replace_value : Value → Value → Value → Value
replace_value from to v = cond (same_value from v) to v

-- the operations with one value in the place of another
abbrev pub all_replaced : Value → Value → List BodyOp → List BodyOp
all_replaced from to ops = map (λ (o : BodyOp). record o { operands = map (replace_value from to) o.operands }) ops

-- the operations without that of an id
abbrev pub taken_out : ℕ → List BodyOp → List BodyOp
taken_out id [] = []
taken_out id (o ∷ ops) = cond (nat_eq o.id id) ops (o ∷ taken_out id ops)

-- whether an operand is a result of the operation of an id
abbrev pub is_of : ℕ → Value → Bool
is_of id (Port n) = false
is_of id (Result i k) = nat_eq i.index id
is_of id Undefined = false

-- no operand is a result of the operation of an id
abbrev pub IsUnused : ℕ → List BodyOp → Type 0
IsUnused id ops = All (λ (o : BodyOp). All (λ v. is_of id v ≡ false) o.operands) ops

-- how many operands the operation of an id has
abbrev pub operand_count : ℕ → List BodyOp → ℕ
operand_count id [] = 0
operand_count id (o ∷ ops) = cond (nat_eq o.id id) (length o.operands) (operand_count id ops)

-- the operation of an id has a position for one more operand before operand `k`, or after the last
abbrev pub HasPosition : List BodyOp → ℕ → ℕ → Type 0
HasPosition ops id k = IfSome (op_at ops id) (λ o. k ≤ length o.operands)

-- whether some operand is a result of the operation of an id
abbrev pub names_in : ℕ → List Value → Bool
names_in id [] = false
names_in id (x ∷ xs) = cond (is_of id x) true (names_in id xs)

abbrev pub is_named : ℕ → List BodyOp → Bool
is_named id [] = false
is_named id (o ∷ ops) = cond (names_in id o.operands) true (is_named id ops)
