-- Bodies in which the operands of one operation change.
use Rattle.std.proofs.Common.{◌≡◌, ℕ, zero, suc, ◌<◌, Bool, true, false, cond, nat_eq, List, [], ◌∷◌, length, map, take, drop, set, get_or, Option, Some, None, slice_get, refl, sym, ap, subst, ◌∙◌, arith, option_and_then}
use Rattle.std.specs.Prelude.{Contains, insert, remove, is_some, option_map, IfSome}
use Rattle.std.proofs.Math.ListN.{get_or-map}
use Rattle.std.proofs.lemmas.Bool.{eqb-false}
use Rattle.std.proofs.lemmas.List.{length-map, length-append, length-take, length-drop}
use Rattle.hw_model.specs.Design.{Ref, Op}
use Rattle.hw_model.specs.Kinds.{Kind}
use Rattle.hw_model.specs.Kinds.Kind.{variadic}
use Rattle.ir_store.specs.declared.body.Body.{Body}
use Rattle.ir_store.specs.declared.operation.OpId.{OpId}
use Rattle.ir_store.specs.declared.operation.Value.{Value}
use Rattle.ir_store.specs.Bodies.{ids_of, ops_of}
use Rattle.ir_store.specs.BodyOps.{BodyOp, ids_in, op_at, operands_at, HasOperand}
use Rattle.ir_store.specs.Numbered.{position_of, ref_by, op_by, ops_by_position}
use Rattle.ir_store.specs.Positions.{with_operands}
use Rattle.ir_store.proofs.BodyLemmas.{ids_once}
use Rattle.ir_store.proofs.Living.{ids_stay}
use Rattle.ir_store.proofs.Numbering.{numbered-insert, numbered-drop}
use Rattle.fold_laws.specs.Edits.Edit.{changed}
use Rattle.fold_laws.specs.Fewer.{Operands, with_fewer, by_operands}
use Rattle.body_edits.specs.declared.operands.OperandEdit.{OperandEdit}
use Rattle.body_edits.specs.declared.operands.OperandEdit.TheVariants.{Drop, DropBoth, MoveLast}
use Rattle.body_edits.specs.Folded.{IsFolded}
use Rattle.body_edits.specs.OperandEdits.{operands_after, operands_there, changed_operands, changed_there, IsOperandEdit}
use Rattle.body_edits.specs.Views.{HasOp, body_ops, position_in, value_ref}
use Rattle.body_edits.proofs.FreshIds.{fresh_id}
use Rattle.body_edits.proofs.LastValues.{end_moved}
use Rattle.body_edits.proofs.OperandChanges.{with_operands_set}
use Rattle.body_edits.proofs.Positions.{op_at_position}

-- ---- operands of the operation at a position

-- one change after another
operands_twice : (i : ℕ) (f g : List Ref → List Ref) (os : List Op) → with_operands i f (with_operands i g os) ≡ with_operands i (λ rs. f (g rs)) os
operands_twice i f g [] = refl
operands_twice zero f g (o ∷ os) = refl
operands_twice (suc i) f g (o ∷ os) = ap (λ xs. o ∷ xs) (operands_twice i f g os)

-- two changes that do the same to its operands
operands_alike : (i : ℕ) (f g : List Ref → List Ref) (os : List Op) (o : Op) → slice_get os i ≡ Some o → f o.operands ≡ g o.operands → with_operands i f os ≡ with_operands i g os
operands_alike i f g os o there same = with_operands_set i f os o there ∙ ap (λ (rs : List Ref). set os i (record o { operands = rs })) same ∙ sym (with_operands_set i g os o there)

-- ---- an operation that is there

pub op_there : (ops : List BodyOp) (id : ℕ) → Contains (ids_in ops) id → (o : BodyOp) × (op_at ops id ≡ Some o)
op_there [] id (k, l, e) = absurd (omega (arith, l))
op_there (p ∷ ops) id there = go (nat_eq p.id id) refl there (op_there ops id)
  where
    go : (b : Bool) → nat_eq p.id id ≡ b → Contains (p.id ∷ ids_in ops) id → (Contains (ids_in ops) id → (o : BodyOp) × (op_at ops id ≡ Some o)) → (o : BodyOp) × (cond b (Some p) (op_at ops id) ≡ Some o)
    go true is there rest = (p, refl)
    go false is (zero, l, e) rest = absurd (eqb-false p.id id is e)
    go false is (suc k, l, e) rest = rest (k, omega (arith, l), e)

-- its operands by positions
pub operands_seen : (b : Body) (op : OpId) (o : BodyOp) → op_at (ops_of b) op.index ≡ Some o → slice_get (body_ops b) (position_in b op) ≡ Some (op_by (position_of (ids_of b)) o)
unfolding body_ops position_in
operands_seen b op o is = op_at_position (op_by (position_of (ids_of b))) op.index (ops_of b) o is

-- an operand by positions is one by ids
pub has_operand : (b : Body) (op : OpId) (k : ℕ) → HasOp b op → k < length (operands_there (slice_get (body_ops b) (position_in b op))) → HasOperand (ops_of b) op.index k
has_operand b op k there within =
    let one = op_there (ops_of b) op.index there in
    let seen = ap (λ x. length (operands_there x)) (operands_seen b op one.0 one.1) in
    let same = length-map one.0.operands (ref_by (position_of (ids_of b))) in
    let below : k < length one.0.operands = omega (arith, within, seen, same) in
    subst (λ (x : Option BodyOp). IfSome x (λ (o : BodyOp). k < length o.operands)) (sym one.1) below

-- the operation of an id whose operands changed
pub changed_op : (id : ℕ) (f : List Value → List Value) (ops : List BodyOp) → op_at (operands_at id f ops) id ≡ option_map (λ (o : BodyOp). record o { operands = f o.operands }) (op_at ops id)
changed_op id f [] = refl
changed_op id f (o ∷ ops) = go (nat_eq o.id id) refl (changed_op id f ops)
  where
    go : (b : Bool) → nat_eq o.id id ≡ b → op_at (operands_at id f ops) id ≡ option_map (λ (p : BodyOp). record p { operands = f p.operands }) (op_at ops id)
        → op_at (cond b (record o { operands = f o.operands }) o ∷ operands_at id f ops) id ≡ option_map (λ (p : BodyOp). record p { operands = f p.operands }) (cond b (Some o) (op_at ops id))
    go true is rest = ap (λ c. cond c (Some (record o { operands = f o.operands })) (op_at (operands_at id f ops) id)) is
    go false is rest = ap (λ c. cond c (Some o) (op_at (operands_at id f ops) id)) is ∙ rest

-- it still has an operand
pub operand_stays : (b b' : Body) (op : OpId) (f : List Value → List Value) (k n : ℕ) → ops_of b' ≡ operands_at op.index f (ops_of b)
    → ((xs : List Value) → n < length xs → k < length (f xs)) → HasOperand (ops_of b) op.index n → HasOperand (ops_of b') op.index k
operand_stays b b' op f k n is keeps has =
    subst (λ (x : Option BodyOp). IfSome x (λ (o : BodyOp). k < length o.operands)) (sym (ap (λ ops. op_at ops op.index) is ∙ changed_op op.index f (ops_of b))) (go (op_at (ops_of b) op.index) has)
  where
    go : (x : Option BodyOp) → IfSome x (λ (o : BodyOp). n < length o.operands) → IfSome (option_map (λ (o : BodyOp). record o { operands = f o.operands }) x) (λ (o : BodyOp). k < length o.operands)
    go None h = tt
    go (Some o) h = keeps o.operands h

-- a list with one more value has each position that it had
pub longer : {A : Type 0} (xs : List A) (n : ℕ) (x : A) (k : ℕ) → k < length xs → k < length (insert xs n x)
longer xs n x k within = omega (arith, within, length-append (take n xs) (x ∷ drop n xs), length-take n xs, length-drop n xs)

pub op_stays : (b b' : Body) (op : OpId) (f : List Value → List Value) → ops_of b' ≡ operands_at op.index f (ops_of b) → HasOp b op → HasOp b' op
op_stays b b' op f is there = subst (λ ids. Contains ids op.index) (sym (ap ids_in is ∙ ids_stay op.index f (ops_of b))) there

-- ---- edits

pub one_dropped : (b b' : Body) (op : OpId) (k : ℕ) → HasOp b op → ops_of b' ≡ operands_at op.index (λ xs. remove xs k) (ops_of b) → IsOperandEdit (Drop k) b b' (position_in b op)
unfolding body_ops position_in
one_dropped b b' op k there is = record {
  ops = ap ops_by_position is ∙ numbered-drop op.index k (ops_of b) (ids_once b) there;
  ids = ap ids_in is ∙ ids_stay op.index (λ xs. remove xs k) (ops_of b);
}

-- the position of an operation where the ids stay
pub same_position : (b b' : Body) (op : OpId) → ids_of b' ≡ ids_of b → position_in b' op ≡ position_in b op
unfolding position_in
same_position b b' op is = ap (λ ids. position_of ids op.index) is

-- an operand goes after another change
pub then_dropped : (b b' b'' : Body) (op : OpId) (k : ℕ) (g : List Ref → List Ref) → HasOp b' op → body_ops b' ≡ with_operands (position_in b op) g (body_ops b) → ids_of b' ≡ ids_of b
    → ops_of b'' ≡ operands_at op.index (λ xs. remove xs k) (ops_of b') → body_ops b'' ≡ with_operands (position_in b op) (λ rs. remove (g rs) k) (body_ops b)
then_dropped b b' b'' op k g there first ids is =
    (one_dropped b' b'' op k there is).ops
    ∙ ap (λ i. with_operands i (λ rs. remove rs k) (body_ops b')) (same_position b b' op ids)
    ∙ ap (with_operands (position_in b op) (λ rs. remove rs k)) first
    ∙ operands_twice (position_in b op) (λ rs. remove rs k) g (body_ops b)

pub both_dropped : (b b' b'' : Body) (op : OpId) (i j : ℕ) → HasOp b op → ops_of b' ≡ operands_at op.index (λ xs. remove xs j) (ops_of b)
    → ops_of b'' ≡ operands_at op.index (λ xs. remove xs i) (ops_of b') → IsOperandEdit (DropBoth i j) b b'' (position_in b op)
both_dropped b b' b'' op i j there first second =
    let one = one_dropped b b' op j there first in
    let still = op_stays b b' op (λ xs. remove xs j) first there in
    record {
      ops = then_dropped b b' b'' op i (λ rs. remove rs j) still one.ops one.ids second;
      ids = (one_dropped b' b'' op i still second).ids ∙ one.ids;
    }

-- an operand is put in
one_inserted : (b b' : Body) (op : OpId) (n : ℕ) (x : Value) → HasOp b op → ops_of b' ≡ operands_at op.index (λ xs. insert xs n x) (ops_of b)
    → body_ops b' ≡ with_operands (position_in b op) (λ rs. insert rs n (value_ref b x)) (body_ops b)
unfolding body_ops position_in value_ref
one_inserted b b' op n x there is = ap ops_by_position is ∙ numbered-insert op.index n x (ops_of b) (ids_once b) there

move_seen : (f : Value → Ref) (xs : List Value) (k n : ℕ) (d : Value) → n ≡ length xs → k < length xs → remove (insert (map f xs) n (f (get_or xs k d))) k ≡ operands_after (MoveLast k) (map f xs)
move_seen f xs k n d end within =
    let count = length-map xs f in
    ap (λ x. remove (insert (map f xs) n x) k) (sym (get_or-map f xs k d)) ∙ end_moved (map f xs) n k (f d) (end ∙ sym count) (omega (arith, within, count))

move_by_ids : (b : Body) (xs : List Value) (k n : ℕ) (d : Value) → n ≡ length xs → k < length xs
    → remove (insert (map (ref_by (position_of (ids_of b))) xs) n (value_ref b (get_or xs k d))) k ≡ operands_after (MoveLast k) (map (ref_by (position_of (ids_of b))) xs)
unfolding value_ref
move_by_ids b = move_seen (ref_by (position_of (ids_of b)))

pub one_moved : (b b' b'' : Body) (op : OpId) (o : BodyOp) (k n : ℕ) (d : Value) → HasOp b op → op_at (ops_of b) op.index ≡ Some o → n ≡ length o.operands → k < length o.operands
    → ops_of b' ≡ operands_at op.index (λ xs. insert xs n (get_or o.operands k d)) (ops_of b) → ops_of b'' ≡ operands_at op.index (λ xs. remove xs k) (ops_of b')
    → IsOperandEdit (MoveLast k) b b'' (position_in b op)
one_moved b b' b'' op o k n d there is end within first second =
    let x = get_or o.operands k d in
    let still = op_stays b b' op (λ xs. insert xs n x) first there in
    let ids : ids_of b' ≡ ids_of b = ap ids_in first ∙ ids_stay op.index (λ xs. insert xs n x) (ops_of b) in
    record {
      ops =
          then_dropped b b' b'' op k (λ rs. insert rs n (value_ref b x)) still (one_inserted b b' op n x there first) ids second
          ∙ operands_alike (position_in b op) (λ rs. remove (insert rs n (value_ref b x)) k) (operands_after (MoveLast k)) (body_ops b) (op_by (position_of (ids_of b)) o) (operands_seen b op o is)
          (move_by_ids b o.operands k n d end within);
      ids = (one_dropped b' b'' op k still second).ids ∙ ids;
    }

-- ---- patterns

fewer_edits : (change : Operands) (os : List Op) (i : ℕ) (o : Op) (k : Kind) → with_fewer change os i o k ≡ option_map (λ (rs : List Ref). changed i (record o { operands = rs }) ∷ []) (changed_operands change os k o.operands)
fewer_edits change os i o (variadic v) = refl
fewer_edits change os i o _ = refl

-- the pattern matches where there are other operands
pub pattern_matches : (change : Operands) (os : List Op) (i : ℕ) → is_some (by_operands change os i) ≡ is_some (changed_there change os i)
pattern_matches change os i = go (slice_get os i)
  where
    same : (o : Op) (x : Option (List Ref)) → is_some (option_map (λ (rs : List Ref). changed i (record o { operands = rs }) ∷ []) x) ≡ is_some x
    same o None = refl
    same o (Some rs) = refl

    go : (x : Option Op) → is_some (option_and_then (λ (o : Op). with_fewer change os i o o.kind) x) ≡ is_some (option_and_then (λ (o : Op). changed_operands change os o.kind o.operands) x)
    go None = refl
    go (Some o) = ap is_some (fewer_edits change os i o o.kind) ∙ same o (changed_operands change os o.kind o.operands)

-- what an edit of operands makes of a body is what the pattern does
pub operands_folded : (change : Operands) (edit : OperandEdit) (b b' : Body) (i : ℕ) → Some (operands_after edit (operands_there (slice_get (body_ops b) i))) ≡ changed_there change (body_ops b) i
    → IsOperandEdit edit b b' i → IsFolded (by_operands change) b b' i
operands_folded change edit b b' i chosen done = go (slice_get (body_ops b) i) refl chosen
  where
    go : (x : Option Op) → slice_get (body_ops b) i ≡ x → Some (operands_after edit (operands_there x)) ≡ option_and_then (λ (o : Op). changed_operands change (body_ops b) o.kind o.operands) x
        → IsFolded (by_operands change) b b' i
    go None there chosen = cc
    go (Some o) there chosen = record {
      edits = changed i (record o { operands = operands_after edit o.operands }) ∷ [];
      matches =
          ap (λ x. option_and_then (λ (p : Op). with_fewer change (body_ops b) i p p.kind) x) there
          ∙ fewer_edits change (body_ops b) i o o.kind
          ∙ ap (option_map (λ (rs : List Ref). changed i (record o { operands = rs }) ∷ [])) (sym chosen);
      form = refl;
      ops = done.ops ∙ with_operands_set i (operands_after edit) (body_ops b) o there;
      fresh = (fresh_id (ids_of b)).0;
      is_fresh = (fresh_id (ids_of b)).1;
      ids = done.ids;
    }
