-- Operands of one operation that are put among those of another one, by ids.
use Rattle.std.proofs.Common.{◌≡◌, ℕ, zero, suc, ◌≤◌, Bool, true, false, cond, nat_eq, List, [], ◌∷◌, ◌++◌, Some, refl, sym, ap, ap₂, subst, ◌∙◌, arith}
use Rattle.std.specs.Prelude.{All, Contains}
use Rattle.std.proofs.lemmas.Bool.{eqb-true}
use Rattle.linked_lists.specs.Ids.{times}
use Rattle.ir_store.specs.declared.body.Body.{Body}
use Rattle.ir_store.specs.declared.operation.OpId.{OpId}
use Rattle.ir_store.specs.declared.operation.Value.{Value}
use Rattle.ir_store.specs.Bodies.{ops_of}
use Rattle.ir_store.specs.BodyOps.{BodyOp, ids_in, op_at, operands_at}
use Rattle.ir_store.proofs.Living.{ids_stay, all_with, all_none, first_of_all, rest_of_all}
use Rattle.fold_laws.specs.Nested.{splice}
use Rattle.body_edits.specs.Views.{HasOp}

-- ---- lists with others in the place of an element

all_append : {A : Type 0} (P : A → Type 0) (xs ys : List A) → All P xs → All P ys → All P (xs ++ ys)
all_append P [] ys own others = others
all_append P (x ∷ xs) ys own others = all_with P x (xs ++ ys) (first_of_all P x xs own) (all_append P xs ys (rest_of_all P x xs own) others)

pub all_splice : {A : Type 0} (P : A → Type 0) (n : ℕ) (ys xs : List A) → All P ys → All P xs → All P (splice n ys xs)
all_splice P n ys [] own others = all_none P
all_splice P zero ys (x ∷ xs) own others = all_append P ys xs own (rest_of_all P x xs others)
all_splice P (suc n) ys (x ∷ xs) own others = all_with P x (splice n ys xs) (first_of_all P x xs others) (all_splice P n ys xs own (rest_of_all P x xs others))

-- ---- operands by ids

-- no operation of an id, no change
untouched : (id : ℕ) (f : List Value → List Value) (ops : List BodyOp) → times id (ids_in ops) ≡ 0 → operands_at id f ops ≡ ops
untouched id f [] none = refl
untouched id f (o ∷ ops) none = go (nat_eq o.id id) refl none (untouched id f ops)
  where
    go : (b : Bool) → nat_eq o.id id ≡ b → cond b (suc (times id (ids_in ops))) (times id (ids_in ops)) ≡ 0 → (times id (ids_in ops) ≡ 0 → operands_at id f ops ≡ ops)
        → cond b (record o { operands = f o.operands }) o ∷ operands_at id f ops ≡ o ∷ ops
    go true is none rest = absurd (omega (arith, none))
    go false is none rest = ap (λ os. o ∷ os) (rest none)

-- where ids are distinct, two changes that make one thing of the operands of the operation of an id are one
pub one_change : (id : ℕ) (f g : List Value → List Value) (p : BodyOp) (ops : List BodyOp) → times id (ids_in ops) ≤ 1 → op_at ops id ≡ Some p → f p.operands ≡ g p.operands
    → operands_at id f ops ≡ operands_at id g ops
one_change id f g p [] once at same = refl
one_change id f g p (o ∷ ops) once at same = go (nat_eq o.id id) refl once at (one_change id f g p ops)
  where
    go : (b : Bool) → nat_eq o.id id ≡ b → cond b (suc (times id (ids_in ops))) (times id (ids_in ops)) ≤ 1 → cond b (Some o) (op_at ops id) ≡ Some p
        → (times id (ids_in ops) ≤ 1 → op_at ops id ≡ Some p → f p.operands ≡ g p.operands → operands_at id f ops ≡ operands_at id g ops)
        → cond b (record o { operands = f o.operands }) o ∷ operands_at id f ops ≡ cond b (record o { operands = g o.operands }) o ∷ operands_at id g ops
    go true is once at rest =
        let own : o ≡ p = cc in
        let none : times id (ids_in ops) ≡ 0 = omega (arith, once) in
        ap₂ (λ (xs : List Value) os. record o { operands = xs } ∷ os) (ap (λ (q : BodyOp). f q.operands) own ∙ same ∙ ap (λ (q : BodyOp). g q.operands) (sym own)) (untouched id f ops none ∙ sym (untouched id g ops none))
    go false is once at rest = ap (λ os. o ∷ os) (rest once at same)

-- another operation stays
pub other_op : (id j : ℕ) (f : List Value → List Value) (ops : List BodyOp) → (j ≡ id → ⊥) → op_at (operands_at id f ops) j ≡ op_at ops j
other_op id j f [] other = refl
other_op id j f (o ∷ ops) other = go (nat_eq o.id id) refl (nat_eq o.id j) refl (other_op id j f ops other)
  where
    go : (b : Bool) → nat_eq o.id id ≡ b → (c : Bool) → nat_eq o.id j ≡ c → op_at (operands_at id f ops) j ≡ op_at ops j
        → op_at (cond b (record o { operands = f o.operands }) o ∷ operands_at id f ops) j ≡ cond c (Some o) (op_at ops j)
    go true is true at rest = absurd (other (sym (eqb-true o.id j at) ∙ eqb-true o.id id is))
    go true is false at rest = ap (λ t. cond t (Some (record o { operands = f o.operands })) (op_at (operands_at id f ops) j)) at ∙ rest
    go false is c at rest = ap (λ t. cond t (Some o) (op_at (operands_at id f ops) j)) at ∙ ap (cond c (Some o)) rest

-- each operation is there still
pub each_there : (b b' : Body) (id : ℕ) (f : List Value → List Value) (j : OpId) → ops_of b' ≡ operands_at id f (ops_of b) → HasOp b j → HasOp b' j
each_there b b' id f j is there = subst (λ ids. Contains ids j.index) (sym (ap ids_in is ∙ ids_stay id f (ops_of b))) there
