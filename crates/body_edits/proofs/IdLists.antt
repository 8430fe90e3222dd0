-- Lists of operations by ids that are joined.
use Rattle.std.proofs.Common.{◌≡◌, ℕ, suc, ◌+◌, ◌<◌, Bool, true, false, cond, nat_eq, List, [], ◌∷◌, ◌++◌, length, Some, refl, ap, ◌∙◌, arith, eq-eqb}
use Rattle.std.proofs.lemmas.Bool.{eqb-true, eqb-false}
use Rattle.std.proofs.lemmas.List.{map-append}
use Rattle.linked_lists.specs.Ids.{times}
use Rattle.linked_lists.proofs.IdLemmas.{times-append}
use Rattle.ir_store.specs.declared.operation.Value.{Value}
use Rattle.ir_store.specs.BodyOps.{BodyOp, ids_in, op_at, operands_at, taken_out}
use Rattle.ir_store.specs.Live.{AreDistinct}
use Rattle.ir_store.specs.Numbered.{position_of}

-- ---- ids

pub ids_append : (xs ys : List BodyOp) → ids_in (xs ++ ys) ≡ ids_in xs ++ ids_in ys
ids_append xs ys = map-append (λ (o : BodyOp). o.id) xs ys

pub times_self : (v : ℕ) (xs : List ℕ) → times v (v ∷ xs) ≡ suc (times v xs)
times_self v xs = ap (λ b. cond b (suc (times v xs)) (times v xs)) (eq-eqb v v refl)

pub times_other : (v w : ℕ) (xs : List ℕ) → (w ≡ v → ⊥) → times v (w ∷ xs) ≡ times v xs
times_other v w xs other = go (nat_eq w v) refl
  where
    go : (b : Bool) → nat_eq w v ≡ b → cond b (suc (times v xs)) (times v xs) ≡ times v xs
    go true is = absurd (other (eqb-true w v is))
    go false is = refl

-- an id in the middle stands nowhere else
pub once_before : (prefix : List ℕ) (v : ℕ) (back : List ℕ) → AreDistinct (prefix ++ (v ∷ back)) → times v prefix ≡ 0
once_before prefix v back once = let h = once v in let a = times-append v prefix (v ∷ back) in let s = times_self v back in omega (arith, h, a, s)

pub once_after : (prefix : List ℕ) (v : ℕ) (back : List ℕ) → AreDistinct (prefix ++ (v ∷ back)) → times v back ≡ 0
once_after prefix v back once = let h = once v in let a = times-append v prefix (v ∷ back) in let s = times_self v back in omega (arith, h, a, s)

-- ---- positions

pub position_prefix : (xs ys : List ℕ) (v : ℕ) → 0 < times v xs → position_of (xs ++ ys) v ≡ position_of xs v
position_prefix [] ys v here = absurd (omega (arith, here))
position_prefix (x ∷ xs) ys v here = go (nat_eq x v) here (position_prefix xs ys v)
  where
    go : (b : Bool) → 0 < cond b (suc (times v xs)) (times v xs) → (0 < times v xs → position_of (xs ++ ys) v ≡ position_of xs v)
        → cond b 0 (suc (position_of (xs ++ ys) v)) ≡ cond b 0 (suc (position_of xs v))
    go true here rest = refl
    go false here rest = ap suc (rest here)

pub position_below : (xs : List ℕ) (v : ℕ) → 0 < times v xs → position_of xs v < length xs
position_below [] v here = absurd (omega (arith, here))
position_below (x ∷ xs) v here = go (nat_eq x v) here (position_below xs v)
  where
    go : (b : Bool) → 0 < cond b (suc (times v xs)) (times v xs) → (0 < times v xs → position_of xs v < length xs) → cond b 0 (suc (position_of xs v)) < suc (length xs)
    go true here rest = omega arith
    go false here rest = let h = rest here in omega (arith, h)

pub position_back : (xs ys : List ℕ) (v : ℕ) → times v xs ≡ 0 → position_of (xs ++ ys) v ≡ length xs + position_of ys v
position_back [] ys v none = omega arith
position_back (x ∷ xs) ys v none = go (nat_eq x v) none (position_back xs ys v)
  where
    go : (b : Bool) → cond b (suc (times v xs)) (times v xs) ≡ 0 → (times v xs ≡ 0 → position_of (xs ++ ys) v ≡ length xs + position_of ys v)
        → cond b 0 (suc (position_of (xs ++ ys) v)) ≡ suc (length xs) + position_of ys v
    go true none rest = absurd (omega (arith, none))
    go false none rest = let h = rest none in omega (arith, h)

pub position_self : (v : ℕ) (xs : List ℕ) → position_of (v ∷ xs) v ≡ 0
position_self v xs = ap (λ b. cond b 0 (suc (position_of xs v))) (eq-eqb v v refl)

pub position_next : (x v : ℕ) (xs : List ℕ) → (x ≡ v → ⊥) → position_of (x ∷ xs) v ≡ suc (position_of xs v)
position_next x v xs other = go (nat_eq x v) refl
  where
    go : (b : Bool) → nat_eq x v ≡ b → cond b 0 (suc (position_of xs v)) ≡ suc (position_of xs v)
    go true is = absurd (other (eqb-true x v is))
    go false is = refl

-- ---- the operation in the middle

-- it is found
pub middle_found : (prefix : List BodyOp) (o : BodyOp) (back : List BodyOp) → times o.id (ids_in prefix) ≡ 0 → op_at (prefix ++ (o ∷ back)) o.id ≡ Some o
middle_found [] o back none = ap (λ b. cond b (Some o) (op_at back o.id)) (eq-eqb o.id o.id refl)
middle_found (p ∷ prefix) o back none = go (nat_eq p.id o.id) none (middle_found prefix o back)
  where
    go : (b : Bool) → cond b (suc (times o.id (ids_in prefix))) (times o.id (ids_in prefix)) ≡ 0 → (times o.id (ids_in prefix) ≡ 0 → op_at (prefix ++ (o ∷ back)) o.id ≡ Some o)
        → cond b (Some p) (op_at (prefix ++ (o ∷ back)) o.id) ≡ Some o
    go true none rest = absurd (omega (arith, none))
    go false none rest = rest none

-- no operation of an id, no change
unchanged : (id : ℕ) (f : List Value → List Value) (ops : List BodyOp) → times id (ids_in ops) ≡ 0 → operands_at id f ops ≡ ops
unchanged id f [] none = refl
unchanged id f (o ∷ ops) none = go (nat_eq o.id id) none (unchanged id f ops)
  where
    go : (b : Bool) → cond b (suc (times id (ids_in ops))) (times id (ids_in ops)) ≡ 0 → (times id (ids_in ops) ≡ 0 → operands_at id f ops ≡ ops)
        → cond b (record o { operands = f o.operands }) o ∷ operands_at id f ops ≡ o ∷ ops
    go true none rest = absurd (omega (arith, none))
    go false none rest = ap (λ os. o ∷ os) (rest none)

-- its operands alone change
pub middle_changed : (f : List Value → List Value) (prefix : List BodyOp) (o : BodyOp) (back : List BodyOp) → times o.id (ids_in prefix) ≡ 0 → times o.id (ids_in back) ≡ 0
    → operands_at o.id f (prefix ++ (o ∷ back)) ≡ prefix ++ (record o { operands = f o.operands } ∷ back)
middle_changed f [] o back none past =
    ap (λ b. cond b (record o { operands = f o.operands }) o ∷ operands_at o.id f back) (eq-eqb o.id o.id refl)
    ∙ ap (λ os. record o { operands = f o.operands } ∷ os) (unchanged o.id f back past)
middle_changed f (p ∷ prefix) o back none past = go (nat_eq p.id o.id) none (middle_changed f prefix o back)
  where
    go : (b : Bool) → cond b (suc (times o.id (ids_in prefix))) (times o.id (ids_in prefix)) ≡ 0
        → (times o.id (ids_in prefix) ≡ 0 → times o.id (ids_in back) ≡ 0 → operands_at o.id f (prefix ++ (o ∷ back)) ≡ prefix ++ (record o { operands = f o.operands } ∷ back))
        → cond b (record p { operands = f p.operands }) p ∷ operands_at o.id f (prefix ++ (o ∷ back)) ≡ p ∷ prefix ++ (record o { operands = f o.operands } ∷ back)
    go true none rest = absurd (omega (arith, none))
    go false none rest = ap (λ os. p ∷ os) (rest none past)

-- it is taken out
pub middle_out : (prefix : List BodyOp) (o : BodyOp) (back : List BodyOp) → times o.id (ids_in prefix) ≡ 0 → taken_out o.id (prefix ++ (o ∷ back)) ≡ prefix ++ back
middle_out [] o back none = ap (λ b. cond b back (o ∷ taken_out o.id back)) (eq-eqb o.id o.id refl)
middle_out (p ∷ prefix) o back none = go (nat_eq p.id o.id) none (middle_out prefix o back)
  where
    go : (b : Bool) → cond b (suc (times o.id (ids_in prefix))) (times o.id (ids_in prefix)) ≡ 0 → (times o.id (ids_in prefix) ≡ 0 → taken_out o.id (prefix ++ (o ∷ back)) ≡ prefix ++ back)
        → cond b (prefix ++ (o ∷ back)) (p ∷ taken_out o.id (prefix ++ (o ∷ back))) ≡ p ∷ prefix ++ back
    go true none rest = absurd (omega (arith, none))
    go false none rest = ap (λ os. p ∷ os) (rest none)

-- ---- an operation that is there parts the others

pub record Parted (id : ℕ) (ops : List BodyOp) : Type 0 where
  pub prefix : List BodyOp
  pub op : BodyOp
  pub back : List BodyOp
  pub is : op.id ≡ id
  pub none : times id (ids_in prefix) ≡ 0
  pub all : ops ≡ prefix ++ (op ∷ back)

pub parted : (id : ℕ) (ops : List BodyOp) → 0 < times id (ids_in ops) → Parted id ops
parted id [] here = absurd (omega (arith, here))
parted id (o ∷ ops) here = go (nat_eq o.id id) refl here (parted id ops)
  where
    go : (b : Bool) → nat_eq o.id id ≡ b → 0 < cond b (suc (times id (ids_in ops))) (times id (ids_in ops)) → (0 < times id (ids_in ops) → Parted id ops) → Parted id (o ∷ ops)
    go true is here rest = record { prefix = []; op = o; back = ops; is = eqb-true o.id id is; none = refl; all = refl }
    go false is here rest = let r = rest here in record {
      prefix = o ∷ r.prefix;
      op = r.op;
      back = r.back;
      is = r.is;
      none = times_other id o.id (ids_in r.prefix) (eqb-false o.id id is) ∙ r.none;
      all = ap (λ os. o ∷ os) r.all;
    }
