-- Whether an operand is a result of an operation.
use Rattle.std.proofs.Common.{◌≡◌, ℕ, Bool, true, false, not, cond, List, [], ◌∷◌, refl}
use Rattle.std.specs.Prelude.{All}
use Rattle.ir_store.specs.declared.operation.Value.{Value}
use Rattle.ir_store.specs.BodyOps.{BodyOp, is_of, names_in, is_named, IsUnused}
use Rattle.ir_store.proofs.Living.{all_none, all_with, first_of_all, rest_of_all}

unnamed : (id : ℕ) (xs : List Value) → names_in id xs ≡ false → All (λ v. is_of id v ≡ false) xs
unnamed id [] e = all_none (λ v. is_of id v ≡ false)
unnamed id (x ∷ xs) e = go (is_of id x) refl e (unnamed id xs)
  where
    go : (b : Bool) → is_of id x ≡ b → cond b true (names_in id xs) ≡ false → (names_in id xs ≡ false → All (λ v. is_of id v ≡ false) xs) → All (λ v. is_of id v ≡ false) (x ∷ xs)
    go true t e r = cc
    go false t e r = all_with (λ v. is_of id v ≡ false) x xs t (r e)

not_named : (id : ℕ) (xs : List Value) → All (λ v. is_of id v ≡ false) xs → names_in id xs ≡ false
not_named id [] h = refl
not_named id (x ∷ xs) h =
    let e = first_of_all (λ v. is_of id v ≡ false) x xs h in
    let r = not_named id xs (rest_of_all (λ v. is_of id v ≡ false) x xs h) in
    rw (e, r) refl

pub named_unused : (id : ℕ) (ops : List BodyOp) → is_named id ops ≡ false → IsUnused id ops
named_unused id [] e = all_none (λ (o : BodyOp). All (λ v. is_of id v ≡ false) o.operands)
named_unused id (o ∷ ops) e = go (names_in id o.operands) refl e (named_unused id ops)
  where
    go : (b : Bool) → names_in id o.operands ≡ b → cond b true (is_named id ops) ≡ false → (is_named id ops ≡ false → IsUnused id ops) → IsUnused id (o ∷ ops)
    go true t e r = cc
    go false t e r = all_with (λ (p : BodyOp). All (λ v. is_of id v ≡ false) p.operands) o ops (unnamed id o.operands t) (r e)

pub unused_named : (id : ℕ) (ops : List BodyOp) → IsUnused id ops → is_named id ops ≡ false
unused_named id [] h = refl
unused_named id (o ∷ ops) h =
    let e = not_named id o.operands (first_of_all (λ (p : BodyOp). All (λ v. is_of id v ≡ false) p.operands) o ops h) in
    let r = unused_named id ops (rest_of_all (λ (p : BodyOp). All (λ v. is_of id v ≡ false) p.operands) o ops h) in
    rw (e, r) refl

pub not_true : (b : Bool) → not b ≡ true → b ≡ false
not_true true e = cc
not_true false e = refl
