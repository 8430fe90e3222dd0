-- Uses of a value after a position among the operands of an operation.
use Rattle.std.proofs.Common.{◌≡◌, ℕ, zero, suc, ◌+◌, ◌<◌, ◌≤◌, Bool, true, false, cond, nat_eq, ◌&&◌, List, [], ◌∷◌, ◌++◌, length, drop, get_or, Option, Some, None, refl, sym, ap, subst, ◌∙◌, arith}
use Rattle.std.proofs.Common.{length-drop, get_or-drop, eq-eqb, ne_eqb}
use Rattle.std.specs.Prelude.{position, nat_lt}
use Rattle.std.proofs.lemmas.Bool.{ltb-false, eqb-true}
use Rattle.std.proofs.lemmas.List.Quantifiers.{position-Some}
use Rattle.ir_store.specs.declared.operation.UsePosition.{UsePosition}
use Rattle.ir_store.specs.declared.operation.Value.{Value}
use Rattle.ir_store.specs.BodyOps.{BodyOp, op_at, same_value}
use Rattle.ir_store.specs.Uses.{use_at, positions_in, uses_in, same_position, use_times}

-- ---- how many times a position stands among positions

pub times_first : (p : UsePosition) (xs ys : List UsePosition) → use_times p xs ≤ use_times p (xs ++ ys)
times_first p [] ys = omega arith
times_first p (x ∷ xs) ys = go (same_position x p) (times_first p xs ys)
  where
    go : (b : Bool) → use_times p xs ≤ use_times p (xs ++ ys) → cond b (suc (use_times p xs)) (use_times p xs) ≤ cond b (suc (use_times p (xs ++ ys))) (use_times p (xs ++ ys))
    go true h = omega (arith, h)
    go false h = h

pub times_second : (p : UsePosition) (xs ys : List UsePosition) → use_times p ys ≤ use_times p (xs ++ ys)
times_second p [] ys = omega arith
times_second p (x ∷ xs) ys = go (same_position x p) (times_second p xs ys)
  where
    go : (b : Bool) → use_times p ys ≤ use_times p (xs ++ ys) → use_times p ys ≤ cond b (suc (use_times p (xs ++ ys))) (use_times p (xs ++ ys))
    go true h = omega (arith, h)
    go false h = h

-- ---- positions of an operation

used_among : (v : Value) (id k j m : ℕ) (xs : List Value) (d : Value) → m ≡ k + j → j < length xs → same_value v (get_or xs j d) ≡ true → 1 ≤ use_times (use_at id m) (positions_in v id k xs)
used_among v id k j m [] d position within same = absurd (omega (arith, within))
used_among v id k zero m (x ∷ xs) d position within same =
    let here : k ≡ m = omega (arith, position) in
    let is : same_position (use_at id k) (use_at id m) ≡ true = ap (λ b. b && nat_eq k m) (eq-eqb id id refl) ∙ eq-eqb k m here in
    subst (λ (b : Bool). 1 ≤ use_times (use_at id m) (cond b (use_at id k ∷ positions_in v id (suc k) xs) (positions_in v id (suc k) xs))) (sym same)
    (subst (λ (b : Bool). 1 ≤ cond b (suc (use_times (use_at id m) (positions_in v id (suc k) xs))) (use_times (use_at id m) (positions_in v id (suc k) xs))) (sym is) (omega arith))
used_among v id k (suc j) m (x ∷ xs) d position within same =
    go (same_value v x) (used_among v id (suc k) j m xs d (omega (arith, position)) (omega (arith, within)) same)
  where
    more : (b : Bool) (n : ℕ) → 1 ≤ n → 1 ≤ cond b (suc n) n
    more true n h = omega (arith, h)
    more false n h = h

    go : (b : Bool) → 1 ≤ use_times (use_at id m) (positions_in v id (suc k) xs) → 1 ≤ use_times (use_at id m) (cond b (use_at id k ∷ positions_in v id (suc k) xs) (positions_in v id (suc k) xs))
    go true h = more (same_position (use_at id k) (use_at id m)) (use_times (use_at id m) (positions_in v id (suc k) xs)) h
    go false h = h

-- an operand is a use
operand_used : (v : Value) (id j : ℕ) (ops : List BodyOp) (o : BodyOp) (d : Value) → op_at ops id ≡ Some o → j < length o.operands → same_value v (get_or o.operands j d) ≡ true
    → 1 ≤ use_times (use_at id j) (uses_in v ops)
operand_used v id j [] o d is within same = cc
operand_used v id j (p ∷ ops) o d is within same = go (nat_eq p.id id) refl is (λ rest. operand_used v id j ops o d rest within same)
  where
    go : (b : Bool) → nat_eq p.id id ≡ b → cond b (Some p) (op_at ops id) ≡ Some o → (op_at ops id ≡ Some o → 1 ≤ use_times (use_at id j) (uses_in v ops))
        → 1 ≤ use_times (use_at id j) (positions_in v p.id 0 p.operands ++ uses_in v ops)
    go true at is rest =
        let it : p ≡ o = cc in
        let own : 1 ≤ use_times (use_at id j) (positions_in v id 0 o.operands) = used_among v id 0 j j o.operands d (omega arith) within same in
        let first : 1 ≤ use_times (use_at id j) (positions_in v p.id 0 p.operands) =
        subst (λ (q : BodyOp). 1 ≤ use_times (use_at id j) (positions_in v p.id 0 q.operands)) (sym it) (subst (λ i. 1 ≤ use_times (use_at id j) (positions_in v i 0 o.operands)) (sym (eqb-true p.id id at)) own) in
        omega (arith, first, times_first (use_at id j) (positions_in v p.id 0 p.operands) (uses_in v ops))
    go false at is rest = omega (arith, rest is, times_second (use_at id j) (positions_in v p.id 0 p.operands) (uses_in v ops))

-- where no use stands after a position, the value does not stand there
pub none_after : (v : Value) (id n : ℕ) (ops : List BodyOp) (o : BodyOp) → op_at ops id ≡ Some o → ((j : ℕ) → n < j → use_times (use_at id j) (uses_in v ops) ≡ 0)
    → position (same_value v) (drop (n + 1) o.operands) ≡ None
none_after v id n ops o is none = go (position (same_value v) (drop (n + 1) o.operands)) refl
  where
    go : (x : Option ℕ) → position (same_value v) (drop (n + 1) o.operands) ≡ x → x ≡ None
    go None at = refl
    go (Some k) at =
        let found = position-Some (same_value v) (drop (n + 1) o.operands) k v at in
        let count = length-drop (n + 1) o.operands in
        let within : n + 1 + k < length o.operands = omega (arith, found.0, count) in
        let used = operand_used v id (n + 1 + k) ops o v is within (ap (same_value v) (sym (get_or-drop (n + 1) o.operands k v)) ∙ found.1) in
        absurd (omega (arith, used, none (n + 1 + k) (omega arith)))

-- ---- a walk along uses

-- a use of another position leaves the later ones to come
pub other_passed : (id n : ℕ) (q : UsePosition) (ps qs : List UsePosition) → ps ≡ q ∷ qs → (nat_eq q.op.index id && nat_lt n q.at) ≡ false
    → (j : ℕ) → n < j → use_times (use_at id j) ps ≡ use_times (use_at id j) qs
other_passed id n q ps qs is other j later =
    ap (use_times (use_at id j)) is ∙ ap (λ b. cond b (suc (use_times (use_at id j) qs)) (use_times (use_at id j) qs)) (go (nat_eq q.op.index id) other)
  where
    go : (b : Bool) → (b && nat_lt n q.at) ≡ false → (b && nat_eq q.at j) ≡ false
    go true h = ne_eqb q.at j (λ e. omega (arith, e, later, ltb-false n q.at h))
    go false h = refl
