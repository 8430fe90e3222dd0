-- The first results of wires in the place of the results of an operation.
use Rattle.std.proofs.Common.{◌≡◌, ℕ, zero, suc, ◌+◌, true, false, cond, nat_eq, ◌&&◌, List, [], ◌∷◌, map, Some, slice_get, refl, sym, ap, ap₂, ◌∙◌, inl, inr, arith, eq-eqb, ne_eqb}
use Rattle.std.proofs.lemmas.Bool.{eqb-false}
use Rattle.std.proofs.lemmas.List.{map-id}
use Rattle.wiring.specs.Wiring.{In}
use Rattle.ir_store.specs.declared.operation.OpId.{OpId}
use Rattle.ir_store.specs.declared.operation.Value.{Value}
use Rattle.ir_store.specs.declared.operation.Value.TheVariants.{Port, Result, Undefined}
use Rattle.ir_store.specs.BodyOps.{BodyOp, all_replaced, replace_value, is_of}
use Rattle.inline_pass.specs.MovedOps.{results_replaced}

-- an operation with each operand changed
abbrev pub with_values : (Value → Value) → BodyOp → BodyOp
with_values f o = record o { operands = map f o.operands }

-- one value after another
abbrev pub redirect : OpId → ℕ → List OpId → Value → Value
redirect op n [] v = v
redirect op n (w ∷ wires) v = redirect op (suc n) wires (replace_value (Result op n) (Result w 0) v)

pub map_twice : {A B C : Type 0} (f : B → C) (g : A → B) (xs : List A) → map f (map g xs) ≡ map (λ x. f (g x)) xs
map_twice f g [] = refl
map_twice f g (x ∷ xs) = ap (λ ys. f (g x) ∷ ys) (map_twice f g xs)

pub values_twice : (f g : Value → Value) (ops : List BodyOp) → map (with_values f) (map (with_values g) ops) ≡ map (with_values (λ v. f (g v))) ops
values_twice f g [] = refl
values_twice f g (o ∷ ops) = ap₂ (λ (vs : List Value) os. record o { operands = vs } ∷ os) (map_twice f g o.operands) (values_twice f g ops)

values_same : (ops : List BodyOp) → ops ≡ map (with_values (λ v. v)) ops
values_same [] = refl
values_same (o ∷ ops) = ap₂ (λ (vs : List Value) os. record o { operands = vs } ∷ os) (sym (map-id o.operands)) (values_same ops)

pub results_are : (op : OpId) (n : ℕ) (wires : List OpId) (ops : List BodyOp) → results_replaced op n wires ops ≡ map (with_values (redirect op n wires)) ops
results_are op n [] ops = values_same ops
results_are op n (w ∷ wires) ops =
    results_are op (suc n) wires (all_replaced (Result op n) (Result w 0) ops)
    ∙ values_twice (redirect op (suc n) wires) (replace_value (Result op n) (Result w 0)) ops

-- ---- values

other_way : (i j : ℕ) → nat_eq i j ≡ false → nat_eq j i ≡ false
other_way i j is = ne_eqb j i (λ same. eqb-false i j is (sym same))

pub not_replaced : (op : OpId) (n : ℕ) (to v : Value) → is_of op.index v ≡ false → replace_value (Result op n) to v ≡ v
not_replaced op n to (Port k) other = refl
not_replaced op n to Undefined other = refl
not_replaced op n to (Result i k) other = ap (λ b. cond (b && nat_eq n k) to (Result i k)) (other_way i.index op.index other)

-- another value stays
pub redirect_other : (op : OpId) (n : ℕ) (wires : List OpId) (v : Value) → is_of op.index v ≡ false → redirect op n wires v ≡ v
redirect_other op n [] v other = refl
redirect_other op n (w ∷ wires) v other = ap (redirect op (suc n) wires) (not_replaced op n (Result w 0) v other) ∙ redirect_other op (suc n) wires v other

-- none of the wires is the operation
abbrev pub AreOthers : OpId → List OpId → Type 0
AreOthers op wires = (w : OpId) → In w wires → w.index ≡ op.index → ⊥

pub not_of : (op w : OpId) (k : ℕ) → (w.index ≡ op.index → ⊥) → is_of op.index (Result w k) ≡ false
not_of op w k other = ne_eqb w.index op.index other

-- a result becomes that of the wire of its number
pub redirect_result : (op : OpId) (n : ℕ) (wires : List OpId) (m : ℕ) (w id : OpId) → AreOthers op wires → slice_get wires m ≡ Some w → id.index ≡ op.index
    → redirect op n wires (Result id (n + m)) ≡ Result w 0
redirect_result op n [] m w id others at is = cc
redirect_result op n (y ∷ wires) zero w id others at is =
    let same : y ≡ w = cc in
    let here : nat_eq n (n + 0) ≡ true = eq-eqb n (n + 0) (omega arith) in
    ap (λ b. redirect op (suc n) wires (cond (b && nat_eq n (n + 0)) (Result y 0) (Result id (n + 0)))) (eq-eqb op.index id.index (sym is))
    ∙ ap (λ b. redirect op (suc n) wires (cond b (Result y 0) (Result id (n + 0)))) here
    ∙ redirect_other op (suc n) wires (Result y 0) (not_of op y 0 (others y (inl refl)))
    ∙ ap (λ z. Result z 0) same
redirect_result op n (y ∷ wires) (suc m) w id others at is =
    let past : nat_eq n (n + suc m) ≡ false = ne_eqb n (n + suc m) (λ e. absurd (omega (arith, e))) in
    let next : n + suc m ≡ suc n + m = omega arith in
    ap (λ b. redirect op (suc n) wires (cond (b && nat_eq n (n + suc m)) (Result y 0) (Result id (n + suc m)))) (eq-eqb op.index id.index (sym is))
    ∙ ap (λ b. redirect op (suc n) wires (cond b (Result y 0) (Result id (n + suc m)))) past
    ∙ ap (λ k. redirect op (suc n) wires (Result id k)) next
    ∙ redirect_result op (suc n) wires m w id (λ z among. others z (inr among)) at is
