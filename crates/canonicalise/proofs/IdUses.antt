-- Positions of ids, and uses by ids and by positions.
use Rattle.std.proofs.Common.{◌≡◌, ℕ, zero, suc, ◌+◌, ◌≤◌, Bool, true, false, cond, nat_eq, ◌&&◌, List, [], ◌∷◌, ◌++◌, length, map, Some, slice_get, refl, sym, ap, ap₂, subst, ◌∙◌, inl, inr, arith, eq-eqb, length-append}
use Rattle.std.specs.Prelude.{Contains}
use Rattle.std.proofs.lemmas.Bool.{eqb-true, eqb-false}
use Rattle.wiring.specs.Wiring.{In}
use Rattle.bits_core.specs.Word.{bit}
use Rattle.hw_model.specs.Design.Ref.{result}
use Rattle.linked_lists.specs.Ids.{times}
use Rattle.linked_lists.proofs.IdLemmas.{times_contained}
use Rattle.ir_store.specs.declared.operation.OpId.{OpId}
use Rattle.ir_store.specs.declared.operation.UsePosition.{UsePosition}
use Rattle.ir_store.specs.declared.operation.Value.{Value}
use Rattle.ir_store.specs.declared.operation.Value.TheVariants.{Port, Result, Undefined}
use Rattle.ir_store.specs.BodyOps.{BodyOp, op_at, same_value}
use Rattle.ir_store.specs.Numbered.{position_of, ref_by, op_by}
use Rattle.ir_store.specs.Uses.{use_at, positions_in, uses_in, same_position, use_times}
use Rattle.fold_laws.specs.Nested.{uses_among, use_count}
use Rattle.fold_laws.specs.Unused.{is_result_of}
use Rattle.body_edits.proofs.LaterUses.{times_first, times_second}
use Rattle.canonicalise.specs.Settled.{IsUser}

-- ---- positions

pub at_position : (ids : List ℕ) (u : ℕ) → Contains ids u → slice_get ids (position_of ids u) ≡ Some u
at_position [] u (k, l, e) = absurd (omega (arith, l))
at_position (i ∷ ids) u there = go (nat_eq i u) refl there (at_position ids u)
  where
    go : (b : Bool) → nat_eq i u ≡ b → Contains (i ∷ ids) u → (Contains ids u → slice_get ids (position_of ids u) ≡ Some u) → slice_get (i ∷ ids) (cond b 0 (suc (position_of ids u))) ≡ Some u
    go true is there rest = ap Some (eqb-true i u is)
    go false is (zero, l, e) rest = absurd (eqb-false i u is e)
    go false is (suc k, l, e) rest = rest (k, omega (arith, l), e)

counted : (b : Bool) (n : ℕ) → n ≤ cond b (suc n) n
counted true n = omega arith
counted false n = omega arith

times_some : (u : ℕ) (ids : List ℕ) (n : ℕ) → slice_get ids n ≡ Some u → 1 ≤ times u ids
times_some u [] n is = cc
times_some u (i ∷ ids) zero is =
    let same : i ≡ u = cc in
    subst (λ b. 1 ≤ cond b (suc (times u ids)) (times u ids)) (sym (eq-eqb i u same)) (omega arith)
times_some u (i ∷ ids) (suc n) is = omega (arith, times_some u ids n is, counted (nat_eq i u) (times u ids))

pub contains_at : (ids : List ℕ) (n u : ℕ) → slice_get ids n ≡ Some u → Contains ids u
contains_at ids n u is = times_contained ids u (let some = times_some u ids n is in omega (arith, some))

-- an id that stands first does not stand later
twice : (u i : ℕ) (ids : List ℕ) → times u (i ∷ ids) ≤ 1 → i ≡ u → (n : ℕ) → slice_get ids n ≡ Some u → ⊥
twice u i ids once same n there =
    let more : times u (i ∷ ids) ≡ suc (times u ids) = ap (λ b. cond b (suc (times u ids)) (times u ids)) (eq-eqb i u same) in
    omega (arith, once, more, times_some u ids n there)

pub one_position : (u : ℕ) (ids : List ℕ) → times u ids ≤ 1 → (m n : ℕ) → slice_get ids m ≡ Some u → slice_get ids n ≡ Some u → m ≡ n
one_position u [] once m n one two = cc
one_position u (i ∷ ids) once zero zero one two = refl
one_position u (i ∷ ids) once (suc m) (suc n) one two = ap suc (one_position u ids (omega (arith, once, counted (nat_eq i u) (times u ids))) m n one two)
one_position u (i ∷ ids) once zero (suc n) one two = absurd (twice u i ids once (let same : i ≡ u = cc in same) n two)
one_position u (i ∷ ids) once (suc m) zero one two = absurd (twice u i ids once (let same : i ≡ u = cc in same) m one)

pub position_found : (ids : List ℕ) (u n : ℕ) → times u ids ≤ 1 → slice_get ids n ≡ Some u → position_of ids u ≡ n
position_found ids u n once is = one_position u ids once (position_of ids u) n (at_position ids u (contains_at ids n u is)) is

pub same_id : (ids : List ℕ) (u w : ℕ) → Contains ids u → Contains ids w → position_of ids u ≡ position_of ids w → u ≡ w
same_id ids u w one two same = let both : Some u ≡ Some w = sym (at_position ids u one) ∙ ap (slice_get ids) same ∙ at_position ids w two in cc

-- ---- operands

-- an operand by positions that is a result is one by ids
pub record IsResultOf (ids : List ℕ) (vs : List Value) (j n : ℕ) : Type 0 where
  pub id : OpId
  pub named : In (Result id n) vs
  pub position : position_of ids id.index ≡ j

pub result_among : (ids : List ℕ) (vs : List Value) (j n : ℕ) → In (result j n) (map (ref_by (position_of ids)) vs) → IsResultOf ids vs j n
result_among ids [] j n here = absurd here
result_among ids (v ∷ vs) j n (inr here) = let rest = result_among ids vs j n here in record { id = rest.id; named = inr rest.named; position = rest.position }
result_among ids (v ∷ vs) j n (inl same) = of_value v same
  where
    of_value : (v : Value) → result j n ≡ ref_by (position_of ids) v → IsResultOf ids (v ∷ vs) j n
    of_value (Port m) same = cc
    of_value Undefined same = cc
    of_value (Result w m) same =
        let at : j ≡ position_of ids w.index = cc in
        let number : n ≡ m = cc in
        record { id = w; named = inl (ap (Result w) number); position = sym at }

-- ---- uses

same_self : (v : Value) → same_value v v ≡ true
same_self (Port n) = eq-eqb n n refl
same_self Undefined = refl
same_self (Result i k) = ap₂ (λ a b. a && b) (eq-eqb i.index i.index refl) (eq-eqb k k refl)

position_among : (v : Value) (id k : ℕ) (xs : List Value) → In v xs → (m : ℕ) × (1 ≤ use_times (use_at id m) (positions_in v id k xs))
position_among v id k [] here = absurd here
position_among v id k (x ∷ xs) (inl same) = (
  k,
  subst (λ b. 1 ≤ use_times (use_at id k) (cond b (use_at id k ∷ positions_in v id (suc k) xs) (positions_in v id (suc k) xs))) (sym (ap (same_value v) (sym same) ∙ same_self v))
      (subst (λ b. 1 ≤ cond b (suc (use_times (use_at id k) (positions_in v id (suc k) xs))) (use_times (use_at id k) (positions_in v id (suc k) xs)))
      (sym (ap₂ (λ a b. a && b) (eq-eqb id id refl) (eq-eqb k k refl))) (omega arith)),
)
position_among v id k (x ∷ xs) (inr here) = let rest = position_among v id (suc k) xs here in (rest.0, go (same_value v x) rest.0 rest.1)
  where
    go : (b : Bool) (m : ℕ) → 1 ≤ use_times (use_at id m) (positions_in v id (suc k) xs)
        → 1 ≤ use_times (use_at id m) (cond b (use_at id k ∷ positions_in v id (suc k) xs) (positions_in v id (suc k) xs))
    go true m some = omega (arith, some, counted (same_position (use_at id k) (use_at id m)) (use_times (use_at id m) (positions_in v id (suc k) xs)))
    go false m some = some

pub operand_used : (v : Value) (ops : List BodyOp) (id : ℕ) (o : BodyOp) → op_at ops id ≡ Some o → In v o.operands → IsUser v ops id
operand_used v [] id o is here = cc
operand_used v (p ∷ ops) id o is here = go (nat_eq p.id id) refl is (λ rest. operand_used v ops id o rest here)
  where
    go : (b : Bool) → nat_eq p.id id ≡ b → cond b (Some p) (op_at ops id) ≡ Some o → (op_at ops id ≡ Some o → IsUser v ops id) → IsUser v (p ∷ ops) id
    go true at is rest =
        let same : o ≡ p = cc in
        let found = position_among v p.id 0 p.operands (subst (λ (z : BodyOp). In v z.operands) same here) in
        record { position = use_at p.id found.0; own = eqb-true p.id id at; used = omega (arith, found.1, times_first (use_at p.id found.0) (positions_in v p.id 0 p.operands) (uses_in v ops)) }
    go false at is rest =
        let later = rest is in
        record { position = later.position; own = later.own; used = omega (arith, later.used, times_second later.position (positions_in v p.id 0 p.operands) (uses_in v ops)) }

-- a value has at most as many uses as all results of its operation
module _ (position : ℕ → ℕ) (w : OpId) where
  value_named : (v : Value) → bit (same_value (Result w 0) v) ≤ bit (is_result_of (position w.index) (ref_by position v))
  value_named (Port n) = omega arith
  value_named Undefined = omega arith
  value_named (Result i k) = go (nat_eq w.index i.index) refl (nat_eq 0 k)
    where
      go : (a : Bool) → nat_eq w.index i.index ≡ a → (b : Bool) → bit (a && b) ≤ bit (nat_eq (position i.index) (position w.index))
      go false is b = omega arith
      go true is false = omega arith
      go true is true =
          let same : bit (nat_eq (position i.index) (position w.index)) ≡ 1 = ap bit (eq-eqb (position i.index) (position w.index) (ap position (sym (eqb-true w.index i.index is)))) in
          omega (arith, same)

  few_among : (n k : ℕ) (vs : List Value) → length (positions_in (Result w 0) n k vs) ≤ uses_among (position w.index) (map (ref_by position) vs)
  few_among n k [] = omega arith
  few_among n k (v ∷ vs) = go (same_value (Result w 0) v) (value_named v) (few_among n (suc k) vs)
    where
      go : (b : Bool) → bit b ≤ bit (is_result_of (position w.index) (ref_by position v)) → length (positions_in (Result w 0) n (suc k) vs) ≤ uses_among (position w.index) (map (ref_by position) vs)
          → length (cond b (use_at n k ∷ positions_in (Result w 0) n (suc k) vs) (positions_in (Result w 0) n (suc k) vs)) ≤ bit (is_result_of (position w.index) (ref_by position v)) + uses_among (position w.index) (map (ref_by position) vs)
      go true one rest = omega (arith, one, rest)
      go false one rest = omega (arith, rest)

  pub few_uses : (ops : List BodyOp) → length (uses_in (Result w 0) ops) ≤ use_count (position w.index) (map (op_by position) ops)
  few_uses [] = omega arith
  few_uses (o ∷ ops) =
      let sum : length (positions_in (Result w 0) o.id 0 o.operands ++ uses_in (Result w 0) ops) ≡ length (positions_in (Result w 0) o.id 0 o.operands) + length (uses_in (Result w 0) ops) =
      length-append (positions_in (Result w 0) o.id 0 o.operands) (uses_in (Result w 0) ops) in
      omega (arith, sum, few_among o.id 0 o.operands, few_uses ops)

-- a position stands at most as often as there are positions
pub times_few : (p : UsePosition) (xs : List UsePosition) → use_times p xs ≤ length xs
times_few p [] = omega arith
times_few p (x ∷ xs) = go (same_position x p) (times_few p xs)
  where
    go : (b : Bool) → use_times p xs ≤ length xs → cond b (suc (use_times p xs)) (use_times p xs) ≤ suc (length xs)
    go true h = omega (arith, h)
    go false h = omega (arith, h)
