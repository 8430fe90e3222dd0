-- What becomes of marks.
use Rattle.std.proofs.Common.{◌≡◌, ◌⊎◌, ℕ, zero, suc, ◌+◌, ◌≤◌, ◌<◌, Bool, true, false, cond, not, nat_eq, get_or, List, [], ◌∷◌, ◌++◌, length, set, Option, Some, None, is_some, MatchOption, slice_get, refl, sym, ap, ◌∙◌, inl, inr, arith}
use Rattle.std.specs.Prelude.{Contains}
use Rattle.std.proofs.lemmas.Bool.{eqb-true, eqb-false}
use Rattle.hw_model.specs.Equality.{both_of}
use Rattle.ir_store.specs.declared.body.Body.{Body}
use Rattle.ir_store.specs.declared.operation.OpId.{OpId}
use Rattle.ir_store.specs.declared.operation.Value.{Value}
use Rattle.ir_store.specs.declared.operation.Value.TheVariants.{Result}
use Rattle.ir_store.specs.Bodies.{ids_of, ops_of}
use Rattle.ir_store.specs.declared.operation.UsePosition.{UsePosition}
use Rattle.ir_store.specs.Uses.{uses_in, same_position, use_times}
use Rattle.body_edits.proofs.OnlyUses.{as_many}
use Rattle.canonicalise.specs.Settled.{IsApart}

-- ---- flags

pub pushed_false : (xs : List Bool) (i : ℕ) → slice_get (xs ++ false ∷ []) i ≡ Some true → slice_get xs i ≡ Some true
pushed_false [] zero is = cc
pushed_false [] (suc i) is = cc
pushed_false (x ∷ xs) zero is = is
pushed_false (x ∷ xs) (suc i) is = pushed_false xs i is

pub set_true : (xs : List Bool) (n i : ℕ) → slice_get (set xs n true) i ≡ Some true → (i ≡ n) ⊎ (slice_get xs i ≡ Some true)
set_true [] n i is = cc
set_true (x ∷ xs) zero zero is = inl refl
set_true (x ∷ xs) zero (suc i) is = inr is
set_true (x ∷ xs) (suc n) zero is = inr is
set_true (x ∷ xs) (suc n) (suc i) is = further (set_true xs n i is)
  where
    further : (i ≡ n) ⊎ (slice_get xs i ≡ Some true) → (suc i ≡ suc n) ⊎ (slice_get xs i ≡ Some true)
    further (inl same) = inl (ap suc same)
    further (inr was) = inr was

pub set_false : (xs : List Bool) (n i : ℕ) → slice_get (set xs n false) i ≡ Some true → (slice_get xs i ≡ Some true) × (i ≡ n → ⊥)
set_false [] n i is = cc
set_false (x ∷ xs) zero zero is = cc
set_false (x ∷ xs) zero (suc i) is = (is, λ same. omega (arith, same))
set_false (x ∷ xs) (suc n) zero is = (is, λ same. omega (arith, same))
set_false (x ∷ xs) (suc n) (suc i) is = let rest = set_false xs n i is in (rest.0, λ same. rest.1 (omega (arith, same)))

-- what is not among the flags is not true
pub past_true : (xs : List Bool) (i : ℕ) → slice_get xs i ≡ Some true → i < length xs
past_true [] i is = cc
past_true (x ∷ xs) zero is = omega arith
past_true (x ∷ xs) (suc i) is = omega (arith, past_true xs i is)

-- ---- walks along uses

-- a position of another operation leaves the others to come
pub position_passed : (p q : UsePosition) (ps qs : List UsePosition) → ps ≡ q ∷ qs → (p.op.index ≡ q.op.index → ⊥) → use_times p ps ≡ use_times p qs
position_passed p q ps qs is other = ap (use_times p) is ∙ go (same_position q p) refl
  where
    go : (b : Bool) → same_position q p ≡ b → cond b (suc (use_times p qs)) (use_times p qs) ≡ use_times p qs
    go false other_one = refl
    go true one = absurd (other (sym (eqb-true q.op.index p.op.index (both_of (nat_eq q.op.index p.op.index) (nat_eq q.at p.at) one).0)))

-- a position among one is that of its operation
pub only_position : (p q : UsePosition) → 1 ≤ use_times p (q ∷ []) → p.op.index ≡ q.op.index
only_position p q some = go (same_position q p) refl some
  where
    go : (b : Bool) → same_position q p ≡ b → 1 ≤ cond b 1 0 → p.op.index ≡ q.op.index
    go false other_one few = absurd (omega (arith, few))
    go true one few = sym (eqb-true q.op.index p.op.index (both_of (nat_eq q.op.index p.op.index) (nat_eq q.at p.at) one).0)

-- nothing is left where nothing comes next, and else something
pub none_left : (r : Option UsePosition) (ps qs : List UsePosition) (t : Bool) → is_some r ≡ not t → t ≡ true → MatchOption r ((ps ≡ []) × (qs ≡ [])) (λ p. ps ≡ p ∷ qs) → ps ≡ []
none_left None ps qs t is test left = left.0
none_left (Some p) ps qs t is test left = let clash : true ≡ false = is ∙ ap not test in cc

pub some_left : (r : Option UsePosition) (ps qs : List UsePosition) (t : Bool) → is_some r ≡ not t → t ≡ false → MatchOption r ((ps ≡ []) × (qs ≡ [])) (λ p. ps ≡ p ∷ qs) → 1 ≤ length ps
some_left None ps qs t is test left = let clash : false ≡ true = is ∙ ap not test in cc
some_left (Some p) ps qs t is test left = let size : length ps ≡ suc (length qs) = ap length left in omega (arith, size)

-- values one by one
pub values_step : (b : Body) (values : List Value) (i id : ℕ) (d : Value) → ((k : ℕ) (op : OpId) (n : ℕ) → k < i → slice_get values k ≡ Some (Result op n) → IsApart b op id)
    → ((op : OpId) (n : ℕ) → get_or values i d ≡ Result op n → IsApart b op id) → (k : ℕ) (op : OpId) (n : ℕ) → k < i + 1 → slice_get values k ≡ Some (Result op n) → IsApart b op id
values_step b values i id d before here k op n less at = go (nat_eq k i) refl
  where
    got : (xs : List Value) (j : ℕ) (x : Value) → slice_get xs j ≡ Some x → get_or xs j d ≡ x
    got [] j x is = cc
    got (y ∷ ys) zero x is = cc
    got (y ∷ ys) (suc j) x is = got ys j x is

    go : (t : Bool) → nat_eq k i ≡ t → IsApart b op id
    go true same = here op n (got values i (Result op n) (ap (slice_get values) (sym (eqb-true k i same)) ∙ at))
    go false other = before k op n (omega (arith, less, eqb-false k i other)) at

-- ---- operations apart from one that is there, by the uses of its first result

module _ (b : Body) (op : OpId) (there : Contains (ids_of b) op.index) (ps : List UsePosition) (told : (q : UsePosition) → use_times q ps ≡ use_times q (uses_in (Result op 0) (ops_of b))) where
  as_long : length ps ≡ length (uses_in (Result op 0) (ops_of b))
  as_long = as_many ps (uses_in (Result op 0) (ops_of b)) told

  pub apart_one : (p : UsePosition) (qs : List UsePosition) (id : ℕ) → ps ≡ p ∷ qs → qs ≡ [] → (id ≡ p.op.index → ⊥) → IsApart b op id
  apart_one p qs id is last other =
      let one : ps ≡ p ∷ [] = is ∙ ap (λ zs. p ∷ zs) last in
      let size : length ps ≡ 1 = ap length one in
      record {
        gone = λ away. absurd (away there);
        unused = λ none same. absurd (omega (arith, as_long, size, none));
        single = λ here count user.
            let some : use_times user.position (p ∷ []) ≡ use_times user.position (uses_in (Result op 0) (ops_of b)) = sym (ap (use_times user.position) one) ∙ told user.position in
            other (sym user.own ∙ only_position user.position p (let used = user.used in omega (arith, used, some)));
      }

  pub apart_many : (p : UsePosition) (qs : List UsePosition) (id : ℕ) → ps ≡ p ∷ qs → 1 ≤ length qs → IsApart b op id
  apart_many p qs id is more =
      let size : length ps ≡ suc (length qs) = ap length is in
      record {
        gone = λ away. absurd (away there);
        unused = λ none same. absurd (omega (arith, as_long, size, none));
        single = λ here count user. absurd (omega (arith, as_long, size, more, count));
      }
