-- A constant before another operand may be moved to the end: the value stays, and fewer constants stand before other operands.
use Rattle.std.proofs.Common.{◌≡◌, ℕ, zero, suc, ◌+◌, ◌<◌, ◌≤◌, Bool, true, false, cond, not, ◌&&◌, ◌||◌, List, [], ◌∷◌, ◌++◌, length, map, set, Some, slice_get, refl, sym, ap, ap₂, subst, ◌∙◌, inl, inr, arith, length-append, option_map}
use Rattle.std.specs.Prelude.{is_some}
use Rattle.std.proofs.lemmas.List.{map-append}
use mathlib.Core.Path.{fun_ext}
use Rattle.wiring.specs.Wiring.{In}
use Rattle.wiring.proofs.Members.{In-append_cases}
use Rattle.wiring.proofs.Options.{option_map_some}
use Rattle.bits_core.specs.Word.{Word}
use Rattle.hw_model.specs.Equality.{both_of}
use Rattle.hw_model.specs.Kinds.{Variadic}
use Rattle.hw_model.specs.Kinds.Kind.{variadic}
use Rattle.hw_model.specs.Design.{Ref, Op}
use Rattle.hw_model.specs.Design.Ref.{port, result, undefined}
use Rattle.hw_model.specs.Value.{variadic_value}
use Rattle.fold_laws.specs.Constants.{first_result_word}
use Rattle.fold_laws.specs.ConstantOperands.{has_other, with_first_last, constant_last}
use Rattle.fold_laws.specs.Fold.{kind_measure, op_measure, measure, is_constant_in, count_others, pairs_before, kind_misplaced, misplaced_by, misplaced, IsSmaller}
use Rattle.fold_laws.proofs.FewerOperands.{like_itself, OperandsLaw}
use Rattle.fold_laws.proofs.Measures.{measure-set}
use Rattle.fold_laws.proofs.VariadicValues.{value_more, value_moved}

-- ---- operands

-- what a list with a value moved to the end has
record MovesLast (test : Ref → Bool) (rs rs' : List Ref) : Type 0 where
  count : length rs' ≡ length rs
  within : (r : Ref) → In r rs' → In r rs
  others : count_others test rs' ≡ count_others test rs
  fewer : pairs_before test rs' < pairs_before test rs
  same : (v : Variadic) (w : ℕ) (τ : Ref → Word) → variadic_value v w (map τ rs) ≡ variadic_value v w (map τ rs')

module _ (test : Ref → Bool) where
  -- a value that meets the test adds nothing at the end
  others_end : (x : Ref) → test x ≡ true → (xs : List Ref) → count_others test (xs ++ x ∷ []) ≡ count_others test xs
  others_end x met [] = ap (λ b. cond b 0 1) met
  others_end x met (y ∷ ys) = ap (λ n. cond (test y) n (suc n)) (others_end x met ys)

  pairs_end : (x : Ref) → test x ≡ true → (xs : List Ref) → pairs_before test (xs ++ x ∷ []) ≡ pairs_before test xs
  pairs_end x met [] = ap (λ b. cond b 0 0 + 0) met
  pairs_end x met (y ∷ ys) = ap₂ (λ n m. cond (test y) n 0 + m) (others_end x met ys) (pairs_end x met ys)

  -- some value does not meet it
  some_other : (xs : List Ref) → has_other test xs ≡ true → 1 ≤ count_others test xs
  some_other [] is = cc
  some_other (x ∷ xs) is = go (test x) is (some_other xs)
    where
      go : (b : Bool) → (not b || has_other test xs) ≡ true → (has_other test xs ≡ true → 1 ≤ count_others test xs) → 1 ≤ cond b (count_others test xs) (suc (count_others test xs))
      go true h rest = rest h
      go false h rest = omega arith

  moved_here : (x : Ref) (xs : List Ref) → test x ≡ true → has_other test xs ≡ true → MovesLast test (x ∷ xs) (xs ++ x ∷ [])
  moved_here x xs met other = record {
    count = let sum : length (xs ++ x ∷ []) ≡ length xs + 1 = length-append xs (x ∷ []) in omega arith;
    within = λ r here. within_end r here;
    others = others_end x met xs ∙ sym (ap (λ b. cond b (count_others test xs) (suc (count_others test xs))) met);
    fewer =
        let same : pairs_before test (xs ++ x ∷ []) ≡ pairs_before test xs = pairs_end x met xs in
        let first : cond (test x) (count_others test xs) 0 ≡ count_others test xs = ap (λ b. cond b (count_others test xs) 0) met in
        let some : 1 ≤ count_others test xs = some_other xs other in
        omega arith;
    same = λ v w τ. value_moved v w (τ x) (map τ xs) ∙ ap (variadic_value v w) (sym (map-append τ xs (x ∷ [])));
  }
    where
      within_end : (r : Ref) → In r (xs ++ x ∷ []) → In r (x ∷ xs)
      within_end r here = elim (In-append_cases r xs (x ∷ []) here) as (λ _. In r (x ∷ xs)) [ inl there ↦ inr there | inr last ↦ at_end last ]
        where
          at_end : In r (x ∷ []) → In r (x ∷ xs)
          at_end (inl one) = inl one
          at_end (inr none) = absurd none

  moved_later : (x : Ref) (xs ys : List Ref) → MovesLast test xs ys → MovesLast test (x ∷ xs) (x ∷ ys)
  moved_later x xs ys inner = record {
    count = ap suc inner.count;
    within = λ r here. within_more r here;
    others = ap (λ n. cond (test x) n (suc n)) inner.others;
    fewer =
        let first : cond (test x) (count_others test ys) 0 ≡ cond (test x) (count_others test xs) 0 = ap (λ n. cond (test x) n 0) inner.others in
        let rest : pairs_before test ys < pairs_before test xs = inner.fewer in
        omega arith;
    same = λ v w τ. value_more v w (τ x) (map τ xs) (map τ ys) (inner.same v w τ);
  }
    where
      within_more : (r : Ref) → In r (x ∷ ys) → In r (x ∷ xs)
      within_more r (inl here) = inl here
      within_more r (inr here) = inr (inner.within r here)

  moves_last : (rs rs' : List Ref) → with_first_last test rs ≡ Some rs' → MovesLast test rs rs'
  moves_last [] rs' is = cc
  moves_last (x ∷ xs) rs' is = go (test x && has_other test xs) refl is (moves_last xs)
    where
      go : (b : Bool) → (test x && has_other test xs) ≡ b → cond b (Some (xs ++ x ∷ [])) (option_map (λ (ys : List Ref). x ∷ ys) (with_first_last test xs)) ≡ Some rs'
          → ((ys : List Ref) → with_first_last test xs ≡ Some ys → MovesLast test xs ys) → MovesLast test (x ∷ xs) rs'
      go true both h later =
          let parts = both_of (test x) (has_other test xs) both in
          let same : xs ++ x ∷ [] ≡ rs' = cc in
          subst (MovesLast test (x ∷ xs)) same (moved_here x xs parts.0 parts.1)
      go false both h later =
          let rest = option_map_some (λ (ys : List Ref). x ∷ ys) (with_first_last test xs) h in
          subst (MovesLast test (x ∷ xs)) rest.2 (moved_later x xs rest.0 (later rest.0 rest.1))

-- ---- the body

module _ (i : ℕ) (o : Op) (rs : List Ref) where
  -- the same values are constants
  word_same : (os : List Op) (i j : ℕ) → slice_get os i ≡ Some o → first_result_word (slice_get (set os i (record o { operands = rs })) j) ≡ first_result_word (slice_get os j)
  word_same [] i j there = refl
  word_same (y ∷ ys) zero zero there = let same : o ≡ y = cc in ap (λ z. first_result_word (Some z)) same
  word_same (y ∷ ys) zero (suc j) there = refl
  word_same (y ∷ ys) (suc i) zero there = refl
  word_same (y ∷ ys) (suc i) (suc j) there = word_same ys i j there

  constants_same : (os : List Op) → slice_get os i ≡ Some o → (r : Ref) → is_constant_in (set os i (record o { operands = rs })) r ≡ is_constant_in os r
  constants_same os there (port j) = refl
  constants_same os there undefined = refl
  constants_same os there (result j (suc k)) = refl
  constants_same os there (result j zero) = ap is_some (word_same os i j there)

misplaced-set : (test : Ref → Bool) (os : List Op) (i : ℕ) (o o' : Op) → slice_get os i ≡ Some o
    → kind_misplaced test o.kind o.operands + misplaced_by test (set os i o') ≡ kind_misplaced test o'.kind o'.operands + misplaced_by test os
misplaced-set test [] i o o' is = cc
misplaced-set test (y ∷ ys) zero o o' is =
    let same : o ≡ y = cc in
    let equal : kind_misplaced test o.kind o.operands ≡ kind_misplaced test y.kind y.operands = ap (λ (z : Op). kind_misplaced test z.kind z.operands) same in
    omega arith
misplaced-set test (y ∷ ys) (suc i) o o' is =
    let rest : kind_misplaced test o.kind o.operands + misplaced_by test (set ys i o') ≡ kind_misplaced test o'.kind o'.operands + misplaced_by test ys = misplaced-set test ys i o o' is in
    omega arith

-- as many operands with fewer constants before others make the body smaller
moved_smaller : (os : List Op) (i : ℕ) (o : Op) (v : Variadic) (rs : List Ref) → slice_get os i ≡ Some o → o.kind ≡ variadic v → MovesLast (is_constant_in os) o.operands rs
    → IsSmaller (set os i (record o { operands = rs })) os
moved_smaller os i o v rs there kind moves =
    let sum : op_measure o + measure (set os i (record o { operands = rs })) ≡ op_measure (record o { operands = rs }) + measure os =
    measure-set os i o (record o { operands = rs }) there in
    let equal : op_measure (record o { operands = rs }) ≡ op_measure o = ap (kind_measure o.kind) moves.count in
    let tests : is_constant_in (set os i (record o { operands = rs })) ≡ is_constant_in os = fun_ext (constants_same i o rs os there) in
    let counted : misplaced (set os i (record o { operands = rs })) ≡ misplaced_by (is_constant_in os) (set os i (record o { operands = rs })) =
    ap (λ (test : Ref → Bool). misplaced_by test (set os i (record o { operands = rs }))) tests in
    let pairs : kind_misplaced (is_constant_in os) o.kind o.operands + misplaced_by (is_constant_in os) (set os i (record o { operands = rs }))
    ≡ kind_misplaced (is_constant_in os) o.kind rs + misplaced_by (is_constant_in os) os = misplaced-set (is_constant_in os) os i o (record o { operands = rs }) there in
    let less : kind_misplaced (is_constant_in os) o.kind rs < kind_misplaced (is_constant_in os) o.kind o.operands =
    subst (λ z. kind_misplaced (is_constant_in os) z rs < kind_misplaced (is_constant_in os) z o.operands) (sym kind) moves.fewer in
    inr (omega arith, omega arith)

pub constant_last_law : OperandsLaw constant_last
constant_last_law ports os i o v rs there kind is =
    let moves = moves_last (is_constant_in os) o.operands rs is in
    let some : 1 ≤ length rs = some_moved o.operands rs is moves.count in (
      record {
        no_more = omega (arith, moves.count);
        some = some;
        within = λ r here. like_itself ports os o.operands r (moves.within r here);
        words = λ w τ held wide. moves.same v w τ;
      },
      moved_smaller os i o v rs there kind moves,
    )
  where
    some_moved : (qs qs' : List Ref) → with_first_last (is_constant_in os) qs ≡ Some qs' → length qs' ≡ length qs → 1 ≤ length qs'
    some_moved [] qs' none count = cc
    some_moved (q ∷ qs) qs' made count = omega (arith, count)
