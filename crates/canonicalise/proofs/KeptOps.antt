-- What the edits of a pattern keep of a body: the other operations, with their ids.
use Rattle.std.proofs.Common.{◌≡◌, ◌⊎◌, ℕ, zero, suc, ◌+◌, ◌≤◌, ◌<◌, Bool, true, false, nat_eq, List, [], ◌∷◌, length, map, set, remove, Some, None, slice_get, refl, sym, ap, subst, ◌∙◌, inl, inr, arith, eq-eqb, ne_eqb}
use Rattle.std.proofs.lemmas.Bool.{eqb-true, eqb-false}
use Rattle.std.proofs.lemmas.Option.{slice_get_within}
use Rattle.wiring.specs.Wiring.{In}
use Rattle.wiring.proofs.Lists.{slice_get-set_same, slice_get-set_other}
use Rattle.bits_core.specs.Word.{bit}
use Rattle.hw_model.specs.Design.{Ref, Op}
use Rattle.hw_model.specs.Design.Ref.{port, result, undefined}
use Rattle.edit_laws.specs.Edit.{retarget}
use Rattle.edit_laws.specs.Laws.{up, down, up_ref, without, erase_op, insert_op}
use Rattle.edit_laws.proofs.Positions.{down-up, get_put, get_taken, down_same}
use Rattle.fold_laws.specs.Edits.{Edit, edited_by}
use Rattle.fold_laws.specs.Edits.Edit.{changed, replaced, erased, put_in}
use Rattle.fold_laws.specs.Nested.{uses_among, use_count}
use Rattle.fold_laws.specs.Unused.{is_result_of}
use Rattle.fold_laws.proofs.PutIn.{next_op}
use Rattle.canonicalise.specs.Kept.{Keeps}
use Rattle.canonicalise.proofs.Edits.{keeps_set, pulled, pulled_is, pulled_suc, up_suc, keeps_erase, keeps_put, keeps_then, keeps_more}
use Rattle.canonicalise.proofs.PatternEdits.{IsTaken, TakesIn, IsShown}
use Rattle.body_edits.specs.Folded.{ids_edited_by, IsPatternEdit}

-- ids before and after edits, where new operations have a fresh one
pub record IsFreshOf (fresh : ℕ) (n : ℕ) (ids : List ℕ) : Type 0 where
  pub size : length ids ≡ n
  pub unused : (j : ℕ) → slice_get ids j ≡ Some fresh → ⊥

-- the operation at position k, if another one, is one that made an operand of that at position i, and has no other use; its id is
-- that of no operation afterwards
pub record IsGone (os : List Op) (old : Op) (k fresh : ℕ) (es : List Edit) : Type 0 where
  pub named : In (result k 0) old.operands
  pub once : use_count k os ≡ 1
  pub away : (ids : List ℕ) (n w : ℕ) → IsFreshOf fresh (length os) ids → slice_get (ids_edited_by fresh es ids) n ≡ Some w → slice_get ids k ≡ Some w
      → ((j : ℕ) → slice_get ids j ≡ Some w → j ≡ k) → ⊥

-- what the edits at position i keep: each operation but that one, and another one that goes
pub record IsKept (os : List Op) (i : ℕ) (old : Op) (es : List Edit) : Type 0 where
  pub name : Ref → Ref
  pub position : ℕ → ℕ
  pub lost : ℕ → ℕ
  pub gained : ℕ → ℕ
  pub inner : ℕ
  pub keeps : Keeps (λ j. (j ≡ i) ⊎ (j ≡ inner)) name position lost gained os (edited_by es os)
  pub few : (j : ℕ) → ((j ≡ i) ⊎ (j ≡ inner) → ⊥) → lost j ≤ gained j + uses_among j old.operands
  pub ids : (fresh : ℕ) (ids : List ℕ) → IsFreshOf fresh (length os) ids → (j : ℕ) → ((j ≡ i) ⊎ (j ≡ inner) → ⊥)
      → slice_get (ids_edited_by fresh es ids) (position j) ≡ slice_get ids j
  pub next : (j : ℕ) → ((j ≡ i) ⊎ (j ≡ inner) → ⊥) → ((suc j ≡ i) ⊎ (suc j ≡ inner) → ⊥) → position (suc j) ≡ suc (position j)
  pub goes : (fresh : ℕ) → (inner ≡ i) ⊎ IsGone os old inner fresh es

-- ---- forms

module _ (os : List Op) (i : ℕ) (old : Op) (there : slice_get os i ≡ Some old) where
  kept_changed : (o : Op) → IsKept os i old (changed i o ∷ [])
  kept_changed o = record {
    name = λ r. r;
    position = λ j. j;
    lost = λ j. uses_among j old.operands;
    gained = λ j. uses_among j o.operands;
    inner = i;
    keeps = keeps_more (λ j. j ≡ i) (λ j. (j ≡ i) ⊎ (j ≡ i)) (λ r. r) (λ j. j) (λ j. uses_among j old.operands) (λ j. uses_among j o.operands) os (set os i o)
        (λ j same. inl same) (keeps_set os i old o there);
    few = λ j other. omega arith;
    ids = λ fresh ids of j other. refl;
    next = λ j other more. refl;
    goes = λ fresh. inl refl;
  }

  kept_replaced : (o : Op) → IsKept os i old (replaced i o ∷ [])
  kept_replaced o = record {
    name = λ r. r;
    position = λ j. j;
    lost = λ j. uses_among j old.operands;
    gained = λ j. uses_among j o.operands;
    inner = i;
    keeps = keeps_more (λ j. j ≡ i) (λ j. (j ≡ i) ⊎ (j ≡ i)) (λ r. r) (λ j. j) (λ j. uses_among j old.operands) (λ j. uses_among j o.operands) os (set os i o)
        (λ j same. inl same) (keeps_set os i old o there);
    few = λ j other. omega arith;
    ids = λ fresh ids of j other. slice_get-set_other ids i j fresh (λ same. other (inl same));
    next = λ j other more. refl;
    goes = λ fresh. inl refl;
  }

  kept_erased : (x : Ref) → IsKept os i old (erased i x ∷ [])
  kept_erased x = record {
    name = without i (without i undefined x);
    position = pulled i;
    lost = λ j. uses_among j old.operands;
    gained = λ j. 0;
    inner = i;
    keeps = keeps_more (λ j. j ≡ i) (λ j. (j ≡ i) ⊎ (j ≡ i)) (without i (without i undefined x)) (pulled i)
        (λ j. uses_among j old.operands) (λ j. 0) os (erase_op i x os) (λ j same. inl same) (keeps_erase os i old x there);
    few = λ j other. omega arith;
    ids = λ fresh ids of j other. get_taken ids i j (pulled i j) (pulled_is i j (λ same. other (inl same)));
    next = λ j other more. pulled_suc i j (λ same. other (inl same)) (λ same. more (inl same));
    goes = λ fresh. inl refl;
  }

  -- another one goes too
  module _ (o : Op) (k : ℕ) (x : Ref) (taken : IsTaken os i k o) where
    same_old : taken.outer ≡ old
    same_old = let both : Some taken.outer ≡ Some old = sym taken.there ∙ there in cc

    abbrev both_keep : Type 0
    both_keep = Keeps (λ j. (j ≡ i) ⊎ (j ≡ k)) (λ r. without k (without k undefined x) r) (λ j. pulled k j)
        (λ j. uses_among j old.operands + uses_among j taken.inner.operands) (λ j. uses_among j o.operands + 0) os
        (erase_op k x (set os i o))

    kept_both : both_keep
    kept_both =
        keeps_then (λ j. j ≡ i) (λ j. j ≡ k) (λ r. r) (without k (without k undefined x)) (λ j. j) (pulled k)
        (λ j. uses_among j old.operands) (λ j. uses_among j o.operands) (λ j. uses_among j taken.inner.operands) (λ j. 0) os (set os i o)
        (erase_op k x (set os i o)) (keeps_set os i old o there)
        (keeps_erase (set os i o) k taken.inner x (slice_get-set_other os i k o taken.other ∙ taken.inside))

    few_both : (j : ℕ) → ((j ≡ i) ⊎ (j ≡ k) → ⊥) → uses_among j old.operands + uses_among j taken.inner.operands ≤ uses_among j o.operands + 0 + uses_among j old.operands
    few_both j other = omega (arith, taken.holds j (λ same. other (inr same)))

    -- the id of the other one is gone
    away : (ids : List ℕ) (n w : ℕ) → slice_get (remove ids k) n ≡ Some w → ((j : ℕ) → slice_get ids j ≡ Some w → j ≡ k) → ⊥
    away ids n w here only =
        let at : slice_get ids (up k n) ≡ Some w = sym (get_taken ids k (up k n) n (down-up k n)) ∙ here in
        let same : up k n ≡ k = only (up k n) at in
        let clash : Some n ≡ None = sym (down-up k n) ∙ ap (down k) same ∙ down_same k in
        cc

    kept_changed_one : IsKept os i old (changed i o ∷ erased k x ∷ [])
    kept_changed_one = record {
      name = λ r. without k (without k undefined x) r;
      position = λ j. pulled k j;
      lost = λ j. uses_among j old.operands + uses_among j taken.inner.operands;
      gained = λ j. uses_among j o.operands + 0;
      inner = k;
      keeps = kept_both;
      few = few_both;
      ids = λ fresh ids of j other. get_taken ids k j (pulled k j) (pulled_is k j (λ same. other (inr same)));
      next = λ j other more. pulled_suc k j (λ same. other (inr same)) (λ same. more (inr same));
      goes = λ fresh. inr (record {
        named = subst (λ (z : Op). In (result k 0) z.operands) same_old taken.named;
        once = taken.once;
        away = λ ids n w of here was only. away ids n w here only;
      });
    }

    -- with a fresh id in the place of the one that is replaced
    away_fresh : (fresh : ℕ) (ids : List ℕ) (n w : ℕ) → IsFreshOf fresh (length os) ids → slice_get (remove (set ids i fresh) k) n ≡ Some w → slice_get ids k ≡ Some w
        → ((j : ℕ) → slice_get ids j ≡ Some w → j ≡ k) → ⊥
    away_fresh fresh ids n w of here was only = go (nat_eq (up k n) i) refl
      where
        at : slice_get (set ids i fresh) (up k n) ≡ Some w
        at = sym (get_taken (set ids i fresh) k (up k n) n (down-up k n)) ∙ here

        go : (b : Bool) → nat_eq (up k n) i ≡ b → ⊥
        go true is =
            let same : up k n ≡ i = eqb-true (up k n) i is in
            let within : i < length ids = (let size = of.size in let below = slice_get_within os i old there in omega (arith, size, below)) in
            let new : slice_get (set ids i fresh) i ≡ Some fresh = slice_get-set_same ids i fresh within in
            let equal : Some fresh ≡ Some w = sym new ∙ ap (slice_get (set ids i fresh)) (sym same) ∙ at in
            let one : w ≡ fresh = cc in
            of.unused k (was ∙ ap Some one)
        go false is =
            let old_one : slice_get ids (up k n) ≡ Some w = sym (slice_get-set_other ids i (up k n) fresh (eqb-false (up k n) i is)) ∙ at in
            let same : up k n ≡ k = only (up k n) old_one in
            let clash : Some n ≡ None = sym (down-up k n) ∙ ap (down k) same ∙ down_same k in
            cc

    kept_replaced_one : IsKept os i old (replaced i o ∷ erased k x ∷ [])
    kept_replaced_one = record {
      name = λ r. without k (without k undefined x) r;
      position = λ j. pulled k j;
      lost = λ j. uses_among j old.operands + uses_among j taken.inner.operands;
      gained = λ j. uses_among j o.operands + 0;
      inner = k;
      keeps = kept_both;
      few = few_both;
      ids = λ fresh ids of j other.
          get_taken (set ids i fresh) k j (pulled k j) (pulled_is k j (λ same. other (inr same))) ∙ slice_get-set_other ids i j fresh (λ same. other (inl same));
      next = λ j other more. pulled_suc k j (λ same. other (inr same)) (λ same. more (inr same));
      goes = λ fresh. inr (record {
        named = subst (λ (z : Op). In (result k 0) z.operands) same_old taken.named;
        once = taken.once;
        away = away_fresh fresh;
      });
    }

  -- ---- one is put in

  up_self : (n : ℕ) → up n n ≡ suc n
  up_self zero = refl
  up_self (suc n) = ap suc (up_self n)

  up_one : (j k : ℕ) → up i j ≡ up i k → j ≡ k
  up_one j k same = let one : Some j ≡ Some k = sym (down-up i j) ∙ ap (down i) same ∙ down-up i k in cc

  up_uses : (j : ℕ) (rs : List Ref) → uses_among (up i j) (map (up_ref i) rs) ≤ uses_among j rs
  up_uses j [] = omega arith
  up_uses j (r ∷ rs) = omega (arith, one r, up_uses j rs)
    where
      one : (r : Ref) → bit (is_result_of (up i j) (up_ref i r)) ≤ bit (is_result_of j r)
      one (port n) = omega arith
      one undefined = omega arith
      one (result l n) = go (nat_eq l j) refl
        where
          go : (b : Bool) → nat_eq l j ≡ b → bit (nat_eq (up i l) (up i j)) ≤ bit b
          go true is =
              let same : bit (nat_eq (up i l) (up i j)) ≡ 1 = ap bit (eq-eqb (up i l) (up i j) (ap (up i) (eqb-true l j is))) in
              omega (arith, same)
          go false is =
              let other : bit (nat_eq (up i l) (up i j)) ≡ 0 = ap bit (ne_eqb (up i l) (up i j) (λ e. eqb-false l j is (up_one l j e))) in
              omega (arith, other)

  module _ (c p : Op) where
    within : i ≤ length os
    within = let below = slice_get_within os i old there in omega (arith, below)

    kept_put : IsKept os i old (put_in i c ∷ changed (suc i) p ∷ [])
    kept_put = record {
      name = λ r. up_ref i r;
      position = λ j. up i j;
      lost = λ j. 0 + uses_among (up i j) (map (up_ref i) old.operands);
      gained = λ j. 0 + uses_among (up i j) p.operands;
      inner = i;
      keeps = keeps_more (λ j. ⊥ ⊎ (up i j ≡ suc i)) (λ j. (j ≡ i) ⊎ (j ≡ i)) (λ r. up_ref i r) (λ j. up i j)
          (λ j. 0 + uses_among (up i j) (map (up_ref i) old.operands)) (λ j. 0 + uses_among (up i j) p.operands) os (set (insert_op i c os) (suc i) p) only
          (keeps_then (λ j. ⊥) (λ j. j ≡ suc i) (up_ref i) (λ r. r) (up i) (λ j. j) (λ j. 0) (λ j. 0)
          (λ j. uses_among j (map (up_ref i) old.operands)) (λ j. uses_among j p.operands) os (insert_op i c os) (set (insert_op i c os) (suc i) p)
          (keeps_put os i c within) (keeps_set (insert_op i c os) (suc i) (retarget (up_ref i) old) p (next_op os i c within old there)));
      few = λ j other. omega (arith, up_uses j old.operands);
      ids = λ fresh ids of j other. get_put ids i j fresh (let size = of.size in omega (arith, size, within));
      next = λ j other more. up_suc i j (λ same. more (inl same));
      goes = λ fresh. inl refl;
    }
      where
        only : (j : ℕ) → ⊥ ⊎ (up i j ≡ suc i) → (j ≡ i) ⊎ (j ≡ i)
        only j (inl none) = absurd none
        only j (inr same) = inl (up_one j i (same ∙ sym (up_self i)))

  -- ---- all forms

  pub pattern_keeps : (es : List Edit) → IsPatternEdit (length os) i es → IsShown os i es → IsKept os i old es
  pattern_keeps es form shown = go es form shown.takes
    where
      go : (es : List Edit) → IsPatternEdit (length os) i es → TakesIn os i es → IsKept os i old es
      go (changed j o ∷ []) same taken = subst (λ m. IsKept os i old (changed m o ∷ [])) (sym same) (kept_changed o)
      go (replaced j o ∷ []) same taken = subst (λ m. IsKept os i old (replaced m o ∷ [])) (sym same) (kept_replaced o)
      go (erased j x ∷ []) same taken = subst (λ m. IsKept os i old (erased m x ∷ [])) (sym same) (kept_erased x)
      go (changed j o ∷ erased k x ∷ []) (same, other, less) taken = subst (λ m. IsKept os i old (changed m o ∷ erased k x ∷ [])) (sym same) (kept_changed_one o k x taken)
      go (replaced j o ∷ erased k x ∷ []) (same, other, less) taken = subst (λ m. IsKept os i old (replaced m o ∷ erased k x ∷ [])) (sym same) (kept_replaced_one o k x taken)
      go (put_in j o ∷ changed k p ∷ []) (same, next) taken =
          subst (λ m. IsKept os i old (put_in m o ∷ changed k p ∷ [])) (sym same) (subst (λ m. IsKept os i old (put_in i o ∷ changed m p ∷ [])) (sym next) (kept_put o p))
      go _ form taken = absurd form
