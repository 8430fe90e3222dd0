-- Sweeps over a body in code that merge equal operations.
use Rattle.std.proofs.Common.{◌≡◌, ℕ, zero, suc, ◌+◌, ◌-◌, ◌<◌, ◌≤◌, Bool, true, false, cond, nat_eq, nat_lt, List, [], ◌∷◌, map, take, drop, length, Option, Some, None, remove, refl, sym, ap, subst, ◌∙◌, arith, option_and_then}
use Rattle.std.proofs.lemmas.Bool.{eqb-true, eqb-false, ltb-true, ltb-false}
use Rattle.std.proofs.lemmas.List.{length-map}
use Rattle.std.proofs.lemmas.Option.{slice_get_past}
use Rattle.hw_model.specs.Design.{Op}
use Rattle.edit_laws.specs.Edit.{retarget}
use Rattle.ir_store.specs.declared.body.Body.{Body}
use Rattle.ir_store.specs.declared.operation.OpId.{OpId}
use Rattle.ir_store.specs.Bodies.{ids_of, ops_of, op_id, first_id}
use Rattle.ir_store.specs.BodyOps.{ids_in}
use Rattle.ir_store.specs.Numbered.{position_of, op_by, ops_by_position}
use Rattle.fold_laws.specs.Unused.{is_pure}
use Rattle.body_edits.specs.FitBodies.{IsOfFit}
use Rattle.body_edits.specs.Views.{body_ops}
use Rattle.cse_pass.specs.declared.groups.Groups.{Groups}
use Rattle.cse_pass.specs.Cse.{Changes}
use Rattle.cse_pass.specs.EqualOps.{equal_position, equal_before}
use Rattle.cse_pass.specs.Groups.{IsGrouping}
use Rattle.cse_pass.specs.Merges.{merged_ref, merge_op, merge_at, merge_sweep, merges, IsMerged}
use Rattle.cse_pass.specs.Sweeps.{IsMergedAt, IsPassedAt, IsMergeSweep}
use Rattle.cse_pass.proofs.Following.{no_change, changes_then}
use Rattle.cse_pass.proofs.MergedVisits.{length-remove_one}

-- ---- lists

pub length-body_ops : (b : Body) → length (body_ops b) ≡ length (ids_of b)
unfolding body_ops
length-body_ops b = length-map (ops_of b) (op_by (position_of (ids_in (ops_of b)))) ∙ sym (length-map (ops_of b) (λ o. o.id))

drop_remove : {A : Type 0} (xs : List A) (i : ℕ) → drop i (remove xs i) ≡ drop (suc i) xs
drop_remove [] zero = refl
drop_remove [] (suc i) = refl
drop_remove (x ∷ xs) zero = refl
drop_remove (x ∷ xs) (suc i) = drop_remove xs i

pub same_ops : (b after : Body) → ops_of after ≡ ops_of b → body_ops after ≡ body_ops b
unfolding body_ops
same_ops b after same = ap ops_by_position same

-- ---- steps of a sweep by positions

sweep_at : (n i : ℕ) (os : List Op) (x : Option ℕ) → equal_before os i ≡ x → merge_sweep (suc n) i os ≡ merge_at (λ k xs. merge_sweep n k xs) i os x
sweep_at n i os x is = ap (merge_at (λ k xs. merge_sweep n k xs) i os) is

left_suc : (n i m : ℕ) → m + i + 1 ≡ n → n - i ≡ suc m
left_suc n i m is = omega (arith, is)

step_merged : (os after : List Op) (i j : ℕ) → i < length os → equal_before os i ≡ Some j → after ≡ merge_op i j os → merge_sweep (length os - i) i os ≡ merge_sweep (length after - i) i after
step_merged os after i j less equal is =
    ap (λ n. merge_sweep n i os) (left_suc (length os) i (length after - i) (omega (arith, size, less)))
    ∙ sweep_at (length after - i) i os (Some j) equal ∙ ap (merge_sweep (length after - i) i) (sym is)
  where
    size : length after + 1 ≡ length os
    size =
        ap (λ (n : ℕ). n + 1) (ap length is ∙ length-map (remove os i) (retarget (merged_ref i j)))
        ∙ length-remove_one os i less

step_passed : (os : List Op) (i : ℕ) → i < length os → equal_before os i ≡ None → merge_sweep (length os - i) i os ≡ merge_sweep (length os - suc i) (suc i) os
step_passed os i less none =
    ap (λ n. merge_sweep n i os) (left_suc (length os) i (length os - suc i) (omega (arith, less))) ∙ sweep_at (length os - suc i) i os None none

-- ---- a sweep on its way

pub record Sweeping (first body : Body) (groups : Groups) (position : ℕ) (at : Option OpId) (merged : Bool) : Type 0 where
  pub fit : IsOfFit body
  pub within : position ≤ length (ids_of body)
  pub stands : at ≡ first_id (map op_id (drop position (ids_of body)))
  pub grouped : IsGrouping groups (take position (ops_of body))
  pub left : merge_sweep (length (body_ops body) - position) position (body_ops body) ≡ merge_sweep (length (body_ops first)) 0 (body_ops first)
  pub changes : Changes (body_ops first) (body_ops body)
  pub most : length (body_ops body) ≤ length (body_ops first)
  pub fewer : merged ≡ true → length (body_ops body) < length (body_ops first)
  pub none : merged ≡ false → (k : ℕ) → k < position → equal_before (body_ops body) k ≡ None

pub begin_sweep : (b : Body) (groups : Groups) (at : Option OpId) → IsOfFit b → at ≡ first_id (map op_id (ids_of b)) → IsGrouping groups [] → Sweeping b b groups 0 at false
begin_sweep b groups at fit stands grouped = record {
  fit = fit;
  within = omega arith;
  stands = stands;
  grouped = grouped;
  left = ap (λ n. merge_sweep n 0 (body_ops b)) (omega arith);
  changes = no_change (body_ops b);
  most = omega arith;
  fewer = λ is. cc;
  none = λ is k less. absurd (omega (arith, less));
}

module _ (first body after : Body) (g groups : Groups) (i : ℕ) (op : Option OpId) (merged : Bool) (s : Sweeping first body g i op merged) (less : i < length (ids_of body)) (fit : IsOfFit after)
    (changes : Changes (body_ops body) (body_ops after)) (next : Option OpId) (next_is : next ≡ first_id (map op_id (drop (suc i) (ids_of body)))) where
  size : length (ids_of body) ≡ length (body_ops body)
  size = sym (length-body_ops body)

  pub sweep_merged : IsMergedAt body after groups i → Sweeping first after groups i next true
  sweep_merged v = record {
    fit = fit;
    within = omega (arith, shorter, less);
    stands = next_is ∙ ap (λ ids. first_id (map op_id ids)) (sym (drop_remove (ids_of body) i) ∙ ap (drop i) (sym v.ids));
    grouped = v.grouped;
    left = sym (step_merged (body_ops body) (body_ops after) i v.earlier (omega (arith, less, size)) v.equal v.ops) ∙ s.left;
    changes = changes_then (body_ops first) (body_ops body) (body_ops after) s.changes changes;
    most = omega (arith, shorter, s.most, size, length-body_ops after);
    fewer = λ is. omega (arith, shorter, s.most, size, length-body_ops after);
    none = λ is. cc;
  }
    where
      shorter : length (ids_of after) + 1 ≡ length (ids_of body)
      shorter = ap (λ (n : ℕ). n + 1) (ap length v.ids) ∙ length-remove_one (ids_of body) i less

  pub sweep_passed : IsPassedAt body after groups i → Sweeping first after groups (suc i) next merged
  sweep_passed v = record {
    fit = fit;
    within = subst (λ ids. suc i ≤ length ids) (sym ids) (omega (arith, less));
    stands = next_is ∙ ap (λ xs. first_id (map op_id (drop (suc i) xs))) (sym ids);
    grouped = v.grouped;
    left = ap (λ os. merge_sweep (length os - suc i) (suc i) os) ops ∙ sym (step_passed (body_ops body) i (omega (arith, less, size)) v.none) ∙ s.left;
    changes = changes_then (body_ops first) (body_ops body) (body_ops after) s.changes changes;
    most = subst (λ os. length os ≤ length (body_ops first)) (sym ops) s.most;
    fewer = λ is. subst (λ os. length os < length (body_ops first)) (sym ops) (s.fewer is);
    none = λ is k before. ap (λ os. equal_before os k) ops ∙ earlier is k before;
  }
    where
      ids : ids_of after ≡ ids_of body
      ids = ap ids_in v.ops

      ops : body_ops after ≡ body_ops body
      ops = same_ops body after v.ops

      earlier : merged ≡ false → (k : ℕ) → k < suc i → equal_before (body_ops body) k ≡ None
      earlier is k before = go (nat_eq k i) refl
        where
          go : (b : Bool) → nat_eq k i ≡ b → equal_before (body_ops body) k ≡ None
          go true same = ap (equal_before (body_ops body)) (eqb-true k i same) ∙ v.none
          go false other = s.none is k (let apart = eqb-false k i other in omega (arith, before, apart))

-- after the last operation
pub swept : (first body : Body) (g : Groups) (i : ℕ) (at : Option OpId) (merged : Bool) → Sweeping first body g i at merged → length (ids_of body) ≤ i → IsMergeSweep (body_ops first) merged (body_ops body)
swept first body g i at merged s passed = record {
  is = ap (λ n. merge_sweep n i (body_ops body)) zero_left ∙ s.left;
  fewer = s.fewer;
  none = λ is k. go is k (nat_lt k i) refl;
}
  where
    zero_left : 0 ≡ length (body_ops body) - i
    zero_left = omega (arith, passed, length-body_ops body)

    go : merged ≡ false → (k : ℕ) (b : Bool) → nat_lt k i ≡ b → equal_before (body_ops body) k ≡ None
    go is k true less = s.none is k (ltb-true k i less)
    go is k false past =
        ap (λ x. option_and_then (λ (o : Op). cond (is_pure o.kind) (equal_position o (take k (body_ops body))) None) x)
        (slice_get_past (body_ops body) k (omega (arith, ltb-false k i past, passed, length-body_ops body)))

-- ---- sweeps

pub record Merging (first body : Body) : Type 0 where
  pub fit : IsOfFit body
  pub sweeps : ℕ
  pub is : body_ops body ≡ merges sweeps (body_ops first)
  pub changes : Changes (body_ops first) (body_ops body)

merges_more : (n : ℕ) (os : List Op) → merges (suc n) os ≡ merge_sweep (length (merges n os)) 0 (merges n os)
merges_more zero os = refl
merges_more (suc n) os = merges_more n (merge_sweep (length os) 0 os)

pub begin_merging : (b : Body) → IsOfFit b → Merging b b
begin_merging b fit = record { fit = fit; sweeps = 0; is = refl; changes = no_change (body_ops b) }

module _ (first body after : Body) (merged : Bool) (m : Merging first body) (s : IsMergeSweep (body_ops body) merged (body_ops after)) where
  one_more : body_ops after ≡ merges (suc m.sweeps) (body_ops first)
  one_more = s.is ∙ ap (λ os. merge_sweep (length os) 0 os) m.is ∙ sym (merges_more m.sweeps (body_ops first))

  pub merging_more : IsOfFit after → Changes (body_ops body) (body_ops after) → Merging first after
  merging_more fit changes = record { fit = fit; sweeps = suc m.sweeps; is = one_more; changes = changes_then (body_ops first) (body_ops body) (body_ops after) m.changes changes }

  pub all_are_merged : merged ≡ false → IsMerged (body_ops first) (body_ops after)
  all_are_merged is = record { sweeps = suc m.sweeps; is = one_more; none_left = s.none is }

-- ---- how many operations are left

pub shorter : (b after : Body) (i : ℕ) → i < length (ids_of b) → ids_of after ≡ remove (ids_of b) i → length (ids_of after) + 1 ≡ length (ids_of b)
shorter b after i less is = ap (λ (n : ℕ). n + 1) (ap length is) ∙ length-remove_one (ids_of b) i less

pub same_length : (b after : Body) → ops_of after ≡ ops_of b → length (ids_of after) ≡ length (ids_of b)
same_length b after same = ap (λ os. length (ids_in os)) same
