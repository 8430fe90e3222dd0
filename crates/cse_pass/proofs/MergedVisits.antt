-- A body in code in which an operation is merged into the first one that is equal: what it is by positions, and the groups.
use Rattle.std.proofs.Common.{◌≡◌, ℕ, zero, suc, ◌+◌, ◌<◌, ◌≤◌, Bool, true, false, cond, ◌&&◌, ◌||◌, nat_eq, List, [], ◌∷◌, map, take, filter, length, Some, remove, refl, sym, ap, ap₂, subst, ◌∙◌, arith}
use Rattle.std.specs.List.{list_any}
use Rattle.std.proofs.lemmas.List.{take-map}
use Rattle.op_checks.proofs.Widths.{neither}
use Rattle.ir_store.specs.declared.body.Body.{Body}
use Rattle.ir_store.specs.declared.operation.OpId.{OpId}
use Rattle.ir_store.specs.declared.operation.Value.{Value}
use Rattle.ir_store.specs.declared.operation.Value.TheVariants.{Port, Result, Undefined}
use Rattle.ir_store.specs.Bodies.{ids_of, ops_of, op_id}
use Rattle.ir_store.specs.BodyOps.{BodyOp, ids_in, taken_out, is_of, names_in}
use Rattle.ir_store.specs.Numbered.{position_of, ops_by_position}
use Rattle.fold_laws.specs.Unused.{is_pure}
use Rattle.body_edits.specs.FitBodies.{IsOfFit}
use Rattle.body_edits.specs.Views.{HasOp, body_ops, position_in}
use Rattle.body_edits.proofs.FitOps.{fit_live}
use Rattle.body_edits.proofs.IdsAfter.{ids_left}
use Rattle.body_edits.proofs.Positions.{position_within}
use Rattle.cse_pass.specs.declared.groups.Groups.{Groups}
use Rattle.cse_pass.specs.Cse.{Changes}
use Rattle.cse_pass.specs.EqualOps.{equal_before, EqualFound}
use Rattle.cse_pass.specs.Groups.{group_in, is_noted, has_hash, takes_purely, IsGrouping}
use Rattle.cse_pass.specs.Hashes.{hash_of}
use Rattle.cse_pass.specs.Merges.{merge_op, MergesInto}
use Rattle.cse_pass.specs.Sweeps.{merged_value, with_merged, IsMergedInto, IsMergedAt}
use Rattle.cse_pass.proofs.EqualPositions.{equal_found}
use Rattle.cse_pass.proofs.Following.{fit_after, merges_change, no_change}
use Rattle.cse_pass.proofs.MergeRuns.{one_merge}
use Rattle.cse_pass.proofs.MergedBodies.{ids_merged, numbered_merge}

-- ---- lists

pub length-remove_one : {A : Type 0} (xs : List A) (i : ℕ) → i < length xs → length (remove xs i) + 1 ≡ length xs
length-remove_one [] i less = absurd (omega (arith, less))
length-remove_one (x ∷ xs) zero less = omega arith
length-remove_one (x ∷ xs) (suc i) less = let rest = length-remove_one xs i (omega (arith, less)) in omega (arith, rest)

-- what stands before an operation that is taken out
take_out : (id : ℕ) (ops : List BodyOp) → take (position_of (ids_in ops) id) (taken_out id ops) ≡ take (position_of (ids_in ops) id) ops
take_out id [] = refl
take_out id (o ∷ ops) = go (nat_eq o.id id) (take_out id ops)
  where
    go : (b : Bool) → take (position_of (ids_in ops) id) (taken_out id ops) ≡ take (position_of (ids_in ops) id) ops
        → take (cond b 0 (suc (position_of (ids_in ops) id))) (cond b ops (o ∷ taken_out id ops)) ≡ take (cond b 0 (suc (position_of (ids_in ops) id))) (o ∷ ops)
    go true rest = refl
    go false rest = ap (λ os. o ∷ os) rest

-- ---- groups, where no pure operation takes what is merged

module _ (op first : OpId) where
  not_taken : (vs : List Value) → names_in op.index vs ≡ false → map (merged_value op first) vs ≡ vs
  not_taken [] none = refl
  not_taken (v ∷ vs) none = go (is_of op.index v) refl none (not_taken vs)
    where
      stays : (w : Value) → is_of op.index w ≡ false → merged_value op first w ≡ w
      stays (Port k) other = refl
      stays Undefined other = refl
      stays (Result id k) other = ap (λ b. cond b (Result first k) (Result id k)) other

      go : (b : Bool) → is_of op.index v ≡ b → cond b true (names_in op.index vs) ≡ false → (names_in op.index vs ≡ false → map (merged_value op first) vs ≡ vs)
          → map (merged_value op first) (v ∷ vs) ≡ v ∷ vs
      go true is none rest = cc
      go false is none rest = ap₂ (λ w ws. w ∷ ws) (stays v is) (rest none)

  -- an operation that is not pure, or takes no result of it, is grouped alike
  same_tests : (o : BodyOp) → takes_purely op.index o ≡ false
      → ((h : ℕ) → has_hash h (with_merged op first o) ≡ has_hash h o) × ((id : ℕ) → takes_purely id (with_merged op first o) ≡ takes_purely id o)
  unfolding takes_purely has_hash
  same_tests o none = go (is_pure o.parts.kind) none
    where
      go : (p : Bool) → p && names_in op.index o.operands ≡ false
          → ((h : ℕ) → p && nat_eq (hash_of o.parts (map (merged_value op first) o.operands)) h ≡ p && nat_eq (hash_of o.parts o.operands) h)
          × ((id : ℕ) → p && names_in id (map (merged_value op first) o.operands) ≡ p && names_in id o.operands)
      go false none = (λ h. refl, λ id. refl)
      go true none =
          let same = not_taken o.operands none in
          (λ h. ap (λ vs. nat_eq (hash_of o.parts vs) h) same, λ id. ap (names_in id) same)

  same_group : (h : ℕ) (ops : List BodyOp) → list_any (takes_purely op.index) ops ≡ false → group_in h (map (with_merged op first) ops) ≡ group_in h ops
  same_group h [] none = refl
  same_group h (o ∷ ops) none =
      let parts = neither (takes_purely op.index o) (list_any (takes_purely op.index) ops) none in
      ap (λ b. map (λ (p : BodyOp). op_id p.id) (cond b (with_merged op first o ∷ filter (has_hash h) (map (with_merged op first) ops)) (filter (has_hash h) (map (with_merged op first) ops))))
      ((same_tests o parts.0).0 h)
      ∙ go (has_hash h o) (same_group h ops parts.1)
    where
      go : (b : Bool) → group_in h (map (with_merged op first) ops) ≡ group_in h ops
          → map (λ (p : BodyOp). op_id p.id) (cond b (with_merged op first o ∷ filter (has_hash h) (map (with_merged op first) ops)) (filter (has_hash h) (map (with_merged op first) ops)))
          ≡ map (λ (p : BodyOp). op_id p.id) (cond b (o ∷ filter (has_hash h) ops) (filter (has_hash h) ops))
      go true rest = ap (λ ids. op_id o.id ∷ ids) rest
      go false rest = rest

  same_taking : (id : ℕ) (ops : List BodyOp) → list_any (takes_purely op.index) ops ≡ false → list_any (takes_purely id) (map (with_merged op first) ops) ≡ list_any (takes_purely id) ops
  same_taking id [] none = refl
  same_taking id (o ∷ ops) none =
      let parts = neither (takes_purely op.index o) (list_any (takes_purely op.index) ops) none in
      ap₂ (λ a b. a || b) ((same_tests o parts.0).1 id) (same_taking id ops parts.1)

  grouped_same : (g : Groups) (ops : List BodyOp) → IsGrouping g ops → is_noted g op.index ≡ false → IsGrouping g (map (with_merged op first) ops)
  grouped_same g ops grouped other = record {
    groups = λ h. grouped.groups h ∙ sym (same_group h ops none);
    noted = λ id is. grouped.noted id (sym (same_taking id ops none) ∙ is);
  }
    where
      none : list_any (takes_purely op.index) ops ≡ false
      none = go (list_any (takes_purely op.index) ops) refl
        where
          go : (b : Bool) → list_any (takes_purely op.index) ops ≡ b → b ≡ false
          go true is = let clash : true ≡ false = sym (grouped.noted op.index is) ∙ other in cc
          go false is = refl

-- ---- a body after a merge

-- an equal operation before it is another one
pub is_other : (b : Body) (op first : OpId) → EqualFound (body_ops b) (position_in b op) (position_in b first) → op.index ≡ first.index → ⊥
unfolding position_in
is_other b op first found same =
    let one : position_of (ids_of b) op.index ≡ position_of (ids_of b) first.index = ap (position_of (ids_of b)) same in
    omega (arith, one, found.before)

pub found_at : (b : Body) (op first : OpId) (i : ℕ) → i ≡ position_in b op → equal_before (body_ops b) i ≡ Some (position_in b first) → EqualFound (body_ops b) (position_in b op) (position_in b first)
found_at b op first i at equal = equal_found (body_ops b) (position_in b op) (position_in b first) (sym (ap (equal_before (body_ops b)) at) ∙ equal)

module _ (b after : Body) (fit : IsOfFit b) (op first : OpId) (there : HasOp b op) (found : EqualFound (body_ops b) (position_in b op) (position_in b first)) (merged : IsMergedInto b after op first) where
  ops_merged : body_ops after ≡ merge_op (position_in b op) (position_in b first) (body_ops b)
  unfolding body_ops position_in
  ops_merged = ap ops_by_position merged ∙ numbered_merge op first (ops_of b) (fit_live b fit) there found.before

  pub ids_are : ids_of after ≡ remove (ids_of b) (position_in b op)
  unfolding position_in
  ids_are =
      ap ids_in merged ∙ ids_left op.index (map (with_merged op first) (ops_of b))
      ∙ ap (λ ids. remove ids (position_of ids op.index)) (ids_merged op first (ops_of b))

  pub merged_into : MergesInto (body_ops b) (body_ops after)
  merged_into = one_merge (body_ops b) (body_ops after) (record { at = position_in b op; earlier = position_in b first; found = found; is = ops_merged })

  pub into_fit : IsOfFit after
  into_fit = fit_after b after fit (merges_change (body_ops b) (body_ops after) merged_into)

-- the first equal one
module _ (b after : Body) (fit : IsOfFit b) (op first : OpId) (i : ℕ) (at : i ≡ position_in b op) (there : HasOp b op)
    (equal : equal_before (body_ops b) i ≡ Some (position_in b first)) (merged : IsMergedInto b after op first) where
  ids_without : ids_of after ≡ remove (ids_of b) i
  ids_without = ids_are b after fit op first there (found_at b op first i at equal) merged ∙ ap (remove (ids_of b)) (sym at)

  ops_without : body_ops after ≡ merge_op i (position_in b first) (body_ops b)
  ops_without = ops_merged b after fit op first there (found_at b op first i at equal) merged ∙ ap (λ n. merge_op n (position_in b first) (body_ops b)) (sym at)

  pub merged_changes : Changes (body_ops b) (body_ops after)
  merged_changes = merges_change (body_ops b) (body_ops after) (merged_into b after fit op first there (found_at b op first i at equal) merged)

  pub merged_fit : IsOfFit after
  merged_fit = into_fit b after fit op first there (found_at b op first i at equal) merged

  pub merged_within : i ≤ length (ids_of after)
  unfolding position_in
  merged_within =
      let less : i < length (ids_of b) = subst (λ n. n < length (ids_of b)) (sym at) (position_within (ids_of b) op.index there) in
      let size : length (ids_of after) ≡ length (remove (ids_of b) i) = ap length ids_without in
      omega (arith, less, size, length-remove_one (ids_of b) i less)

  pub merged_at_with : (g : Groups) → IsGrouping g (take i (ops_of after)) → IsMergedAt b after g i
  merged_at_with g grouped = record { earlier = position_in b first; equal = equal; ops = ops_without; ids = ids_without; grouped = grouped }

  -- what stands before it
  prefix_is : take i (ops_of after) ≡ map (with_merged op first) (take i (ops_of b))
  unfolding position_in
  prefix_is =
      ap (take i) merged
      ∙ ap (λ n. take n (taken_out op.index (map (with_merged op first) (ops_of b)))) (at ∙ sym (ap (λ ids. position_of ids op.index) (ids_merged op first (ops_of b))))
      ∙ take_out op.index (map (with_merged op first) (ops_of b))
      ∙ ap (λ n. take n (map (with_merged op first) (ops_of b))) (ap (λ ids. position_of ids op.index) (ids_merged op first (ops_of b)) ∙ sym at)
      ∙ take-map (with_merged op first) i (ops_of b)

  pub merged_at_same : (g : Groups) → IsGrouping g (take i (ops_of b)) → is_noted g op.index ≡ false → IsMergedAt b after g i
  merged_at_same g grouped other = merged_at_with g (subst (IsGrouping g) (sym prefix_is) (grouped_same op first g (take i (ops_of b)) grouped other))

-- ---- a body that stays

pub fit_same : (b after : Body) → IsOfFit b → ops_of after ≡ ops_of b → IsOfFit after
unfolding body_ops
fit_same b after fit same = record { design = fit.design; fit = fit.fit; number = fit.number; owner = fit.owner; there = fit.there; is_body = fit.is_body ∙ sym (ap ops_by_position same) }

pub same_changes : (b after : Body) → ops_of after ≡ ops_of b → Changes (body_ops b) (body_ops after)
unfolding body_ops
same_changes b after same = subst (Changes (ops_by_position (ops_of b))) (sym (ap ops_by_position same)) (no_change (ops_by_position (ops_of b)))
