-- Sweeps over a body in code that take pure operations without uses out.
use Rattle.std.proofs.Common.{◌≡◌, ℕ, zero, suc, ◌+◌, ◌<◌, ◌≤◌, Bool, true, false, cond, not, ◌&&◌, nat_eq, List, [], ◌∷◌, map, length, get_or, Option, Some, None, slice_get, remove, refl, sym, ap, subst, ◌∙◌, arith, option_and_then}
use Rattle.std.specs.Prelude.{is_some, option_map}
use Rattle.std.proofs.lemmas.Bool.{eqb-true, eqb-false}
use Rattle.std.proofs.lemmas.List.{length-map}
use Rattle.std.proofs.lemmas.Option.{slice_get_past, slice_get_within, slice_get-get_or, slice_get-map}
use Rattle.hw_model.specs.Design.{Op}
use Rattle.hw_model.specs.Design.Ref.{undefined}
use Rattle.edit_laws.specs.Laws.{erase_op}
use Rattle.ir_store.specs.declared.body.Body.{Body}
use Rattle.ir_store.specs.declared.operation.OpId.{OpId}
use Rattle.ir_store.specs.Bodies.{ids_of, ops_of, op_id}
use Rattle.ir_store.specs.BodyOps.{ids_in, taken_out, IsUnused}
use Rattle.ir_store.specs.Numbered.{position_of, ops_by_position}
use Rattle.ir_store.proofs.BodyLemmas.{ids_once}
use Rattle.ir_store.proofs.Numbering.{numbered-taken_out}
use Rattle.body_index.proofs.PositionTables.{position_found}
use Rattle.fold_laws.specs.Edits.Edit.{erased}
use Rattle.fold_laws.specs.Unused.{is_pure, is_used, fold_unused}
use Rattle.body_edits.specs.FitBodies.{IsOfFit}
use Rattle.body_edits.specs.Views.{HasOp, body_ops, position_in}
use Rattle.body_edits.proofs.IdsAfter.{ids_left}
use Rattle.body_edits.proofs.UnusedPattern.{erased_plainly}
use Rattle.cse_pass.specs.Cse.{Changes}
use Rattle.cse_pass.specs.Sweeps.{IsTrimSweep}
use Rattle.cse_pass.specs.Trims.{trim_at, trim_sweep, trims, IsTrimmed}
use Rattle.cse_pass.proofs.Following.{fit_after, no_change, changes_then}
use Rattle.cse_pass.proofs.Leading.{trim_leads}
use Rattle.cse_pass.proofs.MergedVisits.{length-remove_one}
use Rattle.cse_pass.proofs.Sweeping.{length-body_ops}
use Rattle.cse_pass.proofs.Walking.{there_contained}

-- ---- an operation

module _ (b after : Body) (fit : IsOfFit b) (op : OpId) (there : HasOp b op) where
  -- one that is taken out goes by the fold
  pub taken_trimmed : IsUnused op.index (ops_of b) → true ≡ is_some (fold_unused (body_ops b) (position_in b op)) → ops_of after ≡ taken_out op.index (ops_of b)
      → body_ops after ≡ trim_at (position_in b op) (body_ops b)
  unfolding body_ops position_in
  taken_trimmed unused goes taken =
      ap ops_by_position taken ∙ numbered-taken_out op.index (ops_of b) there unused ∙ erased_plainly (position_of (ids_of b) op.index) (ops_by_position (ops_of b))
      ∙ ap (λ t. cond t (erase_op (position_of (ids_of b) op.index) undefined (ops_by_position (ops_of b))) (ops_by_position (ops_of b))) goes

  pub taken_ids : ops_of after ≡ taken_out op.index (ops_of b) → ids_of after ≡ remove (ids_of b) (position_in b op)
  unfolding position_in
  taken_ids taken = ap ids_in taken ∙ ids_left op.index (ops_of b)

  pub trimmed_fit : body_ops after ≡ trim_at (position_in b op) (body_ops b) → IsOfFit after
  trimmed_fit ops = fit_after b after fit (subst (Changes (body_ops b)) (sym ops) (trim_leads (position_in b op) (body_ops b)))

-- one that stays
pub stays_trimmed : (os : List Op) (i : ℕ) → false ≡ is_some (fold_unused os i) → os ≡ trim_at i os
stays_trimmed os i stays = ap (λ t. cond t (erase_op i undefined os) os) stays

-- ---- a sweep on its way, before the operation of a position

pub record TrimSweeping (first body : Body) (left : ℕ) (any : Bool) : Type 0 where
  pub fit : IsOfFit body
  pub within : left ≤ length (ids_of first)
  pub prefix : (k : ℕ) → k < left → slice_get (ids_of body) k ≡ slice_get (ids_of first) k
  pub is : trim_sweep left (body_ops body) ≡ trim_sweep (length (body_ops first)) (body_ops first)
  pub changes : Changes (body_ops first) (body_ops body)
  pub most : length (body_ops body) ≤ length (body_ops first)
  pub fewer : any ≡ true → length (body_ops body) < length (body_ops first)
  pub none : any ≡ false → (k : ℕ) → left ≤ k → fold_unused (body_ops body) k ≡ None

none_past : (os : List Op) (k : ℕ) → length os ≤ k → fold_unused os k ≡ None
none_past os k past = ap (λ x. option_and_then (λ (o : Op). cond (is_pure o.kind && not (is_used k os)) (Some (erased k undefined ∷ [])) None) x) (slice_get_past os k past)

pub begin_trim : (b : Body) (ids : List OpId) (n : ℕ) → IsOfFit b → ids ≡ map op_id (ids_of b) → n ≡ length ids → TrimSweeping b b n false
begin_trim b ids n fit all count = record {
  fit = fit;
  within = omega (arith, size, length-body_ops b);
  prefix = λ k less. refl;
  is = ap (λ m. trim_sweep m (body_ops b)) size;
  changes = no_change (body_ops b);
  most = omega arith;
  fewer = λ is. cc;
  none = λ is k past. none_past (body_ops b) k (omega (arith, size, past));
}
  where
    size : n ≡ length (body_ops b)
    size = count ∙ ap length all ∙ length-map (ids_of b) op_id ∙ sym (length-body_ops b)

-- the number of an id in the list of the ids
pub id_at : (first : Body) (p : ℕ) (ids : List OpId) → ids ≡ map op_id (ids_of first) → p < length ids → (op : OpId) → op ≡ get_or ids p op → slice_get (ids_of first) p ≡ Some op.index
id_at first p ids all within op at =
    of_first (slice_get (ids_of first) p) (sym (slice_get-map op_id (ids_of first) p) ∙ ap (λ xs. slice_get xs p) (sym all) ∙ slice_get-get_or ids p op within ∙ ap Some (sym at))
  where
    of_first : (x : Option ℕ) → option_map op_id x ≡ Some op → x ≡ Some op.index
    of_first None is = cc
    of_first (Some n) is = let same : op_id n ≡ op = cc in ap (λ (o : OpId). Some o.index) same

-- an operation whose id stands at a position
pub position_there : (body : Body) (op : OpId) (p : ℕ) → slice_get (ids_of body) p ≡ Some op.index → HasOp body op × (position_in body op ≡ p)
unfolding position_in
position_there body op p found = (there_contained (ids_of body) p op.index found, position_found (ids_of body) op.index p (ids_once body op.index) found)

-- the operation that is visited
module _ (first body : Body) (left p : ℕ) (any : Bool) (s : TrimSweeping first body left any) (ids : List OpId) (all : ids ≡ map op_id (ids_of first)) (within : p < length ids)
    (here : p + 1 ≡ left) (op : OpId) (at : op ≡ get_or ids p op) where
  id_there : slice_get (ids_of body) p ≡ Some op.index
  id_there = s.prefix p (omega (arith, here)) ∙ id_at first p ids all within op at

  pub visited_there : HasOp body op
  visited_there = (position_there body op p id_there).0

  pub visited_at : position_in body op ≡ p
  visited_at = (position_there body op p id_there).1

  module _ (after : Body) (fit : IsOfFit after) (goes : Bool) (ops : body_ops after ≡ trim_at (position_in body op) (body_ops body))
      (after_ids : ids_of after ≡ cond goes (remove (ids_of body) (position_in body op)) (ids_of body)) (is_told : goes ≡ is_some (fold_unused (body_ops body) (position_in body op))) where
    ops_at : body_ops after ≡ trim_at p (body_ops body)
    ops_at = ops ∙ ap (λ n. trim_at n (body_ops body)) visited_at

    sweep_on : trim_sweep p (body_ops after) ≡ trim_sweep (length (body_ops first)) (body_ops first)
    sweep_on = ap (trim_sweep p) ops_at ∙ ap (λ n. trim_sweep n (body_ops body)) (suc_is ∙ here) ∙ s.is
      where
        suc_is : suc p ≡ p + 1
        suc_is = omega arith

    before_same : (k : ℕ) → k < p → slice_get (remove (ids_of body) p) k ≡ slice_get (ids_of body) k
    before_same k less = get_before (ids_of body) p k less
      where
        get_before : (xs : List ℕ) (p k : ℕ) → k < p → slice_get (remove xs p) k ≡ slice_get xs k
        get_before xs zero k less = absurd (omega (arith, less))
        get_before [] (suc p) k less = refl
        get_before (x ∷ xs) (suc p) zero less = refl
        get_before (x ∷ xs) (suc p) (suc k) less = get_before xs p k (omega (arith, less))

    then_changes : Changes (body_ops first) (body_ops after)
    then_changes = changes_then (body_ops first) (body_ops body) (body_ops after) s.changes (subst (Changes (body_ops body)) (sym ops_at) (trim_leads p (body_ops body)))

    pub trimmed_one : goes ≡ true → TrimSweeping first after p true
    trimmed_one is = record {
      fit = fit;
      within = omega (arith, s.within, here);
      prefix = λ k less. ap (λ xs. slice_get xs k) ids_are ∙ before_same k less ∙ s.prefix k (omega (arith, less, here));
      is = sweep_on;
      changes = then_changes;
      most = omega (arith, s.most, shorter, length-body_ops body, length-body_ops after);
      fewer = λ e. omega (arith, s.most, shorter, length-body_ops body, length-body_ops after);
      none = λ e. cc;
    }
      where
        ids_are : ids_of after ≡ remove (ids_of body) p
        ids_are = after_ids ∙ ap (λ t. cond t (remove (ids_of body) (position_in body op)) (ids_of body)) is ∙ ap (remove (ids_of body)) visited_at

        less_there : p < length (ids_of body)
        less_there = slice_get_within (ids_of body) p op.index id_there

        shorter : length (ids_of after) + 1 ≡ length (ids_of body)
        shorter = ap (λ (n : ℕ). n + 1) (ap length ids_are) ∙ length-remove_one (ids_of body) p less_there

    pub trimmed_none : goes ≡ false → TrimSweeping first after p any
    trimmed_none is = record {
      fit = fit;
      within = omega (arith, s.within, here);
      prefix = λ k less. ap (λ xs. slice_get xs k) ids_are ∙ s.prefix k (omega (arith, less, here));
      is = sweep_on;
      changes = then_changes;
      most = subst (λ os. length os ≤ length (body_ops first)) (sym same) s.most;
      fewer = λ e. subst (λ os. length os < length (body_ops first)) (sym same) (s.fewer e);
      none = λ e k least. ap (λ os. fold_unused os k) same ∙ from_here e k least;
    }
      where
        ids_are : ids_of after ≡ ids_of body
        ids_are = after_ids ∙ ap (λ t. cond t (remove (ids_of body) (position_in body op)) (ids_of body)) is

        stays : is_some (fold_unused (body_ops body) p) ≡ false
        stays = sym (ap (λ n. is_some (fold_unused (body_ops body) n)) visited_at) ∙ sym is_told ∙ is

        same : body_ops after ≡ body_ops body
        same = ops_at ∙ sym (stays_trimmed (body_ops body) p (sym stays))

        not_some : {A : Type 0} (x : Option A) → is_some x ≡ false → x ≡ None
        not_some None e = refl
        not_some (Some a) e = cc

        from_here : any ≡ false → (k : ℕ) → p ≤ k → fold_unused (body_ops body) k ≡ None
        from_here e k least = go (nat_eq k p) refl
          where
            go : (t : Bool) → nat_eq k p ≡ t → fold_unused (body_ops body) k ≡ None
            go true at_p = ap (fold_unused (body_ops body)) (eqb-true k p at_p) ∙ not_some (fold_unused (body_ops body) p) stays
            go false other = s.none e k (let apart = eqb-false k p other in omega (arith, least, apart, here))

-- before the first operation
pub trim_swept : (first body : Body) (left : ℕ) (any : Bool) → TrimSweeping first body left any → left ≡ 0 → IsTrimSweep (body_ops first) any (body_ops body)
trim_swept first body left any s done = record {
  is = ap (λ n. trim_sweep n (body_ops body)) (sym done) ∙ s.is;
  fewer = s.fewer;
  none = λ e k. s.none e k (omega (arith, done));
}

-- ---- sweeps

pub record Trimming (first body : Body) : Type 0 where
  pub fit : IsOfFit body
  pub sweeps : ℕ
  pub is : body_ops body ≡ trims sweeps (body_ops first)
  pub changes : Changes (body_ops first) (body_ops body)

trims_more : (n : ℕ) (os : List Op) → trims (suc n) os ≡ trim_sweep (length (trims n os)) (trims n os)
trims_more zero os = refl
trims_more (suc n) os = trims_more n (trim_sweep (length os) os)

pub begin_trimming : (b : Body) → IsOfFit b → Trimming b b
begin_trimming b fit = record { fit = fit; sweeps = 0; is = refl; changes = no_change (body_ops b) }

module _ (first body after : Body) (any : Bool) (t : Trimming first body) (s : IsTrimSweep (body_ops body) any (body_ops after)) where
  one_more : body_ops after ≡ trims (suc t.sweeps) (body_ops first)
  one_more = s.is ∙ ap (λ os. trim_sweep (length os) os) t.is ∙ sym (trims_more t.sweeps (body_ops first))

  pub trimming_more : IsOfFit after → Changes (body_ops body) (body_ops after) → Trimming first after
  trimming_more fit changes = record { fit = fit; sweeps = suc t.sweeps; is = one_more; changes = changes_then (body_ops first) (body_ops body) (body_ops after) t.changes changes }

  pub all_are_trimmed : any ≡ false → IsTrimmed (body_ops first) (body_ops after)
  all_are_trimmed is = record { sweeps = suc t.sweeps; is = one_more; none_left = s.none is }
