-- Pure operations of aggregate types that go where they have no uses, one by one and in sweeps.
use Rattle.std.proofs.Common.{not, ◌≡◌, ℕ, zero, suc, ◌+◌, ◌<◌, ◌≤◌, Bool, true, false, cond, nat_eq, List, [], ◌∷◌, map, length, Option, Some, None, slice_get, refl, sym, ap, subst, ◌∙◌, arith}
use Rattle.std.specs.Prelude.{is_some}
use Rattle.std.proofs.lemmas.Bool.{eqb-true, eqb-false}
use Rattle.std.proofs.lemmas.Option.{slice_get_past}
use Rattle.hw_model.specs.Design.{Op}
use Rattle.aggregate_laws.specs.Aggregates.{is_scalar}
use Rattle.ir_store.specs.declared.operation.NewResult.{NewResult}
use Rattle.ir_store.specs.OperationViews.{result_of}
use Rattle.hw_model.specs.Design.Ref.{undefined}
use Rattle.edit_laws.specs.Laws.{erase_op}
use Rattle.ir_store.specs.declared.body.Body.{Body}
use Rattle.ir_store.specs.declared.operation.OpId.{OpId}
use Rattle.ir_store.specs.Bodies.{ids_of}
use Rattle.fold_laws.specs.Edits.{Edit}
use Rattle.fold_laws.specs.Unused.{fold_unused}
use Rattle.body_edits.specs.FitBodies.{IsOfFit}
use Rattle.body_edits.specs.Views.{HasOp, body_ops, position_in}
use Rattle.cse_pass.specs.Cse.{Changes}
use Rattle.cse_pass.specs.Trims.{trim_at}
use Rattle.cse_pass.specs.UnusedAggregates.{has_parts, makes_aggregate, IsAggregateTrim, AggregateTrims, HasNoUnusedAggregate}
use Rattle.pass_laws.specs.Steps.{StepsBy}
use Rattle.cse_pass.proofs.Leading.{no_change, changes_then, trim_is_change}
use Rattle.cse_pass.proofs.TrimmedBefore.{trim_shorter}
use Rattle.cse_pass.proofs.Trimming.{position_there}
use Rattle.cse_pass.proofs.UnusedOps.{unused_found}

-- ---- single changes, one after another

pub no_aggregate_trim : (os : List Op) → AggregateTrims os os
no_aggregate_trim os = record { count = 0; leads = refl }

then_aggregates : (n : ℕ) (a b c : List Op) → AggregateTrims a b → StepsBy IsAggregateTrim n b c → AggregateTrims a c
then_aggregates zero a b c first same = subst (AggregateTrims a) (sym same) first
then_aggregates (suc n) a b c first (between, leads, trim) =
    let rest : AggregateTrims a between = then_aggregates n a b between first leads in
    record { count = suc rest.count; leads = (between, rest.leads, trim) }

pub aggregate_trims_then : (a b c : List Op) → AggregateTrims a b → AggregateTrims b c → AggregateTrims a c
aggregate_trims_then a b c first second = then_aggregates second.count a b c first second.leads

pub aggregate_trim_into : (i : ℕ) (os : List Op) → makes_aggregate (slice_get os i) ≡ true → AggregateTrims os (trim_at i os)
aggregate_trim_into i os makes = go (fold_unused os i) refl
  where
    go : (x : Option (List Edit)) → fold_unused os i ≡ x → AggregateTrims os (cond (is_some x) (erase_op i undefined os) os)
    go None is = no_aggregate_trim os
    go (Some es) is = record { count = 1; leads = (os, refl, ((i, is ∙ ap Some (unused_found os i es is).edits, refl), makes)) }

-- each is a single change of the elimination of common subexpressions
trims_by : (n : ℕ) (a b : List Op) → StepsBy IsAggregateTrim n a b → Changes a b
trims_by zero a b same = subst (Changes a) (sym same) (no_change a)
trims_by (suc n) a b (between, leads, trim) = changes_then a between b (trims_by n a between leads) (trim_is_change between b trim.0)

pub aggregate_trims_change : (a b : List Op) → AggregateTrims a b → Changes a b
aggregate_trims_change a b trims = trims_by trims.count a b trims.leads

-- there are no more operations then
trims_shorten : (n : ℕ) (a b : List Op) → StepsBy IsAggregateTrim n a b → length b ≤ length a
trims_shorten zero a b same = let count : length b ≡ length a = ap length same in omega (arith, count)
trims_shorten (suc n) a b (between, leads, trim) =
    let rest : length between ≤ length a = trims_shorten n a between leads in
    let size = trim_shorter between trim.0.0 _ trim.0.1 in
    let count : length b ≡ length (erase_op trim.0.0 undefined between) = ap length trim.0.2 in
    omega (arith, rest, size, count)

pub aggregate_trims_shorten : (a b : List Op) → AggregateTrims a b → length b ≤ length a
aggregate_trims_shorten a b trims = trims_shorten trims.count a b trims.leads

-- ---- one operation

-- its first result tells whether it makes an aggregate
pub first_has_parts : (xs : List NewResult) (x : NewResult) (scalar : Bool) → slice_get xs 0 ≡ Some x → scalar ≡ is_scalar (result_of x).type → not scalar ≡ has_parts (map result_of xs)
first_has_parts [] x scalar at is = cc
first_has_parts (y ∷ xs) x scalar at is = let same : y ≡ x = cc in ap not (is ∙ ap (λ (z : NewResult). is_scalar (result_of z).type) (sym same))

pub none_has_parts : (xs : List NewResult) → slice_get xs 0 ≡ None → false ≡ has_parts (map result_of xs)
none_has_parts [] at = refl
none_has_parts (y ∷ xs) at = cc

-- it stays where it has uses, and there are fewer operations where it goes
pub goes_shorter : (i : ℕ) (os after : List Op) → after ≡ trim_at i os → true ≡ is_some (fold_unused os i) → length after < length os
goes_shorter i os after is goes = go (fold_unused os i) refl (is_some (fold_unused os i)) refl
  where
    go : (x : Option (List Edit)) → fold_unused os i ≡ x → (t : Bool) → is_some (fold_unused os i) ≡ t → length after < length os
    go None at t told = let clash : true ≡ false = goes ∙ ap is_some at in cc
    go (Some es) at t told =
        let same : after ≡ erase_op i undefined os = is ∙ ap (λ u. cond u (erase_op i undefined os) os) (sym goes) in
        let size = trim_shorter os i es at in
        let count : length after ≡ length (erase_op i undefined os) = ap length same in
        omega (arith, size, count)

pub stays_same : (i : ℕ) (os after : List Op) → after ≡ trim_at i os → false ≡ is_some (fold_unused os i) → after ≡ os
stays_same i os after is stays = is ∙ ap (λ u. cond u (erase_op i undefined os) os) (sym stays)

pub stays_used : (x : Option (List Edit)) → false ≡ is_some x → x ≡ None
stays_used None stays = refl
stays_used (Some es) stays = cc

-- ---- a sweep on its way, before the operation of a position

pub record AggregateSweeping (first body : Body) (left : ℕ) (any : Bool) : Type 0 where
  pub fit : IsOfFit body
  pub within : left ≤ length (ids_of first)
  pub trims : AggregateTrims (body_ops first) (body_ops body)
  pub most : length (body_ops body) ≤ length (body_ops first)
  pub fewer : any ≡ true → length (body_ops body) < length (body_ops first)
  pub ids : any ≡ false → ids_of body ≡ ids_of first
  pub none : any ≡ false → (k : ℕ) → left ≤ k → makes_aggregate (slice_get (body_ops body) k) ≡ true → fold_unused (body_ops body) k ≡ None

pub begin_aggregates : (b : Body) (left : ℕ) → IsOfFit b → left ≡ length (ids_of b) → length (body_ops b) ≡ length (ids_of b) → AggregateSweeping b b left false
begin_aggregates b left fit is count = record {
  fit = fit;
  within = omega (arith, is);
  trims = no_aggregate_trim (body_ops b);
  most = omega arith;
  fewer = λ some. cc;
  ids = λ some. refl;
  none = λ some k past makes.
      let clash : true ≡ false = sym makes ∙ ap makes_aggregate (slice_get_past (body_ops b) k (omega (arith, is, count, past))) in
      cc;
}

-- the operation that is visited
module _ (first body : Body) (left p : ℕ) (any : Bool) (s : AggregateSweeping first body left any) (here : p + 1 ≡ left) (after : Body) (fit : IsOfFit after)
    (trims : AggregateTrims (body_ops body) (body_ops after)) where
  both_trims : AggregateTrims (body_ops first) (body_ops after)
  both_trims = aggregate_trims_then (body_ops first) (body_ops body) (body_ops after) s.trims trims

  pub aggregate_gone : length (body_ops after) < length (body_ops body) → AggregateSweeping first after p true
  aggregate_gone fewer = record {
    fit = fit;
    within = omega (arith, s.within, here);
    trims = both_trims;
    most = omega (arith, s.most, fewer);
    fewer = λ some. omega (arith, s.most, fewer);
    ids = λ some. cc;
    none = λ some k least makes. cc;
  }

  pub aggregate_stays : (op : OpId) → body_ops after ≡ body_ops body → ids_of after ≡ ids_of body → (any ≡ false → slice_get (ids_of first) p ≡ Some op.index)
      → (HasOp body op → makes_aggregate (slice_get (body_ops body) (position_in body op)) ≡ true → fold_unused (body_ops body) (position_in body op) ≡ None) → AggregateSweeping first after p any
  aggregate_stays op ops ids there none = record {
    fit = fit;
    within = omega (arith, s.within, here);
    trims = both_trims;
    most = subst (λ os. length os ≤ length (body_ops first)) (sym ops) s.most;
    fewer = λ some. subst (λ os. length os < length (body_ops first)) (sym ops) (s.fewer some);
    ids = λ some. ids ∙ s.ids some;
    none = λ some k least makes.
        ap (λ os. fold_unused os k) ops ∙ at some k least (ap (λ os. makes_aggregate (slice_get os k)) (sym ops) ∙ makes) (nat_eq k p) refl;
  }
    where
      at : any ≡ false → (k : ℕ) → p ≤ k → makes_aggregate (slice_get (body_ops body) k) ≡ true → (t : Bool) → nat_eq k p ≡ t → fold_unused (body_ops body) k ≡ None
      at some k least makes false other = s.none some k (let apart = eqb-false k p other in omega (arith, least, apart, here)) makes
      at some k least makes true same =
          let found : slice_get (ids_of body) p ≡ Some op.index = ap (λ xs. slice_get xs p) (s.ids some) ∙ there some in
          let place = position_there body op p found in
          let is_p : k ≡ position_in body op = eqb-true k p same ∙ sym place.1 in
          ap (fold_unused (body_ops body)) is_p ∙ none place.0 (ap (λ n. makes_aggregate (slice_get (body_ops body) n)) (sym is_p) ∙ makes)

-- before the first operation
pub aggregates_swept : (first body : Body) (left : ℕ) (any : Bool) → AggregateSweeping first body left any → left ≡ 0 → any ≡ false → HasNoUnusedAggregate (body_ops body)
aggregates_swept first body left any s done some i makes = s.none some i (omega (arith, done)) makes
