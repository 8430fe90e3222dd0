-- Operations that are put in order before another one.
use Rattle.std.proofs.Common.{◌≡◌, ℕ, suc, ◌+◌, ◌<◌, ◌≤◌, Bool, true, false, cond, nat_eq, List, [], ◌∷◌, ◌++◌, length, Some, refl, sym, ap, subst, ◌∙◌, arith, eq-eqb}
use Rattle.std.specs.Prelude.{Contains}
use Rattle.std.proofs.lemmas.Bool.{eqb-true}
use Rattle.std.proofs.lemmas.List.{append_assoc, append-nil}
use Rattle.linked_lists.specs.Ids.{times}
use Rattle.linked_lists.proofs.IdLemmas.{times-append, contained_times, times_contained}
use Rattle.ir_store.specs.declared.operation.OpId.{OpId}
use Rattle.ir_store.specs.declared.operation.NewOp.{NewOp}
use Rattle.ir_store.specs.BodyOps.{BodyOp, ids_in, put_before, as_new}
use Rattle.ir_store.specs.Live.{AreDistinct}
use Rattle.inline_pass.specs.MovedOps.{with_ids, all_put_before, without_id}
use Rattle.body_edits.proofs.IdLists.{ids_append}

-- ---- lists

-- where the operation is known
pub put_between : (prefix : List BodyOp) (x : BodyOp) (back others : List BodyOp) → times x.id (ids_in prefix) ≡ 0 → all_put_before x.id others (prefix ++ (x ∷ back)) ≡ prefix ++ (others ++ (x ∷ back))
put_between [] x back others none = ap (λ b. cond b (others ++ x ∷ back) (x ∷ all_put_before x.id others back)) (eq-eqb x.id x.id refl)
put_between (p ∷ prefix) x back others none = go (nat_eq p.id x.id) none (put_between prefix x back others)
  where
    go : (b : Bool) → cond b (suc (times x.id (ids_in prefix))) (times x.id (ids_in prefix)) ≡ 0
        → (times x.id (ids_in prefix) ≡ 0 → all_put_before x.id others (prefix ++ (x ∷ back)) ≡ prefix ++ (others ++ (x ∷ back)))
        → cond b (others ++ p ∷ (prefix ++ (x ∷ back))) (p ∷ all_put_before x.id others (prefix ++ (x ∷ back))) ≡ p ∷ prefix ++ (others ++ (x ∷ back))
    go true none rest = absurd (omega (arith, none))
    go false none rest = ap (λ os. p ∷ os) (rest none)

after_others : (b : OpId) (o p : BodyOp) (others ops : List BodyOp) → p.id ≡ b.index → times b.index (ids_in others) ≡ 0
    → put_before (Some b) o (others ++ p ∷ ops) ≡ (others ++ (o ∷ [])) ++ p ∷ ops
after_others b o p [] ops is none = ap (λ t. cond t (o ∷ p ∷ ops) (p ∷ put_before (Some b) o ops)) (eq-eqb p.id b.index is)
after_others b o p (q ∷ others) ops is none = go (nat_eq q.id b.index) none (after_others b o p others ops is)
  where
    go : (t : Bool) → cond t (suc (times b.index (ids_in others))) (times b.index (ids_in others)) ≡ 0
        → (times b.index (ids_in others) ≡ 0 → put_before (Some b) o (others ++ p ∷ ops) ≡ (others ++ (o ∷ [])) ++ p ∷ ops)
        → cond t (o ∷ q ∷ (others ++ p ∷ ops)) (q ∷ put_before (Some b) o (others ++ p ∷ ops)) ≡ q ∷ (others ++ (o ∷ [])) ++ p ∷ ops
    go true none rest = absurd (omega (arith, none))
    go false none rest = ap (λ os. q ∷ os) (rest none)

pub put_one_more : (b : OpId) (o : BodyOp) (others ops : List BodyOp) → 0 < times b.index (ids_in ops) → times b.index (ids_in others) ≡ 0
    → put_before (Some b) o (all_put_before b.index others ops) ≡ all_put_before b.index (others ++ (o ∷ [])) ops
put_one_more b o others [] here none = absurd (omega (arith, here))
put_one_more b o others (p ∷ ops) here none = go (nat_eq p.id b.index) refl here (put_one_more b o others ops)
  where
    go : (t : Bool) → nat_eq p.id b.index ≡ t → 0 < cond t (suc (times b.index (ids_in ops))) (times b.index (ids_in ops))
        → (0 < times b.index (ids_in ops) → times b.index (ids_in others) ≡ 0 → put_before (Some b) o (all_put_before b.index others ops) ≡ all_put_before b.index (others ++ (o ∷ [])) ops)
        → put_before (Some b) o (cond t (others ++ p ∷ ops) (p ∷ all_put_before b.index others ops)) ≡ cond t ((others ++ (o ∷ [])) ++ p ∷ ops) (p ∷ all_put_before b.index (others ++ (o ∷ [])) ops)
    go true is here rest = after_others b o p others ops (eqb-true p.id b.index is) none
    go false is here rest =
        ap (λ t. cond t (o ∷ p ∷ all_put_before b.index others ops) (p ∷ put_before (Some b) o (all_put_before b.index others ops))) is ∙ ap (λ os. p ∷ os) (rest here none)

-- nothing put in
pub put_none : (id : ℕ) (ops : List BodyOp) → all_put_before id [] ops ≡ ops
put_none id [] = refl
put_none id (o ∷ ops) = go (nat_eq o.id id) (put_none id ops)
  where
    go : (b : Bool) → all_put_before id [] ops ≡ ops → cond b (o ∷ ops) (o ∷ all_put_before id [] ops) ≡ o ∷ ops
    go true rest = refl
    go false rest = ap (λ os. o ∷ os) rest

-- ---- ids

pub times-all_put : (v id : ℕ) (others ops : List BodyOp) → times v (ids_in (all_put_before id others ops)) ≡ times v (ids_in others) + times v (ids_in ops)
times-all_put v id others [] = omega arith
times-all_put v id others (o ∷ ops) = go (nat_eq o.id id) (times-all_put v id others ops)
  where
    both : (t : Bool) → times v (ids_in (all_put_before id others ops)) ≡ times v (ids_in others) + times v (ids_in ops)
        → cond t (suc (times v (ids_in (all_put_before id others ops)))) (times v (ids_in (all_put_before id others ops)))
        ≡ times v (ids_in others) + cond t (suc (times v (ids_in ops))) (times v (ids_in ops))
    both true rest = omega (arith, rest)
    both false rest = rest

    go : (b : Bool) → times v (ids_in (all_put_before id others ops)) ≡ times v (ids_in others) + times v (ids_in ops)
        → times v (ids_in (cond b (others ++ o ∷ ops) (o ∷ all_put_before id others ops))) ≡ times v (ids_in others) + times v (ids_in (o ∷ ops))
    go true rest = ap (times v) (ids_append others (o ∷ ops)) ∙ times-append v (ids_in others) (ids_in (o ∷ ops))
    go false rest = both (nat_eq o.id v) rest

pub length-all_put : (id : ℕ) (others ops : List BodyOp) → length (ids_in (all_put_before id others ops)) ≡ length (ids_in others) + length (ids_in ops)
length-all_put id others [] = omega arith
length-all_put id others (o ∷ ops) = go (nat_eq o.id id) (length-all_put id others ops)
  where
    joined : (xs ys : List BodyOp) → length (ids_in (xs ++ ys)) ≡ length (ids_in xs) + length (ids_in ys)
    joined [] ys = omega arith
    joined (x ∷ xs) ys = let h = joined xs ys in omega (arith, h)

    go : (b : Bool) → length (ids_in (all_put_before id others ops)) ≡ length (ids_in others) + length (ids_in ops)
        → length (ids_in (cond b (others ++ o ∷ ops) (o ∷ all_put_before id others ops))) ≡ length (ids_in others) + suc (length (ids_in ops))
    go true rest = joined others (o ∷ ops)
    go false rest = omega (arith, rest)

-- ---- one after another

-- so far
pub record IsPutting (b : OpId) (all old now : List BodyOp) (ids : List OpId) (left : List BodyOp) : Type 0 where
  pub done : List BodyOp
  pub all_are : all ≡ done ++ left
  pub many : length ids ≡ length done
  pub put : now ≡ all_put_before b.index (with_ids ids done) old

pub putting_none : (b : OpId) (all old : List BodyOp) (ids : List OpId) (left : List BodyOp) → ids ≡ [] → left ≡ all → IsPutting b all old old ids left
putting_none b all old ids left none is = record {
  done = [];
  all_are = sym is;
  many = ap length none;
  put = sym (put_none b.index old) ∙ ap (λ (js : List OpId). all_put_before b.index (with_ids js []) old) (sym none);
}

with_ids_more : (ids : List OpId) (os : List BodyOp) (i : OpId) (o : BodyOp) → length ids ≡ length os
    → with_ids (ids ++ i ∷ []) (os ++ o ∷ []) ≡ with_ids ids os ++ record o { id = i.index } ∷ []
with_ids_more [] [] i o many = refl
with_ids_more [] (p ∷ os) i o many = absurd (omega (arith, many))
with_ids_more (j ∷ ids) [] i o many = absurd (omega (arith, many))
with_ids_more (j ∷ ids) (p ∷ os) i o many = ap (λ xs. record p { id = j.index } ∷ xs) (with_ids_more ids os i o (omega (arith, many)))

-- the operation is there still
pub putting_there : (b : OpId) (all old now : List BodyOp) (ids : List OpId) (left : List BodyOp) → IsPutting b all old now ids left → Contains (ids_in old) b.index → Contains (ids_in now) b.index
putting_there b all old now ids left p there =
    let more = times-all_put b.index b.index (with_ids ids p.done) old in
    let here = contained_times (ids_in old) b.index there in
    subst (λ (os : List BodyOp). Contains (ids_in os) b.index) (sym p.put) (times_contained (ids_in (all_put_before b.index (with_ids ids p.done) old)) b.index (omega (arith, more, here)))

pub putting_more : (b : OpId) (all old now now' : List BodyOp) (ids : List OpId) (before left : List BodyOp) (o : NewOp) (id : OpId) (ids' : List OpId) → AreDistinct (ids_in now)
    → Contains (ids_in old) b.index → IsPutting b all old now ids before → before ≡ without_id o ∷ left → now' ≡ put_before (Some b) (as_new id o) now → ids' ≡ ids ++ id ∷ []
    → IsPutting b all old now' ids' left
putting_more b all old now now' ids before left o id ids' once there p steps is ids_are =
    let more = times-all_put b.index b.index (with_ids ids p.done) old in
    let here = contained_times (ids_in old) b.index there in
    let same = ap (λ (os : List BodyOp). times b.index (ids_in os)) p.put in
    let few = once b.index in
    let none : times b.index (ids_in (with_ids ids p.done)) ≡ 0 = omega (arith, more, here, same, few) in
    record {
      done = p.done ++ (without_id o ∷ []);
      all_are = p.all_are ∙ ap (λ x. p.done ++ x) steps ∙ sym (append_assoc p.done (without_id o ∷ []) left);
      many = ap length ids_are ∙ longer ids p.done p.many;
      put = is ∙ ap (put_before (Some b) (as_new id o)) p.put ∙ put_one_more b (as_new id o) (with_ids ids p.done) old here none
          ∙ ap (λ os. all_put_before b.index os old) (sym (ap (λ js. with_ids js (p.done ++ (without_id o ∷ []))) ids_are ∙ with_ids_more ids p.done id (without_id o) p.many));
    }
  where
    longer : (is : List OpId) (os : List BodyOp) → length is ≡ length os → length (is ++ id ∷ []) ≡ length (os ++ without_id o ∷ [])
    longer [] [] many = refl
    longer [] (q ∷ os) many = absurd (omega (arith, many))
    longer (j ∷ is) [] many = absurd (omega (arith, many))
    longer (j ∷ is) (q ∷ os) many = ap suc (longer is os (omega (arith, many)))

-- all
pub putting_done : (b : OpId) (all old now : List BodyOp) (ids : List OpId) (left : List BodyOp) → IsPutting b all old now ids left → left ≡ []
    → (length ids ≡ length all) × (now ≡ all_put_before b.index (with_ids ids all) old)
putting_done b all old now ids left p ended =
    let same : all ≡ p.done = p.all_are ∙ ap (λ x. p.done ++ x) ended ∙ append-nil p.done in
    (p.many ∙ ap length (sym same), p.put ∙ ap (λ os. all_put_before b.index (with_ids ids os) old) (sym same))

-- there are no more of them than operations
pub putting_few : (b : OpId) (all old now : List BodyOp) (ids : List OpId) (left : List BodyOp) → IsPutting b all old now ids left → length ids ≤ length (ids_in now)
putting_few b all old now ids left p =
    let long = length-all_put b.index (with_ids ids p.done) old in
    let same = ap (λ (os : List BodyOp). length (ids_in os)) p.put in
    let own = named ids p.done p.many in
    omega (arith, long, same, own)
  where
    named : (is : List OpId) (os : List BodyOp) → length is ≡ length os → length (ids_in (with_ids is os)) ≡ length is
    named [] os many = refl
    named (j ∷ is) [] many = absurd (omega (arith, many))
    named (j ∷ is) (q ∷ os) many = ap suc (named is os (omega (arith, many)))
