-- A sweep over a body in code, on its way.
use Rattle.std.proofs.Common.{◌≡◌, ◌⊎◌, ℕ, suc, ◌+◌, ◌-◌, ◌<◌, ◌≤◌, Bool, true, false, cond, List, [], ◌∷◌, ◌++◌, length, map, drop, Option, Some, None, refl, sym, ap, subst, ◌∙◌, inl, inr, arith}
use Rattle.std.specs.Prelude.{Contains, IfSome}
use Rattle.std.proofs.lemmas.Bool.{lt-ltb}
use Rattle.std.proofs.lemmas.List.{length-append, length-map, append_assoc}
use Rattle.ir_store.specs.declared.body.Body.{Body}
use Rattle.ir_store.specs.declared.operation.OpId.{OpId}
use Rattle.ir_store.specs.Bodies.{ids_of, ops_of, op_id, first_id}
use Rattle.ir_store.specs.BodyOps.{ids_in}
use Rattle.linked_lists.specs.Ids.{times}
use Rattle.ir_store.specs.Numbered.{position_of, op_by, ops_by_position}
use Rattle.ir_store.proofs.BodyLemmas.{ids_once}
use Rattle.fold_laws.specs.Edits.{Edit}
use Rattle.fold_laws.specs.Fold.{IsSmaller}
use Rattle.body_edits.specs.FitBodies.{IsOfFit}
use Rattle.body_edits.specs.Folded.{ids_edited_by, IsPatternEdit, IsFolded}
use Rattle.body_edits.specs.Views.{body_ops, position_in}
use Rattle.canonicalise.specs.Canonical.{table, IsFoldOf, Leads}
use Rattle.canonicalise.specs.Dues.{id_after, after_some, IsDue}
use Rattle.canonicalise.specs.Sweeps.{Sweep, sweep_of, moved_by, with_edits, visit, visits, IsSwept}
use Rattle.canonicalise.proofs.Dues.{Goes, position_here, rest_here, contains_here, goes_on}
use Rattle.canonicalise.proofs.Follows.{fit_after, fold_is_smaller, smaller_then}
use Rattle.canonicalise.proofs.Ranks.{rank, smaller_is_lower}
use Rattle.canonicalise.proofs.Sweeping.{leads_self, leads_more}

-- a sweep that began with the first body has come to the second, of which it visits an operation next
pub record Visiting (first body : Body) (at : Option OpId) (any : Bool) : Type 0 where
  pub fit : IsOfFit body
  pub count : ℕ
  pub position : ℕ
  pub is : visits table count (sweep_of (body_ops first)) ≡ record { ops = body_ops body; position = position; changed = any }
  pub prefix : List ℕ
  pub rest : List ℕ
  pub whole : ids_of body ≡ prefix ++ rest
  pub size : length prefix ≡ position
  pub at_is : at ≡ first_id (map op_id rest)
  pub leads : Leads table (body_ops first) (body_ops body)
  pub less : ((any ≡ false) × (body_ops body ≡ body_ops first)) ⊎ IsSmaller (body_ops body) (body_ops first)

-- how many operations are left to visit
abbrev pub left : List ℕ → Option OpId → ℕ
left ids None = 0
left ids (Some op) = length ids - position_of ids op.index

-- ---- bodies

pub length-body_ops : (b : Body) → length (body_ops b) ≡ length (ids_of b)
unfolding body_ops
length-body_ops b = length-map (ops_of b) (op_by (position_of (ids_in (ops_of b)))) ∙ sym (length-map (ops_of b) (λ o. o.id))

pub same_ops : (b after : Body) → ops_of after ≡ ops_of b → body_ops after ≡ body_ops b
unfolding body_ops
same_ops b after same = ap ops_by_position same

pub position_is : (b : Body) (op : OpId) → position_in b op ≡ position_of (ids_of b) op.index
unfolding position_in
position_is b op = refl

-- ---- the operation that is visited

pub record Visited (ids prefix : List ℕ) (op : OpId) : Type 0 where
  pub rest : List ℕ
  pub whole : ids ≡ prefix ++ op.index ∷ rest

visited_of : (ids prefix rest : List ℕ) (op : OpId) → ids ≡ prefix ++ rest → Some op ≡ first_id (map op_id rest) → Visited ids prefix op
visited_of ids prefix [] op whole at = cc
visited_of ids prefix (n ∷ ns) op whole at =
    let same : n ≡ op.index = (let e : op ≡ op_id n = cc in sym (ap (λ (o : OpId). o.index) e)) in
    record { rest = ns; whole = whole ∙ ap (λ z. prefix ++ z ∷ ns) same }

pub visited : (first body : Body) (op : OpId) (any : Bool) (v : Visiting first body (Some op) any) → Visited (ids_of body) v.prefix op
visited first body op any v = visited_of (ids_of body) v.prefix v.rest op v.whole v.at_is

pub has_op : (first body : Body) (op : OpId) (any : Bool) → Visiting first body (Some op) any → Contains (ids_of body) op.index
has_op first body op any v = let o = visited first body op any v in subst (λ z. Contains z op.index) (sym o.whole) (contains_here v.prefix op.index o.rest)

-- what stands after the operation of an id
pub after_op : (body : Body) (prefix : List ℕ) (id : ℕ) (rest : List ℕ) → ids_of body ≡ prefix ++ id ∷ rest → drop (suc (position_of (ids_of body) id)) (ids_of body) ≡ rest
after_op body prefix id rest whole =
    ap (λ z. drop (suc (position_of z id)) z) whole ∙ rest_here prefix id rest (λ v. subst (λ z. times v z ≤ 1) whole (ids_once body v))

pub position_at : (body : Body) (prefix : List ℕ) (id : ℕ) (rest : List ℕ) → ids_of body ≡ prefix ++ id ∷ rest → position_of (ids_of body) id ≡ length prefix
position_at body prefix id rest whole = ap (λ z. position_of z id) whole ∙ position_here prefix id rest (λ v. subst (λ z. times v z ≤ 1) whole (ids_once body v))

-- the operation after the next one
pub after_next : (body : Body) (prefix : List ℕ) (id : ℕ) (rest : List ℕ) → ids_of body ≡ prefix ++ id ∷ rest → (n : ℕ) (ns : List ℕ) → rest ≡ n ∷ ns
    → drop (suc (position_of (ids_of body) n)) (ids_of body) ≡ ns
after_next body prefix id rest whole n ns same =
    after_op body (prefix ++ id ∷ []) n ns (whole ∙ ap (λ z. prefix ++ id ∷ z) same ∙ sym (append_assoc prefix (id ∷ []) (n ∷ ns)))

pub next_there : (body : Body) (prefix : List ℕ) (id : ℕ) (rest : List ℕ) → ids_of body ≡ prefix ++ id ∷ rest → (n : OpId) → Some n ≡ first_id (map op_id rest) → Contains (ids_of body) n.index
next_there body prefix id rest whole n at =
    let o = visited_of (prefix ++ id ∷ rest) (prefix ++ id ∷ []) rest n (sym (append_assoc prefix (id ∷ []) rest)) at in
    subst (λ z. Contains z n.index) (sym (whole ∙ o.whole)) (contains_here (prefix ++ id ∷ []) n.index o.rest)

-- how many operations are left, by the ids after a prefix
left_is : (body : Body) (prefix rest : List ℕ) (at : Option OpId) → ids_of body ≡ prefix ++ rest → at ≡ first_id (map op_id rest) → left (ids_of body) at ≡ length rest
left_is body prefix [] at whole is = ap (left (ids_of body)) is
left_is body prefix (n ∷ ns) at whole is =
    let size : length (ids_of body) ≡ length (prefix ++ n ∷ ns) = ap length whole in
    let sum : length (prefix ++ n ∷ ns) ≡ length prefix + suc (length ns) = length-append prefix (n ∷ ns) in
    ap (left (ids_of body)) is ∙ omega (arith, size, sum, position_at body prefix n ns whole)

-- the next one is there
pub next_live : (first body : Body) (op : OpId) (any : Bool) → Visiting first body (Some op) any → (next : Option OpId) → next ≡ id_after (ids_of body) op → IfSome next (λ o. Contains (ids_of body) o.index)
next_live first body op any v None is = tt
next_live first body op any v (Some n) is =
    let o = visited first body op any v in
    next_there body v.prefix op.index o.rest o.whole n (is ∙ ap (λ z. first_id (map op_id z)) (after_op body v.prefix op.index o.rest o.whole))

pub fit_same : (b after : Body) → IsOfFit b → ops_of after ≡ ops_of b → IsOfFit after
fit_same b after of same =
    record { design = of.design; fit = of.fit; number = of.number; owner = of.owner; there = of.there; is_body = of.is_body ∙ sym (same_ops b after same) }

-- ---- visits

pub begin : (b : Body) (at : Option OpId) → IsOfFit b → at ≡ first_id (map op_id (ids_of b)) → Visiting b b at false
begin b at fit is = record {
  fit = fit;
  count = 0;
  position = 0;
  is = refl;
  prefix = [];
  rest = ids_of b;
  whole = refl;
  size = refl;
  at_is = is;
  leads = leads_self table (body_ops b);
  less = inl (refl, refl);
}

visit_within : (s : Sweep) (x : Option (List Edit)) → s.position < length s.ops → table s.ops s.position ≡ x → visit table s ≡ with_edits s x
visit_within s x within is = ap (λ b. cond b (with_edits s (table s.ops s.position)) s) (lt-ltb s.position (length s.ops) within) ∙ ap (with_edits s) is

module _ (first body : Body) (op : OpId) (any : Bool) (v : Visiting first body (Some op) any) where
  abbrev now : Sweep
  now = record { ops = body_ops body; position = v.position; changed = any }

  abbrev pub o : Visited (ids_of body) v.prefix op
  o = visited first body op any v

  at_position : position_in body op ≡ v.position
  at_position = position_is body op ∙ position_at body v.prefix op.index o.rest o.whole ∙ v.size

  within : v.position < length (body_ops body)
  within =
      let size : length (ids_of body) ≡ length (v.prefix ++ op.index ∷ o.rest) = ap length o.whole in
      let sum : length (v.prefix ++ op.index ∷ o.rest) ≡ length v.prefix + suc (length o.rest) = length-append v.prefix (op.index ∷ o.rest) in
      omega (arith, length-body_ops body, size, sum, v.size)

  left_now : left (ids_of body) (Some op) ≡ suc (length o.rest)
  left_now =
      let size : length (ids_of body) ≡ length (v.prefix ++ op.index ∷ o.rest) = ap length o.whole in
      let sum : length (v.prefix ++ op.index ∷ o.rest) ≡ length v.prefix + suc (length o.rest) = length-append v.prefix (op.index ∷ o.rest) in
      omega (arith, size, sum, position_at body v.prefix op.index o.rest o.whole)

  -- no pattern matches
  pub passes : (after : Body) (next : Option OpId) → table (body_ops body) (position_in body op) ≡ None → ops_of after ≡ ops_of body
      → next ≡ id_after (ids_of body) op → Visiting first after next any
  passes after next none same is =
      let ops : body_ops body ≡ body_ops after = sym (same_ops body after same) in
      let ids : ids_of body ≡ ids_of after = ap ids_in (sym same) in
      record {
        fit = fit_same body after v.fit same;
        count = suc v.count;
        position = suc v.position;
        is = ap (visit table) v.is ∙ visit_within now None within (subst (λ i. table (body_ops body) i ≡ None) at_position none) ∙ ap (λ z. record { ops = z; position = suc v.position; changed = any }) ops;
        prefix = v.prefix ++ op.index ∷ [];
        rest = o.rest;
        whole = sym ids ∙ o.whole ∙ sym (append_assoc v.prefix (op.index ∷ []) o.rest);
        size = let sum : length (v.prefix ++ op.index ∷ []) ≡ length v.prefix + 1 = length-append v.prefix (op.index ∷ []) in omega (arith, sum, v.size);
        at_is = is ∙ ap (λ z. first_id (map op_id z)) (after_op body v.prefix op.index o.rest o.whole);
        leads = subst (Leads table (body_ops first)) ops v.leads;
        less = subst (λ z. ((any ≡ false) × (z ≡ body_ops first)) ⊎ IsSmaller z (body_ops first)) ops v.less;
      }

  -- a pattern matches
  pub folds : (after : Body) (next second due : Option OpId) → IsFolded table body after (position_in body op) → next ≡ id_after (ids_of body) op → second ≡ after_some (ids_of body) next
      → (Contains (ids_of after) op.index → due ≡ Some op) → ((Contains (ids_of after) op.index → ⊥) → IsDue (ids_of after) next second due)
      → Visiting first after due true × (left (ids_of after) due ≤ left (ids_of body) (Some op)) × (rank (body_ops after) < rank (body_ops body))
  folds after next second due folded is then there gone =
      let ids_are : ids_of after ≡ ids_edited_by folded.fresh folded.edits (v.prefix ++ op.index ∷ o.rest) = folded.ids ∙ ap (ids_edited_by folded.fresh folded.edits) o.whole in
      let is_next : next ≡ first_id (map op_id o.rest) = is ∙ ap (λ z. first_id (map op_id z)) (after_op body v.prefix op.index o.rest o.whole) in
      let form : IsPatternEdit (length (v.prefix ++ op.index ∷ o.rest)) (length v.prefix) folded.edits =
      subst (λ n. IsPatternEdit n (length v.prefix) folded.edits) (ap length o.whole)
      (subst (λ i. IsPatternEdit (length (ids_of body)) i folded.edits) (at_position ∙ sym v.size) folded.form) in
      let g : Goes (ids_edited_by folded.fresh folded.edits (v.prefix ++ op.index ∷ o.rest)) (moved_by folded.edits (length v.prefix)) (suc (length o.rest)) due =
      goes_on v.prefix op o.rest (λ w. subst (λ z. times w z ≤ 1) o.whole (ids_once body w)) folded.fresh (λ here. folded.is_fresh (subst (λ z. Contains z folded.fresh) (sym o.whole) here))
      next second due is_next
      (λ n ns same. then ∙ ap (after_some (ids_of body)) (is_next ∙ ap (λ z. first_id (map op_id z)) same) ∙ ap (λ z. first_id (map op_id z)) (after_next body v.prefix op.index o.rest o.whole n ns same))
      folded.edits form (subst (λ z. (Contains z op.index → due ≡ Some op) × ((Contains z op.index → ⊥) → IsDue z next second due)) ids_are (there, gone)) in
      let fold : IsFoldOf table (body_ops body) (body_ops after) = (position_in body op, folded.edits, folded.matches, folded.ops) in
      let lower : IsSmaller (body_ops after) (body_ops body) = fold_is_smaller body (body_ops after) v.fit fold in
      let whole : ids_of after ≡ g.prefix ++ g.rest = ids_are ∙ g.whole in (
        record {
          fit = fit_after body after v.fit (leads_more table (body_ops body) (body_ops body) (body_ops after) (leads_self table (body_ops body)) fold);
          count = suc v.count;
          position = moved_by folded.edits v.position;
          is = ap (visit table) v.is ∙ visit_within now (Some folded.edits) within (subst (λ i. table (body_ops body) i ≡ Some folded.edits) at_position folded.matches)
              ∙ ap (λ z. record { ops = z; position = moved_by folded.edits v.position; changed = true }) (sym folded.ops);
          prefix = g.prefix;
          rest = g.rest;
          whole = whole;
          size = g.size ∙ ap (moved_by folded.edits) v.size;
          at_is = g.at;
          leads = leads_more table (body_ops first) (body_ops body) (body_ops after) v.leads fold;
          less = inr (smaller_than_first lower v.less);
        },
        (let few : left (ids_of after) due ≡ length g.rest = left_is after g.prefix g.rest due whole g.at in omega (arith, few, g.few, left_now)),
        smaller_is_lower (body_ops body) (body_ops after) lower,
      )
    where
      smaller_than_first : IsSmaller (body_ops after) (body_ops body) → ((any ≡ false) × (body_ops body ≡ body_ops first)) ⊎ IsSmaller (body_ops body) (body_ops first) → IsSmaller (body_ops after) (body_ops first)
      smaller_than_first lower (inl (quiet, same)) = subst (IsSmaller (body_ops after)) same lower
      smaller_than_first lower (inr less) = smaller_then (body_ops after) (body_ops body) (body_ops first) lower less

  -- it ends in so many visits
  pub passes_less : (after : Body) (next : Option OpId) → ops_of after ≡ ops_of body → next ≡ id_after (ids_of body) op
      → rank (body_ops after) + left (ids_of after) next < rank (body_ops body) + left (ids_of body) (Some op)
  passes_less after next same is =
      let ids : ids_of after ≡ ids_of body = ap ids_in same in
      let ops : body_ops after ≡ body_ops body = same_ops body after same in
      let equal : rank (body_ops after) ≡ rank (body_ops body) = ap rank ops in
      let whole : ids_of after ≡ (v.prefix ++ op.index ∷ []) ++ o.rest = ids ∙ o.whole ∙ sym (append_assoc v.prefix (op.index ∷ []) o.rest) in
      let few : left (ids_of after) next ≡ length o.rest =
      left_is after (v.prefix ++ op.index ∷ []) o.rest next whole (is ∙ ap (λ z. first_id (map op_id z)) (after_op body v.prefix op.index o.rest o.whole)) in
      omega (arith, equal, few, left_now)

-- the sweep has ended where there is no operation to visit
pub swept : (first body : Body) (at : Option OpId) (any : Bool) → Visiting first body at any → at ≡ None → IsSwept table (body_ops first) any (body_ops body)
swept first body at any v end = record {
  count = v.count;
  position = v.position;
  is = v.is;
  ended =
      let nothing : v.rest ≡ [] = no_rest v.rest (sym v.at_is ∙ end) in
      let size : length (ids_of body) ≡ length (v.prefix ++ v.rest) = ap length v.whole in
      let sum : length (v.prefix ++ v.rest) ≡ length v.prefix + length v.rest = length-append v.prefix v.rest in
      let zero_left : length v.rest ≡ 0 = ap length nothing in
      omega (arith, length-body_ops body, size, sum, zero_left, v.size);
}
  where
    no_rest : (ns : List ℕ) → first_id (map op_id ns) ≡ None → ns ≡ []
    no_rest [] none = refl
    no_rest (n ∷ ns) none = cc

pub changed_less : (first body : Body) (at : Option OpId) (any : Bool) → Visiting first body at any → any ≡ true → IsSmaller (body_ops body) (body_ops first)
changed_less first body at any v is = go v.less
  where
    go : ((any ≡ false) × (body_ops body ≡ body_ops first)) ⊎ IsSmaller (body_ops body) (body_ops first) → IsSmaller (body_ops body) (body_ops first)
    go (inl (quiet, same)) = let clash : true ≡ false = sym is ∙ quiet in cc
    go (inr less) = less
