-- A sweep passes over settled operations.
use Rattle.std.proofs.Common.{◌≡◌, ◌⊎◌, ℕ, zero, suc, ◌+◌, ◌-◌, ◌≤◌, Bool, List, [], ◌∷◌, ◌++◌, length, map, Option, Some, None, refl, sym, ap, subst, ◌∙◌, inl, inr, arith, length-append}
use Rattle.std.specs.Prelude.{Contains}
use Rattle.std.proofs.lemmas.List.{append_assoc}
use Rattle.ir_store.specs.declared.body.Body.{Body}
use Rattle.ir_store.specs.declared.operation.OpId.{OpId}
use Rattle.ir_store.specs.Bodies.{ids_of, op_id, first_id}
use Rattle.ir_store.specs.Numbered.{position_of}
use Rattle.ir_store.proofs.BodyLemmas.{ids_once}
use Rattle.body_edits.specs.Views.{body_ops}
use Rattle.canonicalise.specs.Canonical.{table}
use Rattle.canonicalise.specs.Runs.{IsEnd}
use Rattle.canonicalise.specs.Settled.{AreMarks}
use Rattle.canonicalise.specs.declared.marks.Marks.{Marks}
use Rattle.canonicalise.proofs.Linked.{LeadsTo, leads_on}
use Rattle.canonicalise.proofs.Visiting.{Visiting, left, Visited, visited, passes, after_op, position_at, position_is}

-- operations at which no pattern matches are passed over
skips : (first body : Body) (any : Bool) (passed prefix : List ℕ) (end : ℕ) (beyond : List ℕ) → ids_of body ≡ prefix ++ (passed ++ end ∷ beyond)
    → ((id : ℕ) → Contains passed id → table (body_ops body) (position_of (ids_of body) id) ≡ None)
    → Visiting first body (first_id (map op_id (passed ++ end ∷ beyond))) any → Visiting first body (Some (op_id end)) any
skips first body any [] prefix end beyond whole none v = v
skips first body any (n ∷ ns) prefix end beyond whole none v =
    skips first body any ns (prefix ++ n ∷ []) end beyond (whole ∙ sym (append_assoc prefix (n ∷ []) (ns ++ end ∷ beyond)))
    (λ id there. none id (suc there.0, (let below = there.1 in omega (arith, below)), there.2))
    (passes first body (op_id n) any v body (first_id (map op_id (ns ++ end ∷ beyond))) (ap (table (body_ops body)) (position_is body (op_id n)) ∙ none n (zero, omega arith, refl)) refl
    (sym (ap (λ z. first_id (map op_id z)) (after_op body prefix n (ns ++ end ∷ beyond) whole))))

-- a sweep that visits an operation may visit the end of its run in its place
pub record Skipped (first body : Body) (start op : OpId) (any : Bool) : Type 0 where
  pub visiting : Visiting first body (Some op) any
  pub less : left (ids_of body) (Some op) ≤ left (ids_of body) (Some start)

pub skipped : (first body : Body) (m : Marks) (start op : OpId) (any : Bool) → AreMarks m body → Visiting first body (Some start) any → (op ≡ start) ⊎ IsEnd m.runs start.index op
    → Skipped first body start op any
skipped first body m start op any marks v (inl same) = record {
  visiting = subst (λ o. Visiting first body (Some o) any) (sym same) v;
  less = let equal : left (ids_of body) (Some op) ≡ left (ids_of body) (Some start) = ap (λ o. left (ids_of body) (Some o)) same in omega (arith, equal);
}
skipped first body m start op any marks v (inr end) = record {
  visiting = subst (λ o. Visiting first body (Some o) any) end.last
      (skips first body any l.passed v.prefix end.run.last.index l.beyond whole quiet (subst (λ z. Visiting first body (first_id (map op_id z)) any) l.whole v));
  less =
      let one : position_of (ids_of body) start.index ≡ length v.prefix = position_at body v.prefix start.index o.rest o.whole in
      let two : position_of (ids_of body) end.run.last.index ≡ length (v.prefix ++ l.passed) =
      position_at body (v.prefix ++ l.passed) end.run.last.index l.beyond (whole ∙ sym (append_assoc v.prefix l.passed (end.run.last.index ∷ l.beyond))) in
      let sum : length (v.prefix ++ l.passed) ≡ length v.prefix + length l.passed = length-append v.prefix l.passed in
      let same : position_of (ids_of body) op.index ≡ position_of (ids_of body) end.run.last.index = ap (λ (o : OpId). position_of (ids_of body) o.index) (sym end.last) in
      omega (arith, one, two, sum, same);
}
  where
    o : Visited (ids_of body) v.prefix start
    o = visited first body start any v

    l : LeadsTo m.runs end.run.last.index (start.index ∷ o.rest)
    l = leads_on m.runs (ids_of body) (ids_once body) marks.linked end.has.number end.run end.has.whole o.rest v.prefix start.index o.whole end.has.of

    whole : ids_of body ≡ v.prefix ++ (l.passed ++ end.run.last.index ∷ l.beyond)
    whole = o.whole ∙ ap (λ z. v.prefix ++ z) l.whole

    quiet : (id : ℕ) → Contains l.passed id → table (body_ops body) (position_of (ids_of body) id) ≡ None
    quiet id there = let has = l.all id there in (marks.settled id (marks.quiet id has.0 has.1)).1

-- so a sweep on its way may go to the end of a run
pub skip : (first body : Body) (m : Marks) (at : Option OpId) (start : OpId) (any : Bool) (op : OpId) → Visiting first body at any × AreMarks m body → at ≡ Some start → (op ≡ start) ⊎ IsEnd m.runs start.index op
    → Skipped first body start op any
skip first body m at start any op invariant is end = skipped first body m start op any invariant.1 (subst (λ o. Visiting first body o any) is invariant.0) end
