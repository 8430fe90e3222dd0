-- Which operations are settled after a visit.
use Rattle.std.proofs.Common.{◌≡◌, ◌⊎◌, ℕ, Bool, true, false, List, Option, Some, None, is_some, slice_get, refl, sym, ap, subst, ◌∙◌, inl, inr}
use Rattle.std.specs.Prelude.{Contains}
use Rattle.wiring.proofs.Members.{position_of_In}
use Rattle.ir_store.specs.declared.body.Body.{Body}
use Rattle.ir_store.specs.declared.operation.OpId.{OpId}
use Rattle.ir_store.specs.declared.operation.Value.TheVariants.{Result}
use Rattle.ir_store.specs.Bodies.{ids_of, ops_of}
use Rattle.ir_store.specs.BodyOps.{BodyOp, ids_in, op_at}
use Rattle.ir_store.specs.Numbered.{position_of}
use Rattle.body_edits.specs.FitBodies.{IsOfFit}
use Rattle.body_edits.specs.Folded.{IsFolded, Tries}
use Rattle.body_edits.specs.Views.{HasOp, body_ops, position_in}
use Rattle.canonicalise.specs.Canonical.{table}
use Rattle.canonicalise.specs.Runs.{IsOf, IsWhole, IsLinked, AreLinked, HasRun}
use Rattle.canonicalise.specs.Settled.{IsSettled, AreSettled, IsUser, IsApart, AreQuiet, Loses, AreMarks}
use Rattle.canonicalise.specs.declared.marks.Marks.{Marks}
use Rattle.canonicalise.specs.declared.runs.Run.{Run}
use Rattle.canonicalise.specs.declared.runs.Runs.{Runs}
use Rattle.canonicalise.proofs.Follows.{fit_after}
use Rattle.canonicalise.proofs.Linked.{still_linked, breaks_then}
use Rattle.canonicalise.proofs.Reached.{own, Stays, stays_settled, next_stays}
use Rattle.canonicalise.proofs.Sweeping.{leads_self, leads_more}
use Rattle.canonicalise.proofs.Visiting.{same_ops, position_is}

-- no pattern matches at a settled operation
pub settled_none : (b : Body) (m : Marks) (op : OpId) → AreSettled m b → IsSettled m op.index → table (body_ops b) (position_in b op) ≡ None
settled_none b m op settled is = ap (table (body_ops b)) (position_is b op) ∙ (settled op.index is).1

pub unmatched : {A : Type 0} (x : Option A) → false ≡ is_some x → x ≡ None
unmatched None is = refl
unmatched (Some a) is = cc

-- one more operation is settled
pub settled_more : (b : Body) (m m' : Marks) (op : OpId) → AreSettled m b → HasOp b op → table (body_ops b) (position_in b op) ≡ None
    → ((id : ℕ) → IsSettled m' id → (id ≡ op.index) ⊎ IsSettled m id) → AreSettled m' b
settled_more b m m' op settled there none few id is = go (few id is)
  where
    go : (id ≡ op.index) ⊎ IsSettled m id → Contains (ids_of b) id × (table (body_ops b) (position_of (ids_of b) id) ≡ None)
    go (inr was) = settled id was
    go (inl same) = (
      subst (Contains (ids_of b)) (sym same) there,
      ap (λ i. table (body_ops b) (position_of (ids_of b) i)) same ∙ ap (table (body_ops b)) (sym (position_is b op)) ∙ none,
    )

-- where nothing is settled
pub no_marks : (b : Body) (m : Marks) → ((id : ℕ) → IsSettled m id → ⊥) → ((r id : ℕ) → IsOf m.runs r id → ⊥) → AreMarks m b
no_marks b m none runs = record {
  settled = λ id is. absurd (none id is);
  quiet = λ id run has. absurd (runs has.number id has.of);
  linked = record {
    numbered = λ r id is. absurd (runs r id is);
    linked = λ r id run whole is. absurd (runs r id is);
  };
}

-- marks of which the one that is settled joins a run
pub settled_marks : (b : Body) (m m' : Marks) (op : OpId) → AreMarks m b → HasOp b op → table (body_ops b) (position_in b op) ≡ None
    → ((id : ℕ) → IsSettled m' id → (id ≡ op.index) ⊎ IsSettled m id) → ((id : ℕ) → IsSettled m id → IsSettled m' id) → m'.runs ≡ m.runs → AreMarks m' b
settled_marks b m m' op marks there none few stay same = record {
  settled = settled_more b m m' op marks.settled there none few;
  quiet = λ id run has. stay id (marks.quiet id run (subst (λ (rs : Runs). HasRun rs id run) same has));
  linked = subst (λ (rs : Runs). AreLinked rs (ids_of b)) (sym same) marks.linked;
}

-- marks with other runs
pub joined_marks : (b : Body) (m m' : Marks) → AreMarks m b → m'.settled.items ≡ m.settled.items → AreQuiet m' → AreLinked m'.runs (ids_of b) → AreMarks m' b
joined_marks b m m' marks same quiet linked = record {
  settled = λ id is. marks.settled id (sym (ap (λ flags. slice_get flags id) same) ∙ is);
  quiet = quiet;
  linked = linked;
}

-- ---- a fold, or none

module _ (before after : Body) (m marked left : Marks) (op : OpId) (o : BodyOp) (fit : IsOfFit before) (there : HasOp before op) (marks : AreMarks m before) (unsettled : IsSettled m op.index → ⊥)
    (own_op : op_at (ops_of before) op.index ≡ Some o)
    (users : (id : ℕ) → IsSettled marked id → IsSettled m id × (IsUser (Result op 0) (ops_of before) id → ⊥)) (loses : Loses m marked)
    (makers : (id : ℕ) → IsSettled left id → IsSettled marked id × ((k : ℕ) (w : OpId) (n : ℕ) → slice_get o.operands k ≡ Some (Result w n) → IsApart after w id)) (more : Loses marked left) where
  quiet_left : AreQuiet left
  quiet_left = more.quiet (loses.quiet marks.quiet)

  linked_left : AreLinked left.runs (ids_of before)
  linked_left = still_linked m.runs left.runs (ids_of before) (breaks_then m.runs marked.runs left.runs loses.breaks more.breaks) marks.linked

  module _ (folded : IsFolded table before after (position_in before op)) where
    fit_then : IsOfFit after
    fit_then = fit_after before after fit
        (leads_more table (body_ops before) (body_ops before) (body_ops after) (leads_self table (body_ops before)) (position_in before op, folded.edits, folded.matches, folded.ops))

    -- what is settled afterwards stays
    stays : (id : ℕ) → IsSettled left id → Stays before after op fit fit_then there folded id
    stays id is =
        let apart = makers id is in
        let other = users id apart.0 in
        let was = marks.settled id other.0 in
        let one : (o' : BodyOp) × (op_at (ops_of before) op.index ≡ Some o') = own before after op fit fit_then there folded in
        let both : Some one.0 ≡ Some o = sym one.1 ∙ own_op in
        let same : one.0 ≡ o = cc in
        stays_settled before after op fit fit_then there folded id was.0 was.1 (λ e. unsettled (subst (IsSettled m) e other.0)) other.1
        (λ w n here. let at = position_of_In (Result w n) one.0.operands here in apart.1 at.0 w n (ap (λ (p : BodyOp). slice_get p.operands at.0) (sym same) ∙ at.1))

    -- and so do two of a run, one right after the other
    linked_then : (r id : ℕ) (run : Run) → IsWhole left.runs r run → IsOf left.runs r id → IsLinked left.runs (ids_of before) r run.last id → IsLinked left.runs (ids_of after) r run.last id
    linked_then r id run whole is (inl end) = inl end
    linked_then r id run whole is (inr (next, two, of)) =
        let one = stays id (quiet_left id run (record { number = r; of = is; whole = whole })) in
        let other = stays next (quiet_left next run (record { number = r; of = of; whole = whole })) in
        inr (next, next_stays before after op fit fit_then there folded id next one other two, of)

    after_fold : AreMarks left after
    after_fold = record {
      settled = λ id is. (stays id is).settled;
      quiet = quiet_left;
      linked = record {
        numbered = linked_left.numbered;
        linked = λ r id run whole is. linked_then r id run whole is (linked_left.linked r id run whole is);
      };
    }

  after_none : ops_of after ≡ ops_of before → AreMarks left after
  after_none same = record {
    settled = λ id is.
        let was = marks.settled id (users id (makers id is).0).0 in (
          subst (λ (ops : List BodyOp). Contains (ids_in ops) id) (sym same) was.0,
          ap (λ os. table os (position_of (ids_of after) id)) (same_ops before after same) ∙ ap (λ (ops : List BodyOp). table (body_ops before) (position_of (ids_in ops) id)) same ∙ was.1,
        );
    quiet = quiet_left;
    linked = subst (λ (ops : List BodyOp). AreLinked left.runs (ids_in ops)) (sym same) linked_left;
  }

  pub still_settled : (folded : Bool) → Tries table before after (position_in before op) folded → AreMarks left after
  still_settled true tries = after_fold tries
  still_settled false tries = after_none tries.1
