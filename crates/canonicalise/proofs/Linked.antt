-- Runs of operations: what becomes of them where one joins, and that they lead to their last one.
use Rattle.std.proofs.Common.{◌≡◌, ◌⊎◌, ℕ, zero, suc, ◌+◌, ◌<◌, true, false, nat_eq, List, [], ◌∷◌, ◌++◌, length, map, drop, set, Option, Some, None, refl, sym, ap, subst, ◌∙◌, inl, inr, arith, slice_get, length-append, length-set}
use Rattle.std.specs.Prelude.{Contains}
use Rattle.std.proofs.lemmas.Bool.{eqb-true}
use Rattle.std.proofs.lemmas.List.{append_assoc}
use Rattle.std.proofs.lemmas.Option.{slice_get_within}
use Rattle.wiring.proofs.Lists.{slice_get-append_at}
use Rattle.ir_store.specs.declared.operation.OpId.{OpId}
use Rattle.ir_store.specs.Bodies.{op_id, first_id}
use Rattle.ir_store.specs.Live.{AreDistinct}
use Rattle.ir_store.specs.Numbered.{position_of}
use Rattle.canonicalise.specs.Runs.{IsOf, IsWhole, AreNext, IsLinked, AreLinked, HasRun, IsBefore, Breaks, HasNoRun, Joins}
use Rattle.canonicalise.specs.declared.runs.Run.{Run}
use Rattle.canonicalise.specs.declared.runs.Runs.{Runs}
use Rattle.canonicalise.proofs.IdUses.{at_position, one_position}

-- ---- lists

first_at : (ids : List ℕ) (n : ℕ) (y : OpId) → Some y ≡ first_id (map op_id (drop n ids)) → slice_get ids n ≡ Some y.index
first_at [] zero y is = cc
first_at [] (suc n) y is = cc
first_at (i ∷ ids) zero y is = let e : y ≡ op_id i = cc in sym (ap (λ (o : OpId). Some o.index) e)
first_at (i ∷ ids) (suc n) y is = first_at ids n y is

-- the id that is found after another one is next to it
next_found : (ids : List ℕ) (x : ℕ) (y : OpId) → Contains ids x → Some y ≡ first_id (map op_id (drop (suc (position_of ids x)) ids)) → AreNext ids x y.index
next_found ids x y there is = record { at = position_of ids x; first = at_position ids x there; second = first_at ids (suc (position_of ids x)) y is }

pub is_next_found : (ids : List ℕ) (x : ℕ) (other next : OpId) → nat_eq other.index next.index ≡ true → Contains ids x → Some other ≡ first_id (map op_id (drop (suc (position_of ids x)) ids)) → AreNext ids x next.index
is_next_found ids x other next same there is = subst (AreNext ids x) (eqb-true other.index next.index same) (next_found ids x other there is)

module _ {A : Type 0} where
  get_pushed : (xs : List A) (x y : A) (i : ℕ) → slice_get (xs ++ x ∷ []) i ≡ Some y → ((i ≡ length xs) × (y ≡ x)) ⊎ (slice_get xs i ≡ Some y)
  get_pushed [] x y zero is = inl (refl, cc)
  get_pushed [] x y (suc i) is = cc
  get_pushed (z ∷ xs) x y zero is = inr is
  get_pushed (z ∷ xs) x y (suc i) is = further (get_pushed xs x y i is)
    where
      further : ((i ≡ length xs) × (y ≡ x)) ⊎ (slice_get xs i ≡ Some y) → ((suc i ≡ suc (length xs)) × (y ≡ x)) ⊎ (slice_get xs i ≡ Some y)
      further (inl (same, one)) = inl (ap suc same, one)
      further (inr was) = inr was

  get_set : (xs : List A) (n : ℕ) (x y : A) (i : ℕ) → slice_get (set xs n x) i ≡ Some y → ((i ≡ n) × (y ≡ x)) ⊎ ((i ≡ n → ⊥) × (slice_get xs i ≡ Some y))
  get_set [] n x y i is = cc
  get_set (z ∷ xs) zero x y zero is = inl (refl, cc)
  get_set (z ∷ xs) zero x y (suc i) is = inr ((λ same. omega (arith, same)), is)
  get_set (z ∷ xs) (suc n) x y zero is = inr ((λ same. omega (arith, same)), is)
  get_set (z ∷ xs) (suc n) x y (suc i) is = further (get_set xs n x y i is)
    where
      further : ((i ≡ n) × (y ≡ x)) ⊎ ((i ≡ n → ⊥) × (slice_get xs i ≡ Some y)) → ((suc i ≡ suc n) × (y ≡ x)) ⊎ ((suc i ≡ suc n → ⊥) × (slice_get xs i ≡ Some y))
      further (inl (same, one)) = inl (ap suc same, one)
      further (inr (other, was)) = inr ((λ same. other (omega (arith, same))), was)

  past_end : (xs : List A) (x : A) (ys : List A) → slice_get (xs ++ x ∷ ys) (suc (length xs)) ≡ slice_get ys 0
  past_end [] x ys = refl
  past_end (z ∷ xs) x ys = past_end xs x ys

-- ---- an operation of no run joins one

module _ (old new : Runs) (ids : List ℕ) (op : OpId) (number : ℕ) (linked : AreLinked old ids) (none : HasNoRun old op.index) (of : IsOf new number op.index)
    (others : (r id : ℕ) → (id ≡ op.index → ⊥) → IsOf old r id → IsOf new r id) (only : (r id : ℕ) → IsOf new r id → ((id ≡ op.index) × (r ≡ number)) ⊎ IsOf old r id)
    (run : Run) (last : run.last ≡ op) where
  -- operations of whole runs stay linked
  still : (r id : ℕ) (w : Run) → IsWhole old r w → IsOf old r id → IsLinked new ids r w.last id
  still r id w whole is = go (linked.linked r id w whole is)
    where
      go : IsLinked old ids r w.last id → IsLinked new ids r w.last id
      go (inl end) = inl end
      go (inr (next, two, same)) = inr (next, two, others r next (λ e. none w (record { number = r; of = subst (IsOf old r) e same; whole = whole })) same)

  is_last : (id : ℕ) (w : Run) → id ≡ op.index → w ≡ run → id ≡ w.last.index
  is_last id w same one = same ∙ sym (ap (λ (o : OpId). o.index) last) ∙ sym (ap (λ (v : Run). v.last.index) one)

  -- in a new run
  module _ (pushed : new.runs.items ≡ old.runs.items ++ run ∷ []) (end : number ≡ length old.runs.items) where
    whole_then : (r : ℕ) (w : Run) → IsWhole new r w → ((r ≡ number) × (w ≡ run)) ⊎ IsWhole old r w
    whole_then r w whole = go (get_pushed old.runs.items run w r (sym (ap (λ z. slice_get z r) pushed) ∙ whole.there))
      where
        go : ((r ≡ length old.runs.items) × (w ≡ run)) ⊎ (slice_get old.runs.items r ≡ Some w) → ((r ≡ number) × (w ≡ run)) ⊎ IsWhole old r w
        go (inl (same, one)) = inl (same ∙ sym end, one)
        go (inr was) = inr (record { there = was; whole = whole.whole })

    -- no operation was of it
    not_before : (id : ℕ) → IsOf old number id → ⊥
    not_before id is = let below = linked.numbered number id is in omega (arith, below, end)

    not_whole : (w : Run) → IsWhole old number w → ⊥
    not_whole w whole = let below = slice_get_within old.runs.items number w whole.there in omega (arith, below, end)

    linked_then : (r id : ℕ) (w : Run) → IsWhole new r w → IsOf new r id → IsLinked new ids r w.last id
    linked_then r id w whole is = go (whole_then r w whole) (only r id is)
      where
        go : ((r ≡ number) × (w ≡ run)) ⊎ IsWhole old r w → ((id ≡ op.index) × (r ≡ number)) ⊎ IsOf old r id → IsLinked new ids r w.last id
        go (inl (same, one)) (inl (it, at)) = inl (is_last id w it one)
        go (inl (same, one)) (inr was) = absurd (not_before id (subst (λ n. IsOf old n id) same was))
        go (inr before) (inl (it, at)) = absurd (not_whole w (subst (λ n. IsWhole old n w) at before))
        go (inr before) (inr was) = still r id w before was

    pub opened : AreLinked new ids
    opened = record {
      numbered = λ r id is. go r id (only r id is);
      linked = linked_then;
    }
      where
        size : length new.runs.items ≡ length old.runs.items + 1
        size = ap length pushed ∙ length-append old.runs.items (run ∷ [])

        go : (r id : ℕ) → ((id ≡ op.index) × (r ≡ number)) ⊎ IsOf old r id → r < length new.runs.items
        go r id (inl (it, at)) = omega (arith, at, end, size)
        go r id (inr was) = let below = linked.numbered r id was in omega (arith, below, size)

    pub opened_joins : Joins op.index old new
    opened_joins other w has = go (whole_then has.number w has.whole) (only has.number other has.of)
      where
        go : ((has.number ≡ number) × (w ≡ run)) ⊎ IsWhole old has.number w → ((other ≡ op.index) × (has.number ≡ number)) ⊎ IsOf old has.number other
            → (other ≡ op.index) ⊎ (was : Run) × HasRun old other was
        go now (inl (it, at)) = inl it
        go (inl (same, one)) (inr was) = absurd (not_before other (subst (λ n. IsOf old n other) same was))
        go (inr before) (inr was) = inr (w, record { number = has.number; of = was; whole = before })

  -- in the last run, which ends right before it
  module _ (prev : Run) (before : IsBefore old ids op.index number prev) (put : new.runs.items ≡ set old.runs.items number run) where
    other_then : (r : ℕ) (w : Run) → IsWhole new r w → ((r ≡ number) × (w ≡ run)) ⊎ ((r ≡ number → ⊥) × IsWhole old r w)
    other_then r w whole = go (get_set old.runs.items number run w r (sym (ap (λ z. slice_get z r) put) ∙ whole.there))
      where
        go : ((r ≡ number) × (w ≡ run)) ⊎ ((r ≡ number → ⊥) × (slice_get old.runs.items r ≡ Some w)) → ((r ≡ number) × (w ≡ run)) ⊎ ((r ≡ number → ⊥) × IsWhole old r w)
        go (inl same) = inl same
        go (inr (other, was)) = inr (other, record { there = was; whole = whole.whole })

    -- what was the last one stands right before it
    moved : (r id : ℕ) (w : Run) → r ≡ number → w ≡ run → IsLinked new ids number prev.last id → IsLinked new ids r w.last id
    moved r id w same one (inl end) =
        inr (op.index, subst (λ x. AreNext ids x op.index) (sym end) before.next, subst (λ n. IsOf new n op.index) (sym same) of)
    moved r id w same one (inr (next, two, is)) = inr (next, two, subst (λ n. IsOf new n next) (sym same) is)

    joined_then : (r id : ℕ) (w : Run) → IsWhole new r w → IsOf new r id → IsLinked new ids r w.last id
    joined_then r id w whole is = go (other_then r w whole) (only r id is)
      where
        go : ((r ≡ number) × (w ≡ run)) ⊎ ((r ≡ number → ⊥) × IsWhole old r w) → ((id ≡ op.index) × (r ≡ number)) ⊎ IsOf old r id → IsLinked new ids r w.last id
        go (inl (same, one)) (inl (it, at)) = inl (is_last id w it one)
        go (inl (same, one)) (inr was) = moved r id w same one (still number id prev before.whole (subst (λ n. IsOf old n id) same was))
        go (inr (other, there)) (inl (it, at)) = absurd (other at)
        go (inr (other, there)) (inr was) = still r id w there was

    pub extended : AreLinked new ids
    extended = record {
      numbered = λ r id is. go r id (only r id is);
      linked = joined_then;
    }
      where
        size : length new.runs.items ≡ length old.runs.items
        size = ap length put ∙ length-set old.runs.items number run

        go : (r id : ℕ) → ((id ≡ op.index) × (r ≡ number)) ⊎ IsOf old r id → r < length new.runs.items
        go r id (inl (it, at)) = let count = before.count in omega (arith, at, count, size)
        go r id (inr was) = let below = linked.numbered r id was in omega (arith, below, size)

    pub extended_joins : Joins op.index old new
    extended_joins other w has = go (other_then has.number w has.whole) (only has.number other has.of)
      where
        go : ((has.number ≡ number) × (w ≡ run)) ⊎ ((has.number ≡ number → ⊥) × IsWhole old has.number w) → ((other ≡ op.index) × (has.number ≡ number)) ⊎ IsOf old has.number other
            → (other ≡ op.index) ⊎ (was : Run) × HasRun old other was
        go now (inl (it, at)) = inl it
        go (inl (same, one)) (inr was) = inr (prev, record { number = number; of = subst (λ n. IsOf old n other) same was; whole = before.whole })
        go (inr (differs, there)) (inr was) = inr (w, record { number = has.number; of = was; whole = there })

-- ---- runs that are broken

pub still_linked : (old new : Runs) (ids : List ℕ) → Breaks old new → AreLinked old ids → AreLinked new ids
still_linked old new ids breaks linked = record {
  numbered = λ r id is. let below = linked.numbered r id (is_of r id is) in let count = breaks.count in omega (arith, below, count);
  linked = λ r id run whole is. go r id run (linked.linked r id run (breaks.whole r run whole) (is_of r id is));
}
  where
    is_of : (r id : ℕ) → IsOf new r id → IsOf old r id
    is_of r id is = sym (ap (λ z. slice_get z id) breaks.same) ∙ is

    go : (r id : ℕ) (run : Run) → IsLinked old ids r run.last id → IsLinked new ids r run.last id
    go r id run (inl end) = inl end
    go r id run (inr (next, two, is)) = inr (next, two, ap (λ z. slice_get z next) breaks.same ∙ is)

pub breaks_self : (rs : Runs) → Breaks rs rs
breaks_self rs = record { same = refl; count = refl; whole = λ r run whole. whole }

pub breaks_then : (a b c : Runs) → Breaks a b → Breaks b c → Breaks a c
breaks_then a b c one two = record {
  same = two.same ∙ one.same;
  count = two.count ∙ one.count;
  whole = λ r run whole. one.whole r run (two.whole r run whole);
}

-- a run that an operation has once runs are broken is one that it had
pub had_run : (old new : Runs) (id : ℕ) (run : Run) → Breaks old new → HasRun new id run → HasRun old id run
had_run old new id run breaks has = record {
  number = has.number;
  of = sym (ap (λ z. slice_get z id) breaks.same) ∙ has.of;
  whole = breaks.whole has.number run has.whole;
}

-- a run that is broken
module _ (old new : Runs) (number : ℕ) (run : Run) (broken : run.whole ≡ false) (same : new.of.items ≡ old.of.items) (put : new.runs.items ≡ set old.runs.items number run) where
  was_whole : (r : ℕ) (w : Run) → IsWhole new r w → (r ≡ number → ⊥) × IsWhole old r w
  was_whole r w whole = go (get_set old.runs.items number run w r (sym (ap (λ z. slice_get z r) put) ∙ whole.there))
    where
      go : ((r ≡ number) × (w ≡ run)) ⊎ ((r ≡ number → ⊥) × (slice_get old.runs.items r ≡ Some w)) → (r ≡ number → ⊥) × IsWhole old r w
      go (inl (at, one)) = let clash : true ≡ false = sym whole.whole ∙ ap (λ (v : Run). v.whole) one ∙ broken in cc
      go (inr (other, was)) = (other, record { there = was; whole = whole.whole })

  pub breaks_one : Breaks old new
  breaks_one = record {
    same = same;
    count = ap length put ∙ length-set old.runs.items number run;
    whole = λ r w whole. (was_whole r w whole).1;
  }

  pub one_broken : (w : Run) → IsWhole new number w → ⊥
  one_broken w whole = (was_whole number w whole).0 refl

-- an operation of a broken run is of no whole one
pub has_no_run : (old new : Runs) (number id : ℕ) → Breaks old new → ((w : Run) → IsWhole new number w → ⊥) → ((r : ℕ) → IsOf old r id → Some number ≡ Some r) → HasNoRun new id
has_no_run old new number id breaks broken only run has =
    let one : Some number ≡ Some has.number = only has.number (sym (ap (λ z. slice_get z id) breaks.same) ∙ has.of) in
    let same : has.number ≡ number = cc in
    broken run (subst (λ n. IsWhole new n run) same has.whole)

pub of_no_run : (rs : Runs) (id : ℕ) (x : Option ℕ) → x ≡ None → ((r : ℕ) → IsOf rs r id → x ≡ Some r) → HasNoRun rs id
of_no_run rs id x none only run has = let clash : None ≡ Some has.number = sym none ∙ only has.number has.of in cc

-- where an operation joins after runs are broken, or does not
pub joins_after : (old mid new : Runs) (id : ℕ) → Breaks old mid → Joins id mid new → Joins id old new
joins_after old mid new id breaks joins other run has = go (joins other run has)
  where
    go : (other ≡ id) ⊎ (was : Run) × HasRun mid other was → (other ≡ id) ⊎ (was : Run) × HasRun old other was
    go (inl same) = inl same
    go (inr (was, had)) = inr (was, had_run old mid other was breaks had)

pub joins_self : (rs : Runs) (id : ℕ) → Joins id rs rs
joins_self rs id other run has = inr (run, has)

-- ---- what stands from an operation of a whole run on

pub record LeadsTo (rs : Runs) (end : ℕ) (rest : List ℕ) : Type 0 where
  pub passed : List ℕ
  pub beyond : List ℕ
  pub whole : rest ≡ passed ++ end ∷ beyond
  pub all : (id : ℕ) → Contains passed id → (run : Run) × HasRun rs id run

module _ (rs : Runs) (ids : List ℕ) (distinct : AreDistinct ids) (linked : AreLinked rs ids) (r : ℕ) (run : Run) (whole : IsWhole rs r run) where
  -- the next one is the first of what follows
  next_is : (prefix rest : List ℕ) (id next : ℕ) → ids ≡ prefix ++ id ∷ rest → AreNext ids id next → slice_get rest 0 ≡ Some next
  next_is prefix rest id next split two =
      let here : slice_get ids (length prefix) ≡ Some id = ap (λ z. slice_get z (length prefix)) split ∙ slice_get-append_at prefix id rest in
      let at : two.at ≡ length prefix = one_position id ids (distinct id) two.at (length prefix) two.first here in
      sym (past_end prefix id rest) ∙ sym (ap (λ z. slice_get z (suc (length prefix))) split) ∙ ap (λ n. slice_get ids (suc n)) (sym at) ∙ two.second

  abbrev Leading : List ℕ → Type 0
  Leading rest = LeadsTo rs run.last.index rest

  ends_here : (rest : List ℕ) (id : ℕ) → id ≡ run.last.index → Leading (id ∷ rest)
  ends_here rest id end = record { passed = []; beyond = rest; whole = ap (λ n. n ∷ rest) end; all = λ n there. absurd (let below = there.1 in omega (arith, below)) }

  pub leads_on : (rest prefix : List ℕ) (id : ℕ) → ids ≡ prefix ++ id ∷ rest → IsOf rs r id → Leading (id ∷ rest)
  leads_on [] prefix id split is = go (linked.linked r id run whole is)
    where
      go : IsLinked rs ids r run.last id → Leading (id ∷ [])
      go (inl end) = ends_here [] id end
      go (inr (next, two, of)) = let none = next_is prefix [] id next split two in cc
  leads_on (y ∷ ys) prefix id split is =
      go (linked.linked r id run whole is) (λ of. leads_on ys (prefix ++ id ∷ []) y (split ∙ sym (append_assoc prefix (id ∷ []) (y ∷ ys))) of)
    where
      go : IsLinked rs ids r run.last id → (IsOf rs r y → Leading (y ∷ ys)) → Leading (id ∷ y ∷ ys)
      go (inl end) rest = ends_here (y ∷ ys) id end
      go (inr (next, two, of)) rest =
          let first : Some y ≡ Some next = next_is prefix (y ∷ ys) id next split two in
          let same : next ≡ y = cc in
          let on = rest (subst (IsOf rs r) same of) in
          record {
            passed = id ∷ on.passed;
            beyond = on.beyond;
            whole = ap (λ z. id ∷ z) on.whole;
            all = each on;
          }
        where
          each : (on : Leading (y ∷ ys)) (n : ℕ) → Contains (id ∷ on.passed) n → (w : Run) × HasRun rs n w
          each on n (zero, l, e) = (run, record { number = r; of = subst (IsOf rs r) e is; whole = whole })
          each on n (suc k, l, e) = on.all n (k, omega (arith, l), e)
