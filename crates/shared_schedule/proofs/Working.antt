-- What a worker's loop keeps, on views alone.
use Rattle.std.proofs.Common.{◌≡◌, ◌≢◌, ℕ, zero, suc, ◌+◌, ◌<◌, ◌≤◌, ◌⊎◌, Bool, true, false, not, cond, ◌&&◌, List, [], ◌∷◌, ◌++◌, length, Option, Some, None, Result, Ok, Err, refl, sym, ap, subst, ◌∙◌, inl, inr, arith}
use Rattle.std.specs.Prelude.{◌==◌, nat_lt, OnOk}
use Rattle.std.proofs.lemmas.Bool.{true≢false, false≢true, cases_eq, eqb-true, eq-eqb, ne_eqb, cond-true, cond-false, ltb-true, lt-ltb, false_from_ne_true, or_right}
use Rattle.sched_core.specs.Sums.{sum_below, one_if}
use Rattle.sched_core.specs.State.{callees_of, callee, IsEdge}
use Rattle.sched_core.proofs.SumLemmas.{one_if-le}
use Rattle.sched_core.proofs.EdgeSums.{edge_within}
use Rattle.shared_schedule.specs.declared.view.Hold.{Hold}
use Rattle.shared_schedule.specs.declared.view.Hold.TheVariants.{Due, Begun, Over}
use Rattle.shared_schedule.specs.declared.view.View.{View}
use Rattle.shared_schedule.specs.Views.{last_move, is_held, is_over, has_edge}
use Rattle.shared_schedule.specs.declared.view.TableSlot.TheVariants.{Nowhere}
use Rattle.shared_schedule.specs.Plays.{drawn, moved, cleared, reported}
use Rattle.shared_schedule.specs.Seats.{IsFinished, Agrees}
use Rattle.shared_schedule.specs.Working.{times, edge_times, is_due, goes_from, AreCallersOf, IsBetween, IsTelling, open_modules, GoesOn}
use Rattle.shared_schedule.proofs.Lookups.{edge-here, edge-other}
use Rattle.shared_schedule.proofs.Positions.{edge-cases}

-- the newest move
pub move-here : (m : ℕ) (h : Hold) (moves : List (ℕ × Hold)) → last_move ((m, h) ∷ moves) m ≡ Some h
move-here m h moves = cond-true (m == m) (Some h) (last_move moves m) (eq-eqb m m refl)

pub move-other : (m k : ℕ) (h : Hold) (moves : List (ℕ × Hold)) → k ≢ m → last_move ((m, h) ∷ moves) k ≡ last_move moves k
move-other m k h moves apart = cond-false (k == m) (Some h) (last_move moves k) (ne_eqb k m apart)

-- where the queue is empty the worker is finished
pub between-finished : {P : Type 0} (callees : List (List ℕ)) (v : View P) → IsBetween callees v [] → IsFinished callees v
between-finished callees v b = record { over = over; told = b.told }
  where
    over : (m : ℕ) (h : Hold) → last_move v.moves m ≡ Some h → h ≡ Over
    over m Due is = let none : 0 ≡ one_if (is_due (last_move v.moves m)) = b.owed m in let one : one_if (is_due (last_move v.moves m)) ≡ 1 = ap (λ o. one_if (is_due o)) is in absurd (omega arith)
    over m Begun is = absurd (b.begun m is)
    over m Over is = refl

pub times-append : (m : ℕ) (xs ys : List ℕ) → times m (xs ++ ys) ≡ times m xs + times m ys
times-append m [] ys = omega arith
times-append m (x ∷ xs) ys = ap (λ n. one_if (m == x) + n) (times-append m xs ys) ∙ (let e : one_if (m == x) + (times m xs + times m ys) ≡ (one_if (m == x) + times m xs) + times m ys = omega arith in e)

-- one more number
times-last : (m k : ℕ) (xs : List ℕ) → times m (xs ++ k ∷ []) ≡ times m xs + one_if (m == k)
times-last m k xs = times-append m xs (k ∷ []) ∙ ap (λ n. times m xs + n) (let e : one_if (m == k) + 0 ≡ one_if (m == k) = omega arith in e)

one_if-true : (b : Bool) → 1 ≤ one_if b → b ≡ true
one_if-true true some = refl
one_if-true false some = absurd (omega arith)

over-due : (o : Option Hold) → is_over o ≡ true → is_due o ≡ false
over-due None is = refl
over-due (Some Due) is = absurd (false≢true is)
over-due (Some Begun) is = refl
over-due (Some Over) is = refl

over-held : (o : Option Hold) → is_over o ≡ true → is_held o ≡ true
over-held None is = is
over-held (Some h) is = refl

held-none : (o : Option Hold) → is_held o ≡ false → o ≡ None
held-none None is = refl
held-none (Some h) is = absurd (true≢false is)

both-true : (a b : Bool) → (a && b) ≡ true → (a ≡ true) × (b ≡ true)
both-true true b is = (refl, is)
both-true false b is = absurd (false≢true is)

-- an edge from the callee is an edge
pub goes-edge : (callees : List (List ℕ)) (m c i : ℕ) → goes_from callees m c i ≡ true → IsEdge callees c i × (callee callees c i ≡ m)
goes-edge callees m c i is = let parts = both-true (nat_lt i (length (callees_of callees c))) (callee callees c i == m) is in (ltb-true i (length (callees_of callees c)) parts.0, eqb-true (callee callees c i) m parts.1)

pub edge-goes : (callees : List (List ℕ)) (m c i : ℕ) → IsEdge callees c i → callee callees c i ≡ m → goes_from callees m c i ≡ true
edge-goes callees m c i at same = rw (lt-ltb i (length (callees_of callees c)) at, eq-eqb (callee callees c i) m same) refl

-- the first of a list stands in it
first-times : (c i : ℕ) (xs : List (ℕ × ℕ)) → edge_times ((c, i) ∷ xs) c i ≡ 1 + edge_times xs c i
first-times c i xs = rw (eq-eqb c c refl, eq-eqb i i refl) refl

other-times : (c i a b : ℕ) (xs : List (ℕ × ℕ)) → (a ≡ c → b ≡ i → ⊥) → edge_times ((c, i) ∷ xs) a b ≡ edge_times xs a b
other-times c i a b xs apart = by_tests (a == c) (b == i) refl refl
  where
    by_tests : (x y : Bool) → (a == c) ≡ x → (b == i) ≡ y → one_if ((a == c) && (b == i)) + edge_times xs a b ≡ edge_times xs a b
    by_tests true true e f = absurd (apart (eqb-true a c e) (eqb-true b i f))
    by_tests true false e f = rw (e, f) (omega arith)
    by_tests false y e f = rw e (omega arith)

-- what is known of the next edge to report: it is one of the callee's, it is not reported, and its caller is not held
pub record IsNext {P : Type 0} (callees : List (List ℕ)) (v : View P) (m c i : ℕ) : Type 0 where
  pub edge : IsEdge callees c i
  pub callee_is : callee callees c i ≡ m
  pub bare : has_edge v.told c i ≡ false
  pub free : last_move v.moves c ≡ None

pub next-edge : {P : Type 0} (callees : List (List ℕ)) (v : View P) (queue : List ℕ) (m c i : ℕ) (rest : List (ℕ × ℕ)) → Agrees callees v → IsTelling callees v queue m ((c, i) ∷ rest) → IsNext callees v m c i
next-edge callees v queue m c i rest agrees tells = record { edge = edge.0; callee_is = edge.1; bare = bare; free = free }
  where
    count : (1 + edge_times rest c i) + one_if (has_edge v.told c i && goes_from callees m c i) ≡ one_if (goes_from callees m c i)
    count = ap (λ n. n + one_if (has_edge v.told c i && goes_from callees m c i)) (sym (first-times c i rest)) ∙ tells.untold c i

    goes : goes_from callees m c i ≡ true
    goes = one_if-true (goes_from callees m c i) (omega (arith, count))

    edge : IsEdge callees c i × (callee callees c i ≡ m)
    edge = goes-edge callees m c i goes

    bare : has_edge v.told c i ≡ false
    bare = false_from_ne_true (has_edge v.told c i) (λ has.
        let both : one_if (has_edge v.told c i && goes_from callees m c i) ≡ 1 = (λ j. one_if (has j && goes j)) in
        let one : one_if (goes_from callees m c i) ≡ 1 = ap one_if goes in
        absurd (omega (arith, count)))

    free : last_move v.moves c ≡ None
    free = held-none (last_move v.moves c) (false_from_ne_true (is_held (last_move v.moves c)) (λ held.
        true≢false (sym (agrees.held c i edge.0 held (ap (λ k. is_over (last_move v.moves k)) edge.1 ∙ tells.over)) ∙ bare)))

-- nothing moves
goes-same : {P : Type 0} (v after : View P) → after.passed ≡ v.passed → after.splits ≡ v.splits → after.shares ≡ v.shares → after.moves ≡ v.moves → GoesOn v after
goes-same v after passed splits shares same = record {
  passed = passed;
  splits = splits;
  shares = shares;
  held = λ m is. ap (λ ms. is_held (last_move ms m)) same ∙ is;
  over = λ m is. ap (λ ms. is_over (last_move ms m)) same ∙ is;
}

pub goes-then : {P : Type 0} (v w x : View P) → GoesOn v w → GoesOn w x → GoesOn v x
goes-then v w x first then = record {
  passed = then.passed ∙ first.passed;
  splits = then.splits ∙ first.splits;
  shares = then.shares ∙ first.shares;
  held = λ m is. then.held m (first.held m is);
  over = λ m is. then.over m (first.over m is);
}

-- a move of a module that is not over
pub goes-moved : {P : Type 0} (v after : View P) (m : ℕ) (h : Hold) → after.passed ≡ v.passed → after.splits ≡ v.splits → after.shares ≡ v.shares → after.moves ≡ (m, h) ∷ v.moves
    → is_over (last_move v.moves m) ≡ false → GoesOn v after
goes-moved v after m h passed splits shares same new = record {
  passed = passed;
  splits = splits;
  shares = shares;
  held = λ k is. ap (λ ms. is_held (last_move ms k)) same ∙ held k is (cases_eq k m);
  over = λ k is. ap (λ ms. is_over (last_move ms k)) same ∙ over k is (cases_eq k m);
}
  where
    held : (k : ℕ) → is_held (last_move v.moves k) ≡ true → (k ≡ m) ⊎ (k ≢ m) → is_held (last_move ((m, h) ∷ v.moves) k) ≡ true
    held k is (inl e) = ap (λ n. is_held (last_move ((m, h) ∷ v.moves) n)) e ∙ ap is_held (move-here m h v.moves)
    held k is (inr ne) = ap is_held (move-other m k h v.moves ne) ∙ is

    over : (k : ℕ) → is_over (last_move v.moves k) ≡ true → (k ≡ m) ⊎ (k ≢ m) → is_over (last_move ((m, h) ∷ v.moves) k) ≡ true
    over k is (inl e) = absurd (true≢false (sym is ∙ ap (λ n. is_over (last_move v.moves n)) e ∙ new))
    over k is (inr ne) = ap is_over (move-other m k h v.moves ne) ∙ is

module _ {P : Type 0} (callees : List (List ℕ)) (v : View P) (queue : List ℕ) (m c i : ℕ) (rest : List (ℕ × ℕ)) where
  -- the edges that are still to be reported, after one of them was
  told-rest : IsNext callees v m c i → IsTelling callees v queue m ((c, i) ∷ rest) → (a b : ℕ)
      → edge_times rest a b + one_if (has_edge ((c, i) ∷ v.told) a b && goes_from callees m a b) ≡ one_if (goes_from callees m a b)
  told-rest next tells a b = by_edge (edge-cases c i a b)
    where
      goes : goes_from callees m c i ≡ true
      goes = edge-goes callees m c i next.edge next.callee_is

      here : edge_times rest c i + one_if (has_edge ((c, i) ∷ v.told) c i && goes_from callees m c i) ≡ one_if (goes_from callees m c i)
      here =
          let count : (1 + edge_times rest c i) + one_if (has_edge v.told c i && goes_from callees m c i) ≡ one_if (goes_from callees m c i) =
          ap (λ n. n + one_if (has_edge v.told c i && goes_from callees m c i)) (sym (first-times c i rest)) ∙ tells.untold c i in
          let one : one_if (goes_from callees m c i) ≡ 1 = ap one_if goes in
          let now : one_if (has_edge ((c, i) ∷ v.told) c i && goes_from callees m c i) ≡ 1 = (λ j. one_if (edge-here c i v.told j && goes j)) in
          omega arith

      by_edge : ((a ≡ c) × (b ≡ i)) ⊎ (a ≡ c → b ≡ i → ⊥) → edge_times rest a b + one_if (has_edge ((c, i) ∷ v.told) a b && goes_from callees m a b) ≡ one_if (goes_from callees m a b)
      by_edge (inl (e, f)) = subst (λ n. edge_times rest n b + one_if (has_edge ((c, i) ∷ v.told) n b && goes_from callees m n b) ≡ one_if (goes_from callees m n b)) (sym e)
          (subst (λ k. edge_times rest c k + one_if (has_edge ((c, i) ∷ v.told) c k && goes_from callees m c k) ≡ one_if (goes_from callees m c k)) (sym f) here)
      by_edge (inr ne) = ap (λ n. n + one_if (has_edge ((c, i) ∷ v.told) a b && goes_from callees m a b)) (sym (other-times c i a b rest ne))
          ∙ ap (λ t. edge_times ((c, i) ∷ rest) a b + one_if (t && goes_from callees m a b)) (edge-other c i a b v.told ne) ∙ tells.untold a b

  -- a report after which the caller has others to come
  told-more : IsNext callees v m c i → IsTelling callees v queue m ((c, i) ∷ rest) → IsTelling callees (reported v c i false) queue m rest
  told-more next tells = record {
    over = tells.over;
    begun = tells.begun;
    owed = tells.owed;
    within = tells.within;
    told = λ a b at over other. or_right ((a == c) && (b == i)) (has_edge v.told a b) (tells.told a b at over other);
    untold = told-rest next tells;
  }

  -- the caller's last report
  told-last : IsNext callees v m c i → IsTelling callees v queue m ((c, i) ∷ rest) → IsTelling callees (reported v c i true) (queue ++ c ∷ []) m rest
  told-last next tells = record {
    over = ap is_over (move-other c m Due v.moves apart) ∙ tells.over;
    begun = λ k is. begun k is (cases_eq k c);
    owed = λ k. count k (cases_eq k c);
    within = λ k is. within k is (cases_eq k c);
    told = λ a b at over other. or_right ((a == c) && (b == i)) (has_edge v.told a b) (told a b at over other (cases_eq (callee callees a b) c));
    untold = told-rest next tells;
  }
    where
      apart : m ≢ c
      apart same = true≢false (sym tells.over ∙ ap (λ k. is_over (last_move v.moves k)) same ∙ ap is_over next.free)

      begun : (k : ℕ) → last_move ((c, Due) ∷ v.moves) k ≡ Some Begun → (k ≡ c) ⊎ (k ≢ c) → ⊥
      begun k is (inl e) = let both : Some Due ≡ Some Begun = sym (move-here c Due v.moves) ∙ ap (last_move ((c, Due) ∷ v.moves)) (sym e) ∙ is in absurd (cc)
      begun k is (inr ne) = tells.begun k (sym (move-other c k Due v.moves ne) ∙ is)

      count : (k : ℕ) → (k ≡ c) ⊎ (k ≢ c) → times k (queue ++ c ∷ []) ≡ one_if (is_due (last_move ((c, Due) ∷ v.moves) k))
      count k (inl e) =
          let last : times k (queue ++ c ∷ []) ≡ times k queue + one_if (k == c) = times-last k c queue in
          let one : one_if (k == c) ≡ 1 = ap one_if (eq-eqb k c e) in
          let old : times k queue ≡ one_if (is_due (last_move v.moves k)) = tells.owed k in
          let none : one_if (is_due (last_move v.moves k)) ≡ 0 = ap (λ n. one_if (is_due (last_move v.moves n))) e ∙ ap (λ o. one_if (is_due o)) next.free in
          let now : one_if (is_due (last_move ((c, Due) ∷ v.moves) k)) ≡ 1 = ap (λ n. one_if (is_due (last_move ((c, Due) ∷ v.moves) n))) e ∙ ap (λ o. one_if (is_due o)) (move-here c Due v.moves) in
          omega arith
      count k (inr ne) =
          let last : times k (queue ++ c ∷ []) ≡ times k queue + one_if (k == c) = times-last k c queue in
          let zero_if : one_if (k == c) ≡ 0 = ap one_if (ne_eqb k c ne) in
          let old : times k queue ≡ one_if (is_due (last_move v.moves k)) = tells.owed k in
          let now : one_if (is_due (last_move ((c, Due) ∷ v.moves) k)) ≡ one_if (is_due (last_move v.moves k)) = ap (λ o. one_if (is_due o)) (move-other c k Due v.moves ne) in
          omega arith

      within : (k : ℕ) → is_due (last_move ((c, Due) ∷ v.moves) k) ≡ true → (k ≡ c) ⊎ (k ≢ c) → k < length callees
      within k is (inl e) = let below : c < length callees = edge_within callees c i next.edge in omega arith
      within k is (inr ne) = tells.within k (ap is_due (sym (move-other c k Due v.moves ne)) ∙ is)

      told : (a b : ℕ) → IsEdge callees a b → is_over (last_move ((c, Due) ∷ v.moves) (callee callees a b)) ≡ true → (callee callees a b ≡ m → ⊥) → (callee callees a b ≡ c) ⊎ (callee callees a b ≢ c) → has_edge v.told a b ≡ true
      told a b at over other (inl e) = absurd (true≢false (sym over ∙ ap (λ k. is_over (last_move ((c, Due) ∷ v.moves) k)) e ∙ ap is_over (move-here c Due v.moves)))
      told a b at over other (inr ne) = tells.told a b at (ap is_over (sym (move-other c (callee callees a b) Due v.moves ne)) ∙ over) other

pub append-none : (xs : List ℕ) → xs ++ [] ≡ xs
append-none [] = refl
append-none (x ∷ xs) = ap (λ ys. x ∷ ys) (append-none xs)

-- one edge is reported
pub told-on : {P : Type 0} (callees : List (List ℕ)) (v : View P) (queue : List ℕ) (m c i : ℕ) (rest : List (ℕ × ℕ)) (last : Bool) → IsNext callees v m c i → IsTelling callees v queue m ((c, i) ∷ rest)
    → IsTelling callees (reported v c i last) (queue ++ cond last (c ∷ []) []) m rest
told-on callees v queue m c i rest true next tells = told-last callees v queue m c i rest next tells
told-on callees v queue m c i rest false next tells = subst (λ q. IsTelling callees (reported v c i false) q m rest) (sym (append-none queue)) (told-more callees v queue m c i rest next tells)

pub told-goes : {P : Type 0} (v : View P) (c i : ℕ) (last : Bool) → last_move v.moves c ≡ None → GoesOn v (reported v c i last)
told-goes v c i true free = goes-moved v (reported v c i true) c Due refl refl refl refl (ap is_over free)
told-goes v c i false free = goes-same v (reported v c i false) refl refl refl refl

-- all edges of the module are reported
pub told-all : {P : Type 0} (callees : List (List ℕ)) (v : View P) (queue : List ℕ) (m : ℕ) → IsTelling callees v queue m [] → IsBetween callees v queue
told-all callees v queue m tells = record {
  begun = tells.begun;
  owed = tells.owed;
  within = tells.within;
  told = λ c i at over. by_callee c i at over (cases_eq (callee callees c i) m);
}
  where
    by_callee : (c i : ℕ) → IsEdge callees c i → is_over (last_move v.moves (callee callees c i)) ≡ true → (callee callees c i ≡ m) ⊎ (callee callees c i ≢ m) → has_edge v.told c i ≡ true
    by_callee c i at over (inl e) =
        let goes : goes_from callees m c i ≡ true = edge-goes callees m c i at e in
        let both : (has_edge v.told c i && goes_from callees m c i) ≡ true = one_if-true (has_edge v.told c i && goes_from callees m c i)
        (let one : one_if (goes_from callees m c i) ≡ 1 = ap one_if goes in omega (arith, tells.untold c i)) in
        (both-true (has_edge v.told c i) (goes_from callees m c i) both).0
    by_callee c i at over (inr ne) = tells.told c i at over ne

-- a module of the queue is taken and done
pub done-telling : {P : Type 0} (callees : List (List ℕ)) (v after : View P) (queue : List ℕ) (m : ℕ) (edges : List (ℕ × ℕ)) → IsBetween callees v (queue ++ m ∷ []) → Agrees callees v
    → after.moves ≡ (m, Over) ∷ (m, Begun) ∷ v.moves → after.told ≡ v.told → AreCallersOf callees m edges → IsTelling callees after queue m edges
done-telling callees v after queue m edges b agrees moves told callers = record {
  over = ap (λ ms. is_over (last_move ms m)) moves ∙ ap is_over (move-here m Over ((m, Begun) ∷ v.moves));
  begun = λ k is. begun k (ap (λ ms. last_move ms k) (sym moves) ∙ is) (cases_eq k m);
  owed = λ k. count k (cases_eq k m) ∙ ap (λ ms. one_if (is_due (last_move ms k))) (sym moves);
  within = λ k is. within k (ap (λ ms. is_due (last_move ms k)) (sym moves) ∙ is) (cases_eq k m);
  told = λ c i at over other. ap (λ ts. has_edge ts c i) told ∙ b.told c i at (ap is_over (sym (old (callee callees c i) other)) ∙ ap (λ ms. is_over (last_move ms (callee callees c i))) (sym moves) ∙ over);
  untold = λ c i. untold c i (goes_from callees m c i) refl;
}
  where
    due : is_due (last_move v.moves m) ≡ true
    due = one_if-true (is_due (last_move v.moves m)) (let one : one_if (m == m) ≡ 1 = ap one_if (eq-eqb m m refl) in omega (arith, b.owed m, times-last m m queue))

    old : (k : ℕ) → k ≢ m → last_move ((m, Over) ∷ (m, Begun) ∷ v.moves) k ≡ last_move v.moves k
    old k ne = move-other m k Over ((m, Begun) ∷ v.moves) ne ∙ move-other m k Begun v.moves ne

    begun : (k : ℕ) → last_move ((m, Over) ∷ (m, Begun) ∷ v.moves) k ≡ Some Begun → (k ≡ m) ⊎ (k ≢ m) → ⊥
    begun k is (inl e) = let both : Some Over ≡ Some Begun = sym (move-here m Over ((m, Begun) ∷ v.moves)) ∙ ap (last_move ((m, Over) ∷ (m, Begun) ∷ v.moves)) (sym e) ∙ is in absurd (cc)
    begun k is (inr ne) = b.begun k (sym (old k ne) ∙ is)

    count : (k : ℕ) → (k ≡ m) ⊎ (k ≢ m) → times k queue ≡ one_if (is_due (last_move ((m, Over) ∷ (m, Begun) ∷ v.moves) k))
    count k (inl e) =
        let last : times k (queue ++ m ∷ []) ≡ times k queue + one_if (k == m) = times-last k m queue in
        let one : one_if (k == m) ≡ 1 = ap one_if (eq-eqb k m e) in
        let all : times k (queue ++ m ∷ []) ≡ one_if (is_due (last_move v.moves k)) = b.owed k in
        let most : one_if (is_due (last_move v.moves k)) ≤ 1 = one_if-le (is_due (last_move v.moves k)) in
        let now : one_if (is_due (last_move ((m, Over) ∷ (m, Begun) ∷ v.moves) k)) ≡ 0 = ap (λ n. one_if (is_due (last_move ((m, Over) ∷ (m, Begun) ∷ v.moves) n))) e ∙ ap (λ o. one_if (is_due o)) (move-here m Over ((m, Begun) ∷ v.moves)) in
        omega arith
    count k (inr ne) =
        let last : times k (queue ++ m ∷ []) ≡ times k queue + one_if (k == m) = times-last k m queue in
        let zero_if : one_if (k == m) ≡ 0 = ap one_if (ne_eqb k m ne) in
        let all : times k (queue ++ m ∷ []) ≡ one_if (is_due (last_move v.moves k)) = b.owed k in
        let now : one_if (is_due (last_move ((m, Over) ∷ (m, Begun) ∷ v.moves) k)) ≡ one_if (is_due (last_move v.moves k)) = ap (λ o. one_if (is_due o)) (old k ne) in
        omega arith

    within : (k : ℕ) → is_due (last_move ((m, Over) ∷ (m, Begun) ∷ v.moves) k) ≡ true → (k ≡ m) ⊎ (k ≢ m) → k < length callees
    within k is (inl e) = absurd (true≢false (sym is ∙ ap (λ n. is_due (last_move ((m, Over) ∷ (m, Begun) ∷ v.moves) n)) e ∙ ap is_due (move-here m Over ((m, Begun) ∷ v.moves))))
    within k is (inr ne) = b.within k (ap is_due (sym (old k ne)) ∙ is)

    untold : (c i : ℕ) (g : Bool) → goes_from callees m c i ≡ g → edge_times edges c i + one_if (has_edge after.told c i && goes_from callees m c i) ≡ one_if (goes_from callees m c i)
    untold c i true goes =
        let edge = goes-edge callees m c i goes in
        let bare : has_edge v.told c i ≡ false = false_from_ne_true (has_edge v.told c i) (λ has.
        true≢false (sym (agrees.told c i edge.0 has) ∙ ap (λ k. is_over (last_move v.moves k)) edge.1 ∙ not-over (last_move v.moves m) due)) in
        let none : one_if (has_edge after.told c i && goes_from callees m c i) ≡ 0 = ap (λ t. one_if (t && goes_from callees m c i)) (ap (λ ts. has_edge ts c i) told ∙ bare) in
        omega (arith, callers c i)
      where
        not-over : (o : Option Hold) → is_due o ≡ true → is_over o ≡ false
        not-over None is = refl
        not-over (Some Due) is = refl
        not-over (Some Begun) is = refl
        not-over (Some Over) is = absurd (false≢true is)
    untold c i false goes =
        let none : one_if (has_edge after.told c i && goes_from callees m c i) ≡ 0 = ap (λ g. one_if (has_edge after.told c i && g)) goes ∙ and-none (has_edge after.told c i) in
        omega (arith, callers c i)
      where
        and-none : (b : Bool) → one_if (b && false) ≡ 0
        and-none true = refl
        and-none false = refl

due-some : (o : Option Hold) → is_due o ≡ true → o ≡ Some Due
due-some None is = absurd (false≢true is)
due-some (Some Due) is = refl
due-some (Some Begun) is = absurd (false≢true is)
due-some (Some Over) is = absurd (false≢true is)

-- a module of the queue is owed
pub between-due : {P : Type 0} (callees : List (List ℕ)) (v : View P) (queue : List ℕ) (m : ℕ) → IsBetween callees v (queue ++ m ∷ []) → (last_move v.moves m ≡ Some Due) × (m < length callees)
between-due callees v queue m b =
    let due : is_due (last_move v.moves m) ≡ true = one_if-true (is_due (last_move v.moves m)) (let one : one_if (m == m) ≡ 1 = ap one_if (eq-eqb m m refl) in omega (arith, b.owed m, times-last m m queue)) in
    (due-some (last_move v.moves m) due, b.within m due)

-- a leaf is drawn
pub drawn-between : {P : Type 0} (callees : List (List ℕ)) (v after : View P) (m : ℕ) → IsBetween callees v [] → after ≡ drawn v (Some m) → last_move v.moves m ≡ None → m < length callees → IsBetween callees after ([] ++ m ∷ [])
drawn-between callees v after m b is free below = subst (λ w. IsBetween callees w (m ∷ [])) (sym is) (record {
  begun = λ k is. begun k is (cases_eq k m);
  owed = λ k. owed k (cases_eq k m);
  within = λ k is. within k is (cases_eq k m);
  told = λ c i at over. b.told c i at (over-before (callee callees c i) over (cases_eq (callee callees c i) m));
})
  where
    begun : (k : ℕ) → last_move ((m, Due) ∷ v.moves) k ≡ Some Begun → (k ≡ m) ⊎ (k ≢ m) → ⊥
    begun k is (inl e) = let both : Some Due ≡ Some Begun = sym (move-here m Due v.moves) ∙ ap (last_move ((m, Due) ∷ v.moves)) (sym e) ∙ is in absurd (cc)
    begun k is (inr ne) = b.begun k (sym (move-other m k Due v.moves ne) ∙ is)

    owed : (k : ℕ) → (k ≡ m) ⊎ (k ≢ m) → one_if (k == m) + 0 ≡ one_if (is_due (last_move ((m, Due) ∷ v.moves) k))
    owed k (inl e) =
        let one : one_if (k == m) ≡ 1 = ap one_if (eq-eqb k m e) in
        let now : one_if (is_due (last_move ((m, Due) ∷ v.moves) k)) ≡ 1 = ap (λ n. one_if (is_due (last_move ((m, Due) ∷ v.moves) n))) e ∙ ap (λ o. one_if (is_due o)) (move-here m Due v.moves) in
        omega arith
    owed k (inr ne) =
        let none : one_if (k == m) ≡ 0 = ap one_if (ne_eqb k m ne) in
        let now : one_if (is_due (last_move ((m, Due) ∷ v.moves) k)) ≡ one_if (is_due (last_move v.moves k)) = ap (λ o. one_if (is_due o)) (move-other m k Due v.moves ne) in
        omega (arith, b.owed k)

    within : (k : ℕ) → is_due (last_move ((m, Due) ∷ v.moves) k) ≡ true → (k ≡ m) ⊎ (k ≢ m) → k < length callees
    within k is (inl e) = omega arith
    within k is (inr ne) = b.within k (ap is_due (sym (move-other m k Due v.moves ne)) ∙ is)

    over-before : (k : ℕ) → is_over (last_move ((m, Due) ∷ v.moves) k) ≡ true → (k ≡ m) ⊎ (k ≢ m) → is_over (last_move v.moves k) ≡ true
    over-before k over (inl e) = absurd (true≢false (sym over ∙ ap (λ n. is_over (last_move ((m, Due) ∷ v.moves) n)) e ∙ ap is_over (move-here m Due v.moves)))
    over-before k over (inr ne) = ap is_over (sym (move-other m k Due v.moves ne)) ∙ over

sum_below-less : (n : ℕ) (f g : ℕ → ℕ) (m : ℕ) → ((k : ℕ) → g k ≤ f k) → m < n → g m < f m → sum_below n g < sum_below n f
sum_below-less zero f g m each below less = absurd (omega arith)
sum_below-less (suc n) f g m each below less = by_position (λ inside. sum_below-less n f g m each inside less) (cases_eq m n)
  where
    sums : (n : ℕ) → sum_below n g ≤ sum_below n f
    sums zero = omega arith
    sums (suc n) = let rest : sum_below n g ≤ sum_below n f = sums n in let one : g n ≤ f n = each n in omega arith

    by_position : (m < n → sum_below n g < sum_below n f) → (m ≡ n) ⊎ (m ≢ n) → sum_below n g + g n < sum_below n f + f n
    by_position before (inl e) = let rest : sum_below n g ≤ sum_below n f = sums n in let one : g n < f n = subst (λ k. g k < f k) e less in omega arith
    by_position before (inr ne) = let rest : sum_below n g < sum_below n f = before (omega arith) in let one : g n ≤ f n = each n in omega arith

-- one more module is over
pub less-open : {P : Type 0} (callees : List (List ℕ)) (v after : View P) (m : ℕ) → ((k : ℕ) → is_over (last_move v.moves k) ≡ true → is_over (last_move after.moves k) ≡ true) → m < length callees
    → is_over (last_move v.moves m) ≡ false → is_over (last_move after.moves m) ≡ true → open_modules callees after < open_modules callees v
less-open callees v after m on below before now =
    sum_below-less (length callees) (λ k. one_if (not (is_over (last_move v.moves k)))) (λ k. one_if (not (is_over (last_move after.moves k)))) m
    (λ k. at-most (is_over (last_move v.moves k)) (is_over (last_move after.moves k)) (on k)) below
    (let one : one_if (not (is_over (last_move v.moves m))) ≡ 1 = ap (λ b. one_if (not b)) before in let none : one_if (not (is_over (last_move after.moves m))) ≡ 0 = ap (λ b. one_if (not b)) now in omega arith)
  where
    at-most : (x y : Bool) → (x ≡ true → y ≡ true) → one_if (not y) ≤ one_if (not x)
    at-most true y on = let none : one_if (not y) ≡ 0 = ap (λ b. one_if (not b)) (on refl) in omega arith
    at-most false y on = one_if-le (not y)

-- a view with nothing out
pub same-view : {P : Type 0} (v : View P) → v.out ≡ Nowhere → v ≡ record v { emptied = v.emptied; out = Nowhere }
same-view v idle = λ j. record v { out = idle j }

-- one more edge is emptied
pub cleared-same : {P : Type 0} (v w after : View P) (m i : ℕ) → w ≡ record v { emptied = w.emptied; out = Nowhere } → after ≡ cleared w m i → after ≡ record v { emptied = after.emptied; out = Nowhere }
cleared-same {P = P} v w after m i same is = is ∙ ap (λ (z : View P). record z { emptied = (m, i) ∷ w.emptied; out = Nowhere }) same ∙ ap (λ (e : List (ℕ × ℕ)). record v { emptied = e; out = Nowhere }) (sym (ap (λ z. z.emptied) is))

-- and is in the list
pub cleared-all : {P : Type 0} (w after : View P) (m i : ℕ) → after ≡ cleared w m i → ((j : ℕ) → j < i → has_edge w.emptied m j ≡ true) → (j : ℕ) → j < i + 1 → has_edge after.emptied m j ≡ true
cleared-all w after m i is all j below = ap (λ z. has_edge z.emptied m j) is ∙ by_position (cases_eq j i)
  where
    by_position : (j ≡ i) ⊎ (j ≢ i) → has_edge ((m, i) ∷ w.emptied) m j ≡ true
    by_position (inl e) = ap (has_edge ((m, i) ∷ w.emptied) m) e ∙ edge-here m i w.emptied
    by_position (inr ne) = edge-other m i m j w.emptied (λ _ same. ne same) ∙ all j (omega arith)

pub cleared-more : {P : Type 0} (callees : List (List ℕ)) (w after : View P) (m i : ℕ) → after ≡ cleared w m i → ((j : ℕ) → i ≤ j → IsEdge callees m j → has_edge w.emptied m j ≡ false)
    → (j : ℕ) → i + 1 ≤ j → IsEdge callees m j → has_edge after.emptied m j ≡ false
cleared-more callees w after m i is more j past at = ap (λ z. has_edge z.emptied m j) is ∙ edge-other m i m j w.emptied (λ _ same. omega arith) ∙ more j (omega arith) at

-- a module is taken, its edges are emptied, and it is done
pub worked-on : {P : Type 0} (v one two three : View P) (m : ℕ) → last_move v.moves m ≡ Some Due → one ≡ moved v m Begun → two ≡ record one { emptied = two.emptied; out = Nowhere } → three ≡ moved two m Over
    → GoesOn v three × (three.moves ≡ (m, Over) ∷ (m, Begun) ∷ v.moves) × (three.told ≡ v.told)
worked-on v one two three m due first second third = (
  goes-then v (moved v m Begun) three
      (goes-moved v (moved v m Begun) m Begun refl refl refl refl (ap is_over due))
      (goes-moved (moved v m Begun) three m Over (ap (λ z. z.passed) third ∙ ap (λ z. z.passed) second ∙ ap (λ z. z.passed) first) (ap (λ z. z.splits) third ∙ ap (λ z. z.splits) second ∙ ap (λ z. z.splits) first)
      (ap (λ z. z.shares) third ∙ ap (λ z. z.shares) second ∙ ap (λ z. z.shares) first) moves (ap is_over (move-here m Begun v.moves))),
  moves,
  ap (λ z. z.told) third ∙ ap (λ z. z.told) second ∙ ap (λ z. z.told) first,
)
  where
    moves : three.moves ≡ (m, Over) ∷ (m, Begun) ∷ v.moves
    moves = ap (λ z. z.moves) third ∙ ap (λ ms. (m, Over) ∷ ms) (ap (λ z. z.moves) second ∙ ap (λ z. z.moves) first)

-- what follows from a clause on success holds on success
pub on-ok : {A E : Type 0} {P Q : Type 0} (r : Result A E) → (P → Q) → OnOk r P → OnOk r Q
on-ok (Ok a) step holds = step holds
on-ok (Err e) step holds = tt

-- what is over is that it was done
pub over-some : (o : Option Hold) → is_over o ≡ true → o ≡ Some Over
over-some None is = absurd (false≢true is)
over-some (Some Due) is = absurd (false≢true is)
over-some (Some Begun) is = absurd (false≢true is)
over-some (Some Over) is = refl

held-over : (o : Option Hold) → is_held o ≡ true → ((h : Hold) → o ≡ Some h → h ≡ Over) → is_over o ≡ true
held-over None held over = absurd (false≢true held)
held-over (Some h) held over = ap (λ (k : Hold). is_over (Some k)) (over h refl)

-- a leaf was drawn, and all was worked that came of it
pub drawn-less : {P : Type 0} (callees : List (List ℕ)) (v one two : View P) (m : ℕ) → one ≡ drawn v (Some m) → last_move v.moves m ≡ None → m < length callees → GoesOn one two → IsBetween callees two []
    → (open_modules callees two < open_modules callees v) × GoesOn v two
drawn-less callees v one two m is free below on b =
    let first : GoesOn v one = goes-moved v one m Due (ap (λ z. z.passed) is) (ap (λ z. z.splits) is) (ap (λ z. z.shares) is) (ap (λ z. z.moves) is) (ap is_over free) in
    let all : GoesOn v two = goes-then v one two first on in
    let held : is_held (last_move two.moves m) ≡ true = on.held m (ap (λ z. is_held (last_move z.moves m)) is ∙ ap is_held (move-here m Due v.moves)) in
    (less-open callees v two m all.over below (ap is_over free) (held-over (last_move two.moves m) held (λ h here. (between-finished callees two b).over m h here)), all)
