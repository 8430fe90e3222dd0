-- What a visit of a watch leaves: the stored clause is satisfied, gives a unit, is false, or is watched elsewhere.
use Rattle.std.proofs.Common.{Global, ◌≡◌, ℕ, zero, suc, ◌+◌, ◌<◌, ◌≤◌, true, false, cond, eqb, List, [], ◌∷◌, length, get_or, set, swap, take, refl, sym, ◌∙◌, ap, subst, inl, inr, ◌⊎◌, arith}
use Rattle.std.specs.List.{swap_remove}
use Rattle.std.proofs.lemmas.List.{get_or_read, get_or-take}
use Rattle.std.proofs.lemmas.List.Sums.{sum_by-cons}
use Rattle.std.proofs.lemmas.Bool.{cases_eq, false_from_ne_true, both_ways}
use Rattle.std.specs.declared.vec.Vec.{Vec}
use Rattle.resolution_proof.specs.declared.clause.Clause.{Clause}
use Rattle.resolution_proof.specs.declared.literal.Literal.{Literal}
use Rattle.clause_learning.specs.declared.stored_clause.Watch.{Watch}
use Rattle.clause_learning.specs.declared.table.Table.{Table}
use Rattle.clause_learning.specs.declared.trail.Entry.{Entry}
use Rattle.clause_learning.specs.declared.watcher.Watcher.{Watcher}
use Rattle.resolution_proof.specs.Literal.{negation, holds}
use Rattle.resolution_proof.specs.Clause.{is_among, is_within}
use Rattle.clause_learning.specs.Trail.{literals, entry_at, no_entry}
use Rattle.clause_learning.specs.Table.{IsTable}
use Rattle.clause_learning.specs.Watcher.{IsProgress, IsWatching}
use Rattle.clause_learning.specs.Watching.{Propagates, watch_count, count_of, AreVisited, AreCovered, IsCovered, ArePermuted, HasSameClauses, is_satisfied, stored_clause_at, list_at, watch_at, literal_at, no_watch, slot_of}
use Rattle.resolution_proof.proofs.Sets.{negation-negation, all_from, among_high}
use Rattle.clause_learning.proofs.Entries.{holds_entry}
use Rattle.clause_learning.proofs.Resolution.{holds_take}
use Rattle.clause_learning.proofs.LearntClauses.{holds_before}
use Rattle.clause_learning.proofs.StoredClauses.{holds-swap}
use Rattle.clause_learning.proofs.Tables.{slot_same, of_other, at_slot, at_same, watch_count_by, watch_count_long, watch_count_where, watch_is_counted, stored_clause_inside, same_stored_clauses, permuted_set, swap_remove_before}
use Rattle.clause_learning.proofs.AddedClauses.{bit_small, among_stored_clause}
use Rattle.clause_learning.proofs.Covering.{propagates_then, take_holds, kept_holds, satisfied_more, satisfied_stored_clause, covered_swap}

-- what is known of a watch of a list and of its stored clause
pub record Visits (t : Table) (slot : ℕ) (w : Watch) (ordered : List Literal) : Type 0 where
  pub clause_in : w.clause < length t.stored_clauses.items
  pub is_stored : stored_clause_at t.stored_clauses.items w.clause ≡ ordered
  pub long : 2 ≤ length ordered
  pub watched : (slot_of (literal_at ordered 0) ≡ slot) ⊎ (slot_of (literal_at ordered 1) ≡ slot)
  pub within : is_within t.variables ordered ≡ true
  pub blocks : holds ordered w.blocker ≡ true

pub visits : (t : Table) → IsTable t → (slot position : ℕ) (w : Watch) (ordered again : List Literal) → slot < length t.lists.items → position < length (list_at t.lists.items slot) → w
    ≡ watch_at (list_at t.lists.items slot) position → ordered ≡ again → again ≡ get_or t.stored_clauses.items w.clause again → Visits t slot w ordered
visits t table slot position w ordered again ls lp ew er ea =
    let is_wanted = subst (λ (v : Watch). 1 ≤ watch_count (stored_clause_at t.stored_clauses.items v.clause) slot) (sym ew) (watch_is_counted t.stored_clauses.items t.lists.items slot position table.watched ls lp) in
    let long = watch_count_long (stored_clause_at t.stored_clauses.items w.clause) slot is_wanted in
    let clause_in = stored_clause_inside t.stored_clauses.items w.clause (omega (arith, long)) in
    let is_stored : stored_clause_at t.stored_clauses.items w.clause ≡ ordered = sym (er ∙ get_or_read t.stored_clauses.items w.clause again clause_in ea []) in
    let blocks = subst (λ (v : Watch). holds (stored_clause_at t.stored_clauses.items v.clause) v.blocker ≡ true) (sym ew) (table.blockers slot position ls lp) in
    record {
      clause_in = clause_in;
      is_stored = is_stored;
      long = subst (λ (r : List Literal). 2 ≤ length r) is_stored long;
      watched = subst (λ (r : List Literal). (slot_of (literal_at r 0) ≡ slot) ⊎ (slot_of (literal_at r 1) ≡ slot)) is_stored (watch_count_where (stored_clause_at t.stored_clauses.items w.clause) slot is_wanted);
      within = all_from (is_among t.variables) ordered (λ l h. among_stored_clause t table w.clause l (subst (λ (r : List Literal). holds r l ≡ true) (sym is_stored) h));
      blocks = subst (λ (r : List Literal). holds r w.blocker ≡ true) is_stored blocks;
    }

-- the literal that a list watches is false once the negation is true
pub watched_false : (es : List Entry) (head : ℕ) (l : Literal) → head < length es → slot_of l ≡ slot_of (negation (entry_at es head).literal) → holds (literals es) (negation l) ≡ true
watched_false es head l lh e =
    let same_one = slot_same l (negation (entry_at es head).literal) e in
    subst (λ (x : Literal). holds (literals es) x ≡ true) (sym (ap negation same_one ∙ negation-negation (entry_at es head).literal)) (holds_entry es head lh)

-- a watch moves to a literal that is not false
module _ (stored_clauses : List (List Literal)) (i first k : ℕ) (i_in : i < length stored_clauses) (f2 : first < 2) (k2 : 2 ≤ k) (lk : k < length (stored_clause_at stored_clauses i)) where
  permuted_swap : (l : Literal) → holds (swap (stored_clause_at stored_clauses i) first k) l ≡ holds (stored_clause_at stored_clauses i) l
  permuted_swap l = holds-swap (stored_clause_at stored_clauses i) first k (omega (arith, f2, k2, lk)) lk l

  pub moved_permuted : ArePermuted stored_clauses (set stored_clauses i (swap (stored_clause_at stored_clauses i) first k))
  moved_permuted = permuted_set stored_clauses stored_clauses i (swap (stored_clause_at stored_clauses i) first k) i_in permuted_swap

  covered_moved : (before s : List Literal) → holds before (negation (literal_at (stored_clause_at stored_clauses i) k)) ≡ false → AreCovered before s stored_clauses
      → AreCovered before s (set stored_clauses i (swap (stored_clause_at stored_clauses i) first k))
  covered_moved before s not_false c = same_stored_clauses stored_clauses stored_clauses i (swap (stored_clause_at stored_clauses i) first k) i_in (λ m r. IsCovered before s r)
      (covered_swap before s (stored_clause_at stored_clauses i) first k f2 k2 lk not_false (λ l h. permuted_swap l ∙ h) (c i)) c

  pub progress_moved : (short : List ℕ) (es : List Entry) (head : ℕ) (marks : List ℕ) (short_head base : ℕ) → holds (literals es) (negation (literal_at (stored_clause_at stored_clauses i) k))
      ≡ false → IsProgress stored_clauses short es head marks short_head base → IsProgress (set stored_clauses i (swap (stored_clause_at stored_clauses i) first k)) short es head marks short_head base
  progress_moved short es head marks short_head base not_false p = record {
    head_in = p.head_in;
    covered = covered_moved (literals (take head es)) (literals es) (not_before head) p.covered;
    marked = record { sorted = p.marked.sorted; below = p.marked.below; covered = λ j l. covered_moved (literals (take (get_or marks j 0) es)) (literals (take (get_or marks j 0) es)) (not_before (get_or marks j 0)) (p.marked.covered j l) };
    short_head_in = p.short_head_in;
    base_in = p.base_in;
    short_true = λ j l. satisfied_stored_clause (literals (take base es)) (stored_clause_at stored_clauses (get_or short j 0))
        (stored_clause_at (set stored_clauses i (swap (stored_clause_at stored_clauses i) first k)) (get_or short j 0)) (λ x h. moved_permuted (get_or short j 0) x ∙ h) (p.short_true j l);
  }
    where
      not_before : (n : ℕ) → holds (literals (take n es)) (negation (literal_at (stored_clause_at stored_clauses i) k)) ≡ false
      not_before n = false_from_ne_true (holds (literals (take n es)) (negation (literal_at (stored_clause_at stored_clauses i) k)))
          (λ h. both_ways (holds (literals es) (negation (literal_at (stored_clause_at stored_clauses i) k))) not_false
          (take_holds es n (negation (literal_at (stored_clause_at stored_clauses i) k)) h))

-- what was read stays satisfied
pub visited_stays : (old new : List Entry) (stored_clauses rows2 : List (List Literal)) (list list2 : List Watch) (position : ℕ) → take (length old) new ≡ old → rows2 ≡ stored_clauses
    → HasSameClauses list list2 → AreVisited (literals old) stored_clauses list position → is_satisfied (literals new) (stored_clause_at stored_clauses (watch_at list position).clause) ≡ true
    → AreVisited (literals new) rows2 list2 (position + 1)
visited_stays old new stored_clauses rows2 list list2 position kept er el v here k lk =
    rw (er, el.same k) (elim (cases_eq k position) as (λ _. is_satisfied (literals new) (stored_clause_at stored_clauses (watch_at list k).clause) ≡ true) [
      | inl e ↦ subst (λ (x : ℕ). is_satisfied (literals new) (stored_clause_at stored_clauses (watch_at list x).clause) ≡ true) (sym e) here
      | inr ne ↦ satisfied_more (literals old) (literals new) (stored_clause_at stored_clauses (watch_at list k).clause) (λ l h. kept_holds old new l kept h) (v k (omega (arith, lk, ne)))
    ])

pub visited_moved : (old new : List Entry) (stored_clauses rows2 : List (List Literal)) (list list2 : List Watch) (position : ℕ) → take (length old) new ≡ old → ArePermuted stored_clauses rows2
    → list2 ≡ swap_remove list position no_watch → position < length list → AreVisited (literals old) stored_clauses list position → AreVisited (literals new) rows2 list2 position
visited_moved old new stored_clauses rows2 list list2 position kept permuted el inside v k lk =
    let at : watch_at list2 k ≡ watch_at list k = ap (λ (x : List Watch). watch_at x k) el ∙ swap_remove_before list position k inside lk in
    let more = satisfied_more (literals old) (literals new) (stored_clause_at stored_clauses (watch_at list k).clause) (λ l h. kept_holds old new l kept h) (v k lk) in
    let other = satisfied_stored_clause (literals new) (stored_clause_at stored_clauses (watch_at list k).clause) (stored_clause_at rows2 (watch_at list k).clause) (λ l h. permuted (watch_at list k).clause l ∙ h) more in
    subst (λ (x : Watch). is_satisfied (literals new) (stored_clause_at rows2 x.clause) ≡ true) (sym at) other

pub entry_kept : (old new : List Entry) (k : ℕ) → take (length old) new ≡ old → k < length old → entry_at new k ≡ entry_at old k
entry_kept old new k kept l = sym (get_or-take (length old) new k no_entry l) ∙ ap (λ (x : List Entry). entry_at x k) kept

-- a list has a watch for each stored clause that is watched there
found_in : (i : ℕ) (ws : List Watch) → 1 ≤ count_of i ws → (k : ℕ) × (k < length ws) × ((watch_at ws k).clause ≡ i)
found_in i [] h = absurd (omega (arith, h))
found_in i (w ∷ ws) h =
    let whole = sum_by-cons (λ (v : Watch). cond (eqb v.clause i) 1 0) w ws in
    elim (cases_eq w.clause i) as (λ _. (k : ℕ) × (k < length (w ∷ ws)) × ((watch_at (w ∷ ws) k).clause ≡ i)) [
      | inl here ↦ (zero, omega arith, here)
      | inr other ↦
          let none = of_other i w other in
          let r = found_in i ws (omega (arith, whole, none, h)) in
          (suc r.0, omega (arith, r.1), r.2)
    ]

pub in_list : (t : Table) → IsTable t → (i k slot : ℕ) → k < 2 → 2 ≤ length (stored_clause_at t.stored_clauses.items i) → slot_of (literal_at (stored_clause_at t.stored_clauses.items i) k) ≡ slot
    → slot < length t.lists.items → (n : ℕ) × (n < length (list_at t.lists.items slot)) × ((watch_at (list_at t.lists.items slot) n).clause ≡ i)
in_list t table i k slot k2 long is_slot low =
    let by = watch_count_by (stored_clause_at t.stored_clauses.items i) slot long in
    let all = table.watched i slot low in
    let one = at_same (literal_at (stored_clause_at t.stored_clauses.items i) k) slot is_slot in
    let part : at_slot (literal_at (stored_clause_at t.stored_clauses.items i) k) slot ≤ at_slot (literal_at (stored_clause_at t.stored_clauses.items i) 0) slot + at_slot
    (literal_at (stored_clause_at t.stored_clauses.items i) 1) slot = elim (cases_eq k 0) as
    (λ _. at_slot (literal_at (stored_clause_at t.stored_clauses.items i) k) slot ≤ at_slot (literal_at (stored_clause_at t.stored_clauses.items i) 0) slot + at_slot
    (literal_at (stored_clause_at t.stored_clauses.items i) 1) slot) [
      | inl z ↦ let e = ap (λ (x : ℕ). at_slot (literal_at (stored_clause_at t.stored_clauses.items i) x) slot) z in omega (arith, e)
      | inr nz ↦ let o : k ≡ 1 = omega (arith, k2, nz) in let e = ap (λ (x : ℕ). at_slot (literal_at (stored_clause_at t.stored_clauses.items i) x) slot) o in omega (arith, e)
    ] in
    found_in i (list_at t.lists.items slot) (omega (arith, by, all, one, part))

-- the list of the next literal is read: it is covered
pub progress_next : (t : Table) → IsTable t → (es : List Entry) (head slot : ℕ) (marks : List ℕ) (short_head base : ℕ) → head < length es → slot ≡ slot_of (negation (entry_at es head).literal)
    → slot < length t.lists.items → AreVisited (literals es) t.stored_clauses.items (list_at t.lists.items slot) (length (list_at t.lists.items slot))
    → IsProgress t.stored_clauses.items t.short.items es head marks short_head base → IsProgress t.stored_clauses.items t.short.items es (head + 1) marks short_head base
progress_next t table es head slot marks short_head base more is_slot low visited p = record {
  head_in = omega (arith, more);
  covered = covers;
  marked = record { sorted = p.marked.sorted; below = λ j l. let b = p.marked.below j l in omega (arith, b); covered = p.marked.covered };
  short_head_in = p.short_head_in;
  base_in = p.base_in;
  short_true = p.short_true;
}
  where
    covers : AreCovered (literals (take (head + 1) es)) (literals es) t.stored_clauses.items
    covers i k k2 long h =
        let ordered = stored_clause_at t.stored_clauses.items i in
        let x = literal_at (stored_clause_at t.stored_clauses.items i) k in
        let j = holds_take es (head + 1) (negation x) h in
        elim (cases_eq j.0 head) as (λ _. is_satisfied (literals es) (stored_clause_at t.stored_clauses.items i) ≡ true) [
          | inl last ↦
              let held : (entry_at es head).literal ≡ negation (literal_at (stored_clause_at t.stored_clauses.items i) k) = ap (λ (n : ℕ). (entry_at es n).literal) (sym last) ∙ j.3 in
              let in_slot : slot_of (literal_at (stored_clause_at t.stored_clauses.items i) k)
              ≡ slot = ap slot_of (sym (negation-negation (literal_at (stored_clause_at t.stored_clauses.items i) k)) ∙ ap negation (sym held)) ∙ sym is_slot in
              let one = in_list t table i k slot k2 long in_slot low in
              subst (λ (n : ℕ). is_satisfied (literals es) (stored_clause_at t.stored_clauses.items n) ≡ true) one.2 (visited one.0 one.1)
          | inr before ↦
              let low_j : j.0 < head = omega (arith, before, j.1) in
              p.covered i k k2 long (subst (λ (y : Literal). holds (literals (take head es)) y ≡ true) j.3 (holds_before es head j.0 low_j j.2))
        ]

-- the slot of a literal of one of the variables
pub slot_low : (t : Table) → IsTable t → (l : Literal) → is_among t.variables l ≡ true → slot_of l < length t.lists.items
slot_low t table l among =
    let high = among_high t.variables l among in
    let n = table.slots in
    let bit = bit_small l.positive in
    omega (arith, high, n, bit)

pub same_clauses : (list : List Watch) → HasSameClauses list list
same_clauses list = record { len = refl; same = λ k. refl }

pub same_from : (old new : List Watch) → new ≡ old → HasSameClauses old new
same_from old new e = record { len = ap length e; same = λ k. ap (λ (x : List Watch). (watch_at x k).clause) e }

-- propagation goes on
pub propagates_on : (old : List Entry) (mid new : Watcher) → new.table.clauses ≡ mid.table.clauses → Propagates mid.table.clauses.items old mid.trail.entries
    → Propagates new.table.clauses.items mid.trail.entries new.trail.entries → Propagates new.table.clauses.items old new.trail.entries
propagates_on old mid new same first second = propagates_then new.table.clauses.items old mid.trail.entries new.trail.entries (subst (λ (x : Vec Clause Global). Propagates x.items old mid.trail.entries) (sym same) first) second

-- the list of the slot is that of the literal at the head
pub record IsAtHead (w : Watcher) (slot : ℕ) : Type 0 where
  pub more : w.head < length w.trail.entries
  pub slot_is : slot ≡ slot_of (negation (entry_at w.trail.entries w.head).literal)
  pub low : slot < length w.table.lists.items

-- it is so still once literals were added
pub still_at_head : (mid new : Watcher) (slot : ℕ) → IsWatching mid → IsWatching new → new.trail.variables ≡ mid.trail.variables → new.head ≡ mid.head
    → Propagates new.table.clauses.items mid.trail.entries new.trail.entries → mid.head < length mid.trail.entries → slot ≡ slot_of (negation (entry_at mid.trail.entries mid.head).literal)
    → slot < length mid.table.lists.items → IsAtHead new slot
still_at_head mid new slot was is variables head propagates more slot_is low = record {
  more = let l = propagates.longer in omega (arith, more, l, head);
  slot_is = slot_is ∙ ap (λ (x : Entry). slot_of (negation x.literal)) (sym (entry_kept mid.trail.entries new.trail.entries mid.head propagates.kept more))
      ∙ ap (λ (n : ℕ). slot_of (negation (entry_at new.trail.entries n).literal)) (sym head);
  low = let a = was.table.slots in let b = is.table.slots in let m = was.variables in let n = is.variables in omega (arith, a, b, m, n, variables, low);
}

-- what stays while the list of the slot is gone over, from the first state on
pub record IsReading (start now : Watcher) (slot : ℕ) : Type 0 where
  pub watching : IsWatching now
  pub clauses : now.table.clauses ≡ start.table.clauses
  pub short : now.table.short ≡ start.table.short
  pub short_head : now.short_head ≡ start.short_head
  pub head : now.head ≡ start.head
  pub variables : now.trail.variables ≡ start.trail.variables
  pub propagates : Propagates now.table.clauses.items start.trail.entries now.trail.entries
  pub at_head : IsAtHead now slot

-- it stays at one visit more
pub reading_on : (start mid new : Watcher) (slot : ℕ) → IsReading start mid slot → IsWatching new → new.table.clauses ≡ mid.table.clauses → new.table.short ≡ mid.table.short → new.short_head
    ≡ mid.short_head → new.head ≡ mid.head → new.trail.variables ≡ mid.trail.variables → Propagates new.table.clauses.items mid.trail.entries new.trail.entries → IsReading start new slot
reading_on start mid new slot r watching clauses short short_head head variables propagates = record {
  watching = watching;
  clauses = clauses ∙ r.clauses;
  short = short ∙ r.short;
  short_head = short_head ∙ r.short_head;
  head = head ∙ r.head;
  variables = variables ∙ r.variables;
  propagates = propagates_on start.trail.entries mid new clauses r.propagates propagates;
  at_head = still_at_head mid new slot r.watching watching variables head propagates r.at_head.more r.at_head.slot_is r.at_head.low;
}

-- a position below the reach of a list is one of the list
pub inside_reach : (w : Watcher) (slot position : ℕ) (list : List Watch) (reach : ℕ) → slot < length w.table.lists.items → list ≡ get_or w.table.lists.items slot list → reach ≤ length list
    → position < reach → position < length (list_at w.table.lists.items slot)
inside_reach w slot position list reach low is within less =
    let len = ap length (get_or_read w.table.lists.items slot list low is []) in
    omega (arith, len, within, less)
