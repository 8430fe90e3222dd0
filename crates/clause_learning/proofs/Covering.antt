-- What is known of the stored clauses while their watches are read.
use Rattle.std.proofs.Common.{◌≡◌, ◌≢◌, ℕ, zero, suc, ◌+◌, ◌-◌, ◌<◌, ◌≤◌, Bool, true, false, ◌||◌, cond, List, [], ◌∷◌, ◌++◌, length, get_or, swap, take, leb, refl, sym, ◌∙◌, ap, subst, inl, inr, arith, Some}
use Rattle.std.specs.List.{list_any}
use Rattle.std.proofs.lemmas.List.{get_or-take, get_or_append_left, take-append-le, take_at, take-take, length-take-le, length_push, take_all, get_or_push, get_or_read}
use Rattle.std.proofs.lemmas.Bool.{and_from, or_cases, or_left, or_right, false≢true, cases_eq, both_ways, not_from_false, leb-true, le-leb}
use Rattle.resolution_proof.specs.declared.literal.Literal.{Literal}
use Rattle.clause_learning.specs.declared.trail.Entry.{Entry}
use Rattle.resolution_proof.specs.Literal.{negation, same, holds, mentions}
use Rattle.resolution_proof.specs.Fresh.{is_free, count_free, is_closed, is_closed_at, is_unit}
use Rattle.clause_learning.specs.Learning.{falsifies}
use Rattle.resolution_proof.specs.Replay.{is_number}
use Rattle.clause_learning.specs.Trail.{literals, entry_at, no_entry, Implies}
use Rattle.clause_learning.specs.Propagation.{IsConflict}
use Rattle.clause_learning.specs.Watching.{IsStored, AreStored, AreShort, AreMarks, IsCovered, AreCovered, Propagates, is_satisfied, stored_clause_at, literal_at}
use Rattle.clause_learning.specs.Watcher.{IsProgress}
use Rattle.resolution_proof.proofs.Sets.{same-refl, all_at, all_from, any_at, any_from}
use Rattle.clause_learning.proofs.Entries.{holds_entry, entry_at-push_new}
use Rattle.clause_learning.proofs.Scanning.{free_from}
use Rattle.clause_learning.proofs.Resolution.{cases_le, holds_take}
use Rattle.clause_learning.proofs.LearntClauses.{two_free}
use Rattle.clause_learning.proofs.Sound.{is_number_at, clause_at-next}
use Rattle.clause_learning.proofs.StoredClauses.{holds_at, position_of, swap_first, swap_other}

-- two of the first positions of a stored clause
other_position : (position m : ℕ) → position < 2 → m < 2 → m ≢ position → m ≡ 1 - position
other_position position m p l ne = omega (arith, p, l, ne)

pub all_false : (s permuted : List Literal) (position : ℕ) → position < 2 → ((m : ℕ) → 2 ≤ m → m < length permuted → holds s (negation (literal_at permuted m)) ≡ true)
    → holds s (negation (literal_at permuted position)) ≡ true → holds s (negation (literal_at permuted (1 - position))) ≡ true → falsifies s permuted ≡ true
all_false s permuted position low rest one two = all_from (λ l. holds s (negation l)) permuted (λ l h. let p = position_of permuted l h in subst (λ (x : Literal). holds s (negation x) ≡ true) p.2 (at p.0 p.1))
  where
    at : (m : ℕ) → m < length permuted → holds s (negation (literal_at permuted m)) ≡ true
    at m lm =
        elim (cases_le 2 m) as (λ _. holds s (negation (literal_at permuted m)) ≡ true) [
          | inl high ↦ rest m high lm
          | inr small ↦ elim (cases_eq m position) as (λ _. holds s (negation (literal_at permuted m)) ≡ true) [
            | inl e ↦ subst (λ (x : ℕ). holds s (negation (literal_at permuted x)) ≡ true) (sym e) one
            | inr ne ↦ subst (λ (x : ℕ). holds s (negation (literal_at permuted x)) ≡ true) (sym (other_position position m low small ne)) two
          ]
        ]

pub all_but_one : (s permuted : List Literal) (position : ℕ) → position < 2 → 2 ≤ length permuted → ((m : ℕ) → 2 ≤ m → m < length permuted → holds s (negation (literal_at permuted m)) ≡ true)
    → holds s (negation (literal_at permuted position)) ≡ true → holds s (literal_at permuted (1 - position)) ≡ false → holds s (negation (literal_at permuted (1 - position))) ≡ false
    → (holds permuted (literal_at permuted (1 - position)) ≡ true) × (is_free s (literal_at permuted (1 - position)) ≡ true) × (is_unit s (literal_at permuted (1 - position)) permuted ≡ true)
all_but_one s permuted position low long rest one none not_false = (
  holds_at permuted (1 - position) (omega (arith, long)),
  not_from_false (mentions s (literal_at permuted (1 - position)).variable)
      (free_from s (literal_at permuted (1 - position)) none not_false),
  all_from (λ l. same l (literal_at permuted (1 - position)) || holds s (negation l)) permuted
      (λ l h. let p = position_of permuted l h in subst (λ (x : Literal). (same x (literal_at permuted (1 - position)) || holds s (negation x)) ≡ true) p.2 (at p.0 p.1)),
)
  where
    at : (m : ℕ) → m < length permuted → (same (literal_at permuted m) (literal_at permuted (1 - position)) || holds s (negation (literal_at permuted m))) ≡ true
    at m lm =
        elim (cases_le 2 m) as (λ _. (same (literal_at permuted m) (literal_at permuted (1 - position)) || holds s (negation (literal_at permuted m))) ≡ true) [
          | inl high ↦ or_right (same (literal_at permuted m) (literal_at permuted (1 - position))) (holds s (negation (literal_at permuted m))) (rest m high lm)
          | inr small ↦ elim (cases_eq m position) as (λ _. (same (literal_at permuted m) (literal_at permuted (1 - position)) || holds s (negation (literal_at permuted m))) ≡ true) [
            | inl e ↦ or_right (same (literal_at permuted m) (literal_at permuted (1 - position))) (holds s (negation (literal_at permuted m))) (subst (λ (x : ℕ). holds s (negation (literal_at permuted x)) ≡ true) (sym e) one)
            | inr ne ↦ or_left (same (literal_at permuted m) (literal_at permuted (1 - position))) (holds s (negation (literal_at permuted m)))
                (subst (λ (x : ℕ). same (literal_at permuted x) (literal_at permuted (1 - position)) ≡ true) (sym (other_position position m low small ne)) (same-refl (literal_at permuted (1 - position))))
          ]
        ]

-- a stored clause that is satisfied
pub satisfied_more : (s t permuted : List Literal) → ((l : Literal) → holds s l ≡ true → holds t l ≡ true) → is_satisfied s permuted ≡ true → is_satisfied t permuted ≡ true
satisfied_more s t permuted more h = let l = any_at (holds s) permuted h in any_from (holds t) permuted l.0 l.1 (more l.0 l.2)

pub satisfied_stored_clause : (s a b : List Literal) → ((l : Literal) → holds a l ≡ true → holds b l ≡ true) → is_satisfied s a ≡ true → is_satisfied s b ≡ true
satisfied_stored_clause s a b more h = let l = any_at (holds s) a h in any_from (holds s) b l.0 (more l.0 l.1) l.2

-- the literals of the first entries are literals of all
pub take_holds : (es : List Entry) (n : ℕ) (l : Literal) → holds (literals (take n es)) l ≡ true → holds (literals es) l ≡ true
take_holds es n l h = let k = holds_take es n l h in subst (λ (x : Literal). holds (literals es) x ≡ true) k.3 (holds_entry es k.0 k.2)

pub kept_holds : (old new : List Entry) (l : Literal) → take (length old) new ≡ old → holds (literals old) l ≡ true → holds (literals new) l ≡ true
kept_holds old new l e h = take_holds new (length old) l (subst (λ (x : List Entry). holds (literals x) l ≡ true) (sym e) h)

-- the stored clauses stay covered while the trail grows
pub covered_more : (before s t : List Literal) (stored_clauses : List (List Literal)) → ((l : Literal) → holds s l ≡ true → holds t l ≡ true) → AreCovered before s stored_clauses → AreCovered before t stored_clauses
covered_more before s t stored_clauses more c i k lk long h = satisfied_more s t (stored_clause_at stored_clauses i) more (c i k lk long h)

-- and where a watch moves to a literal that is not false
pub covered_swap : (before s permuted : List Literal) (first k : ℕ) → first < 2 → 2 ≤ k → k < length permuted → holds before (negation (literal_at permuted k)) ≡ false
    → ((l : Literal) → holds permuted l ≡ true → holds (swap permuted first k) l ≡ true) → IsCovered before s permuted → IsCovered before s (swap permuted first k)
covered_swap before s permuted first k f2 k2 lk not_false same c m m2 long h =
    let lf : first < length permuted = omega (arith, f2, k2, lk) in
    elim (cases_eq m first) as (λ _. is_satisfied s (swap permuted first k) ≡ true) [
      | inl e ↦ absurd (both_ways (holds before (negation (literal_at permuted k))) not_false (subst (λ (x : Literal). holds before (negation x) ≡ true) (swap_first permuted first k m lf lk e) h))
      | inr ne ↦
          let other = swap_other permuted first k m lf lk ne (λ e. omega (arith, e, m2, k2)) in
          satisfied_stored_clause s permuted (swap permuted first k) same (c m m2 (omega (arith, k2, lk)) (subst (λ (x : Literal). holds before (negation x) ≡ true) other h))
    ]

-- clauses that are closed
closed_each : (s : List Literal) (cs : List (List Literal)) → ((i : ℕ) → i < length cs → is_closed_at s (stored_clause_at cs i) ≡ true) → is_closed s cs ≡ true
closed_each s [] h = refl
closed_each s (c ∷ cs) h = and_from (is_closed_at s c) (is_closed s cs) (h zero (omega arith)) (closed_each s cs (λ i l. h (suc i) (omega (arith, l))))

closed_satisfied : (s clause permuted : List Literal) → IsStored clause permuted → is_satisfied s permuted ≡ true → is_closed_at s clause ≡ true
closed_satisfied s clause permuted r h = or_left (list_any (holds s) clause) (leb 2 (count_free s clause)) (satisfied_stored_clause s permuted clause (λ l t. sym (r.same l) ∙ t) h)

closed_stored_clause : (s clause permuted : List Literal) → IsStored clause permuted → 2 ≤ length permuted → IsCovered s s permuted → is_closed_at s clause ≡ true
closed_stored_clause s clause permuted r long c = go (holds s (negation a)) refl (holds s (negation b)) refl (holds s a) refl (holds s b) refl
  where
    a : Literal
    a = literal_at permuted 0

    b : Literal
    b = literal_at permuted 1

    go : (na : Bool) → holds s (negation (literal_at permuted 0)) ≡ na → (nb : Bool) → holds s (negation (literal_at permuted 1)) ≡ nb → (ha : Bool) → holds s (literal_at permuted 0) ≡ ha
        → (hb : Bool) → holds s (literal_at permuted 1) ≡ hb → is_closed_at s clause ≡ true
    go true p nb q ha u hb v = closed_satisfied s clause permuted r (c 0 (omega arith) long p)
    go false p true q ha u hb v = closed_satisfied s clause permuted r (c 1 (omega arith) long q)
    go false p false q true u hb v = closed_satisfied s clause permuted r (any_from (holds s) permuted (literal_at permuted 0) (holds_at permuted 0 (omega (arith, long))) u)
    go false p false q false u true v = closed_satisfied s clause permuted r (any_from (holds s) permuted (literal_at permuted 1) (holds_at permuted 1 (omega (arith, long))) v)
    go false p false q false u false v =
        let two = two_free s clause (literal_at permuted 0) (literal_at permuted 1) (sym (r.same (literal_at permuted 0)) ∙ holds_at permuted 0 (omega (arith, long)))
        (sym (r.same (literal_at permuted 1)) ∙ holds_at permuted 1 (omega (arith, long)))
        (λ e. let one = r.apart 0 1 (omega (arith, long)) (omega (arith, long)) e in omega (arith, one))
        (not_from_false (mentions s (literal_at permuted 0).variable) (free_from s (literal_at permuted 0) u p))
        (not_from_false (mentions s (literal_at permuted 1).variable) (free_from s (literal_at permuted 1) v q)) in
        or_right (list_any (holds s) clause) (leb 2 (count_free s clause)) (le-leb 2 (count_free s clause) two)

-- once all is read, all clauses are closed
pub closed_all : (clauses stored_clauses : List (List Literal)) (short : List ℕ) (es : List Entry) (head : ℕ) (marks : List ℕ) (short_head base : ℕ) → AreStored clauses stored_clauses
    → AreShort stored_clauses short → IsProgress stored_clauses short es head marks short_head base → length es ≤ head → length short ≤ short_head → is_closed (literals es) clauses ≡ true
closed_all clauses stored_clauses short es head marks short_head base are are_short p read all = closed_each (literals es) clauses each
  where
    each : (i : ℕ) → i < length clauses → is_closed_at (literals es) (stored_clause_at clauses i) ≡ true
    each i l =
        let r = are.each i l in
        elim (cases_le 2 (length (stored_clause_at stored_clauses i))) as (λ _. is_closed_at (literals es) (stored_clause_at clauses i) ≡ true) [
          | inl long ↦ closed_stored_clause (literals es) (stored_clause_at clauses i) (stored_clause_at stored_clauses i) r long
              (subst (λ (x : List Entry). IsCovered (literals x) (literals es) (stored_clause_at stored_clauses i)) (take_all head es read) (p.covered i))
          | inr few ↦
              let inside : i < length stored_clauses = let c = are.count in omega (arith, c, l) in
              let j = are_short.each i inside few in
              let t = p.short_true j.0 (omega (arith, j.1, all)) in
              closed_satisfied (literals es) (stored_clause_at clauses i) (stored_clause_at stored_clauses i) r
              (satisfied_more (literals (take base es)) (literals es) (stored_clause_at stored_clauses i) (take_holds es base) (subst (λ (x : ℕ). is_satisfied (literals (take base es)) (stored_clause_at stored_clauses x) ≡ true) j.2 t))
        ]

-- one entry more
pub progress_push : (stored_clauses : List (List Literal)) (short : List ℕ) (es : List Entry) (e : Entry) (head : ℕ) (marks : List ℕ) (short_head base : ℕ)
    → IsProgress stored_clauses short es head marks short_head base → IsProgress stored_clauses short (es ++ e ∷ []) head marks short_head base
progress_push stored_clauses short es e head marks short_head base p = record {
  head_in = let n = length_push es e in let h = p.head_in in omega (arith, n, h);
  covered = rw (take-append-le head es (e ∷ []) p.head_in) (covered_more (literals (take head es)) (literals es) (literals (es ++ e ∷ [])) stored_clauses
      (λ l h. kept_holds es (es ++ e ∷ []) l (take_at es (e ∷ []) (length es) refl) h) p.covered);
  marked = marks_push stored_clauses es e head marks p.head_in p.marked;
  short_head_in = p.short_head_in;
  base_in = let n = length_push es e in let b = p.base_in in omega (arith, n, b);
  short_true = rw (take-append-le base es (e ∷ []) p.base_in) p.short_true;
}
  where
    marks_push : (stored_clauses : List (List Literal)) (es : List Entry) (e : Entry) (head : ℕ) (marks : List ℕ) → head ≤ length es → AreMarks stored_clauses es head marks → AreMarks stored_clauses (es ++ e ∷ []) head marks
    marks_push stored_clauses es e head marks h m = record {
      sorted = m.sorted;
      below = m.below;
      covered = λ j l. let b = m.below j l in let low : get_or marks j 0 ≤ length es = omega (arith, b, h) in rw (take-append-le (get_or marks j 0) es (e ∷ []) low) (m.covered j l);
    }

-- what propagation adds
pub propagates_none : (clauses : List (List Literal)) (es : List Entry) → Propagates clauses es es
propagates_none clauses es = record { longer = omega arith; kept = take_all (length es) es (omega arith); implied = λ k low l. absurd (omega (arith, low, l)); free = λ k low l. absurd (omega (arith, low, l)) }

pub propagates_push : (clauses : List (List Literal)) (es : List Entry) (e : Entry) (n : ℕ) → e.reason ≡ Some n → Implies clauses n (literals es) e.literal → is_free (literals es) e.literal ≡ true → Propagates clauses es (es ++ e ∷ [])
propagates_push clauses es e n reason implies free = record {
  longer = let m = length_push es e in omega (arith, m);
  kept = take_at es (e ∷ []) (length es) refl;
  implied = λ k low l.
      let m = length_push es e in
      let at : k ≡ length es = omega (arith, m, low, l) in
      rw (take_at es (e ∷ []) k (sym at), entry_at-push_new es e k at) (n, reason, implies);
  free = λ k low l.
      let m = length_push es e in
      let at : k ≡ length es = omega (arith, m, low, l) in
      rw (take_at es (e ∷ []) k (sym at), entry_at-push_new es e k at) free;
}

pub propagates_then : (clauses : List (List Literal)) (a b c : List Entry) → Propagates clauses a b → Propagates clauses b c → Propagates clauses a c
propagates_then clauses a b c p q = record {
  longer = let x = p.longer in let y = q.longer in omega (arith, x, y);
  kept = sym (take-take (length a) (length b) c p.longer) ∙ ap (take (length a)) q.kept ∙ p.kept;
  implied = λ k low l. elim (cases_le (length b) k) as (λ _. (n : ℕ) × ((entry_at c k).reason ≡ Some n) × Implies clauses n (literals (take k c)) (entry_at c k).literal) [
    | inl late ↦ q.implied k late l
    | inr early ↦
        let at : entry_at b k ≡ entry_at c k = ap (λ (x : List Entry). entry_at x k) (sym q.kept) ∙ get_or-take (length b) c k no_entry early in
        let prefix : take k b ≡ take k c = ap (take k) (sym q.kept) ∙ take-take k (length b) c (omega (arith, early)) in
        rw (← at, ← prefix) (p.implied k low early)
  ];
  free = λ k low l. elim (cases_le (length b) k) as (λ _. is_free (literals (take k c)) (entry_at c k).literal ≡ true) [
    | inl late ↦ q.free k late l
    | inr early ↦
        let at : entry_at b k ≡ entry_at c k = ap (λ (x : List Entry). entry_at x k) (sym q.kept) ∙ get_or-take (length b) c k no_entry early in
        let prefix : take k b ≡ take k c = ap (take k) (sym q.kept) ∙ take-take k (length b) c (omega (arith, early)) in
        rw (← at, ← prefix) (p.free k low early)
  ];
}

-- propagation is complete: one mark more
pub marks_more : (stored_clauses : List (List Literal)) (es : List Entry) (head : ℕ) (marks : List ℕ) → length es ≤ head → AreCovered (literals (take head es)) (literals es) stored_clauses
    → AreMarks stored_clauses es head marks → AreMarks stored_clauses es head (marks ++ head ∷ [])
marks_more stored_clauses es head marks read covered m = record {
  sorted = λ j k jk lk. elim (cases_eq k (length marks)) as (λ _. get_or (marks ++ head ∷ []) j 0 ≤ get_or (marks ++ head ∷ []) k 0) [
    | inl last ↦ let top = at_last k last in let b = up j (omega (arith, jk, lk)) in omega (arith, top, b)
    | inr before ↦
        let low : k < length marks = let n = length_push marks head in omega (arith, n, lk, before) in
        let low_j : j < length marks = omega (arith, low, jk) in
        let a = at_old k low in
        let b = at_old j low_j in
        let s = m.sorted j k jk low in
        omega (arith, a, b, s)
  ];
  below = λ j l. up j l;
  covered = λ j l. elim (cases_eq j (length marks)) as (λ _. AreCovered (literals (take (get_or (marks ++ head ∷ []) j 0) es)) (literals (take (get_or (marks ++ head ∷ []) j 0) es)) stored_clauses) [
    | inl last ↦ rw (at_last j last) (subst (λ (x : List Entry). AreCovered (literals (take head es)) (literals x) stored_clauses) (sym (take_all head es read)) covered)
    | inr before ↦ let low : j < length marks = let n = length_push marks head in omega (arith, n, l, before) in rw (at_old j low) (m.covered j low)
  ];
}
  where
    at_last : (j : ℕ) → j ≡ length marks → get_or (marks ++ head ∷ []) j 0 ≡ head
    at_last j e = get_or_push marks head 0 j (sym e)

    at_old : (j : ℕ) → j < length marks → get_or (marks ++ head ∷ []) j 0 ≡ get_or marks j 0
    at_old j l = get_or_append_left marks (head ∷ []) 0 j l

    up : (j : ℕ) → j < length (marks ++ head ∷ []) → get_or (marks ++ head ∷ []) j 0 ≤ head
    up j l = elim (cases_eq j (length marks)) as (λ _. get_or (marks ++ head ∷ []) j 0 ≤ head) [
      | inl last ↦ let a = at_last j last in omega (arith, a)
      | inr before ↦ let low : j < length marks = let n = length_push marks head in omega (arith, n, l, before) in let a = at_old j low in let b = m.below j low in omega (arith, a, b)
    ]

-- the first marks alone, and the first entries alone
pub progress_back : (stored_clauses : List (List Literal)) (short : List ℕ) (es : List Entry) (head : ℕ) (marks : List ℕ) (short_head base : ℕ) (n kept new_head : ℕ)
    → IsProgress stored_clauses short es head marks short_head base → n ≤ length es → base ≤ n → kept ≤ length marks → (0 < kept → get_or marks (kept - 1) 0 ≤ n) → (kept ≡ 0 → new_head ≡ 0)
    → (0 < kept → new_head ≡ get_or marks (kept - 1) 0) → IsProgress stored_clauses short (take n es) new_head (take kept marks) short_head base
progress_back stored_clauses short es head marks short_head base n kept new_head p n_in base_low kept_in last_low none some = record {
  head_in = let m = length-take-le n es n_in in omega (arith, m, head_low);
  covered = rw (take-take new_head n es head_low) (elim (cases_eq kept 0) as (λ _. AreCovered (literals (take new_head es)) (literals (take n es)) stored_clauses) [
    | inl zero_kept ↦ rw (none zero_kept) (λ i k lk long h. absurd (false≢true h))
    | inr more ↦
        let last : kept - 1 < length marks = omega (arith, kept_in, more) in
        let at : new_head ≡ get_or marks (kept - 1) 0 = some (omega (arith, more)) in
        rw at (covered_more (literals (take (get_or marks (kept - 1) 0) es)) (literals (take (get_or marks (kept - 1) 0) es)) (literals (take n es)) stored_clauses
        (λ l h. take_holds (take n es) (get_or marks (kept - 1) 0) l (subst (λ (x : List Entry). holds (literals x) l ≡ true)
        (sym (take-take (get_or marks (kept - 1) 0) n es (last_low (omega (arith, more))))) h)) (p.marked.covered (kept - 1) last))
  ]);
  marked = record {
    sorted = λ j k jk lk. let len = length-take-le kept marks kept_in in let lk2 : k < kept = omega (arith, len, lk) in rw
        (get_or-take kept marks j 0 (omega (arith, jk, lk2)), get_or-take kept marks k 0 lk2) (p.marked.sorted j k jk (omega (arith, lk2, kept_in)));
    below = λ j l. let len = length-take-le kept marks kept_in in let lj : j < kept = omega (arith, len, l) in let a = get_or-take kept marks j 0 lj in let b = up j lj in omega (arith, a, b);
    covered = λ j l. let len = length-take-le kept marks kept_in in let lj : j < kept = omega (arith, len, l) in
        let b = up j lj in
        let m_low : get_or marks j 0 ≤ n = let c = head_low in omega (arith, b, c) in
        rw (get_or-take kept marks j 0 lj, take-take (get_or marks j 0) n es m_low) (p.marked.covered j (omega (arith, lj, kept_in)));
  };
  short_head_in = p.short_head_in;
  base_in = let m = length-take-le n es n_in in omega (arith, m, base_low);
  short_true = rw (take-take base n es base_low) p.short_true;
}
  where
    head_low : new_head ≤ n
    head_low = elim (cases_eq kept 0) as (λ _. new_head ≤ n) [
      | inl zero_kept ↦ let z = none zero_kept in omega (arith, z)
      | inr more ↦ let s = some (omega (arith, more)) in let l = last_low (omega (arith, more)) in omega (arith, s, l)
    ]

    up : (j : ℕ) → j < kept → get_or marks j 0 ≤ new_head
    up j lj = let s = some (omega (arith, lj)) in let o = p.marked.sorted j (kept - 1) (omega (arith, lj)) (omega (arith, lj, kept_in)) in omega (arith, s, o)

-- no short clause is read yet
pub progress_reset_short : (stored_clauses : List (List Literal)) (short : List ℕ) (es : List Entry) (head : ℕ) (marks : List ℕ) (short_head base : ℕ)
    → IsProgress stored_clauses short es head marks short_head base → IsProgress stored_clauses short es head marks 0 0
progress_reset_short stored_clauses short es head marks short_head base p = record { head_in = p.head_in; covered = p.covered; marked = p.marked; short_head_in = omega arith; base_in = omega arith; short_true = λ j l. absurd (omega (arith, l)) }

-- one short clause more is true
pub progress_short : (stored_clauses : List (List Literal)) (short : List ℕ) (es : List Entry) (head : ℕ) (marks : List ℕ) (short_head base : ℕ)
    → IsProgress stored_clauses short es head marks short_head base → short_head < length short → is_satisfied (literals es) (stored_clause_at stored_clauses (get_or short short_head 0)) ≡ true
    → IsProgress stored_clauses short es head marks (short_head + 1) (length es)
progress_short stored_clauses short es head marks short_head base p more here = record {
  head_in = p.head_in;
  covered = p.covered;
  marked = p.marked;
  short_head_in = omega (arith, more);
  base_in = omega arith;
  short_true = λ j l. subst (λ (x : List Entry). is_satisfied (literals x) (stored_clause_at stored_clauses (get_or short j 0)) ≡ true) (sym (take_all (length es) es (omega arith)))
      (elim (cases_eq j short_head) as (λ _. is_satisfied (literals es) (stored_clause_at stored_clauses (get_or short j 0)) ≡ true) [
        | inl e ↦ subst (λ (x : ℕ). is_satisfied (literals es) (stored_clause_at stored_clauses (get_or short x 0)) ≡ true) (sym e) here
        | inr ne ↦ satisfied_more (literals (take base es)) (literals es) (stored_clause_at stored_clauses (get_or short j 0)) (take_holds es base) (p.short_true j (omega (arith, l, ne)))
      ]);
}

count_free_le : (s c : List Literal) → count_free s c ≤ length c
count_free_le s [] = omega arith
count_free_le s (x ∷ xs) = let ih = count_free_le s xs in let b = bit (is_free s x) in omega (arith, ih, b)
  where
    bit : (t : Bool) → cond t 1 0 ≤ 1
    bit true = omega arith
    bit false = omega arith

-- a clause of fewer than two literals that is closed is true
pub closed_short : (s c : List Literal) → length c < 2 → is_closed_at s c ≡ true → is_satisfied s c ≡ true
closed_short s c few closed = elim (or_cases (list_any (holds s) c) (leb 2 (count_free s c)) closed) as (λ _. is_satisfied s c ≡ true) [
  | inl one ↦ one
  | inr two ↦ let t = leb-true 2 (count_free s c) two in let l = count_free_le s c in absurd (omega (arith, t, l, few))
]

-- the clause of an index and its stored clause
module _ (clauses stored_clauses : List (List Literal)) (are : AreStored clauses stored_clauses) where
  pub stored_clause_satisfied : (s : List Literal) (i : ℕ) → i < length stored_clauses → is_satisfied s (stored_clause_at clauses i) ≡ true → is_satisfied s (stored_clause_at stored_clauses i) ≡ true
  stored_clause_satisfied s i l h = let low : i < length clauses = let c = are.count in omega (arith, c, l) in satisfied_stored_clause s (stored_clause_at clauses i) (stored_clause_at stored_clauses i) (λ x t. (are.each i low).same x ∙ t) h

  pub short_clause : (short : List ℕ) → AreShort stored_clauses short → (j : ℕ) → j < length short → length (stored_clause_at clauses (get_or short j 0)) < 2
  short_clause short are_short j l = let o = are_short.only j l in let low : get_or short j 0 < length clauses = let c = are.count in omega (arith, c, o.0) in let n = (are.each (get_or short j 0) low).len in omega (arith, n, o.1)

  pub number_in : (i : ℕ) → i < length stored_clauses → is_number clauses (i + 1) ≡ true
  number_in i l = is_number_at clauses i (let c = are.count in omega (arith, c, l))

  -- what a stored clause implies, its clause implies
  pub implied_by_stored_clause : (s : List Literal) (i : ℕ) (u : Literal) → i < length stored_clauses → holds (stored_clause_at stored_clauses i) u ≡ true
      → is_unit s u (stored_clause_at stored_clauses i) ≡ true → Implies clauses (i + 1) s u
  implied_by_stored_clause s i u l h unit =
      let low : i < length clauses = let c = are.count in omega (arith, c, l) in
      let r = are.each i low in
      record {
        number = number_in i l;
        within = subst (λ (c : List Literal). holds c u ≡ true) (sym (clause_at-next clauses i)) (sym (r.same u) ∙ h);
        others = subst (λ (c : List Literal). is_unit s u c ≡ true) (sym (clause_at-next clauses i))
            (all_from (λ x. same x u || holds s (negation x)) (stored_clause_at clauses i)
            (λ x t. all_at (λ y. same y u || holds s (negation y)) (stored_clause_at stored_clauses i) x unit (r.same x ∙ t)));
      }

  pub conflict_by_stored_clause : (s : List Literal) (i : ℕ) → i < length stored_clauses → falsifies s (stored_clause_at stored_clauses i) ≡ true → IsConflict clauses s (i + 1)
  conflict_by_stored_clause s i l h =
      let low : i < length clauses = let c = are.count in omega (arith, c, l) in
      let r = are.each i low in (
        number_in i l,
        subst (λ (c : List Literal). falsifies s c ≡ true) (sym (clause_at-next clauses i))
            (all_from (λ x. holds s (negation x)) (stored_clause_at clauses i) (λ x t. all_at (λ y. holds s (negation y)) (stored_clause_at stored_clauses i) x h (r.same x ∙ t))),
      )

-- what a read of the next short clause gives
pub record ReadsShort (clauses stored_clauses : List (List Literal)) (short : List ℕ) (short_head i : ℕ) (clause : List Literal) : Type 0 where
  pub is_index : i ≡ get_or short short_head 0
  pub is_clause : clause ≡ stored_clause_at clauses i
  pub few : length clause < 2
  pub inside : i < length stored_clauses

pub reads_short : (clauses stored_clauses : List (List Literal)) (short : List ℕ) (short_head i : ℕ) (clause again : List Literal) → AreStored clauses stored_clauses
    → AreShort stored_clauses short → short_head < length short → i ≡ get_or short short_head i → clause ≡ again → again ≡ get_or clauses i again
    → ReadsShort clauses stored_clauses short short_head i clause
reads_short clauses stored_clauses short short_head i clause again are are_short more ei ec ea =
    let is : i ≡ get_or short short_head 0 = get_or_read short short_head i more ei 0 in
    let o = are_short.only short_head more in
    let inside : i < length stored_clauses = omega (arith, is, o.0) in
    let low : i < length clauses = let c = are.count in omega (arith, c, inside) in
    let at : clause ≡ stored_clause_at clauses i = ec ∙ get_or_read clauses i again low ea [] in
    let few = short_clause clauses stored_clauses are short are_short short_head more in
    record { is_index = is; is_clause = at; few = subst (λ (c : List Literal). length c < 2) (sym (at ∙ ap (stored_clause_at clauses) is)) few; inside = inside }

pub last_holds : (es : List Entry) (e : Entry) → holds (literals (es ++ e ∷ [])) e.literal ≡ true
last_holds es e = let n = length_push es e in subst (λ (x : Entry). holds (literals (es ++ e ∷ [])) x.literal ≡ true) (entry_at-push_new es e (length es) refl) (holds_entry (es ++ e ∷ []) (length es) (omega (arith, n)))
