-- Tables: a stored clause in the place of another one, and a watch that moves.
-- what an index past the end reads
use Rattle.std.proofs.Common.{◌≡◌, ◌≢◌, ℕ, zero, suc, ◌+◌, ◌*◌, ◌-◌, ◌<◌, ◌≤◌, Bool, true, false, cond, List, [], ◌∷◌, ◌++◌, length, get_or, set, swap, take, eqb, refl, sym, ◌∙◌, ap, subst, inl, inr, ◌⊎◌, arith}
use Rattle.std.specs.List.{swap_remove}
use Rattle.std.proofs.lemmas.List.{get_or-set_same, get_or-set_other, length-set, take_at, length-take, get_or-take, get_or_append_left, get_or_push, length_push, set-set, set-get_or}
use Rattle.std.proofs.lemmas.List.Edits.{length-swap}
use Rattle.std.proofs.lemmas.List.Sums.{sum_by-swap_remove, sum_by_push, get_or-le-sum_by}
use Rattle.std.proofs.lemmas.Bool.{cases_eq, eq-eqb, ne_eqb}
use Rattle.resolution_proof.specs.declared.literal.Literal.{Literal}
use Rattle.clause_learning.specs.declared.stored_clause.Watch.{Watch}
use Rattle.resolution_proof.specs.Literal.{holds}
use Rattle.clause_learning.specs.Watching.{IsStored, AreStored, AreWatched, ArePermuted, HaveBlockers, AreShort, count_of, watch_count, stored_clause_at, list_at, watch_at, literal_at, no_watch, slot_of}
use Rattle.resolution_proof.proofs.Sets.{literal_ext}
use Rattle.clause_learning.proofs.Resolution.{cases_le}
use Rattle.clause_learning.proofs.StoredClauses.{swap_first, swap_other, holds-swap, stored_clause_swap}

pub reads_default : {A : Type 0} (xs : List A) (i : ℕ) (d : A) → length xs ≤ i → get_or xs i d ≡ d
reads_default [] i d h = refl
reads_default (x ∷ xs) zero d h = absurd (omega (arith, h))
reads_default (x ∷ xs) (suc i) d h = reads_default xs i d (omega (arith, h))

-- literals of one slot are equal
pub slot_same : (a b : Literal) → slot_of a ≡ slot_of b → a ≡ b
slot_same a b e = go a.positive b.positive refl refl e
  where
    go : (s t : Bool) → a.positive ≡ s → b.positive ≡ t → 2 * a.variable + cond s 1 0 ≡ 2 * b.variable + cond t 1 0 → a ≡ b
    go true true p q h = literal_ext a b (omega (arith, h)) (p ∙ sym q)
    go false false p q h = literal_ext a b (omega (arith, h)) (p ∙ sym q)
    go true false p q h = absurd (omega (arith, h))
    go false true p q h = absurd (omega (arith, h))

-- one where the literal's list is that of the slot
abbrev pub at_slot : Literal → ℕ → ℕ
at_slot l s = cond (eqb (slot_of l) s) 1 0

pub at_same : (l : Literal) (s : ℕ) → slot_of l ≡ s → at_slot l s ≡ 1
at_same l s e = rw (eq-eqb (slot_of l) s e) refl

pub at_other : (l : Literal) (s : ℕ) → slot_of l ≢ s → at_slot l s ≡ 0
at_other l s e = rw (ne_eqb (slot_of l) s e) refl

pub watch_count_by : (ordered : List Literal) (s : ℕ) → 2 ≤ length ordered → watch_count ordered s ≡ at_slot (literal_at ordered 0) s + at_slot (literal_at ordered 1) s
watch_count_by [] s h = absurd (omega (arith, h))
watch_count_by (a ∷ []) s h = absurd (omega (arith, h))
watch_count_by (a ∷ b ∷ rest) s h = refl

pub watch_count_long : (ordered : List Literal) (s : ℕ) → 1 ≤ watch_count ordered s → 2 ≤ length ordered
watch_count_long [] s h = absurd (omega (arith, h))
watch_count_long (a ∷ []) s h = absurd (omega (arith, h))
watch_count_long (a ∷ b ∷ rest) s h = omega arith

pub watch_count_short : (ordered : List Literal) (s : ℕ) → length ordered < 2 → watch_count ordered s ≡ 0
watch_count_short [] s h = refl
watch_count_short (a ∷ []) s h = refl
watch_count_short (a ∷ b ∷ rest) s h = absurd (omega (arith, h))

-- a stored clause that is watched is one of the list of its first or second literal
pub watch_count_where : (ordered : List Literal) (s : ℕ) → 1 ≤ watch_count ordered s → (slot_of (literal_at ordered 0) ≡ s) ⊎ (slot_of (literal_at ordered 1) ≡ s)
watch_count_where ordered s h =
    let long = watch_count_long ordered s h in
    let by = watch_count_by ordered s long in
    elim (cases_eq (slot_of (literal_at ordered 0)) s) as (λ _. (slot_of (literal_at ordered 0) ≡ s) ⊎ (slot_of (literal_at ordered 1) ≡ s)) [
      | inl first ↦ inl first
      | inr not_first ↦ elim (cases_eq (slot_of (literal_at ordered 1)) s) as (λ _. (slot_of (literal_at ordered 0) ≡ s) ⊎ (slot_of (literal_at ordered 1) ≡ s)) [
        | inl second ↦ inr second
        | inr not_second ↦
            let a = at_other (literal_at ordered 0) s not_first in
            let b = at_other (literal_at ordered 1) s not_second in
            absurd (omega (arith, h, by, a, b))
      ]
    ]

pub stored_clause_inside : (stored_clauses : List (List Literal)) (i : ℕ) → 1 ≤ length (stored_clause_at stored_clauses i) → i < length stored_clauses
stored_clause_inside stored_clauses i h =
    elim (cases_le (length stored_clauses) i) as (λ _. i < length stored_clauses) [
      | inl out ↦ let e : length (stored_clause_at stored_clauses i) ≡ 0 = ap length (reads_default stored_clauses i [] out) in absurd (omega (arith, h, e))
      | inr within ↦ within
    ]

-- one where the watch is of the clause
abbrev pub of_clause : ℕ → Watch → ℕ
of_clause i w = cond (eqb w.clause i) 1 0

pub of_itself : (w : Watch) → of_clause w.clause w ≡ 1
of_itself w = rw (eq-eqb w.clause w.clause refl) refl

pub of_other : (i : ℕ) (w : Watch) → w.clause ≢ i → of_clause i w ≡ 0
of_other i w e = rw (ne_eqb w.clause i e) refl

-- a watch that stands in a list is counted there
pub watch_is_counted : (stored_clauses : List (List Literal)) (lists : List (List Watch)) (s k : ℕ) → AreWatched stored_clauses lists → s < length lists → k < length (list_at lists s)
    → 1 ≤ watch_count (stored_clause_at stored_clauses (watch_at (list_at lists s) k).clause) s
watch_is_counted stored_clauses lists s k watched ls lk =
    let w = watch_at (list_at lists s) k in
    let at = get_or-le-sum_by (λ (v : Watch). cond (eqb v.clause w.clause) 1 0) (list_at lists s) k no_watch lk in
    let one : of_clause w.clause w ≡ 1 = of_itself w in
    let all = watched w.clause s ls in
    omega (arith, at, one, all)

-- what a swap does to the counts
watch_count_swap : (ordered : List Literal) (first k s : ℕ) → first < 2 → 2 ≤ k → k < length ordered → watch_count ordered s + at_slot (literal_at ordered k) s ≡ watch_count (swap ordered first k) s + at_slot (literal_at ordered first) s
watch_count_swap ordered first k s f2 k2 lk =
    let len = length-swap ordered first k in
    let lf : first < length ordered = omega (arith, f2, k2, lk) in
    let old = watch_count_by ordered s (omega (arith, k2, lk)) in
    let new = watch_count_by (swap ordered first k) s (omega (arith, len, k2, lk)) in
    elim (cases_eq 0 first) as (λ _. watch_count ordered s + at_slot (literal_at ordered k) s ≡ watch_count (swap ordered first k) s + at_slot (literal_at ordered first) s) [
      | inl zero_first ↦
          let a : at_slot (literal_at (swap ordered first k) 0) s ≡ at_slot (literal_at ordered k) s = ap (λ (l : Literal). at_slot l s) (swap_first ordered first k 0 lf lk zero_first) in
          let b : at_slot (literal_at (swap ordered first k) 1) s ≡ at_slot (literal_at ordered 1) s = ap (λ (l : Literal). at_slot l s) (swap_other ordered first k 1 lf lk (λ e. omega (arith, e, zero_first)) (λ e. omega (arith, e, k2))) in
          let c : at_slot (literal_at ordered first) s ≡ at_slot (literal_at ordered 0) s = ap (λ (p : ℕ). at_slot (literal_at ordered p) s) (sym zero_first) in
          omega (arith, old, new, a, b, c)
      | inr not_zero ↦
          let one_first : 1 ≡ first = omega (arith, f2, not_zero) in
          let a : at_slot (literal_at (swap ordered first k) 1) s ≡ at_slot (literal_at ordered k) s = ap (λ (l : Literal). at_slot l s) (swap_first ordered first k 1 lf lk one_first) in
          let b : at_slot (literal_at (swap ordered first k) 0) s ≡ at_slot (literal_at ordered 0) s = ap (λ (l : Literal). at_slot l s) (swap_other ordered first k 0 lf lk not_zero (λ e. omega (arith, e, k2))) in
          let c : at_slot (literal_at ordered first) s ≡ at_slot (literal_at ordered 1) s = ap (λ (p : ℕ). at_slot (literal_at ordered p) s) (sym one_first) in
          omega (arith, old, new, a, b, c)
    ]

-- an element that is left when one was taken off
pub swap_remove_from : (xs : List Watch) (i k : ℕ) → i < length xs → k < length (swap_remove xs i no_watch) → (j : ℕ) × (j < length xs) × (watch_at (swap_remove xs i no_watch) k ≡ watch_at xs j)
swap_remove_from xs i k li lk =
    let last = length xs - 1 in
    let ys = set xs i (get_or xs last no_watch) in
    let len = length-set xs i (get_or xs last no_watch) in
    let n = length-take last ys in
    let below : k < last = omega (arith, n, lk) in
    let at : watch_at (swap_remove xs i no_watch) k ≡ watch_at ys k = get_or-take last ys k no_watch below in
    elim (cases_eq k i) as (λ _. (j : ℕ) × (j < length xs) × (watch_at (swap_remove xs i no_watch) k ≡ watch_at xs j)) [
      | inl here ↦ (last, omega (arith, li), at ∙ ap (λ (p : ℕ). watch_at ys p) here ∙ get_or-set_same xs i (get_or xs last no_watch) no_watch li)
      | inr other ↦ (k, omega (arith, below), at ∙ get_or-set_other xs i k (get_or xs last no_watch) no_watch other)
    ]

-- and one before it stays where it is
pub swap_remove_before : (xs : List Watch) (i k : ℕ) → i < length xs → k < i → watch_at (swap_remove xs i no_watch) k ≡ watch_at xs k
swap_remove_before xs i k li lk =
    let last = length xs - 1 in
    let ys = set xs i (get_or xs last no_watch) in
    get_or-take last ys k no_watch (omega (arith, li, lk)) ∙ get_or-set_other xs i k (get_or xs last no_watch) no_watch (λ e. omega (arith, e, lk))

pub length-swap_remove : (xs : List Watch) (i : ℕ) → i < length xs → length (swap_remove xs i no_watch) + 1 ≡ length xs
length-swap_remove xs i li =
    let last = length xs - 1 in
    let len = length-set xs i (get_or xs last no_watch) in
    let n = length-take last (set xs i (get_or xs last no_watch)) in
    omega (arith, li, len, n)

-- a list from which the last was taken off again is the old one
pub push_pop : (lists : List (List Watch)) (a a2 b : ℕ) (w : Watch) (p q r d e f : List Watch) → a < length lists → a2 ≡ a → p ≡ get_or lists a d ++ w ∷ [] → q ≡ get_or (set lists a p) b e → r
    ≡ take (length (get_or (set (set lists a p) b q) a2 f) - 1) (get_or (set (set lists a p) b q) a2 f) → set (set (set lists a p) b q) a2 r ≡ lists
push_pop lists a a2 b w p q r d e f la same ep eq er =
    let whole : set (set lists a p) b q ≡ set lists a p = ap (set (set lists a p) b) eq ∙ set-get_or (set lists a p) b e in
    let top : get_or (set (set lists a p) b q) a2 f ≡ get_or lists a d ++ w ∷ [] = ap (λ (x : ℕ). get_or (set (set lists a p) b q) x f) same ∙ ap (λ (ls : List (List Watch)). get_or ls a f) whole ∙ get_or-set_same lists a p f la ∙ ep in
    let len = length_push (get_or lists a d) w in
    let off : r ≡ get_or lists a d = er ∙ ap (λ (xs : List Watch). take (length xs - 1) xs) top ∙ take_at (get_or lists a d) (w ∷ []) (length (get_or lists a d ++ w ∷ []) - 1) (omega (arith, len)) in
    ap (λ (x : ℕ). set (set (set lists a p) b q) x r) same ∙ ap (λ (ls : List (List Watch)). set ls a r) whole ∙ set-set lists a p r ∙ ap (set lists a) off ∙ set-get_or lists a d

-- a stored clause in the place of another one of the same literals
module _ (clauses stored_clauses : List (List Literal)) (i : ℕ) (new : List Literal) (i_in : i < length stored_clauses) where
  pub stored_clause_new : stored_clause_at (set stored_clauses i new) i ≡ new
  stored_clause_new = get_or-set_same stored_clauses i new [] i_in

  pub stored_clause_other : (j : ℕ) → j ≢ i → stored_clause_at (set stored_clauses i new) j ≡ stored_clause_at stored_clauses j
  stored_clause_other j e = get_or-set_other stored_clauses i j new [] e

  pub same_stored_clauses : (P : ℕ → List Literal → Type 0) → P i new → ((j : ℕ) → P j (stored_clause_at stored_clauses j)) → (j : ℕ) → P j (stored_clause_at (set stored_clauses i new) j)
  same_stored_clauses P here there j =
      elim (cases_eq j i) as (λ _. P j (stored_clause_at (set stored_clauses i new) j)) [
        | inl e ↦ subst (λ (m : ℕ). P m (stored_clause_at (set stored_clauses i new) m)) (sym e) (subst (λ (r : List Literal). P i r) (sym stored_clause_new) here)
        | inr e ↦ subst (λ (r : List Literal). P j r) (sym (stored_clause_other j e)) (there j)
      ]

  pub permuted_set : ((l : Literal) → holds new l ≡ holds (stored_clause_at stored_clauses i) l) → ArePermuted stored_clauses (set stored_clauses i new)
  permuted_set h j l = same_stored_clauses (λ m r. holds r l ≡ holds (stored_clause_at stored_clauses m) l) (h l) (λ m. refl) j

  pub length_set : length new ≡ length (stored_clause_at stored_clauses i) → (j : ℕ) → length (stored_clause_at (set stored_clauses i new) j) ≡ length (stored_clause_at stored_clauses j)
  length_set h j = same_stored_clauses (λ m r. length r ≡ length (stored_clause_at stored_clauses m)) h (λ m. refl) j

  pub stored_clauses_set : AreStored clauses stored_clauses → IsStored (stored_clause_at clauses i) new → AreStored clauses (set stored_clauses i new)
  stored_clauses_set are here = record {
    count = length-set stored_clauses i new ∙ are.count;
    each = λ j lj. same_stored_clauses (λ m r. m < length clauses → IsStored (stored_clause_at clauses m) r) (λ _. here) (λ m lm. are.each m lm) j lj;
  }

  pub short_set : (short : List ℕ) → AreShort stored_clauses short → length new ≡ length (stored_clause_at stored_clauses i) → AreShort (set stored_clauses i new) short
  short_set short are len = record {
    each = λ j lj sj. are.each j (let n = length-set stored_clauses i new in omega (arith, n, lj)) (let e = length_set len j in omega (arith, e, sj));
    only = λ j lj.
        let n = length-set stored_clauses i new in
        let o = are.only j lj in
        let e = length_set len (get_or short j 0) in
        (omega (arith, n, o.0), omega (arith, e, o.1));
  }

-- the lists once a watch has moved from one to another
abbrev pub moved_lists : List (List Watch) → ℕ → Watch → ℕ → ℕ → List (List Watch)
moved_lists lists t v s position = set (set lists t (list_at lists t ++ v ∷ [])) s (swap_remove (list_at lists s) position no_watch)

-- the watch at a position names a literal of its clause
abbrev pub Blocks : List (List Literal) → List Watch → ℕ → Type 0
Blocks stored_clauses xs n = holds (stored_clause_at stored_clauses (watch_at xs n).clause) (watch_at xs n).blocker ≡ true

-- what is asked of a table's lists
pub record Keeps (clauses stored_clauses : List (List Literal)) (lists : List (List Watch)) (short : List ℕ) : Type 0 where
  pub are_stored : AreStored clauses stored_clauses
  pub are_watched : AreWatched stored_clauses lists
  pub have_blockers : HaveBlockers stored_clauses lists
  pub are_short : AreShort stored_clauses short

-- a watch that moves
module _ (stored_clauses : List (List Literal)) (lists : List (List Watch)) (watched : AreWatched stored_clauses lists) (blockers : HaveBlockers stored_clauses lists) (s position first k : ℕ)
    (s_in : s < length lists) (position_in : position < length (list_at lists s)) (first_in : first < 2) (k_low : 2 ≤ k) (ordered : List Literal) (w v : Watch)
    (is_w : watch_at (list_at lists s) position ≡ w) (is_stored : stored_clause_at stored_clauses w.clause ≡ ordered) (k_in : k < length ordered) (is_slot : slot_of (literal_at ordered first) ≡ s)
    (t : ℕ) (is_target : slot_of (literal_at ordered k) ≡ t) (t_in : t < length lists) (apart : t ≢ s) (same_clause : v.clause ≡ w.clause) (blocks : holds ordered v.blocker ≡ true) where
  one_in : first < length ordered
  one_in = omega (arith, first_in, k_low, k_in)

  clause_in : w.clause < length stored_clauses
  clause_in = stored_clause_inside stored_clauses w.clause (let e : length (stored_clause_at stored_clauses w.clause) ≡ length ordered = ap length is_stored in omega (arith, e, k_in))

  at_from : list_at (moved_lists lists t v s position) s ≡ swap_remove (list_at lists s) position no_watch
  at_from = get_or-set_same (set lists t (list_at lists t ++ v ∷ [])) s (swap_remove (list_at lists s) position no_watch) [] (let n = length-set lists t (list_at lists t ++ v ∷ []) in omega (arith, n, s_in))

  at_else : (m : ℕ) → m ≢ s → list_at (moved_lists lists t v s position) m ≡ list_at (set lists t (list_at lists t ++ v ∷ [])) m
  at_else m e = get_or-set_other (set lists t (list_at lists t ++ v ∷ [])) s m (swap_remove (list_at lists s) position no_watch) [] e

  at_to : list_at (set lists t (list_at lists t ++ v ∷ [])) t ≡ list_at lists t ++ v ∷ []
  at_to = get_or-set_same lists t (list_at lists t ++ v ∷ []) [] t_in

  at_rest : (m : ℕ) → m ≢ t → list_at (set lists t (list_at lists t ++ v ∷ [])) m ≡ list_at lists m
  at_rest m e = get_or-set_other lists t m (list_at lists t ++ v ∷ []) [] e

  -- the count of the clause now
  wanted_new : (m : ℕ) → watch_count ordered m + at_slot (literal_at ordered k) m ≡ watch_count (swap ordered first k) m + at_slot (literal_at ordered first) m
  wanted_new m = watch_count_swap ordered first k m first_in k_low k_in

  module _ (j m : ℕ) (lm : m < length lists) where
    abbrev the_list : List Watch
    the_list = list_at (moved_lists lists t v s position) m

    count_from : m ≡ s → count_of j the_list + of_clause j w ≡ count_of j (list_at lists m)
    count_from e =
        ap (λ (q : ℕ). count_of j (list_at (moved_lists lists t v s position) q) + of_clause j w) e
        ∙ ap (λ (xs : List Watch). count_of j xs + of_clause j w) at_from
        ∙ ap (λ (q : Watch). count_of j (swap_remove (list_at lists s) position no_watch) + of_clause j q) (sym is_w)
        ∙ sum_by-swap_remove (λ (q : Watch). cond (eqb q.clause j) 1 0) (list_at lists s) position no_watch position_in
        ∙ ap (λ (q : ℕ). count_of j (list_at lists q)) (sym e)

    count_to : m ≢ s → m ≡ t → count_of j the_list ≡ count_of j (list_at lists m) + of_clause j v
    count_to not_s e =
        ap (count_of j) (at_else m not_s)
        ∙ ap (λ (q : ℕ). count_of j (list_at (set lists t (list_at lists t ++ v ∷ [])) q)) e
        ∙ ap (count_of j) at_to
        ∙ sum_by_push (λ (q : Watch). cond (eqb q.clause j) 1 0) (list_at lists t) v
        ∙ ap (λ (q : ℕ). count_of j (list_at lists q) + of_clause j v) (sym e)

    count_rest : m ≢ s → m ≢ t → count_of j the_list ≡ count_of j (list_at lists m)
    count_rest not_s not_t = ap (count_of j) (at_else m not_s ∙ at_rest m not_t)

    -- the count of a clause whose count changes by these parts
    counted : (old new of_w of_v at_k at_first : ℕ) → count_of j (list_at lists m) ≡ old → of_clause j w ≡ of_w → of_clause j v ≡ of_v → (m ≡ s → old ≡ new + of_w)
        → (m ≢ s → m ≡ t → new ≡ old + of_v) → (m ≢ s → m ≢ t → new ≡ old) → count_of j the_list ≡ new
    counted old new of_w of_v at_k at_first is_old is_w_count is_v_count from to rest =
        elim (cases_eq m s) as (λ _. count_of j the_list ≡ new) [
          | inl e ↦ let a = count_from e in let b = from e in omega (arith, a, b, is_old, is_w_count)
          | inr not_s ↦ elim (cases_eq m t) as (λ _. count_of j the_list ≡ new) [
            | inl e ↦ let a = count_to not_s e in let b = to not_s e in omega (arith, a, b, is_old, is_v_count)
            | inr not_t ↦ count_rest not_s not_t ∙ is_old ∙ sym (rest not_s not_t)
          ]
        ]

    counts : count_of j the_list ≡ watch_count (stored_clause_at (set stored_clauses w.clause (swap ordered first k)) j) m
    counts =
        elim (cases_eq j w.clause) as (λ _. count_of j the_list ≡ watch_count (stored_clause_at (set stored_clauses w.clause (swap ordered first k)) j) m) [
          | inl here ↦
              let want : watch_count (stored_clause_at (set stored_clauses w.clause (swap ordered first k)) j) m
              ≡ watch_count (swap ordered first k) m = ap (λ (r : List Literal). watch_count r m)
              (ap (λ (q : ℕ). stored_clause_at (set stored_clauses w.clause (swap ordered first k)) q) here ∙ get_or-set_same stored_clauses w.clause (swap ordered first k) [] clause_in) in
              let old : count_of j (list_at lists m) ≡ watch_count ordered m = watched j m lm ∙ ap (λ (r : List Literal). watch_count r m) (ap (stored_clause_at stored_clauses) here ∙ is_stored) in
              let wv : of_clause j v ≡ 1 = ap (λ (q : ℕ). of_clause q v) (here ∙ sym same_clause) ∙ of_itself v in
              let ww : of_clause j w ≡ 1 = ap (λ (q : ℕ). of_clause q w) here ∙ of_itself w in
              let sum = wanted_new m in
              counted (watch_count ordered m) (watch_count (swap ordered first k) m) 1 1 0 0 old ww wv
              (λ e. let a = at_other (literal_at ordered k) m (λ h. apart (sym is_target ∙ h ∙ e)) in let b = at_same (literal_at ordered first) m (is_slot ∙ sym e) in omega (arith, sum, a, b))
              (λ ne e. let a = at_same (literal_at ordered k) m (is_target ∙ sym e) in let b = at_other (literal_at ordered first) m (λ h. ne (sym h ∙ is_slot)) in omega (arith, sum, a, b))
              (λ ne nt. let a = at_other (literal_at ordered k) m (λ h. nt (sym h ∙ is_target)) in let b = at_other (literal_at ordered first) m (λ h. ne (sym h ∙ is_slot)) in omega (arith, sum, a, b))
              ∙ sym want
          | inr there ↦
              let want : watch_count (stored_clause_at (set stored_clauses w.clause (swap ordered first k)) j) m
              ≡ watch_count (stored_clause_at stored_clauses j) m = ap (λ (r : List Literal). watch_count r m) (get_or-set_other stored_clauses w.clause j (swap ordered first k) [] there) in
              let wv : of_clause j v ≡ 0 = of_other j v (λ e. there (sym e ∙ same_clause)) in
              let ww : of_clause j w ≡ 0 = of_other j w (λ e. there (sym e)) in
              counted (watch_count (stored_clause_at stored_clauses j) m) (watch_count (stored_clause_at stored_clauses j) m) 0 0 0 0 (watched j m lm) ww wv (λ e. omega arith) (λ ne e. omega arith) (λ ne nt. refl) ∙ sym want
        ]

  permuted : ArePermuted stored_clauses (set stored_clauses w.clause (swap ordered first k))
  permuted = permuted_set stored_clauses stored_clauses w.clause (swap ordered first k) clause_in (λ l. holds-swap ordered first k one_in k_in l ∙ ap (λ (r : List Literal). holds r l) (sym is_stored))

  -- a watch of the new lists is one of the old ones or the new one
  blocked : (m n : ℕ) → m < length lists → n < length (list_at (moved_lists lists t v s position) m)
      → holds (stored_clause_at stored_clauses (watch_at (list_at (moved_lists lists t v s position) m) n).clause) (watch_at (list_at (moved_lists lists t v s position) m) n).blocker ≡ true
  blocked m n lm ln =
      elim (cases_eq m s) as (λ _. Blocks stored_clauses (list_at (moved_lists lists t v s position) m) n) [
        | inl e ↦
            let is : list_at (moved_lists lists t v s position) m ≡ swap_remove (list_at lists s) position no_watch = ap (λ (q : ℕ). list_at (moved_lists lists t v s position) q) e ∙ at_from in
            subst (λ (xs : List Watch). Blocks stored_clauses xs n) (sym is)
            (let r = swap_remove_from (list_at lists s) position n position_in (subst (λ (xs : List Watch). n < length xs) is ln) in
            subst (λ (q : Watch). holds (stored_clause_at stored_clauses q.clause) q.blocker ≡ true) (sym r.2) (blockers s r.0 s_in r.1))
        | inr not_s ↦ elim (cases_eq m t) as (λ _. Blocks stored_clauses (list_at (moved_lists lists t v s position) m) n) [
          | inl e ↦
              let is : list_at (moved_lists lists t v s position) m ≡ list_at lists t ++ v ∷ [] = at_else m not_s ∙ ap (λ (q : ℕ). list_at (set lists t (list_at lists t ++ v ∷ [])) q) e ∙ at_to in
              subst (λ (xs : List Watch). Blocks stored_clauses xs n) (sym is) (pushed (subst (λ (xs : List Watch). n < length xs) is ln))
          | inr not_t ↦
              let is : list_at (moved_lists lists t v s position) m ≡ list_at lists m = at_else m not_s ∙ at_rest m not_t in
              subst (λ (xs : List Watch). Blocks stored_clauses xs n) (sym is) (blockers m n lm (subst (λ (xs : List Watch). n < length xs) is ln))
        ]
      ]
    where
      pushed : n < length (list_at lists t ++ v ∷ []) → holds (stored_clause_at stored_clauses (watch_at (list_at lists t ++ v ∷ []) n).clause) (watch_at (list_at lists t ++ v ∷ []) n).blocker ≡ true
      pushed l =
          let len = length_push (list_at lists t) v in
          elim (cases_eq n (length (list_at lists t))) as (λ _. Blocks stored_clauses (list_at lists t ++ v ∷ []) n) [
            | inl last ↦
                let is : watch_at (list_at lists t ++ v ∷ []) n ≡ v = get_or_push (list_at lists t) v no_watch n (sym last) in
                subst (λ (q : Watch). holds (stored_clause_at stored_clauses q.clause) q.blocker ≡ true) (sym is)
                (subst (λ (r : List Literal). holds r v.blocker ≡ true) (sym (ap (stored_clause_at stored_clauses) same_clause ∙ is_stored)) blocks)
            | inr before ↦
                let low : n < length (list_at lists t) = omega (arith, len, l, before) in
                let is : watch_at (list_at lists t ++ v ∷ []) n ≡ watch_at (list_at lists t) n = get_or_append_left (list_at lists t) (v ∷ []) no_watch n low in
                subst (λ (q : Watch). holds (stored_clause_at stored_clauses q.clause) q.blocker ≡ true) (sym is) (blockers t n t_in low)
          ]

  pub table_moved : (clauses : List (List Literal)) (short : List ℕ) → AreStored clauses stored_clauses → AreShort stored_clauses short
      → Keeps clauses (set stored_clauses w.clause (swap ordered first k)) (moved_lists lists t v s position) short
  table_moved clauses short are_stored are_short =
      let n = length-set lists t (list_at lists t ++ v ∷ []) in
      let n2 = length-set (set lists t (list_at lists t ++ v ∷ [])) s (swap_remove (list_at lists s) position no_watch) in
      let here : w.clause < length clauses = let c = are_stored.count in omega (arith, c, clause_in) in
      let old : IsStored (stored_clause_at clauses w.clause) ordered = subst (λ (r : List Literal). IsStored (stored_clause_at clauses w.clause) r) is_stored (are_stored.each w.clause here) in
      record {
        are_stored = stored_clauses_set clauses stored_clauses w.clause (swap ordered first k) clause_in are_stored (stored_clause_swap (stored_clause_at clauses w.clause) ordered first k one_in k_in old);
        are_watched = λ j m lm. counts j m (omega (arith, n, n2, lm));
        have_blockers = λ m q lm lq. permuted (watch_at (list_at (moved_lists lists t v s position) m) q).clause (watch_at (list_at (moved_lists lists t v s position) m) q).blocker ∙ blocked m q (omega (arith, n, n2, lm)) lq;
        are_short = short_set clauses stored_clauses w.clause (swap ordered first k) clause_in short are_short (length-swap ordered first k ∙ ap length (sym is_stored));
      }
