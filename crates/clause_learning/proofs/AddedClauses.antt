-- Tables: a clause that is added, and a watch that gets another literal of its clause.
use Rattle.std.proofs.Common.{◌≡◌, ◌≢◌, ℕ, ◌+◌, ◌-◌, ◌<◌, ◌≤◌, Bool, true, false, ◌&&◌, cond, List, [], ◌∷◌, ◌++◌, length, get_or, set, eqb, refl, sym, ◌∙◌, ap, subst, inl, inr, arith}
use Rattle.std.proofs.lemmas.List.Folds.{list_all-append}
use Rattle.std.proofs.lemmas.List.{get_or-set_same, get_or-set_other, length-set, get_or_read, get_or_append_left, get_or_push, length_push}
use Rattle.std.proofs.lemmas.List.Sums.{sum_by-set, sum_by_push}
use Rattle.std.proofs.lemmas.Bool.{cases_eq, false≢true, and_parts, and_from}
use Rattle.resolution_proof.specs.declared.literal.Literal.{Literal}
use Rattle.clause_learning.specs.declared.stored_clause.Watch.{Watch}
use Rattle.resolution_proof.specs.Literal.{holds, is_once}
use Rattle.resolution_proof.specs.Clause.{is_among, is_within, is_clause}
use Rattle.resolution_proof.specs.Formula.{are_clauses}
use Rattle.clause_learning.specs.declared.table.Table.{Table}
use Rattle.clause_learning.specs.Table.{IsTable, IsEntered}
use Rattle.clause_learning.specs.Watching.{IsStored, AreStored, AreWatched, HaveBlockers, AreShort, HasSameClauses, count_of, watch_count, added_lists, stored_clause_at, list_at, watch_at, literal_at, no_literal, no_watch, slot_of}
use Rattle.resolution_proof.proofs.Sets.{all_at, among_high}
use Rattle.clause_learning.proofs.Resolution.{cases_le}
use Rattle.clause_learning.proofs.Sound.{all_clauses}
use Rattle.clause_learning.proofs.StoredClauses.{holds_at}
use Rattle.clause_learning.proofs.Tables.{reads_default, slot_same, at_slot, at_same, at_other, watch_count_by, watch_count_short, stored_clause_inside, of_clause, of_itself, of_other, Blocks, Keeps}

-- one stored clause more
module _ (clauses stored_clauses : List (List Literal)) (clause ordered : List Literal) where
  pub same_push : (P : ℕ → List Literal → Type 0) → P (length stored_clauses) ordered → ((j : ℕ) → P j (stored_clause_at stored_clauses j)) → (j : ℕ) → P j (stored_clause_at (stored_clauses ++ ordered ∷ []) j)
  same_push P here there j =
      elim (cases_eq j (length stored_clauses)) as (λ _. P j (stored_clause_at (stored_clauses ++ ordered ∷ []) j)) [
        | inl e ↦ subst (λ (r : List Literal). P j r) (sym (get_or_push stored_clauses ordered [] j (sym e))) (subst (λ (m : ℕ). P m ordered) (sym e) here)
        | inr other ↦ subst (λ (r : List Literal). P j r) (sym (old other)) (there j)
      ]
    where
      old : j ≢ length stored_clauses → stored_clause_at (stored_clauses ++ ordered ∷ []) j ≡ stored_clause_at stored_clauses j
      old other =
          elim (cases_le (length stored_clauses) j) as (λ _. stored_clause_at (stored_clauses ++ ordered ∷ []) j ≡ stored_clause_at stored_clauses j) [
            | inl out ↦ let n = length_push stored_clauses ordered in reads_default (stored_clauses ++ ordered ∷ []) j [] (omega (arith, n, out, other)) ∙ sym (reads_default stored_clauses j [] out)
            | inr within ↦ get_or_append_left stored_clauses (ordered ∷ []) [] j within
          ]

  pub stored_clauses_push : AreStored clauses stored_clauses → IsStored clause ordered → AreStored (clauses ++ clause ∷ []) (stored_clauses ++ ordered ∷ [])
  stored_clauses_push are new = record {
    count = length_push stored_clauses ordered ∙ ap (λ (n : ℕ). n + 1) are.count ∙ sym (length_push clauses clause);
    each = λ i l.
        let n = length_push clauses clause in
        let count = are.count in
        elim (cases_eq i (length clauses)) as (λ _. IsStored (stored_clause_at (clauses ++ clause ∷ []) i) (stored_clause_at (stored_clauses ++ ordered ∷ []) i)) [
          | inl e ↦ rw (get_or_push clauses clause [] i (sym e), get_or_push stored_clauses ordered [] i (sym (e ∙ sym count))) new
          | inr other ↦
              let low : i < length clauses = omega (arith, n, l, other) in
              let low2 : i < length stored_clauses = omega (arith, low, count) in
              rw (get_or_append_left clauses (clause ∷ []) [] i low, get_or_append_left stored_clauses (ordered ∷ []) [] i low2) (are.each i low)
        ];
  }

  stored_clause_old : (i : ℕ) → i < length (stored_clauses ++ ordered ∷ []) → i ≢ length stored_clauses → (i < length stored_clauses) × (stored_clause_at (stored_clauses ++ ordered ∷ []) i ≡ stored_clause_at stored_clauses i)
  stored_clause_old i li other = let n = length_push stored_clauses ordered in let low : i < length stored_clauses = omega (arith, n, li, other) in (low, get_or_append_left stored_clauses (ordered ∷ []) [] i low)

  stored_clause_last : (i : ℕ) → i ≡ length stored_clauses → stored_clause_at (stored_clauses ++ ordered ∷ []) i ≡ ordered
  stored_clause_last i e = get_or_push stored_clauses ordered [] i (sym e)

  only_old : (short : List ℕ) → AreShort stored_clauses short → (j : ℕ) → j < length short → (get_or short j 0 < length (stored_clauses ++ ordered ∷ [])) × (length (stored_clause_at (stored_clauses ++ ordered ∷ []) (get_or short j 0)) < 2)
  only_old short are j lj =
      let o = are.only j lj in
      (let n = length_push stored_clauses ordered in omega (arith, n, o.0), subst (λ (r : List Literal). length r < 2) (sym (get_or_append_left stored_clauses (ordered ∷ []) [] (get_or short j 0) o.0)) o.1)

  pub short_long : (short : List ℕ) → AreShort stored_clauses short → 2 ≤ length ordered → AreShort (stored_clauses ++ ordered ∷ []) short
  short_long short are long = record {
    each = λ i li si. elim (cases_eq i (length stored_clauses)) as (λ _. (j : ℕ) × (j < length short) × (get_or short j 0 ≡ i)) [
      | inl e ↦ let same_len = ap length (stored_clause_last i e) in absurd (omega (arith, same_len, long, si))
      | inr other ↦ let r = stored_clause_old i li other in let same_len = ap length r.1 in are.each i r.0 (omega (arith, same_len, si))
    ];
    only = only_old short are;
  }

  pub short_push : (short : List ℕ) → AreShort stored_clauses short → length ordered < 2 → AreShort (stored_clauses ++ ordered ∷ []) (short ++ length stored_clauses ∷ [])
  short_push short are few = record {
    each = λ i li si. elim (cases_eq i (length stored_clauses)) as (λ _. (j : ℕ) × (j < length (short ++ length stored_clauses ∷ [])) × (get_or (short ++ length stored_clauses ∷ []) j 0 ≡ i)) [
      | inl e ↦ (length short, let n = length_push short (length stored_clauses) in omega (arith, n), get_or_push short (length stored_clauses) 0 (length short) refl ∙ sym e)
      | inr other ↦
          let r = stored_clause_old i li other in
          let same_len = ap length r.1 in
          let old = are.each i r.0 (omega (arith, same_len, si)) in
          (old.0, (let n = length_push short (length stored_clauses) in omega (arith, n, old.1)), get_or_append_left short (length stored_clauses ∷ []) 0 old.0 old.1 ∙ old.2)
    ];
    only = λ j lj. elim (cases_eq j (length short)) as (λ _. (get_or (short ++ length stored_clauses ∷ []) j 0 < length (stored_clauses ++ ordered ∷ []))
        × (length (stored_clause_at (stored_clauses ++ ordered ∷ []) (get_or (short ++ length stored_clauses ∷ []) j 0)) < 2)) [
          | inl e ↦
              let at : get_or (short ++ length stored_clauses ∷ []) j 0 ≡ length stored_clauses = get_or_push short (length stored_clauses) 0 j (sym e) in
              let same_len = ap length (stored_clause_last (length stored_clauses) refl) in
              rw at (let n = length_push stored_clauses ordered in omega (arith, n), omega (arith, same_len, few))
          | inr other ↦
              let low : j < length short = let n = length_push short (length stored_clauses) in omega (arith, n, lj, other) in
              let at : get_or (short ++ length stored_clauses ∷ []) j 0 ≡ get_or short j 0 = get_or_append_left short (length stored_clauses ∷ []) 0 j low in
              rw at (only_old short are j low)
        ];
  }

  module _ (lists : List (List Watch)) (watched : AreWatched stored_clauses lists) (blockers : HaveBlockers stored_clauses lists) where
    -- the count before of the clause after the last
    none_before : (j m : ℕ) → length stored_clauses ≤ j → watch_count (stored_clause_at stored_clauses j) m ≡ 0
    none_before j m out = ap (λ (r : List Literal). watch_count r m) (reads_default stored_clauses j [] out)

    -- a blocker of before is one of now
    still_blocks : (c : ℕ) (l : Literal) → holds (stored_clause_at stored_clauses c) l ≡ true → holds (stored_clause_at (stored_clauses ++ ordered ∷ []) c) l ≡ true
    still_blocks c l h = same_push (λ m r. holds (stored_clause_at stored_clauses m) l ≡ true → holds r l ≡ true)
        (λ t. absurd (false≢true (ap (λ (r : List Literal). holds r l) (sym (reads_default stored_clauses (length stored_clauses) [] (omega arith))) ∙ t))) (λ m t. t) c h

    pub watched_short : length ordered < 2 → AreWatched (stored_clauses ++ ordered ∷ []) lists
    watched_short few j m lm = watched j m lm ∙ same_push (λ i r. watch_count (stored_clause_at stored_clauses i) m ≡ watch_count r m)
        (none_before (length stored_clauses) m (omega arith) ∙ sym (watch_count_short ordered m few)) (λ i. refl) j

    pub blockers_short : HaveBlockers (stored_clauses ++ ordered ∷ []) lists
    blockers_short m n lm ln = still_blocks (watch_at (list_at lists m) n).clause (watch_at (list_at lists m) n).blocker (blockers m n lm ln)

    module _ (long : 2 ≤ length ordered) (a b : ℕ) (is_a : slot_of (literal_at ordered 0) ≡ a) (is_b : slot_of (literal_at ordered 1) ≡ b) (a_in : a < length lists) (b_in : b < length lists) (apart : a ≢ b) where
      abbrev added : List (List Watch)
      added = added_lists lists a b (length stored_clauses) (literal_at ordered 0) (literal_at ordered 1) (eqb (length ordered) 2)

      abbrev watch_a : Watch
      watch_a = record { clause = length stored_clauses; blocker = literal_at ordered 1; is_binary = eqb (length ordered) 2 }

      abbrev watch_b : Watch
      watch_b = record { clause = length stored_clauses; blocker = literal_at ordered 0; is_binary = eqb (length ordered) 2 }

      at_b : (m : ℕ) → m ≡ b → list_at added m ≡ list_at lists b ++ watch_b ∷ []
      at_b m e =
          ap (list_at added) e
          ∙ get_or-set_same (set lists a (list_at lists a ++ watch_a ∷ [])) b (list_at lists b ++ watch_b ∷ []) [] (let n = length-set lists a (list_at lists a ++ watch_a ∷ []) in omega (arith, n, b_in))

      not_b : (m : ℕ) → m ≢ b → list_at added m ≡ list_at (set lists a (list_at lists a ++ watch_a ∷ [])) m
      not_b m ne = get_or-set_other (set lists a (list_at lists a ++ watch_a ∷ [])) b m (list_at lists b ++ watch_b ∷ []) [] ne

      at_a : (m : ℕ) → m ≢ b → m ≡ a → list_at added m ≡ list_at lists a ++ watch_a ∷ []
      at_a m ne e = not_b m ne ∙ ap (list_at (set lists a (list_at lists a ++ watch_a ∷ []))) e ∙ get_or-set_same lists a (list_at lists a ++ watch_a ∷ []) [] a_in

      at_neither : (m : ℕ) → m ≢ b → m ≢ a → list_at added m ≡ list_at lists m
      at_neither m nb na = not_b m nb ∙ get_or-set_other lists a m (list_at lists a ++ watch_a ∷ []) [] na

      -- the count in each list, by what a watch of the clause adds
      count_added : (j m z new : ℕ) → of_clause j watch_a ≡ z → (m ≡ b → new ≡ count_of j (list_at lists b) + z) → (m ≢ b → m ≡ a → new ≡ count_of j (list_at lists a) + z)
          → (m ≢ b → m ≢ a → new ≡ count_of j (list_at lists m)) → count_of j (list_at added m) ≡ new
      count_added j m z new is_z in_b in_a rest =
          elim (cases_eq m b) as (λ _. count_of j (list_at added m) ≡ new) [
            | inl e ↦
                let c = sum_by_push (λ (q : Watch). cond (eqb q.clause j) 1 0) (list_at lists b) watch_b in
                let n = in_b e in
                let whole : count_of j (list_at added m) ≡ count_of j (list_at lists b ++ watch_b ∷ []) = ap (count_of j) (at_b m e) in
                let one : of_clause j watch_b ≡ z = is_z in
                whole ∙ c ∙ ap (λ (q : ℕ). count_of j (list_at lists b) + q) one ∙ sym n
            | inr nb ↦ elim (cases_eq m a) as (λ _. count_of j (list_at added m) ≡ new) [
              | inl e ↦
                  let c = sum_by_push (λ (q : Watch). cond (eqb q.clause j) 1 0) (list_at lists a) watch_a in
                  let n = in_a nb e in
                  let whole : count_of j (list_at added m) ≡ count_of j (list_at lists a ++ watch_a ∷ []) = ap (count_of j) (at_a m nb e) in
                  whole ∙ c ∙ ap (λ (q : ℕ). count_of j (list_at lists a) + q) is_z ∙ sym n
              | inr na ↦ ap (count_of j) (at_neither m nb na) ∙ sym (rest nb na)
            ]
          ]

      none_now : (m : ℕ) → m < length lists → (j : ℕ) → j ≡ length stored_clauses → count_of j (list_at lists m) ≡ 0
      none_now m lm j e = watched j m lm ∙ none_before j m (omega (arith, e))

      pub watched_long : AreWatched (stored_clauses ++ ordered ∷ []) (added_lists lists a b (length stored_clauses) (literal_at ordered 0) (literal_at ordered 1) (eqb (length ordered) 2))
      watched_long j m lm =
          let lm0 : m < length lists =
          let n = length-set lists a (list_at lists a ++ watch_a ∷ []) in
          let n2 = length-set (set lists a (list_at lists a ++ watch_a ∷ [])) b (list_at lists b ++ watch_b ∷ []) in
          omega (arith, lm, n, n2) in
          elim (cases_eq j (length stored_clauses)) as (λ _. count_of j (list_at added m) ≡ watch_count (stored_clause_at (stored_clauses ++ ordered ∷ []) j) m) [
            | inl e ↦
                let want : watch_count (stored_clause_at (stored_clauses ++ ordered ∷ []) j) m
                ≡ at_slot (literal_at ordered 0) m + at_slot (literal_at ordered 1) m = ap (λ (r : List Literal). watch_count r m) (stored_clause_last j e) ∙ watch_count_by ordered m long in
                let z : of_clause j watch_a ≡ 1 = ap (λ (q : ℕ). of_clause q watch_a) e ∙ of_itself watch_a in
                count_added j m 1 (watch_count (stored_clause_at (stored_clauses ++ ordered ∷ []) j) m) z
                (λ eb. let p = at_other (literal_at ordered 0) m (λ h. apart (sym is_a ∙ h ∙ eb)) in let q = at_same (literal_at ordered 1) m (is_b ∙ sym eb) in let o = none_now b b_in j e in omega (arith, want, p, q, o))
                (λ nb ea. let p = at_same (literal_at ordered 0) m (is_a ∙ sym ea) in let q = at_other (literal_at ordered 1) m (λ h. nb (sym h ∙ is_b)) in let o = none_now a a_in j e in omega (arith, want, p, q, o))
                (λ nb na. let p = at_other (literal_at ordered 0) m (λ h. na (sym h ∙ is_a)) in let q = at_other (literal_at ordered 1) m (λ h. nb (sym h ∙ is_b)) in let o = none_now m lm0 j e in omega (arith, want, p, q, o))
            | inr other ↦
                let want : watch_count (stored_clause_at stored_clauses j) m ≡ watch_count (stored_clause_at (stored_clauses ++ ordered ∷ []) j) m = same_push
                (λ i r. i ≢ length stored_clauses → watch_count (stored_clause_at stored_clauses i) m ≡ watch_count r m) (λ ne. absurd (ne refl)) (λ i ne. refl) j other in
                let z : of_clause j watch_a ≡ 0 = of_other j watch_a (λ h. other (sym h)) in
                let old = watched j m lm0 in
                count_added j m 0 (watch_count (stored_clause_at (stored_clauses ++ ordered ∷ []) j) m) z
                (λ eb. let o = ap (λ (q : ℕ). count_of j (list_at lists q)) eb in omega (arith, want, old, o))
                (λ nb ea. let o = ap (λ (q : ℕ). count_of j (list_at lists q)) ea in omega (arith, want, old, o))
                (λ nb na. omega (arith, want, old))
          ]

      pushed_blocks : (xs : List Watch) (v : Watch) (n : ℕ) → ((q : ℕ) → q < length xs → Blocks (stored_clauses ++ ordered ∷ []) xs q)
          → holds (stored_clause_at (stored_clauses ++ ordered ∷ []) v.clause) v.blocker ≡ true → n < length (xs ++ v ∷ []) → Blocks (stored_clauses ++ ordered ∷ []) (xs ++ v ∷ []) n
      pushed_blocks xs v n old new ln =
          elim (cases_eq n (length xs)) as (λ _. Blocks (stored_clauses ++ ordered ∷ []) (xs ++ v ∷ []) n) [
            | inl last ↦ subst (λ (q : Watch). holds (stored_clause_at (stored_clauses ++ ordered ∷ []) q.clause) q.blocker ≡ true) (sym (get_or_push xs v no_watch n (sym last))) new
            | inr before ↦
                let low : n < length xs = let c = length_push xs v in omega (arith, c, ln, before) in
                subst (λ (q : Watch). holds (stored_clause_at (stored_clauses ++ ordered ∷ []) q.clause) q.blocker ≡ true) (sym (get_or_append_left xs (v ∷ []) no_watch n low)) (old n low)
          ]

      old_blocks : (m : ℕ) → m < length lists → (q : ℕ) → q < length (list_at lists m) → Blocks (stored_clauses ++ ordered ∷ []) (list_at lists m) q
      old_blocks m lm q lq = still_blocks (watch_at (list_at lists m) q).clause (watch_at (list_at lists m) q).blocker (blockers m q lm lq)

      new_blocks : (k : ℕ) → k < 2 → holds (stored_clause_at (stored_clauses ++ ordered ∷ []) (length stored_clauses)) (literal_at ordered k) ≡ true
      new_blocks k lk = subst (λ (r : List Literal). holds r (literal_at ordered k) ≡ true) (sym (stored_clause_last (length stored_clauses) refl)) (holds_at ordered k (omega (arith, lk, long)))

      pub blockers_long : HaveBlockers (stored_clauses ++ ordered ∷ []) (added_lists lists a b (length stored_clauses) (literal_at ordered 0) (literal_at ordered 1) (eqb (length ordered) 2))
      blockers_long m n lm ln =
          let lm0 : m < length lists =
          let c = length-set lists a (list_at lists a ++ watch_a ∷ []) in
          let c2 = length-set (set lists a (list_at lists a ++ watch_a ∷ [])) b (list_at lists b ++ watch_b ∷ []) in
          omega (arith, lm, c, c2) in
          elim (cases_eq m b) as (λ _. Blocks (stored_clauses ++ ordered ∷ []) (list_at added m) n) [
            | inl e ↦
                let is = at_b m e in
                subst (λ (xs : List Watch). Blocks (stored_clauses ++ ordered ∷ []) xs n) (sym is)
                (pushed_blocks (list_at lists b) watch_b n (old_blocks b b_in) (new_blocks 0 (omega arith)) (subst (λ (xs : List Watch). n < length xs) is ln))
            | inr nb ↦ elim (cases_eq m a) as (λ _. Blocks (stored_clauses ++ ordered ∷ []) (list_at added m) n) [
              | inl e ↦
                  let is = at_a m nb e in
                  subst (λ (xs : List Watch). Blocks (stored_clauses ++ ordered ∷ []) xs n) (sym is)
                  (pushed_blocks (list_at lists a) watch_a n (old_blocks a a_in) (new_blocks 1 (omega arith)) (subst (λ (xs : List Watch). n < length xs) is ln))
              | inr na ↦
                  let is = at_neither m nb na in
                  subst (λ (xs : List Watch). Blocks (stored_clauses ++ ordered ∷ []) xs n) (sym is) (old_blocks m lm0 n (subst (λ (xs : List Watch). n < length xs) is ln))
            ]
          ]

pub bit_small : (b : Bool) → cond b 1 0 ≤ 1
bit_small true = omega arith
bit_small false = omega arith

module _ (t : Table) (table : IsTable t) where
  -- a literal of a stored clause is of one of the variables
  pub among_stored_clause : (i : ℕ) (l : Literal) → holds (stored_clause_at t.stored_clauses.items i) l ≡ true → is_among t.variables l ≡ true
  among_stored_clause i l h =
      elim (cases_le (length t.stored_clauses.items) i) as (λ _. is_among t.variables l ≡ true) [
        | inl out ↦ absurd (false≢true (ap (λ (r : List Literal). holds r l) (sym (reads_default t.stored_clauses.items i [] out)) ∙ h))
        | inr within ↦
            let low : i < length t.clauses.items = let c = table.stored_clauses.count in omega (arith, c, within) in
            let clause = all_clauses (is_clause t.variables) refl t.clauses.items i table.clauses in
            all_at (is_among t.variables) (stored_clause_at t.clauses.items i) l (and_parts (is_once (stored_clause_at t.clauses.items i))
            (is_within t.variables (stored_clause_at t.clauses.items i)) clause).1 (sym ((table.stored_clauses.each i low).same l) ∙ h)
      ]

  pub slot_in : (i k : ℕ) → k < length (stored_clause_at t.stored_clauses.items i) → slot_of (literal_at (stored_clause_at t.stored_clauses.items i) k) < length t.lists.items
  slot_in i k l =
      let x = literal_at (stored_clause_at t.stored_clauses.items i) k in
      let high = among_high t.variables x (among_stored_clause i x (holds_at (stored_clause_at t.stored_clauses.items i) k l)) in
      let n = table.slots in
      let bit : cond x.positive 1 0 ≤ 1 = bit_small x.positive in
      omega (arith, high, n, bit)

  -- different literals of a stored clause have different lists
  pub slots_apart : (i j k : ℕ) → i < length t.stored_clauses.items → j < length (stored_clause_at t.stored_clauses.items i) → k < length (stored_clause_at t.stored_clauses.items i) → j ≢ k
      → slot_of (literal_at (stored_clause_at t.stored_clauses.items i) j) ≢ slot_of (literal_at (stored_clause_at t.stored_clauses.items i) k)
  slots_apart i j k li lj lk ne e =
      let low : i < length t.clauses.items = let c = table.stored_clauses.count in omega (arith, c, li) in
      ne ((table.stored_clauses.each i low).apart j k lj lk (ap (λ (l : Literal). l.variable) (slot_same (literal_at (stored_clause_at t.stored_clauses.items i) j) (literal_at (stored_clause_at t.stored_clauses.items i) k) e)))

-- what a read of a watch and of its stored clause gives
pub record Reads (t : Table) (slot position k : ℕ) (w : Watch) (ordered : List Literal) (u : Literal) : Type 0 where
  pub is_w : watch_at (list_at t.lists.items slot) position ≡ w
  pub is_stored : stored_clause_at t.stored_clauses.items w.clause ≡ ordered
  pub clause_in : w.clause < length t.stored_clauses.items
  pub inside : k < length ordered
  pub is_u : literal_at ordered k ≡ u

pub reads : (t : Table) (slot position k : ℕ) (w : Watch) (xs : List Watch) (ordered again : List Literal) (u : Literal) → slot < length t.lists.items → w ≡ watch_at xs position → xs
    ≡ get_or t.lists.items slot xs → ordered ≡ again → again ≡ get_or t.stored_clauses.items w.clause again
    → k < length (stored_clause_at t.stored_clauses.items (watch_at (list_at t.lists.items slot) position).clause) → u ≡ get_or ordered k u → Reads t slot position k w ordered u
reads t slot position k w xs ordered again u ls ew exs erow eagain inside eu =
    let is_list : xs ≡ list_at t.lists.items slot = get_or_read t.lists.items slot xs ls exs [] in
    let is_w : watch_at (list_at t.lists.items slot) position ≡ w = ap (λ (l : List Watch). watch_at l position) (sym is_list) ∙ sym ew in
    let low : k < length (stored_clause_at t.stored_clauses.items w.clause) = subst (λ (v : Watch). k < length (stored_clause_at t.stored_clauses.items v.clause)) is_w inside in
    let clause_in = stored_clause_inside t.stored_clauses.items w.clause (omega (arith, low)) in
    let is_stored : stored_clause_at t.stored_clauses.items w.clause ≡ ordered = sym (get_or_read t.stored_clauses.items w.clause again clause_in eagain []) ∙ sym erow in
    let k_in : k < length ordered = subst (λ (r : List Literal). k < length r) is_stored low in
    record { is_w = is_w; is_stored = is_stored; clause_in = clause_in; inside = k_in; is_u = sym (get_or_read ordered k u k_in eu no_literal) }

module _ (t : Table) (table : IsTable t) (clause ordered : List Literal) (is_clause_of : is_clause t.variables clause ≡ true) (is_stored : IsStored clause ordered) where
  pub slots_of_stored_clause : (k : ℕ) → k < length ordered → slot_of (literal_at ordered k) < length t.lists.items
  slots_of_stored_clause k l =
      let x = literal_at ordered k in
      let among = all_at (is_among t.variables) clause x (and_parts (is_once clause) (is_within t.variables clause) is_clause_of).1 (sym (is_stored.same x) ∙ holds_at ordered k l) in
      let high = among_high t.variables x among in
      let n = table.slots in
      let bit = bit_small x.positive in
      omega (arith, high, n, bit)

  pub stored_clause_slots_apart : 2 ≤ length ordered → slot_of (literal_at ordered 0) ≢ slot_of (literal_at ordered 1)
  stored_clause_slots_apart long e =
      let one = is_stored.apart 0 1 (omega (arith, long)) (omega (arith, long)) (ap (λ (l : Literal). l.variable) (slot_same (literal_at ordered 0) (literal_at ordered 1) e)) in
      omega (arith, one)

  -- the table with the clause is one again
  pub table_added : (lists : List (List Watch)) (short : List ℕ) → IsEntered t.lists.items lists t.short.items short (length t.stored_clauses.items) ordered
      → Keeps (t.clauses.items ++ clause ∷ []) (t.stored_clauses.items ++ ordered ∷ []) lists short
  table_added lists short entered =
      elim (cases_le 2 (length ordered)) as (λ _. Keeps (t.clauses.items ++ clause ∷ []) (t.stored_clauses.items ++ ordered ∷ []) lists short) [
        | inl long ↦
            let e = entered.watched long in
            let a = slot_of (literal_at ordered 0) in
            let b = slot_of (literal_at ordered 1) in
            let a_in = slots_of_stored_clause 0 (omega (arith, long)) in
            let b_in = slots_of_stored_clause 1 (omega (arith, long)) in
            record {
              are_stored = stored_clauses_push t.clauses.items t.stored_clauses.items clause ordered table.stored_clauses is_stored;
              are_watched = subst (λ (ls : List (List Watch)). AreWatched (t.stored_clauses.items ++ ordered ∷ []) ls) (sym e.0)
                  (watched_long t.clauses.items t.stored_clauses.items clause ordered t.lists.items table.watched table.blockers long a b refl refl a_in b_in (stored_clause_slots_apart long));
              have_blockers = subst (λ (ls : List (List Watch)). HaveBlockers (t.stored_clauses.items ++ ordered ∷ []) ls) (sym e.0)
                  (blockers_long t.clauses.items t.stored_clauses.items clause ordered t.lists.items table.watched table.blockers long a b refl refl a_in b_in (stored_clause_slots_apart long));
              are_short = subst (λ (s : List ℕ). AreShort (t.stored_clauses.items ++ ordered ∷ []) s) (sym e.1) (short_long t.clauses.items t.stored_clauses.items clause ordered t.short.items table.short long);
            }
        | inr few ↦
            let e = entered.listed few in
            record {
              are_stored = stored_clauses_push t.clauses.items t.stored_clauses.items clause ordered table.stored_clauses is_stored;
              are_watched = subst (λ (ls : List (List Watch)). AreWatched (t.stored_clauses.items ++ ordered ∷ []) ls) (sym e.0)
                  (watched_short t.clauses.items t.stored_clauses.items clause ordered t.lists.items table.watched table.blockers few);
              have_blockers = subst (λ (ls : List (List Watch)). HaveBlockers (t.stored_clauses.items ++ ordered ∷ []) ls) (sym e.0)
                  (blockers_short t.clauses.items t.stored_clauses.items clause ordered t.lists.items table.watched table.blockers);
              are_short = subst (λ (s : List ℕ). AreShort (t.stored_clauses.items ++ ordered ∷ []) s) (sym e.1) (short_push t.clauses.items t.stored_clauses.items clause ordered t.short.items table.short few);
            }
      ]

  pub clauses_added : are_clauses t.variables (t.clauses.items ++ clause ∷ []) ≡ true
  clauses_added = list_all-append (is_clause t.variables) t.clauses.items (clause ∷ []) ∙ and_from (are_clauses t.variables t.clauses.items) (is_clause t.variables clause && true) table.clauses
      (and_from (is_clause t.variables clause) true is_clause_of refl)

  pub lists_added : (lists : List (List Watch)) (short : List ℕ) → IsEntered t.lists.items lists t.short.items short (length t.stored_clauses.items) ordered → length lists ≡ length t.lists.items
  lists_added lists short entered =
      elim (cases_le 2 (length ordered)) as (λ _. length lists ≡ length t.lists.items) [
        | inl long ↦
            let x = literal_at ordered 0 in
            let y = literal_at ordered 1 in
            let xs = list_at t.lists.items (slot_of x) ++ record { clause = length t.stored_clauses.items; blocker = y; is_binary = eqb (length ordered) 2 } ∷ [] in
            ap length (entered.watched long).0 ∙ length-set (set t.lists.items (slot_of x) xs) (slot_of y)
            (list_at t.lists.items (slot_of y) ++ record { clause = length t.stored_clauses.items; blocker = x; is_binary = eqb (length ordered) 2 } ∷ []) ∙ length-set t.lists.items (slot_of x) xs
        | inr few ↦ ap length (entered.listed few).0
      ]

  pub short_added : (lists : List (List Watch)) (short : List ℕ) → IsEntered t.lists.items lists t.short.items short (length t.stored_clauses.items) ordered → (length t.short.items ≤ length short)
      × ((j : ℕ) → j < length t.short.items → get_or short j 0 ≡ get_or t.short.items j 0)
  short_added lists short entered =
      elim (cases_le 2 (length ordered)) as (λ _. (length t.short.items ≤ length short) × ((j : ℕ) → j < length t.short.items → get_or short j 0 ≡ get_or t.short.items j 0)) [
        | inl long ↦
            let e = (entered.watched long).1 in
            let n = ap length e in
            (omega (arith, n), λ j lj. ap (λ (s : List ℕ). get_or s j 0) e)
        | inr few ↦
            let e = (entered.listed few).1 in
            let n = ap length e in
            let m = length_push t.short.items (length t.stored_clauses.items) in
            (omega (arith, n, m), λ j lj. ap (λ (s : List ℕ). get_or s j 0) e ∙ get_or_append_left t.short.items (length t.stored_clauses.items ∷ []) 0 j lj)
      ]

pub list_inside : (lists : List (List Watch)) (s k : ℕ) → k < length (list_at lists s) → s < length lists
list_inside lists s k h =
    elim (cases_le (length lists) s) as (λ _. s < length lists) [
      | inl out ↦ let e : length (list_at lists s) ≡ 0 = ap length (reads_default lists s [] out) in absurd (omega (arith, h, e))
      | inr within ↦ within
    ]

same_of : (j : ℕ) (a b : Watch) → a.clause ≡ b.clause → of_clause j a ≡ of_clause j b
same_of j a b e = rw e refl

-- a watch gets another literal of its clause
module _ (stored_clauses : List (List Literal)) (lists : List (List Watch)) (slot position : ℕ) (w : Watch) (low : slot < length lists) (inside : position < length (list_at lists slot))
    (same : w.clause ≡ (watch_at (list_at lists slot) position).clause) (blocks : holds (stored_clause_at stored_clauses w.clause) w.blocker ≡ true) where
  abbrev refreshed : List Watch
  refreshed = set (list_at lists slot) position w

  pub refreshed_same : HasSameClauses (list_at lists slot) (set (list_at lists slot) position w)
  refreshed_same = record {
    len = length-set (list_at lists slot) position w;
    same = λ k. elim (cases_eq k position) as (λ _. (watch_at (set (list_at lists slot) position w) k).clause ≡ (watch_at (list_at lists slot) k).clause) [
      | inl e ↦ ap (λ (n : ℕ). (watch_at (set (list_at lists slot) position w) n).clause) e ∙ ap (λ (x : Watch). x.clause) (get_or-set_same (list_at lists slot) position w no_watch inside) ∙ same
          ∙ ap (λ (n : ℕ). (watch_at (list_at lists slot) n).clause) (sym e)
      | inr ne ↦ ap (λ (x : Watch). x.clause) (get_or-set_other (list_at lists slot) position k w no_watch ne)
    ];
  }

  at_list : (m : ℕ) → m ≡ slot → list_at (set lists slot (set (list_at lists slot) position w)) m ≡ set (list_at lists slot) position w
  at_list m e = ap (list_at (set lists slot (set (list_at lists slot) position w))) e ∙ get_or-set_same lists slot (set (list_at lists slot) position w) [] low

  off_list : (m : ℕ) → m ≢ slot → list_at (set lists slot (set (list_at lists slot) position w)) m ≡ list_at lists m
  off_list m ne = get_or-set_other lists slot m (set (list_at lists slot) position w) [] ne

  pub refreshed_watched : AreWatched stored_clauses lists → AreWatched stored_clauses (set lists slot (set (list_at lists slot) position w))
  refreshed_watched watched j m lm =
      let lm0 : m < length lists = let n = length-set lists slot (set (list_at lists slot) position w) in omega (arith, n, lm) in
      elim (cases_eq m slot) as (λ _. count_of j (list_at (set lists slot (set (list_at lists slot) position w)) m) ≡ watch_count (stored_clause_at stored_clauses j) m) [
        | inl e ↦
            let whole : count_of j (list_at (set lists slot (set (list_at lists slot) position w)) m) ≡ count_of j (set (list_at lists slot) position w) = ap (count_of j) (at_list m e) in
            let change = sum_by-set (λ (q : Watch). cond (eqb q.clause j) 1 0) (list_at lists slot) position w no_watch inside in
            let part = same_of j w (watch_at (list_at lists slot) position) same in
            let old : count_of j (list_at lists slot) ≡ watch_count (stored_clause_at stored_clauses j) m = ap (λ (n : ℕ). count_of j (list_at lists n)) (sym e) ∙ watched j m lm0 in
            omega (arith, whole, change, part, old)
        | inr ne ↦ ap (count_of j) (off_list m ne) ∙ watched j m lm0
      ]

  pub refreshed_blockers : HaveBlockers stored_clauses lists → HaveBlockers stored_clauses (set lists slot (set (list_at lists slot) position w))
  refreshed_blockers blockers m n lm ln =
      let lm0 : m < length lists = let c = length-set lists slot (set (list_at lists slot) position w) in omega (arith, c, lm) in
      elim (cases_eq m slot) as (λ _. Blocks stored_clauses (list_at (set lists slot (set (list_at lists slot) position w)) m) n) [
        | inl e ↦
            let ln2 = subst (λ (xs : List Watch). n < length xs) (at_list m e) ln in
            subst (λ (xs : List Watch). Blocks stored_clauses xs n) (sym (at_list m e)) (elim (cases_eq n position) as (λ _. Blocks stored_clauses (set (list_at lists slot) position w) n) [
              | inl here ↦ subst (λ (q : Watch). holds (stored_clause_at stored_clauses q.clause) q.blocker ≡ true)
                  (sym (ap (watch_at (set (list_at lists slot) position w)) here ∙ get_or-set_same (list_at lists slot) position w no_watch inside)) blocks
              | inr there ↦ subst (λ (q : Watch). holds (stored_clause_at stored_clauses q.clause) q.blocker ≡ true) (sym (get_or-set_other (list_at lists slot) position n w no_watch there))
                  (blockers slot n low (let c = length-set (list_at lists slot) position w in omega (arith, c, ln2)))
            ])
        | inr ne ↦ subst (λ (xs : List Watch). Blocks stored_clauses xs n) (sym (off_list m ne)) (blockers m n lm0 (subst (λ (xs : List Watch). n < length xs) (off_list m ne) ln))
      ]
