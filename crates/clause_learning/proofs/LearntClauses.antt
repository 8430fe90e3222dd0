-- The learnt clause of a conflict: it is fresh, and a trail that stays sound with it.
use Rattle.std.proofs.Common.{◌≡◌, ℕ, zero, suc, ◌+◌, ◌-◌, ◌<◌, ◌≤◌, Bool, true, false, not, ◌&&◌, ◌||◌, cond, List, [], ◌∷◌, ◌++◌, length, take, drop, map, eqb, leb, refl, sym, ◌∙◌, ap, subst, inl}
use Rattle.std.proofs.Common.{inr, ◌⊎◌, arith, Option, Some, None, MatchOption, is_some, IsNone}
use Rattle.std.proofs.Math.Bool.{beq}
use Rattle.std.specs.List.{list_any, filter}
use Rattle.std.proofs.lemmas.List.{get_or-take, length-take, length-take-le, length-drop, get_or-drop, take-take, get_or_append_left, length_push}
use Rattle.std.proofs.lemmas.List.Folds.{list_all-append}
use Rattle.std.proofs.lemmas.Bool.{and_parts, and_from, or_cases, or_left, or_right, true≢false, false≢true, both_ways, not_from_false, not-true, false_from_ne_true, leb-true, le-leb}
use Rattle.resolution_proof.specs.declared.literal.Literal.{Literal}
use Rattle.resolution_proof.specs.declared.log.Hint.{Hint}
use Rattle.clause_learning.specs.declared.trail.Entry.{Entry}
use Rattle.resolution_proof.specs.Literal.{negation, same, holds, mentions, is_once}
use Rattle.resolution_proof.specs.Clause.{is_among, is_within, is_subset, is_same_set}
use Rattle.resolution_proof.specs.Replay.{clause_at, names_chain, chain_of, derives}
use Rattle.resolution_proof.specs.Fresh.{is_free, count_free, is_closed, is_closed_at, IsFresh, is_empty}
use Rattle.clause_learning.specs.Trail.{literals, entry_at, no_entry, AreApart, IsSound, Implies, NoDecision}
use Rattle.clause_learning.specs.Learning.{is_seen, is_seen_entry, count_seen}
use Rattle.clause_learning.specs.Gathering.{IsFinished}
use Rattle.clause_learning.specs.Resolving.{IsResolving, IsLearntClause}
use Rattle.clause_learning.specs.Watching.{literal_at}
use Rattle.resolution_proof.proofs.Sets.{same-true, same-refl, negation-negation, all_at, all_from, mentions_from, holds_from_mentions}
use Rattle.clause_learning.proofs.Entries.{variable_at, holds_entry, entry_of_holds, mentions_entry}
use Rattle.clause_learning.proofs.Sound.{sound_take}
use Rattle.clause_learning.proofs.Marking.{apart_once, count_seen-pos}
use Rattle.clause_learning.proofs.Resolution.{holds_take, cases_le}

once_take : (n : ℕ) (es : List Entry) → is_once (literals es) ≡ true → is_once (literals (take n es)) ≡ true
once_take zero es h = refl
once_take (suc n) [] h = refl
once_take (suc n) (e ∷ es) h =
    let parts = and_parts (not (mentions (literals es) e.literal.variable)) (is_once (literals es)) h in
    let absent = not-true (mentions (literals es) e.literal.variable) parts.0 in
    and_from (not (mentions (literals (take n es)) e.literal.variable)) (is_once (literals (take n es)))
    (not_from_false (mentions (literals (take n es)) e.literal.variable) (false_from_ne_true (mentions (literals (take n es)) e.literal.variable) (λ m.
    let l = holds_from_mentions (literals (take n es)) e.literal.variable m in
    let k = holds_take es n l.0 l.1 in
    both_ways (mentions (literals es) e.literal.variable) absent (subst (λ (v : ℕ). mentions (literals es) v ≡ true) (ap (λ (x : Literal). x.variable) k.3 ∙ l.2) (mentions_entry es k.0 k.2)))))
    (once_take n es parts.1)

-- an entry before a position is true there
pub holds_before : (es : List Entry) (n k : ℕ) → k < n → k < length es → holds (literals (take n es)) (entry_at es k).literal ≡ true
holds_before es n k below inside =
    let len = length-take n es in
    let short : k < length (take n es) = omega (arith, len, below, inside) in
    subst (λ (e : Entry). holds (literals (take n es)) e.literal ≡ true) (get_or-take n es k no_entry below) (holds_entry (take n es) k short)

-- an entry from a position on is free before it
pub free_before : (variables : ℕ) (es : List Entry) (n k : ℕ) → AreApart variables es → n ≤ k → k < length es → mentions (literals (take n es)) (variable_at es k) ≡ false
free_before variables es n k apart above inside = false_from_ne_true (mentions (literals (take n es)) (variable_at es k)) (λ m.
    let l = holds_from_mentions (literals (take n es)) (variable_at es k) m in
    let j = holds_take es n l.0 l.1 in
    let one : j.0 ≡ k = apart.apart j.0 k j.2 inside (ap (λ (x : Literal). x.variable) j.3 ∙ l.2) in
    omega (arith, one, j.1, above))

count_zero : (seen : List Bool) (es : List Entry) → count_seen seen es ≡ 0 → (j : ℕ) → j < length es → is_seen_entry seen (entry_at es j) ≡ true → ⊥
count_zero seen es z j l h = let p = count_seen-pos seen es j l h in omega (arith, p, z)

-- where one entry is marked, it is the only one
pub record OnlySeen (seen : List Bool) (es : List Entry) : Type 0 where
  pub position : ℕ
  pub inside : position < length es
  pub marked : is_seen_entry seen (entry_at es position) ≡ true
  pub only : (j : ℕ) → j < length es → is_seen_entry seen (entry_at es j) ≡ true → j ≡ position

only_seen : (seen : List Bool) (es : List Entry) → count_seen seen es ≡ 1 → OnlySeen seen es
only_seen seen [] h = absurd (omega (arith, h))
only_seen seen (e ∷ es) h = go (is_seen_entry seen e) refl h (λ one. only_seen seen es one)
  where
    go : (b : Bool) → is_seen_entry seen e ≡ b → cond b 1 0 + count_seen seen es ≡ 1 → (count_seen seen es ≡ 1 → OnlySeen seen es) → OnlySeen seen (e ∷ es)
    go true p c ih =
        let none : count_seen seen es ≡ 0 = omega (arith, c) in
        record { position = zero; inside = omega arith; marked = p; only = λ j l s. first j l s none }
      where
        first : (j : ℕ) → j < length (e ∷ es) → is_seen_entry seen (entry_at (e ∷ es) j) ≡ true → count_seen seen es ≡ 0 → j ≡ zero
        first zero l s none = refl
        first (suc j) l s none = absurd (count_zero seen es none j (omega (arith, l)) s)
    go false p c ih =
        let r = ih (omega (arith, c)) in
        record { position = suc r.position; inside = omega (arith, r.inside); marked = r.marked; only = λ j l s. later j l s r }
      where
        later : (j : ℕ) → j < length (e ∷ es) → is_seen_entry seen (entry_at (e ∷ es) j) ≡ true → (r : OnlySeen seen es) → j ≡ suc r.position
        later zero l s r = absurd (both_ways (is_seen_entry seen e) p s)
        later (suc j) l s r = ap suc (r.only j (omega (arith, l)) s)

-- two marked entries from the floor on are one, where one is counted there
pub one_marked : (seen : List Bool) (es : List Entry) (floor j k : ℕ) → count_seen seen (drop floor es) ≡ 1 → floor ≤ j → j < length es → is_seen_entry seen (entry_at es j) ≡ true → floor ≤ k → k < length es
    → is_seen_entry seen (entry_at es k) ≡ true → j ≡ k
one_marked seen es floor j k one j_low j_in j_marked k_low k_in k_marked =
    let top = only_seen seen (drop floor es) one in
    let a = at_top j j_low j_in j_marked in
    let b = at_top k k_low k_in k_marked in
    omega (arith, a, b, j_low, k_low)
  where
    at_top : (i : ℕ) → floor ≤ i → i < length es → is_seen_entry seen (entry_at es i) ≡ true → i - floor ≡ (only_seen seen (drop floor es) one).position
    at_top i up inside marked =
        let n = length-drop floor es in
        let back : floor + (i - floor) ≡ i = omega (arith, up) in
        let in_drop : i - floor < length (drop floor es) = omega (arith, n, up, inside) in
        let e : entry_at (drop floor es) (i - floor) ≡ entry_at es i = get_or-drop floor es (i - floor) no_entry ∙ ap (λ (m : ℕ). entry_at es m) back in
        (only_seen seen (drop floor es) one).only (i - floor) in_drop (subst (λ (x : Entry). is_seen_entry seen x ≡ true) (sym e) marked)

-- literals of a clause that a set leaves free
one_free : (t xs : List Literal) (a : Literal) → holds xs a ≡ true → is_free t a ≡ true → 1 ≤ count_free t xs
one_free t [] a h f = absurd (false≢true h)
one_free t (x ∷ xs) a h f =
    elim (or_cases (same x a) (holds xs a) h) as (λ _. 1 ≤ cond (is_free t x) 1 0 + count_free t xs) [
      | inl here ↦ let free : is_free t x ≡ true = subst (λ (y : Literal). is_free t y ≡ true) (sym (same-true x a here)) f in rw free (omega arith)
      | inr there ↦ let ih = one_free t xs a there f in omega (arith, ih)
    ]

pub two_free : (t xs : List Literal) (a b : Literal) → holds xs a ≡ true → holds xs b ≡ true → (a.variable ≡ b.variable → ⊥) → is_free t a ≡ true → is_free t b ≡ true → 2 ≤ count_free t xs
two_free t [] a b ha hb d fa fb = absurd (false≢true ha)
two_free t (x ∷ xs) a b ha hb d fa fb =
    elim (or_cases (same x a) (holds xs a) ha) as (λ _. 2 ≤ cond (is_free t x) 1 0 + count_free t xs) [
      | inl a_here ↦
          let free : is_free t x ≡ true = subst (λ (y : Literal). is_free t y ≡ true) (sym (same-true x a a_here)) fa in
          elim (or_cases (same x b) (holds xs b) hb) as (λ _. 2 ≤ cond (is_free t x) 1 0 + count_free t xs) [
            | inl b_here ↦ absurd (d (ap (λ (y : Literal). y.variable) (sym (same-true x a a_here) ∙ same-true x b b_here)))
            | inr b_there ↦ let one = one_free t xs b b_there fb in rw free (omega (arith, one))
          ]
      | inr a_there ↦ elim (or_cases (same x b) (holds xs b) hb) as (λ _. 2 ≤ cond (is_free t x) 1 0 + count_free t xs) [
        | inl b_here ↦
            let free : is_free t x ≡ true = subst (λ (y : Literal). is_free t y ≡ true) (sym (same-true x b b_here)) fb in
            let one = one_free t xs a a_there fa in
            rw free (omega (arith, one))
        | inr b_there ↦ let ih = two_free t xs a b a_there b_there d fa fb in omega (arith, ih)
      ]
    ]

-- a trail stays sound with one more clause that is closed at its decisions
pub sound_more : (variables : ℕ) (known : List (List Literal)) (c : List Literal) (es : List Entry) → IsSound variables known es
    → ((k : ℕ) → k < length es → (entry_at es k).reason ≡ None → is_closed_at (literals (take k es)) c ≡ true) → IsSound variables (known ++ c ∷ []) es
sound_more variables known c es sound closed k l =
    let s = sound k l in
    record { among = s.among; free = s.free; why = go (entry_at es k).reason refl s.why }
  where
    x : Literal
    x = (entry_at es k).literal

    t : List Literal
    t = literals (take k es)

    go : (o : Option ℕ) → (entry_at es k).reason ≡ o → MatchOption o (is_closed t known ≡ true) (λ n. Implies known n t x) → MatchOption o (is_closed t (known ++ c ∷ []) ≡ true) (λ n. Implies (known ++ c ∷ []) n t x)
    go None e h = list_all-append (is_closed_at t) known (c ∷ []) ∙ and_from (is_closed t known) (is_closed_at t c && true) h (and_from (is_closed_at t c) true (closed k l e) refl)
    go (Some n) e h =
        let parts = and_parts (leb 1 n) (leb n (length known)) h.number in
        let low = leb-true 1 n parts.0 in
        let high = leb-true n (length known) parts.1 in
        let len = length_push known c in
        let one : clause_at (known ++ c ∷ []) n ≡ clause_at known n = get_or_append_left known (c ∷ []) [] (n - 1) (omega (arith, low, high)) in
        record {
          number = and_from (leb 1 n) (leb n (length (known ++ c ∷ []))) parts.0 (le-leb n (length (known ++ c ∷ [])) (omega (arith, len, high)));
          within = rw one h.within;
          others = rw one h.others;
        }

none_of : (o : Option ℕ) (P : Type 0) (Q : ℕ → Type 0) → o ≡ None → MatchOption o P Q → P
none_of o P Q e h = subst (λ (x : Option ℕ). MatchOption x P Q) e h

pub none_is : (o : Option ℕ) → IsNone o → o ≡ None
none_is None h = refl
none_is (Some n) h = absurd (none_false h)
  where
    none_false : IsNone (Some n) → ⊥
    none_false t = true≢false t

-- with no entry marked the chain ends in the empty clause
pub chain_refutes : (known : List (List Literal)) (es : List Entry) (hints : List Hint) (seen : List Bool) → IsResolving known es hints seen → count_seen seen es ≡ 0 → derives known hints [] ≡ true
chain_refutes known es hints seen resolving none = and_from (names_chain known hints) (is_same_set (chain_of known hints) []) resolving.chain
    (and_from (is_subset (chain_of known hints) []) true
    (all_from (λ l. holds [] l) (chain_of known hints) (λ l h.
    let parts = and_parts (is_seen seen l.variable) (holds (literals es) (negation l)) (sym (resolving.marks l) ∙ h) in
    let k = entry_of_holds es (negation l) parts.1 in
    absurd (count_zero seen es none k.0 k.1 (subst (λ (v : ℕ). is_seen seen v ≡ true) (sym (ap (λ (x : Literal). x.variable) k.2)) parts.0))))
    refl)

module _ (variables : ℕ) (known : List (List Literal)) (es : List Entry) (sound : IsSound variables known es) (apart : AreApart variables es) (hints : List Hint) (seen : List Bool) (resolving : IsResolving known es hints seen)
    (floor start position : ℕ) (c : List Literal) (fin : IsFinished seen es floor c start) (one : count_seen seen (drop floor es) ≡ 1) (floor_in : floor < length es) (low : start ≤ position) (high : position ≤ floor)
    (decision : (entry_at es position).reason ≡ None) (before : NoDecision es start position) where
  derived : derives known hints c ≡ true
  derived = and_from (names_chain known hints) (is_same_set (chain_of known hints) c) resolving.chain
      (and_from (is_subset (chain_of known hints) c) (is_subset c (chain_of known hints))
      (all_from (λ l. holds c l) (chain_of known hints) (λ l h. fin.negations l ∙ sym (resolving.marks l) ∙ h))
      (all_from (λ l. holds (chain_of known hints) l) c (λ l h. resolving.marks l ∙ sym (fin.negations l) ∙ h)))

  tip_only : (k : ℕ) → floor ≤ k → k < length es → is_seen_entry seen (entry_at es k) ≡ true → k ≡ fin.tip
  tip_only k up inside marked = one_marked seen es floor k fin.tip one up inside marked fin.tip_low fin.tip_in fin.tip_marked

  negated : (k : ℕ) → k < length es → is_seen_entry seen (entry_at es k) ≡ true → holds c (negation (entry_at es k).literal) ≡ true
  negated k inside marked =
      let x = (entry_at es k).literal in
      fin.negations (negation x)
      ∙ and_from (is_seen seen x.variable) (holds (literals es) (negation (negation x))) marked
      (subst (λ (l : Literal). holds (literals es) l ≡ true) (sym (negation-negation x)) (holds_entry es k inside))

  is_fresh : IsFresh known c
  is_fresh = record {
    set = literals (take position es);
    literal = negation (entry_at es fin.tip).literal;
    once = once_take position es (apart_once variables es apart).0;
    closed = none_of (entry_at es position).reason (is_closed (literals (take position es)) known ≡ true) (λ n. Implies known n (literals (take position es)) (entry_at es position).literal) decision (sound position (omega (arith, high, floor_in))).why;
    within = negated fin.tip fin.tip_in fin.tip_marked;
    others = all_from (λ l. same l (negation (entry_at es fin.tip).literal) || holds (literals (take position es)) (negation l)) c each;
    free = not_from_false (mentions (literals (take position es)) (variable_at es fin.tip)) (free_before variables es position fin.tip apart (let t = fin.tip_low in omega (arith, high, t)) fin.tip_in);
  }
    where
      each : (l : Literal) → holds c l ≡ true → (same l (negation (entry_at es fin.tip).literal) || holds (literals (take position es)) (negation l)) ≡ true
      each l h =
          let parts = and_parts (is_seen seen l.variable) (holds (literals es) (negation l)) (sym (fin.negations l) ∙ h) in
          let k = entry_of_holds es (negation l) parts.1 in
          let marked : is_seen_entry seen (entry_at es k.0) ≡ true = subst (λ (v : ℕ). is_seen seen v ≡ true) (sym (ap (λ (x : Literal). x.variable) k.2)) parts.0 in
          elim (cases_le floor k.0) as (λ _. (same l (negation (entry_at es fin.tip).literal) || holds (literals (take position es)) (negation l)) ≡ true) [
            | inl up ↦
                let at_tip : k.0 ≡ fin.tip = tip_only k.0 up k.1 marked in
                let is_u : negation (entry_at es fin.tip).literal ≡ l = ap (λ (j : ℕ). negation (entry_at es j).literal) (sym at_tip) ∙ ap negation k.2 ∙ negation-negation l in
                or_left (same l (negation (entry_at es fin.tip).literal)) (holds (literals (take position es)) (negation l)) (subst (λ (x : Literal). same l x ≡ true) (sym is_u) (same-refl l))
            | inr down ↦
                elim (cases_le start k.0) as (λ _. (same l (negation (entry_at es fin.tip).literal) || holds (literals (take position es)) (negation l)) ≡ true) [
                  | inl late ↦ absurd (both_ways (is_seen_entry seen (entry_at es k.0)) (fin.above k.0 late down) marked)
                  | inr early ↦
                      or_right (same l (negation (entry_at es fin.tip).literal)) (holds (literals (take position es)) (negation l))
                      (subst (λ (x : Literal). holds (literals (take position es)) x ≡ true) k.2 (holds_before es position k.0 (omega (arith, early, low)) k.1))
                ]
          ]

  closed_below : (k : ℕ) → k < position → (entry_at es k).reason ≡ None → is_closed_at (literals (take k es)) c ≡ true
  closed_below k k_below none =
      let early : k < start = early_one (cases_le start k) in
      let m_in : start - 1 < length es = omega (arith, early, low, high, floor_in) in
      let m_marked = fin.marked (omega (arith, early)) in
      let t = fin.tip_low in
      let apart_vars : (negation (entry_at es fin.tip).literal).variable ≡ (negation (entry_at es (start - 1)).literal).variable
      → ⊥ = λ e. (let p : fin.tip ≡ start - 1 = apart.apart fin.tip (start - 1) fin.tip_in m_in e in let q : ⊥ = omega (arith, p, t, low, high, early) in q) in
      let two = two_free (literals (take k es)) c (negation (entry_at es fin.tip).literal) (negation (entry_at es (start - 1)).literal)
      (negated fin.tip fin.tip_in fin.tip_marked) (negated (start - 1) m_in m_marked) apart_vars
      (not_from_false (mentions (literals (take k es)) (variable_at es fin.tip)) (free_before variables es k fin.tip apart (omega (arith, t, high, k_below)) fin.tip_in))
      (not_from_false (mentions (literals (take k es)) (variable_at es (start - 1))) (free_before variables es k (start - 1) apart (omega (arith, early)) m_in)) in
      or_right (list_any (holds (literals (take k es))) c) (leb 2 (count_free (literals (take k es)) c)) (le-leb 2 (count_free (literals (take k es)) c) two)
    where
      some_none : true ≡ false → ⊥
      some_none h = true≢false h

      early_one : (start ≤ k) ⊎ (k < start) → k < start
      early_one (inl late) = absurd (true≢false (sym (before k late k_below) ∙ ap is_some none))
      early_one (inr early) = early

  pub learnt : IsLearntClause variables known es (record { clause = c; hints = hints }) position
  unfolding is_fresh
  learnt = record {
    clause = and_from (is_once c) (is_within variables c) fin.once
        (all_from (is_among variables) c (λ l h.
        let parts = and_parts (is_seen seen l.variable) (holds (literals es) (negation l)) (sym (fin.negations l) ∙ h) in
        all_at (is_among variables) (literals es) (negation l) (apart_once variables es apart).1 parts.1));
    derived = derived;
    regular = resolving.regular;
    fresh = is_fresh;
    full = full c (negated fin.tip fin.tip_in fin.tip_marked);
    short = omega (arith, high, floor_in);
    free = rw fin.last is_fresh.free;
    others = rw fin.last is_fresh.others;
    sound = sound_more variables known c (take position es) (sound_take variables known es position (omega (arith, high, floor_in)) sound) closed_in;
  }
    where
      full : (xs : List Literal) → holds xs (negation (entry_at es fin.tip).literal) ≡ true → is_empty xs ≡ false
      full [] h = absurd (false≢true h)
      full (x ∷ xs) h = refl

      closed_in : (k : ℕ) → k < length (take position es) → (entry_at (take position es) k).reason ≡ None → is_closed_at (literals (take k (take position es))) c ≡ true
      closed_in k l none =
          let len = length-take-le position es (omega (arith, high, floor_in)) in
          let k_below : k < position = omega (arith, len, l) in
          let e = get_or-take position es k no_entry k_below in
          let at_k : (entry_at es k).reason ≡ None = ap (λ (x : Entry). x.reason) (sym e) ∙ none in
          let prefix : take k (take position es) ≡ take k es = take-take k position es (omega (arith, k_below)) in
          subst (λ (xs : List Entry). is_closed_at (literals xs) c ≡ true) (sym prefix) (closed_below k k_below at_k)
