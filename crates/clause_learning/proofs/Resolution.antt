-- Conflict analysis, resolution by resolution.
use Rattle.std.proofs.Common.{◌≡◌, ℕ, zero, suc, ◌+◌, ◌-◌, ◌<◌, ◌≤◌, Bool, true, false, not, ◌&&◌, ◌||◌, cond, List, [], ◌∷◌, ◌++◌, length, get_or, take, drop, set, eqb, leb, refl, sym, ◌∙◌, ap}
use Rattle.std.proofs.Common.{subst, inl, inr, ◌⊎◌, arith, Option, Some, MatchOption}
use Rattle.std.proofs.Math.Bool.{beq}
use Rattle.std.specs.List.{list_all, list_any}
use Rattle.std.proofs.lemmas.List.{get_or-take, length-take, length-drop, get_or-drop}
use Rattle.std.proofs.lemmas.List.Folds.{list_any-append}
use Rattle.std.proofs.lemmas.Bool.{and_parts, and_from, or_cases, or_left, or_right, eqb-true, eqb-false, eq-eqb, ne_eqb, both_ways, not-true, not_from_false, false_from_ne_true, leb-true, leb-false}
use Rattle.resolution_proof.specs.declared.literal.Literal.{Literal}
use Rattle.resolution_proof.specs.declared.log.Hint.{Hint}
use Rattle.clause_learning.specs.declared.trail.Entry.{Entry}
use Rattle.resolution_proof.specs.Literal.{negation, same, is_on, holds, mentions, is_once}
use Rattle.resolution_proof.specs.Clause.{is_among, without, resolvent}
use Rattle.resolution_proof.specs.Replay.{survives, is_number, clause_at, opposes, is_clash, fits, chain_of}
use Rattle.resolution_proof.specs.Fresh.{is_free, count_free, is_closed, is_closed_at}
use Rattle.clause_learning.specs.Trail.{literals, entry_at, no_entry, AreApart, IsSound, Implies}
use Rattle.clause_learning.specs.Learning.{is_seen, is_seen_entry, is_seen_literal, count_seen, Represents}
use Rattle.clause_learning.specs.Propagation.{IsConflict}
use Rattle.clause_learning.specs.Resolving.{Resolves, NoneSeen, ArePivotsFrom, HasPivotsFrom, IsResolving, IsAnalysis, IsLevel}
use Rattle.resolution_proof.proofs.Sets.{same-true, same-refl, negation-negation, all_at, all_from, any_at, mentions_from, holds_from_mentions, once_same, once_apart, holds-resolvent, among_low, among_high}
use Rattle.clause_learning.proofs.Entries.{variable_at, holds_entry, entry_of_holds, mentions_entry}
use Rattle.resolution_proof.proofs.Chains.{names_chain-push, chain_of-push}
use Rattle.resolution_proof.proofs.Laws.{some_free_in}
use Rattle.clause_learning.proofs.Regularity.{regular_more, pivots_more, pivots_later, survives_from}
use Rattle.clause_learning.proofs.Marking.{apart_once, count_between, count_seen-pos, count_seen-same, resolves_off}

pub mentions-without : (p : ℕ) (c : List Literal) (v : ℕ) → mentions (without p c) v ≡ (not (eqb v p) && mentions c v)
mentions-without p [] v = go (eqb v p)
  where
    go : (b : Bool) → false ≡ (not b && false)
    go true = refl
    go false = refl
mentions-without p (x ∷ xs) v = go (is_on p x) refl (mentions-without p xs v)
  where
    go : (b : Bool) → is_on p x ≡ b → mentions (without p xs) v ≡ (not (eqb v p) && mentions xs v) → mentions (cond (not b) (x ∷ without p xs) (without p xs)) v ≡ (not (eqb v p) && (is_on v x || mentions xs v))
    go true e ih = ih ∙ step (is_on v x) refl
      where
        step : (s : Bool) → is_on v x ≡ s → (not (eqb v p) && mentions xs v) ≡ (not (eqb v p) && (s || mentions xs v))
        step true h =
            let one : eqb v p ≡ true = eq-eqb v p (sym (eqb-true x.variable v h) ∙ eqb-true x.variable p e) in
            rw one refl
        step false h = refl
    go false e ih = ap (λ (b : Bool). is_on v x || b) ih ∙ step (is_on v x) refl
      where
        step : (s : Bool) → is_on v x ≡ s → (s || (not (eqb v p) && mentions xs v)) ≡ (not (eqb v p) && (s || mentions xs v))
        step true h =
            let other : eqb v p ≡ false = ne_eqb v p (λ t. eqb-false x.variable p e (eqb-true x.variable v h ∙ t)) in
            rw other refl
        step false h = refl

pub mentions-resolvent : (p : ℕ) (a b : List Literal) (v : ℕ) → mentions (resolvent p a b) v ≡ (not (eqb v p) && (mentions a v || mentions b v))
mentions-resolvent p a b v = list_any-append (is_on v) (without p a) (without p b) ∙ joined (mentions-without p a v) (mentions-without p b v)
  where
    spread : (n x y : Bool) → ((n && x) || (n && y)) ≡ (n && (x || y))
    spread true x y = refl
    spread false x y = refl

    joined : mentions (without p a) v ≡ (not (eqb v p) && mentions a v) → mentions (without p b) v ≡ (not (eqb v p) && mentions b v) → (mentions (without p a) v || mentions (without p b) v)
        ≡ (not (eqb v p) && (mentions a v || mentions b v))
    joined e f = rw (e, f) (spread (not (eqb v p)) (mentions a v) (mentions b v))

-- two literals whose negations a set holds, of one variable, are one
falsified_same : (s : List Literal) → is_once s ≡ true → (k l : Literal) → holds s (negation k) ≡ true → holds s (negation l) ≡ true → k.variable ≡ l.variable → k ≡ l
falsified_same s once k l hk hl e =
    sym (negation-negation k) ∙ ap negation (once_same s (negation k) (negation l) once hk hl e) ∙ negation-negation l

-- marks that agree with the variables of false literals represent them
represents_from : (s : List Literal) → is_once s ≡ true → (r : List Literal) (seen : List Bool) → ((l : Literal) → holds r l ≡ true → holds s (negation l) ≡ true)
    → ((l : Literal) → holds s (negation l) ≡ true → is_seen seen l.variable ≡ mentions r l.variable) → Represents seen s r
represents_from s once r seen fals marks l = go (holds s (negation l)) refl
  where
    and-false : (b : Bool) → (b && false) ≡ false
    and-false true = refl
    and-false false = refl

    and-true : (b : Bool) → (b && true) ≡ b
    and-true true = refl
    and-true false = refl

    held : holds s (negation l) ≡ true → (m : Bool) → mentions r l.variable ≡ m → holds r l ≡ m
    held h true m =
        let k = holds_from_mentions r l.variable m in
        subst (λ (x : Literal). holds r x ≡ true) (falsified_same s once k.0 l (fals k.0 k.1) h k.2) k.1
    held h false m = false_from_ne_true (holds r l) (λ t. both_ways (mentions r l.variable) m (mentions_from r l t))

    go : (b : Bool) → holds s (negation l) ≡ b → holds r l ≡ (is_seen seen l.variable && holds s (negation l))
    go true h = held h (mentions r l.variable) refl ∙ sym (ap (λ (b : Bool). is_seen seen l.variable && b) h ∙ and-true (is_seen seen l.variable) ∙ marks l h)
    go false h =
        false_from_ne_true (holds r l) (λ t. both_ways (holds s (negation l)) h (fals l t))
        ∙ sym (ap (λ (b : Bool). is_seen seen l.variable && b) h ∙ and-false (is_seen seen l.variable))

-- what the representation says of a literal of the clause, and of a marked one
represented_false : (s r : List Literal) (seen : List Bool) → Represents seen s r → (l : Literal) → holds r l ≡ true → (is_seen seen l.variable ≡ true) × (holds s (negation l) ≡ true)
represented_false s r seen rep l h = and_parts (is_seen seen l.variable) (holds s (negation l)) (sym (rep l) ∙ h)

represented_marks : (s r : List Literal) (seen : List Bool) → Represents seen s r → (l : Literal) → holds s (negation l) ≡ true → is_seen seen l.variable ≡ mentions r l.variable
represented_marks s r seen rep l h = go (is_seen seen l.variable) refl
  where
    go : (b : Bool) → is_seen seen l.variable ≡ b → b ≡ mentions r l.variable
    go true e = sym (mentions_from r l (rep l ∙ and_from (is_seen seen l.variable) (holds s (negation l)) e h))
    go false e = sym (false_from_ne_true (mentions r l.variable) (λ m.
        let k = holds_from_mentions r l.variable m in
        let marked = (represented_false s r seen rep k.0 k.1).0 in
        both_ways (is_seen seen l.variable) e (subst (λ (v : ℕ). is_seen seen v ≡ true) k.2 marked)))

-- the marked ones of the level are all before the position
pub position_above : (variables : ℕ) (known : List (List Literal)) (es : List Entry) (floor keep position count : ℕ) (hints : List Hint) (seen : List Bool)
    → IsAnalysis variables known es floor keep position count hints seen → keep < count → floor + keep + 1 ≤ position
position_above variables known es floor keep position count hints seen a more =
    let bound = count_between seen es floor position a.none in
    let counted = a.counted in
    omega (arith, bound, counted, more)

-- a literal before a position
pub holds_take : (es : List Entry) (n : ℕ) (l : Literal) → holds (literals (take n es)) l ≡ true → (k : ℕ) × (k < n) × (k < length es) × ((entry_at es k).literal ≡ l)
holds_take es n l h =
    let r = entry_of_holds (take n es) l h in
    let len = length-take n es in
    let below : r.0 < n = omega (arith, len, r.1) in
    let inside : r.0 < length es = omega (arith, len, r.1) in
    (r.0, below, inside, sym (ap (λ (e : Entry). e.literal) (get_or-take n es r.0 no_entry below)) ∙ r.2)

pub cases_le : (a b : ℕ) → (a ≤ b) ⊎ (b < a)
cases_le a b = go (leb a b) refl
  where
    go : (t : Bool) → leb a b ≡ t → (a ≤ b) ⊎ (b < a)
    go true e = inl (leb-true a b e)
    go false e = inr (leb-false a b e)

-- the clause of a number is closed where all are
all_clauses_closed : (known : List (List Literal)) (t : List Literal) (n : ℕ) → is_number known n ≡ true → is_closed t known ≡ true → is_closed_at t (clause_at known n) ≡ true
all_clauses_closed known t n number closed =
    let parts = and_parts (leb 1 n) (leb n (length known)) number in
    let low = leb-true 1 n parts.0 in
    let high = leb-true n (length known) parts.1 in
    at_position known (n - 1) (omega (arith, low, high)) closed
  where
    at_position : (cs : List (List Literal)) (i : ℕ) → i < length cs → is_closed t cs ≡ true → is_closed_at t (get_or cs i []) ≡ true
    at_position [] i l h = absurd (omega (arith, l))
    at_position (c ∷ cs) zero l h = (and_parts (is_closed_at t c) (is_closed t cs) h).0
    at_position (c ∷ cs) (suc i) l h = at_position cs i (omega (arith, l)) ((and_parts (is_closed_at t c) (is_closed t cs) h).1)

-- of two literals that a set leaves free, one is not of a given variable
other_free : (t c : List Literal) (v : ℕ) → is_once c ≡ true → 2 ≤ count_free t c → (l : Literal) × (holds c l ≡ true) × (is_free t l ≡ true) × (l.variable ≡ v → ⊥)
other_free t [] v once two = absurd (omega (arith, two))
other_free t (x ∷ xs) v once two =
    let parts = and_parts (not (mentions xs x.variable)) (is_once xs) once in
    go (is_free t x) refl (eqb x.variable v) refl (not-true (mentions xs x.variable) parts.0) two (λ more. other_free t xs v parts.1 more)
  where
    go : (b : Bool) → is_free t x ≡ b → (s : Bool) → eqb x.variable v ≡ s → mentions xs x.variable ≡ false → 2 ≤ cond b 1 0 + count_free t xs
        → (2 ≤ count_free t xs → (l : Literal) × (holds xs l ≡ true) × (is_free t l ≡ true) × (l.variable ≡ v → ⊥)) → (l : Literal) × (holds (x ∷ xs) l ≡ true) × (is_free t l ≡ true) × (l.variable ≡ v → ⊥)
    go true e false s absent n ih = (x, or_left (same x x) (holds xs x) (same-refl x), e, eqb-false x.variable v s)
    go true e true s absent n ih =
        let r = some_free_in t xs (omega (arith, n)) in
        (r.0, or_right (same x r.0) (holds xs r.0) r.1, r.2, λ q. both_ways (mentions xs x.variable) absent (subst (λ (w : ℕ). mentions xs w ≡ true) (q ∙ sym (eqb-true x.variable v s)) (mentions_from xs r.0 r.1)))
    go false e s q absent n ih =
        let r = ih (omega (arith, n)) in
        (r.0, or_right (same x r.0) (holds xs r.0) r.1, r.2, r.3)

some_of : {A : Type 0} (o : Option A) (n : A) (P : Type 0) (Q : A → Type 0) → o ≡ Some n → MatchOption o P Q → Q n
some_of {A} o n P Q e h = subst (λ (x : Option A). MatchOption x P Q) e h

module _ (variables : ℕ) (known : List (List Literal)) (es : List Entry) (sound : IsSound variables known es) (apart : AreApart variables es) where
  trail_once : is_once (literals es) ≡ true
  trail_once = (apart_once variables es apart).0

  module _ (position reason : ℕ) (inside : position < length es) (why : (entry_at es position).reason ≡ Some reason) where
    implies : Implies known reason (literals (take position es)) (entry_at es position).literal
    implies = some_of (entry_at es position).reason reason (is_closed (literals (take position es)) known ≡ true) (λ n. Implies known n (literals (take position es)) (entry_at es position).literal) why (sound position inside).why

    -- a literal of the reason is the entry's, or an earlier entry negates it
    of_reason : (l : Literal) → holds (clause_at known reason) l ≡ true → (l ≡ (entry_at es position).literal) ⊎ ((k : ℕ) × (k < position) × (k < length es) × ((entry_at es k).literal ≡ negation l))
    of_reason l h =
        let x = (entry_at es position).literal in
        elim (or_cases (same l x) (holds (literals (take position es)) (negation l)) (all_at (λ m. same m x || holds (literals (take position es)) (negation m))
        (clause_at known reason) l implies.others h)) as (λ _. (l ≡ x) ⊎ ((k : ℕ) × (k < position) × (k < length es) × ((entry_at es k).literal ≡ negation l))) [
          | inl one ↦ inl (same-true l x one)
          | inr before ↦ inr (holds_take es position (negation l) before)
        ]

    -- an earlier entry is of another variable
    other_variable : (k : ℕ) → k < position → k < length es → (variable_at es k ≡ variable_at es position) → ⊥
    other_variable k below long e = let one : k ≡ position = apart.apart k position long inside e in omega (arith, one, below)

    falsified_others : (l : Literal) → holds (clause_at known reason) l ≡ true → is_on (variable_at es position) l ≡ false → holds (literals es) (negation l) ≡ true
    falsified_others l h off =
        elim (of_reason l h) as (λ _. holds (literals es) (negation l) ≡ true) [
          | inl one ↦ absurd (eqb-false l.variable (variable_at es position) off (ap (λ (m : Literal). m.variable) one))
          | inr r ↦ subst (λ (m : Literal). holds (literals es) m ≡ true) r.3 (holds_entry es r.0 r.2)
        ]

    module _ (r : List Literal) (old : List Bool) (rep : Represents old (literals es) r) (marked : is_seen_entry old (entry_at es position) ≡ true) where
      opposed : opposes (variable_at es position) r (clause_at known reason) ≡ true
      opposed = all_from (λ l. beq (is_on (variable_at es position) l) (holds r (negation l))) (clause_at known reason) each
        where
          x : Literal
          x = (entry_at es position).literal

          each : (l : Literal) → holds (clause_at known reason) l ≡ true → beq (is_on (variable_at es position) l) (holds r (negation l)) ≡ true
          each l h =
              elim (of_reason l h) as (λ _. beq (is_on (variable_at es position) l) (holds r (negation l)) ≡ true) [
                | inl one ↦
                    let on : is_on (variable_at es position) l ≡ true = eq-eqb l.variable (variable_at es position) (ap (λ (m : Literal). m.variable) one) in
                    let neg : holds (literals es) (negation (negation x)) ≡ true = subst (λ (m : Literal). holds (literals es) m ≡ true) (sym (negation-negation x)) (holds_entry es position inside) in
                    let at_x : holds r (negation x) ≡ true = rep (negation x) ∙ and_from (is_seen old x.variable) (holds (literals es) (negation (negation x))) marked neg in
                    let at_l : holds r (negation l) ≡ true = subst (λ (m : Literal). holds r (negation m) ≡ true) (sym one) at_x in
                    rw (on, at_l) refl
                | inr k ↦
                    let off : is_on (variable_at es position) l ≡ false = ne_eqb l.variable (variable_at es position) (λ e. other_variable k.0 k.1 k.2 (ap (λ (m : Literal). m.variable) k.3 ∙ e)) in
                    let neg : holds (literals es) (negation l) ≡ true = subst (λ (m : Literal). holds (literals es) m ≡ true) k.3 (holds_entry es k.0 k.2) in
                    let none : holds r (negation l) ≡ false = false_from_ne_true (holds r (negation l)) (λ t.
                    let f = (represented_false (literals es) r old rep (negation l) t).1 in
                    once_apart (literals es) (negation l) trail_once neg f) in
                    rw (off, none) refl
              ]

      fitting : fits known r (record { clause = reason; pivot = variable_at es position }) ≡ true
      fitting = and_from (is_number known reason) (is_clash (variable_at es position) r (clause_at known reason)) implies.number
          (and_from (mentions (clause_at known reason) (variable_at es position)) (opposes (variable_at es position) r (clause_at known reason))
          (mentions_from (clause_at known reason) (entry_at es position).literal implies.within) opposed)

      still_represents : (new : List Bool) → Resolves (variable_at es position) (clause_at known reason) old new → Represents new (literals es) (resolvent (variable_at es position) r (clause_at known reason))
      still_represents new marks = represents_from (literals es) trail_once r' new fals agree
        where
          p : ℕ
          p = variable_at es position

          r' : List Literal
          r' = resolvent (variable_at es position) r (clause_at known reason)

          fals : (l : Literal) → holds r' l ≡ true → holds (literals es) (negation l) ≡ true
          fals l h =
              let parts = and_parts (not (is_on p l)) (holds r l || holds (clause_at known reason) l) (sym (holds-resolvent p r (clause_at known reason) l) ∙ h) in
              elim (or_cases (holds r l) (holds (clause_at known reason) l) parts.1) as (λ _. holds (literals es) (negation l) ≡ true) [
                | inl a ↦ (represented_false (literals es) r old rep l a).1
                | inr b ↦ falsified_others l b (not-true (is_on p l) parts.0)
              ]

          agree : (l : Literal) → holds (literals es) (negation l) ≡ true → is_seen new l.variable ≡ mentions r' l.variable
          agree l h =
              let low = among_low variables (negation l) (all_at (is_among variables) (literals es) (negation l) ((apart_once variables es apart).1) h) in
              marks l.variable low
              ∙ ap (λ (b : Bool). not (eqb l.variable p) && (b || mentions (clause_at known reason) l.variable)) (represented_marks (literals es) r old rep l h)
              ∙ sym (mentions-resolvent p r (clause_at known reason) l.variable)

    none_left : (old new : List Bool) → NoneSeen old es (position + 1) → Resolves (variable_at es position) (clause_at known reason) old new → NoneSeen new es position
    none_left old new none marks k low long = go (eqb (variable_at es k) p) refl
      where
        p : ℕ
        p = variable_at es position

        v_low : 1 ≤ variable_at es k
        v_low = among_low variables (entry_at es k).literal (apart.among k long)

        go : (b : Bool) → eqb (variable_at es k) p ≡ b → is_seen_entry new (entry_at es k) ≡ false
        go true e = marks (variable_at es k) v_low ∙ (let t : (not (eqb (variable_at es k) p) && (is_seen old (variable_at es k) || mentions (clause_at known reason) (variable_at es k))) ≡ false = rw e refl in t)
        go false e =
            let apart_positions : k ≡ position → ⊥ = λ t. eqb-false (variable_at es k) p e (ap (variable_at es) t) in
            let above : position + 1 ≤ k = omega (arith, low, apart_positions) in
            let unseen : is_seen old (variable_at es k) ≡ false = none k above long in
            let absent : mentions (clause_at known reason) (variable_at es k) ≡ false = false_from_ne_true (mentions (clause_at known reason) (variable_at es k)) (λ m.
            let l = holds_from_mentions (clause_at known reason) (variable_at es k) m in
            elim (of_reason l.0 l.1) as (λ _. ⊥) [
              | inl one ↦ eqb-false (variable_at es k) p e (sym l.2 ∙ ap (λ (x : Literal). x.variable) one)
              | inr j ↦
                  let same_position : j.0 ≡ k = apart.apart j.0 k j.2 long (ap (λ (x : Literal). x.variable) j.3 ∙ l.2) in
                  omega (arith, same_position, j.1, low)
            ]) in
            marks (variable_at es k) v_low ∙ (let t : (not (eqb (variable_at es k) p) && (is_seen old (variable_at es k) || mentions (clause_at known reason) (variable_at es k))) ≡ false = rw (e, unseen, absent) refl in t)

    reason_survives : (gs : List Hint) → ArePivotsFrom es (position + 1) gs → (l : Literal) → holds (clause_at known reason) l ≡ true → survives gs l ≡ true
    reason_survives gs p l h =
        elim (of_reason l h) as (λ _. survives gs l ≡ true) [
          | inl one ↦ survives_from variables es position gs l position apart p (omega arith) inside (ap (λ (m : Literal). m.variable) (sym one))
          | inr k ↦ survives_from variables es position gs l k.0 apart p (let b = k.1 in omega (arith, b)) k.2 (ap (λ (m : Literal). m.variable) k.3)
        ]

    -- one resolution more, with the reason of a marked entry
    pub resolving_more : (hints : List Hint) (old new : List Bool) → is_seen_entry old (entry_at es position) ≡ true → IsResolving known es hints old → HasPivotsFrom es (position + 1) hints
        → Resolves (variable_at es position) (clause_at known reason) old new → IsResolving known es (hints ++ record { clause = reason; pivot = variable_at es position } ∷ []) new
    resolving_more hints old new marked resolving pivots marks =
        let h : Hint = record { clause = reason; pivot = variable_at es position } in
        record {
          chain = names_chain-push known hints h resolving.chain (fitting (chain_of known hints) old resolving.marks marked);
          regular = regular_more known es position hints h resolving.regular pivots (λ gs p. all_from (survives gs) (clause_at known reason) (λ l held. reason_survives gs p l held));
          marks = subst (λ (c : List Literal). Represents new (literals es) c) (sym (chain_of-push known hints h resolving.chain)) (still_represents (chain_of known hints) old resolving.marks marked new marks);
        }

    -- a reason that adds no literal
    pub subsumed : (hints : List Hint) (old : List Bool) → length old ≡ variables → is_seen_entry old (entry_at es position) ≡ true → list_all (is_seen_literal old) (clause_at known reason) ≡ true
        → IsResolving known es hints old → HasPivotsFrom es (position + 1) hints → IsResolving known es (hints ++ record { clause = reason; pivot = variable_at es position } ∷ [])
        (set old (variable_at es position - 1) false)
    subsumed hints old len marked all resolving pivots =
        let among = apart.among position inside in
        let high = among_high variables (entry_at es position).literal among in
        resolving_more hints old (set old (variable_at es position - 1) false) marked resolving pivots
        (resolves_off old (variable_at es position) (clause_at known reason) (among_low variables (entry_at es position).literal among) (omega (arith, high, len)) all)

    -- a literal of the reason but the entry's is of an earlier entry
    earlier : (l : Literal) → holds (clause_at known reason) l ≡ true → (l.variable ≡ variable_at es position → ⊥) → (k : ℕ) × (k < position) × (k < length es) × ((entry_at es k).literal ≡ negation l)
    earlier l h other =
        elim (of_reason l h) as (λ _. (k : ℕ) × (k < position) × (k < length es) × ((entry_at es k).literal ≡ negation l)) [
          | inl one ↦ absurd (other (ap (λ (m : Literal). m.variable) one))
          | inr k ↦ k
        ]

    -- a reason of an entry from a floor on, before which all clauses are closed, leaves a marked entry from the floor on
    level_left : (floor : ℕ) (old new : List Bool) → floor ≤ position → is_closed (literals (take floor es)) known ≡ true → is_once (clause_at known reason) ≡ true → Resolves (variable_at es position) (clause_at known reason) old new
        → 1 ≤ count_seen new (drop floor es)
    level_left floor old new above closed once marks =
        elim (or_cases (list_any (holds t) c) (leb 2 (count_free t c)) (all_clauses_closed known t reason implies.number closed)) as (λ _. 1 ≤ count_seen new (drop floor es)) [
          | inl true_one ↦
              let l = any_at (holds t) c true_one in
              let j = holds_take es floor l.0 l.2 in
              absurd (elim (of_reason l.0 l.1) as (λ _. ⊥) [
                | inl one ↦
                    let here : j.0 ≡ position = apart.apart j.0 position j.2 inside (ap (λ (m : Literal). m.variable) (j.3 ∙ one)) in
                    omega (arith, here, j.1, above)
                | inr k ↦
                    let held : holds (literals es) l.0 ≡ true = subst (λ (m : Literal). holds (literals es) m ≡ true) j.3 (holds_entry es j.0 j.2) in
                    let denied : holds (literals es) (negation l.0) ≡ true = subst (λ (m : Literal). holds (literals es) m ≡ true) k.3 (holds_entry es k.0 k.2) in
                    once_apart (literals es) l.0 trail_once held denied
              ])
          | inr two ↦
              let l = other_free t c (variable_at es position) once (leb-true 2 (count_free t c) two) in
              let k = earlier l.0 l.1 l.3 in
              let var : variable_at es k.0 ≡ (l.0).variable = ap (λ (m : Literal). m.variable) k.3 in
              elim (cases_le floor k.0) as (λ _. 1 ≤ count_seen new (drop floor es)) [
                | inl from_floor ↦
                    let low = among_low variables (entry_at es k.0).literal (apart.among k.0 k.2) in
                    let off : eqb (variable_at es k.0) (variable_at es position) ≡ false = ne_eqb (variable_at es k.0) (variable_at es position) (λ e. l.3 (sym var ∙ e)) in
                    let mentioned : mentions c (variable_at es k.0) ≡ true = subst (λ (v : ℕ). mentions c v ≡ true) (sym var) (mentions_from c l.0 l.1) in
                    let marked : is_seen new (variable_at es k.0) ≡ true = marks (variable_at es k.0) low
                    ∙ and_from (not (eqb (variable_at es k.0) (variable_at es position))) (is_seen old (variable_at es k.0) || mentions c (variable_at es k.0)) (not_from_false (eqb (variable_at es k.0) (variable_at es position)) off)
                    (or_right (is_seen old (variable_at es k.0)) (mentions c (variable_at es k.0)) mentioned) in
                    let n = length-drop floor es in
                    let in_drop : k.0 - floor < length (drop floor es) = omega (arith, n, from_floor, k.2) in
                    let back : floor + (k.0 - floor) ≡ k.0 = omega (arith, from_floor) in
                    let same_entry : entry_at (drop floor es) (k.0 - floor) ≡ entry_at es k.0 = get_or-drop floor es (k.0 - floor) no_entry ∙ ap (λ (j : ℕ). entry_at es j) back in
                    count_seen-pos new (drop floor es) (k.0 - floor) in_drop (subst (λ (e : Entry). is_seen_entry new e ≡ true) (sym same_entry) marked)
                | inr below ↦
                    let len = length-take floor es in
                    let short : k.0 < length (take floor es) = omega (arith, len, below, k.2) in
                    let m = mentions_entry (take floor es) k.0 short in
                    let e : variable_at (take floor es) k.0 ≡ (l.0).variable = ap (λ (x : Entry). x.literal.variable) (get_or-take floor es k.0 no_entry below) ∙ var in
                    absurd (both_ways (mentions t (l.0).variable) (not-true (mentions t (l.0).variable) l.2) (subst (λ (v : ℕ). mentions t v ≡ true) e m))
              ]
        ]
      where
        t : List Literal
        t = literals (take floor es)

        c : List Literal
        c = clause_at known reason

    pub resolve_step : (floor keep count result : ℕ) (hints : List Hint) (old new : List Bool) → is_seen_entry old (entry_at es position) ≡ true
        → IsAnalysis variables known es floor keep (position + 1) count hints old → floor ≤ position → IsLevel known (literals (take floor es)) keep → is_once (clause_at known reason) ≡ true
        → Resolves (variable_at es position) (clause_at known reason) old new → result ≡ count_seen new (drop floor es) → length new ≡ length old → IsAnalysis variables known es floor keep position result
        (hints ++ record { clause = reason; pivot = variable_at es position } ∷ []) new
    resolve_step floor keep count result hints old new marked a above level once marks counted len = record {
      resolving = resolving_more hints old new marked a.resolving a.pivots marks;
      counted = counted;
      kept = enough keep level;
      none = none_left old new a.none marks;
      pivots = pivots_more es position hints (record { clause = reason; pivot = variable_at es position }) a.pivots inside refl;
      short = omega (arith, inside);
      len = len ∙ a.len;
    }
      where
        enough : (n : ℕ) → IsLevel known (literals (take floor es)) n → n ≤ result
        enough zero lv = omega arith
        enough (suc n) lv = let one = level_left floor old new above lv.1 once marks in omega (arith, one, counted, lv.0)

    -- a reason of an entry before a floor changes no mark from the floor on
    pub count_above : (floor : ℕ) (old new : List Bool) → position < floor → Resolves (variable_at es position) (clause_at known reason) old new → count_seen new (drop floor es) ≡ count_seen old (drop floor es)
    count_above floor old new below marks = count_seen-same old new (drop floor es) each
      where
        at : (k : ℕ) → position < k → k < length es → is_seen new (variable_at es k) ≡ is_seen old (variable_at es k)
        at k later long =
            let low = among_low variables (entry_at es k).literal (apart.among k long) in
            let other : (variable_at es k ≡ variable_at es position) → ⊥ = λ e. (let one : k ≡ position = apart.apart k position long inside e in let bad : ⊥ = omega (arith, one, later) in bad) in
            let off : eqb (variable_at es k) (variable_at es position) ≡ false = ne_eqb (variable_at es k) (variable_at es position) other in
            let absent : mentions (clause_at known reason) (variable_at es k) ≡ false = false_from_ne_true (mentions (clause_at known reason) (variable_at es k)) (λ m.
            let l = holds_from_mentions (clause_at known reason) (variable_at es k) m in
            let j = earlier l.0 l.1 (λ e. other (sym l.2 ∙ e)) in
            let one : j.0 ≡ k = apart.apart j.0 k j.2 long (ap (λ (x : Literal). x.variable) j.3 ∙ l.2) in
            omega (arith, one, j.1, later)) in
            marks (variable_at es k) low ∙ (let t : (not (eqb (variable_at es k) (variable_at es position)) && (is_seen old (variable_at es k) || mentions (clause_at known reason) (variable_at es k))) ≡ is_seen old (variable_at es k) = rw (off, absent) (or-none (is_seen old (variable_at es k))) in t)
          where
            or-none : (b : Bool) → (b || false) ≡ b
            or-none true = refl
            or-none false = refl

        each : (k : ℕ) → k < length (drop floor es) → is_seen_entry new (entry_at (drop floor es) k) ≡ is_seen_entry old (entry_at (drop floor es) k)
        each k l =
            let n = length-drop floor es in
            let there : floor + k < length es = omega (arith, n, l) in
            rw (get_or-drop floor es k no_entry) (at (floor + k) (omega (arith, below)) there)

  module _ (conflict : ℕ) (false_clause : IsConflict known (literals es) conflict) (seen : List Bool) (marks : (v : ℕ) → 1 ≤ v → is_seen seen v ≡ mentions (clause_at known conflict) v) where
    -- a clause that the set before the floor closes and the whole falsifies has a literal from the floor on
    some_after : (floor : ℕ) → is_closed_at (literals (take floor es)) (clause_at known conflict) ≡ true → 1 ≤ count_seen seen (drop floor es)
    some_after floor closed =
        elim (or_cases (list_any (holds (literals (take floor es))) c) (leb 2 (count_free (literals (take floor es)) c)) closed) as (λ _. 1 ≤ count_seen seen (drop floor es)) [
          | inl true_one ↦
              let l = any_at (holds (literals (take floor es))) c true_one in
              let k = holds_take es floor l.0 l.2 in
              let held : holds (literals es) l.0 ≡ true = subst (λ (m : Literal). holds (literals es) m ≡ true) k.3 (holds_entry es k.0 k.2) in
              absurd (once_apart (literals es) l.0 trail_once held (fals l.0 l.1))
          | inr two ↦
              let l = some_free_in (literals (take floor es)) c (let t = leb-true 2 (count_free (literals (take floor es)) c) two in omega (arith, t)) in
              let k = entry_of_holds es (negation l.0) (fals l.0 l.1) in
              elim (cases_le floor k.0) as (λ _. 1 ≤ count_seen seen (drop floor es)) [
                | inl above ↦
                    let low = among_low variables (entry_at es k.0).literal (apart.among k.0 k.1) in
                    let var : variable_at es k.0 ≡ (l.0).variable = ap (λ (m : Literal). m.variable) k.2 in
                    let seen_k : is_seen seen (variable_at es k.0) ≡ true = marks (variable_at es k.0) low ∙ subst (λ (v : ℕ). mentions c v ≡ true) (sym var) (mentions_from c l.0 l.1) in
                    let n = length-drop floor es in
                    let inside : k.0 - floor < length (drop floor es) = omega (arith, n, above, k.1) in
                    let back : floor + (k.0 - floor) ≡ k.0 = omega (arith, above) in
                    let same_entry : entry_at (drop floor es) (k.0 - floor) ≡ entry_at es k.0 = get_or-drop floor es (k.0 - floor) no_entry ∙ ap (λ (j : ℕ). entry_at es j) back in
                    count_seen-pos seen (drop floor es) (k.0 - floor) inside (subst (λ (e : Entry). is_seen_entry seen e ≡ true) (sym same_entry) seen_k)
                | inr below ↦
                    let len = length-take floor es in
                    let short : k.0 < length (take floor es) = omega (arith, len, below, k.1) in
                    let m = mentions_entry (take floor es) k.0 short in
                    let e : variable_at (take floor es) k.0 ≡ (l.0).variable = ap (λ (x : Entry). x.literal.variable) (get_or-take floor es k.0 no_entry below) ∙ ap (λ (x : Literal). x.variable) k.2 in
                    absurd (both_ways (mentions (literals (take floor es)) (l.0).variable) (not-true (mentions (literals (take floor es)) (l.0).variable) l.2) (subst (λ (v : ℕ). mentions (literals (take floor es)) v ≡ true) e m))
              ]
        ]
      where
        c : List Literal
        c = clause_at known conflict

        fals : (l : Literal) → holds (clause_at known conflict) l ≡ true → holds (literals es) (negation l) ≡ true
        fals l h = all_at (λ m. holds (literals es) (negation m)) (clause_at known conflict) l false_clause.1 h

    pub analysis_start : (floor keep count : ℕ) → IsLevel known (literals (take floor es)) keep → count ≡ count_seen seen (drop floor es) → length seen ≡ variables
        → IsAnalysis variables known es floor keep (length es) count (record { clause = conflict; pivot = 0 } ∷ []) seen
    analysis_start floor keep count level counted len = record {
      resolving = record {
        chain = and_from (is_number known conflict) true false_clause.0 refl;
        regular = refl;
        marks = represents_from (literals es) trail_once (clause_at known conflict) seen
            (λ l h. all_at (λ m. holds (literals es) (negation m)) (clause_at known conflict) l false_clause.1 h)
            (λ l h. marks l.variable (among_low variables (negation l) (all_at (is_among variables) (literals es) (negation l) ((apart_once variables es apart).1) h)));
      };
      counted = counted;
      kept = enough keep level;
      none = λ k low l. absurd (omega (arith, low, l));
      pivots = tt;
      short = omega arith;
      len = len;
    }
      where
        enough : (n : ℕ) → IsLevel known (literals (take floor es)) n → n ≤ count
        enough zero lv = omega arith
        enough (suc n) lv =
            let closed = all_clauses_closed known (literals (take floor es)) conflict false_clause.0 lv.1 in
            let one = some_after floor closed in
            omega (arith, one, counted, lv.0)

-- an entry that is not marked is passed over
pub analysis_down : (variables : ℕ) (known : List (List Literal)) (es : List Entry) (floor keep position count : ℕ) (hints : List Hint) (seen : List Bool) → position < length es
    → is_seen_entry seen (entry_at es position) ≡ false → IsAnalysis variables known es floor keep (position + 1) count hints seen → IsAnalysis variables known es floor keep position count hints seen
analysis_down variables known es floor keep position count hints seen inside unmarked a = record {
  resolving = a.resolving;
  counted = a.counted;
  kept = a.kept;
  none = λ k low l. elim (cases_le (position + 1) k) as (λ _. is_seen_entry seen (entry_at es k) ≡ false) [
    | inl above ↦ a.none k above l
    | inr below ↦ let one : k ≡ position = omega (arith, low, below) in subst (λ (n : ℕ). is_seen_entry seen (entry_at es n) ≡ false) (sym one) unmarked
  ];
  pivots = pivots_later es position hints a.pivots;
  short = omega (arith, inside);
  len = a.len;
}

-- with the level done down to its first entry, that one alone is marked
pub analysis_end : (variables : ℕ) (known : List (List Literal)) (es : List Entry) (floor count : ℕ) (hints : List Hint) (seen : List Bool) → IsAnalysis variables known es floor 1 (floor + 1) count hints seen
    → (count_seen seen (drop floor es) ≡ 1) × HasPivotsFrom es floor hints
analysis_end variables known es floor count hints seen a =
    let bound = count_between seen es floor (floor + 1) a.none in
    let counted = a.counted in
    let kept = a.kept in
    (omega (arith, bound, counted, kept), pivots_later es floor hints a.pivots)
