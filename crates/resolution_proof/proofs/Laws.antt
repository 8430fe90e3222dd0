-- The laws of logs: what replays follows from the formula, and what is fresh contains no earlier clause.
use Rattle.std.proofs.Common.{◌≡◌, ℕ, zero, suc, ◌+◌, ◌-◌, ◌<◌, ◌≤◌, Bool, true, false, not, ◌&&◌, ◌||◌, cond, List, [], ◌∷◌, ◌++◌, length, get_or, eqb, leb, refl, sym, ◌∙◌, ap, subst, inl, inr, arith, append_assoc, append-nil}
use Rattle.std.proofs.Math.Bool.{beq}
use Rattle.std.specs.List.{list_all, list_any}
use Rattle.std.proofs.lemmas.List.{map-append}
use Rattle.std.proofs.lemmas.List.Folds.{list_all-append}
use Rattle.std.proofs.lemmas.Bool.{and_parts, and_from, or_cases, or_left, or_right, false≢true, eqb-true, eqb-false, both_ways, not_from_false, not-true, false_from_ne_true, leb-true}
use Rattle.resolution_proof.specs.declared.literal.Literal.{Literal}
use Rattle.resolution_proof.specs.declared.log.Hint.{Hint}
use Rattle.resolution_proof.specs.declared.log.Step.{Step}
use Rattle.resolution_proof.specs.Literal.{negation, same, is_on, holds, mentions, is_once}
use Rattle.resolution_proof.specs.Clause.{is_within, is_clause, is_subset, is_same_set, resolvent}
use Rattle.resolution_proof.specs.Formula.{Formula, are_clauses, is_true, makes_true}
use Rattle.resolution_proof.specs.Replay.{learnt_clauses, is_number, clause_at, is_clash, opposes, fits, resolvent_by, is_chain, chain_end, names_chain, derives, replays_from, replay, Follows}
use Rattle.resolution_proof.specs.Fresh.{is_free, count_free, is_closed, is_closed_at, IsFresh, is_empty, FreshFrom, is_new, is_new_from}
use Rattle.resolution_proof.proofs.Sets.{beq-true, same-true, same-refl, literal_ext, negation-negation, all_at, any_at, any_from, mentions_from, once_apart, holds-resolvent}
use Rattle.resolution_proof.proofs.Chains.{and-true, and-assoc}

-- the set does not hold a literal and its negation
abbrev pub NoClash : List Literal → Type 0
NoClash a = (l : Literal) → holds a l ≡ true → holds a (negation l) ≡ true → ⊥

true_same : (bits : List Bool) (a b : Literal) → a.variable ≡ b.variable → is_true bits a ≡ true → is_true bits b ≡ true → a ≡ b
true_same bits a b e ta tb =
    let sa = beq-true (get_or bits (a.variable - 1) false) a.positive ta in
    let sb = beq-true (get_or bits (b.variable - 1) false) b.positive tb in
    literal_ext a b e (sym sa ∙ ap (λ (v : ℕ). get_or bits (v - 1) false) e ∙ sb)

resolvent_true : (bits : List Bool) (p : ℕ) (a b : List Literal) → NoClash a → is_clash p a b ≡ true → makes_true bits a ≡ true → makes_true bits b ≡ true → makes_true bits (resolvent p a b) ≡ true
resolvent_true bits p a b apart clash ta tb =
    let la = any_at (is_true bits) a ta in
    let lb = any_at (is_true bits) b tb in
    let opposed = (and_parts (mentions b p) (opposes p a b) clash).1 in
    by_sides la.0 la.1 la.2 lb.0 lb.1 lb.2 opposed (is_on p la.0) refl (is_on p lb.0) refl
  where
    by_sides : (x : Literal) → holds a x ≡ true → is_true bits x ≡ true → (y : Literal) → holds b y ≡ true → is_true bits y ≡ true → opposes p a b ≡ true → (s : Bool) → is_on p x ≡ s → (t : Bool) → is_on p y ≡ t → makes_true bits (resolvent p a b) ≡ true
    by_sides x hx tx y hy ty opposed false ex t ey =
        any_from (is_true bits) (resolvent p a b) x (holds-resolvent p a b x ∙ (let e : (not (is_on p x) && (holds a x || holds b x)) ≡ true = rw (ex, hx) refl in e)) tx
    by_sides x hx tx y hy ty opposed true ex false ey =
        any_from (is_true bits) (resolvent p a b) y (holds-resolvent p a b y ∙ (let e : (not (is_on p y) && (holds a y || holds b y)) ≡ true = rw ey (or_right (holds a y) (holds b y) hy) in e)) ty
    by_sides x hx tx y hy ty opposed true ex true ey =
        let one : x ≡ y = true_same bits x y (eqb-true x.variable p ex ∙ sym (eqb-true y.variable p ey)) tx ty in
        let against = all_at (λ l. beq (is_on p l) (holds a (negation l))) b y opposed hy in
        let negated : holds a (negation y) ≡ true = sym (beq-true (is_on p y) (holds a (negation y)) against) ∙ ey in
        absurd (apart y (subst (λ (l : Literal). holds a l ≡ true) one hx) negated)

pub resolvent_apart : (p : ℕ) (a b : List Literal) → NoClash a → NoClash b → is_clash p a b ≡ true → NoClash (resolvent p a b)
resolvent_apart p a b na nb clash l h n =
    let opposed = (and_parts (mentions b p) (opposes p a b) clash).1 in
    let hp = and_parts (not (is_on p l)) (holds a l || holds b l) (sym (holds-resolvent p a b l) ∙ h) in
    let np = and_parts (not (is_on p (negation l))) (holds a (negation l) || holds b (negation l)) (sym (holds-resolvent p a b (negation l)) ∙ n) in
    let off = not-true (is_on p l) hp.0 in
    elim (or_cases (holds a l) (holds b l) hp.1) as (λ _. ⊥) [
      | inl l_a ↦ elim (or_cases (holds a (negation l)) (holds b (negation l)) np.1) as (λ _. ⊥) [
        | inl n_a ↦ na l l_a n_a
        | inr n_b ↦
            let against = all_at (λ m. beq (is_on p m) (holds a (negation m))) b (negation l) opposed n_b in
            let back : holds a (negation (negation l)) ≡ true = subst (λ (m : Literal). holds a m ≡ true) (sym (negation-negation l)) l_a in
            both_ways (is_on p l) off (beq-true (is_on p l) (holds a (negation (negation l))) against ∙ back)
      ]
      | inr l_b ↦ elim (or_cases (holds a (negation l)) (holds b (negation l)) np.1) as (λ _. ⊥) [
        | inl n_a ↦
            let against = all_at (λ m. beq (is_on p m) (holds a (negation m))) b l opposed l_b in
            both_ways (is_on p l) off (beq-true (is_on p l) (holds a (negation l)) against ∙ n_a)
        | inr n_b ↦ nb l l_b n_b
      ]
    ]

pub once_no_clash : (c : List Literal) → is_once c ≡ true → NoClash c
once_no_clash c once l h n = once_apart c l once h n

-- a fact of each clause holds of the clause of a number
pub number_all : (p : List Literal → Bool) (known : List (List Literal)) (n : ℕ) → list_all p known ≡ true → is_number known n ≡ true → p (clause_at known n) ≡ true
number_all p known n h number =
    let parts = and_parts (leb 1 n) (leb n (length known)) number in
    let low = leb-true 1 n parts.0 in
    let high = leb-true n (length known) parts.1 in
    at_position known (n - 1) (omega (arith, low, high)) h
  where
    at_position : (cs : List (List Literal)) (i : ℕ) → i < length cs → list_all p cs ≡ true → p (get_or cs i []) ≡ true
    at_position [] i l e = absurd (omega (arith, l))
    at_position (c ∷ cs) zero l e = (and_parts (p c) (list_all p cs) e).0
    at_position (c ∷ cs) (suc i) l e = at_position cs i (omega (arith, l)) ((and_parts (p c) (list_all p cs) e).1)

module _ (bits : List Bool) (known : List (List Literal)) (once : list_all is_once known ≡ true) (holds_all : list_all (makes_true bits) known ≡ true) where
  chain_true : (a : List Literal) (hs : List Hint) → NoClash a → makes_true bits a ≡ true → is_chain known a hs ≡ true → makes_true bits (chain_end known a hs) ≡ true
  chain_true a [] na ta h = ta
  chain_true a (g ∷ gs) na ta h =
      let c = clause_at known g.clause in
      let parts = and_parts (fits known a g) (is_chain known (resolvent_by known a g) gs) h in
      let fit = and_parts (is_number known g.clause) (is_clash g.pivot a c) parts.0 in
      let tc = number_all (makes_true bits) known g.clause holds_all fit.0 in
      let oc = number_all is_once known g.clause once fit.0 in
      chain_true (resolvent_by known a g) gs (resolvent_apart g.pivot a c na (once_no_clash c oc) fit.1) (resolvent_true bits g.pivot a c na fit.1 ta tc) parts.1

  derived_true : (hints : List Hint) (c : List Literal) → derives known hints c ≡ true → makes_true bits c ≡ true
  derived_true [] c h = absurd (false≢true h)
  derived_true (g ∷ gs) c h =
      let start = clause_at known g.clause in
      let parts = and_parts (names_chain known (g ∷ gs)) (is_same_set (chain_end known start gs) c) h in
      let chain = and_parts (is_number known g.clause) (is_chain known start gs) parts.0 in
      let subset = (and_parts (is_subset (chain_end known start gs) c) (is_subset c (chain_end known start gs)) parts.1).0 in
      let tr = chain_true start gs (once_no_clash start (number_all is_once known g.clause once chain.0)) (number_all (makes_true bits) known g.clause holds_all chain.0) chain.1 in
      let l = any_at (is_true bits) (chain_end known start gs) tr in
      any_from (is_true bits) c l.0 (all_at (λ m. holds c m) (chain_end known start gs) l.0 subset l.1) l.2

follows_from : (bits : List Bool) (known : List (List Literal)) (log : List Step) → list_all is_once known ≡ true → list_all is_once (learnt_clauses log) ≡ true → list_all (makes_true bits) known ≡ true → replays_from known log ≡ true → list_all (makes_true bits) (learnt_clauses log) ≡ true
follows_from bits known [] once more holds_all h = refl
follows_from bits known (s ∷ ss) once more holds_all h =
    let parts = and_parts (derives known s.hints s.clause) (replays_from (known ++ s.clause ∷ []) ss) h in
    let onces = and_parts (is_once s.clause) (list_all is_once (learnt_clauses ss)) more in
    let this = derived_true bits known once holds_all s.hints s.clause parts.0 in
    let once' = list_all-append is_once known (s.clause ∷ []) ∙ and_from (list_all is_once known) (is_once s.clause && true) once (and_from (is_once s.clause) true onces.0 refl) in
    let all' = list_all-append (makes_true bits) known (s.clause ∷ []) ∙ and_from (list_all (makes_true bits) known) (makes_true bits s.clause && true) holds_all (and_from (makes_true bits s.clause) true this refl) in
    and_from (makes_true bits s.clause) (list_all (makes_true bits) (learnt_clauses ss)) this (follows_from bits (known ++ s.clause ∷ []) ss once' onces.1 all' parts.1)

-- where clauses are over variables, they have none twice
pub clauses_once : (variables : ℕ) (cs : List (List Literal)) → are_clauses variables cs ≡ true → list_all is_once cs ≡ true
clauses_once variables [] h = refl
clauses_once variables (c ∷ cs) h =
    let parts = and_parts (is_clause variables c) (are_clauses variables cs) h in
    and_from (is_once c) (list_all is_once cs) (and_parts (is_once c) (is_within variables c) parts.0).0 (clauses_once variables cs parts.1)

-- a log that replays follows from the formula
pub follows : (f : Formula) (log : List Step) → list_all is_once f.clauses ≡ true → list_all is_once (learnt_clauses log) ≡ true → replay f log ≡ true → Follows f log
follows f log once more h bits s =
    follows_from bits f.clauses log once more ((and_parts (eqb (length bits) f.variables) (list_all (makes_true bits) f.clauses) s).1) h

-- where a clause has a free literal
pub some_free_in : (t xs : List Literal) → 1 ≤ count_free t xs → (l : Literal) × (holds xs l ≡ true) × (is_free t l ≡ true)
some_free_in t [] h = absurd (omega (arith, h))
some_free_in t (x ∷ xs) h = go (is_free t x) refl (λ more. some_free_in t xs more)
  where
    go : (b : Bool) → is_free t x ≡ b → (1 ≤ count_free t xs → (l : Literal) × (holds xs l ≡ true) × (is_free t l ≡ true)) → (l : Literal) × (holds (x ∷ xs) l ≡ true) × (is_free t l ≡ true)
    go true e ih = (x, or_left (same x x) (holds xs x) (same-refl x), e)
    go false e ih =
        let more : 1 ≤ count_free t xs = omega (arith, subst (λ (b : Bool). 1 ≤ cond b 1 0 + count_free t xs) e h) in
        let r = ih more in
        (r.0, or_right (same x r.0) (holds xs r.0) r.1, r.2)

-- of two literals that a set leaves free, one is not of a given variable
free_other : (t k : List Literal) (v : ℕ) → is_once k ≡ true → 2 ≤ count_free t k → (l : Literal) × (holds k l ≡ true) × (is_free t l ≡ true) × (l.variable ≡ v → ⊥)
free_other t [] v once h = absurd (omega (arith, h))
free_other t (x ∷ xs) v once h =
    let parts = and_parts (not (mentions xs x.variable)) (is_once xs) once in
    go (is_free t x) refl (eqb x.variable v) refl (not-true (mentions xs x.variable) parts.0) h (λ two. free_other t xs v parts.1 two)
  where
    go : (b : Bool) → is_free t x ≡ b → (s : Bool) → eqb x.variable v ≡ s → mentions xs x.variable ≡ false → 2 ≤ cond b 1 0 + count_free t xs → (2 ≤ count_free t xs → (l : Literal) × (holds xs l ≡ true) × (is_free t l ≡ true) × (l.variable ≡ v → ⊥)) → (l : Literal) × (holds (x ∷ xs) l ≡ true) × (is_free t l ≡ true) × (l.variable ≡ v → ⊥)
    go true e false s absent two ih = (x, or_left (same x x) (holds xs x) (same-refl x), e, eqb-false x.variable v s)
    go true e true s absent two ih =
        let r = some_free_in t xs (omega (arith, two)) in
        (r.0, or_right (same x r.0) (holds xs r.0) r.1, r.2, λ q. both_ways (mentions xs x.variable) absent (subst (λ (w : ℕ). mentions xs w ≡ true) (q ∙ sym (eqb-true x.variable v s)) (mentions_from xs r.0 r.1)))
    go false e s q absent two ih =
        let r = ih (omega (arith, two)) in
        (r.0, or_right (same x r.0) (holds xs r.0) r.1, r.2, r.3)

-- a fresh clause contains no clause for which the set is closed
not_within : (known : List (List Literal)) (c : List Literal) (f : IsFresh known c) (k : List Literal) → is_once k ≡ true → is_closed_at f.set k ≡ true → is_subset k c ≡ true → ⊥
not_within known c f k once closed subset =
    elim (or_cases (list_any (holds f.set) k) (leb 2 (count_free f.set k)) closed) as (λ _. ⊥) [
      | inl true_one ↦
          let l = any_at (holds f.set) k true_one in
          unit_false l.0 (in_c l.0 l.1) (λ one. both_ways (mentions f.set (f.literal).variable) free (subst (λ (v : ℕ). mentions f.set v ≡ true) (ap (λ (x : Literal). x.variable) one) (mentions_from f.set l.0 l.2)))
          (λ n. once_apart f.set l.0 f.once l.2 n)
      | inr two ↦
          let l = free_other f.set k (f.literal).variable once (leb-true 2 (count_free f.set k) two) in
          unit_false l.0 (in_c l.0 l.1) (λ one. l.3 (ap (λ (x : Literal). x.variable) one))
          (λ n. both_ways (mentions f.set (l.0).variable) (not-true (mentions f.set (l.0).variable) l.2) (mentions_from f.set (negation l.0) n))
    ]
  where
    free : mentions f.set (f.literal).variable ≡ false
    free = not-true (mentions f.set (f.literal).variable) f.free

    in_c : (l : Literal) → holds k l ≡ true → holds c l ≡ true
    in_c l h = all_at (λ m. holds c m) k l subset h

    unit_false : (l : Literal) → holds c l ≡ true → (l ≡ f.literal → ⊥) → (holds f.set (negation l) ≡ true → ⊥) → ⊥
    unit_false l h a b =
        elim (or_cases (same l f.literal) (holds f.set (negation l)) (all_at (λ m. same m f.literal || holds f.set (negation m)) c l f.others h)) as (λ _. ⊥) [
          | inl one ↦ a (same-true l f.literal one)
          | inr n ↦ b n
        ]

pub fresh_new : (known : List (List Literal)) (c : List Literal) → list_all is_once known ≡ true → IsFresh known c → is_new known c ≡ true
fresh_new known c once f = each known once f.closed
  where
    each : (ks : List (List Literal)) → list_all is_once ks ≡ true → is_closed f.set ks ≡ true → is_new ks c ≡ true
    each [] o cl = refl
    each (k ∷ ks) o cl =
        let os = and_parts (is_once k) (list_all is_once ks) o in
        let cs = and_parts (is_closed_at f.set k) (is_closed f.set ks) cl in
        and_from (not (is_subset k c)) (is_new ks c) (not_from_false (is_subset k c) (false_from_ne_true (is_subset k c) (not_within known c f k os.0 cs.0))) (each ks os.1 cs.1)

-- no step's clause of a fresh log contains an earlier clause
pub fresh_new_from : (known : List (List Literal)) (log : List Step) → list_all is_once known ≡ true → list_all is_once (learnt_clauses log) ≡ true → FreshFrom known log → is_new_from known log ≡ true
fresh_new_from known [] once more f = refl
fresh_new_from known (s ∷ ss) once more f =
    let onces = and_parts (is_once s.clause) (list_all is_once (learnt_clauses ss)) more in
    let once' = list_all-append is_once known (s.clause ∷ []) ∙ and_from (list_all is_once known) (is_once s.clause && true) once (and_from (is_once s.clause) true onces.0 refl) in
    and_from (is_empty s.clause || is_new known s.clause) (is_new_from (known ++ s.clause ∷ []) ss) (go (is_empty s.clause) refl) (fresh_new_from (known ++ s.clause ∷ []) ss once' onces.1 f.1)
  where
    go : (b : Bool) → is_empty s.clause ≡ b → (b || is_new known s.clause) ≡ true
    go true e = refl
    go false e = fresh_new known s.clause once (f.0 e)

-- one step more
pub replays_from-push : (known : List (List Literal)) (log : List Step) (s : Step) → replays_from known (log ++ s ∷ []) ≡ (replays_from known log && derives (known ++ learnt_clauses log) s.hints s.clause)
replays_from-push known [] s = and-true (derives known s.hints s.clause) ∙ ap (λ (k : List (List Literal)). derives k s.hints s.clause) (sym (append-nil known))
replays_from-push known (t ∷ ts) s =
    ap (λ (b : Bool). derives known t.hints t.clause && b) (replays_from-push (known ++ t.clause ∷ []) ts s ∙ ap (λ (k : List (List Literal)). replays_from (known ++ t.clause ∷ []) ts && derives k s.hints s.clause) (append_assoc known (t.clause ∷ []) (learnt_clauses ts)))
    ∙ sym (and-assoc (derives known t.hints t.clause) (replays_from (known ++ t.clause ∷ []) ts) (derives (known ++ learnt_clauses (t ∷ ts)) s.hints s.clause))

pub fresh_push : (known : List (List Literal)) (log : List Step) (s : Step) → FreshFrom known log → (is_empty s.clause ≡ false → IsFresh (known ++ learnt_clauses log) s.clause) → FreshFrom known (log ++ s ∷ [])
fresh_push known [] s f new = (λ e. subst (λ (k : List (List Literal)). IsFresh k s.clause) (append-nil known) (new e), tt)
fresh_push known (t ∷ ts) s f new =
    (f.0, fresh_push (known ++ t.clause ∷ []) ts s f.1 (λ e. subst (λ (k : List (List Literal)). IsFresh k s.clause) (sym (append_assoc known (t.clause ∷ []) (learnt_clauses ts))) (new e)))

pub learnt_clauses-push : (log : List Step) (s : Step) → learnt_clauses (log ++ s ∷ []) ≡ learnt_clauses log ++ s.clause ∷ []
learnt_clauses-push log s = map-append (λ (t : Step). t.clause) log (s ∷ [])
