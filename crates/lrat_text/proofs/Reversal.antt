-- A regular chain of resolutions read from its end: each hint is a unit, up to the first of the chain, which is false.
use Rattle.std.proofs.Common.{◌≡◌, ℕ, Bool, true, false, not, ◌&&◌, ◌||◌, cond, List, [], ◌∷◌, ◌++◌, ◌⊎◌, eqb, refl, sym, ◌∙◌, ap, subst, inl, inr, append_assoc}
use Rattle.std.specs.Prelude.{Option, Some, unwrap_or, filter}
use Rattle.std.proofs.Math.Bool.{beq}
use Rattle.std.specs.List.{list_all}
use Rattle.std.proofs.lemmas.List.Folds.{list_all-append}
use Rattle.std.proofs.lemmas.Bool.{and_parts, and_from, or_cases, or_from, or_left, or_right, false≢true, not-true, not_from_false, both_ways, eqb-true, eq-eqb, false_from_ne_true}
use Rattle.resolution_proof.specs.declared.literal.Literal.{Literal}
use Rattle.resolution_proof.specs.declared.log.Hint.{Hint}
use Rattle.resolution_proof.specs.Literal.{negation, same, is_on, holds, mentions}
use Rattle.resolution_proof.specs.Clause.{is_same_set, resolvent}
use Rattle.resolution_proof.specs.Replay.{is_number, clause_at, is_clash, opposes, fits, resolvent_by, is_chain, chain_end, survives, names_chain, derives}
use Rattle.resolution_proof.specs.Regular.{avoids, is_regular_after}
use Rattle.resolution_proof.proofs.Sets.{beq-true, same-true, same-refl, literal_ext, all_at, all_from, mentions_from, holds_from_mentions, holds-resolvent}
use Rattle.resolution_proof.proofs.Laws.{NoClash, resolvent_apart}
use Rattle.lrat_text.specs.declared.judged.Judged.{Judged}
use Rattle.lrat_text.specs.declared.judged.Judged.TheVariants.{Conflict, Forces, Neither}
use Rattle.lrat_text.specs.Hints.{Store, clause_in, open_of, judged_left, judged, after_judged, hints_fault}

-- the hint as a number of a proof's text
abbrev pub hint_of : Hint → Literal
hint_of h = record { variable = h.clause; positive = true }

-- the hints' numbers, the last first
abbrev pub hint_list : List Hint → List Literal
hint_list [] = []
hint_list (h ∷ hs) = hint_list hs ++ hint_of h ∷ []

-- none of the hints resolves on the variable
abbrev pub passes : List Hint → ℕ → Bool
passes hs v = list_all (λ h. not (eqb v h.pivot)) hs

-- the set mentions no variable on which one of the hints resolves
abbrev pub is_free_of : List Literal → List Hint → Bool
is_free_of set hs = list_all (λ h. not (mentions set h.pivot)) hs

-- what a filter leaves
holds_filtered : (p : Literal → Bool) (xs : List Literal) (l : Literal) → holds (filter p xs) l ≡ true → (holds xs l ≡ true) × (p l ≡ true)
holds_filtered p [] l h = absurd (false≢true h)
holds_filtered p (x ∷ xs) l h = step (holds_filtered p xs l) (p x) refl h
  where
    step : (holds (filter p xs) l ≡ true → (holds xs l ≡ true) × (p l ≡ true)) → (b : Bool) → p x ≡ b → holds (cond b (x ∷ filter p xs) (filter p xs)) l ≡ true → ((same x l || holds xs l) ≡ true) × (p l ≡ true)
    step ih true e g = elim (or_cases (same x l) (holds (filter p xs) l) g) as (λ _. ((same x l || holds xs l) ≡ true) × (p l ≡ true)) [
      | inl here ↦ (or_left (same x l) (holds xs l) here, subst (λ (y : Literal). p y ≡ true) (same-true x l here) e)
      | inr there ↦ let r = ih there in (or_right (same x l) (holds xs l) r.0, r.1)
    ]
    step ih false e g = let r = ih g in (or_right (same x l) (holds xs l) r.0, r.1)

filtered_holds : (p : Literal → Bool) (xs : List Literal) (l : Literal) → holds xs l ≡ true → p l ≡ true → holds (filter p xs) l ≡ true
filtered_holds p [] l h t = absurd (false≢true h)
filtered_holds p (x ∷ xs) l h t = step (λ more. filtered_holds p xs l more t) (p x) refl
  where
    step : (holds xs l ≡ true → holds (filter p xs) l ≡ true) → (b : Bool) → p x ≡ b → holds (cond b (x ∷ filter p xs) (filter p xs)) l ≡ true
    step ih true e = elim (or_cases (same x l) (holds xs l) h) as (λ _. holds (x ∷ filter p xs) l ≡ true) [
      | inl here ↦ or_left (same x l) (holds (filter p xs) l) here
      | inr there ↦ or_right (same x l) (holds (filter p xs) l) (ih there)
    ]
    step ih false e = elim (or_cases (same x l) (holds xs l) h) as (λ _. holds (filter p xs) l ≡ true) [
      | inl here ↦ absurd (both_ways (p x) e (subst (λ (y : Literal). p y ≡ true) (sym (same-true x l here)) t))
      | inr there ↦ ih there
    ]

-- literals of one variable are the same, or one is the other's negation
same_or_negation : (a b : Literal) → a.variable ≡ b.variable → (a ≡ b) ⊎ (a ≡ negation b)
same_or_negation a b v = by_sign a.positive b.positive refl refl
  where
    by_sign : (p q : Bool) → a.positive ≡ p → b.positive ≡ q → (a ≡ b) ⊎ (a ≡ negation b)
    by_sign true true e f = inl (literal_ext a b v (e ∙ sym f))
    by_sign true false e f = inr (literal_ext a (negation b) v (e ∙ ap not (sym f)))
    by_sign false true e f = inr (literal_ext a (negation b) v (e ∙ ap not (sym f)))
    by_sign false false e f = inl (literal_ext a b v (e ∙ sym f))

-- where the literals that are left are one, which is not true, it is forced
one_left : (set os : List Literal) (u : Literal) → list_all (same u) os ≡ true → holds os u ≡ true → holds set u ≡ false → judged_left set os ≡ Forces u
one_left set [] u all h n = absurd (false≢true h)
one_left set (o ∷ os) u all h n =
    let parts = and_parts (same u o) (list_all (same u) os) all in
    let one : u ≡ o = same-true u o parts.0 in
    subst (λ (x : Literal). cond (not (holds set x) && list_all (same x) os) (Forces x) Neither ≡ Forces u) one (step (holds set u) n (list_all (same u) os) parts.1)
  where
    step : (t : Bool) → t ≡ false → (s : Bool) → s ≡ true → cond (not t && s) (Forces u) Neither ≡ Forces u
    step true e s f = absurd (false≢true (sym e))
    step false e true f = refl
    step false e false f = absurd (false≢true f)

unit_forces : (set b : List Literal) (u : Literal) → holds b u ≡ true → holds set u ≡ false → holds set (negation u) ≡ false
    → ((l : Literal) → holds b l ≡ true → holds set (negation l) ≡ false → same u l ≡ true) → judged set b ≡ Forces u
unit_forces set b u h n m only =
    one_left set (open_of set b) u
    (all_from (same u) (open_of set b) (λ l e. let r = holds_filtered (λ k. not (holds set (negation k))) b l e in only l r.0 (not-true (holds set (negation l)) r.1)))
    (filtered_holds (λ k. not (holds set (negation k))) b u h (not_from_false (holds set (negation u)) m)) n

-- where each literal is false, the clause is
pub all_false_conflict : (set b : List Literal) → ((l : Literal) → holds b l ≡ true → holds set (negation l) ≡ true) → judged set b ≡ Conflict
all_false_conflict set b f = none_left (open_of set b) (λ l e. let r = holds_filtered (λ k. not (holds set (negation k))) b l e in both_ways (holds set (negation l)) (not-true (holds set (negation l)) r.1) (f l r.0))
  where
    none_left : (os : List Literal) → ((l : Literal) → holds os l ≡ true → ⊥) → judged_left set os ≡ Conflict
    none_left [] g = refl
    none_left (o ∷ os) g = absurd (g o (or_left (same o o) (holds os o) (same-refl o)))

-- a fact of the variables of a set
pub mentions_none : (s : List Literal) (v : ℕ) → ((l : Literal) → holds s l ≡ true → l.variable ≡ v → ⊥) → mentions s v ≡ false
mentions_none s v f = false_from_ne_true (mentions s v) (λ h. let r = holds_from_mentions s v h in f r.0 r.1 r.2)

not_of : (s : List Literal) (v : ℕ) (l : Literal) → mentions s v ≡ false → holds s l ≡ true → l.variable ≡ v → ⊥
not_of s v l n h e = both_ways (mentions s v) n (subst (λ (w : ℕ). mentions s w ≡ true) e (mentions_from s l h))

-- a clause that avoids the hints mentions none of their variables
avoided : (earlier : List Hint) (b : List Literal) (v : ℕ) → avoids earlier b ≡ true → passes earlier v ≡ false → mentions b v ≡ false
avoided earlier b v a p = mentions_none b v (λ l h e. both_ways (passes earlier v) p (subst (λ (w : ℕ). passes earlier w ≡ true) e (all_at (survives earlier) b l a h)))

passes_more : (earlier : List Hint) (h : Hint) (v : ℕ) → passes (earlier ++ h ∷ []) v ≡ (passes earlier v && (not (eqb v h.pivot) && true))
passes_more earlier h v = list_all-append (λ (g : Hint). not (eqb v g.pivot)) earlier (h ∷ [])

and_false : (a b : Bool) → a ≡ false → (a && b) ≡ false
and_false true b e = absurd (false≢true (sym e))
and_false false b e = refl

passes_still : (earlier : List Hint) (h : Hint) (v : ℕ) → passes earlier v ≡ false → passes (earlier ++ h ∷ []) v ≡ false
passes_still earlier h v p = passes_more earlier h v ∙ and_false (passes earlier v) (not (eqb v h.pivot) && true) p

passes_last : (earlier : List Hint) (h : Hint) → passes (earlier ++ h ∷ []) h.pivot ≡ false
passes_last earlier h = passes_more earlier h h.pivot ∙ step (passes earlier h.pivot) (eqb h.pivot h.pivot) (eq-eqb h.pivot h.pivot refl)
  where
    step : (a b : Bool) → b ≡ true → (a && (not b && true)) ≡ false
    step true true e = refl
    step false true e = refl
    step a false e = absurd (false≢true e)

off_resolvent : (p : ℕ) (a b : List Literal) (v : ℕ) → mentions a v ≡ false → mentions b v ≡ false → mentions (resolvent p a b) v ≡ false
off_resolvent p a b v na nb =
    mentions_none (resolvent p a b) v (λ l h e.
    let parts = and_parts (not (is_on p l)) (holds a l || holds b l) (sym (holds-resolvent p a b l) ∙ h) in
    elim (or_cases (holds a l) (holds b l) parts.1) as (λ _. ⊥) [ inl x ↦ not_of a v l na x e | inr y ↦ not_of b v l nb y e ])

own_resolvent : (p : ℕ) (a b : List Literal) → mentions (resolvent p a b) p ≡ false
own_resolvent p a b =
    mentions_none (resolvent p a b) p (λ l h e.
    let parts = and_parts (not (is_on p l)) (holds a l || holds b l) (sym (holds-resolvent p a b l) ∙ h) in
    both_ways (is_on p l) (not-true (is_on p l) parts.0) (eq-eqb l.variable p e))

module _ (known : List (List Literal)) where
  -- later hints resolve on other variables
  pivots_apart : (earlier : List Hint) (a : List Literal) (hs : List Hint) (v : ℕ) → is_chain known a hs ≡ true → is_regular_after known earlier hs ≡ true → passes earlier v ≡ false → passes hs v ≡ true
  pivots_apart earlier a [] v chain regular p = refl
  pivots_apart earlier a (h ∷ hs) v chain regular p =
      let b = clause_at known h.clause in
      let parts = and_parts (fits known a h) (is_chain known (resolvent_by known a h) hs) chain in
      let fit = and_parts (is_number known h.clause) (is_clash h.pivot a b) parts.0 in
      let clash = and_parts (mentions b h.pivot) (opposes h.pivot a b) fit.1 in
      let reg = and_parts (avoids earlier b) (is_regular_after known (earlier ++ h ∷ []) hs) regular in
      let off : mentions b v ≡ false = avoided earlier b v reg.0 p in
      let other : eqb v h.pivot ≡ false = false_from_ne_true (eqb v h.pivot) (λ e. both_ways (mentions b v) off (subst (λ (w : ℕ). mentions b w ≡ true) (sym (eqb-true v h.pivot e)) clash.0)) in
      and_from (not (eqb v h.pivot)) (passes hs v) (not_from_false (eqb v h.pivot) other)
      (pivots_apart (earlier ++ h ∷ []) (resolvent_by known a h) hs v parts.1 reg.1 (passes_still earlier h v p))

  -- a variable of an earlier pivot that is gone does not come back
  end_without : (earlier : List Hint) (a : List Literal) (hs : List Hint) (v : ℕ) → is_regular_after known earlier hs ≡ true → passes earlier v ≡ false → mentions a v ≡ false → mentions (chain_end known a hs) v ≡ false
  end_without earlier a [] v regular p n = n
  end_without earlier a (h ∷ hs) v regular p n =
      let b = clause_at known h.clause in
      let reg = and_parts (avoids earlier b) (is_regular_after known (earlier ++ h ∷ []) hs) regular in
      end_without (earlier ++ h ∷ []) (resolvent_by known a h) hs v reg.1 (passes_still earlier h v p) (off_resolvent h.pivot a b v n (avoided earlier b v reg.0 p))

  -- the chain's end mentions none of its pivots
  pub end_free : (earlier : List Hint) (a : List Literal) (hs : List Hint) → is_regular_after known earlier hs ≡ true → is_free_of (chain_end known a hs) hs ≡ true
  end_free earlier a [] regular = refl
  end_free earlier a (h ∷ hs) regular =
      let b = clause_at known h.clause in
      let reg = and_parts (avoids earlier b) (is_regular_after known (earlier ++ h ∷ []) hs) regular in
      let r = resolvent_by known a h in
      let here = end_without (earlier ++ h ∷ []) r hs h.pivot reg.1 (passes_last earlier h) (own_resolvent h.pivot a b) in
      and_from (not (mentions (chain_end known r hs) h.pivot)) (is_free_of (chain_end known r hs) hs) (not_from_false (mentions (chain_end known r hs) h.pivot) here) (end_free (earlier ++ h ∷ []) r hs reg.1)

-- the clauses that are known are in the store, under their numbers
abbrev pub HasClauses : List (List Literal) → Store → Type 0
HasClauses known store = (n : ℕ) → is_number known n ≡ true → store n ≡ Some (clause_at known n)

-- none of them has both literals of a variable
abbrev pub AreApart : List (List Literal) → Type 0
AreApart known = (n : ℕ) → is_number known n ≡ true → NoClash (clause_at known n)

-- the hints lead from the set to literals under which the clause is false
pub record Reached (store : Store) (set : List Literal) (hs : List Hint) (a : List Literal) : Type 0 where
  pub after : List Literal
  pub walk : (rest : List Literal) → hints_fault store set (hint_list hs ++ rest) ≡ hints_fault store after rest
  pub falsifies : (l : Literal) → holds a l ≡ true → holds after (negation l) ≡ true
  pub free : (v : ℕ) → mentions set v ≡ false → passes hs v ≡ true → mentions after v ≡ false

module _ (known : List (List Literal)) (store : Store) (has : HasClauses known store) (apart : AreApart known) where
  pub stored : (n : ℕ) → is_number known n ≡ true → clause_in store n ≡ clause_at known n
  stored n h = ap (λ (o : Option (List Literal)). unwrap_or o []) (has n h)

  -- a hint whose clause is a unit
  unit_step : (set : List Literal) (h : Hint) (rest : List Literal) (u : Literal) → is_number known h.clause ≡ true → judged set (clause_at known h.clause) ≡ Forces u
      → hints_fault store set (hint_of h ∷ rest) ≡ hints_fault store (u ∷ set) rest
  unit_step set h rest u n f =
      ap (λ (b : List Literal). after_judged (judged set b) (λ l. hints_fault store (l ∷ set) rest) rest) (stored h.clause n)
      ∙ ap (λ (j : Judged). after_judged j (λ l. hints_fault store (l ∷ set) rest) rest) f

  -- one hint more, before those of a resolvent
  one_more : (set : List Literal) (a : List Literal) (h : Hint) (hs : List Hint) → NoClash a → is_number known h.clause ≡ true → is_clash h.pivot a (clause_at known h.clause) ≡ true → passes hs h.pivot ≡ true → mentions set h.pivot ≡ false
      → Reached store set hs (resolvent_by known a h) → Reached store set (h ∷ hs) a
  one_more set a h hs na n clash ph ms r =
      record {
        after = u ∷ r.after;
        walk = λ rest. ap (hints_fault store set) (append_assoc (hint_list hs) (hint_of h ∷ []) rest) ∙ r.walk (hint_of h ∷ rest) ∙ unit_step r.after h rest u n forced;
        falsifies = falsified;
        free = λ v m p. freed v m p;
      }
    where
      b : List Literal
      b = clause_at known h.clause

      parts : (mentions b h.pivot ≡ true) × (opposes h.pivot a b ≡ true)
      parts = and_parts (mentions b h.pivot) (opposes h.pivot a b) clash

      u : Literal
      u = (holds_from_mentions b h.pivot parts.0).0

      u_in : holds b u ≡ true
      u_in = (holds_from_mentions b h.pivot parts.0).1

      u_on : u.variable ≡ h.pivot
      u_on = (holds_from_mentions b h.pivot parts.0).2

      gone : mentions r.after h.pivot ≡ false
      gone = r.free h.pivot ms ph

      nb : NoClash b
      nb = apart h.clause n

      off_false : (l : Literal) → is_on h.pivot l ≡ false → (holds a l || holds b l) ≡ true → holds r.after (negation l) ≡ true
      off_false l e g = r.falsifies l (holds-resolvent h.pivot a b l ∙ and_from (not (is_on h.pivot l)) (holds a l || holds b l) (not_from_false (is_on h.pivot l) e) g)

      only : (l : Literal) → holds b l ≡ true → holds r.after (negation l) ≡ false → same u l ≡ true
      only l g m = by_on (is_on h.pivot l) refl
        where
          by_on : (s : Bool) → is_on h.pivot l ≡ s → same u l ≡ true
          by_on true e = elim (same_or_negation u l (u_on ∙ sym (eqb-true l.variable h.pivot e))) as (λ _. same u l ≡ true) [
            | inl one ↦ subst (λ (x : Literal). same u x ≡ true) one (same-refl u)
            | inr other ↦ absurd (nb l g (subst (λ (x : Literal). holds b x ≡ true) other u_in))
          ]
          by_on false e = absurd (both_ways (holds r.after (negation l)) m (off_false l e (or_right (holds a l) (holds b l) g)))

      absent : (l : Literal) → l.variable ≡ h.pivot → holds r.after l ≡ false
      absent l e = false_from_ne_true (holds r.after l) (λ g. not_of r.after h.pivot l gone g e)

      forced : judged r.after b ≡ Forces u
      forced = unit_forces r.after b u u_in (absent u u_on) (absent (negation u) u_on) only

      against : holds a (negation u) ≡ true
      against = sym (beq-true (is_on h.pivot u) (holds a (negation u)) (all_at (λ l. beq (is_on h.pivot l) (holds a (negation l))) b u parts.1 u_in)) ∙ eq-eqb u.variable h.pivot u_on

      falsified : (l : Literal) → holds a l ≡ true → holds (u ∷ r.after) (negation l) ≡ true
      falsified l g = by_on (is_on h.pivot l) refl
        where
          by_on : (s : Bool) → is_on h.pivot l ≡ s → (same u (negation l) || holds r.after (negation l)) ≡ true
          by_on true e = elim (same_or_negation u l (u_on ∙ sym (eqb-true l.variable h.pivot e))) as (λ _. (same u (negation l) || holds r.after (negation l)) ≡ true) [
            | inl one ↦ absurd (na u (subst (λ (x : Literal). holds a x ≡ true) (sym one) g) against)
            | inr other ↦ or_left (same u (negation l)) (holds r.after (negation l)) (subst (λ (x : Literal). same u x ≡ true) other (same-refl u))
          ]
          by_on false e = or_right (same u (negation l)) (holds r.after (negation l)) (off_false l e (or_left (holds a l) (holds b l) g))

      freed : (v : ℕ) → mentions set v ≡ false → passes (h ∷ hs) v ≡ true → mentions (u ∷ r.after) v ≡ false
      freed v m p =
          let ps = and_parts (not (eqb v h.pivot)) (passes hs v) p in
          let apart_from : eqb u.variable v ≡ false = false_from_ne_true (eqb u.variable v) (λ e. both_ways (eqb v h.pivot) (not-true (eqb v h.pivot) ps.0) (eq-eqb v h.pivot (sym (eqb-true u.variable v e) ∙ u_on))) in
          or_from (is_on v u) (mentions r.after v) apart_from (r.free v m ps.1)

  pub reached : (earlier : List Hint) (set a : List Literal) (hs : List Hint) → NoClash a → is_chain known a hs ≡ true → is_regular_after known earlier hs ≡ true
      → ((l : Literal) → holds (chain_end known a hs) l ≡ true → holds set (negation l) ≡ true) → is_free_of set hs ≡ true → Reached store set hs a
  reached earlier set a [] na chain regular false_end free = record { after = set; walk = λ rest. refl; falsifies = false_end; free = λ v m p. m }
  reached earlier set a (h ∷ hs) na chain regular false_end free =
      let b = clause_at known h.clause in
      let parts = and_parts (fits known a h) (is_chain known (resolvent_by known a h) hs) chain in
      let fit = and_parts (is_number known h.clause) (is_clash h.pivot a b) parts.0 in
      let reg = and_parts (avoids earlier b) (is_regular_after known (earlier ++ h ∷ []) hs) regular in
      let frees = and_parts (not (mentions set h.pivot)) (is_free_of set hs) free in
      let later = pivots_apart known (earlier ++ h ∷ []) (resolvent_by known a h) hs h.pivot parts.1 reg.1 (passes_last earlier h) in
      one_more set a h hs na fit.0 fit.1 later (not-true (mentions set h.pivot) frees.0)
      (reached (earlier ++ h ∷ []) set (resolvent_by known a h) hs (resolvent_apart h.pivot a b na (apart h.clause fit.0) fit.1) parts.1 reg.1 false_end frees.1)

  -- no chain's clause has both literals of a variable
  pub chain_apart : (a : List Literal) (hs : List Hint) → NoClash a → is_chain known a hs ≡ true → NoClash (chain_end known a hs)
  chain_apart a [] na chain = na
  chain_apart a (h ∷ hs) na chain =
      let b = clause_at known h.clause in
      let parts = and_parts (fits known a h) (is_chain known (resolvent_by known a h) hs) chain in
      let fit = and_parts (is_number known h.clause) (is_clash h.pivot a b) parts.0 in
      chain_apart (resolvent_by known a h) hs (resolvent_apart h.pivot a b na (apart h.clause fit.0) fit.1) parts.1

-- what holds of each number of a clause holds of the hints of a chain
hints_more : (p : Literal → Bool) (hs : List Hint) (h : Hint) → p (hint_of h) ≡ true → list_all p (hint_list hs) ≡ true → list_all p (hint_list hs ++ hint_of h ∷ []) ≡ true
hints_more p hs h n k =
    list_all-append p (hint_list hs) (hint_of h ∷ []) ∙ and_from (list_all p (hint_list hs)) (p (hint_of h) && true) k (and_from (p (hint_of h)) true n refl)

chain_hints : (p : Literal → Bool) (known : List (List Literal)) (a : List Literal) (hs : List Hint) → ((h : Hint) → is_number known h.clause ≡ true → p (hint_of h) ≡ true) → is_chain known a hs ≡ true → list_all p (hint_list hs) ≡ true
chain_hints p known a [] f chain = refl
chain_hints p known a (h ∷ hs) f chain =
    let parts = and_parts (fits known a h) (is_chain known (resolvent_by known a h) hs) chain in
    let fit = and_parts (is_number known h.clause) (is_clash h.pivot a (clause_at known h.clause)) parts.0 in
    hints_more p hs h (f h fit.0) (chain_hints p known (resolvent_by known a h) hs f parts.1)

pub derived_hints : (p : Literal → Bool) (known : List (List Literal)) (hints : List Hint) (c : List Literal) → ((h : Hint) → is_number known h.clause ≡ true → p (hint_of h) ≡ true)
    → derives known hints c ≡ true → list_all p (hint_list hints) ≡ true
derived_hints p known [] c f d = refl
derived_hints p known (h ∷ hs) c f d =
    let a = clause_at known h.clause in
    let chain = and_parts (is_number known h.clause) (is_chain known a hs) (and_parts (names_chain known (h ∷ hs)) (is_same_set (chain_end known a hs) c) d).0 in
    hints_more p hs h (f h chain.0) (chain_hints p known a hs f chain.1)
