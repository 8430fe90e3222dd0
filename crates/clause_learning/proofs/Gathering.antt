-- The marks of a conflict become a clause.
use Rattle.std.proofs.Common.{◌≡◌, ℕ, zero, suc, ◌+◌, ◌-◌, ◌<◌, ◌≤◌, Bool, true, false, not, ◌&&◌, ◌||◌, List, [], ◌∷◌, ◌++◌, length, set, drop, refl, sym, ◌∙◌, ap, subst, inl, inr, ◌⊎◌, arith}
use Rattle.std.proofs.lemmas.List.{length_push, length-set, get_or_push}
use Rattle.std.proofs.lemmas.List.Folds.{list_any-append}
use Rattle.std.proofs.lemmas.Bool.{and_parts, and_from, or_cases, or_left, or_right, or_from, or_parts, false≢true, cases_eq, both_ways, not_from_false, not-true, false_from_ne_true, ne_eqb, eqb-false}
use Rattle.resolution_proof.specs.declared.literal.Literal.{Literal}
use Rattle.clause_learning.specs.declared.trail.Entry.{Entry}
use Rattle.resolution_proof.specs.Literal.{negation, same, is_on, holds, mentions, is_once}
use Rattle.clause_learning.specs.Trail.{literals, entry_at, AreApart}
use Rattle.clause_learning.specs.Watching.{literal_at, no_literal}
use Rattle.clause_learning.specs.Learning.{is_seen, is_seen_entry, count_seen, Represents}
use Rattle.clause_learning.specs.Resolving.{NoneSeen}
use Rattle.clause_learning.specs.Gathering.{Gathers, IsGathering, IsFinished}
use Rattle.resolution_proof.proofs.Sets.{same-true, same-refl, negation-negation, mentions_from, holds_from_mentions, holds-append, among_low, among_high, once_same}
use Rattle.clause_learning.proofs.Entries.{variable_at, holds_entry, entry_of_holds, mentions_entry}
use Rattle.clause_learning.proofs.Marking.{apart_once, seen-set_same, seen-set_other, count_between}
use Rattle.clause_learning.proofs.Resolution.{cases_le}
use Rattle.clause_learning.proofs.LearntClauses.{one_marked}

-- a literal of a new variable comes last
once_push : (c : List Literal) (x : Literal) → is_once c ≡ true → mentions c x.variable ≡ false → is_once (c ++ x ∷ []) ≡ true
once_push [] x h m = refl
once_push (y ∷ ys) x h m =
    let parts = and_parts (not (mentions ys y.variable)) (is_once ys) h in
    let off = or_parts (is_on x.variable y) (mentions ys x.variable) m in
    let other : is_on y.variable x ≡ false = ne_eqb x.variable y.variable (λ e. eqb-false y.variable x.variable off.0 (sym e)) in
    let absent : mentions (ys ++ x ∷ []) y.variable ≡ false = list_any-append (is_on y.variable) ys (x ∷ [])
    ∙ or_from (mentions ys y.variable) (is_on y.variable x || false) (not-true (mentions ys y.variable) parts.0) (or_from (is_on y.variable x) false other refl) in
    and_from (not (mentions (ys ++ x ∷ []) y.variable)) (is_once (ys ++ x ∷ [])) (not_from_false (mentions (ys ++ x ∷ []) y.variable) absent) (once_push ys x parts.1 off.1)

-- what a clause with one literal more holds
holds_push : (c : List Literal) (x l : Literal) → holds (c ++ x ∷ []) l ≡ true → (holds c l ≡ true) ⊎ (x ≡ l)
holds_push c x l h =
    elim (or_cases (holds c l) (same x l || false) (sym (holds-append c (x ∷ []) l) ∙ h)) as (λ _. (holds c l ≡ true) ⊎ (x ≡ l)) [
      | inl old ↦ inl old
      | inr new ↦ elim (or_cases (same x l) false new) as (λ _. (holds c l ≡ true) ⊎ (x ≡ l)) [ inl one ↦ inr (same-true x l one) | inr no_one ↦ absurd (false≢true no_one) ]
    ]

push_old : (c : List Literal) (x l : Literal) → holds c l ≡ true → holds (c ++ x ∷ []) l ≡ true
push_old c x l h = holds-append c (x ∷ []) l ∙ or_left (holds c l) (same x l || false) h

push_new : (c : List Literal) (x l : Literal) → x ≡ l → holds (c ++ x ∷ []) l ≡ true
push_new c x l e = holds-append c (x ∷ []) l ∙ or_right (holds c l) (same x l || false) (or_left (same x l) false (subst (λ (y : Literal). same x y ≡ true) e (same-refl x)))

-- two bits that imply each other
bool_from : (a b : Bool) → (a ≡ true → b ≡ true) → (b ≡ true → a ≡ true) → a ≡ b
bool_from true b f g = sym (f refl)
bool_from false true f g = g refl
bool_from false false f g = refl

represents_both : (seen : List Bool) (s c : List Literal) → ((l : Literal) → holds c l ≡ true → (is_seen seen l.variable ≡ true) × (holds s (negation l) ≡ true))
    → ((l : Literal) → is_seen seen l.variable ≡ true → holds s (negation l) ≡ true → holds c l ≡ true) → Represents seen s c
represents_both seen s c f g l = bool_from (holds c l) (is_seen seen l.variable && holds s (negation l))
    (λ h. let r = f l h in and_from (is_seen seen l.variable) (holds s (negation l)) r.0 r.1)
    (λ h. let r = and_parts (is_seen seen l.variable) (holds s (negation l)) h in g l r.0 r.1)

pub gathering_start : (seen : List Bool) (es : List Entry) → IsGathering seen seen es [] 0
gathering_start seen es = record {
  len = refl;
  less = λ v low h. h;
  found = λ l h. absurd (false≢true h);
  left = λ l m h. inl m;
  once = refl;
  above = λ k low l h. h;
  marked = λ l. absurd (omega (arith, l));
}

-- with no mark left the clause has all
pub gathering_done : (variables : ℕ) (seen now : List Bool) (es : List Entry) (c : List Literal) (start : ℕ) → AreApart variables es → IsGathering seen now es c start
    → ((v : ℕ) → is_seen now v ≡ false) → Gathers seen es c start
gathering_done variables seen now es c start apart g none = record {
  negations = represents_both seen (literals es) c (λ l h. let r = g.found l h in (r.0, r.1))
      (λ l m h. elim (g.left l m h) as (λ _. holds c l ≡ true) [ inl still ↦ absurd (both_ways (is_seen now l.variable) (none l.variable) still) | inr there ↦ there ]);
  once = g.once;
  above = λ k low l. false_from_ne_true (is_seen_entry seen (entry_at es k)) (λ m. both_ways (is_seen_entry now (entry_at es k)) (none (variable_at es k)) (g.above k low l m));
  marked = g.marked;
}

module _ (variables : ℕ) (seen now : List Bool) (es : List Entry) (c : List Literal) (start : ℕ) (apart : AreApart variables es) (len : length seen ≡ variables) (g : IsGathering seen now es c start)
    (v : ℕ) (low : 1 ≤ v) (high : v ≤ length now) (marked : is_seen now v ≡ true) where
  off : is_seen (set now (v - 1) false) v ≡ false
  off = seen-set_same now v false low high

  kept : (w : ℕ) → 1 ≤ w → (w ≡ v → ⊥) → is_seen (set now (v - 1) false) w ≡ is_seen now w
  kept w w_low other = seen-set_other now v w false low w_low other

  entry_low : (k : ℕ) → k < length es → 1 ≤ variable_at es k
  entry_low k l = among_low variables (entry_at es k).literal (apart.among k l)

  -- a literal that the trail falsifies is of a variable
  false_low : (l : Literal) → holds (literals es) (negation l) ≡ true → 1 ≤ l.variable
  false_low l h = let k = entry_of_holds es (negation l) h in subst (λ (x : ℕ). 1 ≤ x) (ap (λ (x : Literal). x.variable) k.2) (entry_low k.0 k.1)

  less_off : (w : ℕ) → 1 ≤ w → is_seen (set now (v - 1) false) w ≡ true → is_seen seen w ≡ true
  less_off w w_low m = elim (cases_eq w v) as (λ _. is_seen seen w ≡ true) [
    | inl one ↦ absurd (both_ways (is_seen (set now (v - 1) false) v) off (subst (λ (x : ℕ). is_seen (set now (v - 1) false) x ≡ true) one m))
    | inr other ↦ g.less w w_low (sym (kept w w_low other) ∙ m)
  ]

  -- no literal of the clause so far is of the variable
  absent : mentions c v ≡ false
  absent = false_from_ne_true (mentions c v) (λ m.
      let l = holds_from_mentions c v m in
      both_ways (is_seen now v) (subst (λ (x : ℕ). is_seen now x ≡ false) l.2 (g.found l.0 l.1).2) marked)

  found_off : (l : Literal) → holds c l ≡ true → (is_seen seen l.variable ≡ true) × (holds (literals es) (negation l) ≡ true) × (is_seen (set now (v - 1) false) l.variable ≡ false)
  found_off l h =
      let r = g.found l h in (
        r.0,
        r.1,
        elim (cases_eq l.variable v) as (λ _. is_seen (set now (v - 1) false) l.variable ≡ false) [
          | inl one ↦ subst (λ (x : ℕ). is_seen (set now (v - 1) false) x ≡ false) (sym one) off
          | inr other ↦ kept l.variable (false_low l r.1) other ∙ r.2
        ],
      )

  -- a variable that no entry has is passed over
  pub gathering_skip : mentions (literals es) v ≡ false → IsGathering seen (set now (v - 1) false) es c start
  gathering_skip none = record {
    len = length-set now (v - 1) false ∙ g.len;
    less = less_off;
    found = found_off;
    left = λ l m h. elim (g.left l m h) as (λ _. (is_seen (set now (v - 1) false) l.variable ≡ true) ⊎ (holds c l ≡ true)) [
      | inl still ↦ elim (cases_eq l.variable v) as (λ _. (is_seen (set now (v - 1) false) l.variable ≡ true) ⊎ (holds c l ≡ true)) [
        | inl one ↦ absurd (both_ways (mentions (literals es) v) none (subst (λ (x : ℕ). mentions (literals es) x ≡ true) one (mentions_from (literals es) (negation l) h)))
        | inr other ↦ inl (kept l.variable (false_low l h) other ∙ still)
      ]
      | inr there ↦ inr there
    ];
    once = g.once;
    above = λ k k_low l m. kept (variable_at es k) (entry_low k l)
        (λ one. both_ways (mentions (literals es) v) none (subst (λ (x : ℕ). mentions (literals es) x ≡ true) one (mentions_entry es k l)))
        ∙ g.above k k_low l m;
    marked = g.marked;
  }

  -- the negation of the variable's entry comes into the clause
  pub gathering_step : (place next : ℕ) → place < length es → variable_at es place ≡ v → start ≤ next → place < next → (next ≡ start) ⊎ (next ≡ place + 1)
      → IsGathering seen (set now (v - 1) false) es (c ++ negation (entry_at es place).literal ∷ []) next
  gathering_step place next inside var later after which = record {
    len = length-set now (v - 1) false ∙ g.len;
    less = less_off;
    found = λ l h. elim (holds_push c x l h) as (λ _. (is_seen seen l.variable ≡ true) × (holds (literals es) (negation l) ≡ true) × (is_seen (set now (v - 1) false) l.variable ≡ false)) [
      | inl old ↦ found_off l old
      | inr new ↦ subst (λ (y : Literal). (is_seen seen y.variable ≡ true) × (holds (literals es) (negation y) ≡ true) × (is_seen (set now (v - 1) false) y.variable ≡ false)) new (
        subst (λ (w : ℕ). is_seen seen w ≡ true) (sym var) (g.less v low marked),
        subst (λ (y : Literal). holds (literals es) y ≡ true) (sym (negation-negation (entry_at es place).literal)) (holds_entry es place inside),
        subst (λ (w : ℕ). is_seen (set now (v - 1) false) w ≡ false) (sym var) off,
      )
    ];
    left = λ l m h. elim (g.left l m h) as (λ _. (is_seen (set now (v - 1) false) l.variable ≡ true) ⊎ (holds (c ++ x ∷ []) l ≡ true)) [
      | inl still ↦ elim (cases_eq l.variable v) as (λ _. (is_seen (set now (v - 1) false) l.variable ≡ true) ⊎ (holds (c ++ x ∷ []) l ≡ true)) [
        | inl one ↦
            let k = entry_of_holds es (negation l) h in
            let at : k.0 ≡ place = apart.apart k.0 place k.1 inside (ap (λ (y : Literal). y.variable) k.2 ∙ one ∙ sym var) in
            inr (push_new c x l (ap (λ (j : ℕ). negation (entry_at es j).literal) (sym at) ∙ ap negation k.2 ∙ negation-negation l))
        | inr other ↦ inl (kept l.variable (false_low l h) other ∙ still)
      ]
      | inr there ↦ inr (push_old c x l there)
    ];
    once = once_push c x g.once (subst (λ (w : ℕ). mentions c w ≡ false) (sym var) absent);
    above = λ k k_low l m. kept (variable_at es k) (entry_low k l)
        (λ one. (let at : k ≡ place = apart.apart k place l inside (one ∙ sym var) in let bad : ⊥ = omega (arith, at, k_low, after) in bad))
        ∙ g.above k (omega (arith, k_low, later)) l m;
    marked = λ some. elim which as (λ _. (next ≤ length es) × (is_seen_entry seen (entry_at es (next - 1)) ≡ true)) [
      | inl old ↦ subst (λ (n : ℕ). (n ≤ length es) × (is_seen_entry seen (entry_at es (n - 1)) ≡ true)) (sym old) (g.marked (omega (arith, old, some)))
      | inr new ↦
          let back : place ≡ next - 1 = omega (arith, new) in
          (omega (arith, new, inside), subst (λ (n : ℕ). is_seen_entry seen (entry_at es n) ≡ true) back (subst (λ (w : ℕ). is_seen seen w ≡ true) (sym var) (g.less v low marked)))
    ];
  }
    where
      x : Literal
      x = negation (entry_at es place).literal

-- the newest marked entry is from the floor on, where one is
pub tip_above : (seen : List Bool) (es : List Entry) (floor after : ℕ) → NoneSeen seen es after → count_seen seen (drop floor es) ≡ 1 → floor < after
tip_above seen es floor after none one = let bound = count_between seen es floor after none in omega (arith, bound, one)

-- the negation of the one marked entry from the floor on comes last
pub finished : (variables : ℕ) (seen : List Bool) (es : List Entry) (floor tip : ℕ) (c : List Literal) (start : ℕ) → AreApart variables es → length seen ≡ variables → count_seen seen (drop floor es) ≡ 1
    → floor ≤ tip → tip < length es → is_seen_entry seen (entry_at es tip) ≡ true → Gathers (set seen (variable_at es tip - 1) false) es c start
    → IsFinished seen es floor (c ++ negation (entry_at es tip).literal ∷ []) start
finished variables seen es floor tip c start apart len one tip_low tip_in tip_marked g = record {
  negations = represents_both seen (literals es) (c ++ u ∷ []) there back;
  once = once_push c u g.once (false_from_ne_true (mentions c v) (λ m.
      let l = holds_from_mentions c v m in
      let parts = and_parts (is_seen seen' (l.0).variable) (holds (literals es) (negation l.0)) (sym (g.negations l.0) ∙ l.1) in
      both_ways (is_seen seen' v) off (subst (λ (w : ℕ). is_seen seen' w ≡ true) l.2 parts.0)));
  low = elim (cases_le start floor) as (λ _. start ≤ floor) [
    | inl fine ↦ fine
    | inr over ↦
        let m = g.marked (omega (arith, over)) in
        let l : start - 1 < length es = let n = m.0 in omega (arith, over, n) in
        let up : floor ≤ start - 1 = omega (arith, over) in
        let at : start - 1 ≡ tip = one_marked seen es floor (start - 1) tip one up l (marked_before (start - 1) l m.1) tip_low tip_in tip_marked in
        absurd (both_ways (is_seen seen' v) off (subst (λ (k : ℕ). is_seen_entry seen' (entry_at es k) ≡ true) at m.1))
  ];
  above = λ k k_low l.
      let inside : k < length es = omega (arith, l, tip_low, tip_in) in
      sym (seen-set_other seen v (variable_at es k) false v_low (entry_low k inside) (λ e. (let at : k ≡ tip = apart.apart k tip inside tip_in e in let bad : ⊥ = omega (arith, at, l, tip_low) in bad)))
      ∙ g.above k k_low inside;
  marked = λ some.
      let m = g.marked some in
      let l : start - 1 < length es = let n = m.0 in omega (arith, some, n) in
      marked_before (start - 1) l m.1;
  full = let n = length_push c u in omega (arith, n);
  tip = tip;
  tip_low = tip_low;
  tip_in = tip_in;
  tip_marked = tip_marked;
  last = let n = length_push c u in get_or_push c u no_literal (length (c ++ u ∷ []) - 1) (omega (arith, n));
}
  where
    v : ℕ
    v = variable_at es tip

    u : Literal
    u = negation (entry_at es tip).literal

    seen' : List Bool
    seen' = set seen (v - 1) false

    entry_low : (k : ℕ) → k < length es → 1 ≤ variable_at es k
    entry_low k l = among_low variables (entry_at es k).literal (apart.among k l)

    v_low : 1 ≤ v
    v_low = entry_low tip tip_in

    v_high : v ≤ length seen
    v_high = let h = among_high variables (entry_at es tip).literal (apart.among tip tip_in) in omega (arith, h, len)

    off : is_seen seen' v ≡ false
    off = seen-set_same seen v false v_low v_high

    marked_off : (w : ℕ) → 1 ≤ w → is_seen seen' w ≡ true → is_seen seen w ≡ true
    marked_off w low m = elim (cases_eq w v) as (λ _. is_seen seen w ≡ true) [
      | inl e ↦ absurd (both_ways (is_seen seen' v) off (subst (λ (x : ℕ). is_seen seen' x ≡ true) e m))
      | inr other ↦ sym (seen-set_other seen v w false v_low low other) ∙ m
    ]

    marked_before : (k : ℕ) → k < length es → is_seen_entry seen' (entry_at es k) ≡ true → is_seen_entry seen (entry_at es k) ≡ true
    marked_before k l m = marked_off (variable_at es k) (entry_low k l) m

    there : (l : Literal) → holds (c ++ u ∷ []) l ≡ true → (is_seen seen l.variable ≡ true) × (holds (literals es) (negation l) ≡ true)
    there l h = elim (holds_push c u l h) as (λ _. (is_seen seen l.variable ≡ true) × (holds (literals es) (negation l) ≡ true)) [
      | inl old ↦
          let parts = and_parts (is_seen seen' l.variable) (holds (literals es) (negation l)) (sym (g.negations l) ∙ old) in
          let k = entry_of_holds es (negation l) parts.1 in
          (marked_off l.variable (subst (λ (x : ℕ). 1 ≤ x) (ap (λ (x : Literal). x.variable) k.2) (entry_low k.0 k.1)) parts.0, parts.1)
      | inr new ↦ subst (λ (y : Literal). (is_seen seen y.variable ≡ true) × (holds (literals es) (negation y) ≡ true)) new
          (tip_marked, subst (λ (y : Literal). holds (literals es) y ≡ true) (sym (negation-negation (entry_at es tip).literal)) (holds_entry es tip tip_in))
    ]

    back : (l : Literal) → is_seen seen l.variable ≡ true → holds (literals es) (negation l) ≡ true → holds (c ++ u ∷ []) l ≡ true
    back l m h =
        let k = entry_of_holds es (negation l) h in
        let low : 1 ≤ l.variable = subst (λ (x : ℕ). 1 ≤ x) (ap (λ (x : Literal). x.variable) k.2) (entry_low k.0 k.1) in
        elim (cases_eq l.variable v) as (λ _. holds (c ++ u ∷ []) l ≡ true) [
          | inl e ↦
              let at : k.0 ≡ tip = apart.apart k.0 tip k.1 tip_in (ap (λ (y : Literal). y.variable) k.2 ∙ e) in
              push_new c u l (ap (λ (j : ℕ). negation (entry_at es j).literal) (sym at) ∙ ap negation k.2 ∙ negation-negation l)
          | inr other ↦ push_old c u l (g.negations l ∙ and_from (is_seen seen' l.variable) (holds (literals es) (negation l)) (seen-set_other seen v l.variable false v_low low other ∙ m) h)
        ]
