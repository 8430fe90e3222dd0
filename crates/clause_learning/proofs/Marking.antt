-- Marks of variables, and how many entries of a trail they mark.
use Rattle.std.proofs.Common.{◌≡◌, ◌≢◌, ℕ, zero, suc, ◌+◌, ◌-◌, ◌<◌, ◌≤◌, Bool, true, false, not, ◌&&◌, ◌||◌, cond, List, [], ◌∷◌, length, get_or, take, drop, set, replicate, eqb, refl, sym, ◌∙◌, ap, subst, arith}
use Rattle.std.specs.List.{list_all}
use Rattle.std.proofs.lemmas.List.{take_more, get_or-set_same, get_or-set_other, get_or-drop, length-drop}
use Rattle.std.proofs.lemmas.List.Folds.{list_any-append}
use Rattle.std.proofs.lemmas.Bool.{and_parts, and_from, or_parts, false≢true, eqb-true, eqb-false, ne_eqb, not_from_false, not-true, false_from_ne_true}
use Rattle.resolution_proof.specs.declared.literal.Literal.{Literal}
use Rattle.clause_learning.specs.declared.trail.Entry.{Entry}
use Rattle.resolution_proof.specs.Literal.{is_on, mentions, is_once}
use Rattle.resolution_proof.specs.Clause.{is_among, is_within}
use Rattle.clause_learning.specs.Trail.{literals, entry_at, no_entry, AreApart, is_after}
use Rattle.clause_learning.specs.Learning.{is_seen, is_seen_entry, is_seen_literal, count_seen}
use Rattle.clause_learning.specs.Resolving.{AddsMarks, Resolves, NoneSeen}
use Rattle.resolution_proof.proofs.Sets.{all_at, holds_from_mentions, among_low, among_high}
use Rattle.clause_learning.proofs.Entries.{variable_at, entry_of_mentions, mentions_entry}

pub seen-set_same : (seen : List Bool) (v : ℕ) (b : Bool) → 1 ≤ v → v ≤ length seen → is_seen (set seen (v - 1) b) v ≡ b
seen-set_same seen v b low high = let inside : v - 1 < length seen = omega arith in get_or-set_same seen (v - 1) b false inside

pub seen-set_other : (seen : List Bool) (v w : ℕ) (b : Bool) → 1 ≤ v → 1 ≤ w → (w ≡ v → ⊥) → is_seen (set seen (v - 1) b) w ≡ is_seen seen w
seen-set_other seen v w b low low' apart = let other : (w - 1) ≢ (v - 1) = λ e. apart (omega (arith, e)) in get_or-set_other seen (v - 1) (w - 1) b false other

pub count_seen-le : (seen : List Bool) (es : List Entry) → count_seen seen es ≤ length es
count_seen-le seen [] = omega arith
count_seen-le seen (e ∷ es) = go (is_seen_entry seen e) (count_seen-le seen es)
  where
    go : (b : Bool) → count_seen seen es ≤ length es → cond b 1 0 + count_seen seen es ≤ suc (length es)
    go true ih = omega arith
    go false ih = omega arith

-- the trail's literals: no variable twice, and each within the variables
pub apart_once : (variables : ℕ) (es : List Entry) → AreApart variables es → (is_once (literals es) ≡ true) × (is_within variables (literals es) ≡ true)
apart_once variables [] h = (refl, refl)
apart_once variables (e ∷ es) h =
    let tail : AreApart variables es = record {
      among = λ k l. h.among (suc k) (omega (arith, l));
      apart = λ j k lj lk t. let up : suc j ≡ suc k = h.apart (suc j) (suc k) (omega (arith, lj)) (omega (arith, lk)) t in omega (arith, up);
    } in
    let ih = apart_once variables es tail in (
      and_from (not (mentions (literals es) e.literal.variable)) (is_once (literals es)) (not_from_false (mentions (literals es) e.literal.variable) (false_from_ne_true (mentions (literals es) e.literal.variable) none)) ih.0,
      and_from (is_among variables e.literal) (is_within variables (literals es)) (h.among zero (omega arith)) ih.1,
    )
  where
    none : mentions (literals es) e.literal.variable ≡ true → ⊥
    none m =
        let r = entry_of_mentions es e.literal.variable m in
        let bad : zero ≡ suc r.0 = h.apart zero (suc r.0) (omega arith) (omega (arith, r.1)) (sym r.2) in
        omega (arith, bad)

pub once_drop : (n : ℕ) (es : List Entry) → is_once (literals es) ≡ true → is_once (literals (drop n es)) ≡ true
once_drop zero es h = h
once_drop (suc n) [] h = refl
once_drop (suc n) (e ∷ es) h = once_drop n es ((and_parts (not (mentions (literals es) e.literal.variable)) (is_once (literals es)) h).1)

pub within_drop : (variables n : ℕ) (es : List Entry) → is_within variables (literals es) ≡ true → is_within variables (literals (drop n es)) ≡ true
within_drop variables zero es h = h
within_drop variables (suc n) [] h = refl
within_drop variables (suc n) (e ∷ es) h = within_drop variables n es ((and_parts (is_among variables e.literal) (is_within variables (literals es)) h).1)

-- a mark of a variable that no entry has changes no count
pub count_seen-set_off : (variables : ℕ) (seen : List Bool) (v : ℕ) (b : Bool) (es : List Entry) → 1 ≤ v → is_within variables (literals es) ≡ true → mentions (literals es) v ≡ false → count_seen (set seen (v - 1) b) es ≡ count_seen seen es
count_seen-set_off variables seen v b [] low w m = refl
count_seen-set_off variables seen v b (e ∷ es) low w m =
    let parts = and_parts (is_among variables e.literal) (is_within variables (literals es)) w in
    let off = or_parts (is_on v e.literal) (mentions (literals es) v) m in
    let one : is_seen_entry (set seen (v - 1) b) e ≡ is_seen_entry seen e = seen-set_other seen v e.literal.variable b low (among_low variables e.literal parts.0) (eqb-false e.literal.variable v off.0) in
    let ih = count_seen-set_off variables seen v b es low parts.1 off.1 in
    ap (λ (x : Bool). cond x 1 0 + count_seen (set seen (v - 1) b) es) one ∙ ap (λ (n : ℕ). cond (is_seen_entry seen e) 1 0 + n) ih

-- a new mark of an entry's variable counts one more
pub count_seen-set_on : (variables : ℕ) (seen : List Bool) (v : ℕ) (es : List Entry) → 1 ≤ v → v ≤ length seen → is_seen seen v ≡ false → is_within variables (literals es) ≡ true
    → is_once (literals es) ≡ true → mentions (literals es) v ≡ true → count_seen (set seen (v - 1) true) es ≡ count_seen seen es + 1
count_seen-set_on variables seen v [] low high un w o m = absurd (false≢true m)
count_seen-set_on variables seen v (e ∷ es) low high un w o m =
    let parts = and_parts (is_among variables e.literal) (is_within variables (literals es)) w in
    let once = and_parts (not (mentions (literals es) e.literal.variable)) (is_once (literals es)) o in
    go parts (not-true (mentions (literals es) e.literal.variable) once.0) (is_on v e.literal) refl (λ there. count_seen-set_on variables seen v es low high un parts.1 once.1 there)
  where
    go : (is_among variables e.literal ≡ true) × (is_within variables (literals es) ≡ true) → mentions (literals es) e.literal.variable ≡ false → (b : Bool) → is_on v e.literal ≡ b
        → (mentions (literals es) v ≡ true → count_seen (set seen (v - 1) true) es ≡ count_seen seen es + 1) → count_seen (set seen (v - 1) true) (e ∷ es) ≡ count_seen seen (e ∷ es) + 1
    go parts absent true at ih =
        let var : e.literal.variable ≡ v = eqb-true e.literal.variable v at in
        let new : is_seen_entry (set seen (v - 1) true) e ≡ true = subst (λ (x : ℕ). is_seen (set seen (v - 1) true) x ≡ true) (sym var) (seen-set_same seen v true low high) in
        let old : is_seen_entry seen e ≡ false = subst (λ (x : ℕ). is_seen seen x ≡ false) (sym var) un in
        let rest = count_seen-set_off variables seen v true es low parts.1 (subst (λ (x : ℕ). mentions (literals es) x ≡ false) var absent) in
        rw (new, old) (omega (arith, rest))
    go parts absent false at ih =
        let one : is_seen_entry (set seen (v - 1) true) e ≡ is_seen_entry seen e = seen-set_other seen v e.literal.variable true low (among_low variables e.literal parts.0) (eqb-false e.literal.variable v at) in
        let there : mentions (literals es) v ≡ true = subst (λ (x : Bool). (x || mentions (literals es) v) ≡ true) at m in
        let rest = ih there in
        rw one (omega (arith, rest))

-- a mark taken off counts one less
pub count_seen-set_none : (variables : ℕ) (seen : List Bool) (v : ℕ) (es : List Entry) → 1 ≤ v → v ≤ length seen → is_seen seen v ≡ true → is_within variables (literals es) ≡ true
    → is_once (literals es) ≡ true → mentions (literals es) v ≡ true → count_seen (set seen (v - 1) false) es + 1 ≡ count_seen seen es
count_seen-set_none variables seen v [] low high un w o m = absurd (false≢true m)
count_seen-set_none variables seen v (e ∷ es) low high un w o m =
    let parts = and_parts (is_among variables e.literal) (is_within variables (literals es)) w in
    let once = and_parts (not (mentions (literals es) e.literal.variable)) (is_once (literals es)) o in
    go parts (not-true (mentions (literals es) e.literal.variable) once.0) (is_on v e.literal) refl (λ there. count_seen-set_none variables seen v es low high un parts.1 once.1 there)
  where
    go : (is_among variables e.literal ≡ true) × (is_within variables (literals es) ≡ true) → mentions (literals es) e.literal.variable ≡ false → (b : Bool) → is_on v e.literal ≡ b
        → (mentions (literals es) v ≡ true → count_seen (set seen (v - 1) false) es + 1 ≡ count_seen seen es) → count_seen (set seen (v - 1) false) (e ∷ es) + 1 ≡ count_seen seen (e ∷ es)
    go parts absent true at ih =
        let var : e.literal.variable ≡ v = eqb-true e.literal.variable v at in
        let new : is_seen_entry (set seen (v - 1) false) e ≡ false = subst (λ (x : ℕ). is_seen (set seen (v - 1) false) x ≡ false) (sym var) (seen-set_same seen v false low high) in
        let old : is_seen_entry seen e ≡ true = subst (λ (x : ℕ). is_seen seen x ≡ true) (sym var) un in
        let rest = count_seen-set_off variables seen v false es low parts.1 (subst (λ (x : ℕ). mentions (literals es) x ≡ false) var absent) in
        rw (new, old) (omega (arith, rest))
    go parts absent false at ih =
        let one : is_seen_entry (set seen (v - 1) false) e ≡ is_seen_entry seen e = seen-set_other seen v e.literal.variable false low (among_low variables e.literal parts.0) (eqb-false e.literal.variable v at) in
        let there : mentions (literals es) v ≡ true = subst (λ (x : Bool). (x || mentions (literals es) v) ≡ true) at m in
        let rest = ih there in
        rw one (omega (arith, rest))

-- more marks count no less
pub count_seen-mono : (variables : ℕ) (old new : List Bool) (es : List Entry) → is_within variables (literals es) ≡ true → ((v : ℕ) → 1 ≤ v → is_seen old v ≡ true → is_seen new v ≡ true) → count_seen old es ≤ count_seen new es
count_seen-mono variables old new [] w f = omega arith
count_seen-mono variables old new (e ∷ es) w f =
    let parts = and_parts (is_among variables e.literal) (is_within variables (literals es)) w in
    go (is_seen_entry old e) refl (is_seen_entry new e) refl (f e.literal.variable (among_low variables e.literal parts.0)) (count_seen-mono variables old new es parts.1 f)
  where
    go : (a : Bool) → is_seen_entry old e ≡ a → (b : Bool) → is_seen_entry new e ≡ b → (is_seen_entry old e ≡ true → is_seen_entry new e ≡ true) → count_seen old es ≤ count_seen new es
        → cond a 1 0 + count_seen old es ≤ cond b 1 0 + count_seen new es
    go true p true q g ih = omega arith
    go true p false q g ih = absurd (false≢true (sym q ∙ g p))
    go false p true q g ih = omega arith
    go false p false q g ih = omega arith

-- a marked entry counts
pub count_seen-pos : (seen : List Bool) (es : List Entry) (k : ℕ) → k < length es → is_seen_entry seen (entry_at es k) ≡ true → 1 ≤ count_seen seen es
count_seen-pos seen [] k l h = absurd (omega arith)
count_seen-pos seen (e ∷ es) zero l h = rw h (omega arith)
count_seen-pos seen (e ∷ es) (suc k) l h = let ih = count_seen-pos seen es k (omega (arith, l)) h in omega (arith, ih)

-- with no mark from a position on, no more are marked than there are positions
count_below : (seen : List Bool) (es : List Entry) (position : ℕ) → NoneSeen seen es position → count_seen seen es ≤ position
count_below seen [] position none = omega arith
count_below seen (e ∷ es) zero none =
    let first : is_seen_entry seen e ≡ false = none zero (omega arith) (omega arith) in
    let ih = count_below seen es zero (λ k low l. none (suc k) (omega arith) (omega (arith, l))) in
    rw first (omega (arith, ih))
count_below seen (e ∷ es) (suc position) none = go (is_seen_entry seen e) (count_below seen es position (λ k low l. none (suc k) (omega (arith, low)) (omega (arith, l))))
  where
    go : (b : Bool) → count_seen seen es ≤ position → cond b 1 0 + count_seen seen es ≤ suc position
    go true ih = omega arith
    go false ih = omega arith

pub count_between : (seen : List Bool) (es : List Entry) (floor position : ℕ) → NoneSeen seen es position → count_seen seen (drop floor es) ≤ position - floor
count_between seen es zero position none = let h = count_below seen es position none in omega (arith, h)
count_between seen [] (suc floor) position none = omega arith
count_between seen (e ∷ es) (suc floor) zero none =
    let h = count_between seen es floor zero (λ k low l. none (suc k) (omega arith) (omega (arith, l))) in omega (arith, h)
count_between seen (e ∷ es) (suc floor) (suc position) none =
    let h = count_between seen es floor position (λ k low l. none (suc k) (omega (arith, low)) (omega (arith, l))) in omega (arith, h)

-- an entry from the floor on is mentioned from there
pub after_entry : (es : List Entry) (floor k : ℕ) → floor ≤ k → k < length es → is_after es floor (variable_at es k) ≡ true
after_entry es floor k low l =
    let n = length-drop floor es in
    let inside : k - floor < length (drop floor es) = omega (arith, n, low, l) in
    let back : floor + (k - floor) ≡ k = omega (arith, low) in
    let same_entry : entry_at (drop floor es) (k - floor) ≡ entry_at es k = get_or-drop floor es (k - floor) no_entry ∙ ap (λ (j : ℕ). entry_at es j) back in
    subst (λ (x : Entry). is_after es floor x.literal.variable ≡ true) same_entry (mentions_entry (drop floor es) (k - floor) inside)

-- the marks after a literal of the clause is read
pub adds_other : (old seen : List Bool) (pivot : ℕ) (c : List Literal) (i : ℕ) (d : Literal) → i < length c → AddsMarks old seen pivot (take i c) → (get_or c i d).variable ≡ pivot → AddsMarks old seen pivot (take (i + 1) c)
adds_other old seen pivot c i d l h e v low = go (eqb v pivot) refl
  where
    x : Literal
    x = get_or c i d

    more : mentions (take (i + 1) c) v ≡ (mentions (take i c) v || (is_on v x || false))
    more = ap (λ (ys : List Literal). mentions ys v) (take_more c i d l) ∙ list_any-append (is_on v) (take i c) (x ∷ [])

    go : (b : Bool) → eqb v pivot ≡ b → is_seen seen v ≡ (is_seen old v || (not (eqb v pivot) && mentions (take (i + 1) c) v))
    go true at = h v low ∙ (let t : (is_seen old v || (not (eqb v pivot) && mentions (take i c) v)) ≡ (is_seen old v || (not (eqb v pivot) && mentions (take (i + 1) c) v)) = rw at refl in t)
    go false at =
        let off : is_on v x ≡ false = ne_eqb x.variable v (λ t. eqb-false v pivot at (sym t ∙ e)) in
        let same_mentions : mentions (take (i + 1) c) v ≡ mentions (take i c) v = more ∙ ap (λ (b : Bool). mentions (take i c) v || (b || false)) off ∙ or-none (mentions (take i c) v) in
        h v low ∙ ap (λ (b : Bool). is_seen old v || (not (eqb v pivot) && b)) (sym same_mentions)
      where
        or-none : (b : Bool) → (b || (false || false)) ≡ b
        or-none true = refl
        or-none false = refl

pub adds_more : (old seen : List Bool) (pivot : ℕ) (c : List Literal) (i : ℕ) (d : Literal) → i < length c → AddsMarks old seen pivot (take i c) → ((get_or c i d).variable ≡ pivot → ⊥)
    → 1 ≤ (get_or c i d).variable → (get_or c i d).variable ≤ length seen → AddsMarks old (set seen ((get_or c i d).variable - 1) true) pivot (take (i + 1) c)
adds_more old seen pivot c i d l h apart xlow xhigh v low = go (eqb x.variable v) refl
  where
    x : Literal
    x = get_or c i d

    more : mentions (take (i + 1) c) v ≡ (mentions (take i c) v || (is_on v x || false))
    more = ap (λ (ys : List Literal). mentions ys v) (take_more c i d l) ∙ list_any-append (is_on v) (take i c) (x ∷ [])

    or-on : (b : Bool) → (b || (true || false)) ≡ true
    or-on true = refl
    or-on false = refl

    or-none : (b : Bool) → (b || (false || false)) ≡ b
    or-none true = refl
    or-none false = refl

    or-true : (b : Bool) → (b || (true && true)) ≡ true
    or-true true = refl
    or-true false = refl

    go : (b : Bool) → eqb x.variable v ≡ b → is_seen (set seen (x.variable - 1) true) v ≡ (is_seen old v || (not (eqb v pivot) && mentions (take (i + 1) c) v))
    go true at =
        let var : x.variable ≡ v = eqb-true x.variable v at in
        let here : is_seen (set seen (x.variable - 1) true) v ≡ true = subst (λ (w : ℕ). is_seen (set seen (x.variable - 1) true) w ≡ true) var (seen-set_same seen x.variable true xlow xhigh) in
        let off : eqb v pivot ≡ false = ne_eqb v pivot (λ t. apart (var ∙ t)) in
        let mentioned : mentions (take (i + 1) c) v ≡ true = more ∙ ap (λ (b : Bool). mentions (take i c) v || (b || false)) at ∙ or-on (mentions (take i c) v) in
        here ∙ sym (ap (λ (b : Bool). is_seen old v || (not b && mentions (take (i + 1) c) v)) off ∙ ap (λ (b : Bool). is_seen old v || (true && b)) mentioned ∙ or-true (is_seen old v))
    go false at =
        let other : is_seen (set seen (x.variable - 1) true) v ≡ is_seen seen v = seen-set_other seen x.variable v true xlow low (λ t. eqb-false x.variable v at (sym t)) in
        let same_mentions : mentions (take (i + 1) c) v ≡ mentions (take i c) v = more ∙ ap (λ (b : Bool). mentions (take i c) v || (b || false)) at ∙ or-none (mentions (take i c) v) in
        other ∙ h v low ∙ ap (λ (b : Bool). is_seen old v || (not (eqb v pivot) && b)) (sym same_mentions)

-- what a resolution leaves marked
pub resolves_from : (old new : List Bool) (pivot : ℕ) (c : List Literal) → 1 ≤ pivot → pivot ≤ length old → AddsMarks (set old (pivot - 1) false) new pivot c → Resolves pivot c old new
resolves_from old new pivot c plow phigh h v low = go (eqb v pivot) refl
  where
    none : (b : Bool) → (false || (false && b)) ≡ false
    none b = refl

    go : (b : Bool) → eqb v pivot ≡ b → is_seen new v ≡ (not (eqb v pivot) && (is_seen old v || mentions c v))
    go true at =
        let var : v ≡ pivot = eqb-true v pivot at in
        let off : is_seen (set old (pivot - 1) false) v ≡ false = subst (λ (w : ℕ). is_seen (set old (pivot - 1) false) w ≡ false) (sym var) (seen-set_same old pivot false plow phigh) in
        h v low ∙ ap (λ (b : Bool). b || (not (eqb v pivot) && mentions c v)) off ∙ (let t : (not (eqb v pivot) && mentions c v) ≡ (not (eqb v pivot) && (is_seen old v || mentions c v)) = rw at refl in t)
    go false at =
        let other : is_seen (set old (pivot - 1) false) v ≡ is_seen old v = seen-set_other old pivot v false plow low (eqb-false v pivot at) in
        h v low ∙ ap (λ (b : Bool). b || (not (eqb v pivot) && mentions c v)) other ∙ (let t : (is_seen old v || (not (eqb v pivot) && mentions c v)) ≡ (not (eqb v pivot) && (is_seen old v || mentions c v)) = rw at refl in t)

-- the mark of an entry from the floor on is taken off
pub unmark_count : (variables : ℕ) (seen : List Bool) (es : List Entry) (floor position : ℕ) → AreApart variables es → length seen ≡ variables → position < length es → floor ≤ position
    → is_seen_entry seen (entry_at es position) ≡ true → count_seen (set seen (variable_at es position - 1) false) (drop floor es) + 1 ≡ count_seen seen (drop floor es)
unmark_count variables seen es floor position apart len inside above marked =
    let tidy = apart_once variables es apart in
    let among = apart.among position inside in
    let low = among_low variables (entry_at es position).literal among in
    let high = among_high variables (entry_at es position).literal among in
    let high' : variable_at es position ≤ length seen = omega (arith, high, len) in
    count_seen-set_none variables seen (variable_at es position) (drop floor es) low high' marked (within_drop variables floor es tidy.1) (once_drop floor es tidy.0) (after_entry es floor position above inside)

-- with no mark nothing is counted
pub count_seen-none : (seen : List Bool) (es : List Entry) → ((v : ℕ) → is_seen seen v ≡ false) → count_seen seen es ≡ 0
count_seen-none seen [] f = refl
count_seen-none seen (e ∷ es) f = let one : is_seen_entry seen e ≡ false = f e.literal.variable in rw one (ap (λ (n : ℕ). 0 + n) (count_seen-none seen es f))

pub get_or-replicate_false : (n k : ℕ) → get_or (replicate n false) k false ≡ false
get_or-replicate_false zero k = refl
get_or-replicate_false (suc n) zero = refl
get_or-replicate_false (suc n) (suc k) = get_or-replicate_false n k

-- a mark taken off where all variables of the clause are marked
pub resolves_off : (old : List Bool) (pivot : ℕ) (c : List Literal) → 1 ≤ pivot → pivot ≤ length old → list_all (is_seen_literal old) c ≡ true → Resolves pivot c old (set old (pivot - 1) false)
resolves_off old pivot c plow phigh all = resolves_from old (set old (pivot - 1) false) pivot c plow phigh (λ v low. go v low (eqb v pivot) refl (mentions c v) refl)
  where
    kept : (b : Bool) → b ≡ (b || false)
    kept true = refl
    kept false = refl

    go : (v : ℕ) → 1 ≤ v → (b : Bool) → eqb v pivot ≡ b → (m : Bool) → mentions c v ≡ m → is_seen (set old (pivot - 1) false) v ≡ (is_seen (set old (pivot - 1) false) v || (not b && m))
    go v low true at m held = kept (is_seen (set old (pivot - 1) false) v)
    go v low false at false held = kept (is_seen (set old (pivot - 1) false) v)
    go v low false at true held =
        let l = holds_from_mentions c v held in
        let marked : is_seen old v ≡ true = subst (λ (w : ℕ). is_seen old w ≡ true) l.2 (all_at (is_seen_literal old) c l.0 all l.1) in
        let here : is_seen (set old (pivot - 1) false) v ≡ true = seen-set_other old pivot v false plow low (eqb-false v pivot at) ∙ marked in
        rw here refl

-- a mark of an earlier entry is not counted
pub count_seen-before : (variables : ℕ) (seen : List Bool) (es : List Entry) (floor position : ℕ) → AreApart variables es → position < length es → position < floor
    → count_seen (set seen (variable_at es position - 1) false) (drop floor es) ≡ count_seen seen (drop floor es)
count_seen-before variables seen es floor position apart inside below =
    let tidy = apart_once variables es apart in
    count_seen-set_off variables seen (variable_at es position) false (drop floor es) (among_low variables (entry_at es position).literal (apart.among position inside))
    (within_drop variables floor es tidy.1) (false_from_ne_true (is_after es floor (variable_at es position)) (λ m.
    let r = entry_of_mentions (drop floor es) (variable_at es position) m in
    let n = length-drop floor es in
    let there : floor + r.0 < length es = omega (arith, n, r.1) in
    let one : floor + r.0 ≡ position = apart.apart (floor + r.0) position there inside (ap (λ (x : Entry). x.literal.variable) (sym (get_or-drop floor es r.0 no_entry)) ∙ r.2) in
    omega (arith, one, below)))

-- marks that agree at the entries count alike
pub count_seen-same : (old new : List Bool) (es : List Entry) → ((k : ℕ) → k < length es → is_seen_entry new (entry_at es k) ≡ is_seen_entry old (entry_at es k)) → count_seen new es ≡ count_seen old es
count_seen-same old new [] f = refl
count_seen-same old new (e ∷ es) f =
    let first : is_seen_entry new e ≡ is_seen_entry old e = f zero (omega arith) in
    let ih = count_seen-same old new es (λ k l. f (suc k) (omega (arith, l))) in
    ap (λ (b : Bool). cond b 1 0 + count_seen new es) first ∙ ap (λ (n : ℕ). cond (is_seen_entry old e) 1 0 + n) ih

-- past the last entry nothing is counted
pub count_seen-end : (seen : List Bool) (es : List Entry) → count_seen seen (drop (length es) es) ≡ 0
count_seen-end seen [] = refl
count_seen-end seen (e ∷ es) = count_seen-end seen es

-- what a resolution leaves marked, by the calls that make it
pub resolves_by : (old off new : List Bool) (pivot v : ℕ) (read c : List Literal) → 1 ≤ v → v ≤ length old → pivot ≡ v → off ≡ set old (pivot - 1) false → read ≡ c → AddsMarks off new pivot read → Resolves v c old new
resolves_by old off new pivot v read c low high is off_is read_is h =
    resolves_from old new v c low high (λ w w_low.
    subst (λ (p : ℕ). is_seen new w ≡ (is_seen (set old (p - 1) false) w || (not (eqb w p) && mentions c w))) is
    (subst (λ (ys : List Literal). is_seen new w ≡ (is_seen (set old (pivot - 1) false) w || (not (eqb w pivot) && mentions ys w))) read_is
    (subst (λ (bs : List Bool). is_seen new w ≡ (is_seen bs w || (not (eqb w pivot) && mentions read w))) off_is (h w w_low))))
