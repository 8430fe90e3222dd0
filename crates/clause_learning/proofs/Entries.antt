-- The entries of a trail, their literals and their marks.
use Rattle.std.proofs.Common.{◌≡◌, ◌≢◌, ℕ, zero, suc, ◌+◌, ◌-◌, ◌<◌, ◌≤◌, Bool, true, false, not, List, [], ◌∷◌, ◌++◌, length, get_or, drop, set, map, leb, refl, sym, ◌∙◌, ap, subst, inl, inr, ◌⊎◌, arith, Option, Some, None, is_some}
use Rattle.std.proofs.Math.Bool.{beq}
use Rattle.std.proofs.lemmas.List.{get_or_append_left, get_or_push, get_or-set_same, get_or-set_other, length_push, length-map, length-set, get_or-map, get_or-drop, length-drop, get_or_read}
use Rattle.std.proofs.lemmas.Bool.{and_from, or_cases, or_left, or_right, false≢true, true≢false, cases_eq, both_ways, false_from_ne_true, leb-true, le-leb}
use Rattle.resolution_proof.specs.declared.literal.Literal.{Literal}
use Rattle.clause_learning.specs.declared.trail.Entry.{Entry}
use Rattle.clause_learning.specs.declared.trail.Mark.{Mark}
use Rattle.resolution_proof.specs.Literal.{negation, same, holds, mentions}
use Rattle.resolution_proof.specs.Clause.{is_among}
use Rattle.resolution_proof.specs.Formula.{is_true}
use Rattle.clause_learning.specs.Trail.{literals, entry_at, no_entry, value_of, IsTied, AreApart, is_after, sign_of}
use Rattle.resolution_proof.proofs.Sets.{beq-true, beq-refl, same-true, same-refl, literal_ext, mentions_from, holds_from_mentions, among_low, among_high}
use Rattle.resolution_proof.proofs.Pigeons.{pigeonhole, distinct_from, below_from}

-- the variable of the entry at a position
abbrev pub variable_at : List Entry → ℕ → ℕ
variable_at es k = (entry_at es k).literal.variable

pub among_from : (variables : ℕ) (l : Literal) → 1 ≤ l.variable → l.variable ≤ variables → is_among variables l ≡ true
among_from variables l low high = and_from (leb 1 l.variable) (leb l.variable variables) (le-leb 1 l.variable low) (le-leb l.variable variables high)

-- the literal of each entry is one of the set
pub holds_entry : (es : List Entry) (k : ℕ) → k < length es → holds (literals es) (entry_at es k).literal ≡ true
holds_entry [] k h = absurd (omega arith)
holds_entry (e ∷ es) zero h = or_left (same e.literal e.literal) (holds (literals es) e.literal) (same-refl e.literal)
holds_entry (e ∷ es) (suc k) h = or_right (same e.literal (entry_at es k).literal) (holds (literals es) (entry_at es k).literal) (holds_entry es k (omega arith))

-- and each literal of the set is an entry's
pub entry_of_holds : (es : List Entry) (l : Literal) → holds (literals es) l ≡ true → (k : ℕ) × (k < length es) × ((entry_at es k).literal ≡ l)
entry_of_holds [] l h = absurd (false≢true h)
entry_of_holds (e ∷ es) l h =
    elim (or_cases (same e.literal l) (holds (literals es) l) h) as (λ _. (k : ℕ) × (k < length (e ∷ es)) × ((entry_at (e ∷ es) k).literal ≡ l)) [
      | inl here ↦ (zero, omega arith, same-true e.literal l here)
      | inr there ↦ let r = entry_of_holds es l there in (suc r.0, omega (arith, r.1), r.2)
    ]

pub mentions_entry : (es : List Entry) (k : ℕ) → k < length es → mentions (literals es) (variable_at es k) ≡ true
mentions_entry es k h = mentions_from (literals es) (entry_at es k).literal (holds_entry es k h)

pub entry_of_mentions : (es : List Entry) (v : ℕ) → mentions (literals es) v ≡ true → (k : ℕ) × (k < length es) × (variable_at es k ≡ v)
entry_of_mentions es v h =
    let r = holds_from_mentions (literals es) v h in
    let s = entry_of_holds es r.0 r.1 in
    (s.0, s.1, ap (λ (l : Literal). l.variable) s.2 ∙ r.2)

-- the position is an old one or the new one
pub cases_push : (es : List Entry) (e : Entry) (k : ℕ) → k < length (es ++ e ∷ []) → (k < length es) ⊎ (k ≡ length es)
cases_push es e k h =
    let n = length_push es e in
    elim (cases_eq k (length es)) as (λ _. (k < length es) ⊎ (k ≡ length es)) [
      | inl same_position ↦ inr same_position
      | inr apart ↦ inl (omega (arith, n, h, apart))
    ]

pub entry_at-push_old : (es : List Entry) (e : Entry) (k : ℕ) → k < length es → entry_at (es ++ e ∷ []) k ≡ entry_at es k
entry_at-push_old es e k h = get_or_append_left es (e ∷ []) no_entry k h

pub entry_at-push_new : (es : List Entry) (e : Entry) (k : ℕ) → k ≡ length es → entry_at (es ++ e ∷ []) k ≡ e
entry_at-push_new es e k h = get_or_push es e no_entry k (sym h)

pub AreApart_from : (marks : List (Option Mark)) (es : List Entry) → IsTied marks es → AreApart (length marks) es
AreApart_from marks es tied = record {
  among = tied.among;
  apart = λ j k lj lk e.
      let at_j = tied.marked j lj in
      let at_k = tied.marked k lk in
      let one : get_or marks (variable_at es j - 1) None ≡ get_or marks (variable_at es k - 1) None = ap (λ (v : ℕ). get_or marks (v - 1) None) e in
      let marks_one : Some (record { positive = (entry_at es j).literal.positive; position = j }) ≡ Some (record { positive = (entry_at es k).literal.positive; position = k }) = sym at_j ∙ one ∙ at_k in
      ap position_in marks_one;
}
  where
    position_in : Option Mark → ℕ
    position_in None = 0
    position_in (Some m) = m.position

pub length_below : (variables : ℕ) (es : List Entry) → AreApart variables es → length es ≤ variables
length_below variables es apart =
    let codes : List ℕ = map (λ (e : Entry). e.literal.variable - 1) es in
    let n : length codes ≡ length es = length-map es (λ (e : Entry). e.literal.variable - 1) in
    let at : (k : ℕ) → k < length es → get_or codes k 0 ≡ variable_at es k - 1 = λ k l. get_or-map (λ (e : Entry). e.literal.variable - 1) es k no_entry 0 l in
    let d = distinct_from codes (λ j k lj lk e.
    let lj' : j < length es = omega (arith, n, lj) in
    let lk' : k < length es = omega (arith, n, lk) in
    let low_j = among_low variables (entry_at es j).literal (apart.among j lj') in
    let low_k = among_low variables (entry_at es k).literal (apart.among k lk') in
    let equal : variable_at es j - 1 ≡ variable_at es k - 1 = sym (at j lj') ∙ e ∙ at k lk' in
    apart.apart j k lj' lk' (omega (arith, low_j, low_k, equal))) in
    let b = below_from variables codes (λ k l.
    let l' : k < length es = omega (arith, n, l) in
    let low = among_low variables (entry_at es k).literal (apart.among k l') in
    let high = among_high variables (entry_at es k).literal (apart.among k l') in
    let e = at k l' in
    omega (arith, low, high, e)) in
    let bound = pigeonhole variables codes d b in
    omega (arith, bound, n)

-- the mark of a literal that the set holds
pub mark_of_holds : (marks : List (Option Mark)) (es : List Entry) → IsTied marks es → (l : Literal) → holds (literals es) l ≡ true → (k : ℕ) × (k < length es)
    × (get_or marks (l.variable - 1) None ≡ Some (record { positive = l.positive; position = k }))
mark_of_holds marks es tied l h =
    let r = entry_of_holds es l h in
    let marked = tied.marked r.0 r.1 in
    (r.0, r.1, subst (λ (x : Literal). get_or marks (x.variable - 1) None ≡ Some (record { positive = x.positive; position = r.0 })) r.2 marked)

-- the literal that a mark tells is true, at the mark's position
pub holds_of_mark : (marks : List (Option Mark)) (es : List Entry) → IsTied marks es → (v : ℕ) (m : Mark) → 1 ≤ v → get_or marks (v - 1) None ≡ Some m → (m.position < length es)
    × ((entry_at es m.position).literal ≡ record { variable = v; positive = m.positive })
holds_of_mark marks es tied v m low e =
    let placed = tied.placed (v - 1) m e in
    let var : variable_at es m.position ≡ v = placed.1 ∙ (let t : suc (v - 1) ≡ v = omega arith in t) in
    let marked = tied.marked m.position placed.0 in
    let one : Some (record { positive = (entry_at es m.position).literal.positive; position = m.position }) ≡ Some m = sym marked ∙ ap (λ (w : ℕ). get_or marks (w - 1) None) var ∙ e in
    (placed.0, literal_ext (entry_at es m.position).literal (record { variable = v; positive = m.positive }) var (ap sign_in one))
  where
    sign_in : Option Mark → Bool
    sign_in None = false
    sign_in (Some k) = k.positive

-- a literal's value by its mark
pub value_by_mark : (marks : List (Option Mark)) (es : List Entry) → IsTied marks es → (l : Literal) (m : Mark) → 1 ≤ l.variable → get_or marks (l.variable - 1) None ≡ Some m → Some (beq m.positive l.positive) ≡ value_of (literals es) l
value_by_mark marks es tied l m low e = go (beq m.positive l.positive) refl
  where
    at : (m.position < length es) × ((entry_at es m.position).literal ≡ record { variable = l.variable; positive = m.positive })
    at = holds_of_mark marks es tied l.variable m low e

    held : holds (literals es) (record { variable = l.variable; positive = m.positive }) ≡ true
    held = subst (λ (x : Literal). holds (literals es) x ≡ true) at.1 (holds_entry es m.position at.0)

    sign_in : Option Mark → Bool
    sign_in None = false
    sign_in (Some k) = k.positive

    not_held : beq m.positive l.positive ≡ false → holds (literals es) l ≡ true → ⊥
    not_held b h =
        let r = mark_of_holds marks es tied l h in
        let one : Some m ≡ Some (record { positive = l.positive; position = r.0 }) = sym e ∙ r.2 in
        let signs : m.positive ≡ l.positive = ap sign_in one in
        both_ways (beq m.positive l.positive) b (subst (λ (s : Bool). beq m.positive s ≡ true) signs (beq-refl m.positive))

    opposite : (a b : Bool) → beq a b ≡ false → a ≡ not b
    opposite true true h = absurd (true≢false h)
    opposite true false h = refl
    opposite false true h = refl
    opposite false false h = absurd (true≢false h)

    go : (b : Bool) → beq m.positive l.positive ≡ b → Some b ≡ value_of (literals es) l
    go true b =
        let same_one : holds (literals es) l ≡ true = subst (λ (x : Literal). holds (literals es) x ≡ true) (literal_ext (record { variable = l.variable; positive = m.positive }) l refl (beq-true m.positive l.positive b)) held in
        rw same_one refl
    go false b =
        let none : holds (literals es) l ≡ false = false_from_ne_true (holds (literals es) l) (not_held b) in
        let other : holds (literals es) (negation l) ≡ true = subst (λ (x : Literal). holds (literals es) x ≡ true)
        (literal_ext (record { variable = l.variable; positive = m.positive }) (negation l) refl (opposite m.positive l.positive b)) held in
        rw (none, other) refl

-- a variable with no mark is not mentioned
pub free_by_mark : (marks : List (Option Mark)) (es : List Entry) → IsTied marks es → (v : ℕ) → get_or marks (v - 1) None ≡ None → mentions (literals es) v ≡ false
free_by_mark marks es tied v e = false_from_ne_true (mentions (literals es) v) bad
  where
    is_mark : Option Mark → Bool
    is_mark None = false
    is_mark (Some k) = true

    bad : mentions (literals es) v ≡ true → ⊥
    bad h =
        let r = holds_from_mentions (literals es) v h in
        let s = mark_of_holds marks es tied r.0 r.1 in
        let at : get_or marks (v - 1) None ≡ Some (record { positive = (r.0).positive; position = s.0 }) = subst (λ (w : ℕ). get_or marks (w - 1) None ≡ Some (record { positive = (r.0).positive; position = s.0 })) r.2 s.2 in
        false≢true (ap is_mark (sym e ∙ at))

pub holds_free : (s : List Literal) (l : Literal) → mentions s l.variable ≡ false → holds s l ≡ false
holds_free s l f = false_from_ne_true (holds s l) (λ h. both_ways (mentions s l.variable) f (mentions_from s l h))

pub none_by_mark : (marks : List (Option Mark)) (es : List Entry) → IsTied marks es → (l : Literal) → get_or marks (l.variable - 1) None ≡ None → None ≡ value_of (literals es) l
none_by_mark marks es tied l e =
    let free = free_by_mark marks es tied l.variable e in
    let one = holds_free (literals es) l free in
    let other = holds_free (literals es) (negation l) free in
    rw (one, other) refl

pub mentioned_by_mark : (marks : List (Option Mark)) (es : List Entry) → IsTied marks es → (v : ℕ) (m : Mark) → 1 ≤ v → get_or marks (v - 1) None ≡ Some m → mentions (literals es) v ≡ true
mentioned_by_mark marks es tied v m low e =
    let at = holds_of_mark marks es tied v m low e in
    subst (λ (x : ℕ). mentions (literals es) x ≡ true) (ap (λ (l : Literal). l.variable) at.1) (mentions_entry es m.position at.0)

-- a variable is mentioned from a position on where its mark is not before it
pub after_by_mark : (marks : List (Option Mark)) (es : List Entry) → IsTied marks es → (v : ℕ) (m : Mark) (floor : ℕ) → 1 ≤ v → get_or marks (v - 1) None ≡ Some m → leb floor m.position ≡ is_after es floor v
after_by_mark marks es tied v m floor low e = go (leb floor m.position) refl (is_after es floor v) refl
  where
    at : (m.position < length es) × ((entry_at es m.position).literal ≡ record { variable = v; positive = m.positive })
    at = holds_of_mark marks es tied v m low e

    variable_is : variable_at es m.position ≡ v
    variable_is = ap (λ (l : Literal). l.variable) at.1

    go : (a : Bool) → leb floor m.position ≡ a → (b : Bool) → is_after es floor v ≡ b → a ≡ b
    go true p true q = refl
    go false p false q = refl
    go true p false q =
        let below = leb-true floor m.position p in
        let n = length-drop floor es in
        let inside : m.position - floor < length (drop floor es) = omega (arith, below, n, at.0) in
        let back : floor + (m.position - floor) ≡ m.position = omega (arith, below) in
        let same_entry : entry_at (drop floor es) (m.position - floor) ≡ entry_at es m.position = get_or-drop floor es (m.position - floor) no_entry ∙ ap (λ (k : ℕ). entry_at es k) back in
        let found = mentions_entry (drop floor es) (m.position - floor) inside in
        let found_v : mentions (literals (drop floor es)) v ≡ true = subst (λ (w : ℕ). mentions (literals (drop floor es)) w ≡ true) (ap (λ (x : Entry). x.literal.variable) same_entry ∙ variable_is) found in
        absurd (both_ways (is_after es floor v) q found_v)
    go false p true q =
        let r = entry_of_mentions (drop floor es) v q in
        let n = length-drop floor es in
        let inside : floor + r.0 < length es = omega (arith, n, r.1) in
        let same_entry : entry_at (drop floor es) r.0 ≡ entry_at es (floor + r.0) = get_or-drop floor es r.0 no_entry in
        let one : variable_at es (floor + r.0) ≡ variable_at es m.position = sym (ap (λ (x : Entry). x.literal.variable) same_entry) ∙ r.2 ∙ sym variable_is in
        let position : floor + r.0 ≡ m.position = (AreApart_from marks es tied).apart (floor + r.0) m.position inside at.0 one in
        let below : floor ≤ m.position = omega (arith, position) in
        absurd (both_ways (leb floor m.position) p (le-leb floor m.position below))

-- what a read of a variable's mark gives
pub mark_read : (marks : List (Option Mark)) (v : ℕ) (x : Option Mark) → 1 ≤ v → v ≤ length marks → x ≡ get_or marks (v - 1) x → get_or marks (v - 1) None ≡ x
mark_read marks v x low high e = let inside : v - 1 < length marks = omega arith in sym (get_or_read marks (v - 1) x inside e None)

pub mention_by_mark : (marks : List (Option Mark)) (es : List Entry) → IsTied marks es → (v : ℕ) (x : Option Mark) → 1 ≤ v → get_or marks (v - 1) None ≡ x → is_some x ≡ mentions (literals es) v
mention_by_mark marks es tied v None low e = sym (free_by_mark marks es tied v e)
mention_by_mark marks es tied v (Some m) low e = sym (mentioned_by_mark marks es tied v m low e)

pub not_after_by_mark : (marks : List (Option Mark)) (es : List Entry) → IsTied marks es → (v : ℕ) (floor : ℕ) → get_or marks (v - 1) None ≡ None → false ≡ is_after es floor v
not_after_by_mark marks es tied v floor e = sym (false_from_ne_true (is_after es floor v) bad)
  where
    bad : is_after es floor v ≡ true → ⊥
    bad h =
        let r = entry_of_mentions (drop floor es) v h in
        let n = length-drop floor es in
        let inside : floor + r.0 < length es = omega (arith, n, r.1) in
        let same_entry : entry_at (drop floor es) r.0 ≡ entry_at es (floor + r.0) = get_or-drop floor es r.0 no_entry in
        let variable_is : variable_at es (floor + r.0) ≡ v = sym (ap (λ (x : Entry). x.literal.variable) same_entry) ∙ r.2 in
        let found : mentions (literals es) v ≡ true = subst (λ (w : ℕ). mentions (literals es) w ≡ true) variable_is (mentions_entry es (floor + r.0) inside) in
        both_ways (mentions (literals es) v) (free_by_mark marks es tied v e) found

-- the marks after an entry is added
pub tied_push : (marks : List (Option Mark)) (es : List Entry) (e : Entry) → IsTied marks es → is_among (length marks) e.literal ≡ true → mentions (literals es) e.literal.variable ≡ false
    → IsTied (set marks (e.literal.variable - 1) (Some (record { positive = e.literal.positive; position = length es }))) (es ++ e ∷ [])
tied_push marks es e tied among free = record {
  among = λ k l. elim (cases_push es e k l) as (λ _. is_among (length marks') (entry_at (es ++ e ∷ []) k).literal ≡ true) [
    | inl old ↦ rw (len, entry_at-push_old es e k old) (tied.among k old)
    | inr new ↦ rw (len, entry_at-push_new es e k new) among
  ];
  marked = λ k l. elim (cases_push es e k l) as (λ _. get_or marks' ((entry_at (es ++ e ∷ []) k).literal.variable - 1) None ≡ Some (record { positive = (entry_at (es ++ e ∷ []) k).literal.positive; position = k })) [
    | inl old ↦ rw (entry_at-push_old es e k old) (get_or-set_other marks (e.literal.variable - 1) (variable_at es k - 1) x None (others k old) ∙ tied.marked k old)
    | inr new ↦ rw (entry_at-push_new es e k new) (get_or-set_same marks (e.literal.variable - 1) x None inside ∙ ap (λ (n : ℕ). Some (record { positive = e.literal.positive; position = n })) (sym new))
  ];
  placed = λ v m h. elim (cases_eq v (e.literal.variable - 1)) as (λ _. (m.position < length (es ++ e ∷ [])) × ((entry_at (es ++ e ∷ []) m.position).literal.variable ≡ suc v)) [
    | inl same_one ↦
        let one : Some (record { positive = e.literal.positive; position = length es }) ≡ Some m = sym (get_or-set_same marks (e.literal.variable - 1) x None inside) ∙ ap (λ (w : ℕ). get_or marks' w None) (sym same_one) ∙ h in
        let position : length es ≡ m.position = ap position_in one in
        let at : variable_at (es ++ e ∷ []) m.position ≡ e.literal.variable = ap (λ (y : Entry). y.literal.variable) (entry_at-push_new es e m.position (sym position)) in
        (omega (arith, length_push es e, position), at ∙ (let t : e.literal.variable ≡ suc v = omega (arith, same_one, low) in t))
    | inr other ↦
        let before : get_or marks v None ≡ Some m = sym (get_or-set_other marks (e.literal.variable - 1) v x None other) ∙ h in
        let placed = tied.placed v m before in
        (omega (arith, length_push es e, placed.0), rw (entry_at-push_old es e m.position placed.0) placed.1)
  ];
}
  where
    x : Option Mark
    x = Some (record { positive = e.literal.positive; position = length es })

    marks' : List (Option Mark)
    marks' = set marks (e.literal.variable - 1) x

    len : length marks' ≡ length marks
    len = length-set marks (e.literal.variable - 1) x

    low : 1 ≤ e.literal.variable
    low = among_low (length marks) e.literal among

    high : e.literal.variable ≤ length marks
    high = among_high (length marks) e.literal among

    inside : e.literal.variable - 1 < length marks
    inside = omega (arith, low, high)

    position_in : Option Mark → ℕ
    position_in None = 0
    position_in (Some m) = m.position

    others : (k : ℕ) → k < length es → (variable_at es k - 1) ≢ (e.literal.variable - 1)
    others k l t =
        let low_k = among_low (length marks) (entry_at es k).literal (tied.among k l) in
        let one : variable_at es k ≡ e.literal.variable = omega (arith, low_k, low, t) in
        both_ways (mentions (literals es) e.literal.variable) free (subst (λ (w : ℕ). mentions (literals es) w ≡ true) one (mentions_entry es k l))

-- the marks after the newest entry is taken off
pub tied_pop : (marks : List (Option Mark)) (es : List Entry) (e : Entry) → IsTied marks (es ++ e ∷ []) → IsTied (set marks (e.literal.variable - 1) None) es
tied_pop marks es e tied = record {
  among = λ k l. rw (len, sym (entry_at-push_old es e k l)) (tied.among k (longer k l));
  marked = λ k l. get_or-set_other marks (e.literal.variable - 1) (variable_at es k - 1) None None (others k l) ∙ old_mark k l;
  placed = λ v m h. elim (cases_eq v (e.literal.variable - 1)) as (λ _. (m.position < length es) × ((entry_at es m.position).literal.variable ≡ suc v)) [
    | inl same_one ↦
        let gone : get_or (set marks (e.literal.variable - 1) None) v None ≡ None = subst (λ (w : ℕ). get_or (set marks (e.literal.variable - 1) None) w None ≡ None) (sym same_one)
        (get_or-set_same marks (e.literal.variable - 1) None None inside) in
        absurd (none_some m (sym gone ∙ h))
    | inr other ↦
        let before : get_or marks v None ≡ Some m = sym (get_or-set_other marks (e.literal.variable - 1) v None None other) ∙ h in
        let placed = tied.placed v m before in
        elim (cases_push es e m.position placed.0) as (λ _. (m.position < length es) × ((entry_at es m.position).literal.variable ≡ suc v)) [
          | inl old ↦ (old, sym (ap (λ (y : Entry). y.literal.variable) (entry_at-push_old es e m.position old)) ∙ placed.1)
          | inr new ↦
              let at : e.literal.variable ≡ suc v = sym (ap (λ (y : Entry). y.literal.variable) (entry_at-push_new es e m.position new)) ∙ placed.1 in
              absurd (other (let t : v ≡ e.literal.variable - 1 = omega (arith, at) in t))
        ]
  ];
}
  where
    len : length (set marks (e.literal.variable - 1) None) ≡ length marks
    len = length-set marks (e.literal.variable - 1) None

    none_some : (m : Mark) → None ≡ Some m → ⊥
    none_some m h = cc

    longer : (k : ℕ) → k < length es → k < length (es ++ e ∷ [])
    longer k l = omega (arith, l, length_push es e)

    last_one : length es < length (es ++ e ∷ [])
    last_one = omega (arith, length_push es e)

    last_is : entry_at (es ++ e ∷ []) (length es) ≡ e
    last_is = entry_at-push_new es e (length es) refl

    among_e : is_among (length marks) e.literal ≡ true
    among_e = subst (λ (y : Entry). is_among (length marks) y.literal ≡ true) last_is (tied.among (length es) last_one)

    inside : e.literal.variable - 1 < length marks
    inside = let low = among_low (length marks) e.literal among_e in let high = among_high (length marks) e.literal among_e in omega (arith, low, high)

    old_mark : (k : ℕ) → k < length es → get_or marks (variable_at es k - 1) None ≡ Some (record { positive = (entry_at es k).literal.positive; position = k })
    old_mark k l = subst (λ (y : Entry). get_or marks (y.literal.variable - 1) None ≡ Some (record { positive = y.literal.positive; position = k })) (entry_at-push_old es e k l) (tied.marked k (longer k l))

    others : (k : ℕ) → k < length es → (variable_at es k - 1) ≢ (e.literal.variable - 1)
    others k l t =
        let among_k : is_among (length marks) (entry_at es k).literal ≡ true = subst (λ (y : Entry). is_among (length marks) y.literal ≡ true) (entry_at-push_old es e k l) (tied.among k (longer k l)) in
        let low_k = among_low (length marks) (entry_at es k).literal among_k in
        let low_e = among_low (length marks) e.literal among_e in
        let one : variable_at es k ≡ e.literal.variable = omega (arith, low_k, low_e, t) in
        let both : variable_at (es ++ e ∷ []) k ≡ variable_at (es ++ e ∷ []) (length es) = ap (λ (y : Entry). y.literal.variable) (entry_at-push_old es e k l) ∙ one ∙ sym (ap (λ (y : Entry). y.literal.variable) last_is) in
        let position : k ≡ length es = (AreApart_from marks (es ++ e ∷ []) tied).apart k (length es) (longer k l) last_one both in
        omega (arith, position, l)

-- the signs of the marks make each literal of the trail true
pub values_agree : (marks : List (Option Mark)) (es : List Entry) → IsTied marks es → (bits : List Bool) → bits ≡ map sign_of marks → (l : Literal) → holds (literals es) l ≡ true → is_true bits l ≡ true
values_agree marks es tied bits e l h =
    let r = mark_of_holds marks es tied l h in
    let s = entry_of_holds es l h in
    let among : is_among (length marks) l ≡ true = subst (λ (x : Literal). is_among (length marks) x ≡ true) s.2 (tied.among s.0 s.1) in
    let low = among_low (length marks) l among in
    let high = among_high (length marks) l among in
    let inside : l.variable - 1 < length marks = omega (arith, low, high) in
    let sign : get_or bits (l.variable - 1) false ≡ l.positive = ap (λ (xs : List Bool). get_or xs (l.variable - 1) false) e ∙ get_or-map sign_of marks (l.variable - 1) None false inside ∙ ap sign_of r.2 in
    subst (λ (b : Bool). beq b l.positive ≡ true) (sym sign) (beq-refl l.positive)
