-- Lists of marked variables.
use Rattle.std.proofs.Common.{◌≡◌, ℕ, zero, suc, ◌+◌, ◌-◌, ◌<◌, ◌≤◌, Bool, true, false, cond, List, [], ◌∷◌, ◌++◌, length, get_or, set, replicate, refl, sym, ◌∙◌, ap, subst, inl, inr, ◌⊎◌, arith}
use Rattle.std.proofs.lemmas.List.{get_or_append_left, get_or_push, length_push, length-set, set-get_or}
use Rattle.std.proofs.lemmas.Bool.{false≢true, cases_eq, both_ways, false_from_ne_true}
use Rattle.resolution_proof.proofs.Pigeons.{pigeonhole, distinct_from, below_from}
use Rattle.clause_learning.specs.Learning.{is_seen}
use Rattle.clause_learning.specs.Marked.{count_marked, AreListed}
use Rattle.clause_learning.proofs.Marking.{seen-set_same, seen-set_other, get_or-replicate_false}

-- a mark taken off counts one less
pub count_marked-off : (bs : List Bool) (i : ℕ) → get_or bs i false ≡ true → count_marked (set bs i false) + 1 ≡ count_marked bs
count_marked-off [] i h = absurd (false≢true h)
count_marked-off (b ∷ bs) zero h = rw h (omega arith)
count_marked-off (b ∷ bs) (suc i) h = let ih = count_marked-off bs i h in omega (arith, ih)

-- with nothing listed nothing is marked
pub listed_start : (n : ℕ) → AreListed (replicate n false) (replicate n false) []
listed_start n = record {
  count = refl;
  low = λ k l. absurd (omega (arith, l));
  high = λ k l. absurd (omega (arith, l));
  there = λ k l. absurd (omega (arith, l));
  apart = λ j k l. absurd (omega (arith, l));
  found = λ v low h. absurd (false≢true (sym (get_or-replicate_false n (v - 1)) ∙ h));
  each = λ v low h. h;
}

module _ (seen listed : List Bool) where
  -- there are no more listed variables than variables
  pub listed_few : (list : List ℕ) → AreListed seen listed list → length list ≤ length seen + 1
  listed_few list h =
      let d = distinct_from list h.apart in
      let b = below_from (length seen + 1) list (λ k l. let top = h.high k l in omega (arith, top)) in
      pigeonhole (length seen + 1) list d b

  -- nothing is marked where nothing is listed
  pub listed_none : (list : List ℕ) → length list ≡ 0 → AreListed seen listed list → (v : ℕ) → is_seen seen v ≡ false
  listed_none list empty h v = false_from_ne_true (is_seen seen v) (bad v)
    where
      one : (w : ℕ) → 1 ≤ w → is_seen seen w ≡ true → ⊥
      one w low m = let r = h.found w low (h.each w low m) in let l = r.1 in omega (arith, l, empty)

      bad : (w : ℕ) → is_seen seen w ≡ true → ⊥
      bad zero m = one 1 (omega arith) m
      bad (suc w) m = one (suc w) (omega arith) m

  -- a listed variable is marked
  pub listed_mark : (list : List ℕ) (v : ℕ) → 1 ≤ v → v ≤ length seen → is_seen listed v ≡ true → AreListed seen listed list → AreListed (set seen (v - 1) true) listed list
  listed_mark list v low high there h = record {
    count = h.count ∙ sym (length-set seen (v - 1) true);
    low = h.low;
    high = λ k l. let n = length-set seen (v - 1) true in let top = h.high k l in omega (arith, n, top);
    there = h.there;
    apart = h.apart;
    found = h.found;
    each = λ w w_low m. elim (cases_eq w v) as (λ _. is_seen listed w ≡ true) [
      | inl same ↦ subst (λ (x : ℕ). is_seen listed x ≡ true) (sym same) there
      | inr other ↦ h.each w w_low (sym (seen-set_other seen v w true low w_low other) ∙ m)
    ];
  }

  -- a mark is taken off
  pub listed_unmark : (list : List ℕ) (v : ℕ) → 1 ≤ v → v ≤ length seen → AreListed seen listed list → AreListed (set seen (v - 1) false) listed list
  listed_unmark list v low high h = record {
    count = h.count ∙ sym (length-set seen (v - 1) false);
    low = h.low;
    high = λ k l. let n = length-set seen (v - 1) false in let top = h.high k l in omega (arith, n, top);
    there = h.there;
    apart = h.apart;
    found = h.found;
    each = λ w w_low m. elim (cases_eq w v) as (λ _. is_seen listed w ≡ true) [
      | inl same ↦ absurd (both_ways (is_seen (set seen (v - 1) false) v) (seen-set_same seen v false low high) (subst (λ (x : ℕ). is_seen (set seen (v - 1) false) x ≡ true) same m))
      | inr other ↦ h.each w w_low (sym (seen-set_other seen v w false low w_low other) ∙ m)
    ];
  }

-- a position of a list with one more number, and what stands there
at_push : (list : List ℕ) (v k : ℕ) → k < length (list ++ v ∷ []) → ((k < length list) × (get_or (list ++ v ∷ []) k 0 ≡ get_or list k 0)) ⊎ ((k ≡ length list) × (get_or (list ++ v ∷ []) k 0 ≡ v))
at_push list v k l =
    let n = length_push list v in
    elim (cases_eq k (length list)) as (λ _. ((k < length list) × (get_or (list ++ v ∷ []) k 0 ≡ get_or list k 0)) ⊎ ((k ≡ length list) × (get_or (list ++ v ∷ []) k 0 ≡ v))) [
      | inl last ↦ inr (last, get_or_push list v 0 k (sym last))
      | inr other ↦ let old : k < length list = omega (arith, n, l, other) in inl (old, get_or_append_left list (v ∷ []) 0 k old)
    ]

-- a variable comes into the list with its mark
pub listed_push : (seen listed : List Bool) (list : List ℕ) (v : ℕ) → 1 ≤ v → v ≤ length seen → is_seen listed v ≡ false → AreListed seen listed list
    → AreListed (set seen (v - 1) true) (set listed (v - 1) true) (list ++ v ∷ [])
listed_push seen listed list v low high new h = record {
  count = length-set listed (v - 1) true ∙ h.count ∙ sym (length-set seen (v - 1) true);
  low = λ k l. elim (at_push list v k l) as (λ _. 1 ≤ get_or (list ++ v ∷ []) k 0) [ inl old ↦ rw old.1 (h.low k old.0) | inr last ↦ rw last.1 low ];
  high = λ k l. let n = length-set seen (v - 1) true in
      elim (at_push list v k l) as (λ _. get_or (list ++ v ∷ []) k 0 ≤ length (set seen (v - 1) true)) [ inl old ↦ let top = h.high k old.0 in rw (old.1, n) top | inr last ↦ rw (last.1, n) high ];
  there = λ k l. elim (at_push list v k l) as (λ _. is_seen listed' (get_or (list ++ v ∷ []) k 0) ≡ true) [
    | inl old ↦ rw old.1 (seen-set_other listed v (get_or list k 0) true low (h.low k old.0) (fresh k old.0) ∙ h.there k old.0)
    | inr last ↦ rw last.1 (seen-set_same listed v true low high')
  ];
  apart = λ j k lj lk e. elim (at_push list v j lj) as (λ _. j ≡ k) [
    | inl oj ↦ elim (at_push list v k lk) as (λ _. j ≡ k) [
      | inl ok ↦ h.apart j k oj.0 ok.0 (sym oj.1 ∙ e ∙ ok.1)
      | inr tk ↦ absurd (fresh j oj.0 (sym oj.1 ∙ e ∙ tk.1))
    ]
    | inr tj ↦ elim (at_push list v k lk) as (λ _. j ≡ k) [
      | inl ok ↦ absurd (fresh k ok.0 (sym ok.1 ∙ sym e ∙ tj.1))
      | inr tk ↦ tj.0 ∙ sym tk.0
    ]
  ];
  found = λ w w_low m. elim (cases_eq w v) as (λ _. (k : ℕ) × (k < length (list ++ v ∷ [])) × (get_or (list ++ v ∷ []) k 0 ≡ w)) [
    | inl same ↦ let n = length_push list v in (length list, omega (arith, n), get_or_push list v 0 (length list) refl ∙ sym same)
    | inr other ↦
        let r = h.found w w_low (sym (seen-set_other listed v w true low w_low other) ∙ m) in
        let n = length_push list v in
        let l = r.1 in
        (r.0, omega (arith, n, l), get_or_append_left list (v ∷ []) 0 r.0 r.1 ∙ r.2)
  ];
  each = λ w w_low m. elim (cases_eq w v) as (λ _. is_seen listed' w ≡ true) [
    | inl same ↦ subst (λ (x : ℕ). is_seen listed' x ≡ true) (sym same) (seen-set_same listed v true low high')
    | inr other ↦ seen-set_other listed v w true low w_low other ∙ h.each w w_low (sym (seen-set_other seen v w true low w_low other) ∙ m)
  ];
}
  where
    listed' : List Bool
    listed' = set listed (v - 1) true

    high' : v ≤ length listed
    high' = let n = h.count in omega (arith, n, high)

    fresh : (k : ℕ) → k < length list → get_or list k 0 ≡ v → ⊥
    fresh k l e = both_ways (is_seen listed v) new (subst (λ (x : ℕ). is_seen listed x ≡ true) e (h.there k l))

-- the last variable of the list goes with its mark
pub listed_pop : (seen listed : List Bool) (list : List ℕ) (v : ℕ) → AreListed seen listed (list ++ v ∷ []) → AreListed (set seen (v - 1) false) (set listed (v - 1) false) list
listed_pop seen listed list v h = record {
  count = length-set listed (v - 1) false ∙ h.count ∙ sym (length-set seen (v - 1) false);
  low = λ k l. rw (← get_or_append_left list (v ∷ []) 0 k l) (h.low k (more k l));
  high = λ k l. let n = length-set seen (v - 1) false in rw (n, ← get_or_append_left list (v ∷ []) 0 k l) (h.high k (more k l));
  there = λ k l. seen-set_other listed v (get_or list k 0) false low (low_at k l) (other_at k l) ∙ subst (λ (x : ℕ). is_seen listed x ≡ true) (get_or_append_left list (v ∷ []) 0 k l) (h.there k (more k l));
  apart = λ j k lj lk e. h.apart j k (more j lj) (more k lk) (get_or_append_left list (v ∷ []) 0 j lj ∙ e ∙ sym (get_or_append_left list (v ∷ []) 0 k lk));
  found = λ w w_low m. elim (cases_eq w v) as (λ _. (k : ℕ) × (k < length list) × (get_or list k 0 ≡ w)) [
    | inl same ↦ absurd (both_ways (is_seen listed' v) (seen-set_same listed v false low high') (subst (λ (x : ℕ). is_seen listed' x ≡ true) same m))
    | inr other ↦
        let r = h.found w w_low (sym (seen-set_other listed v w false low w_low other) ∙ m) in
        elim (at_push list v r.0 r.1) as (λ _. (k : ℕ) × (k < length list) × (get_or list k 0 ≡ w)) [
          | inl old ↦ (r.0, old.0, sym old.1 ∙ r.2)
          | inr last ↦ absurd (other (sym r.2 ∙ last.1))
        ]
  ];
  each = λ w w_low m. elim (cases_eq w v) as (λ _. is_seen listed' w ≡ true) [
    | inl same ↦ absurd (both_ways (is_seen seen' v) (seen-set_same seen v false low high) (subst (λ (x : ℕ). is_seen seen' x ≡ true) same m))
    | inr other ↦ seen-set_other listed v w false low w_low other ∙ h.each w w_low (sym (seen-set_other seen v w false low w_low other) ∙ m)
  ];
}
  where
    seen' : List Bool
    seen' = set seen (v - 1) false

    listed' : List Bool
    listed' = set listed (v - 1) false

    top : length list < length (list ++ v ∷ [])
    top = let n = length_push list v in omega (arith, n)

    more : (k : ℕ) → k < length list → k < length (list ++ v ∷ [])
    more k l = let n = length_push list v in omega (arith, n, l)

    last_is : get_or (list ++ v ∷ []) (length list) 0 ≡ v
    last_is = get_or_push list v 0 (length list) refl

    low : 1 ≤ v
    low = subst (λ (x : ℕ). 1 ≤ x) last_is (h.low (length list) top)

    high : v ≤ length seen
    high = subst (λ (x : ℕ). x ≤ length seen) last_is (h.high (length list) top)

    high' : v ≤ length listed
    high' = let n = h.count in omega (arith, n, high)

    low_at : (k : ℕ) → k < length list → 1 ≤ get_or list k 0
    low_at k l = subst (λ (x : ℕ). 1 ≤ x) (get_or_append_left list (v ∷ []) 0 k l) (h.low k (more k l))

    other_at : (k : ℕ) → k < length list → get_or list k 0 ≡ v → ⊥
    other_at k l e = let one : k ≡ length list = h.apart k (length list) (more k l) top (get_or_append_left list (v ∷ []) 0 k l ∙ e ∙ sym last_is) in omega (arith, one, l)

-- no mark to take off
pub set_off : (seen : List Bool) (v : ℕ) → is_seen seen v ≡ false → set seen (v - 1) false ≡ seen
set_off seen v off = ap (λ (b : Bool). set seen (v - 1) b) (sym off) ∙ set-get_or seen (v - 1) false

-- a mark that was read as none
pub read_off : (bs : List Bool) (i : ℕ) (b : Bool) → b ≡ get_or bs i b → b ≡ false → get_or bs i false ≡ false
read_off bs i b read off = sym (subst (λ (x : Bool). x ≡ get_or bs i x) off read)
