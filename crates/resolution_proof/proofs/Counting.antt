-- Fresh clauses that are not empty are fewer than three to the power of the variables.
use Rattle.std.proofs.Common.{◌≡◌, ℕ, zero, suc, ◌+◌, ◌*◌, ◌^◌, ◌<◌, ◌≤◌, Bool, true, false, not, ◌||◌, cond, List, [], ◌∷◌, ◌++◌, length, eqb, ltb, refl, sym, ◌∙◌, ap, subst, arith, append_assoc}
use Rattle.std.proofs.Math.Nat.{pow-suc}
use Rattle.std.proofs.lemmas.Bool.{and_parts, and_from, or_from, true≢false, false≢true, eqb-true, eqb-false, ne_eqb, both_ways, not_from_false, not-true, false_from_ne_true, lt-ltb}
use Rattle.resolution_proof.specs.declared.literal.Literal.{Literal}
use Rattle.resolution_proof.specs.declared.log.Step.{Step}
use Rattle.resolution_proof.specs.Literal.{holds, is_once}
use Rattle.resolution_proof.specs.Clause.{is_among, is_within, is_clause, is_subset}
use Rattle.resolution_proof.specs.Formula.{are_clauses}
use Rattle.resolution_proof.specs.Replay.{learnt_clauses}
use Rattle.resolution_proof.specs.Fresh.{is_empty, is_new, is_new_from, has_no_empty}
use Rattle.resolution_proof.proofs.Sets.{literal_ext, all_at, all_from, once_apart, among_low, among_high}
use Rattle.resolution_proof.proofs.Pigeons.{is_member, is_distinct, are_below, pigeonhole}

-- the literal of a variable and a sign
abbrev literal_of : ℕ → Bool → Literal
literal_of v s = record { variable = v; positive = s }

-- the digit of a variable that the clause has positive, negative or not
abbrev digit_by : Bool → Bool → ℕ
digit_by a b = cond a 1 (cond b 2 0)

abbrev digit : List Literal → ℕ → ℕ
digit c v = digit_by (holds c (literal_of v true)) (holds c (literal_of v false))

-- the digits of the first variables as one number
abbrev code : ℕ → List Literal → ℕ
code zero c = 0
code (suc n) c = digit c (suc n) + 3 * code n c

digit_small : (c : List Literal) (v : ℕ) → digit c v ≤ 2
digit_small c v = go (holds c (literal_of v true)) (holds c (literal_of v false))
  where
    go : (a b : Bool) → digit_by a b ≤ 2
    go true b = omega arith
    go false true = omega arith
    go false false = omega arith

code_below : (n : ℕ) (c : List Literal) → code n c < 3 ^ n
code_below zero c = omega arith
code_below (suc n) c =
    let ih = code_below n c in
    let d = digit_small c (suc n) in
    let p : 3 ^ suc n ≡ 3 ^ n * 3 = pow-suc 3 n in
    omega (arith, ih, d, p)

digits_same : (n : ℕ) (a b : List Literal) → code n a ≡ code n b → (v : ℕ) → 1 ≤ v → v ≤ n → digit a v ≡ digit b v
digits_same zero a b e v low high = absurd (omega (arith, low, high))
digits_same (suc n) a b e v low high =
    let da = digit_small a (suc n) in
    let db = digit_small b (suc n) in
    let here : digit a (suc n) ≡ digit b (suc n) = omega (arith, e, da, db) in
    let rest : code n a ≡ code n b = omega (arith, e, da, db) in
    go (eqb v (suc n)) refl here (λ h. digits_same n a b rest v low h)
  where
    go : (t : Bool) → eqb v (suc n) ≡ t → digit a (suc n) ≡ digit b (suc n) → (v ≤ n → digit a v ≡ digit b v) → digit a v ≡ digit b v
    go true p here ih = subst (λ (w : ℕ). digit a w ≡ digit b w) (sym (eqb-true v (suc n) p)) here
    go false p here ih = let apart : v ≡ suc n → ⊥ = eqb-false v (suc n) p in ih (omega (arith, high, apart))

-- a digit tells the literal
digit_one : (c : List Literal) (v : ℕ) → digit c v ≡ 1 → holds c (literal_of v true) ≡ true
digit_one c v = go (holds c (literal_of v true)) (holds c (literal_of v false))
  where
    go : (a b : Bool) → digit_by a b ≡ 1 → a ≡ true
    go true b h = refl
    go false true h = absurd (omega (arith, h))
    go false false h = absurd (omega (arith, h))

digit_two : (c : List Literal) (v : ℕ) → digit c v ≡ 2 → holds c (literal_of v false) ≡ true
digit_two c v = go (holds c (literal_of v true)) (holds c (literal_of v false))
  where
    go : (a b : Bool) → digit_by a b ≡ 2 → b ≡ true
    go true b h = absurd (omega (arith, h))
    go false true h = refl
    go false false h = absurd (omega (arith, h))

digit_of : (c : List Literal) (l : Literal) → is_once c ≡ true → holds c l ≡ true → digit c l.variable ≡ cond l.positive 1 2
digit_of c l once h = go l.positive refl
  where
    go : (s : Bool) → l.positive ≡ s → digit c l.variable ≡ cond s 1 2
    go true e =
        let at : holds c (literal_of l.variable true) ≡ true = subst (λ (x : Literal). holds c x ≡ true) (literal_ext l (literal_of l.variable true) refl e) h in
        rw at refl
    go false e =
        let at : holds c (literal_of l.variable false) ≡ true = subst (λ (x : Literal). holds c x ≡ true) (literal_ext l (literal_of l.variable false) refl e) h in
        let none : holds c (literal_of l.variable true) ≡ false = false_from_ne_true (holds c (literal_of l.variable true)) (λ t. once_apart c (literal_of l.variable true) once t at) in
        rw (none, at) refl

-- clauses of one code hold the same literals
code_subset : (n : ℕ) (a b : List Literal) → is_clause n a ≡ true → code n a ≡ code n b → is_subset a b ≡ true
code_subset n a b clause e = all_from (λ l. holds b l) a each
  where
    once : is_once a ≡ true
    once = (and_parts (is_once a) (is_within n a) clause).0

    within : is_within n a ≡ true
    within = (and_parts (is_once a) (is_within n a) clause).1

    each : (l : Literal) → holds a l ≡ true → holds b l ≡ true
    each l h =
        let among = all_at (is_among n) a l within h in
        let d = sym (digits_same n a b e l.variable (among_low n l among) (among_high n l among)) ∙ digit_of a l once h in
        go l.positive refl d
      where
        go : (s : Bool) → l.positive ≡ s → digit b l.variable ≡ cond l.positive 1 2 → holds b l ≡ true
        go true p d =
            let one : digit b l.variable ≡ 1 = d ∙ ap (λ (t : Bool). cond t 1 2) p in
            subst (λ (x : Literal). holds b x ≡ true) (literal_ext (literal_of l.variable true) l refl (sym p)) (digit_one b l.variable one)
        go false p d =
            let two : digit b l.variable ≡ 2 = d ∙ ap (λ (t : Bool). cond t 1 2) p in
            subst (λ (x : Literal). holds b x ≡ true) (literal_ext (literal_of l.variable false) l refl (sym p)) (digit_two b l.variable two)

abbrev codes : ℕ → List Step → List ℕ
codes n [] = []
codes n (s ∷ ss) = code n s.clause ∷ codes n ss

length-codes : (n : ℕ) (log : List Step) → length (codes n log) ≡ length log
length-codes n [] = refl
length-codes n (s ∷ ss) = ap suc (length-codes n ss)

codes_below : (n : ℕ) (log : List Step) → are_below (3 ^ n) (codes n log) ≡ true
codes_below n [] = refl
codes_below n (s ∷ ss) = and_from (ltb (code n s.clause) (3 ^ n)) (are_below (3 ^ n) (codes n ss)) (lt-ltb (code n s.clause) (3 ^ n) (code_below n s.clause)) (codes_below n ss)

new_middle : (k c : List Literal) (before after : List (List Literal)) → is_new (before ++ k ∷ after) c ≡ true → is_subset k c ≡ false
new_middle k c [] after h = not-true (is_subset k c) (and_parts (not (is_subset k c)) (is_new after c) h).0
new_middle k c (b ∷ bs) after h = new_middle k c bs after (and_parts (not (is_subset b c)) (is_new (bs ++ k ∷ after) c) h).1

-- no later step has the code of a known clause
member_differs : (n : ℕ) (k : List Literal) (before after : List (List Literal)) (log : List Step) → is_clause n k ≡ true → has_no_empty log ≡ true → is_new_from (before ++ k ∷ after) log ≡ true → is_member (codes n log) (code n k) ≡ false
member_differs n k before after [] clause full new = refl
member_differs n k before after (s ∷ ss) clause full new =
    let fulls = and_parts (not (is_empty s.clause)) (has_no_empty ss) full in
    let news = and_parts (is_empty s.clause || is_new (before ++ k ∷ after) s.clause) (is_new_from ((before ++ k ∷ after) ++ s.clause ∷ []) ss) new in
    let this : is_new (before ++ k ∷ after) s.clause ≡ true = second (is_empty s.clause) (is_new (before ++ k ∷ after) s.clause) (not-true (is_empty s.clause) fulls.0) news.0 in
    let rest : is_new_from (before ++ k ∷ (after ++ s.clause ∷ [])) ss ≡ true = subst (λ (ks : List (List Literal)). is_new_from ks ss ≡ true) (append_assoc before (k ∷ after) (s.clause ∷ [])) news.1 in
    or_from (eqb (code n s.clause) (code n k)) (is_member (codes n ss) (code n k))
    (ne_eqb (code n s.clause) (code n k) (λ e. both_ways (is_subset k s.clause) (new_middle k s.clause before after this) (code_subset n k s.clause clause (sym e))))
    (member_differs n k before (after ++ s.clause ∷ []) ss clause fulls.1 rest)
  where
    second : (a b : Bool) → a ≡ false → (a || b) ≡ true → b ≡ true
    second true b e h = absurd (true≢false e)
    second false b e h = h

codes_distinct : (n : ℕ) (known : List (List Literal)) (log : List Step) → are_clauses n (learnt_clauses log) ≡ true → has_no_empty log ≡ true → is_new_from known log ≡ true → is_distinct (codes n log) ≡ true
codes_distinct n known [] clauses full new = refl
codes_distinct n known (s ∷ ss) clauses full new =
    let cs = and_parts (is_clause n s.clause) (are_clauses n (learnt_clauses ss)) clauses in
    let fulls = and_parts (not (is_empty s.clause)) (has_no_empty ss) full in
    let news = and_parts (is_empty s.clause || is_new known s.clause) (is_new_from (known ++ s.clause ∷ []) ss) new in
    and_from (not (is_member (codes n ss) (code n s.clause))) (is_distinct (codes n ss))
    (not_from_false (is_member (codes n ss) (code n s.clause)) (member_differs n s.clause known [] ss cs.0 fulls.1 news.1))
    (codes_distinct n (known ++ s.clause ∷ []) ss cs.1 fulls.1 news.1)

-- a clause with a literal does not have the code of the empty one
code_empty : (n : ℕ) → code n [] ≡ 0
code_empty zero = refl
code_empty (suc n) = let ih = code_empty n in omega (arith, ih)

none_zero : (n : ℕ) (log : List Step) → are_clauses n (learnt_clauses log) ≡ true → has_no_empty log ≡ true → is_member (codes n log) 0 ≡ false
none_zero n [] clauses full = refl
none_zero n (s ∷ ss) clauses full =
    let cs = and_parts (is_clause n s.clause) (are_clauses n (learnt_clauses ss)) clauses in
    let fulls = and_parts (not (is_empty s.clause)) (has_no_empty ss) full in
    or_from (eqb (code n s.clause) 0) (is_member (codes n ss) 0)
    (ne_eqb (code n s.clause) 0 (λ e. nonempty s.clause (not-true (is_empty s.clause) fulls.0) (code_subset n s.clause [] cs.0 (e ∙ sym (code_empty n)))))
    (none_zero n ss cs.1 fulls.1)
  where
    nonempty : (c : List Literal) → is_empty c ≡ false → is_subset c [] ≡ true → ⊥
    nonempty [] e h = true≢false e
    nonempty (x ∷ xs) e h = false≢true h

pub fewer_than : (n : ℕ) (known : List (List Literal)) (log : List Step) → are_clauses n (learnt_clauses log) ≡ true → has_no_empty log ≡ true → is_new_from known log ≡ true → length log < 3 ^ n
fewer_than n known log clauses full new =
    let zero_below : 0 < 3 ^ n = let h = code_below n [] in omega (arith, h) in
    let distinct : is_distinct (0 ∷ codes n log) ≡ true = and_from (not (is_member (codes n log) 0)) (is_distinct (codes n log)) (not_from_false (is_member (codes n log) 0) (none_zero n log clauses full)) (codes_distinct n known log clauses full new) in
    let below : are_below (3 ^ n) (0 ∷ codes n log) ≡ true = and_from (ltb 0 (3 ^ n)) (are_below (3 ^ n) (codes n log)) (lt-ltb 0 (3 ^ n) zero_below) (codes_below n log) in
    let bound = pigeonhole (3 ^ n) (0 ∷ codes n log) distinct below in
    let len = length-codes n log in
    omega (arith, bound, len)
