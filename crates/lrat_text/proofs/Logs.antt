-- A regular log that replays is a proof, step by step, with each step's hints in reverse.
use Rattle.std.proofs.Common.{◌≡◌, ℕ, ◌+◌, ◌-◌, ◌<◌, ◌≤◌, Bool, true, false, not, ◌&&◌, ◌||◌, cond, List, [], ◌∷◌, ◌++◌, ◌⊎◌, length, get_or, eqb, leb, refl, sym, ◌∙◌, ap, subst, inl, inr, arith, append_assoc, append-nil, length-append}
use Rattle.std.proofs.Math.ListN.{get_or-append}
use Rattle.std.specs.Prelude.{Option, Some, None, is_some, is_none, nat_eq}
use Rattle.std.specs.Map.{update}
use Rattle.std.specs.List.{list_all}
use Rattle.std.proofs.lemmas.Bool.{and_parts, and_from, or_cases, or_parts, or_from, or_left, or_right, false≢true, not-true, not_from_false, both_ways, eqb-true, eqb-false, eq-eqb, leb-true, le-leb, false_from_ne_true}
use Rattle.resolution_proof.specs.declared.literal.Literal.{Literal}
use Rattle.resolution_proof.specs.declared.log.Hint.{Hint}
use Rattle.resolution_proof.specs.declared.log.Step.{Step}
use Rattle.resolution_proof.specs.Literal.{negation, same, is_on, holds, mentions, is_once}
use Rattle.resolution_proof.specs.Clause.{is_among, is_within, is_clause, is_subset, is_same_set, resolvent}
use Rattle.resolution_proof.specs.Formula.{Formula, are_clauses}
use Rattle.resolution_proof.specs.Fresh.{is_empty}
use Rattle.resolution_proof.specs.Replay.{is_number, clause_at, is_clash, fits, resolvent_by, is_chain, chain_end, names_chain, derives, replays_from, replay}
use Rattle.resolution_proof.specs.Regular.{is_regular, is_regular_from, is_regular_log}
use Rattle.resolution_proof.specs.Proof.{EndsEmpty}
use Rattle.resolution_proof.proofs.Sets.{same-true, same-refl, all_at, all_from, holds-resolvent, mentions_from}
use Rattle.resolution_proof.proofs.Laws.{NoClash, once_no_clash, number_all, clauses_once}
use Rattle.diag.specs.declared.cause.Cause.{Cause}
use Rattle.diag.specs.declared.cause.Cause.TheVariants.{BadProofLine, UnknownClause}
use Rattle.lrat_text.specs.declared.judged.Judged.{Judged}
use Rattle.lrat_text.specs.ProofLine.{Line, adds}
use Rattle.lrat_text.specs.Hints.{Store, judged, after_judged, hints_fault, is_known, are_known}
use Rattle.lrat_text.specs.Checking.{State, clashes_after, clashes, negations, step_fault, numbered, no_clauses, start}
use Rattle.lrat_text.specs.Verified.{goes, have_empty}
use Rattle.lrat_text.proofs.Reversal.{hint_of, hint_list, is_free_of, HasClauses, AreApart, all_false_conflict, mentions_none, end_free, stored, reached, chain_apart, derived_hints}

-- the lines of a log, of which the first has the number
abbrev pub lines_of : ℕ → List Step → List Line
lines_of n [] = []
lines_of n (s ∷ ss) = adds n s.clause (hint_list s.hints) ∷ lines_of (n + 1) ss

-- the negations of a clause
negations_keep : (set c : List Literal) (l : Literal) → holds set l ≡ true → holds (negations set c) l ≡ true
negations_keep set [] l h = h
negations_keep set (k ∷ ks) l h = negations_keep (negation k ∷ set) ks l (or_right (same (negation k) l) (holds set l) h)

negations_have : (set c : List Literal) (l : Literal) → holds c l ≡ true → holds (negations set c) (negation l) ≡ true
negations_have set [] l h = absurd (false≢true h)
negations_have set (k ∷ ks) l h = elim (or_cases (same k l) (holds ks l) h) as (λ _. holds (negations (negation k ∷ set) ks) (negation l) ≡ true) [
  | inl here ↦
      negations_keep (negation k ∷ set) ks (negation l)
      (or_left (same (negation k) (negation l)) (holds set (negation l)) (subst (λ (x : Literal). same (negation k) (negation x) ≡ true) (same-true k l here) (same-refl (negation k))))
  | inr there ↦ negations_have (negation k ∷ set) ks l there
]

negations_mention : (set c : List Literal) (v : ℕ) → mentions set v ≡ false → mentions c v ≡ false → mentions (negations set c) v ≡ false
negations_mention set [] v m n = m
negations_mention set (k ∷ ks) v m n =
    let parts = or_parts (is_on v k) (mentions ks v) n in
    negations_mention (negation k ∷ set) ks v (or_from (is_on v (negation k)) (mentions set v) parts.0 m) parts.1

-- a clause without both literals of a variable does not clash
no_clash_after : (set c : List Literal) → NoClash c → ((l : Literal) → holds c l ≡ true → holds set l ≡ false) → clashes_after set c ≡ false
no_clash_after set [] nc f = refl
no_clash_after set (k ∷ ks) nc f =
    or_from (holds set k) (clashes_after (negation k ∷ set) ks) (f k (or_left (same k k) (holds ks k) (same-refl k)))
    (no_clash_after (negation k ∷ set) ks (λ l h n. nc l (or_right (same k l) (holds ks l) h) (or_right (same k (negation l)) (holds ks (negation l)) n))
    (λ l h. or_from (same (negation k) l) (holds set l)
    (false_from_ne_true (same (negation k) l) (λ e. nc k (or_left (same k k) (holds ks k) (same-refl k))
    (or_right (same k (negation k)) (holds ks (negation k)) (subst (λ (x : Literal). holds ks x ≡ true) (sym (same-true (negation k) l e)) h))))
    (f l (or_right (same k l) (holds ks l) h))))

no_clash : (c : List Literal) → NoClash c → clashes c ≡ false
no_clash c nc = no_clash_after [] c nc (λ l h. refl)

-- what holds of a set holds of its parts
subset_apart : (a b : List Literal) → is_subset a b ≡ true → NoClash b → NoClash a
subset_apart a b s nb l h n = nb l (all_at (λ (k : Literal). holds b k) a l s h) (all_at (λ (k : Literal). holds b k) a (negation l) s n)

subset_mentions : (a b : List Literal) (v : ℕ) → is_subset a b ≡ true → mentions b v ≡ false → mentions a v ≡ false
subset_mentions a b v s n =
    mentions_none a v (λ l h e. both_ways (mentions b v) n (subst (λ (w : ℕ). mentions b w ≡ true) e (mentions_from b l (all_at (λ (k : Literal). holds b k) a l s h))))

subset_all : (p : Literal → Bool) (a b : List Literal) → is_subset a b ≡ true → list_all p b ≡ true → list_all p a ≡ true
subset_all p a b s all = all_from p a (λ l h. all_at p b l all (all_at (λ (k : Literal). holds b k) a l s h))

-- what the resolutions of a chain keep
chain_all : (p : Literal → Bool) (known : List (List Literal)) (a : List Literal) (hs : List Hint) → list_all (λ c. list_all p c) known ≡ true → list_all p a ≡ true → is_chain known a hs ≡ true → list_all p (chain_end known a hs) ≡ true
chain_all p known a [] all pa chain = pa
chain_all p known a (h ∷ hs) all pa chain =
    let b = clause_at known h.clause in
    let parts = and_parts (fits known a h) (is_chain known (resolvent_by known a h) hs) chain in
    let fit = and_parts (is_number known h.clause) (is_clash h.pivot a b) parts.0 in
    let pb = number_all (λ (c : List Literal). list_all p c) known h.clause all fit.0 in
    chain_all p known (resolvent_by known a h) hs all
    (all_from p (resolvent h.pivot a b) (λ l e.
    let q = and_parts (not (is_on h.pivot l)) (holds a l || holds b l) (sym (holds-resolvent h.pivot a b l) ∙ e) in
    elim (or_cases (holds a l) (holds b l) q.1) as (λ _. p l ≡ true) [ inl x ↦ all_at p a l pa x | inr y ↦ all_at p b l pb y ]))
    parts.1

free_part : (a b : List Literal) (hs : List Hint) → ((v : ℕ) → mentions b v ≡ false → mentions a v ≡ false) → is_free_of b hs ≡ true → is_free_of a hs ≡ true
free_part a b [] f h = refl
free_part a b (g ∷ gs) f h =
    let parts = and_parts (not (mentions b g.pivot)) (is_free_of b gs) h in
    and_from (not (mentions a g.pivot)) (is_free_of a gs) (not_from_false (mentions a g.pivot) (f g.pivot (not-true (mentions b g.pivot) parts.0))) (free_part a b gs f parts.1)

-- a clause that is derived is over the variables of those that are known
derived_within : (variables : ℕ) (known : List (List Literal)) (hints : List Hint) (c : List Literal) → list_all (is_within variables) known ≡ true → derives known hints c ≡ true → is_within variables c ≡ true
derived_within variables known [] c within d = absurd (false≢true d)
derived_within variables known (h ∷ hs) c within d =
    let a = clause_at known h.clause in
    let parts = and_parts (names_chain known (h ∷ hs)) (is_same_set (chain_end known a hs) c) d in
    let chain = and_parts (is_number known h.clause) (is_chain known a hs) parts.0 in
    let sets = and_parts (is_subset (chain_end known a hs) c) (is_subset c (chain_end known a hs)) parts.1 in
    subset_all (is_among variables) c (chain_end known a hs) sets.1 (chain_all (is_among variables) known a hs within (number_all (is_within variables) known h.clause within chain.0) chain.1)

-- what a step that its hints derive has
pub record IsStep (variables : ℕ) (store : Store) (c : List Literal) (hs : List Literal) : Type 0 where
  pub apart : NoClash c
  pub within : is_within variables c ≡ true
  pub known : are_known store hs ≡ true
  pub goes : hints_fault store (negations [] c) hs ≡ None

module _ (variables : ℕ) (known : List (List Literal)) (store : Store) (has : HasClauses known store) (apart : AreApart known) (within : list_all (is_within variables) known ≡ true) where
  step_derived : (hints : List Hint) (c : List Literal) → derives known hints c ≡ true → is_regular known hints ≡ true → IsStep variables store c (hint_list hints)
  step_derived [] c d regular = absurd (false≢true d)
  step_derived (h ∷ hs) c d regular =
      let a = clause_at known h.clause in
      let end = chain_end known a hs in
      let parts = and_parts (names_chain known (h ∷ hs)) (is_same_set end c) d in
      let chain = and_parts (is_number known h.clause) (is_chain known a hs) parts.0 in
      let sets = and_parts (is_subset end c) (is_subset c end) parts.1 in
      let na = apart h.clause chain.0 in
      let set = negations [] c in
      let false_end = λ (l : Literal) (e : holds end l ≡ true). negations_have [] c l (all_at (λ (k : Literal). holds c k) end l sets.0 e) in
      let free = free_part set end hs (λ v n. negations_mention [] c v refl (subset_mentions c end v sets.1 n)) (end_free known [] a hs regular) in
      let r = reached known store has apart [] set a hs na chain.1 regular false_end free in
      record {
        apart = subset_apart c end sets.1 (chain_apart known store has apart a hs na chain.1);
        within = derived_within variables known (h ∷ hs) c within d;
        known = derived_hints (is_known store) known (h ∷ hs) c (λ g n. ap (λ (o : Option (List Literal)). is_some o) (has g.clause n)) d;
        goes = r.walk (hint_of h ∷ []) ∙ last_conflict r.after h chain.0 r.falsifies;
      }
    where
      last_conflict : (after : List Literal) (g : Hint) → is_number known g.clause ≡ true → ((l : Literal) → holds (clause_at known g.clause) l ≡ true → holds after (negation l) ≡ true) → hints_fault store after (hint_of g ∷ []) ≡ None
      last_conflict after g n f =
          ap (λ (b : List Literal). after_judged (judged after b) (λ l. hints_fault store (l ∷ after) []) []) (stored known store has apart g.clause n)
          ∙ ap (λ (j : Judged). after_judged j (λ l. hints_fault store (l ∷ after) []) []) (all_false_conflict after (clause_at known g.clause) f)

-- a step of a greater number that has all this goes through
step_goes : (variables : ℕ) (s : State) (id : ℕ) (c hs : List Literal) → s.last < id → IsStep variables s.store c hs → step_fault variables s id c hs ≡ None
step_goes variables s id c hs above step =
    chosen (leb id s.last) (is_within variables c) (clashes c) (are_known s.store hs) (hints_fault s.store (negations [] c) hs)
    (leb-above id s.last above) step.within (no_clash c step.apart) step.known step.goes
  where
    leb-above : (m n : ℕ) → n < m → leb m n ≡ false
    leb-above m n h = false_from_ne_true (leb m n) (λ e. let w : m ≤ n = leb-true m n e in omega (arith, w, h))

    chosen : (low within clash known : Bool) (fault : Option Cause) → low ≡ false → within ≡ true → clash ≡ false → known ≡ true → fault ≡ None
        → cond (low || (not within || clash)) (Some BadProofLine) (cond known fault (Some UnknownClause)) ≡ None
    chosen true within clash known fault a b c d e = absurd (false≢true (sym a))
    chosen false false clash known fault a b c d e = absurd (false≢true b)
    chosen false true true known fault a b c d e = absurd (false≢true (sym c))
    chosen false true false false fault a b c d e = absurd (false≢true d)
    chosen false true false true fault a b c d e = e

-- numbers of the clauses with one more
number_more : (known : List (List Literal)) (c : List Literal) (n : ℕ) → is_number (known ++ c ∷ []) n ≡ true → (n ≡ length known + 1) ⊎ (is_number known n ≡ true)
number_more known c n h =
    let parts = and_parts (leb 1 n) (leb n (length (known ++ c ∷ []))) h in
    let low = leb-true 1 n parts.0 in
    let high : n ≤ length known + 1 = omega (arith, leb-true n (length (known ++ c ∷ [])) parts.1, length-append known (c ∷ [])) in
    by_size (eqb n (length known + 1)) refl low high
  where
    by_size : (b : Bool) → eqb n (length known + 1) ≡ b → 1 ≤ n → n ≤ length known + 1 → (n ≡ length known + 1) ⊎ (is_number known n ≡ true)
    by_size true e low high = inl (eqb-true n (length known + 1) e)
    by_size false e low high =
        let other = eqb-false n (length known + 1) e in
        inr (and_from (leb 1 n) (leb n (length known)) (le-leb 1 n low) (le-leb n (length known) (omega (arith, high, other))))

clause_still : (known : List (List Literal)) (c : List Literal) (n : ℕ) → is_number known n ≡ true → clause_at (known ++ c ∷ []) n ≡ clause_at known n
clause_still known c n h =
    let parts = and_parts (leb 1 n) (leb n (length known)) h in
    let low = leb-true 1 n parts.0 in
    let high = leb-true n (length known) parts.1 in
    get_or-append known (c ∷ []) [] (n - 1) (omega (arith, low, high))

clause_new : (known : List (List Literal)) (c : List Literal) → clause_at (known ++ c ∷ []) (length known + 1) ≡ c
clause_new known c = ap (λ (i : ℕ). get_or (known ++ c ∷ []) i []) (let w : length known + 1 - 1 ≡ length known = omega arith in w) ∙ last known
  where
    last : (ks : List (List Literal)) → get_or (ks ++ c ∷ []) (length ks) [] ≡ c
    last [] = refl
    last (k ∷ ks) = last ks

has_more : (known : List (List Literal)) (store : Store) (c : List Literal) → HasClauses known store → HasClauses (known ++ c ∷ []) (update nat_eq store (length known + 1) (Some c))
has_more known store c has n h = elim (number_more known c n h) as (λ _. cond (eqb (length known + 1) n) (Some c) (store n) ≡ Some (clause_at (known ++ c ∷ []) n)) [
  | inl here ↦
      subst (λ (k : ℕ). cond (eqb (length known + 1) k) (Some c) (store k) ≡ Some (clause_at (known ++ c ∷ []) k)) (sym here)
      (ap (λ (b : Bool). cond b (Some c) (store (length known + 1))) (eq-eqb (length known + 1) (length known + 1) refl) ∙ ap (λ (d : List Literal). Some d) (sym (clause_new known c)))
  | inr there ↦
      let parts = and_parts (leb 1 n) (leb n (length known)) there in
      let high = leb-true n (length known) parts.1 in
      let other : eqb (length known + 1) n ≡ false = false_from_ne_true (eqb (length known + 1) n) (λ e. let w : length known + 1 ≡ n = eqb-true (length known + 1) n e in omega (arith, w, high)) in
      ap (λ (b : Bool). cond b (Some c) (store n)) other ∙ has n there ∙ ap (λ (d : List Literal). Some d) (sym (clause_still known c n there))
]

apart_more : (known : List (List Literal)) (c : List Literal) → AreApart known → NoClash c → AreApart (known ++ c ∷ [])
apart_more known c all nc n h = elim (number_more known c n h) as (λ _. NoClash (clause_at (known ++ c ∷ []) n)) [
  | inl here ↦ subst (λ (d : List Literal). NoClash d) (sym (ap (clause_at (known ++ c ∷ [])) here ∙ clause_new known c)) nc
  | inr there ↦ subst (λ (d : List Literal). NoClash d) (sym (clause_still known c n there)) (all n there)
]

all_more : (p : List Literal → Bool) (known : List (List Literal)) (c : List Literal) → list_all p known ≡ true → p c ≡ true → list_all p (known ++ c ∷ []) ≡ true
all_more p [] c all h = and_from (p c) true h refl
all_more p (k ∷ ks) c all h = let parts = and_parts (p k) (list_all p ks) all in and_from (p k) (list_all p (ks ++ c ∷ [])) parts.0 (all_more p ks c parts.1 h)

length_more : (known : List (List Literal)) (c : List Literal) → length (known ++ c ∷ []) ≡ length known + 1
length_more known c = let w : length (known ++ c ∷ []) ≡ length known + 1 = omega (arith, length-append known (c ∷ [])) in w

-- the lines of a log go through, from the clauses that are known
log_goes : (variables : ℕ) (known : List (List Literal)) (store : Store) (done : Bool) (log : List Step) → HasClauses known store → AreApart known → list_all (is_within variables) known ≡ true
    → replays_from known log ≡ true → is_regular_from known log ≡ true → goes variables (record { store = store; last = length known; done = done }) (lines_of (length known + 1) log) ≡ true
log_goes variables known store done [] has apart within r regular = refl
log_goes variables known store done (s ∷ ss) has apart within r regular =
    let rs = and_parts (derives known s.hints s.clause) (replays_from (known ++ s.clause ∷ []) ss) r in
    let gs = and_parts (is_regular known s.hints) (is_regular_from (known ++ s.clause ∷ []) ss) regular in
    let step = step_derived variables known store has apart within s.hints s.clause rs.0 gs.0 in
    let here = step_goes variables (record { store = store; last = length known; done = done }) (length known + 1) s.clause (hint_list s.hints) (omega arith) step in
    let more = log_goes variables (known ++ s.clause ∷ []) (update nat_eq store (length known + 1) (Some s.clause)) (done || is_empty s.clause) ss
    (has_more known store s.clause has) (apart_more known s.clause apart step.apart) (all_more (is_within variables) known s.clause within step.within) rs.1 gs.1 in
    and_from (is_none (step_fault variables (record { store = store; last = length known; done = done }) (length known + 1) s.clause (hint_list s.hints)))
    (goes variables (record { store = update nat_eq store (length known + 1) (Some s.clause); last = length known + 1; done = done || is_empty s.clause }) (lines_of (length known + 1 + 1) ss))
    (ap (λ (o : Option Cause). is_none o) here)
    (subst (λ (n : ℕ). goes variables (record { store = update nat_eq store (length known + 1) (Some s.clause); last = n; done = done || is_empty s.clause }) (lines_of (n + 1) ss) ≡ true) (length_more known s.clause) more)

-- the clauses of a formula, put into the store one by one
numbered_has : (known : List (List Literal)) (store : Store) (cs : List (List Literal)) → HasClauses known store → HasClauses (known ++ cs) (numbered (length known + 1) store cs)
numbered_has known store [] has = subst (λ (k : List (List Literal)). HasClauses k store) (sym (append-nil known)) has
numbered_has known store (c ∷ cs) has =
    let more = numbered_has (known ++ c ∷ []) (update nat_eq store (length known + 1) (Some c)) cs (has_more known store c has) in
    subst (λ (k : List (List Literal)). HasClauses k (numbered (length known + 1 + 1) (update nat_eq store (length known + 1) (Some c)) cs)) (append_assoc known (c ∷ []) cs)
    (subst (λ (n : ℕ). HasClauses ((known ++ c ∷ []) ++ cs) (numbered (n + 1) (update nat_eq store (length known + 1) (Some c)) cs)) (length_more known c) more)

none_has : HasClauses [] no_clauses
none_has n h =
    let parts = and_parts (leb 1 n) (leb n 0) h in
    let low = leb-true 1 n parts.0 in
    let high = leb-true n 0 parts.1 in
    absurd (omega (arith, low, high))

pub clauses_within : (variables : ℕ) (cs : List (List Literal)) → are_clauses variables cs ≡ true → list_all (is_within variables) cs ≡ true
clauses_within variables [] h = refl
clauses_within variables (c ∷ cs) h =
    let parts = and_parts (is_clause variables c) (are_clauses variables cs) h in
    and_from (is_within variables c) (list_all (is_within variables) cs) (and_parts (is_once c) (is_within variables c) parts.0).1 (clauses_within variables cs parts.1)

-- the lines of a regular log that replays over the formula go through
pub log_is_proof : (f : Formula) (log : List Step) → are_clauses f.variables f.clauses ≡ true → replay f log ≡ true → is_regular_log f log ≡ true → goes f.variables (start f) (lines_of (length f.clauses + 1) log) ≡ true
log_is_proof f log clauses r regular =
    log_goes f.variables f.clauses (numbered 1 no_clauses f.clauses) false log (numbered_has [] no_clauses f.clauses none_has)
    (λ n h. once_no_clash (clause_at f.clauses n) (number_all is_once f.clauses n (clauses_once f.variables f.clauses clauses) h)) (clauses_within f.variables f.clauses clauses) r regular

-- a log that ends in the empty clause has it as a step
empty_last : (n : ℕ) (log : List Step) (s : Step) → s.clause ≡ [] → have_empty (lines_of n (log ++ s ∷ [])) ≡ true
empty_last n [] s e = or_left (is_empty s.clause) false (ap is_empty e)
empty_last n (t ∷ ts) s e = or_right (is_empty t.clause) (have_empty (lines_of (n + 1) (ts ++ s ∷ []))) (empty_last (n + 1) ts s e)

pub empty_is_step : (n : ℕ) (log : List Step) → EndsEmpty log → have_empty (lines_of n log) ≡ true
empty_is_step n log ends = subst (λ (ss : List Step). have_empty (lines_of n ss) ≡ true) (sym ends.parts) (empty_last n ends.earlier ends.last ends.empty)

-- the literals of a step are over the variables, and its hints are at most that number
abbrev pub is_small : ℕ → ℕ → Step → Bool
is_small variables most s = is_within variables s.clause && list_all (is_among most) (hint_list s.hints)

small_from : (variables most : ℕ) (known : List (List Literal)) (log : List Step) → list_all (is_within variables) known ≡ true → replays_from known log ≡ true → length known + length log ≤ most
    → list_all (is_small variables most) log ≡ true
small_from variables most known [] within r room = refl
small_from variables most known (s ∷ ss) within r room =
    let rs = and_parts (derives known s.hints s.clause) (replays_from (known ++ s.clause ∷ []) ss) r in
    let here = derived_within variables known s.hints s.clause within rs.0 in
    let hints = derived_hints (is_among most) known s.hints s.clause (λ h n. number_small h.clause n) rs.0 in
    and_from (is_small variables most s) (list_all (is_small variables most) ss) (and_from (is_within variables s.clause) (list_all (is_among most) (hint_list s.hints)) here hints)
    (small_from variables most (known ++ s.clause ∷ []) ss (all_more (is_within variables) known s.clause within here) rs.1 (omega (arith, room, length_more known s.clause)))
  where
    number_small : (n : ℕ) → is_number known n ≡ true → (leb 1 n && leb n most) ≡ true
    number_small n h =
        let parts = and_parts (leb 1 n) (leb n (length known)) h in
        let high = leb-true n (length known) parts.1 in
        and_from (leb 1 n) (leb n most) parts.0 (le-leb n most (omega (arith, high, room)))

-- the steps of a log that replays have small numbers
pub log_is_small : (f : Formula) (log : List Step) (most : ℕ) → are_clauses f.variables f.clauses ≡ true → replay f log ≡ true → length f.clauses + length log ≤ most → list_all (is_small f.variables most) log ≡ true
log_is_small f log most clauses r room = small_from f.variables most f.clauses log (clauses_within f.variables f.clauses clauses) r room
