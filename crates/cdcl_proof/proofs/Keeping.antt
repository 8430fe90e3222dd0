-- What the store keeps, and what its log proves.
use Rattle.std.proofs.Common.{◌≡◌, ℕ, true, false, not, ◌&&◌, List, [], ◌∷◌, ◌++◌, ◌≤◌, length, take, drop, reverse, refl, subst, sym, ◌∙◌, ap, arith, append_assoc}
use Rattle.std.specs.List.{list_all}
use Rattle.std.proofs.lemmas.List.{take-append-drop, take-append-le, drop-append-le, length-drop, length_push, reverse-append}
use Rattle.std.proofs.lemmas.List.Folds.{list_all-append}
use Rattle.std.proofs.lemmas.Bool.{and_parts, and_from, not_from_false, false≢true}
use Rattle.resolution_proof.specs.declared.literal.Literal.{Literal}
use Rattle.resolution_proof.specs.declared.log.Hint.{Hint}
use Rattle.resolution_proof.specs.declared.log.Step.{Step}
use Rattle.resolution_proof.specs.Literal.{is_once}
use Rattle.resolution_proof.specs.Clause.{is_clause}
use Rattle.resolution_proof.specs.Formula.{Formula, are_clauses, makes_true}
use Rattle.resolution_proof.specs.Replay.{learnt_clauses, derives, replay}
use Rattle.resolution_proof.specs.Regular.{is_regular, is_regular_log}
use Rattle.resolution_proof.specs.Fresh.{IsFresh, is_empty, has_no_empty}
use Rattle.cdcl_proof.specs.Store.{IsKept, IsLogged, steps_of}
use Rattle.resolution_proof.specs.Proof.{IsProof, Refutes, Exhausts}
use Rattle.resolution_proof.proofs.Laws.{clauses_once, follows, fresh_new_from, replays_from-push, fresh_push, learnt_clauses-push}
use Rattle.clause_learning.proofs.Regularity.{regular_from-push}
use Rattle.resolution_proof.proofs.Counting.{fewer_than}

given_clauses : (f : Formula) (steps : List Step) → IsKept f steps → (are_clauses f.variables f.clauses ≡ true) × (are_clauses f.variables (learnt_clauses steps) ≡ true)
given_clauses f steps k = and_parts (are_clauses f.variables f.clauses) (are_clauses f.variables (learnt_clauses steps)) (sym (list_all-append (is_clause f.variables) f.clauses (learnt_clauses steps)) ∙ k.clauses)

-- one more learnt clause
pub kept_push : (f : Formula) (steps : List Step) (s : Step) → IsKept f steps → is_clause f.variables s.clause ≡ true → derives (f.clauses ++ learnt_clauses steps) s.hints s.clause ≡ true
    → is_regular (f.clauses ++ learnt_clauses steps) s.hints ≡ true → IsFresh (f.clauses ++ learnt_clauses steps) s.clause → is_empty s.clause ≡ false → IsKept f (steps ++ s ∷ [])
kept_push f steps s k clause derived regular fresh full = record {
  clauses =
      let parts : f.clauses ++ learnt_clauses (steps ++ s ∷ []) ≡ (f.clauses ++ learnt_clauses steps) ++ s.clause
      ∷ [] = ap (λ (cs : List (List Literal)). f.clauses ++ cs) (learnt_clauses-push steps s) ∙ sym (append_assoc f.clauses (learnt_clauses steps) (s.clause ∷ [])) in
      ap (are_clauses f.variables) parts ∙ list_all-append (is_clause f.variables) (f.clauses ++ learnt_clauses steps) (s.clause ∷ [])
      ∙ and_from (are_clauses f.variables (f.clauses ++ learnt_clauses steps)) (is_clause f.variables s.clause && true) k.clauses (and_from (is_clause f.variables s.clause) true clause refl);
  replays = replays_from-push f.clauses steps s ∙ and_from (replay f steps) (derives (f.clauses ++ learnt_clauses steps) s.hints s.clause) k.replays derived;
  fresh = fresh_push f.clauses steps s k.fresh (λ e. fresh);
  regular = regular_from-push f.clauses steps s ∙ and_from (is_regular_log f steps) (is_regular (f.clauses ++ learnt_clauses steps) s.hints) k.regular regular;
  none_empty = list_all-append (λ (t : Step). not (is_empty t.clause)) steps (s ∷ []) ∙ and_from (has_no_empty steps) (not (is_empty s.clause) && true) k.none_empty
      (and_from (not (is_empty s.clause)) true (not_from_false (is_empty s.clause) full) refl);
}

-- a kept log is a proof
pub kept_proof : (f : Formula) (steps : List Step) → IsKept f steps → IsProof f steps
kept_proof f steps k =
    let given = given_clauses f steps k in
    let once = clauses_once f.variables f.clauses given.0 in
    let more = clauses_once f.variables (learnt_clauses steps) given.1 in
    record {
      replays = k.replays;
      fresh = k.fresh;
      regular = k.regular;
      follows = follows f steps once more k.replays;
      new = fresh_new_from f.clauses steps once more k.fresh;
    }

-- and with the empty clause a refutation
pub kept_refutes : (f : Formula) (steps : List Step) (s : Step) → IsKept f steps → derives (f.clauses ++ learnt_clauses steps) s.hints s.clause ≡ true
    → is_regular (f.clauses ++ learnt_clauses steps) s.hints ≡ true → s.clause ≡ [] → Refutes f (steps ++ s ∷ [])
kept_refutes f steps s k derived regular empty =
    let given = given_clauses f steps k in
    let once = clauses_once f.variables f.clauses given.0 in
    let more : list_all is_once (learnt_clauses (steps ++ s ∷ [])) ≡ true =
    ap (list_all is_once) (learnt_clauses-push steps s) ∙ list_all-append is_once (learnt_clauses steps) (s.clause ∷ [])
    ∙ and_from (list_all is_once (learnt_clauses steps)) (is_once s.clause && true) (clauses_once f.variables (learnt_clauses steps) given.1) (and_from (is_once s.clause) true (ap is_once empty) refl) in
    let replays : replay f (steps ++ s ∷ []) ≡ true = replays_from-push f.clauses steps s ∙ and_from (replay f steps) (derives (f.clauses ++ learnt_clauses steps) s.hints s.clause) k.replays derived in
    let fresh = fresh_push f.clauses steps s k.fresh (λ e. absurd (false≢true (sym e ∙ ap is_empty empty))) in
    let true_all = follows f (steps ++ s ∷ []) once more replays in
    record {
      proof = record {
        replays = replays;
        fresh = fresh;
        regular = regular_from-push f.clauses steps s
            ∙ and_from (is_regular_log f steps) (is_regular (f.clauses ++ learnt_clauses steps) s.hints) k.regular regular;
        follows = true_all;
        new = fresh_new_from f.clauses
            (steps ++ s ∷ []) once more fresh;
      };
      ends = record { earlier = steps; last = s; parts = refl; empty = empty };
      unsatisfiable = λ bits h.
          let all = true_all bits h in
          let last = (and_parts (list_all (makes_true bits) (learnt_clauses steps)) (makes_true bits s.clause && true)
          (sym (list_all-append (makes_true bits) (learnt_clauses steps) (s.clause ∷ [])) ∙ sym (ap (list_all (makes_true bits)) (learnt_clauses-push steps s)) ∙ all)).1 in
          let this = (and_parts (makes_true bits s.clause) true last).0 in
          false≢true (sym (ap (makes_true bits) empty) ∙ this);
    }

-- as many steps as the budget
pub kept_exhausts : (f : Formula) (steps : List Step) (budget : ℕ) → IsKept f steps → length steps ≡ budget → Exhausts f budget steps
kept_exhausts f steps budget k len =
    let p = kept_proof f steps k in
    let few = fewer_than f.variables f.clauses steps (given_clauses f steps k).1 k.none_empty p.new in
    record { proof = p; steps = len; none_empty = k.none_empty; below = omega (arith, few, len) }

-- as many clauses as chains
learnt_clauses-steps_of : (hs : List (List Hint)) (cs : List (List Literal)) → length hs ≡ length cs → learnt_clauses (steps_of hs cs) ≡ cs
learnt_clauses-steps_of [] [] e = refl
learnt_clauses-steps_of [] (c ∷ cs) e = absurd (omega (arith, e))
learnt_clauses-steps_of (h ∷ hs) [] e = absurd (omega (arith, e))
learnt_clauses-steps_of (h ∷ hs) (c ∷ cs) e = ap (λ (xs : List (List Literal)). c ∷ xs) (learnt_clauses-steps_of hs cs (omega (arith, e)))

length-steps_of : (hs : List (List Hint)) (cs : List (List Literal)) → length hs ≡ length cs → length (steps_of hs cs) ≡ length hs
length-steps_of [] cs e = refl
length-steps_of (h ∷ hs) [] e = absurd (omega (arith, e))
length-steps_of (h ∷ hs) (c ∷ cs) e = let ih = length-steps_of hs cs (omega (arith, e)) in omega (arith, ih)

steps_of-push : (hs : List (List Hint)) (cs : List (List Literal)) (h : List Hint) (c : List Literal) → length hs ≡ length cs → steps_of (hs ++ h ∷ []) (cs ++ c ∷ []) ≡ steps_of hs cs ++ record { clause = c; hints = h } ∷ []
steps_of-push [] [] h c e = refl
steps_of-push [] (x ∷ xs) h c e = absurd (omega (arith, e))
steps_of-push (g ∷ gs) [] h c e = absurd (omega (arith, e))
steps_of-push (g ∷ gs) (x ∷ xs) h c e = ap (λ (ss : List Step). record { clause = x; hints = g } ∷ ss) (steps_of-push gs xs h c (omega (arith, e)))

-- the last chain and the last clause make the last step
pub steps_moved : (hs : List (List Hint)) (cs : List (List Literal)) (h : List Hint) (c : List Literal) (steps : List Step) → length (hs ++ h ∷ []) ≡ length (cs ++ c ∷ [])
    → (length hs ≡ length cs) × (steps_of (hs ++ h ∷ []) (cs ++ c ∷ []) ++ reverse steps ≡ steps_of hs cs ++ reverse (steps ++ record { clause = c; hints = h } ∷ []))
steps_moved hs cs h c steps e =
    let n = length_push hs h in
    let m = length_push cs c in
    let s : Step = record { clause = c; hints = h } in
    let len : length hs ≡ length cs = omega (arith, n, m, e) in
    (len, ap (λ (xs : List Step). xs ++ reverse steps) (steps_of-push hs cs h c len) ∙ append_assoc (steps_of hs cs) (s ∷ []) (reverse steps) ∙ ap (λ (xs : List Step). steps_of hs cs ++ xs) (sym (reverse-append steps (s ∷ []))))

module _ (f : Formula) (clauses : List (List Literal)) (chains : List (List Hint)) (logged : IsLogged f clauses chains) where
  pub as_many : length chains ≡ length (drop (length f.clauses) clauses)
  as_many = let n = length-drop (length f.clauses) clauses in let c = logged.count in omega (arith, n, c)

  pub logged_clauses : clauses ≡ f.clauses ++ learnt_clauses (steps_of chains (drop (length f.clauses) clauses))
  logged_clauses =
      sym (take-append-drop (length f.clauses) clauses)
      ∙ ap (λ (xs : List (List Literal)). xs ++ drop (length f.clauses) clauses) logged.given
      ∙ ap (λ (xs : List (List Literal)). f.clauses ++ xs) (sym (learnt_clauses-steps_of chains (drop (length f.clauses) clauses) as_many))

  -- the steps that are made of the clauses from a position on
  pub logged_steps : (n : ℕ) (rest : List (List Literal)) (steps : List Step) → n ≡ length f.clauses → rest ≡ drop n clauses → steps ≡ steps_of chains rest → steps ≡ steps_of chains (drop (length f.clauses) clauses)
  logged_steps n rest steps count tail are = are ∙ ap (steps_of chains) (tail ∙ ap (λ (m : ℕ). drop m clauses) count)

  pub logged_length : length (steps_of chains (drop (length f.clauses) clauses)) ≡ length chains
  logged_length = length-steps_of chains (drop (length f.clauses) clauses) as_many

  -- one more learnt clause
  pub logged_push : (h : List Hint) (c : List Literal) → is_clause f.variables c ≡ true → derives clauses h c ≡ true → is_regular clauses h ≡ true → IsFresh clauses c → is_empty c ≡ false → IsLogged f (clauses ++ c ∷ []) (chains ++ h ∷ [])
  logged_push h c clause derived regular fresh full = record {
    given = take-append-le (length f.clauses) clauses (c ∷ []) low ∙ logged.given;
    count = let n = length_push clauses c in let m = length_push chains h in let k = logged.count in omega (arith, n, m, k);
    kept = rw (drop-append-le (length f.clauses) clauses (c ∷ []) low, steps_of-push chains (drop (length f.clauses) clauses) h c as_many)
        (kept_push f (steps_of chains (drop (length f.clauses) clauses)) (record { clause = c; hints = h }) logged.kept clause
        (subst (λ (k : List (List Literal)). derives k h c ≡ true) logged_clauses derived)
        (subst (λ (k : List (List Literal)). is_regular k h ≡ true) logged_clauses regular)
        (subst (λ (k : List (List Literal)). IsFresh k c) logged_clauses fresh) full);
  }
    where
      low : length f.clauses ≤ length clauses
      low = let k = logged.count in omega (arith, k)

-- nothing learnt yet
pub logged_none : (f : Formula) → are_clauses f.variables f.clauses ≡ true → IsLogged f f.clauses []
logged_none f within = record {
  given = take_whole f.clauses;
  count = omega arith;
  kept = record { clauses = ap (are_clauses f.variables) (append_none f.clauses) ∙ within; replays = refl; fresh = tt; regular = refl; none_empty = refl };
}
  where
    append_none : (xs : List (List Literal)) → xs ++ [] ≡ xs
    append_none [] = refl
    append_none (x ∷ xs) = ap (λ (ys : List (List Literal)). x ∷ ys) (append_none xs)

    take_whole : (xs : List (List Literal)) → take (length xs) xs ≡ xs
    take_whole [] = refl
    take_whole (x ∷ xs) = ap (λ (ys : List (List Literal)). x ∷ ys) (take_whole xs)
