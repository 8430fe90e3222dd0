-- Chains of resolutions, hint by hint.
use Rattle.std.proofs.Common.{◌≡◌, ℕ, ◌+◌, ◌<◌, Bool, true, false, not, ◌&&◌, ◌||◌, cond, List, [], ◌∷◌, ◌++◌, length, get_or, take, drop, refl, sym, ◌∙◌, ap, append_assoc}
use Rattle.std.proofs.lemmas.List.{take_more, drop_more, map_push}
use Rattle.std.proofs.lemmas.List.Folds.{list_all-append}
use Rattle.std.proofs.lemmas.Bool.{and_parts, and_from, false≢true}
use Rattle.resolution_proof.specs.declared.literal.Literal.{Literal}
use Rattle.resolution_proof.specs.declared.log.Hint.{Hint}
use Rattle.resolution_proof.specs.declared.log.Step.{Step}
use Rattle.resolution_proof.specs.Literal.{is_on, holds}
use Rattle.resolution_proof.specs.Clause.{is_subset, without}
use Rattle.resolution_proof.specs.Replay.{learnt_clauses, is_number, clause_at, fits, resolvent_by, is_chain, chain_end, survives, covers, chain_of, names_chain, derives, replays_from}
use Rattle.resolution_proof.proofs.Sets.{holds-resolvent}
use Rattle.std.proofs.Math.Bool.{or-false}

pub and-true : (b : Bool) → (b && true) ≡ b
and-true true = refl
and-true false = refl

pub and-assoc : (x y z : Bool) → ((x && y) && z) ≡ (x && (y && z))
and-assoc true y z = refl
and-assoc false y z = refl

pub chain_end-push : (known : List (List Literal)) (a : List Literal) (hs : List Hint) (h : Hint) → chain_end known a (hs ++ h ∷ []) ≡ resolvent_by known (chain_end known a hs) h
chain_end-push known a [] h = refl
chain_end-push known a (g ∷ gs) h = chain_end-push known (resolvent_by known a g) gs h

pub is_chain-push : (known : List (List Literal)) (a : List Literal) (hs : List Hint) (h : Hint) → is_chain known a (hs ++ h ∷ []) ≡ (is_chain known a hs && fits known (chain_end known a hs) h)
is_chain-push known a [] h = and-true (fits known a h)
is_chain-push known a (g ∷ gs) h =
    ap (λ (b : Bool). fits known a g && b) (is_chain-push known (resolvent_by known a g) gs h)
    ∙ sym (and-assoc (fits known a g) (is_chain known (resolvent_by known a g) gs) (fits known (chain_end known (resolvent_by known a g) gs) h))

-- one hint more at the end of a chain
pub names_chain-push : (known : List (List Literal)) (hs : List Hint) (h : Hint) → names_chain known hs ≡ true → fits known (chain_of known hs) h ≡ true → names_chain known (hs ++ h ∷ []) ≡ true
names_chain-push known [] h c f = absurd (false≢true c)
names_chain-push known (g ∷ gs) h c f =
    let parts = and_parts (is_number known g.clause) (is_chain known (clause_at known g.clause) gs) c in
    and_from (is_number known g.clause) (is_chain known (clause_at known g.clause) (gs ++ h ∷ [])) parts.0
    (is_chain-push known (clause_at known g.clause) gs h ∙ and_from (is_chain known (clause_at known g.clause) gs) (fits known (chain_end known (clause_at known g.clause) gs) h) parts.1 f)

pub chain_of-push : (known : List (List Literal)) (hs : List Hint) (h : Hint) → names_chain known hs ≡ true → chain_of known (hs ++ h ∷ []) ≡ resolvent_by known (chain_of known hs) h
chain_of-push known [] h c = absurd (false≢true c)
chain_of-push known (g ∷ gs) h c = chain_end-push known (clause_at known g.clause) gs h

-- looking for a literal from the last hint on: a resolution on its variable takes it away
pub chain_away : (known : List (List Literal)) (a : List Literal) (hs : List Hint) (h : Hint) (l : Literal) → is_on h.pivot l ≡ true → holds (chain_end known a (hs ++ h ∷ [])) l ≡ false
chain_away known a hs h l on =
    ap (λ (c : List Literal). holds c l) (chain_end-push known a hs h)
    ∙ holds-resolvent h.pivot (chain_end known a hs) (clause_at known h.clause) l
    ∙ (let e : (not (is_on h.pivot l) && (holds (chain_end known a hs) l || holds (clause_at known h.clause) l)) ≡ false = rw on refl in e)

-- otherwise the last clause may have it, or an earlier one
pub chain_step : (known : List (List Literal)) (a : List Literal) (hs : List Hint) (h : Hint) (l : Literal) → is_on h.pivot l ≡ false → holds (chain_end known a (hs ++ h ∷ [])) l ≡ (holds (chain_end known a hs) l || holds (clause_at known h.clause) l)
chain_step known a hs h l off =
    ap (λ (c : List Literal). holds c l) (chain_end-push known a hs h)
    ∙ holds-resolvent h.pivot (chain_end known a hs) (clause_at known h.clause) l
    ∙ (let e : (not (is_on h.pivot l) && (holds (chain_end known a hs) l || holds (clause_at known h.clause) l)) ≡ (holds (chain_end known a hs) l || holds (clause_at known h.clause) l) = rw off refl in e)

or-true : (b : Bool) → (b || true) ≡ true
or-true true = refl
or-true false = refl

pub chain_found : (known : List (List Literal)) (a : List Literal) (hs : List Hint) (h : Hint) (l : Literal) → is_on h.pivot l ≡ false → holds (clause_at known h.clause) l ≡ true → holds (chain_end known a (hs ++ h ∷ [])) l ≡ true
chain_found known a hs h l off found = chain_step known a hs h l off ∙ ap (λ (b : Bool). holds (chain_end known a hs) l || b) found ∙ or-true (holds (chain_end known a hs) l)

pub chain_before : (known : List (List Literal)) (a : List Literal) (hs : List Hint) (h : Hint) (l : Literal) → is_on h.pivot l ≡ false → holds (clause_at known h.clause) l ≡ false → holds (chain_end known a (hs ++ h ∷ [])) l ≡ holds (chain_end known a hs) l
chain_before known a hs h l off none = chain_step known a hs h l off ∙ ap (λ (b : Bool). holds (chain_end known a hs) l || b) none ∙ or-false (holds (chain_end known a hs) l)

-- each literal that the hints leave of their clauses is one of the clause
abbrev pub covers_hints : List (List Literal) → List Literal → List Hint → Bool
covers_hints known c [] = true
covers_hints known c (h ∷ hs) = covers (h ∷ hs) c (clause_at known h.clause) && covers_hints known c hs

covers-without : (hs : List Hint) (h : Hint) (c part : List Literal) → covers hs c (without h.pivot part) ≡ covers (h ∷ hs) c part
covers-without hs h c [] = refl
covers-without hs h c (x ∷ xs) = go (is_on h.pivot x) (covers-without hs h c xs)
  where
    go : (b : Bool) → covers hs c (without h.pivot xs) ≡ covers (h ∷ hs) c xs → covers hs c (cond (not b) (x ∷ without h.pivot xs) (without h.pivot xs)) ≡ ((not (not b && survives hs x) || holds c x) && covers (h ∷ hs) c xs)
    go true ih = ih
    go false ih = ap (λ (t : Bool). (not (survives hs x) || holds c x) && t) ih

pub is_subset-chain_end : (known : List (List Literal)) (a : List Literal) (hs : List Hint) (c : List Literal) → is_subset (chain_end known a hs) c ≡ (covers hs c a && covers_hints known c hs)
is_subset-chain_end known a [] c = sym (and-true (covers [] c a))
is_subset-chain_end known a (h ∷ hs) c =
    is_subset-chain_end known (resolvent_by known a h) hs c
    ∙ ap (λ (t : Bool). t && covers_hints known c hs) split
    ∙ and-assoc (covers (h ∷ hs) c a) (covers (h ∷ hs) c (clause_at known h.clause)) (covers_hints known c hs)
  where
    split : covers hs c (resolvent_by known a h) ≡ (covers (h ∷ hs) c a && covers (h ∷ hs) c (clause_at known h.clause))
    split =
        list_all-append (λ l. not (survives hs l) || holds c l) (without h.pivot a) (without h.pivot (clause_at known h.clause))
        ∙ ap (λ (t : Bool). t && covers hs c (without h.pivot (clause_at known h.clause))) (covers-without hs h c a)
        ∙ ap (λ (t : Bool). covers (h ∷ hs) c a && t) (covers-without hs h c (clause_at known h.clause))

-- a chain read up to a hint
pub chain_at : (known : List (List Literal)) (a : List Literal) (hs : List Hint) (i : ℕ) (d : Hint) → i < length hs → is_chain known (chain_end known a (take i hs)) (drop i hs) ≡ (fits known (chain_end known a (take i hs)) (get_or hs i d) && is_chain known (chain_end known a (take (i + 1) hs)) (drop (i + 1) hs))
chain_at known a hs i d l =
    let more : take (i + 1) hs ≡ take i hs ++ get_or hs i d ∷ [] = take_more hs i d l in
    let next : chain_end known a (take (i + 1) hs) ≡ resolvent_by known (chain_end known a (take i hs)) (get_or hs i d) = ap (chain_end known a) more ∙ chain_end-push known a (take i hs) (get_or hs i d) in
    let rest : drop i hs ≡ get_or hs i d ∷ drop (i + 1) hs = drop_more hs i d l in
    ap (is_chain known (chain_end known a (take i hs))) rest
    ∙ ap (λ (b : List Literal). fits known (chain_end known a (take i hs)) (get_or hs i d) && is_chain known b (drop (i + 1) hs)) (sym next)

-- a log read up to a step
pub replay_at : (given : List (List Literal)) (log : List Step) (i : ℕ) (d : Step) → i < length log → replays_from (given ++ learnt_clauses (take i log)) (drop i log) ≡ (derives (given ++ learnt_clauses (take i log)) (get_or log i d).hints (get_or log i d).clause && replays_from (given ++ learnt_clauses (take (i + 1) log)) (drop (i + 1) log))
replay_at given log i d l =
    let s = get_or log i d in
    let more : take (i + 1) log ≡ take i log ++ s ∷ [] = take_more log i d l in
    let next : given ++ learnt_clauses (take (i + 1) log) ≡ (given ++ learnt_clauses (take i log)) ++ s.clause ∷ [] =
    ap (λ (ss : List Step). given ++ learnt_clauses ss) more ∙ ap (λ (cs : List (List Literal)). given ++ cs) (map_push (λ (t : Step). t.clause) (take i log) s) ∙ sym (append_assoc given (learnt_clauses (take i log)) (s.clause ∷ [])) in
    let rest : drop i log ≡ s ∷ drop (i + 1) log = drop_more log i d l in
    ap (replays_from (given ++ learnt_clauses (take i log))) rest
    ∙ ap (λ (k : List (List Literal)). derives (given ++ learnt_clauses (take i log)) s.hints s.clause && replays_from k (drop (i + 1) log)) (sym next)
