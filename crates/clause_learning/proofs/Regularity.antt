-- Why a conflict's resolutions are regular: each pivot stands after all variables of the reasons that come later.
use Rattle.std.proofs.Common.{◌≡◌, ℕ, ◌+◌, ◌<◌, ◌≤◌, Bool, true, not, ◌&&◌, List, [], ◌∷◌, ◌++◌, length, refl, sym, ◌∙◌, ap, arith, append_assoc}
use Rattle.std.proofs.lemmas.Bool.{and_from, ne_eqb, not_from_false}
use Rattle.resolution_proof.specs.declared.literal.Literal.{Literal}
use Rattle.resolution_proof.specs.declared.log.Hint.{Hint}
use Rattle.resolution_proof.specs.declared.log.Step.{Step}
use Rattle.clause_learning.specs.declared.trail.Entry.{Entry}
use Rattle.resolution_proof.specs.Literal.{is_on}
use Rattle.resolution_proof.specs.Replay.{clause_at, learnt_clauses, survives}
use Rattle.resolution_proof.specs.Regular.{avoids, is_regular_after, is_regular, is_regular_from}
use Rattle.clause_learning.specs.Resolving.{ArePivotsFrom, HasPivotsFrom}
use Rattle.clause_learning.specs.Trail.{entry_at, AreApart}
use Rattle.resolution_proof.proofs.Chains.{and-true, and-assoc}

pub regular_after-push : (known : List (List Literal)) (e gs : List Hint) (h : Hint) → is_regular_after known e (gs ++ h ∷ []) ≡ (is_regular_after known e gs && avoids (e ++ gs) (clause_at known h.clause))
regular_after-push known e [] h = and-true (avoids e (clause_at known h.clause)) ∙ ap (λ (x : List Hint). avoids x (clause_at known h.clause)) (sym (append_none e))
  where
    append_none : (xs : List Hint) → xs ++ [] ≡ xs
    append_none [] = refl
    append_none (x ∷ xs) = ap (λ (ys : List Hint). x ∷ ys) (append_none xs)
regular_after-push known e (g ∷ gs) h =
    ap (λ (b : Bool). avoids e (clause_at known g.clause) && b) (regular_after-push known (e ++ g ∷ []) gs h
    ∙ ap (λ (x : List Hint). is_regular_after known (e ++ g ∷ []) gs && avoids x (clause_at known h.clause)) (append_assoc e (g ∷ []) gs))
    ∙ sym (and-assoc (avoids e (clause_at known g.clause)) (is_regular_after known (e ++ g ∷ []) gs) (avoids (e ++ (g ∷ gs)) (clause_at known h.clause)))

-- one step more
pub regular_from-push : (known : List (List Literal)) (log : List Step) (s : Step) → is_regular_from known (log ++ s ∷ []) ≡ (is_regular_from known log && is_regular (known ++ learnt_clauses log) s.hints)
regular_from-push known [] s = and-true (is_regular known s.hints) ∙ ap (λ (k : List (List Literal)). is_regular k s.hints) (sym (append_none known))
  where
    append_none : (xs : List (List Literal)) → xs ++ [] ≡ xs
    append_none [] = refl
    append_none (x ∷ xs) = ap (λ (ys : List (List Literal)). x ∷ ys) (append_none xs)
regular_from-push known (t ∷ ts) s =
    ap (λ (b : Bool). is_regular known t.hints && b) (regular_from-push (known ++ t.clause ∷ []) ts s
    ∙ ap (λ (k : List (List Literal)). is_regular_from (known ++ t.clause ∷ []) ts && is_regular k s.hints) (append_assoc known (t.clause ∷ []) (learnt_clauses ts)))
    ∙ sym (and-assoc (is_regular known t.hints) (is_regular_from (known ++ t.clause ∷ []) ts) (is_regular (known ++ (t.clause ∷ learnt_clauses ts)) s.hints))

pub pivots_down : (es : List Entry) (position : ℕ) (hs : List Hint) → ArePivotsFrom es (position + 1) hs → ArePivotsFrom es position hs
pivots_down es position [] p = tt
pivots_down es position (h ∷ hs) p = ((p.0.0, omega (arith, p.0.1), p.0.2, p.0.3), pivots_down es position hs p.1)

pivots_push : (es : List Entry) (position : ℕ) (hs : List Hint) (h : Hint) → ArePivotsFrom es position hs → position < length es → (entry_at es position).literal.variable ≡ h.pivot → ArePivotsFrom es position (hs ++ h ∷ [])
pivots_push es position [] h p l e = ((position, omega arith, l, e), tt)
pivots_push es position (g ∷ gs) h p l e = (p.0, pivots_push es position gs h p.1 l e)

-- a variable of an entry up to the position is none of the pivots
pub survives_from : (variables : ℕ) (es : List Entry) (position : ℕ) (hs : List Hint) (l : Literal) (m : ℕ) → AreApart variables es → ArePivotsFrom es (position + 1) hs → m ≤ position → m < length es
    → (entry_at es m).literal.variable ≡ l.variable → survives hs l ≡ true
survives_from variables es position [] l m apart p low inside e = refl
survives_from variables es position (h ∷ hs) l m apart p low inside e =
    and_from (not (is_on h.pivot l)) (survives hs l)
    (not_from_false (is_on h.pivot l) (ne_eqb l.variable h.pivot (λ q. (let one : m ≡ p.0.0 = apart.apart m p.0.0 inside p.0.2 (e ∙ q ∙ sym p.0.3) in let up = p.0.1 in let bad : ⊥ = omega (arith, one, up, low) in bad))))
    (survives_from variables es position hs l m apart p.1 low inside e)

pub pivots_later : (es : List Entry) (position : ℕ) (hs : List Hint) → HasPivotsFrom es (position + 1) hs → HasPivotsFrom es position hs
pivots_later es position [] p = tt
pivots_later es position (h ∷ hs) p = pivots_down es position hs p

pub pivots_more : (es : List Entry) (position : ℕ) (hs : List Hint) (h : Hint) → HasPivotsFrom es (position + 1) hs → position < length es → (entry_at es position).literal.variable ≡ h.pivot → HasPivotsFrom es position (hs ++ h ∷ [])
pivots_more es position [] h p l e = tt
pivots_more es position (g ∷ gs) h p l e = pivots_push es position gs h (pivots_down es position gs p) l e

pub pivots_above : (es : List Entry) (low high : ℕ) (hs : List Hint) → low ≤ high → HasPivotsFrom es high hs → HasPivotsFrom es low hs
pivots_above es low high [] l p = tt
pivots_above es low high (h ∷ hs) l p = go hs p
  where
    go : (gs : List Hint) → ArePivotsFrom es high gs → ArePivotsFrom es low gs
    go [] p = tt
    go (g ∷ gs) p = ((p.0.0, omega (arith, l, p.0.1), p.0.2, p.0.3), go gs p.1)

-- the reason of an entry at the position is regular after the hints so far
pub regular_more : (known : List (List Literal)) (es : List Entry) (position : ℕ) (hs : List Hint) (h : Hint) → is_regular known hs ≡ true → HasPivotsFrom es (position + 1) hs
    → ((gs : List Hint) → ArePivotsFrom es (position + 1) gs → avoids gs (clause_at known h.clause) ≡ true) → is_regular known (hs ++ h ∷ []) ≡ true
regular_more known es position [] h r p a = refl
regular_more known es position (g ∷ gs) h r p a = regular_after-push known [] gs h ∙ and_from (is_regular_after known [] gs) (avoids gs (clause_at known h.clause)) r (a gs p)
