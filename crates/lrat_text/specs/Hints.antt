-- Steps by reverse unit propagation along their hints.
use Rattle.std.specs.Prelude.{ℕ, Bool, not, cond, ◌&&◌, ◌||◌, List, [], ◌∷◌, filter, Option, Some, None, is_some, unwrap_or}
use Rattle.std.specs.List.{list_all, list_any}
use Rattle.resolution_proof.specs.declared.literal.Literal.{Literal}
use Rattle.resolution_proof.specs.Literal.{negation, same, holds}
use Rattle.diag.specs.declared.cause.Cause.{Cause}
use Rattle.diag.specs.declared.cause.Cause.TheVariants.{StepDoesNotFollow, HintOutsideProfile}
use Rattle.lrat_text.specs.declared.judged.Judged.{Judged}
use Rattle.lrat_text.specs.declared.judged.Judged.TheVariants.{Conflict, Forces, Neither}

-- clauses by their numbers
abbrev pub Store : Type 0
Store = ℕ → Option (List Literal)

-- the clause of that number, empty where there is none
abbrev pub clause_in : Store → ℕ → List Literal
clause_in store n = unwrap_or (store n) []

-- the literals of the clause that are not false where those of the set are true
abbrev pub open_of : List Literal → List Literal → List Literal
open_of set c = filter (λ l. not (holds set (negation l))) c

-- what is left of a clause: nothing, one literal that is not true, or more
abbrev pub judged_left : List Literal → List Literal → Judged
judged_left set [] = Conflict
judged_left set (l ∷ ls) = cond (not (holds set l) && list_all (same l) ls) (Forces l) Neither

-- a clause where the literals of the set are true: false, a unit, or neither
abbrev pub judged : List Literal → List Literal → Judged
judged set c = judged_left set (open_of set c)

-- one of the numbers has a minus sign
abbrev pub has_negative : List Literal → Bool
has_negative hs = list_any (λ h. not h.positive) hs

-- the fault that is left after a hint's clause: none after a conflict, that of the further hints after a unit
abbrev pub after_judged : Judged → (Literal → Option Cause) → List Literal → Option Cause
after_judged Conflict more rest = cond (has_negative rest) (Some HintOutsideProfile) None
after_judged (Forces l) more rest = more l
after_judged Neither more rest = Some StepDoesNotFollow

-- the fault of a step whose negated literals are the set: each hint is a unit up to the first that is false
abbrev pub hints_fault : Store → List Literal → List Literal → Option Cause
hints_fault store set [] = Some StepDoesNotFollow
hints_fault store set (h ∷ hs) =
    cond h.positive (after_judged (judged set (clause_in store h.variable)) (λ l. hints_fault store (l ∷ set) hs) hs) (Some HintOutsideProfile)

-- the hint names a clause of the store, or has a minus sign
abbrev pub is_known : Store → Literal → Bool
is_known store h = not h.positive || is_some (store h.variable)

-- each of them does
abbrev pub are_known : Store → List Literal → Bool
are_known store hs = list_all (is_known store) hs
