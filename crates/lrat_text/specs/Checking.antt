-- Proofs line by line.
use Rattle.std.specs.Prelude.{◌≡◌, ℕ, Bool, true, false, not, cond, ◌||◌, ◌&&◌, ◌+◌, ◌^◌, nat_le, nat_lt, nat_eq, List, [], ◌∷◌, length, Option, Some, None, is_some}
use Rattle.std.specs.Map.{update}
use Rattle.resolution_proof.specs.declared.literal.Literal.{Literal}
use Rattle.resolution_proof.specs.Literal.{negation, holds}
use Rattle.resolution_proof.specs.Clause.{is_within}
use Rattle.resolution_proof.specs.Formula.{Formula}
use Rattle.resolution_proof.specs.Fresh.{is_empty}
use Rattle.diag.specs.declared.cause.Cause.{Cause}
use Rattle.diag.specs.declared.cause.Cause.TheVariants.{TooLong, BadProofLine, UnknownClause, NoEmptyClause}
use Rattle.lrat_text.specs.declared.fail.CheckFail.{CheckFail}
use Rattle.lrat_text.specs.declared.fail.CheckFail.TheVariants.{Refused, NoMemory}
use Rattle.lrat_text.specs.ProofLine.{Line, skips, adds, deletes, bad, proof_lines}
use Rattle.lrat_text.specs.Hints.{Store, hints_fault, are_known}

-- a literal of the clause is in the set or is the negation of one before it
abbrev pub clashes_after : List Literal → List Literal → Bool
clashes_after set [] = false
clashes_after set (l ∷ ls) = holds set l || clashes_after (negation l ∷ set) ls

-- both literals of a variable are in the clause
abbrev pub clashes : List Literal → Bool
clashes c = clashes_after [] c

-- the negations of the clause's literals, put before the set one by one
abbrev pub negations : List Literal → List Literal → List Literal
negations set [] = set
negations set (l ∷ ls) = negations (negation l ∷ set) ls

-- what holds between lines: the clauses that are there, the greatest number up to now, and whether the empty clause was a step
pub record State : Type 0 where
  pub store : Store
  pub last : ℕ
  pub done : Bool

-- the store without a clause
abbrev pub without_one : Store → ℕ → Store
without_one store n = update nat_eq store n None

-- each names a clause that is there when those before it are gone
abbrev pub are_there : Store → List Literal → Bool
are_there store [] = true
are_there store (n ∷ ns) = is_some (store n.variable) && are_there (without_one store n.variable) ns

-- the store without these
abbrev pub without_all : Store → List Literal → Store
without_all store [] = store
without_all store (n ∷ ns) = without_all (without_one store n.variable) ns

-- the step cannot stand there: its number is not above those before it, it has both literals of a variable, or a variable is too large
abbrev pub is_misplaced : ℕ → ℕ → ℕ → List Literal → Bool
is_misplaced variables last id c = nat_le id last || (not (is_within variables c) || clashes c)

-- the fault of a step
abbrev pub step_fault : ℕ → State → ℕ → List Literal → List Literal → Option Cause
step_fault variables s id c hs =
    cond (is_misplaced variables s.last id c) (Some BadProofLine) (cond (are_known s.store hs) (hints_fault s.store (negations [] c) hs) (Some UnknownClause))

-- the fault of a line
abbrev pub line_fault : ℕ → State → Line → Option Cause
line_fault variables s skips = None
line_fault variables s (adds id c hs) = step_fault variables s id c hs
line_fault variables s (deletes ns) = cond (are_there s.store ns) None (Some UnknownClause)
line_fault variables s bad = Some BadProofLine

-- what holds after a line
abbrev pub after_line : State → Line → State
after_line s skips = s
after_line s (adds id c hs) = record { store = update nat_eq s.store id (Some c); last = id; done = s.done || is_empty c }
after_line s (deletes ns) = record s { store = without_all s.store ns }
after_line s bad = s

-- the store with these clauses, of which the first has the number
abbrev pub numbered : ℕ → Store → List (List Literal) → Store
numbered n store [] = store
numbered n store (c ∷ cs) = numbered (n + 1) (update nat_eq store n (Some c)) cs

-- no clause is there
abbrev pub no_clauses : Store
no_clauses n = None

-- what holds before the first line
abbrev pub start : Formula → State
start f = record { store = numbered 1 no_clauses f.clauses; last = length f.clauses; done = false }

-- a fault of this line, or else of the further ones
abbrev pub or_later : ℕ → Option Cause → Option (ℕ × Cause) → Option (ℕ × Cause)
or_later n (Some cause) later = Some (n, cause)
or_later n None later = later

-- the first fault of the lines, of which the first has the number, with its line
abbrev pub first_fault : ℕ → State → ℕ → List Line → Option (ℕ × Cause)
first_fault variables s n [] = cond s.done None (Some (n, NoEmptyClause))
first_fault variables s n (l ∷ ls) = or_later n (line_fault variables s l) (first_fault variables (after_line s l) (n + 1) ls)

-- the first fault of a text of at most 2^26 bytes
unfoldable pub proof_fault : Formula → List ℕ → Option (ℕ × Cause)
proof_fault f bytes = cond (nat_lt (2 ^ 26) (length bytes)) (Some (1, TooLong)) (first_fault f.variables (start f) 1 (proof_lines bytes))

-- what the first fault makes of a proof: nothing is said where memory is wanting
abbrev pub IsAnswer : Option (ℕ × Cause) → CheckFail → Type 0
IsAnswer fault NoMemory = Unit {0}
IsAnswer fault (Refused r) = fault ≡ Some (r.line, r.cause)
