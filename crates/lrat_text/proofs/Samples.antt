-- Worked rows: formulas that are read or refused, and proofs over them.
use Rattle.std.proofs.Common.{◌≡◌, ℕ, true, false, List, [], ◌∷◌, refl}
use Rattle.std.specs.Fmt.{digits}
use Rattle.std.specs.Prelude.{Some, None, Ok, Err, codes}
use Rattle.resolution_proof.specs.declared.literal.Literal.{Literal}
use Rattle.resolution_proof.specs.Formula.{Formula}
use Rattle.diag.specs.declared.cause.Cause.TheVariants.{BadFormula, BadProofLine, UnknownClause, StepDoesNotFollow, HintOutsideProfile, NoEmptyClause}
use Rattle.text_lines.specs.Lines.{lines, words}
use Rattle.lrat_text.specs.Numbers.{number}
use Rattle.lrat_text.specs.Words.{word_of}
use Rattle.lrat_text.specs.Dimacs.{formula_of}
use Rattle.lrat_text.specs.ProofLine.{line_of}
use Rattle.lrat_text.specs.Checking.{proof_fault}
use Rattle.lrat_text.specs.Written.{literal_text, clause_line, header_text, dimacs_text, hint_text, step_line, lrat_text}
use Rattle.resolution_proof.specs.declared.log.Step.{Step}

abbrev on : ℕ → Literal
on v = record { variable = v; positive = true }

abbrev off : ℕ → Literal
off v = record { variable = v; positive = false }

-- a variable and its complement
abbrev contrary : Formula
contrary = record { variables = 1; clauses = (on 1 ∷ []) ∷ ((off 1 ∷ []) ∷ []) }

formula_is_read : formula_of (codes "p cnf 1 2\n1 0\n-1 0\n") ≡ Ok contrary
unfolding formula_of lines words number word_of
formula_is_read = refl

clause_as_written : formula_of (codes "c\r\n\np cnf 2 1\r\n1 -1\n1 0") ≡ Ok (record { variables = 2; clauses = (on 1 ∷ off 1 ∷ on 1 ∷ []) ∷ [] })
unfolding formula_of lines words number word_of
clause_as_written = refl

clause_too_few : formula_of (codes "p cnf 1 2\n1 0\n") ≡ Err (3, BadFormula)
unfolding formula_of lines words number word_of
clause_too_few = refl

clause_too_many : formula_of (codes "p cnf 1 1\n1 0\n\n-1 0\n") ≡ Err (4, BadFormula)
unfolding formula_of lines words number word_of
clause_too_many = refl

verified : proof_fault contrary (codes "3 0 1 2 0\n") ≡ None
unfolding proof_fault lines words number word_of line_of
verified = refl

one_hint : proof_fault contrary (codes "3 0 1 0\n") ≡ Some (1, StepDoesNotFollow)
unfolding proof_fault lines words number word_of line_of
one_hint = refl

no_proof : proof_fault contrary [] ≡ Some (1, NoEmptyClause)
unfolding proof_fault lines words number word_of line_of
no_proof = refl

comment : proof_fault contrary (codes "\nc\n3 0 1 2 0\n") ≡ Some (2, BadProofLine)
unfolding proof_fault lines words number word_of line_of
comment = refl

number_too_low : proof_fault contrary (codes "2 0 1 2 9 0\n") ≡ Some (1, BadProofLine)
unfolding proof_fault lines words number word_of line_of
number_too_low = refl

deleted_hint : proof_fault contrary (codes "3 d 1 0\n3 0 1 2 0\n") ≡ Some (2, UnknownClause)
unfolding proof_fault lines words number word_of line_of
deleted_hint = refl

deleted_twice : proof_fault contrary (codes "3 d 1 1 0\n") ≡ Some (1, UnknownClause)
unfolding proof_fault lines words number word_of line_of
deleted_twice = refl

negative_after_conflict : proof_fault contrary (codes "3 0 1 2 -9 0\n") ≡ Some (1, HintOutsideProfile)
unfolding proof_fault lines words number word_of line_of
negative_after_conflict = refl

unknown_after_conflict : proof_fault contrary (codes "3 0 1 2 9 0\n") ≡ Some (1, UnknownClause)
unfolding proof_fault lines words number word_of line_of
unknown_after_conflict = refl

formula_is_written : dimacs_text contrary ≡ codes "p cnf 1 2\n1 0\n-1 0\n"
unfolding dimacs_text header_text clause_line literal_text digits
formula_is_written = refl

-- the resolution of the two clauses
abbrev refutation : List Step
refutation = record { clause = []; hints = record { clause = 2; pivot = 0 } ∷ (record { clause = 1; pivot = 1 } ∷ []) } ∷ []

log_is_written : lrat_text contrary refutation ≡ codes "3 0 1 2 0\n"
unfolding lrat_text step_line hint_text digits
log_is_written = refl
