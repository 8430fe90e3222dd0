-- Formulas and logs as the texts that are written.
use Rattle.std.specs.Prelude.{ℕ, cond, ◌+◌, ◌++◌, List, [], ◌∷◌, length, codes, decimal}
use Rattle.resolution_proof.specs.declared.literal.Literal.{Literal}
use Rattle.resolution_proof.specs.declared.log.Hint.{Hint}
use Rattle.resolution_proof.specs.declared.log.Step.{Step}
use Rattle.resolution_proof.specs.Formula.{Formula}

-- a literal and a blank
unfoldable pub literal_text : Literal → List ℕ
literal_text l = cond l.positive [] (codes "-") ++ (decimal l.variable ++ codes " ")

-- the literals of a clause
abbrev pub literals_text : List Literal → List ℕ
literals_text [] = []
literals_text (l ∷ ls) = literal_text l ++ literals_text ls

-- a clause, ended by 0
unfoldable pub clause_line : List Literal → List ℕ
clause_line c = literals_text c ++ codes "0\n"

-- a line for each clause
abbrev pub clause_lines : List (List Literal) → List ℕ
clause_lines [] = []
clause_lines (c ∷ cs) = clause_line c ++ clause_lines cs

-- the header
unfoldable pub header_text : Formula → List ℕ
header_text f = codes "p cnf " ++ (decimal f.variables ++ (codes " " ++ (decimal (length f.clauses) ++ codes "\n")))

-- a formula: the header and the clauses
unfoldable pub dimacs_text : Formula → List ℕ
dimacs_text f = header_text f ++ clause_lines f.clauses

-- the number of a hint's clause and a blank
unfoldable pub hint_text : Hint → List ℕ
hint_text h = decimal h.clause ++ codes " "

-- the numbers of the hints' clauses, the last first
abbrev pub hints_text : List Hint → List ℕ
hints_text [] = []
hints_text (h ∷ hs) = hints_text hs ++ hint_text h

-- a step of that number
unfoldable pub step_line : ℕ → Step → List ℕ
step_line n s = decimal n ++ (codes " " ++ (literals_text s.clause ++ (codes "0 " ++ (hints_text s.hints ++ codes "0\n"))))

-- the steps, of which the first has the number
abbrev pub step_lines : ℕ → List Step → List ℕ
step_lines n [] = []
step_lines n (s ∷ ss) = step_line n s ++ step_lines (n + 1) ss

-- a log over a formula, whose clauses have the numbers before the steps'
unfoldable pub lrat_text : Formula → List Step → List ℕ
lrat_text f log = step_lines (length f.clauses + 1) log
