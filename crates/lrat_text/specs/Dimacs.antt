-- Formulas as texts in the DIMACS CNF format (DIMACS challenge on satisfiability, 1993; SAT competitions).
use Rattle.std.specs.Prelude.{◌≡◌, ℕ, Bool, false, cond, ◌==◌, nat_lt, nat_le, ◌||◌, ◌&&◌, ◌+◌, ◌^◌, ◌++◌, List, [], ◌∷◌, length, codes, nat_eq, Option, Some, None, Result, Ok, Err}
use Rattle.std.specs.Cmp.Lexicographic.{pointwise}
use Rattle.resolution_proof.specs.declared.literal.Literal.{Literal}
use Rattle.resolution_proof.specs.Formula.{Formula}
use Rattle.diag.specs.declared.cause.Cause.{Cause}
use Rattle.diag.specs.declared.cause.Cause.TheVariants.{TooLong, BadFormula}
use Rattle.lrat_text.specs.declared.fail.CheckFail.{CheckFail}
use Rattle.lrat_text.specs.declared.fail.CheckFail.TheVariants.{Refused, NoMemory}
use Rattle.lrat_text.specs.declared.word.Word.{Word}
use Rattle.lrat_text.specs.declared.word.Word.TheVariants.{End, Signed, Delete, Other}
use Rattle.text_lines.specs.Lines.{lines, words, is_wordless}
use Rattle.lrat_text.specs.Numbers.{number}
use Rattle.lrat_text.specs.Words.{line_words}

-- the line begins with the letter c
abbrev pub is_comment : List ℕ → Bool
is_comment [] = false
is_comment (b ∷ bs) = b == 99

-- a comment, or a line without words
abbrev pub is_skipped : List ℕ → Bool
is_skipped line = is_comment line || is_wordless (words line)

-- what has been read of a formula: the numbers of its header, whole clauses as they are written, and the literals of the next one
pub record Reading : Type 0 where
  pub variables : ℕ
  pub count : ℕ
  pub clauses : List (List Literal)
  pub part : List Literal

-- the two numbers, if both are there
abbrev pub both : Option ℕ → Option ℕ → Option (ℕ × ℕ)
both (Some v) (Some c) = Some (v, c)
both (Some v) None = None
both None c = None

-- the numbers of variables and of clauses that the header `p cnf V C` says
abbrev pub header_of : List (List ℕ) → Option (ℕ × ℕ)
header_of (p ∷ f ∷ v ∷ c ∷ []) = cond (pointwise nat_eq p (codes "p") && pointwise nat_eq f (codes "cnf")) (both (number v) (number c)) None
header_of ws = None

-- a literal or the end of a clause, where the header leaves room for one more clause
abbrev pub read_word : Reading → Word → Option Reading
read_word r (Signed l) = cond (nat_lt (length r.clauses) r.count && nat_le l.variable r.variables) (Some (record r { part = r.part ++ l ∷ [] })) None
read_word r End = cond (nat_lt (length r.clauses) r.count) (Some (record r { clauses = r.clauses ++ r.part ∷ []; part = [] })) None
read_word r Delete = None
read_word r Other = None

-- one word after the other
abbrev pub read_words : Option Reading → List Word → Option Reading
read_words None ws = None
read_words (Some r) [] = Some r
read_words (Some r) (w ∷ ws) = read_words (read_word r w) ws

-- a line behind the header
abbrev pub read_line : Reading → List ℕ → Option Reading
read_line r line = cond (is_comment line) (Some r) (read_words (Some r) (line_words line))

-- the formula, where there are as many clauses as the header says; else the line after the end is refused
abbrev pub finished : ℕ → Reading → Result Formula ℕ
finished n r = cond (length r.clauses == r.count) (Ok (record { variables = r.variables; clauses = r.clauses })) (Err n)

-- what further lines give after a line of that number, or its refusal
abbrev pub read_on : ℕ → Option Reading → (Reading → Result Formula ℕ) → Result Formula ℕ
read_on n None more = Err n
read_on n (Some r) more = more r

-- the lines behind the header, of which the first has the number: the formula, or the line that is refused
abbrev pub clauses_from : ℕ → Reading → List (List ℕ) → Result Formula ℕ
clauses_from n r [] = finished n r
clauses_from n r (l ∷ ls) = read_on n (read_line r l) (λ q. clauses_from (n + 1) q ls)

-- what the header begins
abbrev pub begun : Option (ℕ × ℕ) → Option Reading
begun None = None
begun (Some h) = Some (record { variables = h.0; count = h.1; clauses = []; part = [] })

-- the lines, of which the first has the number, up to the header and on
abbrev pub formula_from : ℕ → List (List ℕ) → Result Formula ℕ
formula_from n [] = Err n
formula_from n (l ∷ ls) = cond (is_skipped l) (formula_from (n + 1) ls) (read_on n (begun (header_of (words l))) (λ r. clauses_from (n + 1) r ls))

-- the formula that a text writes, or the line at which it is refused
abbrev pub dimacs : List ℕ → Result Formula ℕ
dimacs bytes = formula_from 1 (lines bytes)

-- a refused line is a bad formula
abbrev pub as_bad : Result Formula ℕ → Result Formula (ℕ × Cause)
as_bad (Ok f) = Ok f
as_bad (Err n) = Err (n, BadFormula)

-- the formula that a text of at most 2^26 bytes writes, or the line and the cause of its refusal
unfoldable pub formula_of : List ℕ → Result Formula (ℕ × Cause)
formula_of bytes = cond (nat_lt (2 ^ 26) (length bytes)) (Err (1, TooLong)) (as_bad (dimacs bytes))

-- what the text's refusal makes of reading: nothing is said where memory is wanting
abbrev pub IsReadFail : List ℕ → CheckFail → Type 0
IsReadFail bytes NoMemory = Unit {0}
IsReadFail bytes (Refused r) = formula_of bytes ≡ Err (r.line, r.cause)

-- what an answer about a line of a number makes of the lines from there on
abbrev pub IsLineFail : Result Formula ℕ → CheckFail → Type 0
IsLineFail read NoMemory = Unit {0}
IsLineFail read (Refused r) = (read ≡ Err r.line) × (r.cause ≡ BadFormula)
