-- The comparison of a module of the first input with a module of the last one (CIRCT: `circt-lec`).
use Rattle.std.specs.Prelude.{◌≡◌, ◌==◌, ◌-◌, ℕ, false, cond, List, [], ◌∷◌, ◌++◌, length, Option, Some, None, codes}
use Rattle.bits_core.specs.Word.{Word, number}
use Rattle.resolution_proof.specs.Formula.{Formula}
use Rattle.resolution_proof.specs.declared.log.Step.{Step}
use Rattle.diag.specs.declared.refusal.Refusal.{Refusal}
use Rattle.hw_model.specs.Types.{Name}
use Rattle.hw_model.specs.Design.{Design}
use Rattle.verilog_model.specs.Digits.{literal_of}
use Rattle.verilog_model.specs.Text.{expr_text}
use Rattle.lrat_text.specs.Written.{dimacs_text, lrat_text}
use Rattle.lrat_text.specs.Verified.{Verified}
use Rattle.lec_tool.specs.Comparisons.{IsComparisonRefusal}
use Rattle.lec_tool.specs.Verdicts.{DoAgree, DoDiffer, IsUndecided}
use Rattle.lec_tool.specs.LeafNames.{AreLeafNames}
use Rattle.circt_top.specs.Accepting.{Accepted, IsRefusedIn, first_input}

-- ---- the inputs

-- the bytes of the last input, and its number
abbrev pub last_input : List (List ℕ) → List ℕ
last_input [] = []
last_input (bytes ∷ []) = bytes
last_input (bytes ∷ more ∷ contents) = last_input (more ∷ contents)

abbrev pub last_number : List (List ℕ) → ℕ
last_number contents = length contents - 1

-- the designs that the first input and the last one say, of which nothing is refused
abbrev pub AreTaken : List (List ℕ) → Design → Design → Type 0
AreTaken contents d e = Accepted (first_input contents) d × Accepted (last_input contents) e

-- the refusal of a comparison, of which file 1 is the input of this number
abbrev pub in_pair : ℕ → Refusal → Refusal
in_pair number r = record r { file = cond (r.file == 0) 0 number }

-- ---- refusals

-- the first refusal: of the first input, of the last one, or of the comparison
pub data IsRefusedPair (left right : Name) (contents : List (List ℕ)) : Refusal → Type 0 where
  first : (r : Refusal) → IsRefusedIn 0 (first_input contents) r → IsRefusedPair left right contents r
  last : (r : Refusal) (d : Design) → Accepted (first_input contents) d → IsRefusedIn (last_number contents) (last_input contents) r → IsRefusedPair left right contents r
  pair : (r x : Refusal) (d e : Design) → AreTaken contents d e → IsComparisonRefusal d left e right x → r ≡ in_pair (last_number contents) x → IsRefusedPair left right contents r

-- the inputs say designs whose modules are not refused
pub record CanBeCompared (left right : Name) (contents : List (List ℕ)) : Type 0 where
  pub one : Design
  pub two : Design
  pub taken : AreTaken contents one two
  pub unrefused : (r : Refusal) → IsComparisonRefusal one left two right r → ⊥

-- ---- texts

-- a word as a literal (IEEE 1364-2005, 3.5.1: integer constants)
abbrev pub word_text : Word → List ℕ
word_text w = expr_text (literal_of (length w) false (number w)) []

-- a line for each leaf
abbrev pub value_lines : List Name → List Word → List ℕ
value_lines [] values = []
value_lines (name ∷ names) [] = []
value_lines (name ∷ names) (value ∷ values) = name ++ (codes " = " ++ (word_text value ++ (codes "\n" ++ value_lines names values)))

abbrev pub difference_text : List Name → List Word → List ℕ
difference_text names values = codes "c1 != c2\n" ++ value_lines names values

-- ---- answers

-- the files that go out where modules are the same: none; or, with the file of a proof, the formula of the comparison in one of that name
-- and `.cnf`, and then the log that refutes it in the file itself: a verified proof over that formula
abbrev pub AreProofFiles : Option Name → Formula → List Step → List (Name × List ℕ) → Type 0
AreProofFiles None formula log files = files ≡ []
AreProofFiles (Some name) formula log files =
    (files ≡ (name ++ codes ".cnf", dimacs_text formula) ∷ (name, lrat_text formula log) ∷ []) × Verified (dimacs_text formula) (lrat_text formula log)

-- the modules agree, and the text says so
pub record IsSame (left right : Name) (proof : Option Name) (contents : List (List ℕ)) (files : List (Name × List ℕ)) (text : List ℕ) : Type 0 where
  pub one : Design
  pub two : Design
  pub taken : AreTaken contents one two
  pub log : List Step
  pub agree : DoAgree one left two right log
  pub proves : AreProofFiles proof agree.formula log files
  pub is : text ≡ codes "c1 == c2\n"

-- the modules differ where they are given these words, and the text says so, leaf by leaf of the first one: as many names as words, each
-- that of its leaf, the inputs first and then the registers, in order
pub record IsDifference (left right : Name) (contents : List (List ℕ)) (values : List Word) (text : List ℕ) : Type 0 where
  pub one : Design
  pub two : Design
  pub taken : AreTaken contents one two
  pub differ : DoDiffer one left two right values
  pub names : List Name
  pub are_names : AreLeafNames one left names
  pub as_many : length names ≡ length values
  pub is : text ≡ difference_text names values

-- as many clauses were learnt as the limit says, and the text says that nothing is known
pub record IsGivenUp (left right : Name) (limit : ℕ) (contents : List (List ℕ)) (log : List Step) (text : List ℕ) : Type 0 where
  pub one : Design
  pub two : Design
  pub taken : AreTaken contents one two
  pub undecided : IsUndecided one left two right limit log
  pub is : text ≡ codes "unknown\n"
