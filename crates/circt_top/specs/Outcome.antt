-- What is made of the texts of the inputs.
use Rattle.std.specs.Prelude.{◌≡◌, ℕ, List, [], ◌∷◌, Option, None, Some, Result, Ok, Err}
use Rattle.bits_core.specs.Word.{Word}
use Rattle.hw_model.specs.Types.{Name}
use Rattle.resolution_proof.specs.declared.log.Step.{Step}
use Rattle.diag.specs.declared.refusal.Refusal.{Refusal}
use Rattle.command_line.specs.Line.{Work}
use Rattle.command_line.specs.Line.Work.{mlir, mlir_pieces, verilog, aiger_export, aiger_import, generated_summary, generated_verilog, comparison, proof_check, simulation}
use Rattle.circt_top.specs.Accepting.{IsAcceptedText, IsRefusedIn, first_input}
use Rattle.circt_top.specs.Reprint.{IsReprint}
use Rattle.circt_top.specs.PieceReprint.{IsReprintOfPieces, IsRefusedInPieces, IsAcceptedInPieces}
use Rattle.circt_top.specs.Translation.{IsTranslation}
use Rattle.circt_top.specs.Generation.{IsGenerated, IsSummary}
use Rattle.circt_top.specs.Comparing.{IsSame, IsDifference, IsGivenUp, IsRefusedPair, CanBeCompared}
use Rattle.circt_top.specs.Checks.{IsVerifiedProof, IsRefusedProof, CanBeVerified}
use Rattle.circt_top.specs.Simulations.{IsRun, IsRefusedRun, CanBeRun}
use Rattle.circt_top.specs.Imports.{IsImport, IsRefusedImport, CanBeImported}
use Rattle.circt_top.specs.Exports.{IsExport, IsRefusedExport, CanBeExported}
use Rattle.circt_top.specs.declared.made.FileText.{FileText}
use Rattle.circt_top.specs.declared.made.ProofTexts.{ProofTexts}
use Rattle.circt_top.specs.declared.made.Made.{Made}
use Rattle.circt_top.specs.declared.made.Finding.{Finding}
use Rattle.circt_top.specs.declared.made.Finding.TheVariants.{Given, Different, Unknown}
use Rattle.circt_top.specs.declared.made.OutcomeFail.{OutcomeFail}
use Rattle.circt_top.specs.declared.made.OutcomeFail.TheVariants.{Refused, NoMemory}

-- what a text that is printed says of what was asked: it is given, where nothing was asked but the text itself, or it says that modules
-- are the same; or they differ where they are given these words; or it is unknown whether they do, so many clauses being learnt
pub data Verdict : Type 0 where
  given : Verdict
  different : List Word → Verdict
  unknown : List Step → Verdict

-- what goes out: files, each a name and the text that it is given, in order, and then a text
pub record Texts : Type 0 where
  pub files : List (Name × List ℕ)
  pub text : List ℕ

-- a text alone
abbrev pub alone : List ℕ → Texts
alone text = record { files = []; text = text }

-- an answer: what goes out, with a verdict, or a refusal of an input, which has the input's number
pub data Answer : Type 0 where
  prints : Verdict → Texts → Answer
  refuses : Refusal → Answer

-- a work makes this text of inputs of these contents, and nothing else
abbrev pub IsText : Work → List (List ℕ) → List ℕ → Type 0
IsText (mlir passes) contents text = IsReprint passes (first_input contents) text
IsText (mlir_pieces passes) contents text = IsReprintOfPieces passes (first_input contents) text
IsText (verilog passes options) contents text = IsTranslation passes options (first_input contents) text
IsText (aiger_export passes) contents text = IsExport passes (first_input contents) text
IsText (aiger_import passes) contents text = IsImport passes (first_input contents) text
IsText (generated_summary seed count) contents text = IsSummary seed count text
IsText (generated_verilog seed count) contents text = IsGenerated seed count text
IsText (comparison left right limit proof) contents text = ⊥
IsText proof_check contents text = IsVerifiedProof contents text
IsText (simulation top) contents text = IsRun top contents text

-- a work refuses inputs of these contents so
abbrev pub IsRefusedBy : Work → List (List ℕ) → Refusal → Type 0
IsRefusedBy (mlir passes) contents r = IsRefusedIn 0 (first_input contents) r
IsRefusedBy (mlir_pieces passes) contents r = IsRefusedInPieces (first_input contents) r
IsRefusedBy (verilog passes options) contents r = IsRefusedIn 0 (first_input contents) r
IsRefusedBy (aiger_export passes) contents r = IsRefusedExport passes (first_input contents) r
IsRefusedBy (aiger_import passes) contents r = IsRefusedImport (first_input contents) r
IsRefusedBy (generated_summary seed count) contents r = ⊥
IsRefusedBy (generated_verilog seed count) contents r = ⊥
IsRefusedBy (comparison left right limit proof) contents r = IsRefusedPair left right contents r
IsRefusedBy proof_check contents r = IsRefusedProof contents r
IsRefusedBy (simulation top) contents r = IsRefusedRun top contents r

-- what a comparison finds, with what goes out: with the file of a proof, that modules are the same goes out with a formula and a proof
abbrev pub IsFinding : Name → Name → ℕ → Option Name → List (List ℕ) → Verdict → Texts → Type 0
IsFinding left right limit proof contents given t = IsSame left right proof contents t.files t.text
IsFinding left right limit proof contents (different values) t = (t.files ≡ []) × IsDifference left right contents values t.text
IsFinding left right limit proof contents (unknown log) t = (t.files ≡ []) × IsGivenUp left right limit contents log t.text

-- what else is printed has no verdict but that it is given, and is a text alone
abbrev pub IsGiven : Work → List (List ℕ) → Verdict → Texts → Type 0
IsGiven work contents given t = (t.files ≡ []) × IsText work contents t.text
IsGiven work contents (different values) t = ⊥
IsGiven work contents (unknown log) t = ⊥

abbrev pub IsOutput : Work → List (List ℕ) → Verdict → Texts → Type 0
IsOutput (comparison left right limit proof) contents verdict t = IsFinding left right limit proof contents verdict t
IsOutput work contents verdict t = IsGiven work contents verdict t

-- a work answers inputs of these contents so
abbrev pub IsAnswer : Work → List (List ℕ) → Answer → Type 0
IsAnswer work contents (prints verdict t) = IsOutput work contents verdict t
IsAnswer work contents (refuses r) = IsRefusedBy work contents r

-- the contents are accepted, as what the work takes; what passes make of a design is not refused by the AIGER format; a text in that format says a design; a generated design takes none; modules that are compared are
-- there, and can be compared; a proof is one over the formula; a module that runs is there, with steps of it
abbrev pub IsAnswered : Work → List (List ℕ) → Type 0
IsAnswered (mlir passes) contents = IsAcceptedText (first_input contents)
IsAnswered (mlir_pieces passes) contents = IsAcceptedInPieces (first_input contents)
IsAnswered (verilog passes options) contents = IsAcceptedText (first_input contents)
IsAnswered (aiger_export passes) contents = CanBeExported passes (first_input contents)
IsAnswered (aiger_import passes) contents = CanBeImported (first_input contents)
IsAnswered (generated_summary seed count) contents = Unit {0}
IsAnswered (generated_verilog seed count) contents = Unit {0}
IsAnswered (comparison left right limit proof) contents = CanBeCompared left right contents
IsAnswered proof_check contents = CanBeVerified contents
IsAnswered (simulation top) contents = CanBeRun top contents

-- what code finds
abbrev pub verdict_of : Finding → Verdict
verdict_of Given = given
verdict_of (Different input) = different input
verdict_of (Unknown log) = unknown log

-- the files that come with a text in code
abbrev pub file_of : FileText → Name × List ℕ
file_of f = (f.name.now, f.text)

abbrev pub files_of : Option ProofTexts → List (Name × List ℕ)
files_of None = []
files_of (Some p) = file_of p.formula ∷ file_of p.proof ∷ []

abbrev pub texts_of : Made → Texts
texts_of made = record { files = files_of made.proof; text = made.text }

-- what is given is the answer, or out of memory
abbrev pub Gives : Work → List (List ℕ) → Result Made OutcomeFail → Type 0
Gives work contents (Ok made) = IsAnswer work contents (prints (verdict_of made.finding) (texts_of made))
Gives work contents (Err (Refused r)) = IsAnswer work contents (refuses r)
Gives work contents (Err NoMemory) = Unit {0}

-- the same of a text alone
abbrev pub GivesText : Work → List (List ℕ) → Result (List ℕ) OutcomeFail → Type 0
GivesText work contents (Ok text) = IsText work contents text
GivesText work contents (Err (Refused r)) = IsRefusedBy work contents r
GivesText work contents (Err NoMemory) = Unit {0}
