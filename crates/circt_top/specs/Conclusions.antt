-- What is concluded of modules of two designs.
use Rattle.std.specs.Prelude.{◌≡◌, ℕ, List, [], Option, option_map, Result, Ok, Err, string_bytes, codes}
use Rattle.hw_model.specs.Types.{Name}
use Rattle.hw_model.specs.Design.{Design}
use Rattle.resolution_proof.specs.declared.log.Step.{Step}
use Rattle.lec_tool.specs.Comparisons.{IsComparisonRefusal}
use Rattle.diag.specs.declared.refusal.Refusal.{Refusal}
use Rattle.command_line.specs.declared.comparison.Comparison.{Comparison}
use Rattle.lec_tool.specs.Verdicts.{DoAgree, DoDiffer, IsUndecided}
use Rattle.lec_tool.specs.LeafNames.{AreLeafNames}
use Rattle.circt_top.specs.Comparing.{in_pair, difference_text, AreProofFiles}
use Rattle.circt_top.specs.Outcome.{files_of}
use Rattle.miter_blast.specs.declared.fail.MiterFail.{MiterFail}
use Rattle.miter_blast.specs.declared.fail.MiterFail.TheVariants as miter
use Rattle.circt_top.specs.declared.made.Made.{Made}
use Rattle.circt_top.specs.declared.made.Finding.{Finding}
use Rattle.circt_top.specs.declared.made.Finding.TheVariants.{Given, Different, Unknown}
use Rattle.circt_top.specs.declared.made.OutcomeFail.{OutcomeFail}
use Rattle.circt_top.specs.declared.made.OutcomeFail.TheVariants.{Refused, NoMemory}

module _ (left right : Name) (limit : ℕ) (proof : Option Name) (d e : Design) where
  -- that the modules agree by a log, with the files that go out
  abbrev pub AreSameBy : List (Name × List ℕ) → Type 0
  AreSameBy files = (log : List Step) × (agree : DoAgree d left e right log) × AreProofFiles proof agree.formula log files

  -- what was found, with its text and the files that go out
  abbrev pub IsFound : Finding → List (Name × List ℕ) → List ℕ → Type 0
  IsFound Given files text = AreSameBy files × (text ≡ codes "c1 == c2\n")
  IsFound (Different input) files text =
      (files ≡ []) × (DoDiffer d left e right input × ((names : List Name) × AreLeafNames d left names × (text ≡ difference_text names input)))
  IsFound (Unknown log) files text = (files ≡ []) × (IsUndecided d left e right limit log × (text ≡ codes "unknown\n"))

  -- or why nothing was, file 1 being the input of this number
  abbrev pub IsNotFound : ℕ → OutcomeFail → Type 0
  IsNotFound number (Refused r) = (x : Refusal) × IsComparisonRefusal d left e right x × (r ≡ in_pair number x)
  IsNotFound number NoMemory = Unit {0}

  abbrev pub IsEither : ℕ → Result Made OutcomeFail → Type 0
  IsEither number (Ok made) = IsFound made.finding (files_of made.proof) made.text
  IsEither number (Err fail) = IsNotFound number fail

-- why nothing was concluded, file 1 being the input of this number
abbrev pub comparison_failure : ℕ → MiterFail → OutcomeFail
comparison_failure number (miter.Refused r) = Refused (in_pair number r)
comparison_failure number miter.NoMemory = NoMemory

abbrev pub IsConcluded : Comparison → Design → Design → ℕ → Result Made OutcomeFail → Type 0
IsConcluded pair d e number result =
    IsEither (string_bytes pair.left) (string_bytes pair.right) pair.conflict_limit (option_map (λ p. string_bytes p.proof) pair.proof) d e number result
