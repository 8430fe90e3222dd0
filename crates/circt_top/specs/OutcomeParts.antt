-- The parts of an outcome.
use Rattle.std.specs.Prelude.{◌≡◌, ℕ, List, Result, Ok, Err}
use Rattle.hw_model.specs.Design.{Design}
use Rattle.ir_store.specs.Designs.{design_of}
use Rattle.op_verifier.specs.declared.accepted.Verified.{Verified}
use Rattle.mlir_printer.specs.Texts.{ir_text}
use Rattle.pass_pipeline.specs.declared.pass.Pass.{Pass}
use Rattle.pass_manager.specs.Results.{IsResult}
use Rattle.circt_top.specs.Accepting.{Accepted, IsRefused, in_file}
use Rattle.circt_top.specs.Pieces.{Piece, in_whole}
use Rattle.circt_top.specs.PieceReprint.{ArePrinted, IsPieceRefused, IsFirstRefused}
use Rattle.mlir_syntax.specs.declared.fail.ReadFail.{ReadFail}
use Rattle.mlir_syntax.specs.declared.fail.ReadFail.TheVariants as read
use Rattle.op_verifier.specs.declared.verify_fail.VerifyFail.{VerifyFail}
use Rattle.op_verifier.specs.declared.verify_fail.VerifyFail.TheVariants as verify
use Rattle.circt_top.specs.declared.made.OutcomeFail.{OutcomeFail}
use Rattle.circt_top.specs.declared.made.OutcomeFail.TheVariants.{Refused, NoMemory}

-- the design that the bytes say, of which nothing is refused, or the first refusal
abbrev pub IsTaken : List ℕ → Result Verified OutcomeFail → Type 0
IsTaken bytes (Ok v) = Accepted bytes (design_of v.design)
IsTaken bytes (Err (Refused r)) = IsRefused bytes r
IsTaken bytes (Err NoMemory) = Unit {0}

-- why no text is made of what is not read, of what is not verified
abbrev pub read_failure : ReadFail → OutcomeFail
read_failure (read.Refused r) = Refused r
read_failure read.NoMemory = NoMemory

abbrev pub verify_failure : VerifyFail → OutcomeFail
verify_failure (verify.Refused r) = Refused r
verify_failure verify.NoMemory = NoMemory

-- the same of a piece, as one of the whole text
abbrev pub fail_in_whole : Piece → OutcomeFail → OutcomeFail
fail_in_whole p (Refused r) = Refused (in_whole p r)
fail_in_whole p NoMemory = NoMemory

-- the piece is refused so, or there was no memory
abbrev pub IsFailOfPiece : Piece → OutcomeFail → Type 0
IsFailOfPiece p (Refused r) = IsPieceRefused p r
IsFailOfPiece p NoMemory = Unit {0}

-- the texts of pieces, joined, or the first refusal
abbrev pub GivesPieces : List Pass → List Piece → Result (List ℕ) OutcomeFail → Type 0
GivesPieces passes ps (Ok text) = ArePrinted passes ps text
GivesPieces passes ps (Err (Refused r)) = IsFirstRefused ps r
GivesPieces passes ps (Err NoMemory) = Unit {0}

-- the same of the input of this number
abbrev pub fail_in_file : ℕ → OutcomeFail → OutcomeFail
fail_in_file number (Refused r) = Refused (in_file number r)
fail_in_file number NoMemory = NoMemory

-- the text of what passes make of a design
pub record IsPrinted (passes : List Pass) (d : Design) (text : List ℕ) : Type 0 where
  pub made : Design
  pub result : IsResult passes d made
  pub is : text ≡ ir_text made
