-- What `opt --split-input-file` does with a text: each piece of it is a text of its own.
use Rattle.std.specs.Prelude.{◌≡◌, ℕ, ◌<◌, ◌≤◌, ◌⊎◌, List, [], ◌∷◌, map, length}
use Rattle.diag.specs.Location.{start_location}
use Rattle.diag.specs.declared.refusal.OpName.TheVariants as op
use Rattle.diag.specs.declared.cause.Cause.TheVariants.{TooLong}
use Rattle.diag.specs.declared.refusal.Refusal.{Refusal}
use Rattle.mlir_syntax.specs.Stream.{refusal}
use Rattle.mlir_reader.specs.Reading.{text_limit}
use Rattle.pass_pipeline.specs.declared.pass.Pass.{Pass}
use Rattle.circt_top.specs.Accepting.{IsAcceptedText, IsRefused}
use Rattle.circt_top.specs.Pieces.{Piece, pieces_of, in_whole, joined}
use Rattle.circt_top.specs.Reprint.{IsReprint}

-- each text is the design of one piece printed, in order
abbrev pub AreReprints : List Pass → List Piece → List (List ℕ) → Type 0
AreReprints passes [] [] = Unit {0}
AreReprints passes (p ∷ ps) (text ∷ texts) = IsReprint passes p.bytes text × AreReprints passes ps texts
AreReprints passes [] (text ∷ texts) = ⊥
AreReprints passes (p ∷ ps) [] = ⊥

-- the text is the designs of pieces printed, with a line `// -----` between each two
pub record ArePrinted (passes : List Pass) (ps : List Piece) (text : List ℕ) : Type 0 where
  pub texts : List (List ℕ)
  pub each : AreReprints passes ps texts
  pub is_joined : text ≡ joined texts

-- the text is the designs of the pieces of the input printed so, which is not too long
pub record IsReprintOfPieces (passes : List Pass) (bytes text : List ℕ) : Type 0 where
  pub short : length bytes ≤ text_limit
  pub printed : ArePrinted passes (pieces_of bytes) text
  -- the pieces of the text, cut at its separators, are the texts of the pieces of the input
  pub cut_again : map (λ (p : Piece). p.bytes) (pieces_of text) ≡ printed.texts

-- the piece is refused so, by the lines and bytes of the whole text
pub record IsPieceRefused (p : Piece) (r : Refusal) : Type 0 where
  pub refusal : Refusal
  pub refused : IsRefused p.bytes refusal
  pub placed : r ≡ in_whole p refusal

-- the first refusal of pieces, before which each one is accepted
abbrev pub IsFirstRefused : List Piece → Refusal → Type 0
IsFirstRefused [] r = ⊥
IsFirstRefused (p ∷ ps) r = IsPieceRefused p r ⊎ (IsAcceptedText p.bytes × IsFirstRefused ps r)

-- the first refusal of a text in pieces: that it is too long, or else that of its pieces
abbrev pub IsRefusedInPieces : List ℕ → Refusal → Type 0
IsRefusedInPieces bytes r =
    ((text_limit < length bytes) × (r ≡ refusal start_location op.File TooLong)) ⊎ ((length bytes ≤ text_limit) × IsFirstRefused (pieces_of bytes) r)

-- each piece is accepted
abbrev pub AreAccepted : List Piece → Type 0
AreAccepted [] = Unit {0}
AreAccepted (p ∷ ps) = IsAcceptedText p.bytes × AreAccepted ps

-- the text is not too long, and each piece of it is accepted
pub record IsAcceptedInPieces (bytes : List ℕ) : Type 0 where
  pub short : length bytes ≤ text_limit
  pub each : AreAccepted (pieces_of bytes)
