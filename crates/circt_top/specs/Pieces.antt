-- A text cut into pieces at its lines that are `// -----`, and texts joined by such lines.
use Rattle.std.specs.Prelude.{ℕ, suc, ◌+◌, ◌-◌, ◌^◌, ◌==◌, ◌&&◌, ◌||◌, min, Bool, cond, nat_eq, List, [], ◌∷◌, ◌++◌, map, length, drop, codes}
use Rattle.std.specs.List.{starts_with, list_all}
use Rattle.diag.specs.declared.refusal.Location.{Location}
use Rattle.diag.specs.declared.refusal.OpName.{OpName}
use Rattle.diag.specs.declared.refusal.OpName.TheVariants as op
use Rattle.diag.specs.declared.refusal.Refusal.{Refusal}

-- ---- lines

-- lines of which the first one begins with a byte more
abbrev pub begun_by : ℕ → List (List ℕ) → List (List ℕ)
begun_by b [] = (b ∷ []) ∷ []
begun_by b (line ∷ lines) = (b ∷ line) ∷ lines

-- the lines of a text, each with the LF that ends it
abbrev pub lines_of : List ℕ → List (List ℕ)
lines_of [] = []
lines_of (b ∷ bytes) = cond (b == 10) ((b ∷ []) ∷ lines_of bytes) (begun_by b (lines_of bytes))

-- how many bytes the first line has
abbrev pub line_size : List ℕ → ℕ
line_size [] = 0
line_size (b ∷ bytes) = cond (b == 10) 1 (suc (line_size bytes))

-- how many lines end in a text
abbrev pub line_count : List ℕ → ℕ
line_count [] = 0
line_count (b ∷ bytes) = cond (b == 10) (suc (line_count bytes)) (line_count bytes)

-- a space, a tab, a CR, or the LF that ends a line
abbrev pub is_blank : ℕ → Bool
is_blank b = b == 32 || (b == 9 || (b == 13 || b == 10))

-- a line that is `// -----`, blanks after it aside
abbrev pub is_separator : List ℕ → Bool
is_separator line = starts_with nat_eq line (codes "// -----") && list_all is_blank (drop 8 line)

-- ---- pieces

-- a piece of a text, and what stands before it there
pub record Piece : Type 0 where
  pub before : List ℕ
  pub bytes : List ℕ

-- the piece without a byte that nothing stands before
abbrev pub empty_piece : Piece
empty_piece = record { before = []; bytes = [] }

-- a piece that stands after a line more
abbrev pub following : List ℕ → Piece → Piece
following line p = record { before = line ++ p.before; bytes = p.bytes }

-- pieces of which the first one begins with a line more, after which the others stand
abbrev pub begun_with : List ℕ → List Piece → List Piece
begun_with line [] = []
begun_with line (p ∷ ps) = record { before = p.before; bytes = line ++ p.bytes } ∷ map (following line) ps

-- the pieces of lines: before a separator a piece ends, and it belongs to none
abbrev pub pieces_of_lines : List (List ℕ) → List Piece
pieces_of_lines [] = empty_piece ∷ []
pieces_of_lines (line ∷ lines) = cond (is_separator line) (empty_piece ∷ map (following line) (pieces_of_lines lines)) (begun_with line (pieces_of_lines lines))

-- the pieces of a text
abbrev pub pieces_of : List ℕ → List Piece
pieces_of bytes = pieces_of_lines (lines_of bytes)

-- ---- refusals

-- a location in a piece, by the lines of the whole text
abbrev pub location_in_whole : Piece → Location → Location
location_in_whole p location = record { line = min (location.line + line_count p.before) (2 ^ 32 - 1); col = location.col }

-- the operation of a refusal, whose name may stand in the piece, by the bytes of the whole text
abbrev pub op_in_whole : Piece → OpName → OpName
op_in_whole p (op.Listed listed) = op.Listed listed
op_in_whole p op.File = op.File
op_in_whole p op.Check = op.Check
op_in_whole p op.Sim = op.Sim
op_in_whole p op.Aiger = op.Aiger
op_in_whole p (op.Other at len) = op.Other (min (at + length p.before) (2 ^ 64 - 1)) len

-- a refusal of a piece, as one of the whole text
abbrev pub in_whole : Piece → Refusal → Refusal
in_whole p r = record { file = 0; location = location_in_whole p r.location; op = op_in_whole p r.op; cause = r.cause }

-- ---- texts

-- texts, each after a line `// -----`
abbrev pub joined_after : List (List ℕ) → List ℕ
joined_after [] = []
joined_after (text ∷ texts) = codes "// -----\n" ++ (text ++ joined_after texts)

-- texts with a line `// -----` between each two
abbrev pub joined : List (List ℕ) → List ℕ
joined [] = []
joined (text ∷ texts) = text ++ joined_after texts
