-- A text cut into pieces line by line.
use Rattle.std.proofs.Common.{◌≡◌, ℕ, suc, ◌+◌, ◌-◌, ◌≤◌, ◌<◌, Bool, true, false, cond, List, [], ◌∷◌, ◌++◌, length, map, take, drop, refl, sym, ◌∙◌, ap, arith, append_assoc, length-drop}
use Rattle.std.proofs.Math.Seq.{take-add}
use Rattle.std.proofs.lemmas.List.{append-nil, drop-drop, drop_all}
use Rattle.std.specs.Prelude.{◌==◌, slice_range}
use Rattle.circt_top.specs.Pieces.{Piece, begun_by, lines_of, line_size, is_separator, empty_piece, following, begun_with, pieces_of_lines, pieces_of}

-- ---- lines

line_at : (x : Bool) (b : ℕ) (bytes : List ℕ) (n : ℕ) → begun_by b (lines_of bytes) ≡ (b ∷ take n bytes) ∷ lines_of (drop n bytes)
    → cond x ((b ∷ []) ∷ lines_of bytes) (begun_by b (lines_of bytes)) ≡ take (cond x 1 (suc n)) (b ∷ bytes) ∷ lines_of (drop (cond x 1 (suc n)) (b ∷ bytes))
line_at true b bytes n h = refl
line_at false b bytes n h = h

-- the first line, and those after it
first_line : (b : ℕ) (bytes : List ℕ) → lines_of (b ∷ bytes) ≡ take (line_size (b ∷ bytes)) (b ∷ bytes) ∷ lines_of (drop (line_size (b ∷ bytes)) (b ∷ bytes))
first_line b [] = line_at (b == 10) b [] 0 refl
first_line b (c ∷ bytes) = line_at (b == 10) b (c ∷ bytes) (line_size (c ∷ bytes)) (ap (begun_by b) (first_line c bytes))

line_first : (bytes : List ℕ) → 0 < length bytes → lines_of bytes ≡ take (line_size bytes) bytes ∷ lines_of (drop (line_size bytes) bytes)
line_first [] h = absurd (omega (arith, h))
line_first (b ∷ bytes) h = first_line b bytes

-- ---- pieces

-- pieces after bytes, the first of which begins with the bytes of a piece
abbrev pub carried : List ℕ → List ℕ → List Piece → List Piece
carried before piece [] = []
carried before piece (p ∷ ps) = record { before = before ++ p.before; bytes = piece ++ p.bytes } ∷ map (following (before ++ piece)) ps

-- a piece after some bytes
abbrev piece_after : List ℕ → List ℕ → Piece
piece_after before bytes = record { before = before; bytes = bytes }

same_piece : {a b c d : List ℕ} → a ≡ b → c ≡ d → piece_after a c ≡ piece_after b d
same_piece {a} {b} {c} {d} h k = ap (λ x. piece_after x c) h ∙ ap (piece_after b) k

after_twice : (a b : List ℕ) (ps : List Piece) → map (following a) (map (following b) ps) ≡ map (following (a ++ b)) ps
after_twice a b [] = refl
after_twice a b (p ∷ ps) =
    ap (λ l. piece_after l p.bytes ∷ map (following a) (map (following b) ps)) (sym (append_assoc a b p.before))
    ∙ ap (λ l. piece_after ((a ++ b) ++ p.before) p.bytes ∷ l) (after_twice a b ps)

nothing_after : (ps : List Piece) → map (following []) ps ≡ ps
nothing_after [] = refl
nothing_after (p ∷ ps) = ap (λ z. p ∷ z) (nothing_after ps)

nothing_carried : (ps : List Piece) → carried [] [] ps ≡ ps
nothing_carried [] = refl
nothing_carried (p ∷ ps) = ap (λ z. p ∷ z) (nothing_after ps)

-- one line more of the piece
line_carried : (before piece line : List ℕ) (ps : List Piece) → carried before piece (begun_with line ps) ≡ carried before (piece ++ line) ps
line_carried before piece line [] = refl
line_carried before piece line (p ∷ ps) =
    ap (λ l. piece_after (before ++ p.before) l ∷ map (following (before ++ piece)) (map (following line) ps)) (sym (append_assoc piece line p.bytes))
    ∙ ap (λ l. piece_after (before ++ p.before) ((piece ++ line) ++ p.bytes) ∷ l)
    (after_twice (before ++ piece) line ps ∙ ap (λ x. map (following x) ps) (append_assoc before piece line))

begun_nothing : (before : List ℕ) (ps : List Piece) → map (following before) ps ≡ carried before [] ps
begun_nothing before [] = refl
begun_nothing before (p ∷ ps) = ap (λ x. piece_after (before ++ p.before) p.bytes ∷ map (following x) ps) (sym (append-nil before))

-- a separator ends the piece
separator_carried : (before piece line : List ℕ) (ps : List Piece)
    → carried before piece (empty_piece ∷ map (following line) ps) ≡ piece_after before piece ∷ carried ((before ++ piece) ++ line) [] ps
separator_carried before piece line ps =
    ap (λ p. p ∷ map (following (before ++ piece)) (map (following line) ps)) (same_piece (append-nil before) (append-nil piece))
    ∙ ap (λ l. piece_after before piece ∷ l) (after_twice (before ++ piece) line ps ∙ begun_nothing ((before ++ piece) ++ line) ps)

-- ---- a text cut as far as a location

-- the pieces so far, and those of the rest, the first of which has begun at `start`
abbrev pub IsCutTo : List ℕ → ℕ → ℕ → List Piece → Type 0
IsCutTo source start at pieces = pieces ++ carried (take start source) (slice_range source start at) (pieces_of_lines (lines_of (drop at source))) ≡ pieces_of source

prefix_to : (source : List ℕ) (start at : ℕ) → start ≤ at → take at source ≡ take start source ++ slice_range source start at
prefix_to source start at h =
    let e : at ≡ start + (at - start) = omega (arith, h) in
    ap (λ n. take n source) e ∙ take-add start (at - start) source

-- the line at a location
abbrev line_from : List ℕ → ℕ → List ℕ
line_from source at = slice_range source at (at + line_size (drop at source))

line_is : (source : List ℕ) (at n : ℕ) → slice_range source at (at + n) ≡ take n (drop at source)
line_is source at n = let e : at + n - at ≡ n = omega arith in ap (λ k. take k (drop at source)) e

part_more : (source : List ℕ) (start at n : ℕ) → start ≤ at → slice_range source start (at + n) ≡ slice_range source start at ++ slice_range source at (at + n)
part_more source start at n h =
    let size : at + n - start ≡ (at - start) + n = omega (arith, h) in
    let there : start + (at - start) ≡ at = omega (arith, h) in
    let rest : drop (at - start) (drop start source) ≡ drop at source = drop-drop (at - start) start source ∙ ap (λ k. drop k source) there in
    ap (λ k. take k (drop start source)) size ∙ take-add (at - start) n (drop start source)
    ∙ ap (λ l. slice_range source start at ++ take n l) rest ∙ ap (λ l. slice_range source start at ++ l) (sym (line_is source at n))

length_dropped : (source : List ℕ) (at : ℕ) → at < length source → 0 < length (drop at source)
length_dropped source at h = let e = length-drop at source in omega (arith, e, h)

lines_from : (source : List ℕ) (at : ℕ) → at < length source
    → lines_of (drop at source) ≡ line_from source at ∷ lines_of (drop (at + line_size (drop at source)) source)
lines_from source at h =
    let n = line_size (drop at source) in
    line_first (drop at source) (length_dropped source at h)
    ∙ ap (λ l. l ∷ lines_of (drop n (drop at source))) (sym (line_is source at n))
    ∙ ap (λ l. line_from source at ∷ lines_of l) (drop-drop n at source)

-- a line more that is no separator
pub cut_line : (source : List ℕ) (start at : ℕ) (pieces : List Piece) → start ≤ at → at < length source → is_separator (line_from source at) ≡ false → IsCutTo source start at pieces
    → IsCutTo source start (at + line_size (drop at source)) pieces
cut_line source start at pieces h lt other cut =
    let n = line_size (drop at source) in
    let rest = pieces_of_lines (lines_of (drop (at + n) source)) in
    let step : pieces_of_lines (lines_of (drop at source)) ≡ begun_with (line_from source at) rest =
    ap pieces_of_lines (lines_from source at lt)
    ∙ ap (λ b. cond b (empty_piece ∷ map (following (line_from source at)) rest) (begun_with (line_from source at) rest)) other in
    ap (λ l. pieces ++ l)
    (ap (λ l. carried (take start source) l rest) (part_more source start at n h)
    ∙ sym (line_carried (take start source) (slice_range source start at) (line_from source at) rest)
    ∙ ap (carried (take start source) (slice_range source start at)) (sym step))
    ∙ cut

-- a separator
pub cut_separator : (source : List ℕ) (start at : ℕ) (pieces : List Piece) (p : Piece) → start ≤ at → at < length source → is_separator (line_from source at) ≡ true
    → p.before ≡ take start source → p.bytes ≡ slice_range source start at → IsCutTo source start at pieces
    → IsCutTo source (at + line_size (drop at source)) (at + line_size (drop at source)) (pieces ++ p ∷ [])
cut_separator source start at pieces p h lt separates before bytes cut =
    let n = line_size (drop at source) in
    let rest = pieces_of_lines (lines_of (drop (at + n) source)) in
    let step : pieces_of_lines (lines_of (drop at source)) ≡ empty_piece ∷ map (following (line_from source at)) rest =
    ap pieces_of_lines (lines_from source at lt)
    ∙ ap (λ b. cond b (empty_piece ∷ map (following (line_from source at)) rest) (begun_with (line_from source at) rest)) separates in
    let prefix : take (at + n) source ≡ (take start source ++ slice_range source start at) ++ line_from source at =
    take-add at n source ∙ ap (λ l. l ++ take n (drop at source)) (prefix_to source start at h)
    ∙ ap (λ l. (take start source ++ slice_range source start at) ++ l) (sym (line_is source at n)) in
    let none : slice_range source (at + n) (at + n) ≡ [] = let e : (at + n) - (at + n) ≡ 0 = omega arith in ap (λ k. take k (drop (at + n) source)) e in
    append_assoc pieces (p ∷ []) (carried (take (at + n) source) (slice_range source (at + n) (at + n)) rest)
    ∙ ap (λ l. pieces ++ l)
    (ap (λ l. p ∷ carried (take (at + n) source) l rest) none
    ∙ ap (λ l. p ∷ carried l [] rest) prefix
    ∙ ap (λ q. q ∷ carried ((take start source ++ slice_range source start at) ++ line_from source at) [] rest) (same_piece before bytes)
    ∙ sym (separator_carried (take start source) (slice_range source start at) (line_from source at) rest)
    ∙ ap (carried (take start source) (slice_range source start at)) (sym step))
    ∙ cut

-- the end of the text
pub cut_end : (source : List ℕ) (start at : ℕ) (pieces : List Piece) (p : Piece) → length source ≤ at
    → p.before ≡ take start source → p.bytes ≡ slice_range source start at → IsCutTo source start at pieces → pieces ++ p ∷ [] ≡ pieces_of source
cut_end source start at pieces p h before bytes cut =
    let none : drop at source ≡ [] = drop_all at source h in
    ap (λ q. pieces ++ q ∷ []) (same_piece before bytes)
    ∙ ap (λ q. pieces ++ q ∷ []) (sym (same_piece (append-nil (take start source)) (append-nil (slice_range source start at))))
    ∙ ap (λ l. pieces ++ carried (take start source) (slice_range source start at) (pieces_of_lines (lines_of l))) (sym none)
    ∙ cut

-- nothing is cut as yet
pub cut_start : (source : List ℕ) → IsCutTo source 0 0 []
cut_start source = nothing_carried (pieces_of source)
