-- Texts that are joined by separators are cut at them again, where their lines are none.
use Rattle.std.proofs.Common.{◌≡◌, ℕ, Bool, true, false, cond, ◌==◌, not, List, [], ◌∷◌, ◌++◌, map, refl, sym, ap, ◌∙◌, append_assoc}
use Rattle.std.specs.Prelude.{codes}
use Rattle.std.proofs.lemmas.List.{append-nil}
use Rattle.std.proofs.lemmas.Bool.{cond-false, eqb-true, and_parts, not-true}
use Rattle.mlir_printer.specs.Lines.{is_quiet, begins_slash, AreLines, ended, HasLines}
use Rattle.circt_top.specs.Pieces.{Piece, empty_piece, following, begun_by, begun_with, lines_of, is_separator, pieces_of_lines, pieces_of, joined, joined_after}

-- ---- lines

-- a line with its line feed
abbrev closed : List ℕ → List ℕ
closed line = line ++ 10 ∷ []

-- a line is the first one of what begins with it
first_line : (line rest : List ℕ) → is_quiet line ≡ true → lines_of (line ++ (10 ∷ rest)) ≡ closed line ∷ lines_of rest
first_line [] rest quiet = refl
first_line (b ∷ bs) rest quiet =
    let (apart, others) = and_parts (not (b == 10)) (is_quiet bs) quiet in
    cond-false (b == 10) ((b ∷ []) ∷ lines_of (bs ++ (10 ∷ rest))) (begun_by b (lines_of (bs ++ (10 ∷ rest)))) (not-true (b == 10) apart)
    ∙ ap (begun_by b) (first_line bs rest others)

turned : (b : ℕ) → (b == 47) ≡ false → (47 == b) ≡ false
turned b h = go (47 == b) refl where
  go : (t : Bool) → (47 == b) ≡ t → t ≡ false
  go false e = refl
  go true e = let same : 47 ≡ b = eqb-true 47 b e in let clash : true ≡ false = ap (λ k. k == 47) same ∙ h in cc

-- no such line is a separator
no_separator : (line : List ℕ) → begins_slash line ≡ false → is_separator (closed line) ≡ false
no_separator [] begins = refl
no_separator (b ∷ bs) begins = rw (turned b begins) refl

-- ---- the bytes of pieces

-- what follows a line has the same bytes
bytes_following : (line : List ℕ) (ps : List Piece) → map (λ (p : Piece). p.bytes) (map (following line) ps) ≡ map (λ (p : Piece). p.bytes) ps
bytes_following line [] = refl
bytes_following line (p ∷ ps) = ap (λ l. p.bytes ∷ l) (bytes_following line ps)

-- texts of which the first begins with bytes more
abbrev begun_text : List ℕ → List (List ℕ) → List (List ℕ)
begun_text bytes [] = []
begun_text bytes (text ∷ texts) = (bytes ++ text) ∷ texts

bytes_begun : (line : List ℕ) (ps : List Piece) → map (λ (p : Piece). p.bytes) (begun_with line ps) ≡ begun_text line (map (λ (p : Piece). p.bytes) ps)
bytes_begun line [] = refl
bytes_begun line (p ∷ ps) = ap (λ l. (line ++ p.bytes) ∷ l) (bytes_following line ps)

-- what lines begin
abbrev texts_of : List (List ℕ) → List (List ℕ)
texts_of lines = map (λ (p : Piece). p.bytes) (pieces_of_lines lines)

plain_line : (line : List ℕ) (lines : List (List ℕ)) → is_separator line ≡ false → texts_of (line ∷ lines) ≡ begun_text line (texts_of lines)
plain_line line lines plain =
    ap (map (λ (p : Piece). p.bytes)) (cond-false (is_separator line) (empty_piece ∷ map (following line) (pieces_of_lines lines)) (begun_with line (pieces_of_lines lines)) plain)
    ∙ bytes_begun line (pieces_of_lines lines)

begun_twice : (xs ys : List ℕ) (texts : List (List ℕ)) → begun_text xs (begun_text ys texts) ≡ begun_text (xs ++ ys) texts
begun_twice xs ys [] = refl
begun_twice xs ys (t ∷ ts) = ap (λ z. z ∷ ts) (sym (append_assoc xs ys t))

begun_nothing : (texts : List (List ℕ)) → texts ≡ begun_text [] texts
begun_nothing [] = refl
begun_nothing (t ∷ ts) = refl

-- lines that are no separators stand before the first text
lines_before : (lines : List (List ℕ)) (rest : List ℕ) → AreLines lines → texts_of (lines_of (ended lines ++ rest)) ≡ begun_text (ended lines) (texts_of (lines_of rest))
lines_before [] rest are = begun_nothing (texts_of (lines_of rest))
lines_before (line ∷ lines) rest are =
    ap (λ z. texts_of (lines_of z)) (append_assoc line (10 ∷ ended lines) rest)
    ∙ ap texts_of (first_line line (ended lines ++ rest) are.0.quiet)
    ∙ plain_line (closed line) (lines_of (ended lines ++ rest)) (no_separator line are.0.begins)
    ∙ ap (begun_text (closed line)) (lines_before lines rest are.1)
    ∙ begun_twice (closed line) (ended lines) (texts_of (lines_of rest))
    ∙ ap (λ z. begun_text z (texts_of (lines_of rest))) (append_assoc line (10 ∷ []) (ended lines))

-- ---- texts

-- each text is whole lines that are no separators
abbrev pub HaveLines : List (List ℕ) → Type 0
HaveLines [] = Unit {0}
HaveLines (text ∷ texts) = HasLines text × HaveLines texts

text_before : (text rest : List ℕ) → HasLines text → texts_of (lines_of (text ++ rest)) ≡ begun_text text (texts_of (lines_of rest))
text_before text rest h =
    ap (λ z. texts_of (lines_of (z ++ rest))) h.is ∙ lines_before h.lines rest h.are ∙ ap (λ z. begun_text z (texts_of (lines_of rest))) (sym h.is)

after_again : (texts : List (List ℕ)) → HaveLines texts → texts_of (lines_of (joined_after texts)) ≡ [] ∷ texts
after_again [] have = refl
after_again (text ∷ texts) have =
    ap (λ l. [] ∷ l)
    (bytes_following (codes "// -----\n") (pieces_of_lines (lines_of (text ++ joined_after texts)))
    ∙ text_before text (joined_after texts) have.0 ∙ ap (begun_text text) (after_again texts have.1) ∙ ap (λ z. z ∷ texts) (append-nil text))

-- texts that are joined are the bytes of the pieces
pub cut_again : (first : List ℕ) (texts : List (List ℕ)) → HaveLines (first ∷ texts) → map (λ (p : Piece). p.bytes) (pieces_of (joined (first ∷ texts))) ≡ first ∷ texts
cut_again first texts have =
    text_before first (joined_after texts) have.0 ∙ ap (begun_text first) (after_again texts have.1) ∙ ap (λ z. z ∷ texts) (append-nil first)

-- there is a piece of each text
pub some_piece : (lines : List (List ℕ)) → (first : Piece) × (others : List Piece) × (pieces_of_lines lines ≡ first ∷ others)
some_piece [] = (empty_piece, [], refl)
some_piece (line ∷ lines) = go (is_separator line) (pieces_of_lines lines) (some_piece lines) where
  go : (b : Bool) (ps : List Piece) → (first : Piece) × (others : List Piece) × (ps ≡ first ∷ others)
      → (first : Piece) × (others : List Piece) × (cond b (empty_piece ∷ map (following line) ps) (begun_with line ps) ≡ first ∷ others)
  go true ps some = (empty_piece, map (following line) ps, refl)
  go false ps some = (record { before = some.0.before; bytes = line ++ some.0.bytes }, map (following line) some.1, ap (begun_with line) some.2)
