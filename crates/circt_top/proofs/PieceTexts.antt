-- The texts of the pieces of a text, one after another.
use Rattle.std.proofs.Common.{◌≡◌, ℕ, zero, suc, ◌+◌, take, drop, get_or, arith, ◌<◌, ◌≤◌, inl, inr, List, [], ◌∷◌, ◌++◌, length, map, Result, Ok, Err, refl, sym, ◌∙◌, ap, subst, append_assoc}
use Rattle.std.proofs.lemmas.List.{append-nil, take_all}
use Rattle.std.specs.Prelude.{codes}
use Rattle.diag.specs.Location.{start_location}
use Rattle.diag.specs.declared.refusal.OpName.TheVariants as op
use Rattle.diag.specs.declared.cause.Cause.TheVariants.{TooLong}
use Rattle.diag.specs.declared.refusal.Refusal.{Refusal}
use Rattle.command_line.specs.Line.Work.{mlir_pieces}
use Rattle.mlir_syntax.specs.Stream.{refusal}
use Rattle.mlir_reader.specs.Reading.{text_limit}
use Rattle.pass_pipeline.specs.declared.pass.Pass.{Pass}
use Rattle.circt_top.specs.Accepting.{first_input}
use Rattle.mlir_printer.specs.Lines.{HasLines}
use Rattle.mlir_printer.proofs.lines.TextLines.{text_has_lines}
use Rattle.circt_top.specs.Pieces.{Piece, lines_of, pieces_of, joined, joined_after}
use Rattle.circt_top.proofs.CutAgain.{HaveLines, cut_again, some_piece}
use Rattle.circt_top.proofs.Read.{names_more}
use Rattle.circt_top.specs.PieceReprint.{AreReprints, ArePrinted, IsPieceRefused, IsFirstRefused}
use Rattle.circt_top.specs.Reprint.{IsReprint}
use Rattle.circt_top.specs.OutcomeParts.{IsFailOfPiece, GivesPieces}
use Rattle.circt_top.specs.Outcome.{GivesText}
use Rattle.circt_top.specs.declared.made.OutcomeFail.{OutcomeFail}
use Rattle.circt_top.specs.declared.made.OutcomeFail.TheVariants.{Refused, NoMemory}

-- ---- one text more

after_more : (texts : List (List ℕ)) (text : List ℕ) → joined_after (texts ++ text ∷ []) ≡ joined_after texts ++ (codes "// -----\n" ++ text)
after_more [] text = ap (λ z. codes "// -----\n" ++ z) (append-nil text)
after_more (first ∷ texts) text =
    ap (λ z. codes "// -----\n" ++ (first ++ z)) (after_more texts text)
    ∙ sym (append_assoc (codes "// -----\n") (first ++ joined_after texts) (codes "// -----\n" ++ text)
    ∙ ap (λ z. codes "// -----\n" ++ z) (append_assoc first (joined_after texts) (codes "// -----\n" ++ text)))

joined_more : (first : List ℕ) (texts : List (List ℕ)) (text : List ℕ) → joined (first ∷ (texts ++ text ∷ [])) ≡ joined (first ∷ texts) ++ (codes "// -----\n" ++ text)
joined_more first texts text = ap (λ z. first ++ z) (after_more texts text) ∙ sym (append_assoc first (joined_after texts) (codes "// -----\n" ++ text))

reprints_more : (passes : List Pass) (ps : List Piece) (texts : List (List ℕ)) (p : Piece) (text : List ℕ) → AreReprints passes ps texts → IsReprint passes p.bytes text
    → AreReprints passes (ps ++ p ∷ []) (texts ++ text ∷ [])
reprints_more passes [] [] p text h one = (one, tt)
reprints_more passes [] (t ∷ texts) p text h one = absurd h
reprints_more passes (q ∷ ps) [] p text h one = absurd h
reprints_more passes (q ∷ ps) (t ∷ texts) p text h one = (h.0, reprints_more passes ps texts p text h.1 one)

-- the first piece printed
pub printed_first : (passes : List Pass) (p : Piece) (text : List ℕ) → IsReprint passes p.bytes text → ArePrinted passes (p ∷ []) text
printed_first passes p text h = record { texts = text ∷ []; each = (h, tt); is_joined = sym (append-nil text) }

-- one piece more printed
pub printed_more : (passes : List Pass) (q : Piece) (ps : List Piece) (text : List ℕ) (p : Piece) (more : List ℕ) → ArePrinted passes (q ∷ ps) text → IsReprint passes p.bytes more
    → ArePrinted passes (q ∷ (ps ++ p ∷ [])) (text ++ (codes "// -----\n" ++ more))
printed_more passes q ps text p more h one = go h.texts h.each h.is_joined where
  go : (texts : List (List ℕ)) → AreReprints passes (q ∷ ps) texts → text ≡ joined texts → ArePrinted passes (q ∷ (ps ++ p ∷ [])) (text ++ (codes "// -----\n" ++ more))
  go [] each is = absurd each
  go (first ∷ texts) each is = record {
    texts = first ∷ (texts ++ more ∷ []);
    each = (each.0, reprints_more passes ps texts p more each.1 one);
    is_joined = ap (λ z. z ++ (codes "// -----\n" ++ more)) is ∙ sym (joined_more first texts more);
  }

-- ---- a refusal

-- after pieces that are printed, a refused one is the first
pub refused_after : (passes : List Pass) (ps : List Piece) (texts : List (List ℕ)) (p : Piece) (rest : List Piece) (r : Refusal) → AreReprints passes ps texts → IsPieceRefused p r
    → IsFirstRefused (ps ++ p ∷ rest) r
refused_after passes [] texts p rest r h is = inl is
refused_after passes (q ∷ ps) [] p rest r h is = absurd h
refused_after passes (q ∷ ps) (t ∷ texts) p rest r h is = inr ((h.0.design, h.0.accepted), refused_after passes ps texts p rest r h.1 is)

pub fail_after : (passes : List Pass) (ps : List Piece) (text : List ℕ) (p : Piece) (rest : List Piece) (fail : OutcomeFail) → ArePrinted passes ps text → IsFailOfPiece p fail
    → GivesPieces passes (ps ++ p ∷ rest) (Err fail)
fail_after passes ps text p rest (Refused r) h is = refused_after passes ps h.texts p rest r h.each is
fail_after passes ps text p rest NoMemory h is = tt

pub fail_first : (passes : List Pass) (p : Piece) (rest : List Piece) (fail : OutcomeFail) → IsFailOfPiece p fail → GivesPieces passes (p ∷ rest) (Err fail)
fail_first passes p rest (Refused r) is = inl is
fail_first passes p rest NoMemory is = tt

-- ---- pieces one by one

same_item : {A : Type 0} (xs : List A) (i : ℕ) (d e : A) → i < length xs → get_or xs i d ≡ get_or xs i e
same_item [] i d e within = absurd (omega (arith, within))
same_item (x ∷ xs) zero d e within = refl
same_item (x ∷ xs) (suc i) d e within = same_item xs i d e (omega (arith, within))

parted : {A B : Type 0} (f : A → B) (xs : List A) (i : ℕ) (d : A) → i < length xs → map f xs ≡ map f (take i xs) ++ f (get_or xs i d) ∷ map f (drop (suc i) xs)
parted f [] i d within = absurd (omega (arith, within))
parted f (x ∷ xs) zero d within = refl
parted f (x ∷ xs) (suc i) d within = ap (λ l. f x ∷ l) (parted f xs i d (omega (arith, within)))

module _ {A : Type 0} (f : A → Piece) (passes : List Pass) (xs : List A) (first : A) (others : List A) (is : xs ≡ first ∷ others) where
  so_far : (i : ℕ) (text : List ℕ) → ArePrinted passes (map f (take (suc i) xs)) text → ArePrinted passes (f first ∷ map f (take i others)) text
  so_far i text h = subst (λ l. ArePrinted passes (map f (take (suc i) l)) text) is h

  -- the first piece is printed
  pub begun : (text : List ℕ) → IsReprint passes (f first).bytes text → ArePrinted passes (map f (take 1 xs)) text
  begun text h = subst (λ l. ArePrinted passes (map f (take 1 l)) text) (sym is) (printed_first passes (f first) text h)

  -- one more is printed
  pub printed_on : (i : ℕ) (d : A) (text more new : List ℕ) → i < length others → ArePrinted passes (map f (take (suc i) xs)) text → IsReprint passes (f (get_or others i d)).bytes more
      → new ≡ text ++ (codes "// -----\n" ++ more) → ArePrinted passes (map f (take (suc (i + 1)) xs)) new
  printed_on i d text more new within h one e =
      let longer : map f (take (suc (i + 1)) xs) ≡ f first ∷ (map f (take i others) ++ f (get_or others i d) ∷ []) =
      ap (λ l. map f (take (suc (i + 1)) l)) is ∙ ap (λ l. f first ∷ l) (names_more f others i (get_or others i d) within (same_item others i d (get_or others i d) within)) in
      subst (λ ps. ArePrinted passes ps new) (sym longer)
      (subst (λ t. ArePrinted passes (f first ∷ (map f (take i others) ++ f (get_or others i d) ∷ [])) t) (sym e)
      (printed_more passes (f first) (map f (take i others)) text (f (get_or others i d)) more (so_far i text h) one))

  -- one is refused after those that are printed
  pub refused_on : (i : ℕ) (d : A) (text : List ℕ) (fail : OutcomeFail) → i < length others → ArePrinted passes (map f (take (suc i) xs)) text → IsFailOfPiece (f (get_or others i d)) fail
      → GivesPieces passes (map f xs) (Err fail)
  refused_on i d text fail within h failed =
      let all : map f xs ≡ (f first ∷ map f (take i others)) ++ f (get_or others i d) ∷ map f (drop (suc i) others) = ap (map f) is ∙ ap (λ l. f first ∷ l) (parted f others i d within) in
      subst (λ ps. GivesPieces passes ps (Err fail)) (sym all)
      (fail_after passes (f first ∷ map f (take i others)) text (f (get_or others i d)) (map f (drop (suc i) others)) fail (so_far i text h) failed)

  -- all are printed
  pub all_printed : (i : ℕ) (text : List ℕ) → length others ≤ i → ArePrinted passes (map f (take (suc i) xs)) text → ArePrinted passes (map f xs) text
  all_printed i text past h =
      let e : length xs ≡ length (first ∷ others) = ap length is in
      subst (λ l. ArePrinted passes (map f l) text) (take_all (suc i) xs (omega (arith, e, past))) h

-- ---- cut again

-- printed texts are whole lines that are no separators
have_lines : (passes : List Pass) (ps : List Piece) (texts : List (List ℕ)) → AreReprints passes ps texts → HaveLines texts
have_lines passes [] [] h = tt
have_lines passes [] (text ∷ texts) h = absurd h
have_lines passes (p ∷ ps) [] h = tt
have_lines passes (p ∷ ps) (text ∷ texts) h = (subst HasLines (sym h.0.reprinted.laid_out) (text_has_lines h.0.reprinted.made), have_lines passes ps texts h.1)

printed_again : (passes : List Pass) (ps : List Piece) (text : List ℕ) → (first : Piece) × (others : List Piece) × (ps ≡ first ∷ others) → (h : ArePrinted passes ps text)
    → map (λ (p : Piece). p.bytes) (pieces_of text) ≡ h.texts
printed_again passes ps text some h = go h.texts h.each h.is_joined where
  go : (texts : List (List ℕ)) → AreReprints passes ps texts → text ≡ joined texts → map (λ (p : Piece). p.bytes) (pieces_of text) ≡ texts
  go [] each is = absurd (subst (λ qs. AreReprints passes qs []) some.2 each)
  go (t ∷ ts) each is = ap (λ z. map (λ (p : Piece). p.bytes) (pieces_of z)) is ∙ cut_again t ts (have_lines passes ps (t ∷ ts) each)

-- ---- the whole text

pub long_gives : (passes : List Pass) (contents : List (List ℕ)) (r : Refusal) → text_limit < length (first_input contents) → r ≡ refusal start_location op.File TooLong
    → GivesText (mlir_pieces passes) contents (Err (Refused r))
long_gives passes contents r long is = inl (long, is)

pub pieces_give : (passes : List Pass) (contents : List (List ℕ)) (r : Result (List ℕ) OutcomeFail) → length (first_input contents) ≤ text_limit → GivesPieces passes (pieces_of (first_input contents)) r
    → GivesText (mlir_pieces passes) contents r
pieces_give passes contents (Ok text) short h =
    record { short = short; printed = h; cut_again = printed_again passes (pieces_of (first_input contents)) text (some_piece (lines_of (first_input contents))) h }
pieces_give passes contents (Err (Refused r)) short h = inr (short, h)
pieces_give passes contents (Err NoMemory) short h = tt
