-- The same bits as leaves of another type: extracts of the leaves that each overlaps, joined.
use Rattle.std.proofs.Common.{◌≡◌, ℕ, zero, suc, ◌+◌, ◌-◌, ◌<◌, ◌≤◌, min, Bool, true, false, cond, List, [], ◌∷◌, ◌++◌, length, map, take, drop, slice_get, Option, Some, refl, sym, ap, ap₂, subst}
use Rattle.std.proofs.Common.{◌∙◌, inl, inr, arith, zero-add, add-zero, append-nil, length-append, take-append-drop, length-drop, option_and_then}
use Rattle.wiring.specs.Lists.{total}
use Rattle.wiring.specs.Wiring.{In}
use Rattle.wiring.proofs.Lists.{slice_get-append_left, slice_get-append_right, drop_some}
use Rattle.wiring.proofs.Members.{position_of_In}
use Rattle.bits_core.specs.Word.{Word, first, extract as bits_from}
use Rattle.bits_core.proofs.First.{first_all, first-take}
use Rattle.hw_model.specs.Types.{HwType, width, leaves}
use Rattle.hw_model.specs.Types.HwType.{int}
use Rattle.hw_model.specs.Kinds.Kind.{extract, concat, bitcast}
use Rattle.hw_model.specs.Value.{concat_words, op_value}
use Rattle.hw_model.specs.Design.{Ref, Op, result_type}
use Rattle.hw_model.specs.Design.Ref.{result}
use Rattle.hw_model.specs.Sound.{HasWidth, OpFits}
use Rattle.edit_laws.specs.Edit.{is_anchor, result_word}
use Rattle.aggregate_laws.specs.Leaves.{in_row, part, or_undefined, result_types, result_start}
use Rattle.aggregate_laws.specs.Lowered.{whole}
use Rattle.aggregate_laws.specs.Rules.{Splits, SplitsShape, StandsBefore, leaf_ref}
use Rattle.aggregate_laws.specs.OperationRules.{made_op, all_leaves, argument}
use Rattle.aggregate_laws.specs.Bitcasts.{Piece, with_piece, pieces, piece_type, extracts, joined_pieces, joined_end, leaf_pieces, piece_count, piece_end, bitcast_rule}
use Rattle.aggregate_laws.proofs.Lists.{map-in_row, from_In-in_row}
use Rattle.aggregate_laws.proofs.Words.{widths, widths-append, leaves_width, joined_rule}
use Rattle.aggregate_laws.proofs.Bare.{type_listed}
use Rattle.aggregate_laws.proofs.Registers.{single, joined_width}
use Rattle.aggregate_laws.proofs.Bodies.{plain_not_one, plain_no_register}
use Rattle.aggregate_laws.proofs.Leafwise.{made_fits, leaf_among}
use Rattle.aggregate_laws.proofs.Joins.{plain_kind}
use Rattle.aggregate_laws.proofs.Muxes.{part_there, one_rule, all_of_one}
use Rattle.aggregate_laws.proofs.Gets.{EachOp, each_at, each_append, each_from, each_left, each_right, HoldsFrom, PlainOp, OwnType, GoodOp}

-- ---- sizes

extracts_length : (o : Op) (rs : List Ref) (ps : List Piece) → length (extracts o rs ps) ≡ length ps
extracts_length o rs [] = refl
extracts_length o rs (p ∷ ps) = ap suc (extracts_length o rs ps)

many_length : (o : Op) (rs : List Ref) (ps : List Piece) (x : Op) → length (extracts o rs ps ++ (x ∷ [])) ≡ suc (length ps)
many_length o rs ps x =
    let own : length (extracts o rs ps) ≡ length ps = extracts_length o rs ps in
    omega (arith, length-append (extracts o rs ps) (x ∷ []))

joined_length : (o : Op) (rs : List Ref) (t : HwType) (start : ℕ) (ps : List Piece) → length (joined_pieces o rs t start ps) ≡ suc (joined_end ps)
joined_length o rs t start [] = refl
joined_length o rs t start (p ∷ []) = refl
joined_length o rs t start (p ∷ q ∷ ps) = many_length o rs (p ∷ q ∷ ps) _

leaf_pieces_length : (o : Op) (rs : List Ref) (us : List HwType) (skip start : ℕ) (ts : List HwType) → length (leaf_pieces o rs us skip start ts) ≡ piece_count us skip ts
leaf_pieces_length o rs us skip start [] = refl
leaf_pieces_length o rs us skip start (t ∷ ts) =
    length-append (joined_pieces o rs t start (pieces 0 us skip (width t))) (leaf_pieces o rs us (skip + width t) (start + suc (joined_end (pieces 0 us skip (width t)))) ts)
    ∙ ap₂ (λ a b. a + b) (joined_length o rs t start (pieces 0 us skip (width t))) (leaf_pieces_length o rs us (skip + width t) (start + suc (joined_end (pieces 0 us skip (width t)))) ts)

-- ---- the shape

extracts_plain : (o : Op) (rs : List Ref) (m : ℕ) (ps : List Piece) → EachOp PlainOp m (extracts o rs ps)
unfolding PlainOp
extracts_plain o rs m [] = tt
extracts_plain o rs m (p ∷ ps) = (refl, extracts_plain o rs (suc m) ps)

joined_plain : (o : Op) (rs : List Ref) (t : HwType) (start m : ℕ) (ps : List Piece) → EachOp PlainOp m (joined_pieces o rs t start ps)
unfolding PlainOp
joined_plain o rs t start m [] = (refl, tt)
joined_plain o rs t start m (p ∷ []) = (refl, tt)
joined_plain o rs t start m (p ∷ q ∷ ps) =
    each_append PlainOp m (extracts o rs (p ∷ q ∷ ps)) (made_op o concat (in_row (λ i. result i 0) start (length (p ∷ q ∷ ps))) (map piece_type (p ∷ q ∷ ps)) [] t ∷ [])
    (extracts_plain o rs m (p ∷ q ∷ ps)) (refl, tt)

leaf_pieces_plain : (o : Op) (rs : List Ref) (us : List HwType) (skip start m : ℕ) (ts : List HwType) → EachOp PlainOp m (leaf_pieces o rs us skip start ts)
leaf_pieces_plain o rs us skip start m [] = tt
leaf_pieces_plain o rs us skip start m (t ∷ ts) =
    each_append PlainOp m (joined_pieces o rs t start (pieces 0 us skip (width t))) (leaf_pieces o rs us (skip + width t) (start + suc (joined_end (pieces 0 us skip (width t)))) ts)
    (joined_plain o rs t start m (pieces 0 us skip (width t)))
    (leaf_pieces_plain o rs us (skip + width t) (start + suc (joined_end (pieces 0 us skip (width t)))) (m + length (joined_pieces o rs t start (pieces 0 us skip (width t)))) ts)

-- the last operation of a leaf has its type
many_last : (o : Op) (rs : List Ref) (ps : List Piece) (x : Op) → slice_get (extracts o rs ps ++ (x ∷ [])) (length ps) ≡ Some x
many_last o rs ps x =
    ap (slice_get (extracts o rs ps ++ (x ∷ []))) (sym (add-zero (length (extracts o rs ps)) ∙ extracts_length o rs ps)) ∙ slice_get-append_right (extracts o rs ps) (x ∷ []) 0

joined_last : (o : Op) (rs : List Ref) (t : HwType) (start : ℕ) (ps : List Piece) → option_and_then (λ (x : Op). result_type x 0) (slice_get (joined_pieces o rs t start ps) (joined_end ps)) ≡ Some t
joined_last o rs t start [] = refl
joined_last o rs t start (p ∷ []) = refl
joined_last o rs t start (p ∷ q ∷ ps) = ap (λ y. option_and_then (λ (x : Op). result_type x 0) y) (many_last o rs (p ∷ q ∷ ps) _)

leaf_last : (o : Op) (rs : List Ref) (us : List HwType) (skip start : ℕ) (ts : List HwType) (i : ℕ) (u : HwType) → slice_get ts i ≡ Some u
    → option_and_then (λ (x : Op). result_type x 0) (slice_get (leaf_pieces o rs us skip start ts) (piece_end us skip ts i)) ≡ Some u
leaf_last o rs us skip start [] i u is = cc
leaf_last o rs us skip start (t ∷ ts) zero u is =
    let same : t ≡ u = cc in
    let there : joined_end (pieces 0 us skip (width t)) < length (joined_pieces o rs t start (pieces 0 us skip (width t))) = omega (arith, joined_length o rs t start (pieces 0 us skip (width t))) in
    ap (λ y. option_and_then (λ (x : Op). result_type x 0) y)
    (slice_get-append_left (joined_pieces o rs t start (pieces 0 us skip (width t))) (leaf_pieces o rs us (skip + width t) (start + suc (joined_end (pieces 0 us skip (width t)))) ts) (joined_end (pieces 0 us skip (width t))) there)
    ∙ joined_last o rs t start (pieces 0 us skip (width t)) ∙ ap Some same
leaf_last o rs us skip start (t ∷ ts) (suc i) u is =
    ap (λ m. option_and_then (λ (x : Op). result_type x 0) (slice_get (leaf_pieces o rs us skip start (t ∷ ts)) (m + piece_end us (skip + width t) ts i))) (sym (joined_length o rs t start (pieces 0 us skip (width t))))
    ∙ ap (λ y. option_and_then (λ (x : Op). result_type x 0) y)
    (slice_get-append_right (joined_pieces o rs t start (pieces 0 us skip (width t))) (leaf_pieces o rs us (skip + width t) (start + suc (joined_end (pieces 0 us skip (width t)))) ts) (piece_end us (skip + width t) ts i))
    ∙ leaf_last o rs us (skip + width t) (start + suc (joined_end (pieces 0 us skip (width t)))) ts i u is

-- ---- what the pieces are

-- what holds of each of the pieces
abbrev EachPiece : (Piece → Type 0) → List Piece → Type 0
EachPiece P [] = Unit {0}
EachPiece P (p ∷ ps) = P p × EachPiece P ps

-- a piece is of a value of its type, and within it
record IsPiece (us : List HwType) (i : ℕ) (p : Piece) : Type 0 where
  number : ℕ
  value_is : p.value ≡ i + number
  there : slice_get us number ≡ Some p.type
  within : p.low + p.size ≤ width p.type

later_piece : (u : HwType) (us : List HwType) (i : ℕ) (ps : List Piece) → EachPiece (IsPiece us (suc i)) ps → EachPiece (IsPiece (u ∷ us) i) ps
later_piece u us i [] all = tt
later_piece u us i (p ∷ ps) (first, rest) = (
  record { number = suc first.number; value_is = first.value_is ∙ (let e : suc i + first.number ≡ i + suc first.number = omega arith in e); there = first.there; within = first.within },
  later_piece u us i ps rest,
)

pieces_are : (i : ℕ) (us : List HwType) (skip size : ℕ) → EachPiece (IsPiece us i) (pieces i us skip size)
pieces_are i [] skip size = tt
pieces_are i (u ∷ us) skip size =
    go (min (width u - skip) size) (omega arith) (pieces (suc i) us (skip - width u) (size - min (width u - skip) size)) (pieces_are (suc i) us (skip - width u) (size - min (width u - skip) size))
  where
    go : (taken : ℕ) → taken ≤ width u - skip → (ps : List Piece) → EachPiece (IsPiece us (suc i)) ps → EachPiece (IsPiece (u ∷ us) i) (with_piece i u skip taken ps)
    go zero few ps rest = later_piece u us i ps rest
    go (suc k) few ps rest = (record { number = 0; value_is = sym (add-zero i); there = refl; within = omega arith }, later_piece u us i ps rest)

-- how many bits pieces have together
abbrev sizes : List Piece → ℕ
sizes [] = 0
sizes (p ∷ ps) = p.size + sizes ps

with_sizes : (i : ℕ) (u : HwType) (skip taken : ℕ) (ps : List Piece) → sizes (with_piece i u skip taken ps) ≡ taken + sizes ps
with_sizes i u skip zero ps = sym (zero-add (sizes ps))
with_sizes i u skip (suc k) ps = refl

pieces_sizes : (i : ℕ) (us : List HwType) (skip size : ℕ) → skip + size ≤ widths us → sizes (pieces i us skip size) ≡ size
pieces_sizes i [] skip size within = omega arith
pieces_sizes i (u ∷ us) skip size within =
    let rest : sizes (pieces (suc i) us (skip - width u) (size - min (width u - skip) size)) ≡ size - min (width u - skip) size =
    pieces_sizes (suc i) us (skip - width u) (size - min (width u - skip) size) (omega arith) in
    with_sizes i u skip (min (width u - skip) size) (pieces (suc i) us (skip - width u) (size - min (width u - skip) size))
    ∙ ap (λ n. min (width u - skip) size + n) rest ∙ (let e : min (width u - skip) size + (size - min (width u - skip) size) ≡ size = omega arith in e)

sizes_total : (ps : List Piece) → sizes ps ≡ total (map width (map piece_type ps))
sizes_total [] = refl
sizes_total (p ∷ ps) = ap (λ n. p.size + n) (sizes_total ps)

-- ---- the words of the pieces

-- bits of two joined words
bits_cut : (x y : Word) (skip size : ℕ)
    → take (min (length x - skip) size) (drop skip x) ++ take (size - min (length x - skip) size) (drop (skip - length x) y) ≡ take size (drop skip (x ++ y))
bits_cut [] y skip size =
    ap₂ (λ a b. take a (drop skip []) ++ take (size - a) (drop b y)) (let e : min (0 - skip) size ≡ 0 = omega arith in e) (let e : skip - 0 ≡ skip = omega arith in e)
    ∙ ap (λ n. take n (drop skip y)) (let e : size - 0 ≡ size = omega arith in e)
bits_cut (b ∷ x) y (suc k) size =
    ap₂ (λ m n. take (min m size) (drop k x) ++ take (size - min m size) (drop n y)) (let e : suc (length x) - suc k ≡ length x - k = omega arith in e) (let e : suc k - suc (length x) ≡ k - length x = omega arith in e)
    ∙ bits_cut x y k size
bits_cut (b ∷ x) y zero zero =
    ap₂ (λ m n. take m (b ∷ x) ++ take n (drop (0 - suc (length x)) y)) (let e : min (suc (length x) - 0) 0 ≡ 0 = omega arith in e) (let e : 0 - min (suc (length x) - 0) 0 ≡ 0 = omega arith in e)
bits_cut (b ∷ x) y zero (suc s) =
    ap₂ (λ m n. take m (b ∷ x) ++ take n (drop (0 - suc (length x)) y)) (let e : min (suc (length x) - 0) (suc s) ≡ suc (min (length x - 0) s) = omega arith in e)
    (let e : suc s - min (suc (length x) - 0) (suc s) ≡ s - min (length x - 0) s = omega arith in e)
    ∙ ap (λ n. b ∷ (take (min (length x - 0) s) x ++ take (s - min (length x - 0) s) (drop n y))) (let e : 0 - suc (length x) ≡ 0 - length x = omega arith in e)
    ∙ ap (λ z. b ∷ z) (bits_cut x y 0 s)

module _ (type_of : Ref → Option HwType) (τ : Ref → Word) (wide : (r : Ref) → HasWidth (type_of r) (τ r)) (rs : List Ref) where
  abbrev piece_word : Piece → Word
  piece_word p = bits_from p.low p.size (τ (part rs p.value))

  with_word : (i : ℕ) (u : HwType) (skip taken : ℕ) (ps : List Piece) → length (τ (part rs i)) ≡ width u → taken ≤ width u - skip
      → concat_words (map piece_word (with_piece i u skip taken ps)) ≡ take taken (drop skip (τ (part rs i))) ++ concat_words (map piece_word ps)
  with_word i u skip zero ps size few = refl
  with_word i u skip (suc k) ps size few =
      ap (λ n. take (suc k) (drop n (τ (part rs i))) ++ concat_words (map piece_word ps))
      (let e : length (τ (part rs i)) - (width u - skip - suc k + suc k) ≡ skip = omega arith in e)

  -- `xs` are the values from the i-th on
  pieces_words : (i : ℕ) (xs : List Ref) (us : List HwType) (skip size : ℕ) → map type_of xs ≡ map (λ (u : HwType). Some u) us
      → ((k : ℕ) (r : Ref) → slice_get xs k ≡ Some r → part rs (i + k) ≡ r)
      → concat_words (map piece_word (pieces i us skip size)) ≡ take size (drop skip (concat_words (map τ xs)))
  pieces_words i [] [] skip size typed there = sym (ap (take size) (drop_none skip) ∙ take_none size)
    where
      drop_none : (n : ℕ) → drop {A = Bool} n [] ≡ []
      drop_none zero = refl
      drop_none (suc n) = refl

      take_none : (n : ℕ) → take {A = Bool} n [] ≡ []
      take_none zero = refl
      take_none (suc n) = refl
  pieces_words i [] (u ∷ us) skip size typed there = cc
  pieces_words i (x ∷ xs) [] skip size typed there = cc
  pieces_words i (x ∷ xs) (u ∷ us) skip size typed there =
      let here : part rs i ≡ x = ap (part rs) (sym (add-zero i)) ∙ there 0 x refl in
      let type_x : type_of x ≡ Some u = cc in
      let wide_x : length (τ x) ≡ width u = subst (λ y. HasWidth y (τ x)) type_x (wide x) in
      with_word i u skip (min (width u - skip) size) (pieces (suc i) us (skip - width u) (size - min (width u - skip) size)) (ap (λ r. length (τ r)) here ∙ wide_x) (omega arith)
      ∙ ap₂ (λ y z. y ++ z) (ap (λ r. take (min (width u - skip) size) (drop skip (τ r))) here)
      (pieces_words (suc i) xs us (skip - width u) (size - min (width u - skip) size) (cc)
      (λ k r is. ap (part rs) (let e : suc i + k ≡ i + suc k = omega arith in e) ∙ there (suc k) r is))
      ∙ ap (λ n. take (min (n - skip) size) (drop skip (τ x)) ++ take (size - min (n - skip) size) (drop (skip - n) (concat_words (map τ xs)))) (sym wide_x)
      ∙ bits_cut (τ x) (concat_words (map τ xs)) skip size

  -- ---- the words of a leaf's operations

  extracts_hold : (o : Op) (start : ℕ) (ps : List Piece) → HoldsFrom τ start (extracts o rs ps) → in_row (λ i. τ (result i 0)) start (length ps) ≡ map piece_word ps
  extracts_hold o start [] holds = refl
  extracts_hold o start (p ∷ ps) (first, rest) = ap₂ (λ x xs. x ∷ xs) (first (int p.size) refl) (extracts_hold o (suc start) ps rest)

  many_hold : (o : Op) (t : HwType) (start : ℕ) (ps : List Piece)
      → HoldsFrom τ start (extracts o rs ps ++ (made_op o concat (in_row (λ i. result i 0) start (length ps)) (map piece_type ps) [] t ∷ []))
      → τ (result (start + length ps) 0) ≡ concat_words (map piece_word ps)
  many_hold o t start ps holds =
      let left = each_left (λ m x. (v : HwType) → result_type x 0 ≡ Some v → τ (result m 0) ≡ result_word τ x 0 (Some v)) start (extracts o rs ps)
      (made_op o concat (in_row (λ i. result i 0) start (length ps)) (map piece_type ps) [] t ∷ []) holds in
      let right = each_right (λ m x. (v : HwType) → result_type x 0 ≡ Some v → τ (result m 0) ≡ result_word τ x 0 (Some v)) start (extracts o rs ps)
      (made_op o concat (in_row (λ i. result i 0) start (length ps)) (map piece_type ps) [] t ∷ []) holds in
      ap (λ n. τ (result (start + n) 0)) (sym (extracts_length o rs ps)) ∙ right.0 t refl
      ∙ ap concat_words (map-in_row τ (λ i. result i 0) start (length ps) ∙ extracts_hold o start ps left)

  joined_hold : (o : Op) (t : HwType) (start : ℕ) (ps : List Piece) → sizes ps ≡ width t → HoldsFrom τ start (joined_pieces o rs t start ps)
      → τ (result (start + joined_end ps) 0) ≡ concat_words (map piece_word ps)
  joined_hold o t start [] size holds = many_hold o t start [] holds
  joined_hold o t start (p ∷ []) size (first, rest) =
      ap (λ n. τ (result n 0)) (add-zero start) ∙ first t refl
      ∙ ap (λ n. bits_from p.low n (τ (part rs p.value))) (sym size ∙ add-zero p.size) ∙ sym (append-nil (piece_word p))
  joined_hold o t start (p ∷ q ∷ ps) size holds = many_hold o t start (p ∷ q ∷ ps) holds

  leaf_hold : (o : Op) (us : List HwType) (skip start : ℕ) (ts : List HwType) → skip + widths ts ≤ widths us → map type_of rs ≡ map (λ (u : HwType). Some u) us
      → HoldsFrom τ start (leaf_pieces o rs us skip start ts) → (i : ℕ) (t : HwType) → slice_get ts i ≡ Some t
      → τ (result (start + piece_end us skip ts i) 0) ≡ take (width t) (drop (skip + widths (take i ts)) (concat_words (map τ rs)))
  leaf_hold o us skip start [] within typed holds i t is = cc
  leaf_hold o us skip start (t ∷ ts) within typed holds zero u is =
      let same : t ≡ u = cc in
      joined_hold o t start (pieces 0 us skip (width t)) (pieces_sizes 0 us skip (width t) (omega arith))
      (each_left (λ m x. (v : HwType) → result_type x 0 ≡ Some v → τ (result m 0) ≡ result_word τ x 0 (Some v)) start (joined_pieces o rs t start (pieces 0 us skip (width t)))
      (leaf_pieces o rs us (skip + width t) (start + suc (joined_end (pieces 0 us skip (width t)))) ts) holds)
      ∙ pieces_words 0 rs us skip (width t) typed (λ k r at_k. ap (part rs) (zero-add k) ∙ ap or_undefined at_k)
      ∙ ap₂ (λ a b. take (width a) (drop b (concat_words (map τ rs)))) same (sym (add-zero skip))
  leaf_hold o us skip start (t ∷ ts) within typed holds (suc i) u is =
      ap (λ n. τ (result n 0)) (let e : start + (suc (joined_end (pieces 0 us skip (width t))) + piece_end us (skip + width t) ts i)
      ≡ start + suc (joined_end (pieces 0 us skip (width t))) + piece_end us (skip + width t) ts i = omega arith in e)
      ∙ leaf_hold o us (skip + width t) (start + suc (joined_end (pieces 0 us skip (width t)))) ts (omega arith) typed
      (subst (λ m. HoldsFrom τ m (leaf_pieces o rs us (skip + width t) (start + suc (joined_end (pieces 0 us skip (width t)))) ts)) (ap (λ n. start + n) (joined_length o rs t start (pieces 0 us skip (width t))))
      (each_right (λ m x. (v : HwType) → result_type x 0 ≡ Some v → τ (result m 0) ≡ result_word τ x 0 (Some v)) start (joined_pieces o rs t start (pieces 0 us skip (width t)))
      (leaf_pieces o rs us (skip + width t) (start + suc (joined_end (pieces 0 us skip (width t)))) ts) holds)) i u is
      ∙ ap (λ n. take (width u) (drop n (concat_words (map τ rs)))) (let e : skip + width t + widths (take i ts) ≡ skip + (width t + widths (take i ts)) = omega arith in e)

-- ---- types and operands

module _ (new_type : Ref → Option HwType) (stand : Ref → List Ref) (start : ℕ) (operands : List Ref) (y : Ref) (among : In y operands) (us : List HwType)
    (typed : map new_type (stand y) ≡ map (λ (u : HwType). Some u) us) where
  piece_there : (p : Piece) → IsPiece us 0 p → (In (part (stand y) p.value) (stand y)) × (new_type (part (stand y) p.value) ≡ Some p.type)
  piece_there p is =
      let number_is : p.value ≡ is.number = is.value_is ∙ zero-add is.number in
      subst (λ n. (In (part (stand y) n) (stand y)) × (new_type (part (stand y) n) ≡ Some p.type)) (sym number_is) (part_there new_type (stand y) us is.number p.type typed is.there)

  only_part : (p : Piece) → IsPiece us 0 p → (m : ℕ) (r : Ref) → In r (part (stand y) p.value ∷ []) → StandsBefore stand start operands m r
  only_part p is m r (inl same) = inl (y, among, subst (λ x. In x (stand y)) (sym same) (piece_there p is).0)
  only_part p is m r (inr never) = absurd never

  extract_fits : (o : Op) (p : Piece) (t : HwType) → IsPiece us 0 p → width t ≡ p.size → OpFits new_type (made_op o (extract p.low) (part (stand y) p.value ∷ []) (p.type ∷ t ∷ []) [] t)
  extract_fits o p t is size =
      made_fits new_type o (extract p.low) (part (stand y) p.value ∷ []) (p.type ∷ t ∷ []) [] t
      (p.type, ap (λ x. x ∷ []) (piece_there p is).1, subst (λ n. p.low + n ≤ width p.type) (sym size) is.within)

  extracts_good : (o : Op) (m : ℕ) (ps : List Piece) → EachPiece (IsPiece us 0) ps → EachOp (GoodOp new_type stand start operands) m (extracts o (stand y) ps)
  unfolding GoodOp
  extracts_good o m [] all = tt
  extracts_good o m (p ∷ ps) (first, rest) =
      ((extract_fits o p (int p.size) first refl, λ r here. only_part p first m r here), extracts_good o (suc m) ps rest)

  extracts_typed : (o : Op) (m begin : ℕ) (ps : List Piece) → begin ≡ start + m → EachOp (OwnType new_type stand start operands) m (extracts o (stand y) ps)
      → map new_type (in_row (λ i. result i 0) begin (length ps)) ≡ map (λ (u : HwType). Some u) (map piece_type ps)
  unfolding OwnType
  extracts_typed o m begin [] position own = refl
  extracts_typed o m begin (p ∷ ps) position (first, rest) =
      ap₂ (λ x xs. x ∷ xs) (ap (λ n. new_type (result n 0)) position ∙ first) (extracts_typed o (suc m) (suc begin) ps (let e : suc begin ≡ start + suc m = omega arith in e) rest)

  many_good : (o : Op) (t : HwType) (m begin : ℕ) (ps : List Piece) → begin ≡ start + m → sizes ps ≡ width t → EachPiece (IsPiece us 0) ps
      → EachOp (OwnType new_type stand start operands) m (extracts o (stand y) ps ++ (made_op o concat (in_row (λ i. result i 0) begin (length ps)) (map piece_type ps) [] t ∷ []))
      → EachOp (GoodOp new_type stand start operands) m (extracts o (stand y) ps ++ (made_op o concat (in_row (λ i. result i 0) begin (length ps)) (map piece_type ps) [] t ∷ []))
  unfolding GoodOp
  many_good o t m begin ps position size all own =
      each_append (GoodOp new_type stand start operands) m (extracts o (stand y) ps) (made_op o concat (in_row (λ i. result i 0) begin (length ps)) (map piece_type ps) [] t ∷ [])
      (extracts_good o m ps all) (
        (
          made_fits new_type o concat (in_row (λ i. result i 0) begin (length ps)) (map piece_type ps) [] t (
            map piece_type ps,
            extracts_typed o m begin ps position
                (each_left (OwnType new_type stand start operands) m (extracts o (stand y) ps) (made_op o concat (in_row (λ i. result i 0) begin (length ps)) (map piece_type ps) [] t ∷ []) own),
            sym size ∙ sizes_total ps,
          ),
          member,
        ),
        tt,
      )
    where
      member : (r : Ref) → In r (in_row (λ i. result i 0) begin (length ps)) → StandsBefore stand start operands (m + length (extracts o (stand y) ps)) r
      member r here =
          let found = from_In-in_row (λ i. result i 0) begin (length ps) r here in
          let below : found.0 < length ps = found.1 in
          inr (m + found.0, omega (arith, extracts_length o (stand y) ps), found.2 ∙ ap (λ n. result n 0) (let e : begin + found.0 ≡ start + (m + found.0) = omega arith in e))

  joined_good : (o : Op) (t : HwType) (m begin : ℕ) (ps : List Piece) → begin ≡ start + m → sizes ps ≡ width t → EachPiece (IsPiece us 0) ps
      → EachOp (OwnType new_type stand start operands) m (joined_pieces o (stand y) t begin ps) → EachOp (GoodOp new_type stand start operands) m (joined_pieces o (stand y) t begin ps)
  unfolding GoodOp many_good
  joined_good o t m begin [] position size all own = many_good o t m begin [] position size all own
  joined_good o t m begin (p ∷ []) position size (first, rest) own =
      ((extract_fits o p t first (sym size ∙ add-zero p.size), λ r here. only_part p first m r here), tt)
  joined_good o t m begin (p ∷ q ∷ ps) position size all own = many_good o t m begin (p ∷ q ∷ ps) position size all own

  leaf_good : (o : Op) (skip m begin : ℕ) (ts : List HwType) → skip + widths ts ≤ widths us → begin ≡ start + m
      → EachOp (OwnType new_type stand start operands) m (leaf_pieces o (stand y) us skip begin ts) → EachOp (GoodOp new_type stand start operands) m (leaf_pieces o (stand y) us skip begin ts)
  leaf_good o skip m begin [] within position own = tt
  leaf_good o skip m begin (t ∷ ts) within position own =
      each_append (GoodOp new_type stand start operands) m (joined_pieces o (stand y) t begin (pieces 0 us skip (width t)))
      (leaf_pieces o (stand y) us (skip + width t) (begin + suc (joined_end (pieces 0 us skip (width t)))) ts)
      (joined_good o t m begin (pieces 0 us skip (width t)) position (pieces_sizes 0 us skip (width t) (omega arith)) (pieces_are 0 us skip (width t))
      (each_left (OwnType new_type stand start operands) m (joined_pieces o (stand y) t begin (pieces 0 us skip (width t)))
      (leaf_pieces o (stand y) us (skip + width t) (begin + suc (joined_end (pieces 0 us skip (width t)))) ts) own))
      (leaf_good o (skip + width t) (m + length (joined_pieces o (stand y) t begin (pieces 0 us skip (width t)))) (begin + suc (joined_end (pieces 0 us skip (width t)))) ts (omega arith)
      (let e : begin + suc (joined_end (pieces 0 us skip (width t))) ≡ start + (m + length (joined_pieces o (stand y) t begin (pieces 0 us skip (width t)))) = omega
      (arith, joined_length o (stand y) t begin (pieces 0 us skip (width t))) in e)
      (each_right (OwnType new_type stand start operands) m (joined_pieces o (stand y) t begin (pieces 0 us skip (width t)))
      (leaf_pieces o (stand y) us (skip + width t) (begin + suc (joined_end (pieces 0 us skip (width t)))) ts) own))

-- ---- the operation

module _ (o : Op) (old_type : Ref → Option HwType) (stand : Ref → List Ref) (u t : HwType) (is : o.kind ≡ bitcast) (one : result_types o ≡ t ∷ []) (given : map old_type o.operands ≡ Some u ∷ [])
    (same_width : width u ≡ width t) where
  cast_plain : is_anchor o ≡ false
  cast_plain = plain_kind o bitcast is refl

  operand : (r : Ref) × (o.operands ≡ r ∷ [])
  operand = single old_type o.operands (Some u) given

  operand_type : old_type operand.0 ≡ Some u
  operand_type = let e : old_type operand.0 ∷ [] ≡ Some u ∷ [] = ap (map old_type) (sym operand.1) ∙ given in cc

  arguments : argument 0 (map stand o.operands) ≡ stand operand.0
  arguments = ap (λ rs. argument 0 (map stand rs)) operand.1

  all_within : 0 + widths (all_leaves o) ≤ widths (leaves u)
  all_within =
      let all : widths (all_leaves o) ≡ width t = ap widths (all_of_one o t one) ∙ leaves_width t in
      let old : widths (leaves u) ≡ width u = leaves_width u in
      omega arith

  cast_shape : SplitsShape (bitcast_rule o u) stand o
  unfolding PlainOp
  cast_shape = record {
    size = λ start. leaf_pieces_length o (argument 0 (map stand o.operands)) (leaves u) 0 start (all_leaves o);
    anchor = λ anchored start. let clash : true ≡ false = sym anchored ∙ cast_plain in cc;
    plain = λ plain start x here.
        let position = position_of_In x (leaf_pieces o (argument 0 (map stand o.operands)) (leaves u) 0 start (all_leaves o)) here in
        each_at PlainOp 0 (leaf_pieces o (argument 0 (map stand o.operands)) (leaves u) 0 start (all_leaves o))
        (leaf_pieces_plain o (argument 0 (map stand o.operands)) (leaves u) 0 start 0 (all_leaves o)) position.0 x position.1;
    register_has_one = λ register k. let clash : true ≡ false = sym register ∙ plain_no_register o cast_plain in cc;
    register_position = λ register i. let clash : true ≡ false = sym register ∙ plain_no_register o cast_plain in cc;
    leaf_type = λ plain start k i v w typed at_w.
        leaf_last o (argument 0 (map stand o.operands)) (leaves u) 0 start (all_leaves o) (result_start o k + i) w (leaf_among o k i v w typed at_w);
  }

  cast_words : (new_type : Ref → Option HwType) (start : ℕ) → map new_type (stand operand.0) ≡ map (λ (v : HwType). Some v) (leaves u)
      → (τ : Ref → Word) → ((r : Ref) → HasWidth (new_type r) (τ r)) → HoldsFrom τ start (leaf_pieces o (stand operand.0) (leaves u) 0 start (all_leaves o))
      → result_word (whole stand τ) o 0 (Some t) ≡ concat_words (map τ (in_row (leaf_ref (bitcast_rule o u) start o) 0 (length (leaves t))))
  cast_words new_type start typed τ wide holds =
      ap₂ (λ k rs. op_value k o.types t 0 (map (whole stand τ) rs)) is operand.1
      ∙ sym (first_all (width t) (whole stand τ operand.0) (word_size ∙ same_width))
      ∙ ap (λ n. first n (whole stand τ operand.0)) (sym (leaves_width t))
      ∙ sym (joined_rule (leaves t) (whole stand τ operand.0) (λ l. τ (leaf_ref (bitcast_rule o u) start o l)) 0 leaf_is)
      ∙ ap concat_words (sym (map-in_row τ (leaf_ref (bitcast_rule o u) start o) 0 (length (leaves t))))
    where
      word_size : length (whole stand τ operand.0) ≡ width u
      word_size = joined_width new_type τ wide (stand operand.0) (leaves u) typed ∙ leaves_width u

      leaf_is : (i : ℕ) (v : HwType) → slice_get (leaves t) i ≡ Some v
          → τ (leaf_ref (bitcast_rule o u) start o (0 + i)) ≡ first (width v) (drop (widths (take i (leaves t))) (whole stand τ operand.0))
      leaf_is i v at_v =
          ap (λ n. τ (leaf_ref (bitcast_rule o u) start o n)) (zero-add i)
          ∙ ap (λ b. τ (cond b (result start i) (result (start + piece_end (leaves u) 0 (all_leaves o) i) 0))) (plain_not_one o cast_plain)
          ∙ leaf_hold new_type τ wide (stand operand.0) o (leaves u) 0 start (all_leaves o) all_within typed holds i v (ap (λ ts. slice_get ts i) (all_of_one o t one) ∙ at_v)
          ∙ ap (λ n. take (width v) (drop n (concat_words (map τ (stand operand.0))))) (zero-add (widths (take i (all_leaves o))) ∙ ap (λ ts. widths (take i ts)) (all_of_one o t one))
          ∙ sym (first-take (width v) (drop (widths (take i (leaves t))) (whole stand τ operand.0)) room)
        where
          room : width v ≤ length (drop (widths (take i (leaves t))) (whole stand τ operand.0))
          room =
              let all : widths (leaves t) ≡ width t = leaves_width t in
              let cut : widths (leaves t) ≡ widths (take i (leaves t)) + widths (drop i (leaves t)) = ap widths (sym (take-append-drop i (leaves t))) ∙ widths-append (take i (leaves t)) (drop i (leaves t)) in
              let own : widths (drop i (leaves t)) ≡ width v + widths (drop (suc i) (leaves t)) = ap widths (drop_some (leaves t) i v at_v) in
              let size : length (whole stand τ operand.0) ≡ width u = word_size in
              omega (arith, length-drop (widths (take i (leaves t))) (whole stand τ operand.0))

  pub bitcast_splits : Splits (bitcast_rule o u) old_type stand o
  unfolding OwnType GoodOp
  bitcast_splits = record {
    shape = cast_shape;
    has_first = λ plain start i x at_i. (t, type_listed o 0 ∙ ap (λ ts. slice_get ts 0) one);
    well = λ plain new_type start stands.
        let good = leaf_good new_type stand start o.operands operand.0 (subst (In operand.0) (sym operand.1) (inl refl)) (leaves u) (stands.typed operand.0 u operand_type) o 0 0 start (all_leaves o) all_within (sym (add-zero start))
        (subst (λ rs. EachOp (OwnType new_type stand start o.operands) 0 (leaf_pieces o rs (leaves u) 0 start (all_leaves o))) arguments
        (each_from (OwnType new_type stand start o.operands) 0 (leaf_pieces o (argument 0 (map stand o.operands)) (leaves u) 0 start (all_leaves o))
        (λ i x at_i. ap (λ m. new_type (result (start + m) 0)) (zero-add i) ∙ stands.own i x at_i))) in
        record {
          fits = λ i x at_i. (good_at new_type start good i x at_i).0;
          operands = λ i x r at_i here. (good_at new_type start good i x at_i).1 r here;
          words = λ τ wide holds.
              one_rule o t (λ k v. result_word (whole stand τ) o k (Some v) ≡ concat_words (map τ (in_row (leaf_ref (bitcast_rule o u) start o) (result_start o k) (length (leaves v))))) one
              (cast_words new_type start (stands.typed operand.0 u operand_type) τ wide
              (subst (λ rs. HoldsFrom τ start (leaf_pieces o rs (leaves u) 0 start (all_leaves o))) arguments
              (each_from (λ m x. (v : HwType) → result_type x 0 ≡ Some v → τ (result m 0) ≡ result_word τ x 0 (Some v)) start (leaf_pieces o (argument 0 (map stand o.operands)) (leaves u) 0 start (all_leaves o))
              (λ i x at_i v typed_v. holds i x v at_i typed_v))));
        };
  }
    where
      good_at : (new_type : Ref → Option HwType) (start : ℕ) → EachOp (GoodOp new_type stand start o.operands) 0 (leaf_pieces o (stand operand.0) (leaves u) 0 start (all_leaves o))
          → (i : ℕ) (x : Op) → slice_get (leaf_pieces o (argument 0 (map stand o.operands)) (leaves u) 0 start (all_leaves o)) i ≡ Some x
          → OpFits new_type x × ((r : Ref) → In r x.operands → StandsBefore stand start o.operands i r)
      good_at new_type start good i x at_i =
          subst (λ m. GoodOp new_type stand start o.operands m x) (zero-add i)
          (each_at (GoodOp new_type stand start o.operands) 0 (leaf_pieces o (stand operand.0) (leaves u) 0 start (all_leaves o)) good i x
          (ap (λ rs. slice_get (leaf_pieces o rs (leaves u) 0 start (all_leaves o)) i) (sym arguments) ∙ at_i))
