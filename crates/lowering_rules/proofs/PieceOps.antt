-- Pieces that code joins are those of the leaves of a bitcast.
use Rattle.std.proofs.Common.{◌≡◌, ℕ, zero, suc, ◌+◌, ◌-◌, min, List, [], ◌∷◌, ◌++◌, length, map, refl, sym, ap, ap₂, ◌∙◌, arith, append_assoc}
use Rattle.hw_model.specs.Types.{HwType, width}
use Rattle.hw_model.specs.Types.HwType.{int}
use Rattle.hw_model.specs.Kinds.Kind.{extract, concat}
use Rattle.hw_model.specs.Value.{nth_type}
use Rattle.hw_model.specs.Design.{Ref, Op}
use Rattle.hw_model.specs.Design.Ref.{result}
use Rattle.aggregate_laws.specs.Leaves.{in_row, part}
use Rattle.aggregate_laws.specs.OperationRules.{made_op}
use Rattle.aggregate_laws.specs.Bitcasts.{Piece, with_piece, pieces, piece_type, extracts, joined_pieces, joined_end, leaf_pieces}
use Rattle.lowering_rules.specs.Pieces.{PieceView, piece_view, leaf_pieces_of}
use Rattle.lowering_rules.specs.PieceRules.{view_extracts, view_type, views_concat, joined_views, view_end, nth_views, leaf_views}

-- ---- types

-- pieces are of values of these types
abbrev HasTypes : List HwType → List Piece → Type 0
HasTypes us [] = Unit {0}
HasTypes us (p ∷ ps) = (nth_type us p.value ≡ p.type) × HasTypes us ps

with_typed : (all : List HwType) (i : ℕ) (u : HwType) (skip n : ℕ) (ps : List Piece) → nth_type all i ≡ u → HasTypes all ps → HasTypes all (with_piece i u skip n ps)
with_typed all i u skip zero ps is rest = rest
with_typed all i u skip (suc n) ps is rest = (is, rest)

pieces_typed : (all : List HwType) (i : ℕ) (us : List HwType) (skip size : ℕ) → ((j : ℕ) → nth_type us j ≡ nth_type all (i + j)) → HasTypes all (pieces i us skip size)
pieces_typed all i [] skip size same = tt
pieces_typed all i (u ∷ us) skip size same =
    let here : i + 0 ≡ i = omega arith in
    with_typed all i u skip (min (width u - skip) size) (pieces (suc i) us (skip - width u) (size - min (width u - skip) size))
    (ap (nth_type all) (sym here) ∙ sym (same 0))
    (pieces_typed all (suc i) us (skip - width u) (size - min (width u - skip) size)
    (λ j. let next : i + suc j ≡ suc i + j = omega arith in same (suc j) ∙ ap (nth_type all) next))

-- ---- joined pieces

extracts_same : (o : Op) (rs : List Ref) (us : List HwType) (ps : List Piece) → HasTypes us ps → view_extracts o rs us (map piece_view ps) ≡ extracts o rs ps
extracts_same o rs us [] typed = refl
extracts_same o rs us (p ∷ ps) typed =
    ap₂ (λ u os. made_op o (extract p.low) (part rs p.value ∷ []) (u ∷ int p.size ∷ []) [] (int p.size) ∷ os) typed.0 (extracts_same o rs us ps typed.1)

types_same : (ps : List Piece) → map view_type (map piece_view ps) ≡ map piece_type ps
types_same [] = refl
types_same (p ∷ ps) = ap (λ ts. int p.size ∷ ts) (types_same ps)

count_same : (ps : List Piece) → length (map piece_view ps) ≡ length ps
count_same [] = refl
count_same (p ∷ ps) = ap suc (count_same ps)

many_same : (o : Op) (rs : List Ref) (us : List HwType) (t : HwType) (start : ℕ) (ps : List Piece) → HasTypes us ps
    → view_extracts o rs us (map piece_view ps) ++ (views_concat o t start (length (map piece_view ps)) (map piece_view ps) ∷ [])
    ≡ extracts o rs ps ++ (made_op o concat (in_row (λ i. result i 0) start (length ps)) (map piece_type ps) [] t ∷ [])
many_same o rs us t start ps typed =
    ap₂ (λ os x. os ++ (x ∷ [])) (extracts_same o rs us ps typed)
    (ap₂ (λ n ts. made_op o concat (in_row (λ i. result i 0) start n) ts [] t) (count_same ps) (types_same ps))

joined_same : (o : Op) (rs : List Ref) (us : List HwType) (t : HwType) (start : ℕ) (ps : List Piece) → HasTypes us ps → joined_views o rs us t start (map piece_view ps) ≡ joined_pieces o rs t start ps
joined_same o rs us t start [] typed = refl
joined_same o rs us t start (p ∷ []) typed = ap (λ u. made_op o (extract p.low) (part rs p.value ∷ []) (u ∷ t ∷ []) [] t ∷ []) typed.0
joined_same o rs us t start (p ∷ q ∷ ps) typed = many_same o rs us t start (p ∷ q ∷ ps) typed

end_same : (ps : List Piece) → view_end (map piece_view ps) ≡ joined_end ps
end_same [] = refl
end_same (p ∷ []) = refl
end_same (p ∷ q ∷ ps) = count_same (p ∷ q ∷ ps)

-- all leaves, from a number on
leaves_same : (o : Op) (rs : List Ref) (us : List HwType) (vss : List (List PieceView)) (n skip start : ℕ) (ts : List HwType)
    → ((k : ℕ) → nth_views vss (n + k) ≡ nth_views (map (map piece_view) (leaf_pieces_of 0 us skip ts)) k)
    → leaf_views o rs us vss n start ts ≡ leaf_pieces o rs us skip start ts
leaves_same o rs us vss n skip start [] same = refl
leaves_same o rs us vss n skip start (t ∷ ts) same =
    let ps = pieces 0 us skip (width t) in
    let from : n ≡ n + 0 = omega arith in
    let here : nth_views vss n ≡ map piece_view ps = ap (nth_views vss) from ∙ same 0 in
    let ended : suc (view_end (nth_views vss n)) ≡ suc (joined_end ps) = ap (λ vs. suc (view_end vs)) here ∙ ap suc (end_same ps) in
    ap₂ (λ os k. os ++ leaf_views o rs us vss (suc n) (start + k) ts)
    (ap (joined_views o rs us t start) here ∙ joined_same o rs us t start ps (pieces_typed us 0 us skip (width t) (λ j. let same_position : j ≡ 0 + j = omega arith in ap (nth_type us) same_position))) ended
    ∙ ap (λ os. joined_pieces o rs t start ps ++ os)
    (leaves_same o rs us vss (suc n) (skip + width t) (start + suc (joined_end ps)) ts
    (λ k. let next : suc n + k ≡ n + suc k = omega arith in ap (nth_views vss) next ∙ same (suc k)))

-- what code makes of all pieces
pub bitcast_made : (o : Op) (rs : List Ref) (us vs : List HwType) (vss : List (List PieceView)) (start : ℕ) (ts : List HwType)
    → vs ≡ us → vss ≡ map (map piece_view) (leaf_pieces_of 0 vs 0 ts) → leaf_views o rs vs vss 0 start ts ≡ leaf_pieces o rs us 0 start ts
bitcast_made o rs us vs vss start ts types cut =
    ap₂ (λ ws xss. leaf_views o rs ws xss 0 start ts) types (cut ∙ ap (λ ws. map (map piece_view) (leaf_pieces_of 0 ws 0 ts)) types)
    ∙ leaves_same o rs us (map (map piece_view) (leaf_pieces_of 0 us 0 ts)) 0 0 start ts
    (λ k. let same_position : 0 + k ≡ k = omega arith in ap (nth_views (map (map piece_view) (leaf_pieces_of 0 us 0 ts))) same_position)

-- ---- one step after another

-- the pieces of one leaf more
pub leaf_more : (o : Op) (rs : List Ref) (us : List HwType) (vss : List (List PieceView)) (now after whole : List Op) (vs : List PieceView) (n m start next count : ℕ) (t : HwType) (ts : List HwType)
    → after ≡ now ++ joined_views o rs us t start vs → vs ≡ nth_views vss n → m ≡ suc n → next ≡ start + count → count ≡ suc (view_end vs)
    → now ++ leaf_views o rs us vss n start (t ∷ ts) ≡ whole → after ++ leaf_views o rs us vss m next ts ≡ whole
leaf_more o rs us vss now after whole vs n m start next count t ts put own number offset counted is =
    let ended : next ≡ start + suc (view_end (nth_views vss n)) = offset ∙ ap (λ k. start + k) (counted ∙ ap (λ ws. suc (view_end ws)) own) in
    ap₂ (λ os ns. os ++ ns) (put ∙ ap (λ ws. now ++ joined_views o rs us t start ws) own)
    (ap₂ (λ j k. leaf_views o rs us vss j k ts) number ended)
    ∙ append_assoc now (joined_views o rs us t start (nth_views vss n)) (leaf_views o rs us vss (suc n) (start + suc (view_end (nth_views vss n))) ts)
    ∙ is
