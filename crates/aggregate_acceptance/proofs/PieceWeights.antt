-- How many operations the same bits under another type take: each leaf overlaps few leaves.
use Rattle.std.proofs.Common.{◌≡◌, ℕ, zero, suc, ◌+◌, ◌-◌, ◌*◌, ◌<◌, ◌≤◌, min, Bool, true, false, cond, nat_lt, List, [], ◌∷◌, ◌++◌, length, map, refl, ap, ◌∙◌, arith}
use Rattle.std.proofs.lemmas.Bool.{lt-ltb, le-ltb, ltb-true, ltb-false}
use Rattle.hw_model.specs.Types.{Name, HwType, width}
use Rattle.hw_model.specs.Kinds.Kind.{concat}
use Rattle.hw_model.specs.Design.{Ref, Op}
use Rattle.hw_model.specs.Design.Ref.{result}
use Rattle.hw_model.specs.Weight.{body_weight}
use Rattle.aggregate_laws.specs.Leaves.{in_row}
use Rattle.aggregate_laws.specs.OperationRules.{made_op}
use Rattle.aggregate_laws.specs.Bitcasts.{Piece, with_piece, pieces, piece_type, extracts, joined_pieces, joined_end, leaf_pieces}
use Rattle.aggregate_laws.proofs.Lists.{length-in_row}

pub weight_append : (inner : Name → ℕ) (xs ys : List Op) → body_weight inner (xs ++ ys) ≡ body_weight inner xs + body_weight inner ys
weight_append inner [] ys = omega arith
weight_append inner (o ∷ xs) ys =
    let rest : body_weight inner (xs ++ ys) ≡ body_weight inner xs + body_weight inner ys = weight_append inner xs ys in
    omega arith

-- ---- how many values end within some bits

abbrev ends : List HwType → ℕ → ℕ
ends [] b = 0
ends (u ∷ us) b = cond (nat_lt b (width u)) 0 (suc (ends us (b - width u)))

ends_most : (us : List HwType) (b : ℕ) → ends us b ≤ length us
ends_most [] b = omega arith
ends_most (u ∷ us) b = go (nat_lt b (width u)) (ends_most us (b - width u))
  where
    go : (c : Bool) → ends us (b - width u) ≤ length us → cond c 0 (suc (ends us (b - width u))) ≤ suc (length us)
    go true rest = omega arith
    go false rest = omega arith

ends_before : (u : HwType) (us : List HwType) (b : ℕ) → b < width u → ends (u ∷ us) b ≡ 0
ends_before u us b before = ap (λ c. cond c 0 (suc (ends us (b - width u)))) (lt-ltb b (width u) before)

ends_past : (u : HwType) (us : List HwType) (b : ℕ) → width u ≤ b → ends (u ∷ us) b ≡ suc (ends us (b - width u))
ends_past u us b past = ap (λ c. cond c 0 (suc (ends us (b - width u)))) (le-ltb b (width u) past)

-- no bits are no pieces
no_pieces : (i : ℕ) (us : List HwType) (skip : ℕ) → length (pieces i us skip 0) ≡ 0
no_pieces i [] skip = refl
no_pieces i (u ∷ us) skip = go (min (width u - skip) 0) (omega arith) (no_pieces (suc i) us (skip - width u))
  where
    go : (taken : ℕ) → taken ≡ 0 → length (pieces (suc i) us (skip - width u) 0) ≡ 0
        → length (with_piece i u skip taken (pieces (suc i) us (skip - width u) (0 - taken))) ≡ 0
    go zero none rest = rest
    go (suc k) none rest = absurd (omega arith)

with_piece_length : (i : ℕ) (u : HwType) (skip taken : ℕ) (ps : List Piece) → length (with_piece i u skip taken ps) ≤ suc (length ps)
with_piece_length i u skip zero ps = omega arith
with_piece_length i u skip (suc k) ps = omega arith

-- as many pieces as values end within the bits, and one more
few_pieces : (i : ℕ) (us : List HwType) (skip size : ℕ) → length (pieces i us skip size) + ends us skip ≤ suc (ends us (skip + size))
few_pieces i [] skip size = omega arith
few_pieces i (u ∷ us) skip size =
    go (nat_lt skip (width u)) refl (nat_lt (skip + size) (width u)) refl
    (few_pieces (suc i) us (skip - width u) (size - min (width u - skip) size))
  where
    go : (a : Bool) → nat_lt skip (width u) ≡ a → (b : Bool) → nat_lt (skip + size) (width u) ≡ b
        → length (pieces (suc i) us (skip - width u) (size - min (width u - skip) size)) + ends us (skip - width u)
        ≤ suc (ends us ((skip - width u) + (size - min (width u - skip) size)))
        → length (pieces i (u ∷ us) skip size) + ends (u ∷ us) skip ≤ suc (ends (u ∷ us) (skip + size))
    go false a_is b b_is rest =
        let past : width u ≤ skip = ltb-false skip (width u) a_is in
        let none : min (width u - skip) size ≡ 0 = omega arith in
        let same : length (pieces i (u ∷ us) skip size) ≡ length (pieces (suc i) us (skip - width u) (size - min (width u - skip) size)) =
        ap (λ n. length (with_piece i u skip n (pieces (suc i) us (skip - width u) (size - min (width u - skip) size)))) none in
        let first : ends (u ∷ us) skip ≡ suc (ends us (skip - width u)) = ends_past u us skip past in
        let last : ends (u ∷ us) (skip + size) ≡ suc (ends us (skip + size - width u)) = ends_past u us (skip + size) (omega arith) in
        let position : ends us ((skip - width u) + (size - min (width u - skip) size)) ≡ ends us (skip + size - width u) =
        ap (ends us) (let e : (skip - width u) + (size - min (width u - skip) size) ≡ skip + size - width u = omega arith in e) in
        linear (length (pieces i (u ∷ us) skip size)) (length (pieces (suc i) us (skip - width u) (size - min (width u - skip) size))) (ends (u ∷ us) skip) (ends us (skip - width u))
        (ends (u ∷ us) (skip + size)) (ends us (skip + size - width u)) (ends us ((skip - width u) + (size - min (width u - skip) size))) same first last position rest
      where
        linear : (a b c e f g h : ℕ) → a ≡ b → c ≡ suc e → f ≡ suc g → h ≡ g → b + e ≤ suc h → a + c ≤ suc f
        linear a b c e f g h p q r s t = omega arith
    go true a_is false b_is rest =
        let before : skip < width u = ltb-true skip (width u) a_is in
        let past : width u ≤ skip + size = ltb-false (skip + size) (width u) b_is in
        let most : length (pieces i (u ∷ us) skip size) ≤ suc (length (pieces (suc i) us (skip - width u) (size - min (width u - skip) size))) =
        with_piece_length i u skip (min (width u - skip) size) (pieces (suc i) us (skip - width u) (size - min (width u - skip) size)) in
        let first : ends (u ∷ us) skip ≡ 0 = ends_before u us skip before in
        let last : ends (u ∷ us) (skip + size) ≡ suc (ends us (skip + size - width u)) = ends_past u us (skip + size) past in
        let position : ends us ((skip - width u) + (size - min (width u - skip) size)) ≡ ends us (skip + size - width u) =
        ap (ends us) (let e : (skip - width u) + (size - min (width u - skip) size) ≡ skip + size - width u = omega arith in e) in
        linear (length (pieces i (u ∷ us) skip size)) (length (pieces (suc i) us (skip - width u) (size - min (width u - skip) size))) (ends (u ∷ us) skip) (ends us (skip - width u))
        (ends (u ∷ us) (skip + size)) (ends us (skip + size - width u)) (ends us ((skip - width u) + (size - min (width u - skip) size))) most first last position rest
      where
        linear : (a b c e f g h : ℕ) → a ≤ suc b → c ≡ 0 → f ≡ suc g → h ≡ g → b + e ≤ suc h → a + c ≤ suc f
        linear a b c e f g h p q r s t = omega arith
    go true a_is true b_is rest =
        let before : skip < width u = ltb-true skip (width u) a_is in
        let within : skip + size < width u = ltb-true (skip + size) (width u) b_is in
        let all : size - min (width u - skip) size ≡ 0 = omega arith in
        let most : length (pieces i (u ∷ us) skip size) ≤ suc (length (pieces (suc i) us (skip - width u) (size - min (width u - skip) size))) =
        with_piece_length i u skip (min (width u - skip) size) (pieces (suc i) us (skip - width u) (size - min (width u - skip) size)) in
        let none : length (pieces (suc i) us (skip - width u) (size - min (width u - skip) size)) ≡ 0 =
        ap (λ n. length (pieces (suc i) us (skip - width u) n)) all ∙ no_pieces (suc i) us (skip - width u) in
        let first : ends (u ∷ us) skip ≡ 0 = ends_before u us skip before in
        linear (length (pieces i (u ∷ us) skip size)) (length (pieces (suc i) us (skip - width u) (size - min (width u - skip) size))) (ends (u ∷ us) skip) (ends (u ∷ us) (skip + size)) most none first
      where
        linear : (a b c f : ℕ) → a ≤ suc b → b ≡ 0 → c ≡ 0 → a + c ≤ suc f
        linear a b c f p q r = omega arith

-- ---- operations

module _ (inner : Name → ℕ) (o : Op) (rs : List Ref) where
  extracts_weight : (ps : List Piece) → body_weight inner (extracts o rs ps) ≡ 2 * length ps
  extracts_weight [] = refl
  extracts_weight (p ∷ ps) = let rest : body_weight inner (extracts o rs ps) ≡ 2 * length ps = extracts_weight ps in omega arith

  joined_weight : (t : HwType) (start : ℕ) (ps : List Piece) → body_weight inner (joined_pieces o rs t start ps) ≤ 3 * length ps + 1
  joined_weight t start [] = omega arith
  joined_weight t start (p ∷ []) = omega arith
  joined_weight t start (p ∷ q ∷ ps) =
      let prefix : body_weight inner (extracts o rs (p ∷ q ∷ ps)) ≡ 2 * length (p ∷ q ∷ ps) = extracts_weight (p ∷ q ∷ ps) in
      let size : length (in_row (λ i. result i 0) start (length (p ∷ q ∷ ps))) ≡ length (p ∷ q ∷ ps) = length-in_row (λ i. result i 0) start (length (p ∷ q ∷ ps)) in
      let sum : body_weight inner (joined_pieces o rs t start (p ∷ q ∷ ps)) ≡ body_weight inner (extracts o rs (p ∷ q ∷ ps)) + (1 + length (in_row (λ i. result i 0) start (length (p ∷ q ∷ ps))) + 0) =
      weight_append inner (extracts o rs (p ∷ q ∷ ps)) (made_op o concat (in_row (λ i. result i 0) start (length (p ∷ q ∷ ps))) (map piece_type (p ∷ q ∷ ps)) [] t ∷ []) in
      linear (body_weight inner (joined_pieces o rs t start (p ∷ q ∷ ps))) (body_weight inner (extracts o rs (p ∷ q ∷ ps)))
      (length (in_row (λ i. result i 0) start (length (p ∷ q ∷ ps)))) (length (p ∷ q ∷ ps)) prefix size sum
    where
      linear : (a b c n : ℕ) → b ≡ 2 * n → c ≡ n → a ≡ b + (1 + c + 0) → a ≤ 3 * n + 1
      linear a b c n p q r = omega arith

  -- how many pieces all leaves have
  abbrev piece_total : List HwType → ℕ → List HwType → ℕ
  piece_total us skip [] = 0
  piece_total us skip (t ∷ ts) = length (pieces 0 us skip (width t)) + piece_total us (skip + width t) ts

  total_few : (us : List HwType) (skip : ℕ) (ts : List HwType) → piece_total us skip ts + ends us skip ≤ length ts + length us
  total_few us skip [] = let most : ends us skip ≤ length us = ends_most us skip in omega arith
  total_few us skip (t ∷ ts) =
      let here : length (pieces 0 us skip (width t)) + ends us skip ≤ suc (ends us (skip + width t)) = few_pieces 0 us skip (width t) in
      let rest : piece_total us (skip + width t) ts + ends us (skip + width t) ≤ length ts + length us = total_few us (skip + width t) ts in
      omega arith

  leaf_weight : (us : List HwType) (skip start : ℕ) (ts : List HwType) → body_weight inner (leaf_pieces o rs us skip start ts) ≤ 3 * piece_total us skip ts + length ts
  leaf_weight us skip start [] = omega arith
  leaf_weight us skip start (t ∷ ts) =
      let sum : body_weight inner (leaf_pieces o rs us skip start (t ∷ ts))
      ≡ body_weight inner (joined_pieces o rs t start (pieces 0 us skip (width t)))
      + body_weight inner (leaf_pieces o rs us (skip + width t) (start + suc (joined_end (pieces 0 us skip (width t)))) ts) =
      weight_append inner (joined_pieces o rs t start (pieces 0 us skip (width t))) (leaf_pieces o rs us (skip + width t) (start + suc (joined_end (pieces 0 us skip (width t)))) ts) in
      let here : body_weight inner (joined_pieces o rs t start (pieces 0 us skip (width t))) ≤ 3 * length (pieces 0 us skip (width t)) + 1 = joined_weight t start (pieces 0 us skip (width t)) in
      let rest : body_weight inner (leaf_pieces o rs us (skip + width t) (start + suc (joined_end (pieces 0 us skip (width t)))) ts) ≤ 3 * piece_total us (skip + width t) ts + length ts =
      leaf_weight us (skip + width t) (start + suc (joined_end (pieces 0 us skip (width t)))) ts in
      linear (body_weight inner (leaf_pieces o rs us skip start (t ∷ ts))) (body_weight inner (joined_pieces o rs t start (pieces 0 us skip (width t))))
      (body_weight inner (leaf_pieces o rs us (skip + width t) (start + suc (joined_end (pieces 0 us skip (width t)))) ts)) (length (pieces 0 us skip (width t)))
      (piece_total us (skip + width t) ts) (length ts) sum here rest
    where
      linear : (a b c n p l : ℕ) → a ≡ b + c → b ≤ 3 * n + 1 → c ≤ 3 * p + l → a ≤ 3 * (n + p) + suc l
      linear a b c n p l x y z = omega arith

  -- at most 4 for each leaf of both types
  pub cast_weight : (us : List HwType) (start : ℕ) (ts : List HwType) → body_weight inner (leaf_pieces o rs us 0 start ts) ≤ 4 * (length us + length ts)
  cast_weight us start ts =
      let all : body_weight inner (leaf_pieces o rs us 0 start ts) ≤ 3 * piece_total us 0 ts + length ts = leaf_weight us 0 start ts in
      let few : piece_total us 0 ts + ends us 0 ≤ length ts + length us = total_few us 0 ts in
      linear (body_weight inner (leaf_pieces o rs us 0 start ts)) (piece_total us 0 ts) (ends us 0) (length ts) (length us) all few
    where
      linear : (a p e t u : ℕ) → a ≤ 3 * p + t → p + e ≤ t + u → a ≤ 4 * (u + t)
      linear a p e t u x y = omega arith
