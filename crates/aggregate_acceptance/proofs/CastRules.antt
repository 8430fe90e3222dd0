-- What is made for the same bits under another type is good: extracts, and their joins.
use Rattle.std.proofs.Common.{◌≡◌, ℕ, zero, suc, ◌+◌, ◌-◌, ◌≤◌, min, Bool, false, ◌||◌, List, [], ◌∷◌, ◌++◌, length, map, Some, slice_get, refl, sym, ap, ap₂, subst, ◌∙◌, inl, inr, arith, add-zero, length-append}
use Rattle.std.proofs.lemmas.Bool.{le-ltb, ne_eqb}
use Rattle.std.proofs.lemmas.Option.{slice_get_within}
use Rattle.wiring.specs.Lists.{total}
use Rattle.wiring.specs.Wiring.{In}
use Rattle.wiring.proofs.Lists.{slice_get-append_left, slice_get-append_right}
use Rattle.wiring.proofs.Members.{from_In-map}
use Rattle.hw_model.specs.Types.{HwType, width}
use Rattle.hw_model.specs.Types.HwType.{int}
use Rattle.hw_model.specs.Kinds.Kind.{extract, concat}
use Rattle.hw_model.specs.Design.{Ref, Port, Op, result_type}
use Rattle.hw_model.specs.Design.Ref.{result}
use Rattle.hw_model.specs.Sound.{type_in, OpFits}
use Rattle.type_inference.specs.ResultTypes.{with_width, joined_width}
use Rattle.op_checks.specs.TypeChecks.{has_bad_part}
use Rattle.op_checks.specs.TypeLists.{known_types}
use Rattle.aggregate_laws.specs.Leaves.{in_row, part}
use Rattle.aggregate_laws.specs.OperationRules.{made_op}
use Rattle.aggregate_laws.specs.Bitcasts.{Piece, with_piece, pieces, piece_type, extracts, joined_pieces, joined_end, leaf_pieces}
use Rattle.aggregate_laws.proofs.Muxes.{part_there}
use Rattle.aggregate_acceptance.proofs.LeafTypes.{few_bits, IsNarrow}
use Rattle.aggregate_acceptance.proofs.MadeKinds.{IsMadeKind, extract_made, concat_made}
use Rattle.aggregate_acceptance.proofs.MadeOps.{IsGood, made_good}
use Rattle.aggregate_acceptance.proofs.MadeRules.{AreGood, good_append, good_same}

-- ---- pieces

-- a piece is of a value of its type, within it, and has bits
record IsCut (us : List HwType) (i : ℕ) (p : Piece) : Type 0 where
  number : ℕ
  value_is : p.value ≡ i + number
  there : slice_get us number ≡ Some p.type
  within : p.low + p.size ≤ width p.type
  some : 1 ≤ p.size

cuts : (i : ℕ) (us : List HwType) (skip size : ℕ) (p : Piece) → In p (pieces i us skip size) → IsCut us i p
cuts i [] skip size p here = absurd here
cuts i (u ∷ us) skip size p here =
    go (min (width u - skip) size) (omega arith) (pieces (suc i) us (skip - width u) (size - min (width u - skip) size))
    (cuts (suc i) us (skip - width u) (size - min (width u - skip) size) p) here
  where
    later : IsCut us (suc i) p → IsCut (u ∷ us) i p
    later is =
        let position = is.value_is in
        record { number = suc is.number; value_is = position ∙ (let e : suc i + is.number ≡ i + suc is.number = omega arith in e); there = is.there; within = is.within; some = is.some }

    go : (taken : ℕ) → taken ≤ width u - skip → (ps : List Piece) → (In p ps → IsCut us (suc i) p) → In p (with_piece i u skip taken ps) → IsCut (u ∷ us) i p
    go zero few ps rest there = later (rest there)
    go (suc k) few ps rest (inl same) =
        subst (IsCut (u ∷ us) i) (sym same) (record { number = 0; value_is = sym (add-zero i); there = refl; within = omega arith; some = omega arith })
    go (suc k) few ps rest (inr there) = later (rest there)

-- the bits of pieces together
abbrev cut_bits : List Piece → ℕ
cut_bits [] = 0
cut_bits (p ∷ ps) = p.size + cut_bits ps

cut_width : (ps : List Piece) → joined_width (map piece_type ps) ≡ Some (cut_bits ps)
cut_width [] = refl
cut_width (p ∷ ps) = ap (with_width (int p.size)) (cut_width ps)

cut_total : (ps : List Piece) → total (map width (map piece_type ps)) ≡ cut_bits ps
cut_total [] = refl
cut_total (p ∷ ps) = ap (λ n. p.size + n) (cut_total ps)

pub some_bits : (n : ℕ) → 1 ≤ n → n ≤ 128 → has_bad_part (int n) ≡ false
some_bits n some few = both (ne_eqb n 0 (λ same. absurd (omega arith))) (le-ltb 128 n few)
  where
    both : {a b : Bool} → a ≡ false → b ≡ false → a || b ≡ false
    both p q = rw (p, q) refl

pub same_types : (ts us : List HwType) → known_types ts ≡ known_types us → ts ≡ us
same_types [] [] is = refl
same_types [] (u ∷ us) is = cc
same_types (t ∷ ts) [] is = cc
same_types (t ∷ ts) (u ∷ us) is =
    let first : t ≡ u = cc in
    let rest : known_types ts ≡ known_types us = cc in
    ap₂ (λ x xs. x ∷ xs) first (same_types ts us rest)

extracts_length : (o : Op) (rs : List Ref) (ps : List Piece) → length (extracts o rs ps) ≡ length ps
extracts_length o rs [] = refl
extracts_length o rs (p ∷ ps) = ap suc (extracts_length o rs ps)

joined_length : (o : Op) (rs : List Ref) (t : HwType) (start : ℕ) (ps : List Piece) → length (joined_pieces o rs t start ps) ≡ suc (joined_end ps)
joined_length o rs t start [] = refl
joined_length o rs t start (p ∷ []) = refl
joined_length o rs t start (p ∷ q ∷ ps) =
    let prefix : length (extracts o rs (p ∷ q ∷ ps)) ≡ length (p ∷ q ∷ ps) = extracts_length o rs (p ∷ q ∷ ps) in
    omega (arith, length-append (extracts o rs (p ∷ q ∷ ps)) (made_op o concat (in_row (λ i. result i 0) start (length (p ∷ q ∷ ps))) (map piece_type (p ∷ q ∷ ps)) [] t ∷ []))

-- ---- in a body

module _ (ps : List Port) (os : List Op) (o : Op) (rs : List Ref) (us : List HwType) (typed : map (type_in ps os) rs ≡ known_types us)
    (narrow : (t : HwType) → In t us → IsNarrow t) where
  -- the operations stand in the body from a position on
  abbrev pub Placed : ℕ → List Op → Type 0
  Placed m xs = (i : ℕ) (x : Op) → slice_get xs i ≡ Some x → type_in ps os (result (m + i) 0) ≡ result_type x 0

  placed_left : (m : ℕ) (xs ys : List Op) → Placed m (xs ++ ys) → Placed m xs
  placed_left m xs ys all i x is = all i x (slice_get-append_left xs ys i (slice_get_within xs i x is) ∙ is)

  placed_right : (m : ℕ) (xs ys : List Op) → Placed m (xs ++ ys) → Placed (m + length xs) ys
  placed_right m xs ys all i x is =
      ap (λ k. type_in ps os (result k 0)) (let e : m + length xs + i ≡ m + (length xs + i) = omega arith in e)
      ∙ all (length xs + i) x (slice_get-append_right xs ys i ∙ is)

  among : (ts : List HwType) (i : ℕ) (t : HwType) → slice_get ts i ≡ Some t → In t ts
  among [] i t is = cc
  among (v ∷ ts) zero t is = let same : t ≡ v = cc in inl same
  among (v ∷ ts) (suc i) t is = inr (among ts i t is)

  cut_narrow : (p : Piece) → IsCut us 0 p → IsNarrow p.type
  cut_narrow p is = narrow p.type (among us is.number p.type is.there)

  cut_typed : (p : Piece) → IsCut us 0 p → type_in ps os (part rs p.value) ≡ Some p.type
  cut_typed p is =
      let position = is.value_is in
      let number_is : p.value ≡ is.number = omega arith in
      ap (λ n. type_in ps os (part rs n)) number_is ∙ (part_there (type_in ps os) rs us is.number p.type typed is.there).1

  -- one piece
  extract_good : (p : Piece) (t : HwType) → IsCut us 0 p → IsNarrow t → OpFits (type_in ps os) (made_op o (extract p.low) (part rs p.value ∷ []) (p.type ∷ t ∷ []) [] t)
      → IsGood ps os (made_op o (extract p.low) (part rs p.value ∷ []) (p.type ∷ t ∷ []) [] t)
  extract_good p t is good fits =
      let given = fits 0 t refl in
      let old = cut_narrow p is in
      let found : type_in ps os (part rs p.value) ∷ [] ≡ Some given.0 ∷ [] = given.1 in
      let first : type_in ps os (part rs p.value) ≡ Some given.0 = cc in
      let both : Some given.0 ≡ Some p.type = sym first ∙ cut_typed p is in
      let same : given.0 ≡ p.type = cc in
      let room : p.low + width t ≤ width given.0 = given.2 in
      let source : width given.0 ≡ old.bits = ap width same ∙ ap width old.is in
      let target : width t ≡ good.bits = ap width good.is in
      made_good ps os o (extract p.low) (part rs p.value ∷ []) (p.type ∷ []) (p.type ∷ t ∷ []) [] t
      (subst (λ a. IsMadeKind (extract p.low) (a ∷ []) (a ∷ t ∷ []) t) (sym old.is)
      (subst (λ b. IsMadeKind (extract p.low) (int old.bits ∷ []) (int old.bits ∷ b ∷ []) b) (sym good.is) (extract_made p.low old.bits good.bits old.within good.within (omega arith))))
      (ap (λ x. x ∷ []) (cut_typed p is)) (λ none. refl) tt

  -- how many bits a piece has
  piece_narrow : (p : Piece) → IsCut us 0 p → IsNarrow (int p.size)
  piece_narrow p is =
      let old = cut_narrow p is in
      let few : old.bits ≤ 128 = few_bits old.bits old.within in
      let size : width p.type ≡ old.bits = ap width old.is in
      let fits = is.within in
      let some = is.some in
      record { bits = p.size; is = refl; within = some_bits p.size some (omega arith) }

  extracts_good : (qs : List Piece) → ((p : Piece) → In p qs → IsCut us 0 p) → AreGood ps os (extracts o rs qs)
  extracts_good [] all x here fits = absurd here
  extracts_good (p ∷ qs) all x (inl same) fits =
      good_same ps os x (made_op o (extract p.low) (part rs p.value ∷ []) (p.type ∷ int p.size ∷ []) [] (int p.size)) same
      (extract_good p (int p.size) (all p (inl refl)) (piece_narrow p (all p (inl refl)))) fits
  extracts_good (p ∷ qs) all x (inr here) fits = extracts_good qs (λ q there. all q (inr there)) x here fits

  extracts_typed : (m : ℕ) (qs : List Piece) → Placed m (extracts o rs qs) → map (type_in ps os) (in_row (λ i. result i 0) m (length qs)) ≡ known_types (map piece_type qs)
  extracts_typed m [] placed = refl
  extracts_typed m (p ∷ qs) placed =
      ap₂ (λ x xs. x ∷ xs) (ap (λ k. type_in ps os (result k 0)) (sym (add-zero m)) ∙ placed 0 (made_op o (extract p.low) (part rs p.value ∷ []) (p.type ∷ int p.size ∷ []) [] (int p.size)) refl)
      (extracts_typed (suc m) qs (λ i x is. ap (λ k. type_in ps os (result k 0)) (let e : suc m + i ≡ m + suc i = omega arith in e) ∙ placed (suc i) x is))

  -- several pieces joined
  concat_good : (m : ℕ) (qs : List Piece) (t : HwType) → ((p : Piece) → In p qs → IsCut us 0 p) → IsNarrow t → Placed m (extracts o rs qs)
      → OpFits (type_in ps os) (made_op o concat (in_row (λ i. result i 0) m (length qs)) (map piece_type qs) [] t)
      → IsGood ps os (made_op o concat (in_row (λ i. result i 0) m (length qs)) (map piece_type qs) [] t)
  concat_good m qs t all good placed fits =
      let given = fits 0 t refl in
      let types : map (type_in ps os) (in_row (λ i. result i 0) m (length qs)) ≡ known_types (map piece_type qs) = extracts_typed m qs placed in
      let same : given.0 ≡ map piece_type qs = same_types given.0 (map piece_type qs) (sym given.1 ∙ types) in
      let size : width t ≡ cut_bits qs = given.2 ∙ ap (λ vs. total (map width vs)) same ∙ cut_total qs in
      let bits : width t ≡ good.bits = ap width good.is in
      let few : good.bits ≤ 128 = few_bits good.bits good.within in
      made_good ps os o concat (in_row (λ i. result i 0) m (length qs)) (map piece_type qs) (map piece_type qs) [] t
      (subst (λ u. IsMadeKind concat (map piece_type qs) (map piece_type qs) u) (sym good.is)
      (concat_made (map piece_type qs) narrow_pieces good.bits (has_some qs (sym size ∙ bits) good.within) (cut_width qs ∙ ap Some (sym size ∙ bits)) few))
      types (λ none. refl) tt
    where
      narrow_pieces : (u : HwType) → In u (map piece_type qs) → IsNarrow u
      narrow_pieces u here = let from = from_In-map piece_type u qs here in subst IsNarrow (sym from.2) (piece_narrow from.0 (all from.0 from.1))

      has_some : (xs : List Piece) → cut_bits xs ≡ good.bits → has_bad_part (int good.bits) ≡ false → 1 ≤ length (map piece_type xs)
      has_some [] none bad = let clash : has_bad_part (int 0) ≡ false = ap (λ n. has_bad_part (int n)) none ∙ bad in cc
      has_some (x ∷ xs) some bad = omega arith

  joined_good : (m : ℕ) (qs : List Piece) (t : HwType) → ((p : Piece) → In p qs → IsCut us 0 p) → IsNarrow t → Placed m (joined_pieces o rs t m qs)
      → AreGood ps os (joined_pieces o rs t m qs)
  joined_good m (p ∷ []) t all good placed x (inl same) fits =
      good_same ps os x (made_op o (extract p.low) (part rs p.value ∷ []) (p.type ∷ t ∷ []) [] t) same (extract_good p t (all p (inl refl)) good) fits
  joined_good m (p ∷ []) t all good placed x (inr never) fits = absurd never
  joined_good m [] t all good placed x (inl same) fits =
      good_same ps os x (made_op o concat [] [] [] t) same (concat_good m [] t all good (λ i y never. cc)) fits
  joined_good m [] t all good placed x (inr never) fits = absurd never
  joined_good m (p ∷ q ∷ qs) t all good placed x here fits =
      good_append ps os (extracts o rs (p ∷ q ∷ qs)) (made_op o concat (in_row (λ i. result i 0) m (length (p ∷ q ∷ qs))) (map piece_type (p ∷ q ∷ qs)) [] t ∷ [])
      (extracts_good (p ∷ q ∷ qs) all) last x here fits
    where
      last : AreGood ps os (made_op o concat (in_row (λ i. result i 0) m (length (p ∷ q ∷ qs))) (map piece_type (p ∷ q ∷ qs)) [] t ∷ [])
      last y (inl same) own =
          good_same ps os y (made_op o concat (in_row (λ i. result i 0) m (length (p ∷ q ∷ qs))) (map piece_type (p ∷ q ∷ qs)) [] t) same
          (concat_good m (p ∷ q ∷ qs) t all good
          (placed_left m (extracts o rs (p ∷ q ∷ qs)) (made_op o concat (in_row (λ i. result i 0) m (length (p ∷ q ∷ qs))) (map piece_type (p ∷ q ∷ qs)) [] t ∷ []) placed)) own
      last y (inr never) own = absurd never

  -- all leaves
  pub cast_good : (skip m : ℕ) (ts : List HwType) → ((t : HwType) → In t ts → IsNarrow t) → Placed m (leaf_pieces o rs us skip m ts) → AreGood ps os (leaf_pieces o rs us skip m ts)
  cast_good skip m [] good placed x here fits = absurd here
  cast_good skip m (t ∷ ts) good placed x here fits =
      good_append ps os (joined_pieces o rs t m (pieces 0 us skip (width t))) (leaf_pieces o rs us (skip + width t) (m + suc (joined_end (pieces 0 us skip (width t)))) ts)
      (joined_good m (pieces 0 us skip (width t)) t (cuts 0 us skip (width t)) (good t (inl refl))
      (placed_left m (joined_pieces o rs t m (pieces 0 us skip (width t))) (leaf_pieces o rs us (skip + width t) (m + suc (joined_end (pieces 0 us skip (width t)))) ts) placed))
      (cast_good (skip + width t) (m + suc (joined_end (pieces 0 us skip (width t)))) ts (λ u there. good u (inr there))
      (subst (λ k. Placed (m + k) (leaf_pieces o rs us (skip + width t) (m + suc (joined_end (pieces 0 us skip (width t)))) ts)) (joined_length o rs t m (pieces 0 us skip (width t)))
      (placed_right m (joined_pieces o rs t m (pieces 0 us skip (width t))) (leaf_pieces o rs us (skip + width t) (m + suc (joined_end (pieces 0 us skip (width t)))) ts) placed)))
      x here fits
