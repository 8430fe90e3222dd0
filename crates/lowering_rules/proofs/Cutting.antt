-- Pieces that are cut off values one after another.
use Rattle.std.proofs.Common.{◌≡◌, ℕ, zero, suc, ◌+◌, ◌-◌, ◌≤◌, Bool, true, false, cond, nat_eq, min, List, [], ◌∷◌, ◌++◌, length, map, refl, sym, ap, ap₂, subst, ◌∙◌, arith, append_assoc}
use Rattle.std.proofs.lemmas.Bool.{eqb-true, eqb-false}
use Rattle.hw_model.specs.Types.{HwType, width}
use Rattle.aggregate_laws.specs.Bitcasts.{Piece, with_piece, pieces, joined_end}
use Rattle.lowering_rules.specs.declared.pieces.Piece.{Piece as CodePiece}
use Rattle.lowering_rules.specs.declared.pieces.Rest.{Rest}
use Rattle.lowering_rules.specs.Pieces.{PieceView, code_piece, piece_view, pushed_piece, leaf_pieces_of, end_of, SkipsWithin, rest_types, IsRestAfter, IsCutOff}

-- no bits are no pieces
pub pieces_none : (i : ℕ) (us : List HwType) (skip : ℕ) → pieces i us skip 0 ≡ []
pieces_none i [] skip = refl
pieces_none i (u ∷ us) skip =
    let none : min (width u - skip) 0 ≡ 0 = omega arith in
    let left : 0 - min (width u - skip) 0 ≡ 0 = omega arith in
    ap₂ (λ n m. with_piece i u skip n (pieces (suc i) us (skip - width u) m)) none left
    ∙ pieces_none (suc i) us (skip - width u)

-- bits after all of the first value are bits of the others
pub pieces_after : (i : ℕ) (u : HwType) (us : List HwType) (skip size : ℕ) → width u ≤ skip → pieces i (u ∷ us) skip size ≡ pieces (suc i) us (skip - width u) size
pieces_after i u us skip size past =
    let none : min (width u - skip) size ≡ 0 = omega arith in
    let left : size - min (width u - skip) size ≡ size = omega arith in
    ap₂ (λ n m. with_piece i u skip n (pieces (suc i) us (skip - width u) m)) none left

-- the pieces of a value that is cut, and of the others
pub cut_first : (i : ℕ) (u : HwType) (us : List HwType) (skip size own : ℕ) → skip ≤ width u → own ≡ min (width u - skip) size
    → map piece_view (pieces i (u ∷ us) skip size) ≡ pushed_piece i (width u - skip - own) own ++ map piece_view (pieces (suc i) us 0 (size - own))
cut_first i u us skip size own within is =
    ap₂ (λ n m. map piece_view (with_piece i u skip n (pieces (suc i) us m (size - n)))) (sym is) (let none : skip - width u ≡ 0 = omega arith in none)
    ∙ go own
  where
    go : (n : ℕ) → map piece_view (with_piece i u skip n (pieces (suc i) us 0 (size - own))) ≡ pushed_piece i (width u - skip - n) n ++ map piece_view (pieces (suc i) us 0 (size - own))
    go zero = refl
    go (suc n) = refl

-- so many bits are still to be cut off
pub record IsCutting (before : Rest) (size : ℕ) (ps : List CodePiece) (now : Rest) (left : ℕ) : Type 0 where
  pub pieces_are : map code_piece ps ++ map piece_view (pieces now.value (rest_types now) now.skip left) ≡ map piece_view (pieces before.value (rest_types before) before.skip size)
  pub further : (k more : ℕ) → pieces now.value (rest_types now) (now.skip + (left + k)) more ≡ pieces before.value (rest_types before) (before.skip + size + k) more
  pub within : SkipsWithin now.skip (rest_types now)

pub cutting_none : (before : Rest) (size : ℕ) (ps : List CodePiece) → ps ≡ [] → SkipsWithin before.skip (rest_types before) → IsCutting before size ps before size
cutting_none before size ps none within = record {
  pieces_are = ap (λ xs. map code_piece xs ++ map piece_view (pieces before.value (rest_types before) before.skip size)) none;
  further = λ k more. (let same : before.skip + (size + k) ≡ before.skip + size + k = omega arith in ap (λ n. pieces before.value (rest_types before) n more) same);
  within = within;
}

-- nothing is left to be cut off
pub cutting_done : (before : Rest) (size : ℕ) (ps : List CodePiece) (now : Rest) → IsCutting before size ps now 0 → IsCutOff before size ps now
cutting_done before size ps now h = record {
  pieces_are = sym (append_none (map code_piece ps)) ∙ ap (λ xs. map code_piece ps ++ map piece_view xs) (sym (pieces_none now.value (rest_types now) now.skip)) ∙ h.pieces_are;
  further = λ k more. (let same : now.skip + k ≡ now.skip + (0 + k) = omega arith in ap (λ n. pieces now.value (rest_types now) n more) same) ∙ h.further k more;
  within = h.within;
}
  where
    append_none : {A : Type 0} (xs : List A) → xs ++ [] ≡ xs
    append_none [] = refl
    append_none (x ∷ xs) = ap (λ ys. x ∷ ys) (append_none xs)

-- no values are left
pub cutting_ended : (before : Rest) (size : ℕ) (ps : List CodePiece) (now : Rest) (left : ℕ) → rest_types now ≡ [] → IsCutting before size ps now left → IsCutOff before size ps now
cutting_ended before size ps now left none h =
    let here : (n more : ℕ) → pieces now.value (rest_types now) n more ≡ [] = λ n more. ap (λ us. pieces now.value us n more) none in
    cutting_done before size ps now record {
      pieces_are = ap (λ xs. map code_piece ps ++ map piece_view xs) (here now.skip 0 ∙ sym (here now.skip left)) ∙ h.pieces_are;
      further = λ k more. here (now.skip + (0 + k)) more ∙ sym (here (now.skip + (left + k)) more) ∙ h.further k more;
      within = h.within;
    }

-- the first value is cut
pub cutting_more : (before : Rest) (size : ℕ) (ps qs : List CodePiece) (now next : Rest) (left own w : ℕ) (u : HwType) (us : List HwType)
    → rest_types now ≡ u ∷ us → w ≡ width u → own ≡ min (w - now.skip) left
    → map code_piece qs ≡ map code_piece ps ++ pushed_piece now.value (w - now.skip - own) own
    → IsRestAfter now us own w next → IsCutting before size ps now left → IsCutting before size qs next (left - own)
cutting_more before size ps qs now next left own w u us split is own_is pushed after h = go (nat_eq (now.skip + own) w) refl
  where
    within : now.skip ≤ width u
    within = subst (SkipsWithin now.skip) split h.within

    own_of : own ≡ min (width u - now.skip) left
    own_of = own_is ∙ ap (λ n. min (n - now.skip) left) is

    -- what is cut now, and what stands after it
    cut_now : map code_piece qs ++ map piece_view (pieces (suc now.value) us 0 (left - own)) ≡ map piece_view (pieces before.value (rest_types before) before.skip size)
    cut_now =
        ap (λ xs. xs ++ map piece_view (pieces (suc now.value) us 0 (left - own))) (pushed ∙ ap (λ n. map code_piece ps ++ pushed_piece now.value (n - now.skip - own) own) is)
        ∙ append_assoc (map code_piece ps) (pushed_piece now.value (width u - now.skip - own) own) (map piece_view (pieces (suc now.value) us 0 (left - own)))
        ∙ ap (λ xs. map code_piece ps ++ xs) (sym (cut_first now.value u us now.skip left own within own_of))
        ∙ ap (λ ts. map code_piece ps ++ map piece_view (pieces now.value ts now.skip left)) (sym split)
        ∙ h.pieces_are

    further_now : (k more : ℕ) → pieces now.value (u ∷ us) (now.skip + (left + k)) more ≡ pieces before.value (rest_types before) (before.skip + size + k) more
    further_now k more = ap (λ ts. pieces now.value ts (now.skip + (left + k)) more) (sym split) ∙ h.further k more

    go : (b : Bool) → nat_eq (now.skip + own) w ≡ b → IsCutting before size qs next (left - own)
    go true whole =
        let all : now.skip + own ≡ w = eqb-true (now.skip + own) w whole in
        let types : rest_types next ≡ us = after.types_are ∙ ap (λ b. cond b us (rest_types now)) whole in
        let value : next.value ≡ now.value + 1 = after.value_is ∙ ap (λ b. cond b (now.value + 1) now.value) whole in
        let skip : next.skip ≡ 0 = after.skip_is ∙ ap (λ b. cond b 0 (now.skip + own)) whole in
        let suc_value : next.value ≡ suc now.value = omega arith in
        let here : (n m more : ℕ) → n ≡ m → pieces next.value (rest_types next) n more ≡ pieces (suc now.value) us m more =
        λ n m more e. ap₂ (λ v ts. pieces v ts n more) suc_value types ∙ ap (λ j. pieces (suc now.value) us j more) e in
        record {
          pieces_are = ap (λ xs. map code_piece qs ++ map piece_view xs) (here next.skip 0 (left - own) skip) ∙ cut_now;
          further = λ k more.
              (let same : next.skip + (left - own + k) ≡ now.skip + (left + k) - width u = omega arith in
              let past : width u ≤ now.skip + (left + k) = omega arith in
              here (next.skip + (left - own + k)) (now.skip + (left + k) - width u) more same
              ∙ sym (pieces_after now.value u us (now.skip + (left + k)) more past)
              ∙ further_now k more);
          within = subst (SkipsWithin next.skip) (sym types) (starts us next.skip skip);
        }
      where
        starts : (ts : List HwType) (n : ℕ) → n ≡ 0 → SkipsWithin n ts
        starts [] n e = tt
        starts (t ∷ ts) n e = omega arith
    go false part =
        let some : now.skip + own ≡ w → ⊥ = eqb-false (now.skip + own) w part in
        let types : rest_types next ≡ u ∷ us = after.types_are ∙ ap (λ b. cond b us (rest_types now)) part ∙ split in
        let value : next.value ≡ now.value = after.value_is ∙ ap (λ b. cond b (now.value + 1) now.value) part in
        let skip : next.skip ≡ now.skip + own = after.skip_is ∙ ap (λ b. cond b 0 (now.skip + own)) part in
        let all : own ≡ left = omega (arith, within, own_of, some, is) in
        let none : left - own ≡ 0 = omega arith in
        let here : (n m more : ℕ) → n ≡ m → pieces next.value (rest_types next) n more ≡ pieces now.value (u ∷ us) m more =
        λ n m more e. ap₂ (λ v ts. pieces v ts n more) value types ∙ ap (λ j. pieces now.value (u ∷ us) j more) e in
        record {
          pieces_are =
              ap (λ n. map code_piece qs ++ map piece_view (pieces next.value (rest_types next) next.skip n)) none
              ∙ ap (λ xs. map code_piece qs ++ map piece_view xs) (pieces_none next.value (rest_types next) next.skip ∙ sym (pieces_none (suc now.value) us 0))
              ∙ ap (λ n. map code_piece qs ++ map piece_view (pieces (suc now.value) us 0 n)) (sym none)
              ∙ cut_now;
          further = λ k more.
              (let same : next.skip + (left - own + k) ≡ now.skip + (left + k) = omega arith in
              here (next.skip + (left - own + k)) (now.skip + (left + k)) more same ∙ further_now k more);
          within = subst (SkipsWithin next.skip) (sym types) (let fits : next.skip ≤ width u = omega (arith, within, own_of, skip) in fits);
        }

-- ---- leaves one after another

-- the pieces of further leaves are those that were left
pub pieces_further : (ts : List HwType) (before now : Rest) (size k : ℕ)
    → ((j more : ℕ) → pieces now.value (rest_types now) (now.skip + j) more ≡ pieces before.value (rest_types before) (before.skip + size + j) more)
    → leaf_pieces_of now.value (rest_types now) (now.skip + k) ts ≡ leaf_pieces_of before.value (rest_types before) (before.skip + size + k) ts
pieces_further [] before now size k further = refl
pieces_further (t ∷ ts) before now size k further =
    let one : now.skip + k + width t ≡ now.skip + (k + width t) = omega arith in
    let two : before.skip + size + (k + width t) ≡ before.skip + size + k + width t = omega arith in
    ap₂ (λ p ps. p ∷ ps) (further k (width t))
    (ap (λ n. leaf_pieces_of now.value (rest_types now) n ts) one
    ∙ pieces_further ts before now size (k + width t) further
    ∙ ap (λ n. leaf_pieces_of before.value (rest_types before) n ts) two)

-- the pieces of one leaf more
pub pieces_more : (all after whole : List (List PieceView)) (before now : Rest) (size : ℕ) (ps : List CodePiece) (t : HwType) (ts : List HwType)
    → after ≡ all ++ map code_piece ps ∷ [] → size ≡ width t → IsCutOff before size ps now
    → all ++ map (map piece_view) (leaf_pieces_of before.value (rest_types before) before.skip (t ∷ ts)) ≡ whole
    → after ++ map (map piece_view) (leaf_pieces_of now.value (rest_types now) now.skip ts) ≡ whole
pieces_more all after whole before now size ps t ts pushed is cut left =
    let one : now.skip ≡ now.skip + 0 = omega arith in
    let two : before.skip + size + 0 ≡ before.skip + width t = omega (arith, is) in
    let others : leaf_pieces_of now.value (rest_types now) now.skip ts ≡ leaf_pieces_of before.value (rest_types before) (before.skip + width t) ts =
    ap (λ n. leaf_pieces_of now.value (rest_types now) n ts) one
    ∙ pieces_further ts before now size 0 cut.further
    ∙ ap (λ n. leaf_pieces_of before.value (rest_types before) n ts) two in
    ap (λ xs. xs ++ map (map piece_view) (leaf_pieces_of now.value (rest_types now) now.skip ts)) pushed
    ∙ append_assoc all (map code_piece ps ∷ []) (map (map piece_view) (leaf_pieces_of now.value (rest_types now) now.skip ts))
    ∙ ap (λ p. all ++ (p ∷ map (map piece_view) (leaf_pieces_of now.value (rest_types now) now.skip ts)))
    (cut.pieces_are ∙ ap (λ n. map piece_view (pieces before.value (rest_types before) before.skip n)) is)
    ∙ ap (λ pss. all ++ (map piece_view (pieces before.value (rest_types before) before.skip (width t)) ∷ map (map piece_view) pss)) others
    ∙ left

-- ---- how many operations they make

pub end_is : (cs : List CodePiece) (ps : List Piece) → map code_piece cs ≡ map piece_view ps → end_of cs ≡ joined_end ps
end_is [] [] e = refl
end_is [] (p ∷ ps) e = cc
end_is (c ∷ cs) [] e = cc
end_is (c ∷ []) (p ∷ []) e = refl
end_is (c ∷ []) (p ∷ q ∷ ps) e = cc
end_is (c ∷ d ∷ cs) (p ∷ []) e = cc
end_is (c ∷ d ∷ cs) (p ∷ q ∷ ps) e = ap (λ n. suc (suc n)) (counted cs ps (let rest : map code_piece cs ≡ map piece_view ps = cc in rest))
  where
    counted : (xs : List CodePiece) (ys : List Piece) → map code_piece xs ≡ map piece_view ys → length xs ≡ length ys
    counted [] [] e = refl
    counted [] (y ∷ ys) e = cc
    counted (x ∷ xs) [] e = cc
    counted (x ∷ xs) (y ∷ ys) e = ap suc (counted xs ys (let rest : map code_piece xs ≡ map piece_view ys = cc in rest))

pub ends_are : {V : Type 0} (items : V → List CodePiece) (vs : List V) (pss : List (List Piece)) → map (λ (v : V). map code_piece (items v)) vs ≡ map (map piece_view) pss
    → map (λ (v : V). end_of (items v)) vs ≡ map joined_end pss
ends_are items [] [] e = refl
ends_are items [] (ps ∷ pss) e = cc
ends_are items (v ∷ vs) [] e = cc
ends_are items (v ∷ vs) (ps ∷ pss) e =
    let here : map code_piece (items v) ≡ map piece_view ps = cc in
    let rest : map (λ w. map code_piece (items w)) vs ≡ map (map piece_view) pss = cc in
    ap₂ (λ n ns. n ∷ ns) (end_is (items v) ps here) (ends_are items vs pss rest)

-- nothing is left, where that is told
pub cutting_stops : (before : Rest) (size : ℕ) (ps : List CodePiece) (now : Rest) (left : ℕ) → left ≡ 0 → IsCutting before size ps now left → IsCutOff before size ps now
cutting_stops before size ps now left none h = cutting_done before size ps now (subst (IsCutting before size ps now) none h)
