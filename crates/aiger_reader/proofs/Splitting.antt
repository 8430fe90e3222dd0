-- Fields, taken from the front of a line.
use Rattle.std.proofs.Common.{◌≡◌, ℕ, suc, ◌+◌, ◌<◌, ◌≤◌, Bool, true, false, cond, List, [], ◌∷◌, length, eqb, take, drop, refl, sym, ◌∙◌, ap, subst, arith, add-one}
use Rattle.text_lines.specs.Lines.{onto}
use Rattle.aiger_laws.specs.Fields.{fields}
use Rattle.aiger_laws.specs.Rows.{one_number, latch_of, gate_of}
use Rattle.aiger_reader.specs.Saturated.{field_length}

-- the bytes before the first blank are the first field
pub field_split : (line : List ℕ) → field_length line < length line → fields line ≡ take (field_length line) line ∷ fields (drop (field_length line + 1) line)
unfolding fields
field_split [] h = absurd (omega (arith, h))
field_split (b ∷ bs) h = step (field_split bs) (eqb b 32) h
  where
    step : (field_length bs < length bs → fields bs ≡ take (field_length bs) bs ∷ fields (drop (field_length bs + 1) bs)) → (t : Bool) → cond t 0 (field_length bs + 1) < length (b ∷ bs)
        → cond t ([] ∷ fields bs) (onto b (fields bs)) ≡ take (cond t 0 (field_length bs + 1)) (b ∷ bs) ∷ fields (drop (cond t 0 (field_length bs + 1) + 1) (b ∷ bs))
    step ih true g = refl
    step ih false g =
        let e : field_length bs + 1 ≡ suc (field_length bs) = add-one (field_length bs) in
        let inner : field_length bs < length bs = omega (arith, g) in
        ap (onto b) (ih inner)
        ∙ subst (λ (n : ℕ). (b ∷ take (field_length bs) bs) ∷ fields (drop (field_length bs + 1) bs) ≡ take n (b ∷ bs) ∷ fields (drop (n + 1) (b ∷ bs))) (sym e)
        (ap (λ (n : ℕ). (b ∷ take (field_length bs) bs) ∷ fields (drop n (b ∷ bs))) (sym (add-one (suc (field_length bs)) ∙ ap suc (sym e))))

-- bytes without a blank are one field
pub field_whole : (line : List ℕ) → length line ≤ field_length line → fields line ≡ line ∷ []
unfolding fields
field_whole [] h = refl
field_whole (b ∷ bs) h = step (field_whole bs) (eqb b 32) h
  where
    step : (length bs ≤ field_length bs → fields bs ≡ bs ∷ []) → (t : Bool) → length (b ∷ bs) ≤ cond t 0 (field_length bs + 1) → cond t ([] ∷ fields bs) (onto b (fields bs)) ≡ (b ∷ bs) ∷ []
    step ih true g = absurd (omega (arith, g))
    step ih false g = ap (onto b) (ih (omega (arith, g)))
