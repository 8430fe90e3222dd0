-- Prefixes that hold no end of a line, and the locations after them.
use Rattle.std.proofs.Common.{add-one, ◌≡◌, ℕ, suc, ◌+◌, ◌-◌, ◌^◌, ◌≤◌, Bool, true, false, cond, List, [], ◌∷◌, take, length, min, refl, sym, ap, ◌∙◌, subst, arith, ◌==◌, length-take}
use Rattle.std.proofs.lemmas.Bool.{eqb-true}
use Rattle.diag.specs.Location.{further, next_location, location_after}
use Rattle.diag.specs.declared.refusal.Location.{Location}
use Rattle.mlir_lexer.specs.Runs.{run}
use Rattle.mlir_lexer.specs.Flat.{IsWithinLine}

-- none of these bytes ends a line
abbrev pub NoLineEnd : List ℕ → Type 0
NoLineEnd [] = Unit {0}
NoLineEnd (b ∷ bs) = ((b == 10) ≡ false) × NoLineEnd bs

further-twice : (location : Location) (m n : ℕ) → further (further location m) n ≡ further location (m + n)
further-twice location m n =
    let col : min (min (location.col + m) (2 ^ 32 - 1) + n) (2 ^ 32 - 1) ≡ min (location.col + (m + n)) (2 ^ 32 - 1) = omega arith
    in ap (λ (c : ℕ). let p : Location = record { line = location.line; col = c } in p) col

-- after bytes of one line the column is so much greater
location_after-line : (location : Location) (k : ℕ) (bytes : List ℕ) → NoLineEnd bytes → location_after (further location k) bytes ≡ further location (k + length bytes)
location_after-line location k [] h = let e : k ≡ k + 0 = omega arith in ap (further location) e
location_after-line location k (b ∷ bs) h =
    let step : next_location (further location k) b ≡ further location (k + 1) = rw h.0 (further-twice location k 1)
    in
    let count : k + 1 + length bs ≡ k + suc (length bs) = omega arith
    in ap (λ q. location_after q bs) step ∙ (location_after-line location (k + 1) bs h.1 ∙ ap (further location) count)

-- a byte that ends no line, and so many of those after it
pub IsWithinLine-cons : (b : ℕ) (bs : List ℕ) (n total : ℕ) → total ≡ n + 1 → (b == 10) ≡ false → n ≤ length bs → NoLineEnd (take n bs)
    → IsWithinLine total (b ∷ bs)
IsWithinLine-cons b bs n total e h within flat =
    let P : ℕ → Type 0 = λ t. IsWithinLine t (b ∷ bs)
    in
    subst P (sym (e ∙ add-one n)) (record {
      some = omega arith;
      within = omega (arith, within);
      along = λ location.
          let step : next_location location b ≡ further location 1 = rw h refl
          in
          let count : 1 + length (take n bs) ≡ suc n = rw (length-take n bs) (omega (arith, within))
          in ap (λ q. location_after q (take n bs)) step ∙ (location_after-line location 1 (take n bs) flat ∙ ap (further location) count);
    })

pub run-within : (test : ℕ → Bool) (bytes : List ℕ) → run test bytes ≤ length bytes
run-within test [] = omega arith
run-within test (b ∷ bs) = go (test b) (run-within test bs)
  where
    go : (t : Bool) → run test bs ≤ length bs → cond t (run test bs + 1) 0 ≤ suc (length bs)
    go true h = omega arith
    go false h = omega arith

-- a byte of a class without LF is not LF
not_line_end : (test : ℕ → Bool) (b : ℕ) → test 10 ≡ false → test b ≡ true → (b == 10) ≡ false
not_line_end test b h t = go (b == 10) refl
  where
    go : (e : Bool) → (b == 10) ≡ e → e ≡ false
    go false e = refl
    go true e = let same : b ≡ 10 = eqb-true b 10 e in cc (ap test same)

-- a run of a class without LF holds no end of a line
pub run-NoLineEnd : (test : ℕ → Bool) (bytes : List ℕ) → test 10 ≡ false → NoLineEnd (take (run test bytes) bytes)
run-NoLineEnd test [] h = tt
run-NoLineEnd test (b ∷ bs) h = go (test b) refl (run-NoLineEnd test bs h)
  where
    go : (t : Bool) → test b ≡ t → NoLineEnd (take (run test bs) bs) → NoLineEnd (take (cond t (run test bs + 1) 0) (b ∷ bs))
    go true t later = rw (add-one (run test bs)) (not_line_end test b h t, later)
    go false t later = tt
