-- Fields that are 0, so many at most.
use Rattle.std.proofs.Common.{◌≡◌, ℕ, suc, ◌+◌, ◌-◌, ◌<◌, ◌&&◌, Bool, true, false, List, [], ◌∷◌, length, refl, sym, ap, ◌∙◌, arith}
use lib.Dec.{leb-suc-suc, leb-suc-zero}
use Rattle.std.specs.Prelude.{codes, nat_le}
use Rattle.std.specs.List.{list_all}
use Rattle.aiger_laws.specs.Fields.{fields}
use Rattle.aiger_laws.specs.Rows.{same_bytes}
use Rattle.aiger_reader.proofs.SaturatedRows.{fields_some}

-- at most n fields, which are 0
abbrev pub zeros_within : ℕ → List (List ℕ) → Bool
zeros_within n ws = nat_le (length ws) n && list_all (λ w. same_bytes w (codes "0")) ws

pub zero_taken : (n : ℕ) (w : List ℕ) (ws : List (List ℕ)) → same_bytes w (codes "0") ≡ true → zeros_within (suc n) (w ∷ ws) ≡ zeros_within n ws
zero_taken n w ws zero =
    ap (λ (t : Bool). t && (same_bytes w (codes "0") && list_all (λ v. same_bytes v (codes "0")) ws)) (leb-suc-suc (length ws) n)
    ∙ ap (λ (b : Bool). nat_le (length ws) n && (b && list_all (λ v. same_bytes v (codes "0")) ws)) zero

pub zero_at : (i : ℕ) (w : List ℕ) (ws : List (List ℕ)) → i < 4 → same_bytes w (codes "0") ≡ true → zeros_within (4 - i) (w ∷ ws) ≡ zeros_within (4 - (i + 1)) ws
zero_at i w ws below zero = let e : 4 - i ≡ suc (4 - (i + 1)) = omega arith in ap (λ (n : ℕ). zeros_within n (w ∷ ws)) e ∙ zero_taken (4 - (i + 1)) w ws zero

pub zero_refused : (n : ℕ) (w : List ℕ) (ws : List (List ℕ)) → same_bytes w (codes "0") ≡ false → zeros_within n (w ∷ ws) ≡ false
zero_refused n w ws other = ap (λ (b : Bool). nat_le (length (w ∷ ws)) n && (b && list_all (λ v. same_bytes v (codes "0")) ws)) other ∙ go (nat_le (length (w ∷ ws)) n)
  where
    go : (b : Bool) → b && false ≡ false
    go true = refl
    go false = refl

pub no_more_zeros : (bs : List ℕ) → zeros_within 0 (fields bs) ≡ false
no_more_zeros bs =
    let f = fields_some bs in
    ap (zeros_within 0) f.2 ∙ ap (λ (t : Bool). t && list_all (λ v. same_bytes v (codes "0")) (f.0 ∷ f.1)) (leb-suc-zero (length f.1))
