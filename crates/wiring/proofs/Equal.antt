-- The test of two natural numbers for equality, where one is the next of another.
use Rattle.std.proofs.Common.{◌≡◌, ℕ, suc, Bool, true, false, nat_eq, refl, sym, ap, ◌∙◌, arith, eq-eqb, ne_eqb}
use Rattle.std.proofs.lemmas.Bool.{eqb-true, eqb-false}

-- a natural number is not the next of one
pub zero_suc : (n : ℕ) → nat_eq 0 (suc n) ≡ false
zero_suc n = ne_eqb 0 (suc n) (λ e. omega (arith, e))

pub suc_zero : (n : ℕ) → nat_eq (suc n) 0 ≡ false
suc_zero n = ne_eqb (suc n) 0 (λ e. omega (arith, e))

-- the next ones are compared as they are
pub suc_suc : (m n : ℕ) → nat_eq (suc m) (suc n) ≡ nat_eq m n
suc_suc m n = go (nat_eq m n) refl
  where
    go : (b : Bool) → nat_eq m n ≡ b → nat_eq (suc m) (suc n) ≡ nat_eq m n
    go true e = eq-eqb (suc m) (suc n) (ap suc (eqb-true m n e)) ∙ sym e
    go false e = ne_eqb (suc m) (suc n) (λ s. omega (arith, s, eqb-false m n e)) ∙ sym e
