-- The numbers of the public modules of a design, one after another.
use Rattle.std.proofs.Common.{◌≡◌, refl, sym, ap, ◌∙◌, ℕ, zero, suc, ◌+◌, ◌≤◌, Bool, true, false, not, ◌&&◌, cond, List, [], ◌∷◌, ◌++◌, length, drop, slice_get, Option, Some, None, is_some, arith}
use Rattle.wiring.proofs.Lists.{drop_some}
use Rattle.hw_model.specs.Design.{Module, Design}
use Rattle.and_gates.specs.Clocks.{listed}
use Rattle.aiger_export.specs.PublicModules.{public_from, only_one, only_public}

-- ---- modules one after another

-- what is found in the modules before one, and behind them what the others give, is the whole
abbrev pub IsFound : Design → ℕ → Option ℕ → Type 0
IsFound d i found = public_from 0 d ≡ listed found ++ public_from i (drop i d)

second_one : (found : Option ℕ) (i : ℕ) (ns : List ℕ) → is_some found ≡ true → only_one (listed found ++ i ∷ ns) ≡ None
second_one None i ns some = cc
second_one (Some n) i ns some = refl

module _ (d : Design) (i : ℕ) (m : Module) (at : slice_get d i ≡ Some m) (found : Option ℕ) (have : IsFound d i found) where
  abbrev rest : List ℕ
  rest = public_from (suc i) (drop (suc i) d)

  -- this module and those behind it
  next : public_from 0 d ≡ listed found ++ cond m.is_private rest (i ∷ rest)
  next = have ∙ ap (λ ms. listed found ++ public_from i ms) (drop_some d i m at)

  pub several : (not m.is_private && is_some found) ≡ true → only_public d ≡ None
  several both = ap only_one next ∙ go m.is_private both
    where
      go : (b : Bool) → (not b && is_some found) ≡ true → only_one (listed found ++ cond b rest (i ∷ rest)) ≡ None
      go true h = cc
      go false h = second_one found i rest h

  pub goes_on : (not m.is_private && is_some found) ≡ false → (more : Option ℕ) → more ≡ cond m.is_private found (Some i) → IsFound d (i + 1) more
  goes_on one more is =
      let e : suc i ≡ i + 1 = omega arith in
      next ∙ go m.is_private found one ∙ ap (λ f. listed f ++ rest) (sym is) ∙ ap (λ k. listed more ++ public_from k (drop k d)) e
    where
      go : (b : Bool) (f : Option ℕ) → (not b && is_some f) ≡ false → listed f ++ cond b rest (i ∷ rest) ≡ listed (cond b f (Some i)) ++ rest
      go true f h = refl
      go false None h = refl
      go false (Some n) h = cc

nothing_left : (d : Design) (i : ℕ) → length d ≤ i → drop i d ≡ []
nothing_left [] zero past = refl
nothing_left [] (suc i) past = refl
nothing_left (m ∷ ms) zero past = absurd (omega (arith, past))
nothing_left (m ∷ ms) (suc i) past = nothing_left ms i (omega (arith, past))

pub found_at_end : (d : Design) (i : ℕ) (found : Option ℕ) → length d ≤ i → IsFound d i found → found ≡ only_public d
found_at_end d i found past have = sym (ap only_one (have ∙ ap (λ ms. listed found ++ public_from i ms) (nothing_left d i past)) ∙ go found)
  where
    go : (f : Option ℕ) → only_one (listed f ++ []) ≡ f
    go None = refl
    go (Some n) = refl

-- ---- the module of the number

first_there : (d : Design) (k n : ℕ) (ns : List ℕ) → public_from k d ≡ n ∷ ns → (i : ℕ) × (m : Module) × (k + i ≡ n) × (slice_get d i ≡ Some m)
first_there [] k n ns is = cc
first_there (m ∷ ms) k n ns is = go m.is_private is (λ later. first_there ms (suc k) n ns later)
  where
    go : (b : Bool) → cond b (public_from (suc k) ms) (k ∷ public_from (suc k) ms) ≡ n ∷ ns
        → (public_from (suc k) ms ≡ n ∷ ns → (i : ℕ) × (x : Module) × (suc k + i ≡ n) × (slice_get ms i ≡ Some x))
        → (i : ℕ) × (x : Module) × (k + i ≡ n) × (slice_get (m ∷ ms) i ≡ Some x)
    go true h later = let found = later h in (suc found.0, found.1, omega (arith, found.2), found.3)
    go false h later = let same : k ≡ n = cc in (0, m, omega (arith, same), refl)

from_one : (xs : List ℕ) (n : ℕ) → only_one xs ≡ Some n → xs ≡ n ∷ []
from_one [] n is = cc
from_one (x ∷ []) n is = let same : x ≡ n = cc in ap (λ y. y ∷ []) same
from_one (x ∷ y ∷ xs) n is = cc

-- the only public module is there
pub public_there : (d : Design) (n : ℕ) → only_public d ≡ Some n → (m : Module) × (slice_get d n ≡ Some m)
public_there d n only =
    let found = first_there d 0 n [] (from_one (public_from 0 d) n only) in
    let same : found.0 ≡ n = omega (arith, found.2) in
    (found.1, ap (slice_get d) (sym same) ∙ found.3)
