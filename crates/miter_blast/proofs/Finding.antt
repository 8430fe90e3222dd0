-- Modules by their symbols and numbers.
use Rattle.std.proofs.Common.{◌≡◌, Bool, true, false, ℕ, zero, suc, ◌<◌, List, [], ◌∷◌, map, length, slice_get, Option, Some, None, is_some, refl, sym, ap, ◌∙◌, arith}
use Rattle.std.specs.Prelude.{option_and_then}
use Rattle.hw_model.specs.Types.{Name}
use Rattle.hw_model.specs.Design.{Module, Design, find_module}
use Rattle.ir_store.specs.Designs.{StoredModule, numbered_module}
use Rattle.miter_blast.specs.Pairs.{IsFoundAt, Tells}

pub found_at : (d : Design) (s : Name) (x : Option ℕ) → option_and_then (slice_get d) x ≡ find_module d s → is_some x ≡ is_some (find_module d s) → IsFoundAt d s x
found_at d s None gives some = sym gives
found_at d s (Some n) gives some = go (find_module d s) refl gives some
  where
    go : (o : Option Module) → find_module d s ≡ o → slice_get d n ≡ o → is_some (Some n) ≡ is_some o → IsFoundAt d s (Some n)
    go None f g h = cc
    go (Some m) f g h = (m, g, f)

pub below_of : {A : Type 0} (xs : List A) (n : ℕ) (x : A) → slice_get xs n ≡ Some x → n < length xs
below_of [] n x at = cc
below_of (y ∷ xs) zero x at = omega arith
below_of (y ∷ xs) (suc n) x at = let rest = below_of xs n x at in omega (arith, rest)

pub stored_at : (ms : List StoredModule) (n : ℕ) (x : StoredModule) → Some x ≡ slice_get ms n → slice_get (map numbered_module ms) n ≡ Some (numbered_module x)
stored_at [] n x at = cc
stored_at (y ∷ ms) zero x at = let same : y ≡ x = cc in ap (λ z. Some (numbered_module z)) same
stored_at (y ∷ ms) (suc n) x at = stored_at ms n x at

-- what is found at a position that is known
pub same_there : (d : Design) (n : ℕ) (m k : Module) → slice_get d n ≡ Some m → slice_get d n ≡ Some k → m ≡ k
same_there d n m k p q = let e : Some m ≡ Some k = sym p ∙ q in cc

-- the module at the position of a symbol is the symbol's
pub found_here : (d : Design) (s : Name) (n : ℕ) (k : Module) → IsFoundAt d s (Some n) → slice_get d n ≡ Some k → find_module d s ≡ Some k
found_here d s n k found at = found.2 ∙ ap (λ z. Some z) (same_there d n found.0 k found.1 at)

pub not_told : (b : Bool) (P : Type 0) → Tells b P → b ≡ false → P → ⊥
not_told true P told is = cc
not_told false P told is = told

pub so_told : (b : Bool) (P : Type 0) → Tells b P → b ≡ true → P
so_told true P told is = told
so_told false P told is = cc
