-- Words cut off one after another.
use Rattle.std.proofs.Common.{◌≡◌, ℕ, zero, suc, ◌+◌, ◌<◌, ◌≤◌, Bool, List, [], ◌∷◌, take, drop, length, get_or, min, refl, sym, ap, ◌∙◌, arith, length-take, inl, inr}
use Rattle.wiring.specs.Lists.{total}
use Rattle.wiring.specs.Wiring.{In}

-- what is left from a position on
pub dropped_at : (ws : List ℕ) (i : ℕ) → i < length ws → drop i ws ≡ get_or ws i 0 ∷ drop (i + 1) ws
dropped_at [] i below = absurd (omega arith)
dropped_at (w ∷ ws) zero below = refl
dropped_at (w ∷ ws) (suc i) below = let next : suc i + 1 ≡ suc (i + 1) = omega arith in dropped_at ws i (omega arith) ∙ ap (λ n. get_or ws i 0 ∷ drop n (w ∷ ws)) (sym next)

pub member_at : (ws : List ℕ) (i : ℕ) → i < length ws → In (get_or ws i 0) ws
member_at [] i below = absurd (omega arith)
member_at (w ∷ ws) zero below = inl refl
member_at (w ∷ ws) (suc i) below = inr (member_at ws i (omega arith))

-- there are so many bits left
pub enough_at : (ws : List ℕ) (i : ℕ) (bits : List Bool) → i < length ws → total (drop i ws) ≤ length bits → (get_or ws i 0 ≤ length bits) × (length (take (get_or ws i 0) bits) ≡ get_or ws i 0)
enough_at ws i bits below enough =
    let parts = ap total (dropped_at ws i below) in
    let few : get_or ws i 0 ≤ length bits = omega (arith, parts, enough) in
    let l : length (take (get_or ws i 0) bits) ≡ min (get_or ws i 0) (length bits) = length-take (get_or ws i 0) bits in
    (few, omega (arith, l, few))
