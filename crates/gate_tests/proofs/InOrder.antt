-- Gates whose order is tested gate by gate.
use Rattle.std.proofs.Common.{◌≡◌, sym, subst, ℕ, suc, ◌+◌, ◌<◌, ◌≤◌, List, length, drop, get_or, arith, drop-cons}
use Rattle.std.proofs.lemmas.List.{drop_all}
use Rattle.gates.specs.declared.signal.Gate.{Gate}
use Rattle.gates.specs.Order.{IsGateWithin, AreInOrder}

-- one more gate is in order
pub order_step : (n i : ℕ) (gates : List Gate) (d : Gate) → i < length gates → IsGateWithin n (get_or gates i d) → AreInOrder (n + 1) (drop (i + 1) gates) → AreInOrder n (drop i gates)
order_step n i gates d inside fits rest =
    let one : n + 1 ≡ suc n = omega arith in
    let next : i + 1 ≡ suc i = omega arith in
    subst (AreInOrder n) (sym (drop-cons gates i d inside))
    (fits, subst (λ k. AreInOrder k (drop (suc i) gates)) one (subst (λ k. AreInOrder (n + 1) (drop k gates)) next rest))

-- no gate is left
pub order_end : (n i : ℕ) (gates : List Gate) → length gates ≤ i → AreInOrder n (drop i gates)
order_end n i gates h = subst (AreInOrder n) (sym (drop_all i gates h)) tt
