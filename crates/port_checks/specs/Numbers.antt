-- The numbers of ports among those of all modules of a design.
use Rattle.std.specs.Prelude.{◌≡◌, ℕ, suc, ◌+◌, ◌-◌, ◌<◌, cond, nat_lt, List, [], ◌∷◌, ◌++◌, length, take, Option, Some, None, slice_get, option_to_list, option_and_then}
use Rattle.hw_model.specs.Design.{Design}
use Rattle.port_checks.specs.declared.named.PortPosition.{PortPosition}
use Rattle.port_checks.specs.ResetPorts.{port_count}

-- where the ports of each module begin, and where the last ones end
pub record AreStarts (d : Design) (starts : List ℕ) : Type 0 where
  pub count : length starts ≡ suc (length d)
  pub each : (i : ℕ) → i < length starts → slice_get starts i ≡ Some (port_count (take i d))

-- the number of port j of module i, where there is such a port
abbrev pub port_number : List ℕ → ℕ → ℕ → Option ℕ
port_number starts i j =
    option_and_then (λ start. option_and_then (λ end. cond (nat_lt j (end - start)) (Some (start + j)) None) (slice_get starts (i + 1))) (slice_get starts i)

-- the numbers of ports
abbrev pub numbers_of : List ℕ → List PortPosition → List ℕ
numbers_of starts [] = []
numbers_of starts (p ∷ ps) = option_to_list (port_number starts p.owner p.port) ++ numbers_of starts ps
