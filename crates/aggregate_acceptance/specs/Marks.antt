-- Marks of ports, as those of their leaves (CIRCT, HW dialect: `hw-lower-aggregates`).
use Rattle.std.specs.Prelude.{ℕ, suc, ◌-◌, Bool, false, cond, nat_lt, List, [], ◌∷◌, length, Option, Some, None}
use Rattle.hw_model.specs.Design.{Port, Module, Design, find_module}
use Rattle.aggregate_laws.specs.Leaves.{leaf_ports}

-- of which of some ports the leaf of a number is
abbrev pub port_of_leaf : List Port → ℕ → ℕ
port_of_leaf [] n = 0
port_of_leaf (q ∷ ps) n = cond (nat_lt n (length (leaf_ports q))) 0 (suc (port_of_leaf ps (n - length (leaf_ports q))))

-- whether the port has a mark of which a leaf is, of a module that may be there
abbrev pub has_leaf_mark : (Module → ℕ → Bool) → ℕ → Option Module → Bool
has_leaf_mark marked n None = false
has_leaf_mark marked n (Some m) = marked m (port_of_leaf m.ports n)

-- a leaf has the mark of its port, in the module of the same symbol
abbrev pub leaf_marks : Design → (Module → ℕ → Bool) → Module → ℕ → Bool
leaf_marks d marked m n = has_leaf_mark marked n (find_module d m.symbol)
