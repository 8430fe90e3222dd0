-- The clauses of gates: three a gate (Tseitin, 1968).
use Rattle.std.specs.Prelude.{ℕ, suc, ◌++◌, List, [], ◌∷◌}
use Rattle.resolution_proof.specs.declared.literal.Literal.{Literal}
use Rattle.gates.specs.declared.signal.Pin.{Pin}
use Rattle.gates.specs.declared.signal.Gate.{Gate}
use Rattle.gates.specs.Signals.{opposite, pin_of}

-- the pin as a literal of a clause
abbrev pub literal_of : Pin → Literal
literal_of p = record { variable = p.variable; positive = p.positive }

-- the pin and the variable's complement: where the variable is 1, so is the pin
abbrev pub implies_pin : ℕ → Pin → List Literal
implies_pin v p = literal_of (opposite (pin_of v)) ∷ literal_of p ∷ []

-- where both pins are 1, so is the variable
abbrev pub implied_by : ℕ → Gate → List Literal
implied_by v g = literal_of (pin_of v) ∷ literal_of (opposite g.first) ∷ literal_of (opposite g.second) ∷ []

-- the clauses that give the variable the gate's bit
abbrev pub gate_clauses : ℕ → Gate → List (List Literal)
gate_clauses v g = implies_pin v g.first ∷ implies_pin v g.second ∷ implied_by v g ∷ []

-- the clauses of the gates from the variable after n on
abbrev pub clauses_from : ℕ → List Gate → List (List Literal)
clauses_from n [] = []
clauses_from n (g ∷ gs) = gate_clauses (suc n) g ++ clauses_from (suc n) gs
