-- Where the values of an imported design stand: by sizes alone, so that an operation may use what stands behind it.
use Rattle.std.specs.Prelude.{ℕ, zero, suc, ◌+◌, Bool, true, false, cond, not, ◌&&◌, ◌==◌, List, [], ◌∷◌, ◌++◌, length, map}
use Rattle.std.specs.List.{list_any}
use Rattle.hw_model.specs.Design.{Ref, Op}
use Rattle.hw_model.specs.Design.Ref.{port, result, undefined}
use Rattle.aiger_laws.specs.declared.tree.Latch.{Latch}
use Rattle.aiger_laws.specs.declared.tree.AndGate.{AndGate}
use Rattle.aiger_laws.specs.Trees.{Aiger, variable, is_negated}
use Rattle.aiger_laws.specs.Drivers.{Driver, nothing, input_bit, held_bit, gate_bit, driver}
use Rattle.aiger_design.specs.Operations.{constant_op, register_op, and_op, output_op}

-- ---- what uses literals

-- what uses literals: the operation that it makes of their values, and the literals
pub record User : Type 0 where
  pub made : List Ref → Op
  pub literals : List ℕ

-- a register for each latch, of which the first has the number
abbrev pub latch_users : ℕ → List Latch → List User
latch_users k [] = []
latch_users k (l ∷ ls) = record { made = register_op k; literals = l.next ∷ [] } ∷ latch_users (suc k) ls

-- the operation of a gate
abbrev pub gate_user : AndGate → User
gate_user g = record { made = and_op; literals = g.left ∷ g.right ∷ [] }

-- the output
abbrev pub output_user : List ℕ → User
output_user outputs = record { made = output_op; literals = outputs }

-- what uses literals, in order: the latches, the gates as the text has them, the output
abbrev pub users : Aiger → List User
users t = latch_users 0 t.latches ++ (map gate_user t.gates ++ output_user t.outputs ∷ [])

-- ---- constants

-- one of them uses a literal that passes the test
abbrev pub uses : (ℕ → Bool) → List User → Bool
uses test us = list_any (λ (u : User). list_any test u.literals) us

-- a literal is negated, so that `true` stands in the body
abbrev pub needs_true : Aiger → Bool
needs_true t = uses is_negated (users t)

-- a literal is 0, so that `false` stands in the body
abbrev pub needs_false : Aiger → Bool
needs_false t = uses (λ l. l == 0) (users t)

-- the constants of the body
abbrev pub constants : Aiger → List Op
constants t = cond (needs_true t) (constant_op true ∷ []) [] ++ cond (needs_false t) (constant_op false ∷ []) []

-- `true`, or `false`, which stands behind `true` where that is there
abbrev pub constant_ref : Aiger → Bool → Ref
constant_ref t true = result 0 0
constant_ref t false = result (cond (needs_true t) 1 0) 0

-- ---- positions

-- a literal that negates a variable, so that an inverter stands before its user; the negated constant is a constant
abbrev pub is_inverted : ℕ → Bool
is_inverted l = is_negated l && not (variable l == 0)

-- how many inverters stand before a user of these literals
abbrev pub inverter_count : List ℕ → ℕ
inverter_count [] = 0
inverter_count (l ∷ ls) = cond (is_inverted l) (suc (inverter_count ls)) (inverter_count ls)

-- how many operations a user takes: its inverters and its own one
abbrev pub size : User → ℕ
size u = suc (inverter_count u.literals)

-- where the operations of user k begin, those of the first one beginning at p
abbrev pub start_from : ℕ → List User → ℕ → ℕ
start_from p us zero = p
start_from p [] (suc k) = p
start_from p (u ∷ us) (suc k) = start_from (p + size u) us k

-- where the own operation of user k stands
abbrev pub end_from : ℕ → List User → ℕ → ℕ
end_from p [] k = p
end_from p (u ∷ us) zero = p + inverter_count u.literals
end_from p (u ∷ us) (suc k) = end_from (p + size u) us k

-- the result of user k
abbrev pub user_ref : Aiger → ℕ → Ref
user_ref t k = result (end_from (length (constants t)) (users t) k) 0

-- the port of input k: the clock stands before inputs where there are latches
abbrev pub input_port : List Latch → ℕ → Ref
input_port [] k = port k
input_port (l ∷ ls) k = port (suc k)

-- the value that a driver gives
abbrev pub driver_ref : Aiger → Driver → Ref
driver_ref t nothing = undefined
driver_ref t (input_bit k) = input_port t.latches k
driver_ref t (held_bit k) = user_ref t k
driver_ref t (gate_bit k) = user_ref t (length t.latches + k)

-- the value that is a variable
abbrev pub variable_ref : Aiger → ℕ → Ref
variable_ref t v = driver_ref t (driver t v)

-- the value that is a literal without an inverter
abbrev pub plain_ref : Aiger → ℕ → Ref
plain_ref t l = cond (variable l == 0) (constant_ref t (is_negated l)) (variable_ref t (variable l))

-- the values that are literals, where their inverters begin at p
abbrev pub operands : Aiger → ℕ → List ℕ → List Ref
operands t p [] = []
operands t p (l ∷ ls) = cond (is_inverted l) (result p 0 ∷ operands t (suc p) ls) (plain_ref t l ∷ operands t p ls)
