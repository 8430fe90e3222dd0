-- The tree of a text in the AIGER format (A. Biere, The AIGER And-Inverter Graph (AIG) Format, report FMV 07/1, JKU Linz; AIGER 1.9, report FMV 11/2).
use Rattle.std.specs.Prelude.{ℕ, ◌/◌, ◌%◌, Bool, not, cond, ◌==◌, List, []}
use Rattle.aiger_laws.specs.declared.tree.Latch.{Latch}
use Rattle.aiger_laws.specs.declared.tree.AndGate.{AndGate}

-- the literals of inputs, the latches, the literals of outputs and the gates, in the order of the text
pub record Aiger : Type 0 where
  pub inputs : List ℕ
  pub latches : List Latch
  pub outputs : List ℕ
  pub gates : List AndGate

-- the tree without a line
abbrev pub empty_tree : Aiger
empty_tree = record { inputs = []; latches = []; outputs = []; gates = [] }

-- the variable of a literal
abbrev pub variable : ℕ → ℕ
variable l = l / 2

-- the literal is the negation of its variable
abbrev pub is_negated : ℕ → Bool
is_negated l = l % 2 == 1

-- the literal's bit, where its variable has the bit
abbrev pub signed_bit : ℕ → Bool → Bool
signed_bit l b = cond (is_negated l) (not b) b
