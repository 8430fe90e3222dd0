-- Formulas in conjunctive normal form and assignments.
use Rattle.std.specs.Prelude.{ℕ, Bool, false, ◌==◌, ◌&&◌, ◌-◌, List, length, slice_index_or}
use Rattle.std.proofs.Math.Bool.{beq}
use Rattle.std.specs.List.{list_all, list_any}
use Rattle.resolution_proof.specs.declared.literal.Literal.{Literal}
use Rattle.resolution_proof.specs.Clause.{is_clause}

-- a number of variables, numbered from 1, and clauses
pub record Formula : Type 0 where
  pub variables : ℕ
  pub clauses : List (List Literal)

-- each of them is a clause over these variables
abbrev pub are_clauses : ℕ → List (List Literal) → Bool
are_clauses variables clauses = list_all (is_clause variables) clauses

-- the literal is true under the bits, of which the first is variable 1's
abbrev pub is_true : List Bool → Literal → Bool
is_true bits l = beq (slice_index_or bits (l.variable - 1) false) l.positive

-- a literal of the clause is true
abbrev pub makes_true : List Bool → List Literal → Bool
makes_true bits c = list_any (is_true bits) c

-- there is a bit for each variable, and each clause is true
abbrev pub satisfies : List Bool → Formula → Bool
satisfies bits f = (length bits == f.variables) && list_all (makes_true bits) f.clauses
