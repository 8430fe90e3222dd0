-- Literals and sets of literals. A set is a list: its order and repetitions say nothing.
use Rattle.std.specs.Prelude.{ℕ, Bool, true, not, ◌==◌, ◌&&◌, List, [], ◌∷◌}
use Rattle.std.proofs.Math.Bool.{beq}
use Rattle.std.specs.List.{list_any}
use Rattle.resolution_proof.specs.declared.literal.Literal.{Literal}

-- the same variable with the other sign
abbrev pub negation : Literal → Literal
negation l = record { variable = l.variable; positive = not l.positive }

-- the literals have one variable and one sign
abbrev pub same : Literal → Literal → Bool
same a b = (a.variable == b.variable) && beq a.positive b.positive

-- the literal is of the variable
abbrev pub is_on : ℕ → Literal → Bool
is_on v l = l.variable == v

-- the set holds the literal
abbrev pub holds : List Literal → Literal → Bool
holds s l = list_any (λ k. same k l) s

-- the set holds a literal of the variable
abbrev pub mentions : List Literal → ℕ → Bool
mentions s v = list_any (λ k. is_on v k) s

-- no variable twice
abbrev pub is_once : List Literal → Bool
is_once [] = true
is_once (l ∷ ls) = not (mentions ls l.variable) && is_once ls
