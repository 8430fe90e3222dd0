-- Marks of variables.
use Rattle.std.specs.Prelude.{◌≡◌, ℕ, Bool, not, cond, ◌==◌, ◌<◌, ◌+◌, ◌*◌, List, [], ◌∷◌, slice_index_or, Option, Some, None}
use Rattle.std.proofs.Math.Bool.{beq}
use Rattle.resolution_proof.specs.declared.literal.Literal.{Literal}
use Rattle.resolution_proof.specs.Literal.{negation, same, holds}
use Rattle.lrat_text.specs.declared.judged.Judged.{Judged}
use Rattle.lrat_text.specs.declared.judged.Judged.TheVariants.{Conflict, Forces, Neither}
use Rattle.lrat_text.specs.declared.marks.Marks.{Marks}

-- the mark of a variable with that value
abbrev pub mark_of : ℕ → Bool → ℕ
mark_of stamp positive = 2 * stamp + cond positive 1 0

-- the literal is true by its variable's mark
abbrev pub is_marked : Marks → Literal → Bool
is_marked marks l = slice_index_or marks.marks.items l.variable 0 == mark_of marks.stamp l.positive

-- exactly the literals of the set are true
abbrev pub Shows : Marks → List Literal → Type 0
Shows marks set = (l : Literal) → is_marked marks l ≡ holds set l

-- each mark is of a stamp below this one
abbrev pub IsBelow : ℕ → Marks → Type 0
IsBelow stamp marks = (k : ℕ) → slice_index_or marks.marks.items k 0 < 2 * stamp

-- what one literal that is left, or none, makes of a clause
abbrev pub left_over : Option Literal → Judged
left_over None = Conflict
left_over (Some l) = Forces l

-- the literal is the one that is left, or the first one
abbrev pub is_left : (Literal → Bool) → Option Literal → Literal → Bool
is_left truth None l = not (truth l)
is_left truth (Some one) l = same one l

-- a clause where the test tells which literals are true, and a literal of an earlier part is left
abbrev pub judged_by : (Literal → Bool) → Option Literal → List Literal → Judged
judged_by truth left [] = left_over left
judged_by truth left (l ∷ ls) =
    cond (truth (negation l)) (judged_by truth left ls) (cond (is_left truth left l) (judged_by truth (Some l) ls) Neither)

-- which literals are true once this one is
abbrev pub with_mark : (Literal → Bool) → Literal → Literal → Bool
with_mark truth m l = cond (m.variable == l.variable) (beq m.positive l.positive) (truth l)
