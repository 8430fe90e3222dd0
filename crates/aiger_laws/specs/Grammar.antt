-- Which texts there are in the AIGER format, what tree each says, and what is wrong with other texts (AIGER 1.9, ASCII).
use Rattle.std.specs.Prelude.{◌≡◌, ℕ, ◌+◌, ◌<◌, Bool, not, cond, ◌&&◌, ◌||◌, ◌==◌, List, [], ◌∷◌, length, slice_get, Option, Some, None, Result, Ok, Err}
use Rattle.wiring.specs.Wiring.{Depends}
use Rattle.text_lines.specs.Lines.{lines}
use Rattle.aiger_laws.specs.declared.fault.Fault.{Fault}
use Rattle.aiger_laws.specs.declared.fault.Fault.TheVariants.{BadLine, NotDefined, GateCycle}
use Rattle.aiger_laws.specs.declared.tree.Latch.{Latch}
use Rattle.aiger_laws.specs.declared.tree.AndGate.{AndGate}
use Rattle.aiger_laws.specs.Trees.{Aiger, empty_tree, variable}
use Rattle.aiger_laws.specs.Drivers.{needs, HasNoCycle}
use Rattle.aiger_laws.specs.Fields.{fields}
use Rattle.aiger_laws.specs.Rows.{Header, header_of, row_added, has_more, is_defined, is_symbol, begins_comments}

-- the first line, from one of that number on, that is no symbol before comments begin
unfoldable pub no_symbol : ℕ → List (List ℕ) → Option ℕ
no_symbol n [] = None
no_symbol n (l ∷ ls) = cond (begins_comments l) None (cond (is_symbol l) (no_symbol (n + 1) ls) (Some n))

-- the tree, where all lines behind it may stand there
abbrev pub when_ended : Aiger → Option ℕ → Result Aiger (ℕ × Fault)
when_ended t None = Ok t
when_ended t (Some n) = Err (n, BadLine)

-- what further lines give after a line of that number, or its fault
abbrev pub goes_on : ℕ → Result Aiger Fault → (Aiger → Result Aiger (ℕ × Fault)) → Result Aiger (ℕ × Fault)
goes_on n (Err fault) more = Err (n, fault)
goes_on n (Ok t) more = more t

-- the tree that is read from lines behind those of a tree, of which the first has the number, or the first fault of a line with its number
unfoldable pub tree_from : Header → ℕ → Aiger → List (List ℕ) → Result Aiger (ℕ × Fault)
tree_from h n t [] = cond (has_more h t) (Err (n, BadLine)) (Ok t)
tree_from h n t (l ∷ ls) =
    cond (has_more h t) (goes_on n (row_added h t (fields l)) (λ s. tree_from h (n + 1) s ls)) (when_ended t (no_symbol n (l ∷ ls)))

-- the tree behind a header
abbrev pub tree_behind : Option Header → List (List ℕ) → Result Aiger (ℕ × Fault)
tree_behind None ls = Err (1, BadLine)
tree_behind (Some h) ls = tree_from h 2 empty_tree ls

-- the tree that lines say, or the first fault of a line
abbrev pub tree_of_lines : List (List ℕ) → Result Aiger (ℕ × Fault)
tree_of_lines [] = Err (1, BadLine)
tree_of_lines (l ∷ ls) = tree_behind (header_of (fields l)) ls

-- the tree that a text says line by line, or the first fault of a line
unfoldable pub tree_of_text : List ℕ → Result Aiger (ℕ × Fault)
tree_of_text bytes = tree_of_lines (lines bytes)

-- the literal is of a variable that is not defined; that of constants is always there
abbrev pub is_undefined : Aiger → ℕ → Bool
is_undefined t l = not (variable l == 0) && not (is_defined t (variable l))

-- the number of the first item that passes the test, where the first item has the number
abbrev pub first_from : {A : Type 0} → (A → Bool) → ℕ → List A → Option ℕ
first_from test n [] = None
first_from test n (a ∷ more) = cond (test a) (Some n) (first_from test (n + 1) more)

-- the first of two numbers that is there
abbrev pub or_later : Option ℕ → Option ℕ → Option ℕ
or_later None later = later
or_later (Some n) later = Some n

-- the line of the first latch, the first output and the first gate
abbrev pub latch_line : Aiger → ℕ
latch_line t = 2 + length t.inputs

abbrev pub output_line : Aiger → ℕ
output_line t = latch_line t + length t.latches

abbrev pub gate_line : Aiger → ℕ
gate_line t = output_line t + length t.outputs

-- the first line that uses a literal which no line defines
unfoldable pub undefined_line : Aiger → Option ℕ
undefined_line t =
    or_later (first_from (λ (l : Latch). is_undefined t l.next) (latch_line t) t.latches)
    (or_later (first_from (is_undefined t) (output_line t) t.outputs)
    (first_from (λ (g : AndGate). is_undefined t g.left || is_undefined t g.right) (gate_line t) t.gates))

-- the gate at that place needs itself, directly or through other gates
abbrev pub IsOnCycle : Aiger → ℕ → Type 0
IsOnCycle t k = (g : AndGate) × (slice_get t.gates k ≡ Some g) × Depends (needs t) (variable g.literal) (variable g.literal)

-- the gate at that place needs itself, and none before it does
pub record IsFirstOnCycle (t : Aiger) (k : ℕ) : Type 0 where
  pub on : IsOnCycle t k
  pub first : (j : ℕ) → j < k → IsOnCycle t j → ⊥

-- the text says the tree
pub record IsAiger (bytes : List ℕ) (t : Aiger) : Type 0 where
  pub reads : tree_of_text bytes ≡ Ok t
  pub defined : undefined_line t ≡ None
  pub acyclic : HasNoCycle t

-- the text says no tree: the first fault of a line, else the first line that uses what is not defined, else the first gate that needs itself
pub data IsFirstFault (bytes : List ℕ) : ℕ → Fault → Type 0 where
  in_line : (n : ℕ) (fault : Fault) → tree_of_text bytes ≡ Err (n, fault) → IsFirstFault bytes n fault
  undefined : (n : ℕ) (t : Aiger) → tree_of_text bytes ≡ Ok t → undefined_line t ≡ Some n → IsFirstFault bytes n NotDefined
  on_cycle : (k : ℕ) (t : Aiger) → tree_of_text bytes ≡ Ok t → undefined_line t ≡ None → IsFirstOnCycle t k → IsFirstFault bytes (gate_line t + k) GateCycle
