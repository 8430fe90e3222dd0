-- The lines of a text: the header, what defines and uses literals, symbols and comments (AIGER 1.9).
use Rattle.std.specs.Prelude.{ℕ, Bool, true, false, cond, ◌+◌, ◌*◌, ◌^◌, ◌&&◌, ◌||◌, ◌==◌, nat_lt, nat_le, nat_eq, List, [], ◌∷◌, ◌++◌, length, codes, Option, Some, None, is_some, Result, Ok, Err}
use Rattle.std.specs.List.{list_any, list_all}
use Rattle.std.specs.Cmp.Lexicographic.{pointwise}
use Rattle.aiger_laws.specs.declared.fault.Fault.{Fault}
use Rattle.aiger_laws.specs.declared.fault.Fault.TheVariants.{BadLine, OutOfRange, DefinedTwice}
use Rattle.aiger_laws.specs.declared.tree.Latch.{Latch}
use Rattle.aiger_laws.specs.declared.tree.AndGate.{AndGate}
use Rattle.aiger_laws.specs.Trees.{Aiger, variable, is_negated}
use Rattle.aiger_laws.specs.Drivers.{Driver, nothing, input_bit, held_bit, gate_bit, driver}
use Rattle.aiger_laws.specs.Fields.{fields, numeral}

-- two lists of bytes are equal
abbrev pub same_bytes : List ℕ → List ℕ → Bool
same_bytes x y = pointwise nat_eq x y

-- what the first line says: the greatest variable, and how many lines of each sort follow
pub record Header : Type 0 where
  pub most : ℕ
  pub inputs : ℕ
  pub latches : ℕ
  pub outputs : ℕ
  pub gates : ℕ

-- both numbers, if they are there
abbrev pub both : Option ℕ → Option ℕ → Option (ℕ × ℕ)
both None b = None
both (Some a) None = None
both (Some a) (Some b) = Some (a, b)

-- the numbers of a header, if they are there
abbrev pub counts : Option (ℕ × ℕ) → Option (ℕ × ℕ) → Option ℕ → Option Header
counts None outer gates = None
counts (Some first) None gates = None
counts (Some first) (Some second) None = None
counts (Some first) (Some second) (Some gates) = Some (record { most = first.0; inputs = first.1; latches = second.0; outputs = second.1; gates = gates })

-- the greatest variable is below 2^31, and there are as many variables as literals are defined
abbrev pub is_ample : Header → Bool
is_ample h = nat_lt h.most (2 ^ 31) && nat_le (h.inputs + h.latches + h.gates) h.most

-- the header, where its numbers fit
abbrev pub if_ample : Option Header → Option Header
if_ample None = None
if_ample (Some h) = cond (is_ample h) (Some h) None

-- at most four further fields, which are 0: the format's properties, constraints, justice and fairness
abbrev pub are_zeros : List (List ℕ) → Bool
are_zeros ws = nat_le (length ws) 4 && list_all (λ w. same_bytes w (codes "0")) ws

-- the header that the fields of the first line say
unfoldable pub header_of : List (List ℕ) → Option Header
header_of (mark ∷ m ∷ i ∷ l ∷ o ∷ a ∷ more) =
    cond (same_bytes mark (codes "aag") && are_zeros more) (if_ample (counts (both (numeral m) (numeral i)) (both (numeral l) (numeral o)) (numeral a))) None
header_of ws = None

-- the only number of a line
abbrev pub one_number : List (List ℕ) → Option ℕ
one_number (a ∷ []) = numeral a
one_number ws = None

-- a latch of two numbers, if they are there
abbrev pub latch_by : Option (ℕ × ℕ) → Option Latch
latch_by None = None
latch_by (Some p) = Some (record { literal = p.0; next = p.1 })

-- how a latch begins: with 0, with 1 or, as its own literal says, with either
abbrev pub is_reset : List ℕ → List ℕ → Bool
is_reset literal w = same_bytes w (codes "0") || (same_bytes w (codes "1") || same_bytes w literal)

-- the latch of a line: its literal, the next one, and maybe how it begins
abbrev pub latch_of : List (List ℕ) → Option Latch
latch_of (a ∷ b ∷ []) = latch_by (both (numeral a) (numeral b))
latch_of (a ∷ b ∷ c ∷ []) = cond (is_reset a c) (latch_by (both (numeral a) (numeral b))) None
latch_of ws = None

-- a gate of three numbers, if they are there
abbrev pub gate_by : Option (ℕ × ℕ) → Option ℕ → Option AndGate
gate_by None right = None
gate_by (Some p) None = None
gate_by (Some p) (Some right) = Some (record { literal = p.0; left = p.1; right = right })

-- the gate of a line: its literal and its two operands
abbrev pub gate_of : List (List ℕ) → Option AndGate
gate_of (a ∷ b ∷ c ∷ []) = gate_by (both (numeral a) (numeral b)) (numeral c)
gate_of ws = None

-- the literal is above those of the greatest variable
abbrev pub is_beyond : ℕ → ℕ → Bool
is_beyond most l = nat_lt (2 * most + 1) l

-- a literal that can not be defined: above those of the greatest variable, odd, or below 2
abbrev pub is_undefinable : ℕ → ℕ → Bool
is_undefinable most l = is_beyond most l || (is_negated l || nat_lt l 2)

-- something gives the variable its bit
abbrev pub is_driven : Driver → Bool
is_driven nothing = false
is_driven (input_bit k) = true
is_driven (held_bit k) = true
is_driven (gate_bit k) = true

-- the variable is defined
abbrev pub is_defined : Aiger → ℕ → Bool
is_defined t v = is_driven (driver t v)

-- the fault of a line that defines a literal and uses others, behind the lines of a tree
abbrev pub defining_fault : ℕ → Aiger → ℕ → List ℕ → Option Fault
defining_fault most t l used =
    cond (is_undefinable most l || list_any (is_beyond most) used) (Some OutOfRange) (cond (is_defined t (variable l)) (Some DefinedTwice) None)

-- the tree, where there is no fault
abbrev pub unless : Option Fault → Aiger → Result Aiger Fault
unless None t = Ok t
unless (Some fault) t = Err fault

-- the tree with one more input
abbrev pub with_input : Aiger → ℕ → Aiger
with_input t l = record t { inputs = t.inputs ++ l ∷ [] }

-- the tree with one more latch
abbrev pub with_latch : Aiger → Latch → Aiger
with_latch t l = record t { latches = t.latches ++ l ∷ [] }

-- the tree with one more output
abbrev pub with_output : Aiger → ℕ → Aiger
with_output t l = record t { outputs = t.outputs ++ l ∷ [] }

-- the tree with one more gate
abbrev pub with_gate : Aiger → AndGate → Aiger
with_gate t g = record t { gates = t.gates ++ g ∷ [] }

-- an input behind the lines of a tree
abbrev pub input_added : ℕ → Aiger → Option ℕ → Result Aiger Fault
input_added most t None = Err BadLine
input_added most t (Some l) = unless (defining_fault most t l []) (with_input t l)

-- a latch behind the lines of a tree
abbrev pub latch_added : ℕ → Aiger → Option Latch → Result Aiger Fault
latch_added most t None = Err BadLine
latch_added most t (Some l) = unless (defining_fault most t l.literal (l.next ∷ [])) (with_latch t l)

-- an output behind the lines of a tree
abbrev pub output_added : ℕ → Aiger → Option ℕ → Result Aiger Fault
output_added most t None = Err BadLine
output_added most t (Some l) = cond (is_beyond most l) (Err OutOfRange) (Ok (with_output t l))

-- a gate behind the lines of a tree
abbrev pub gate_added : ℕ → Aiger → Option AndGate → Result Aiger Fault
gate_added most t None = Err BadLine
gate_added most t (Some g) = unless (defining_fault most t g.literal (g.left ∷ g.right ∷ [])) (with_gate t g)

-- a line behind those of a tree: an input, a latch, an output or a gate, the first of these of which the header says more
unfoldable pub row_added : Header → Aiger → List (List ℕ) → Result Aiger Fault
row_added h t ws =
    cond (nat_lt (length t.inputs) h.inputs) (input_added h.most t (one_number ws))
    (cond (nat_lt (length t.latches) h.latches) (latch_added h.most t (latch_of ws))
    (cond (nat_lt (length t.outputs) h.outputs) (output_added h.most t (one_number ws))
    (gate_added h.most t (gate_of ws))))

-- the header says more lines than the tree has
unfoldable pub has_more : Header → Aiger → Bool
has_more h t =
    nat_lt (length t.inputs) h.inputs || (nat_lt (length t.latches) h.latches || (nat_lt (length t.outputs) h.outputs || nat_lt (length t.gates) h.gates))

-- the letter of an input, a latch or an output
abbrev pub is_symbol_letter : ℕ → Bool
is_symbol_letter b = (b == 105) || ((b == 108) || (b == 111))

-- a number, and something behind a blank
abbrev pub is_named : List (List ℕ) → Bool
is_named (number ∷ name ∷ more) = is_some (numeral number)
is_named (number ∷ []) = false
is_named [] = false

-- a symbol: a letter, a number, a blank and a name
abbrev pub is_symbol : List ℕ → Bool
is_symbol [] = false
is_symbol (b ∷ bs) = is_symbol_letter b && is_named (fields bs)

-- the line that comments begin at
abbrev pub begins_comments : List ℕ → Bool
begins_comments line = same_bytes line (codes "c")
