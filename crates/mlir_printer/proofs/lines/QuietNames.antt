-- The names that values are given hold no line feeds.
use Rattle.std.proofs.Common.{ℕ, zero, suc, ◌+◌, Bool, true, false, cond, nat_lt, List, [], ◌∷◌, ◌++◌, length, drop, map, Option, Some, None, decimal, arith}
use Rattle.hw_model.specs.Types.{Name}
use Rattle.hw_model.specs.Design.{Ref, Port, Op}
use Rattle.hw_model.specs.Design.Ref.{port, result, undefined}
use Rattle.fresh_names.specs.Fresh.{is_taken, with_suffix, free_from, free_name, fresh}
use Rattle.ir_store.specs.OperationViews.{OpParts}
use Rattle.mlir_operations.specs.OperandText.{ResultNames}
use Rattle.mlir_operations.specs.OperandText.ResultNames.{names, pack}
use Rattle.printing_laws.specs.NameHints.{name_count, is_pack, port_name_hint, port_name_hints, body_name_hints}
use Rattle.printing_laws.specs.Parts.{parts_in}
use Rattle.mlir_printer.specs.Elements.{ValueText, no_value}
use Rattle.mlir_printer.specs.Naming.{hints_or_numbers, names_given, first_name, name_value_text, firsts, value_at, value_in, port_value, value_named, listed_names, results_named, input_count}
use Rattle.mlir_printer.specs.Texts.{operations_shown}
use Rattle.mlir_printer.proofs.lines.QuietWords.{Quiet, both, none, either, byte_then, decimal_quiet, standing_quiet, Every}
use Rattle.mlir_printer.proofs.lines.QuietOperations.{AreQuiet, HasQuietNames, IsQuietOperation}

-- ---- free names

suffixed_quiet : (wanted : Name) (k : ℕ) → Quiet wanted → Quiet (with_suffix wanted k)
unfolding with_suffix
suffixed_quiet wanted k h = both h (byte_then 95 (decimal k) (omega arith) (decimal_quiet k))

from_quiet : (taken : List Name) (wanted : Name) (n k : ℕ) → Quiet wanted → Quiet (free_from taken wanted n k)
from_quiet taken wanted zero k h = suffixed_quiet wanted k h
from_quiet taken wanted (suc n) k h = either (is_taken taken (with_suffix wanted k)) (from_quiet taken wanted n (k + 1) h) (suffixed_quiet wanted k h)

free_quiet : (taken : List Name) (wanted : Name) → Quiet wanted → Quiet (free_name taken wanted)
unfolding free_name
free_quiet taken wanted h = either (is_taken taken wanted) (from_quiet taken wanted (length taken) 0 h) h

fresh_quiet : (taken ws : List Name) → Every Quiet ws → Every Quiet (fresh taken ws)
fresh_quiet taken [] h = tt
fresh_quiet taken (w ∷ ws) h = (free_quiet taken w h.0, fresh_quiet (taken ++ free_name taken w ∷ []) ws h.1)

hints_quiet : (n : ℕ) (ws : List (Option Name)) → Every Quiet (hints_or_numbers n ws)
hints_quiet n [] = tt
hints_quiet n (None ∷ ws) = (decimal_quiet n, hints_quiet (n + 1) ws)
hints_quiet n (Some name ∷ ws) = (standing_quiet name, hints_quiet n ws)

pub given_quiet : (ps : List Port) (os : List OpParts) → Every Quiet (names_given ps os)
given_quiet ps os = fresh_quiet [] (hints_or_numbers 0 (port_name_hints ps ++ body_name_hints os)) (hints_quiet 0 (port_name_hints ps ++ body_name_hints os))

-- ---- what is named

pub first_name_quiet : (ns : List Name) → Every Quiet ns → Quiet (first_name ns)
first_name_quiet [] h = none
first_name_quiet (n ∷ ns) h = h.0

pub names_left : (k : ℕ) (ns : List Name) → Every Quiet ns → Every Quiet (drop k ns)
names_left zero ns h = h
names_left (suc k) [] h = tt
names_left (suc k) (n ∷ ns) h = names_left k ns h.1

firsts_quiet : (k : ℕ) (ns : List Name) → Every Quiet ns → Every Quiet (firsts k ns)
firsts_quiet zero ns h = tt
firsts_quiet (suc k) ns h = (first_name_quiet ns h, firsts_quiet k (drop 1 ns) (names_left 1 ns h))

either_value : (b : Bool) (x y : ValueText) → Quiet x.name → Quiet y.name → Quiet (cond b x y).name
either_value true x y h g = h
either_value false x y h g = g

at_quiet : (o : OpParts) (ns : List Name) (k : ℕ) → Every Quiet ns → Quiet (value_at o ns k).name
at_quiet o ns k h =
    let one : ValueText = record { name = first_name ns; number = Some k } in
    let packed : ValueText = cond (nat_lt k (length o.results)) one no_value in
    let own : ValueText = cond (nat_lt k (name_count o)) (name_value_text (first_name (drop k ns))) no_value in
    either_value (is_pack o.kind (length o.results)) packed own
    (either_value (nat_lt k (length o.results)) one no_value (first_name_quiet ns h) none)
    (either_value (nat_lt k (name_count o)) (name_value_text (first_name (drop k ns))) no_value (first_name_quiet (drop k ns) (names_left k ns h)) none)

in_quiet : (ns : List Name) (os : List OpParts) (i k : ℕ) → Every Quiet ns → Quiet (value_in ns os i k).name
in_quiet ns [] i k h = none
in_quiet ns (o ∷ os) zero k h = at_quiet o ns k h
in_quiet ns (o ∷ os) (suc i) k h = in_quiet (drop (name_count o) ns) os i k (names_left (name_count o) ns h)

port_quiet : (ns : List Name) (ps : List Port) (j : ℕ) → Every Quiet ns → Quiet (port_value ns ps j).name
port_quiet ns [] j h = none
port_quiet ns (p ∷ ps) zero h = either_value p.is_output no_value (name_value_text (first_name ns)) none (first_name_quiet ns h)
port_quiet ns (p ∷ ps) (suc j) h = port_quiet (drop (length (port_name_hint p)) ns) ps j (names_left (length (port_name_hint p)) ns h)

pub named_quiet : (ns : List Name) (ps : List Port) (os : List OpParts) → Every Quiet ns → (r : Ref) → Quiet (value_named ns ps os r).name
named_quiet ns ps os h (port j) = port_quiet ns ps j h
named_quiet ns ps os h (result i k) = in_quiet (drop (input_count ps) ns) os i k (names_left (input_count ps) ns h)
named_quiet ns ps os h undefined = none

-- ---- operations

listed_names_quiet : (ns : List Name) → Every Quiet ns → HasQuietNames (listed_names ns)
listed_names_quiet [] h = tt
listed_names_quiet (n ∷ ns) h = h

either_names : (b : Bool) (x y : ResultNames) → HasQuietNames x → HasQuietNames y → HasQuietNames (cond b x y)
either_names true x y h g = h
either_names false x y h g = g

results_named_quiet : (o : OpParts) (ns : List Name) → Every Quiet ns → HasQuietNames (results_named o ns)
results_named_quiet o ns h =
    either_names (is_pack o.kind (length o.results)) (pack (first_name ns) (length o.results)) (listed_names (firsts (name_count o) ns)) (first_name_quiet ns h)
    (listed_names_quiet (firsts (name_count o) ns) (firsts_quiet (name_count o) ns h))

means_quiet : (means : Ref → ValueText) → ((r : Ref) → Quiet (means r).name) → (rs : List Ref) → AreQuiet (map means rs)
means_quiet means h [] = tt
means_quiet means h (r ∷ rs) = (h r, means_quiet means h rs)

pub operations_quiet : (means : Ref → ValueText) → ((r : Ref) → Quiet (means r).name) → (ns : List Name) (os : List Op) → Every Quiet ns → Every IsQuietOperation (operations_shown means ns os)
operations_quiet means h ns [] g = tt
operations_quiet means h ns (o ∷ os) g = (
  record { results = results_named_quiet (parts_in o) ns g; operands = means_quiet means h o.operands },
  operations_quiet means h (drop (name_count (parts_in o)) ns) os (names_left (name_count (parts_in o)) ns g),
)
