-- The names of values: the input ports first, then the results in the order of the body; none stands twice.
use Rattle.std.specs.Prelude.{ℕ, zero, suc, ◌+◌, cond, nat_lt, List, [], ◌∷◌, ◌++◌, length, drop, Option, Some, None, decimal}
use Rattle.hw_model.specs.Types.{Name}
use Rattle.hw_model.specs.Design.{Ref, Port}
use Rattle.hw_model.specs.Design.Ref.{port, result, undefined}
use Rattle.fresh_names.specs.Fresh.{fresh}
use Rattle.ir_store.specs.OperationViews.{OpParts}
use Rattle.mlir_operations.specs.OperandText.{ResultNames}
use Rattle.mlir_operations.specs.OperandText.ResultNames.{no_names, names, pack}
use Rattle.mlir_printer.specs.Strings.{standing}
use Rattle.printing_laws.specs.NameHints.{body_name_hints, is_pack, name_count, port_name_hint, port_name_hints}
use Rattle.mlir_printer.specs.Elements.{ValueText, no_value}

-- how many input ports there are
abbrev pub input_count : List Port → ℕ
input_count ps = length (port_name_hints ps)

-- the names that are wanted: what wants nothing wants the next number
abbrev pub hints_or_numbers : ℕ → List (Option Name) → List Name
hints_or_numbers n [] = []
hints_or_numbers n (None ∷ ws) = decimal n ∷ hints_or_numbers (n + 1) ws
hints_or_numbers n (Some name ∷ ws) = standing name ∷ hints_or_numbers n ws

-- the names of ports and results, in order
abbrev pub names_given : List Port → List OpParts → List Name
names_given ps os = fresh [] (hints_or_numbers 0 (port_name_hints ps ++ body_name_hints os))

-- ---- what is named

-- the first of some names, where there is one
abbrev pub first_name : List Name → Name
first_name [] = []
first_name (n ∷ ns) = n

-- a value of this name
abbrev pub name_value_text : Name → ValueText
name_value_text name = record { name = name; number = None }

-- so many names, of which the first ones are these
abbrev pub firsts : ℕ → List Name → List Name
firsts zero ns = []
firsts (suc n) ns = first_name ns ∷ firsts n (drop 1 ns)

-- result k of an operation whose names begin so
abbrev pub value_at : OpParts → List Name → ℕ → ValueText
value_at o ns k =
    cond (is_pack o.kind (length o.results))
    (cond (nat_lt k (length o.results)) (record { name = first_name ns; number = Some k }) no_value)
    (cond (nat_lt k (name_count o)) (name_value_text (first_name (drop k ns))) no_value)

-- result k of the i-th operation, where the names of the operations begin so
abbrev pub value_in : List Name → List OpParts → ℕ → ℕ → ValueText
value_in ns [] i k = no_value
value_in ns (o ∷ os) zero k = value_at o ns k
value_in ns (o ∷ os) (suc i) k = value_in (drop (name_count o) ns) os i k

-- the value of the j-th port, where the names of the ports begin so
abbrev pub port_value : List Name → List Port → ℕ → ValueText
port_value ns [] j = no_value
port_value ns (p ∷ ps) zero = cond p.is_output no_value (name_value_text (first_name ns))
port_value ns (p ∷ ps) (suc j) = port_value (drop (length (port_name_hint p)) ns) ps j

-- a value, where the names are given; what nothing defines has no name
abbrev pub value_named : List Name → List Port → List OpParts → Ref → ValueText
value_named ns ps os (port j) = port_value ns ps j
value_named ns ps os (result i k) = value_in (drop (input_count ps) ns) os i k
value_named ns ps os undefined = no_value

-- ---- how results are named

-- names one by one
abbrev pub listed_names : List Name → ResultNames
listed_names [] = no_names
listed_names (n ∷ ns) = names n ns

-- the names of an operation's results, where the names begin so
abbrev pub results_named : OpParts → List Name → ResultNames
results_named o ns = cond (is_pack o.kind (length o.results)) (pack (first_name ns) (length o.results)) (listed_names (firsts (name_count o) ns))
