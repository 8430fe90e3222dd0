-- What the operations of a body are given in one walk over them.
use Rattle.std.specs.Prelude.{ℕ, ◌+◌, List, [], ◌∷◌, ◌++◌, map, Option}
use Rattle.hw_model.specs.Types.{Name}
use Rattle.hw_model.specs.Design.{Port, Op}
use Rattle.name_legalise.specs.Legal.{legal_after}
use Rattle.verilog_expr.specs.declared.value_names.ValueNames.{ValueNames}
use Rattle.export_verilog.specs.Identifiers.{Emission, emission_of}
use Rattle.export_verilog.specs.Held.{op_name_hints}

-- the names that are wanted for the operations of a body from the i-th on, in order
abbrev pub body_name_hints : List Port → List Op → ℕ → List Op → List Name
body_name_hints ports os i [] = []
body_name_hints ports os i (x ∷ xs) = op_name_hints (emission_of ports os i x) x ++ body_name_hints ports os (i + 1) xs

-- what each operation from the i-th on is given by its role, and by the names that are taken before its own
abbrev pub body_given : {A : Type 0} → (List Name → Emission → Op → A) → List Port → List Op → List Name → ℕ → List Op → List A
body_given f ports os taken i [] = []
body_given f ports os taken i (x ∷ xs) =
    f taken (emission_of ports os i x) x ∷ body_given f ports os (taken ++ legal_after taken (op_name_hints (emission_of ports os i x) x)) (i + 1) xs

-- the names of the operations' results
abbrev pub result_lists : ValueNames → List (List (Option Name))
result_lists v = map (λ (l : _). l.names.items) v.ops.items
