-- The names of a module's things, as code has them.
use Rattle.std.specs.Prelude.{◌≡◌, ℕ, zero, suc, Bool, cond, is_some, List, [], ◌∷◌, ◌++◌, map, length, codes, Option, Some, None, slice_get}
use Rattle.name_legalise.specs.Legal.{legal_name, legal_after}
use Rattle.hw_model.specs.Types.{Name}
use Rattle.hw_model.specs.Kinds.{Kind, Instance}
use Rattle.hw_model.specs.Design.{Port, Op, Module, is_register, register_form, instance_in, is_output_kind}
use Rattle.ir_store.specs.declared.body.Op as body
use Rattle.ir_store.specs.Bodies.{op_id, read_op}
use Rattle.ir_store.specs.Numbered.{op_by}
use Rattle.verilog_expr.specs.Spilling.{is_wire_kind, hint_of}
use Rattle.export_verilog.specs.Identifiers.{Emission, or_name, result_name_hint, identifier_name}
use Rattle.export_verilog.specs.Identifiers.Identifier.{port_identifier}
use Rattle.export_verilog.specs.Identifiers.Emission.{inline, as_wire, as_reg, as_instance}

-- the names that any module with some ports gives to them
abbrev pub ArePortNames : List Port → List Name → Type 0
ArePortNames ps ns = (m : Module) → m.ports ≡ ps → (j : ℕ) (p : Port) → slice_get ps j ≡ Some p → identifier_name m (port_identifier j) ≡ slice_get ns j

-- ---- operations

-- what an operation of a kind is, whose first result has a wire or not
abbrev pub emission_by : Bool → Kind → Emission
emission_by wired k =
    cond (is_some (register_form k)) as_reg
    (cond (is_some (instance_in k)) as_instance
    (cond (is_output_kind k) inline
    (cond (is_wire_kind k) as_wire
    (cond wired as_wire inline))))

-- an operation that is read from a body, but for the positions of its operands
abbrev pub op_seen : body.Op → Op
op_seen o = op_by (λ i. i) (read_op (op_id 0) o)

-- the name that is wanted for the value of an operation that is no instance
abbrev pub own_name_hint : Op → Name
own_name_hint o =
    cond (is_register o) (or_name o.name (codes "_reg"))
    (cond (is_wire_kind o.kind) (or_name o.name (codes "_wire")) (or_name (hint_of o) (codes "_GEN")))

-- the names that are wanted for so many results of an instance, from the k-th on
abbrev pub result_name_hints : Instance → ℕ → ℕ → List Name
result_name_hints i k zero = []
result_name_hints i k (suc n) = result_name_hint i k ∷ result_name_hints i (suc k) n

-- the names that are wanted for the things of an operation of a role
abbrev pub name_hints_of : Emission → Option Instance → Op → List Name
name_hints_of inline x o = []
name_hints_of as_wire x o = own_name_hint o ∷ []
name_hints_of as_reg x o = own_name_hint o ∷ []
name_hints_of as_instance None o = []
name_hints_of as_instance (Some i) o = i.name ∷ result_name_hints i 0 (length o.results)

abbrev pub op_name_hints : Emission → Op → List Name
op_name_hints r o = name_hints_of r (instance_in o.kind) o

-- the names of an operation's results, where others are taken
abbrev pub results_of : List Name → Emission → Option Instance → Op → List (Option Name)
results_of taken inline x o = []
results_of taken as_wire x o = Some (legal_name taken (own_name_hint o)) ∷ []
results_of taken as_reg x o = Some (legal_name taken (own_name_hint o)) ∷ []
results_of taken as_instance None o = []
results_of taken as_instance (Some i) o = map (λ (n : Name). Some n) (legal_after (taken ++ legal_name taken i.name ∷ []) (result_name_hints i 0 (length o.results)))

abbrev pub op_results : List Name → Emission → Op → List (Option Name)
op_results taken r o = results_of taken r (instance_in o.kind) o

-- the own name of an operation that is an instance, where others are taken
abbrev pub own_name_of : List Name → Emission → Option Instance → Name
own_name_of taken as_instance (Some i) = legal_name taken i.name
own_name_of taken _ _ = []

abbrev pub op_own_name : List Name → Emission → Op → Name
op_own_name taken r o = own_name_of taken r (instance_in o.kind)
