-- What depends on what within one body, each instance standing for what its module's outputs depend on.
use Rattle.std.specs.Prelude.{◌≡◌, ℕ, false, cond, List, [], ◌∷◌, ◌++◌, take, Option, Some, None, slice_get, option_to_list}
use Rattle.wiring.specs.Wiring.{In, Chain}
use Rattle.hw_model.specs.Types.{Name, HwType}
use Rattle.hw_model.specs.Kinds.{Instance}
use Rattle.hw_model.specs.Design.{Ref, Port, Op, Design, find_module, instance_in, is_register, is_output_op, result_type, output_refs}
use Rattle.hw_model.specs.Design.Ref.{port, result, undefined}
use Rattle.hw_model.specs.Flat.{net, input_count}
use Rattle.hw_model.specs.Meaning.{needs}
use Rattle.hw_model.specs.Sound.{body_of, ports_of}

-- port j is an input, and x inputs stand before it
pub record IsInput (ports : List Port) (j x : ℕ) : Type 0 where
  pub port_there : Port
  pub has_port : slice_get ports j ≡ Some port_there
  pub is_in : port_there.is_output ≡ false
  pub number : input_count (take j ports) ≡ x

-- the k-th output of the module of a symbol depends on its input x, or is it
pub record Feeds (d : Design) (s : Name) (k x : ℕ) : Type 0 where
  pub given : Ref
  pub position : ℕ
  pub steps : ℕ
  pub gives : slice_get (output_refs (body_of (find_module d s))) k ≡ Some given
  pub takes : IsInput (ports_of (find_module d s)) position x
  pub chain : Chain (needs d s) steps (net [] given) (net [] (port position))

-- the table says of the module of a symbol which inputs each output depends on
pub record IsSummary (d : Design) (table : Name → ℕ → List ℕ) (s : Name) : Type 0 where
  pub sound : (k x : ℕ) → In x (table s k) → Feeds d s k x
  pub complete : (k x : ℕ) → Feeds d s k x → In x (table s k)

-- the operands of these numbers, where there are any
abbrev pub operands_at : List Ref → List ℕ → List Ref
operands_at operands [] = []
operands_at operands (x ∷ xs) = option_to_list (slice_get operands x) ++ operands_at operands xs

-- the operands of an operation whose result has a type
abbrev pub where_typed : Option HwType → List Ref → List Ref
where_typed None refs = []
where_typed (Some t) refs = refs

-- what result k of an operation needs that is no register
abbrev pub op_wires : (Name → ℕ → List ℕ) → Op → ℕ → Option Instance → List Ref
op_wires table o k (Some i) = operands_at o.operands (table i.symbol k)
op_wires table o k None = cond (is_output_op o) [] (where_typed (result_type o k) o.operands)

abbrev pub result_wires : (Name → ℕ → List ℕ) → ℕ → Option Op → List Ref
result_wires table k None = []
result_wires table k (Some o) = cond (is_register o) [] (op_wires table o k (instance_in o.kind))

-- what a value of a body needs, without a register between
abbrev pub wires : (Name → ℕ → List ℕ) → List Op → Ref → List Ref
wires table os (port j) = []
wires table os (result j k) = result_wires table k (slice_get os j)
wires table os undefined = []
