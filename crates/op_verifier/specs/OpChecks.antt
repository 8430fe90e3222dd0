-- Why an operation of a module's body is refused, by itself and by what stands around it (CIRCT: HW dialect, `hw.output`
-- and `hw.instance`; MLIR language reference: SSA values in graph regions).
use Rattle.std.specs.Prelude.{ℤ, pos, negsuc, Bool, true, false, cond, not, ◌&&◌, nat_eq, List, [], ◌∷◌, map, length, Option, Some, None, is_some, slice_get, slice_index_or, option_and_then}
use Rattle.std.specs.Cmp.Lexicographic.{pointwise}
use Rattle.diag.specs.declared.cause.Cause.{Cause}
use Rattle.diag.specs.declared.cause.Cause.TheVariants.{Redefined, Undefined, OutputMismatch, MissingOutput}
use Rattle.hw_model.specs.Types.{HwType}
use Rattle.hw_model.specs.Kinds.{Kind}
use Rattle.hw_model.specs.Kinds.Kind.{constant}
use Rattle.hw_model.specs.Design.{Ref, Port, OpResult, Op, Design, instance_in, is_output_op}
use Rattle.hw_model.specs.Design.Ref.{port, result, undefined}
use Rattle.hw_model.specs.Sound.{input_type, type_in}
use Rattle.hw_model.specs.SameType.{same_type}
use Rattle.type_inference.specs.ResultTypes.{result_types}
use Rattle.port_checks.specs.InstanceChecks.{port_types, instance_cause}
use Rattle.op_verifier.specs.Answers.{when, or_else}
use Rattle.op_checks.specs.OwnChecks.{own_cause}
use Rattle.op_verifier.specs.ResetChecks.{reset_cause}

-- ---- values

-- whether the value name of some result was defined earlier
abbrev pub has_again : List OpResult → Bool
has_again [] = false
has_again (r ∷ rs) = cond r.again true (has_again rs)

-- whether some operand is no value of the body
abbrev pub has_undefined : List Port → List Op → List Ref → Bool
has_undefined ports os [] = false
has_undefined ports os (r ∷ rs) = cond (is_some (type_in ports os r)) (has_undefined ports os rs) true

-- the types that an operation settles for its results, by its kind and the types that it writes
abbrev pub settled_by : Op → List (Option HwType)
settled_by o = result_types o.kind o.types (length o.operands)

-- the type of a value that its own operation settles: only that is compared with what its users ask
abbrev pub settled_type : List Port → List Op → Ref → Option HwType
settled_type ports os (port j) = input_type (slice_get ports j)
settled_type ports os (result j k) = option_and_then (λ (o : Op). slice_index_or (settled_by o) k None) (slice_get os j)
settled_type ports os undefined = None

-- ---- divisors

abbrev pub is_nonzero : ℤ → Bool
is_nonzero (pos n) = not (nat_eq n 0)
is_nonzero (negsuc n) = true

-- whether a kind is a constant other than zero, as it is written
abbrev pub is_nonzero_kind : Kind → Bool
is_nonzero_kind (constant z) = is_nonzero z
is_nonzero_kind _ = false

abbrev pub is_nonzero_op : Option Op → Bool
is_nonzero_op None = false
is_nonzero_op (Some o) = is_nonzero_kind o.kind

-- whether an operand is the result of such a constant
abbrev pub is_nonzero_ref : List Op → Option Ref → Bool
is_nonzero_ref os (Some (result j k)) = nat_eq k 0 && is_nonzero_op (slice_get os j)
is_nonzero_ref os _ = false

-- whether an operation's second operand is one
abbrev pub divides_by_constant : List Op → List Ref → Bool
divides_by_constant os refs = is_nonzero_ref os (slice_get refs 1)

-- ---- outputs

-- whether an output gives other types than the module's output ports have
abbrev pub has_other_outputs : List Port → Op → Bool
has_other_outputs ports o = is_output_op o && not (pointwise same_type o.types (port_types true ports))

-- ---- an operation

-- what the values of an operation are refused for, in a body with these ports
abbrev pub value_cause : List Port → List Op → Op → Option Cause
value_cause ports os o =
    or_else (when (has_again o.results) Redefined) (when (has_undefined ports os o.operands) Undefined)

-- what it is refused for by itself
abbrev pub alone_cause : List Port → List Op → Op → Option Cause
alone_cause ports os o =
    own_cause o.kind o.types (map (λ (r : OpResult). r.type) o.results) o.named (map (settled_type ports os) o.operands)
    (divides_by_constant os o.operands)

-- what it is refused for by what stands around it, `last` saying whether it is the last of its body
abbrev pub outer_cause : Design → List Port → Bool → Op → Option Cause
outer_cause d ports last o =
    or_else (when (has_other_outputs ports o) OutputMismatch)
    (or_else (instance_cause d o.types (instance_in o.kind))
    (when (is_output_op o && not last) MissingOutput))

-- why an operation of a body is refused, an asynchronous reset being the last cause that is asked
abbrev pub op_cause : Design → List Port → List Op → Bool → Op → Option Cause
op_cause d ports os last o =
    or_else (value_cause ports os o) (or_else (alone_cause ports os o) (or_else (outer_cause d ports last o) (reset_cause d ports os o)))
