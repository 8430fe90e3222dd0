-- Why the header of a module is refused (CIRCT: `hw.module`).
use Rattle.std.specs.Prelude.{ℕ, Bool, true, false, cond, not, ◌||◌, ◌&&◌, List, [], ◌∷◌, ◌++◌, map, take, Option, is_some}
use Rattle.diag.specs.declared.cause.Cause.{Cause}
use Rattle.diag.specs.declared.cause.Cause.TheVariants.{Redefined, WidthLimit, Field, ClockOperand, DuplicateSymbol, DuplicatePort, MissingOutput}
use Rattle.hw_model.specs.Types.{Name}
use Rattle.hw_model.specs.Design.{Port, Op, Module, Design, same_name, find_module, is_output_op}
use Rattle.op_verifier.specs.Answers.{when, or_else}
use Rattle.op_checks.specs.TypeChecks.{is_outside, has_bad_field, has_clock_part, is_clock}

-- whether some port meets a test
abbrev pub has_port : (Port → Bool) → List Port → Bool
has_port test [] = false
has_port test (q ∷ qs) = cond (test q) true (has_port test qs)

-- a clock is no output, and no part of an aggregate
abbrev pub has_wrong_clock : Port → Bool
has_wrong_clock q = (q.is_output && is_clock q.type) || has_clock_part q.type

-- whether a name stands among names
abbrev pub is_among : Name → List Name → Bool
is_among name [] = false
is_among name (n ∷ ns) = cond (same_name name n) true (is_among name ns)

-- whether one of the names stands among those seen, or earlier among these
abbrev pub has_seen : List Name → List Name → Bool
has_seen seen [] = false
has_seen seen (n ∷ ns) = cond (is_among n seen) true (has_seen (seen ++ n ∷ []) ns)

abbrev pub has_twice : List Name → Bool
has_twice names = has_seen [] names

-- whether a body gives its module's outputs
abbrev pub has_output : List Op → Bool
has_output [] = false
has_output (o ∷ os) = cond (is_output_op o) true (has_output os)

-- what a header is refused for by the types and marks of its ports
abbrev pub ports_cause : List Port → Option Cause
ports_cause ports =
    or_else (when (has_port (λ (q : Port). q.again) ports) Redefined)
    (or_else (when (has_port (λ (q : Port). is_outside q.type) ports) WidthLimit)
    (or_else (when (has_port (λ (q : Port). has_bad_field q.type) ports) Field)
    (when (has_port has_wrong_clock ports) ClockOperand)))

-- what the header of module n is refused for by its symbol, the names of its ports, and its body
abbrev pub names_cause : Design → ℕ → Name → List Port → List Op → Option Cause
names_cause d n symbol ports os =
    or_else (when (is_some (find_module (take n d) symbol)) DuplicateSymbol)
    (or_else (when (has_twice (map (λ (q : Port). q.name) ports)) DuplicatePort)
    (when (not (has_output os)) MissingOutput))

-- why the header of module n of a design is refused
abbrev pub header_cause : Design → ℕ → Module → Option Cause
header_cause d n m = or_else (ports_cause m.ports) (names_cause d n m.symbol m.ports m.body)
