-- The first refusal of a design, but for those that look at the design as a whole: headers and operations in text order,
-- each header before its body, and at each the first cause.
use Rattle.std.specs.Prelude.{ℕ, suc, Bool, true, false, List, [], ◌∷◌, Option, None, option_map}
use Rattle.diag.specs.declared.cause.Cause.{Cause}
use Rattle.opcode.specs.declared.listed.Listed.{Listed}
use Rattle.opcode.specs.declared.listed.Listed.TheVariants as listed
use Rattle.diag.specs.declared.refusal.OpName.TheVariants as name
use Rattle.diag.specs.declared.refusal.Refusal.{Refusal}
use Rattle.hw_model.specs.Opcodes.{opcode_of}
use Rattle.hw_model.specs.Design.{Location, Port, Op, Module, Design}
use Rattle.op_verifier.specs.Answers.{or_else}
use Rattle.op_verifier.specs.OpChecks.{op_cause}
use Rattle.op_verifier.specs.Headers.{header_cause}

-- a refusal of the design's text
abbrev pub refused_at : Location → Listed → Cause → Refusal
refused_at p l cause = record { file = 0; location = record { line = p.line; col = p.col }; op = name.Listed l; cause = cause }

-- the refusal of a module's header, of an operation
abbrev pub header_refusal : Module → Cause → Refusal
header_refusal m cause = refused_at m.location listed.HwModule cause

abbrev pub op_refusal : Op → Cause → Refusal
op_refusal o cause = refused_at o.location (opcode_of o.kind) cause

abbrev pub is_empty : List Op → Bool
is_empty [] = true
is_empty (o ∷ os) = false

-- the first refusal of an operation, among some that stand last in a body with these ports
abbrev pub body_fault : Design → List Port → List Op → List Op → Option Refusal
body_fault d ports whole [] = None
body_fault d ports whole (o ∷ os) = or_else (option_map (op_refusal o) (op_cause d ports whole (is_empty os) o)) (body_fault d ports whole os)

-- the first refusal of a module, which is the n-th of the design
abbrev pub module_fault : Design → ℕ → Module → Option Refusal
module_fault d n m = or_else (option_map (header_refusal m) (header_cause d n m)) (body_fault d m.ports m.body m.body)

-- the first refusal of some modules, which are those of the design from the n-th on
abbrev pub faults_from : Design → ℕ → List Module → Option Refusal
faults_from d n [] = None
faults_from d n (m ∷ ms) = or_else (module_fault d n m) (faults_from d (suc n) ms)

-- the first refusal of the design
abbrev pub first_fault : Design → Option Refusal
first_fault d = faults_from d 0 d
