-- What is told of texts in the AIGER format that say no design.
use Rattle.diag.specs.declared.cause.Cause.{Cause}
use Rattle.diag.specs.declared.cause.Cause.TheVariants as cause
use Rattle.diag.specs.declared.refusal.OpName.{OpName}
use Rattle.diag.specs.declared.refusal.OpName.TheVariants as op
use Rattle.aiger_laws.specs.declared.fault.Fault.{Fault}
use Rattle.aiger_laws.specs.declared.fault.Fault.TheVariants.{BadLine, OutOfRange, DefinedTwice, NotDefined, GateCycle}

-- the operation that refuses them
abbrev pub aiger_operation : OpName
aiger_operation = op.Aiger

-- the cause of a refusal of a line
abbrev pub aiger_cause : Fault → Cause
aiger_cause BadLine = cause.BadAigerLine
aiger_cause OutOfRange = cause.LiteralRange
aiger_cause DefinedTwice = cause.LiteralDefinedTwice
aiger_cause NotDefined = cause.LiteralNotDefined
aiger_cause GateCycle = cause.GateCycle
