-- What invocations in code stand for.
use Rattle.std.specs.Prelude.{◌≡◌, List, [], Result, Ok, Err, map, string_bytes, option_map}
use Rattle.clap.specs.Words.{Kinds}
use Rattle.pass_pipeline.specs.declared.pass.Pass.{Pass}
use Rattle.command_line.specs.Line as line
use Rattle.command_line.specs.Line.{Command}
use Rattle.command_line.specs.Line.Work.{mlir, mlir_pieces, verilog, aiger_export, aiger_import, generated_summary, generated_verilog, comparison, proof_check, simulation}
use Rattle.command_line.specs.declared.usage.UsageKind.{UsageKind}
use Rattle.command_line.specs.declared.usage.UsageKind.TheVariants.{Words}
use Rattle.command_line.specs.declared.invocation.Work.{Work}
use Rattle.command_line.specs.declared.invocation.Work.TheVariants.{Mlir, MlirPieces, Verilog, ExportAiger, ImportAiger, GeneratedSummary, GeneratedVerilog, Verdict, ProofCheck, Simulation}
use Rattle.command_line.specs.declared.invocation.Invocation.{Invocation}
use Rattle.command_line.specs.declared.invocation.LineFail.{LineFail}
use Rattle.command_line.specs.declared.invocation.LineFail.TheVariants.{Usage, NoMemory}

abbrev pub work_of : Work → line.Work
work_of (Mlir passes) = mlir passes
work_of (MlirPieces passes) = mlir_pieces passes
work_of (Verilog passes lowering) = verilog passes lowering
work_of (ExportAiger passes) = aiger_export passes
work_of (ImportAiger passes) = aiger_import passes
work_of (GeneratedSummary recipe) = generated_summary recipe.seed recipe.count
work_of (GeneratedVerilog recipe) = generated_verilog recipe.seed recipe.count
work_of (Verdict pair) = comparison (string_bytes pair.left) (string_bytes pair.right) pair.conflict_limit (option_map (λ p. string_bytes p.proof) pair.proof)
work_of ProofCheck = proof_check
work_of (Simulation top) = simulation (string_bytes top)

abbrev pub command_of : Invocation → Command
command_of i = record { inputs = map string_bytes i.inputs.items; output = option_map string_bytes i.output; work = work_of i.work; workers = i.workers.count }

-- an answer is what is said, or out of memory
abbrev pub Says : Result Command UsageKind → Result Invocation LineFail → Type 0
Says said (Ok i) = said ≡ Ok (command_of i)
Says said (Err (Usage kind)) = said ≡ Err kind
Says said (Err NoMemory) = Unit {0}

-- the same of a work, and of passes
abbrev pub SaysWork : Result line.Work UsageKind → Result Work LineFail → Type 0
SaysWork said (Ok work) = said ≡ Ok (work_of work)
SaysWork said (Err (Usage kind)) = said ≡ Err kind
SaysWork said (Err NoMemory) = Unit {0}

abbrev pub SaysPasses : Result (List Pass) UsageKind → Result (List Pass) LineFail → Type 0
SaysPasses said (Ok passes) = said ≡ Ok passes
SaysPasses said (Err (Usage kind)) = said ≡ Err kind
SaysPasses said (Err NoMemory) = Unit {0}

-- words that have faults are wrong
abbrev pub IsFault : Kinds → LineFail → Type 0
IsFault kinds (Usage kind) = (kind ≡ Words) × (kinds ≡ [] → ⊥)
IsFault kinds NoMemory = Unit {0}
