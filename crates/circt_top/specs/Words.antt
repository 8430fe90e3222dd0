-- What the words say.
use Rattle.std.specs.Prelude.{◌≡◌, List, [], ◌∷◌, Option, Some, None, Result, Ok, Err}
use Rattle.hw_model.specs.Types.{Name}
use Rattle.pass_pipeline.specs.declared.pass.Pass.{Pass}
use Rattle.pass_pipeline.specs.declared.pass.Pass.TheVariants.{Canonicalize, Cse, SeqLowerRegs, HwLowerAggregates, HwFlattenModules, SymbolDce}
use Rattle.command_line.specs.Line as commands
use Rattle.command_line.specs.Line.{Command}
use Rattle.command_line.specs.declared.usage.UsageKind.{UsageKind}

-- the passes that words may name
abbrev pub passes_on_offer : List Pass
passes_on_offer = Canonicalize ∷ Cse ∷ SeqLowerRegs ∷ HwLowerAggregates ∷ HwFlattenModules ∷ SymbolDce ∷ []

-- what the words say
abbrev pub line : List Name → Result Command UsageKind
line words = commands.line passes_on_offer words

abbrev pub fault_in : Result Command UsageKind → Option UsageKind
fault_in (Ok c) = None
fault_in (Err kind) = Some kind

-- what is wrong with the words
abbrev pub fault_of : List Name → Option UsageKind
fault_of words = fault_in (line words)

-- a fact about the command that the words say
abbrev pub ForCommand : List Name → (Command → Type 0) → Type 0
ForCommand words P = (c : Command) → line words ≡ Ok c → P c
