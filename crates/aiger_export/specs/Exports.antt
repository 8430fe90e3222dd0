-- The text of a design in the AIGER format, and why there is none (AIGER 1.9, ASCII: A. Biere, report FMV 11/2, JKU Linz).
use Rattle.std.specs.Prelude.{◌≡◌, ℕ, List, take, drop, None}
use Rattle.diag.specs.declared.cause.Cause.{Cause}
use Rattle.diag.specs.declared.cause.Cause.TheVariants as cause
use Rattle.diag.specs.declared.refusal.Refusal.{Refusal}
use Rattle.gates.specs.declared.signal.Signal.{Signal}
use Rattle.gates.specs.Circuits.{Circuit}
use Rattle.hw_model.specs.Design.{Module, Design}
use Rattle.op_verifier.specs.Faults.{header_refusal}
use Rattle.net_gates.specs.ClockedInputs.{free_bits}
use Rattle.flat_module_laws.specs.FlatPrices.{output_bits}
use Rattle.miter_blast.specs.Pairs.{at_file}
use Rattle.and_gates.specs.declared.fail.ExportFault.{ExportFault}
use Rattle.and_gates.specs.declared.fail.ExportFault.TheVariants.{SeveralClocks, AsynchronousReset, TooManyGates}
use Rattle.and_gates.specs.Faults.{IsExportFault}
use Rattle.and_gates.specs.Exports.{IsExport}
use Rattle.aiger_laws.specs.Trees.{Aiger}
use Rattle.aiger_circuits.specs.CircuitTrees.{circuit_tree}
use Rattle.aiger_circuits.specs.CircuitTexts.{tree_text}
use Rattle.aiger_export.specs.declared.fail.ExportFail.{ExportFail}
use Rattle.aiger_export.specs.declared.fail.ExportFail.TheVariants.{Refused, NoMemory}
use Rattle.aiger_export.specs.BitNames.{bit_symbols}
use Rattle.aiger_export.specs.PublicModules.{only_public, IsOnlyPublic}

-- ---- refusals

-- the cause of a fault
abbrev pub cause_of : ExportFault → Cause
cause_of SeveralClocks = cause.SeveralClocks
cause_of AsynchronousReset = cause.AsynchronousReset
cause_of TooManyGates = cause.TooManyAndGates

-- why a design has no text: not one module is public, at the beginning of the file; or what stands against the gates of the public
-- one, at its header
pub data IsExportRefusal (d : Design) : Refusal → Type 0 where
  modules : only_public d ≡ None → IsExportRefusal d (at_file 0 cause.NotOnePublicModule)
  fault : (n : ℕ) (m : Module) (f : ExportFault) → IsOnlyPublic d n m → IsExportFault d n f → IsExportRefusal d (header_refusal m (cause_of f))

abbrev pub IsRefusedExport : Design → ExportFail → Type 0
IsRefusedExport d (Refused r) = IsExportRefusal d r
IsRefusedExport d NoMemory = Unit {0}

-- ---- texts

-- the tree of a flat module's step: its inputs but clocks are those of the tree, and each bit of its registers is a latch
abbrev pub step_tree : Module → Circuit → List Signal → Aiger
step_tree m circuit signals = circuit_tree (free_bits m.ports) (take (output_bits m) signals) (drop (output_bits m) signals) circuit.gates

-- the text is that of the gates of the only public module, with the names of its bits
pub record IsExportText (d : Design) (text : List ℕ) : Type 0 where
  pub number : ℕ
  pub public : Module
  pub only : IsOnlyPublic d number public
  pub copy : Design
  pub circuit : Circuit
  pub signals : List Signal
  pub export : IsExport d number copy circuit signals
  pub text_is : text ≡ tree_text (step_tree export.step.one circuit signals) (bit_symbols export.step.one.ports export.step.one.body)

-- the tree that it says
abbrev pub exported_tree : {d : Design} {text : List ℕ} → IsExportText d text → Aiger
exported_tree e = step_tree e.export.step.one e.circuit e.signals
