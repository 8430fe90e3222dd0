-- What `translate --export-aiger` does with a text: a text in the AIGER format (AIGER 1.9) of the one public module of the design that passes make of
-- the one that it says.
use Rattle.std.specs.Prelude.{◌≡◌, ◌↔◌, ℕ, false, List, length, map, Some, Result, Ok, Err}
use Rattle.wiring.specs.Wiring.{In}
use Rattle.bits_core.specs.Word.{Word}
use Rattle.hw_model.specs.Types.{Name}
use Rattle.hw_model.specs.Design.{Port, Module, Design, find_module}
use Rattle.hw_model.specs.Flat.{state}
use Rattle.hw_model.specs.Machine.{Run as ModuleRun}
use Rattle.hw_model.specs.Meaning.{machine}
use Rattle.diag.specs.declared.refusal.Refusal.{Refusal}
use Rattle.aggregate_laws.specs.LeafPorts.{split_ports}
use Rattle.net_gates.specs.ClockedInputs.{free_bits, with_clocks}
use Rattle.aiger_laws.specs.Trees.{Aiger}
use Rattle.aiger_laws.specs.Steps.{Run}
use Rattle.aiger_laws.specs.Grammar.{IsAiger}
use Rattle.aiger_export.specs.Exports.{IsExportText, IsExportRefusal}
use Rattle.aiger_export.specs.Runs.{AreWide}
use Rattle.aiger_export.specs.declared.fail.ExportFail.{ExportFail}
use Rattle.aiger_export.specs.declared.fail.ExportFail.TheVariants as export
use Rattle.pass_pipeline.specs.declared.pass.Pass.{Pass}
use Rattle.pass_manager.specs.Results.{IsResult}
use Rattle.circt_top.specs.Accepting.{Accepted, IsRefusedIn}
use Rattle.circt_top.specs.declared.made.OutcomeFail.{OutcomeFail}
use Rattle.circt_top.specs.declared.made.OutcomeFail.TheVariants.{Refused, NoMemory}

-- ---- what a text does

-- for every content and all steps in which every clock rises, each step having a bit for each bit of the inputs among ports that is no clock, the
-- runs of a text are those of the module of a symbol
abbrev pub DoesAsModule : Design → Name → List Port → Aiger → Type 0
DoesAsModule d s ports t =
    (content : Word) → length content ≡ state d s → (steps given : List Word) → AreWide (free_bits ports) steps
    → Run t content steps given ↔ ModuleRun (machine d s) content (map (with_clocks ports) steps) given

-- ---- designs

-- nothing is refused of what passes make of the design
pub record IsExportable (passes : List Pass) (design : Design) : Type 0 where
  pub made : Design
  pub result : IsResult passes design made
  pub unrefused : (r : Refusal) → IsExportRefusal made r → ⊥

-- the text is that of what passes make of the design, and does what the one public module of the design itself does, whose ports are their leaves there
pub record IsExportOf (passes : List Pass) (design : Design) (text : List ℕ) : Type 0 where
  pub can : IsExportable passes design
  pub exported : IsExportText can.made text
  pub tree : Aiger
  pub says : IsAiger text tree
  pub one : Module
  pub found : find_module design one.symbol ≡ Some one
  pub exposed : one.is_private ≡ false
  pub only : (m : Module) → In m design → m.is_private ≡ false → m ≡ one
  pub does : DoesAsModule design one.symbol (split_ports one.ports) tree

-- what is given of a design is such a text, or the refusal of what passes make of it, or out of memory
abbrev pub GivesExport : List Pass → Design → Result (List ℕ) OutcomeFail → Type 0
GivesExport passes d (Ok text) = IsExportOf passes d text
GivesExport passes d (Err (Refused r)) = (e : Design) × IsResult passes d e × IsExportRefusal e r
GivesExport passes d (Err NoMemory) = Unit {0}

-- ---- texts of designs

-- the bytes say a design of which nothing is refused, and nothing is refused of what passes make of it
pub record CanBeExported (passes : List Pass) (bytes : List ℕ) : Type 0 where
  pub design : Design
  pub accepted : Accepted bytes design
  pub exportable : IsExportable passes design

-- the text is that of the design, as passes make it: the input is accepted
pub record IsExport (passes : List Pass) (bytes text : List ℕ) : Type 0 where
  pub design : Design
  pub accepted : Accepted bytes design
  pub exported : IsExportOf passes design text

-- the first refusal: of the text, or of the design that it says, or else of what passes make of that one
pub data IsRefusedExport (passes : List Pass) (bytes : List ℕ) : Refusal → Type 0 where
  input : (r : Refusal) → IsRefusedIn 0 bytes r → IsRefusedExport passes bytes r
  made : (d e : Design) (r : Refusal) → Accepted bytes d → IsResult passes d e → IsExportRefusal e r → IsRefusedExport passes bytes r

-- why no text is made of what is not exported
abbrev pub export_failure : ExportFail → OutcomeFail
export_failure (export.Refused r) = Refused r
export_failure export.NoMemory = NoMemory
