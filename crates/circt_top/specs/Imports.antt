-- What `translate --import-aiger` does with a text in the AIGER format (AIGER 1.9): a text of the design that passes make of the one that it says.
use Rattle.std.specs.Prelude.{◌≡◌, ◌↔◌, ℕ, ◌≤◌, ◌<◌, Bool, false, List, length, map, Some}
use Rattle.hw_model.specs.Design.{Module, Design, find_module}
use Rattle.hw_model.specs.Flat.{state}
use Rattle.hw_model.specs.Machine.{Run as ModuleRun}
use Rattle.hw_model.specs.Meaning.{machine}
use Rattle.diag.specs.declared.cause.Cause.TheVariants as cause
use Rattle.diag.specs.declared.refusal.Refusal.{Refusal}
use Rattle.mlir_reader.specs.Reading.{text_limit}
use Rattle.aiger_laws.specs.declared.fault.Fault.{Fault}
use Rattle.aiger_laws.specs.Trees.{Aiger}
use Rattle.aiger_laws.specs.Steps.{Run}
use Rattle.aiger_laws.specs.Grammar.{IsAiger, IsFirstFault}
use Rattle.aiger_design.specs.Built.{imported_symbol, imported_ports, imported_design, clocked}
use Rattle.aiger_reader.specs.declared.fail.ReadFail.{ReadFail}
use Rattle.aiger_reader.specs.declared.fail.ReadFail.TheVariants as aiger
use Rattle.pass_pipeline.specs.declared.pass.Pass.{Pass}
use Rattle.pass_laws.specs.PassLaw.{ports_after}
use Rattle.circt_top.specs.Accepting.{line_refusal}
use Rattle.circt_top.specs.AigerCauses.{aiger_operation, aiger_cause}
use Rattle.circt_top.specs.Reprint.{IsReprintOf}
use Rattle.circt_top.specs.declared.made.OutcomeFail.{OutcomeFail}
use Rattle.circt_top.specs.declared.made.OutcomeFail.TheVariants.{Refused, NoMemory}

-- the design has a public module `aiger` with the ports that passes leave of those of the text, as many bits of content as the text has
-- latches, and, for every content and every list of steps in which the clock rises, the runs of the text
pub record DoesAsText (passes : List Pass) (t : Aiger) (d : Design) : Type 0 where
  pub one : Module
  pub found : find_module d imported_symbol ≡ Some one
  pub exposed : one.is_private ≡ false
  pub ports : one.ports ≡ ports_after passes (imported_ports t)
  pub content : state d imported_symbol ≡ length t.latches
  pub runs : (content : List Bool) → length content ≡ length t.latches → (steps given : List (List Bool))
      → Run t content steps given ↔ ModuleRun (machine d imported_symbol) content (map (clocked t.latches) steps) given

-- the bytes are a text in the AIGER format that is not too long
pub record CanBeImported (bytes : List ℕ) : Type 0 where
  pub tree : Aiger
  pub short : length bytes ≤ text_limit
  pub says : IsAiger bytes tree

-- the text is the design of that text printed, as passes make it, and the design that it spells does what that text does
pub record IsImport (passes : List Pass) (bytes text : List ℕ) : Type 0 where
  pub can : CanBeImported bytes
  pub reprinted : IsReprintOf passes (imported_design can.tree) text
  pub does : DoesAsText passes can.tree reprinted.said_again.again

-- the first refusal: of all bytes, where they are too many, or else of a line
pub data IsRefusedImport (bytes : List ℕ) : Refusal → Type 0 where
  too_long : text_limit < length bytes → IsRefusedImport bytes (line_refusal aiger_operation 0 1 cause.TooLong)
  in_line : (line : ℕ) (fault : Fault) → length bytes ≤ text_limit → IsFirstFault bytes line fault
      → IsRefusedImport bytes (line_refusal aiger_operation 0 line (aiger_cause fault))

-- why no text is made of what is not read
abbrev pub import_failure : ReadFail → OutcomeFail
import_failure aiger.TooLong = Refused (line_refusal aiger_operation 0 1 cause.TooLong)
import_failure (aiger.Refused r) = Refused (line_refusal aiger_operation 0 r.line (aiger_cause r.fault))
import_failure aiger.NoMemory = NoMemory
