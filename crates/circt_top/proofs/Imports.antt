-- What is made of a text in the AIGER format.
use Rattle.std.proofs.Common.{◌≡◌, ℕ, ◌<◌, ◌≤◌, inl, List, length, map, Ok, Err, sym, subst, ◌∙◌, refl, arith}
use Rattle.hw_model.specs.Design.{Design}
use Rattle.diag.specs.declared.refusal.Refusal.{Refusal}
use Rattle.mlir_reader.specs.Reading.{text_limit}
use Rattle.pass_pipeline.specs.declared.pass.Pass.{Pass}
use Rattle.aiger_laws.specs.Trees.{Aiger}
use Rattle.aiger_laws.specs.Grammar.{IsAiger, IsFirstFault}
use Rattle.aiger_laws.proofs.OneFault.{no_fault}
use Rattle.aiger_design.specs.Built.{imported_module, imported_design, clocked}
use Rattle.aiger_design.proofs.TextDesigns.{runs_same, latches_held}
use Rattle.aiger_reader.specs.Told.{IsReadFail}
use Rattle.aiger_reader.specs.declared.fail.ReadFail.{ReadFail}
use Rattle.aiger_reader.specs.declared.fail.ReadFail.TheVariants as aiger
use Rattle.aiger_text.specs.Imported.{IsImported}
use Rattle.command_line.specs.Line.Work.{aiger_import}
use Rattle.circt_top.specs.Accepting.{first_input}
use Rattle.circt_top.specs.Partners.{HasPartners}
use Rattle.circt_top.specs.Reprint.{IsReprintOf}
use Rattle.circt_top.specs.Imports.{DoesAsText, CanBeImported, IsImport, IsRefusedImport, import_failure}
use Rattle.circt_top.specs.Imports.IsRefusedImport.{too_long as of_many, in_line as of_line}
use Rattle.circt_top.specs.Outcome.{GivesText}

-- a text that says a design is not refused
pub import_unrefused : (bytes : List ℕ) (r : Refusal) → CanBeImported bytes → IsRefusedImport bytes r → ⊥
import_unrefused bytes r can (of_many long) = let short = can.short in absurd (omega (arith, long, short))
import_unrefused bytes r can (of_line line fault short is) = no_fault bytes can.tree line fault can.says is

-- where the design of a text has its partners, the partner of its module does what the text does
pub does_as_text : (passes : List Pass) (bytes : List ℕ) (t : Aiger) (d : Design) → IsAiger bytes t → HasPartners passes (imported_design t) d → DoesAsText passes t d
does_as_text passes bytes t d says partners =
    let p = partners.each (imported_module t) (inl refl) refl in
    record {
      one = p.partner;
      found = p.found;
      exposed = p.exposed;
      ports = p.ports;
      content = sym p.behaves.size ∙ latches_held t;
      runs = λ content many steps given.
          let text = runs_same bytes t says content many steps given in
          let partner = p.behaves.runs content (map (clocked t.latches) steps) given in
          (λ run. partner.0 (text.0 run), λ run. text.1 (partner.1 run));
    }

-- what passes make of the design of a text, printed, is the answer
pub import_gives : (passes : List Pass) (contents : List (List ℕ)) (bytes : List ℕ) (d : Design) (text : List ℕ) → first_input contents ≡ bytes → IsImported bytes d
    → length bytes ≤ text_limit → IsReprintOf passes d text → GivesText (aiger_import passes) contents (Ok text)
import_gives passes contents bytes d text is imported short reprinted =
    let t = imported.0 in
    let again : IsReprintOf passes (imported_design t) text = subst (λ e. IsReprintOf passes e text) imported.2 reprinted in
    subst (λ b. IsImport passes b text) (sym is)
    (record {
      can = record { tree = t; short = short; says = imported.1 };
      reprinted = again;
      does = does_as_text passes bytes t again.said_again.again imported.1 again.partners_again;
    })

-- why there is none
pub import_fails : (passes : List Pass) (contents : List (List ℕ)) (bytes : List ℕ) (fail : ReadFail) → first_input contents ≡ bytes → IsReadFail bytes fail
    → GivesText (aiger_import passes) contents (Err (import_failure fail))
import_fails passes contents bytes aiger.TooLong is long = of_many (subst (λ b. text_limit < length b) (sym is) long)
import_fails passes contents bytes (aiger.Refused r) is fault =
    of_line r.line r.fault (subst (λ b. length b ≤ text_limit) (sym is) fault.0) (subst (λ b. IsFirstFault b r.line r.fault) (sym is) fault.1)
import_fails passes contents bytes aiger.NoMemory is fault = tt
