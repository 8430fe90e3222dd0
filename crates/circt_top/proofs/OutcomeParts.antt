-- What is made of an accepted design.
use Rattle.std.proofs.Common.{◌≡◌, ℕ, ◌≤◌, false, List, length, Ok, Err, refl, sym, ap, subst, ◌∙◌}
use Rattle.hw_model.specs.Design.{Design, IsSameDesign}
use Rattle.hw_model.specs.Hierarchy.{HasNoRecursion}
use Rattle.hw_model.specs.Machine.{Same}
use Rattle.hw_model.specs.Meaning.{machine, HasNoCycle, HasHeights}
use Rattle.hw_model.specs.Types.{Name}
use Rattle.pass_pipeline.specs.declared.pass.Pass.{Pass}
use Rattle.pass_laws.specs.PassLaw.{IsAfter}
use Rattle.pass_manager.specs.Results.{IsResult, IsExported}
use Rattle.export_verilog.specs.Aggregates.{HasNoAggregates}
use Rattle.export_verilog.specs.Behaviour.{BehavesAs}
use Rattle.export_verilog.specs.Exportable.{IsExportable}
use Rattle.lowering_options.specs.declared.lowering.Lowering.{Lowering}
use Rattle.export_verilog.specs.Layout.{verilog_text}
use Rattle.export_verilog.specs.Room.{HasRoomToExport}
use Rattle.mlir_reader.specs.Reading.{text_limit, read}
use Rattle.mlir_reader.specs.Spelling.{Spells}
use Rattle.mlir_reader.specs.ModuleViews.{ReadsDesign}
use Rattle.mlir_syntax.specs.declared.fail.ReadFail.{ReadFail}
use Rattle.mlir_syntax.specs.declared.fail.ReadFail.TheVariants as reading
use Rattle.op_verifier.specs.declared.verify_fail.VerifyFail.{VerifyFail}
use Rattle.op_verifier.specs.declared.verify_fail.VerifyFail.TheVariants as verifying
use Rattle.op_verifier.specs.Answered.{Explains}
use Rattle.op_verifier.specs.Verdict.{IsAccepted}
use Rattle.printing_laws.specs.Printable.{Printable}
use Rattle.stored_form.specs.Canonical.{IsCanonical}
use Rattle.mlir_printer.specs.Texts.{ir_text}
use Rattle.circt_top.specs.Accepting.{unaccepted}
use Rattle.circt_top.specs.Accepting.{unread as unread_text}
use Rattle.circt_top.specs.OutcomeParts.{IsTaken, IsPrinted, read_failure, verify_failure}
use Rattle.circt_top.proofs.Partners.{partners}
use Rattle.circt_top.proofs.SourceBehaviour.{partners_again, behaves_as_source}
use Rattle.circt_top.specs.Translation.{IsTranslatedFrom, exported_passes}
use Rattle.circt_top.specs.Reprint.{IsReprintOf, IsSaidAgain}

-- what the laws of the crates below say
pub record PrintingLaws : Type 0 where
  pub printable : (d : Design) → IsAccepted d → IsCanonical d → Printable d
  pub again : (d : Design) → Printable d → (e : Design) × Spells (ir_text d) e × IsSameDesign d e × (length (ir_text d) ≤ text_limit → read (ir_text d) ≡ Ok e)

pub record DesignLaws : Type 0 where
  pub finite : (d : Design) → IsAccepted d → HasNoRecursion d
  pub acyclic : (d : Design) → IsAccepted d → (top : Name) → HasNoCycle d top
  pub heights : (d : Design) (top : Name) → HasNoRecursion d → HasNoCycle d top → HasHeights d top
  pub unlocated : (d e : Design) → IsSameDesign d e → IsAccepted d → IsAccepted e
  pub same : (d e : Design) → IsSameDesign d e → (top : Name) → HasHeights d top → Same (machine d top) (machine e top)

-- what passes make of an accepted, printable design
pub record ResultLaws : Type 0 where
  pub after : (passes : List Pass) (d e : Design) → IsAccepted d → Printable d → IsResult passes d e → IsAfter passes d e

module _ (printing : PrintingLaws) (designs : DesignLaws) (results : ResultLaws) (d : Design) (form : IsCanonical d) (accepted : IsAccepted d) where
  printable : Printable d
  printable = printing.printable d accepted form

  said_again : (e : Design) → IsAccepted e → Printable e → IsSaidAgain e (ir_text e)
  said_again e fine shown =
      let found = printing.again e shown in
      record {
        again = found.0;
        spelled = found.1;
        same = found.2;
        accepted = designs.unlocated e found.0 found.2 fine;
        behaves = λ m here. designs.same e found.0 found.2 m.symbol (designs.heights e m.symbol (designs.finite e fine) (designs.acyclic e fine m.symbol));
        read_again = found.3;
      }

  -- what passes make of an accepted design, printed, is a reprint
  pub reprinted : (passes : List Pass) (text : List ℕ) → IsPrinted passes d text → IsReprintOf passes d text
  reprinted passes text is =
      let after : IsAfter passes d is.made = results.after passes d is.made accepted printable is.result in
      let again : IsSaidAgain is.made text = subst (IsSaidAgain is.made) (sym is.is) (said_again is.made after.accepted after.printable) in
      record {
        made = is.made;
        result = is.result;
        partners = partners passes d is.made accepted after;
        said_again = again;
        partners_again = partners_again passes d is.made again.again (partners passes d is.made accepted after) again.same again.behaves;
        laid_out = is.is;
      }

-- what the laws of the export say
pub record ExportLaws : Type 0 where
  pub exportable : (d : Design) → IsAccepted d → HasNoAggregates d → HasRoomToExport d → IsExportable d
  pub behaves : (options : Lowering) (d : Design) → IsExportable d → BehavesAs (verilog_text options d) d

-- what the law of what becomes of a design for an export says
pub record ForExportLaws : Type 0 where
  pub after : (passes : List Pass) (d f : Design) → IsAccepted d → Printable d → IsExported passes d f → IsAfter (exported_passes passes) d f

-- what passes made of an accepted design, and what became of it for an export, is its translation
pub exported : ExportLaws → ForExportLaws → (passes : List Pass) (options : Lowering) (d f : Design) → IsAccepted d → Printable d → IsExported passes d f → HasNoAggregates f → HasRoomToExport f
    → (text : List ℕ) → text ≡ verilog_text options f → IsTranslatedFrom passes options d f text
exported laws results passes options d f accepted shown all none room text laid =
    let after : IsAfter (exported_passes passes) d f = results.after passes d f accepted shown all in
    let kept = partners (exported_passes passes) d f accepted after in
    let behaves : BehavesAs text f = subst (λ t. BehavesAs t f) (sym laid) (laws.behaves options f (laws.exportable f after.accepted none room)) in
    record {
      translated = record {
        behaves_as_source = behaves_as_source (exported_passes passes) d f text kept behaves;
        made = f;
        result = all;
        partners = kept;
        behaves = behaves;
        laid_out = laid;
      };
      made_is = refl;
    }

-- what is not read is refused, and what is not verified
pub unread_taken : (source : List ℕ) (fail : ReadFail) → ReadsDesign (Err fail) (read source) → IsTaken source (Err (read_failure fail))
unread_taken source (reading.Refused r) h = unread_text r h
unread_taken source reading.NoMemory h = tt

pub unverified_taken : (source : List ℕ) (d : Design) (fail : VerifyFail) → read source ≡ Ok d → Explains d fail → IsTaken source (Err (verify_failure fail))
unverified_taken source d (verifying.Refused r) h e = unaccepted d r h e
unverified_taken source d verifying.NoMemory h e = tt
