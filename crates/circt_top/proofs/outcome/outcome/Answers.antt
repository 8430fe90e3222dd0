use Rattle.std.proofs.Common.{sym, subst, string_bytes}
use Rattle.command_line.specs.Line.Work.{mlir, mlir_pieces, verilog, aiger_export, aiger_import, generated_summary, generated_verilog, proof_check, simulation}
use Rattle.command_line.specs.Invocations.{work_of}
use Rattle.command_line.specs.declared.invocation.Work.{Work}
use Rattle.circt_top.specs.Outcome.{Gives}
use Rattle.circt_top.proofs.outcome.outcome.Goals as goal

pub returns-in-Mlir : goal.returns-in-Mlir
returns-in-Mlir g c =
    subst (λ (w : Work). Gives (work_of w) c.args.sources.now c.without_finding.result) (sym c.in-Mlir.is)
    (c.without_finding.ensures (mlir c.in-Mlir.passes) c.args.sources.now (c.print_whole.ensures c.args.sources.now (sym c.first_input-source.ensures)))

pub returns-in-MlirPieces : goal.returns-in-MlirPieces
returns-in-MlirPieces g c =
    subst (λ (w : Work). Gives (work_of w) c.args.sources.now c.without_finding-in-MlirPieces.result) (sym c.in-MlirPieces.is)
    (c.without_finding-in-MlirPieces.ensures (mlir_pieces c.in-MlirPieces.passes) c.args.sources.now (c.print_pieces.ensures c.args.sources.now (sym c.first_input-source.ensures)))

pub returns-in-Verilog : goal.returns-in-Verilog
returns-in-Verilog g c =
    subst (λ (w : Work). Gives (work_of w) c.args.sources.now c.without_finding-in-Verilog.result) (sym c.in-Verilog.is)
    (c.without_finding-in-Verilog.ensures (verilog c.in-Verilog.passes c.in-Verilog.options) c.args.sources.now (c.translate_whole.ensures c.args.sources.now (sym c.first_input-source.ensures)))

pub returns-in-ExportAiger : goal.returns-in-ExportAiger
returns-in-ExportAiger g c =
    subst (λ (w : Work). Gives (work_of w) c.args.sources.now c.without_finding-in-ExportAiger.result) (sym c.in-ExportAiger.is)
    (c.without_finding-in-ExportAiger.ensures (aiger_export c.in-ExportAiger.passes) c.args.sources.now (c.export_whole.ensures c.args.sources.now (sym c.first_input-source.ensures)))

pub returns-in-ImportAiger : goal.returns-in-ImportAiger
returns-in-ImportAiger g c =
    subst (λ (w : Work). Gives (work_of w) c.args.sources.now c.without_finding-in-ImportAiger.result) (sym c.in-ImportAiger.is)
    (c.without_finding-in-ImportAiger.ensures (aiger_import c.in-ImportAiger.passes) c.args.sources.now (c.import_whole.ensures c.args.sources.now (sym c.first_input-source.ensures)))

pub returns-in-GeneratedSummary : goal.returns-in-GeneratedSummary
returns-in-GeneratedSummary g c =
    subst (λ (w : Work). Gives (work_of w) c.args.sources.now c.without_finding-in-GeneratedSummary.result) (sym c.in-GeneratedSummary.is)
    (c.without_finding-in-GeneratedSummary.ensures (generated_summary c.in-GeneratedSummary.recipe.seed c.in-GeneratedSummary.recipe.count) c.args.sources.now
    (c.summarise.ensures c.args.sources.now))

pub returns-in-GeneratedVerilog : goal.returns-in-GeneratedVerilog
returns-in-GeneratedVerilog g c =
    subst (λ (w : Work). Gives (work_of w) c.args.sources.now c.without_finding-in-GeneratedVerilog.result) (sym c.in-GeneratedVerilog.is)
    (c.without_finding-in-GeneratedVerilog.ensures (generated_verilog c.in-GeneratedVerilog.recipe.seed c.in-GeneratedVerilog.recipe.count) c.args.sources.now
    (c.generate_verilog.ensures c.args.sources.now))

pub returns-in-Verdict : goal.returns-in-Verdict
returns-in-Verdict g c = subst (λ (w : Work). Gives (work_of w) c.args.sources.now c.compare.result) (sym c.in-Verdict.is) c.compare.ensures

pub returns-in-ProofCheck : goal.returns-in-ProofCheck
returns-in-ProofCheck g c =
    subst (λ (w : Work). Gives (work_of w) c.args.sources.now c.without_finding-in-ProofCheck.result) (sym c.in-ProofCheck.is)
    (c.without_finding-in-ProofCheck.ensures proof_check c.args.sources.now c.check_proof.ensures)

pub returns-in-Simulation : goal.returns-in-Simulation
returns-in-Simulation g c =
    subst (λ (w : Work). Gives (work_of w) c.args.sources.now c.without_finding-in-Simulation.result) (sym c.in-Simulation.is)
    (c.without_finding-in-Simulation.ensures (simulation (string_bytes c.in-Simulation.top)) c.args.sources.now (rw c.deref.ensures at c.run_module.ensures))
