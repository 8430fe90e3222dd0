use Rattle.export_verilog.proofs.accepted.AcceptedExports.{accepted_exportable}
use Rattle.export_verilog.proofs.acceptance.accepted_designs_are_exportable.Goals as goal

pub returns : goal.returns
returns c = accepted_exportable
