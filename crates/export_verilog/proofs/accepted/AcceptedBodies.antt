-- The modules of an accepted design without aggregates are small, and no value needs itself through pure operations.
use Rattle.std.proofs.Common.{◌≡◌, ℕ, Some, slice_get, ap₂}
use Rattle.std.specs.Prelude.{is_some, ◌||◌}
use Rattle.hw_model.specs.Design.{Module, Design}
use Rattle.op_verifier.specs.Verdict.{IsAccepted}
use Rattle.export_verilog.specs.Aggregates.{HasNoAggregates}
use Rattle.export_verilog.specs.Exportable.{IsExportable}
use Rattle.export_verilog.specs.Room.{HasRoomToExport}
use Rattle.export_verilog.specs.WritableDesigns.{IsWritableModule, IsWritableDesign}
use Rattle.export_verilog.proofs.accepted.AcceptedExports.{small_values, accepted_exportable}
use Rattle.export_verilog.proofs.behaviour.Sources.{inner_acyclic}
use Rattle.export_verilog.proofs.names.Symbols.{module_at_position}

writable_module : (d : Design) → IsAccepted d → HasNoAggregates d → IsExportable d → (n : ℕ) (m : Module) → slice_get d n ≡ Some m → IsWritableModule m
writable_module d fine plain ok n m there =
    let x = ok.modules n m there in
    record {
      small = small_values d fine plain n m there;
      acyclic = inner_acyclic d m.symbol m (module_at_position d ok n m there)
          (λ i o at inst out. (x.ops i o at).one_result (ap₂ (λ a b. is_some a || b) inst out)) (ok.acyclic m.symbol);
      narrow = x.narrow_ports;
    }

-- each accepted design without aggregates is one whose text code writes
pub accepted_writable : (d : Design) → IsAccepted d → HasNoAggregates d → HasRoomToExport d → IsWritableDesign d
accepted_writable d fine plain room =
    let ok = accepted_exportable d fine plain room in
    record { distinct = ok.distinct; modules = writable_module d fine plain ok }
