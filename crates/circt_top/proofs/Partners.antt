-- Each public module of an accepted design has its partner in what passes leave.
use Rattle.std.proofs.Common.{◌≡◌, false, List, Some, ◌∙◌}
use Rattle.wiring.specs.Wiring.{In}
use Rattle.wiring.proofs.Members.{In-slice_get, In-map, position_of_In}
use Rattle.design_cycles.proofs.Callees.{found_at}
use Rattle.hw_model.specs.Design.{Module, Design, find_module}
use Rattle.export_verilog.proofs.names.Symbols.{found_symbol}
use Rattle.op_verifier.specs.Verdict.{IsAccepted}
use Rattle.op_verifier.proofs.AcceptedDesigns.{accepted_distinct}
use Rattle.pass_pipeline.specs.declared.pass.Pass.{Pass}
use Rattle.pass_laws.specs.PassLaw.{IsAfter}
use Rattle.pass_laws.specs.Remaining.{is_flatten, is_symbol_dce, has_pass, symbols, IsPublic, IsKept}
use Rattle.pass_laws.proofs.Remaining.{symbol_found, public_kept}
use Rattle.pass_laws.proofs.Those.{those_stay}
use Rattle.circt_top.specs.Partners.{HasPartner, HasPartners}

pub partners : (passes : List Pass) (d e : Design) → IsAccepted d → IsAfter passes d e → HasPartners passes d e
partners passes d e accepted after = record { order = after.order; each = partner }
  where
    partner : (m : Module) → In m d → m.is_private ≡ false → HasPartner passes d m e
    partner m here exposed =
        let at = position_of_In m d here in
        let found : find_module d m.symbol ≡ Some m = (found_at d (accepted_distinct d accepted) at.0 m at.1).1 in
        let public : IsPublic d m.symbol = (m, found, exposed) in
        let remains : IsKept passes d m.symbol = public_kept passes d e after (has_pass is_flatten passes) (has_pass is_symbol_dce passes) m.symbol public in
        let there : In m.symbol (symbols e) = those_stay (IsKept passes d) m.symbol (symbols d) (symbols e) after.order (In-map (λ (x : Module). x.symbol) m d here) remains in
        let still = symbol_found e m.symbol there in
        let location = found_symbol e m.symbol still.0 still.1 in
        let kept = after.modules m.symbol m still.0 found still.1 in
        record {
          partner = still.0;
          there = In-slice_get still.0 e location.0 location.1;
          found = still.1;
          symbol = location.2;
          exposed = kept.mark ∙ exposed;
          ports = kept.ports;
          behaves = after.same m.symbol public;
        }
