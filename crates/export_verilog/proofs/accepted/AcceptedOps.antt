-- What the verifier's tests say of the operations and headers of an accepted design.
use Rattle.std.proofs.Common.{◌≡◌, ℕ, zero, suc, Bool, true, false, cond, List, [], ◌∷◌, slice_get, Some, refl, sym, ap, ◌∙◌}
use Rattle.hw_model.specs.Design.{Port, Op, Module, Design, find_module}
use Rattle.design_cycles.proofs.Callees.{found_at}
use Rattle.op_checks.specs.TypeChecks.{is_outside}
use Rattle.op_verifier.specs.Headers.{has_port}
use Rattle.op_verifier.specs.Verdict.{IsAccepted}
use Rattle.op_verifier.proofs.AcceptedDesigns.{no_fault, accepted_distinct}
use Rattle.op_verifier.proofs.NoCauseAlone.{NoCauseAlone, no_cause_alone}
use Rattle.op_verifier.proofs.Unrefused.{no_op_cause, no_header_cause, IsUnrefused, ops_unrefused, IsUnrefusedModule, module_unrefused}

-- a header that is not refused has no type outside the limits
no_port : (test : Port → Bool) (ps : List Port) → has_port test ps ≡ false → (j : ℕ) (p : Port) → slice_get ps j ≡ Some p → test p ≡ false
no_port test [] h j p there = cc
no_port test (q ∷ ps) h zero p there = let same : q ≡ p = cc in sym (ap test same) ∙ (go (test q) h).0 where
  go : (b : Bool) → cond b true (has_port test ps) ≡ false → (b ≡ false) × (has_port test ps ≡ false)
  go false e = (refl, e)
  go true e = cc
no_port test (q ∷ ps) h (suc j) p there = no_port test ps (go (test q) h) j p there where
  go : (b : Bool) → cond b true (has_port test ps) ≡ false → has_port test ps ≡ false
  go false e = e
  go true e = cc

module _ (d : Design) (fine : IsAccepted d) (n : ℕ) (m : Module) (there : slice_get d n ≡ Some m) where
  pub found : find_module d m.symbol ≡ Some m
  found = (found_at d (accepted_distinct d fine) n m there).1

  unrefused : IsUnrefusedModule d m
  unrefused = module_unrefused d (no_fault d fine) m.symbol m found

  pub op_tested : (j : ℕ) (o : Op) → slice_get m.body j ≡ Some o → NoCauseAlone m.ports m.body o
  op_tested j o at =
      let op : IsUnrefused d m.ports m.body o = ops_unrefused d m.ports m.body m.body unrefused.body j o at in
      no_cause_alone m.ports m.body o (no_op_cause d m.ports m.body op.last o op.none).alone

  pub port_within : (j : ℕ) (p : Port) → slice_get m.ports j ≡ Some p → is_outside p.type ≡ false
  port_within j p at =
      no_port (λ (q : Port). is_outside q.type) m.ports (no_header_cause d unrefused.number m unrefused.header).types j p at
