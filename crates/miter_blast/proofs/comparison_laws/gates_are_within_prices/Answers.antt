use Rattle.hw_model.specs.Flat.{registers}
use Rattle.miter_blast.proofs.RegisterCosts.{registers_paid, body_registers_total}
use Rattle.miter_blast.proofs.ComparedCopies.{formula_paid}
use Rattle.miter_blast.proofs.comparison_laws.gates_are_within_prices.Goals as goal

pub returns : goal.returns
returns c = record {
  registers = λ d s. registers_paid (registers d s);
  bodies = body_registers_total;
  gates = formula_paid;
}
