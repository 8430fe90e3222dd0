use Rattle.std.proofs.Common.{◌≡◌, drop}
use Rattle.ir_store.specs.Designs.{design_of}
use Rattle.op_verifier.specs.Faults.{first_fault, faults_from}
use Rattle.op_verifier.proofs.faults.first_fault.Given as goal

abbrev pub invariant-loop-number : goal.invariant-loop-number
invariant-loop-number l = first_fault (design_of l.design) ≡ faults_from (design_of l.design) l.number (drop l.number (design_of l.design))
