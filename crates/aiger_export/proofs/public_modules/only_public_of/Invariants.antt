use Rattle.ir_store.specs.Designs.{design_of}
use Rattle.aiger_export.proofs.PublicNumbers.{IsFound}
use Rattle.aiger_export.proofs.public_modules.only_public_of.Given as goal

abbrev pub invariant-loop-number : goal.invariant-loop-number
invariant-loop-number l = IsFound (design_of l.design) l.number l.found
