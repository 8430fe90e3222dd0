-- An accepted design that can be printed stays so where its aggregate values become their leaves.
use Rattle.std.proofs.Common.{List}
use Rattle.hw_model.specs.Kinds.{Kind}
use Rattle.hw_model.specs.Design.{Port, Op, Design}
use Rattle.op_verifier.specs.Verdict.{IsAccepted}
use Rattle.printing_laws.specs.Printable.{Printable}
use Rattle.acceptance_laws.proofs.Accepted.{accepted_fit}
use Rattle.acceptance_laws.proofs.NameCounts.{accepted_again}
use Rattle.aggregate_laws.specs.Aggregates.{aggregate_rules}
use Rattle.aggregate_acceptance.specs.Names.{NamesPorts, NamesInstances}
use Rattle.aggregate_acceptance.specs.Joins.{joined_design}
use Rattle.aggregate_acceptance.proofs.WiresOut.{joins_fit}
use Rattle.aggregate_acceptance.proofs.LoweredWeights.{joins_light}

pub joins_accepted : (split : List Port → List Port) (named : Op → Kind) (d : Design) → IsAccepted d → Printable d → NamesPorts split d → NamesInstances split d named
    → IsAccepted (joined_design (aggregate_rules split named) d) × Printable (joined_design (aggregate_rules split named) d)
joins_accepted split named d accepted printable ports instances =
    accepted_again (joined_design (aggregate_rules split named) d) (joins_fit split named d (accepted_fit d accepted printable) ports instances) d accepted
    (joins_light split named d (accepted_fit d accepted printable) ports instances)
