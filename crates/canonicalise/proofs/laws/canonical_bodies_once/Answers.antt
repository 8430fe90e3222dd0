use Rattle.canonicalise.specs.Canonical.{table}
use Rattle.canonicalise.proofs.Sweeping.{once}
use Rattle.canonicalise.proofs.laws.canonical_bodies_once.Goals as goal

pub returns : goal.returns
returns c = once table
