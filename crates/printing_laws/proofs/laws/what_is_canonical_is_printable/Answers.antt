use Rattle.printing_laws.proofs.VerifiedDesigns.{canonical_designs_are_printable}
use Rattle.printing_laws.proofs.laws.what_is_canonical_is_printable.Goals as goal

pub returns : goal.returns
returns c = canonical_designs_are_printable
