use Rattle.std.proofs.Common.{subst, sym}
use Rattle.miter_blast.specs.Cuts.{AreWordWidths}
use Rattle.miter_blast.proofs.miter.Miter.input_of.Goals as goal

pub cut_bits-requires-clause-some : goal.cut_bits-requires-clause-some
cut_bits-requires-clause-some c = subst AreWordWidths (sym c.deref.ensures.value) c.self.invariant.words
