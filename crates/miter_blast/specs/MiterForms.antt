-- What a miter holds.
use Rattle.std.specs.Prelude.{ℕ, ◌≤◌, List}
use Rattle.wiring.specs.Lists.{total}
use Rattle.resolution_proof.specs.Formula.{Formula}
use Rattle.miter_blast.specs.Cuts.{AreWordWidths}

-- its formula, and the widths of the leaves that the first variables are of
pub record MiterForm : Type 0 where
  pub formula : Formula
  pub widths : List ℕ

-- the leaves are words, and have their variables
pub record HasLeaves (m : MiterForm) : Type 0 where
  pub words : AreWordWidths m.widths
  pub enough : total m.widths ≤ m.formula.variables
