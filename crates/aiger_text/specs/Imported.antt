-- The design that a text says.
use Rattle.std.specs.Prelude.{◌≡◌, ℕ, List}
use Rattle.hw_model.specs.Design.{Design}
use Rattle.aiger_laws.specs.Trees.{Aiger}
use Rattle.aiger_laws.specs.Grammar.{IsAiger}
use Rattle.aiger_design.specs.Built.{imported_design}

-- the design is that of the tree that the text says
abbrev pub IsImported : List ℕ → Design → Type 0
IsImported bytes d = (t : Aiger) × IsAiger bytes t × (d ≡ imported_design t)
