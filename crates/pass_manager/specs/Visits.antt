-- What a gate is told while passes work on a design.
use Rattle.std.specs.Prelude.{◌≡◌, ℕ, List, [], ◌∷◌, Option, length}
use Rattle.hw_model.specs.Design.{Design}
use Rattle.pass_pipeline.specs.declared.pass.Pass.{Pass}
use Rattle.pass_pipeline.specs.declared.pass.Pass.TheVariants.{Canonicalize, Cse, SeqLowerRegs, HwLowerAggregates, HwFlattenModules, SymbolDce}
use Rattle.shared_schedule.specs.Visits.{History, VisitsEach}
use Rattle.pass_manager.specs.Results.{IsChosen}

-- one pass over so many modules: where workers work on bodies the gate is told of each module once, in any order, else of none
abbrev pub IsToldOf : Pass → ℕ → Option History → Option History → Type 0
IsToldOf Canonicalize modules before after = VisitsEach modules before after
IsToldOf Cse modules before after = VisitsEach modules before after
IsToldOf SeqLowerRegs modules before after = VisitsEach modules before after
IsToldOf HwFlattenModules modules before after = VisitsEach modules before after
IsToldOf SymbolDce modules before after = after ≡ before
IsToldOf HwLowerAggregates modules before after = after ≡ before

-- a list of passes: the gate is told by one after another, by each of the modules of the design that those before it have made
abbrev pub AreToldOf : List Pass → Design → Option History → Option History → Type 0
AreToldOf [] d before after = after ≡ before
AreToldOf (pass ∷ passes) d before after =
    (e : Design) × (between : Option History) × IsChosen pass d e × IsToldOf pass (length d) before between × AreToldOf passes e between after
