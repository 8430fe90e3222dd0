-- What passes make of a design (MLIR documentation, "Pass infrastructure"; CIRCT documentation, "Passes").
use Rattle.std.specs.Prelude.{◌≡◌, List, [], ◌∷◌, ⊤}
use Rattle.hw_model.specs.Design.{Op, Module, Design}
use Rattle.canonicalise.specs.Canonical.{IsCanonicalOf}
use Rattle.cse_pass.specs.Cse.{IsCseOf}
use Rattle.cse_pass.specs.UnusedAggregates.{IsWithoutUnusedAggregates}
use Rattle.inline_pass.specs.DeadModules.{IsWithoutDead}
use Rattle.inline_pass.specs.Flattening.{IsFlattened}
use Rattle.aggregate_lower.specs.Lowering.{lowered_aggregates}
use Rattle.seq_lower.specs.Lowered.{IsLoweredOf}
use Rattle.pass_pipeline.specs.declared.pass.Pass.{Pass}
use Rattle.pass_pipeline.specs.declared.pass.Pass.TheVariants.{Canonicalize, Cse, SeqLowerRegs, HwLowerAggregates, HwFlattenModules, SymbolDce}

-- ---- passes that change bodies

-- the second module is the first with what is made of its body
pub record IsModuleBy (Makes : List Op → List Op → Type 0) (m n : Module) : Type 0 where
  pub kept : n ≡ record m { body = n.body }
  pub made : Makes m.body n.body

-- each module of the second design is the one of the first at its position, with what is made of its body
abbrev pub AreModulesBy : (List Op → List Op → Type 0) → Design → Design → Type 0
AreModulesBy Makes [] [] = ⊤
AreModulesBy Makes (m ∷ d) (n ∷ e) = IsModuleBy Makes m n × AreModulesBy Makes d e
AreModulesBy Makes [] (n ∷ e) = ⊥
AreModulesBy Makes (m ∷ d) [] = ⊥

-- ---- lists of passes

-- what one pass makes of a design
abbrev pub IsChosen : Pass → Design → Design → Type 0
IsChosen Canonicalize d e = AreModulesBy IsCanonicalOf d e
IsChosen Cse d e = AreModulesBy IsCseOf d e
IsChosen SeqLowerRegs d e = AreModulesBy IsLoweredOf d e
IsChosen HwFlattenModules d e = IsFlattened d e
IsChosen SymbolDce d e = IsWithoutDead d e
IsChosen HwLowerAggregates d e = e ≡ lowered_aggregates d

-- what a list of passes makes of a design, the first one first
abbrev pub IsResult : List Pass → Design → Design → Type 0
IsResult [] d e = e ≡ d
IsResult (pass ∷ passes) d f = (e : Design) × IsChosen pass d e × IsResult passes e f

-- ---- for an export

-- what becomes of a design before it is written: operations go that make aggregates for nobody, then those that are left become
-- their leaves
abbrev pub IsForExport : Design → Design → Type 0
IsForExport d f = (e : Design) × AreModulesBy IsWithoutUnusedAggregates d e × IsChosen HwLowerAggregates e f

-- what a list of passes, and then that, makes of a design
abbrev pub IsExported : List Pass → Design → Design → Type 0
IsExported passes d f = (e : Design) × IsResult passes d e × IsForExport e f
