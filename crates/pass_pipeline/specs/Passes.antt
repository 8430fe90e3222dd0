-- Passes: their names, and where they may stand (MLIR documentation, "Passes"; CIRCT documentation, "Passes").
use Rattle.std.specs.Prelude.{ℕ, Bool, true, false, cond, List, [], ◌∷◌, Option, Some, None, codes, nat_eq}
use Rattle.std.specs.Cmp.Lexicographic.{pointwise}
use Rattle.pass_pipeline.specs.declared.pass.Pass.{Pass}
use Rattle.pass_pipeline.specs.declared.pass.Pass.TheVariants.{Canonicalize, Cse, SeqLowerRegs, HwLowerAggregates, HwFlattenModules, SymbolDce}
use Rattle.pass_pipeline.specs.declared.pass.Anchor.{Anchor}
use Rattle.pass_pipeline.specs.declared.pass.Anchor.TheVariants.{BuiltinModule, HwModule}

-- whether bytes are the same
abbrev pub same_bytes : List ℕ → List ℕ → Bool
same_bytes = pointwise nat_eq

-- the name of a pass (MLIR documentation, "Passes": `canonicalize`, `cse`, `symbol-dce`; CIRCT documentation, "Passes":
-- `hw-flatten-modules`; the two that lower registers and aggregates have names of this project)
unfoldable pub pass_name : Pass → List ℕ
pass_name Canonicalize = codes "canonicalize"
pass_name Cse = codes "cse"
pass_name SeqLowerRegs = codes "seq-lower-regs"
pass_name HwLowerAggregates = codes "hw-lower-aggregates"
pass_name HwFlattenModules = codes "hw-flatten-modules"
pass_name SymbolDce = codes "symbol-dce"

-- whether a pass runs on an operation: each on a design, and on a module by itself those that look at no other one
-- (MLIR documentation, "Pass infrastructure": operation passes)
unfoldable pub runs_on : Anchor → Pass → Bool
runs_on BuiltinModule pass = true
runs_on HwModule Canonicalize = true
runs_on HwModule Cse = true
runs_on HwModule SeqLowerRegs = true
runs_on HwModule HwLowerAggregates = false
runs_on HwModule HwFlattenModules = false
runs_on HwModule SymbolDce = false

-- the pass of a name, among those on offer (MLIR documentation, "Pass infrastructure": pass registration)
abbrev pub pass_named : List Pass → List ℕ → Option Pass
pass_named [] name = None
pass_named (pass ∷ offered) name = cond (same_bytes (pass_name pass) name) (Some pass) (pass_named offered name)
