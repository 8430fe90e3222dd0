-- Which modules of a design remain after passes (CIRCT documentation, "Passes": modules are flattened into those that
-- instance them; MLIR documentation, "Passes": `symbol-dce`).
use Rattle.std.specs.Prelude.{◌≡◌, ℕ, Bool, true, false, ◌||◌, ◌⊎◌, List, [], ◌∷◌, map, Some, ⊤}
use Rattle.wiring.specs.Wiring.{Chain}
use Rattle.hw_model.specs.Types.{Name}
use Rattle.hw_model.specs.Design.{Module, Design, find_module}
use Rattle.hw_model.specs.Hierarchy.{calls}
use Rattle.pass_pipeline.specs.declared.pass.Pass.{Pass}
use Rattle.pass_pipeline.specs.declared.pass.Pass.TheVariants.{HwLowerAggregates, HwFlattenModules, SymbolDce}

-- ---- passes

-- whether a pass is `hw-flatten-modules`, `symbol-dce`, `hw-lower-aggregates`
abbrev pub is_flatten : Pass → Bool
is_flatten HwFlattenModules = true
is_flatten _ = false

abbrev pub is_symbol_dce : Pass → Bool
is_symbol_dce SymbolDce = true
is_symbol_dce _ = false

abbrev pub is_lowering : Pass → Bool
is_lowering HwLowerAggregates = true
is_lowering _ = false

-- whether some pass of a list meets a test
abbrev pub has_pass : (Pass → Bool) → List Pass → Bool
has_pass test [] = false
has_pass test (pass ∷ passes) = test pass || has_pass test passes

-- ---- modules

-- the symbols of a design's modules, in order
abbrev pub symbols : Design → List Name
symbols d = map (λ (m : Module). m.symbol) d

-- the module of a symbol is there and public
abbrev pub IsPublic : Design → Name → Type 0
IsPublic d s = (m : Module) × (find_module d s ≡ Some m) × (m.is_private ≡ false)

-- it is a public one, or one that instances lead to from a public one
abbrev pub IsReached : Design → Name → Type 0
IsReached d s = (top : Name) × (k : ℕ) × IsPublic d top × Chain (calls d) k top s

-- which modules remain: public ones where modules are flattened, else reached ones where private ones that are not reached
-- go, else all
abbrev pub Remains : (flattened symbols_gone : Bool) → Design → Name → Type 0
Remains true gone d s = IsPublic d s
Remains false true d s = IsReached d s
Remains false false d s = ⊤

-- the module of a symbol remains after passes
abbrev pub IsKept : List Pass → Design → Name → Type 0
IsKept passes d s = Remains (has_pass is_flatten passes) (has_pass is_symbol_dce passes) d s

-- ---- lists

-- the second list has those members of the first that meet P, in order
abbrev pub AreThose : (Name → Type 0) → List Name → List Name → Type 0
AreThose P [] ys = ys ≡ []
AreThose P (x ∷ xs) ys = ((rest : List Name) × (ys ≡ x ∷ rest) × P x × AreThose P xs rest) ⊎ ((P x → ⊥) × AreThose P xs ys)

-- the members of the first list stand in the second, in order, others being between them
abbrev pub AreWithin : List Name → List Name → Type 0
AreWithin xs [] = xs ≡ []
AreWithin xs (y ∷ ys) = ((rest : List Name) × (xs ≡ y ∷ rest) × AreWithin rest ys) ⊎ AreWithin xs ys
