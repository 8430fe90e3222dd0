-- A design without its dead modules (MLIR documentation, "Passes": `symbol-dce`).
use Rattle.std.specs.Prelude.{◌≡◌, ◌⊎◌, [], ◌∷◌}
use Rattle.hw_model.specs.Types.{Name}
use Rattle.hw_model.specs.Design.{Design}
use Rattle.pass_laws.specs.Remaining.{IsReached}

-- the second design has the modules of the first whose symbols meet P, in order
abbrev pub AreReachedOf : (Name → Type 0) → Design → Design → Type 0
AreReachedOf P [] es = es ≡ []
AreReachedOf P (m ∷ d) es = ((rest : Design) × (es ≡ m ∷ rest) × P m.symbol × AreReachedOf P d rest) ⊎ ((P m.symbol → ⊥) × AreReachedOf P d es)

-- the second design has the modules of the first that are reached from public ones, in order
abbrev pub IsWithoutDead : Design → Design → Type 0
IsWithoutDead d e = AreReachedOf (IsReached d) d e
