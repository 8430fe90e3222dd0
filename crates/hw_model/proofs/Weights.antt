-- Weights: they do not rise where no module's own does.
use Rattle.std.proofs.Common.{◌≡◌, ℕ, zero, suc, ◌≤◌, List, [], ◌∷◌, length, Option, Some, None, sym, subst, arith}
use Rattle.hw_model.specs.Types.{Name, HwType}
use Rattle.hw_model.specs.Kinds.{Kind, RegisterOp}
use Rattle.hw_model.specs.Kinds.RegisterOp.{compreg, compreg_ce, firreg}
use Rattle.hw_model.specs.Kinds.Kind.{instance}
use Rattle.hw_model.specs.Design.{Op, Module, Design, find_module}
use Rattle.hw_model.specs.Weight.{register_weight, kind_weight, body_weight, weight_of, module_weight, weight}

-- a register weighs something
pub register_weighs : (f : RegisterOp) → 1 ≤ register_weight f
register_weighs compreg = omega arith
register_weighs compreg_ce = omega arith
register_weighs firreg = omega arith

module _ (f g : Name → ℕ) (below : (s : Name) → f s ≤ g s) where
  kind_weight_le : (kind : Kind) (ts : List HwType) (n : ℕ) → kind_weight f kind ts n ≤ kind_weight g kind ts n
  kind_weight_le (instance i) ts n = let inner : f i.symbol ≤ g i.symbol = below i.symbol in omega arith
  kind_weight_le kind ts n = omega arith

  body_weight_le : (os : List Op) → body_weight f os ≤ body_weight g os
  body_weight_le [] = omega arith
  body_weight_le (o ∷ os) =
      let first : kind_weight f o.kind o.types (length o.operands) ≤ kind_weight g o.kind o.types (length o.operands) = kind_weight_le o.kind o.types (length o.operands) in
      let rest : body_weight f os ≤ body_weight g os = body_weight_le os in
      omega arith

  pub weight_of_le : (o : Option Module) → weight_of f o ≤ weight_of g o
  weight_of_le None = omega arith
  weight_of_le (Some m) = let body : body_weight f m.body ≤ body_weight g m.body = body_weight_le m.body in omega arith

-- no module is heavier in the second design where none is with the same weights for what it instances
pub weight_not_raised : (d e : Design) → length e ≡ length d → ((s : Name) (inner : Name → ℕ) → weight_of inner (find_module e s) ≤ weight_of inner (find_module d s))
    → (s : Name) → weight e s ≤ weight d s
weight_not_raised d e size each s = subst (λ n. module_weight (suc n) e s ≤ weight d s) (sym size) (at_depth (suc (length d)) s)
  where
    at_depth : (n : ℕ) (s : Name) → module_weight n e s ≤ module_weight n d s
    at_depth zero s = omega arith
    at_depth (suc n) s =
        let own : weight_of (module_weight n e) (find_module e s) ≤ weight_of (module_weight n e) (find_module d s) = each s (module_weight n e) in
        let inner : weight_of (module_weight n e) (find_module d s) ≤ weight_of (module_weight n d) (find_module d s) =
        weight_of_le (module_weight n e) (module_weight n d) (at_depth n) (find_module d s) in
        omega arith
