-- The positions of modules and operations in the source decide nothing of calls, weights and what needs what.
use Rattle.std.proofs.Common.{◌≡◌, ℕ, zero, suc, ◌+◌, List, [], ◌∷◌, ◌++◌, length, map, Option, Some, None, refl, ap, ◌∙◌, option_map}
use Rattle.std.proofs.lemmas.List.{length-map}
use mathlib.Core.Path.{fun_ext}
use Rattle.hw_model.specs.Types.{Name}
use Rattle.hw_model.specs.Design.{Port, Op, Module, Design, op_without_location, module_without_locations, without_locations, find_module, instance_in}
use Rattle.hw_model.specs.Hierarchy.{callee_symbols, called_by, calls}
use Rattle.hw_model.specs.Meaning.{needs_of, needs}
use Rattle.hw_model.specs.Sound.{body_of}
use Rattle.hw_model.specs.Weight.{leaf_count, kind_weight, body_weight, weight_of, module_weight, weight}
use Rattle.hw_model.proofs.Locations.{find_unlocated, body_unlocated, source_unlocated}

-- ---- modules and bodies

-- ---- calls

called_unlocated : (os : List Op) → callee_symbols (map op_without_location os) ≡ callee_symbols os
called_unlocated [] = refl
called_unlocated (o ∷ os) = ap (λ zs. called_by (instance_in o.kind) ++ zs) (called_unlocated os)

pub calls_unlocated : (d : Design) → calls (without_locations d) ≡ calls d
calls_unlocated d =
    fun_ext (λ s. ap (λ o. callee_symbols (body_of o)) (find_unlocated d s) ∙ ap callee_symbols (body_unlocated (find_module d s)) ∙ called_unlocated (body_of (find_module d s)))

-- ---- weights

body_weight_unlocated : (inner : Name → ℕ) (os : List Op) → body_weight inner (map op_without_location os) ≡ body_weight inner os
body_weight_unlocated inner [] = refl
body_weight_unlocated inner (o ∷ os) = ap (λ n. kind_weight inner o.kind o.types (length o.operands) + n) (body_weight_unlocated inner os)

weight_of_unlocated : (inner : Name → ℕ) (o : Option Module) → weight_of inner (option_map module_without_locations o) ≡ weight_of inner o
weight_of_unlocated inner None = refl
weight_of_unlocated inner (Some m) = ap (λ n. leaf_count (map (λ (p : Port). p.type) m.ports) + n) (body_weight_unlocated inner m.body)

module_weight_unlocated : (n : ℕ) (d : Design) (s : Name) → module_weight n (without_locations d) s ≡ module_weight n d s
module_weight_unlocated zero d s = refl
module_weight_unlocated (suc n) d s =
    ap (weight_of (module_weight n (without_locations d))) (find_unlocated d s) ∙ weight_of_unlocated (module_weight n (without_locations d)) (find_module d s)
    ∙ ap (λ inner. weight_of inner (find_module d s)) (fun_ext (module_weight_unlocated n d))

pub weight_unlocated : (d : Design) (s : Name) → weight (without_locations d) s ≡ weight d s
weight_unlocated d s = ap (λ n. module_weight (suc n) (without_locations d) s) (length-map d module_without_locations) ∙ module_weight_unlocated (suc (length d)) d s

-- ---- what needs what

pub needs_unlocated : (d : Design) (top : Name) → needs (without_locations d) top ≡ needs d top
needs_unlocated d top = fun_ext (λ a. ap needs_of (source_unlocated d top a))
