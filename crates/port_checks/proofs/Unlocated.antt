-- The positions of modules and operations in the source decide nothing of instances and reset ports.
use Rattle.std.proofs.Common.{◌≡◌, ℕ, zero, suc, ◌+◌, Bool, not, ◌&&◌, ◌||◌, List, [], ◌∷◌, length, map, slice_get, Option, Some, None, is_some, refl, sym, ap, ap₂, ◌∙◌, option_map}
use Rattle.std.specs.List.{list_any}
use mathlib.Core.Path.{fun_ext}
use Rattle.hw_model.specs.Types.{HwType}
use Rattle.hw_model.specs.Kinds.{Instance}
use Rattle.hw_model.specs.Design.{Op, Module, Design, op_without_location, module_without_locations, without_locations, find_module, instance_in, callee, IsSameDesign}
use Rattle.port_checks.specs.InstanceChecks.{call_cause, instance_cause}
use Rattle.port_checks.specs.ResetPorts.{is_bit_input, names_port, joins_marked, makes_reset, is_reset_within, port_count, is_reset_port}
use Rattle.hw_model.proofs.Locations.{find_unlocated, callee_unlocated}

-- ---- modules that are named

pub instance_unlocated : (d : Design) (ts : List HwType) (x : Option Instance) → instance_cause (without_locations d) ts x ≡ instance_cause d ts x
instance_unlocated d ts None = refl
instance_unlocated d ts (Some i) = ap (call_cause i ts) (find_unlocated d i.symbol) ∙ go (find_module d i.symbol)
  where
    go : (m : Option Module) → call_cause i ts (option_map module_without_locations m) ≡ call_cause i ts m
    go None = refl
    go (Some m) = refl

-- ---- reset ports

ports_unlocated : (d : Design) → port_count (without_locations d) ≡ port_count d
ports_unlocated [] = refl
ports_unlocated (m ∷ d) = ap (λ n. length m.ports + n) (ports_unlocated d)

module _ (d : Design) (f g : Module → ℕ → Bool) (same : (m : Module) → f (module_without_locations m) ≡ g m) (j : ℕ) where
  marked_unlocated : (o : Op) (c : Option Module) → joins_marked f j (op_without_location o) (option_map module_without_locations c) ≡ joins_marked g j o c
  marked_unlocated o None = refl
  marked_unlocated o (Some c) = ap (λ marked. joins_marked (λ x. marked) j o (Some c)) (same c)

  makes_unlocated : (o : Op) → makes_reset (without_locations d) f j (op_without_location o) ≡ makes_reset d g j o
  makes_unlocated o =
      ap₂ (λ x b. names_port j o || (not (is_some x) && b)) (instance_unlocated d o.types (instance_in o.kind))
      (ap (joins_marked f j (op_without_location o)) (callee_unlocated d o) ∙ marked_unlocated o (callee d o))

  any_unlocated : (os : List Op) → list_any (makes_reset (without_locations d) f j) (map op_without_location os) ≡ list_any (makes_reset d g j) os
  any_unlocated [] = refl
  any_unlocated (o ∷ os) = ap₂ (λ a b. a || b) (makes_unlocated o) (any_unlocated os)

within_unlocated : (n : ℕ) (d : Design) (m : Module) (j : ℕ) → is_reset_within n (without_locations d) (module_without_locations m) j ≡ is_reset_within n d m j
within_unlocated zero d m j = refl
within_unlocated (suc n) d m j =
    ap (λ b. is_bit_input (slice_get m.ports j) && b)
    (any_unlocated d (is_reset_within n (without_locations d)) (is_reset_within n d) (λ c. fun_ext (within_unlocated n d c)) j m.body)

pub reset_unlocated : (d : Design) (m : Module) (j : ℕ) → is_reset_port (without_locations d) (module_without_locations m) j ≡ is_reset_port d m j
reset_unlocated d m j =
    ap (λ n. is_reset_within (suc n) (without_locations d) (module_without_locations m) j) (ports_unlocated d) ∙ within_unlocated (suc (port_count d)) d m j

pub same_resets : (d e : Design) (m n : Module) → IsSameDesign d e → module_without_locations m ≡ module_without_locations n → (j : ℕ)
    → is_reset_port d m j ≡ is_reset_port e n j
same_resets d e m n same also j =
    sym (reset_unlocated d m j) ∙ ap₂ (λ x y. is_reset_port x y j) same also ∙ reset_unlocated e n j
