-- The registers of a flat module are those of its body.
use Rattle.std.proofs.Common.{◌≡◌, refl, ap, ◌∙◌, ℕ, suc, Bool, true, false, List, [], ◌∷◌, length, Some, None, slice_get}
use Rattle.hw_model.specs.Types.{Name}
use Rattle.hw_model.specs.Design.{Op, Module, Design, instance_in, is_register}
use Rattle.hw_model.specs.Flat.{Path, Slot, body_registers, registers_of, module_registers, registers, state, state_of, module_state}
use Rattle.flat_module_laws.specs.Sides.{IsFlat}
use Rattle.flat_module_laws.proofs.FlatBodies.{no_instance}
use Rattle.flat_module_gates.specs.FlatSteps.{slot, slots_of, content_width}
use Rattle.flat_module_gates.proofs.Linking.{content_is}

slots_are : (inner : Path → Name → List Slot) (u : ℕ) (os : List Op) → ((i : ℕ) (o : Op) → slice_get os i ≡ Some o → instance_in o.kind ≡ None) → body_registers inner [] u os ≡ slots_of os
slots_are inner u [] none = refl
slots_are inner u (o ∷ os) none = go (is_register o) refl (slots_are inner u os (λ i p at. none (suc i) p at))
  where
    alone : instance_in o.kind ≡ None
    alone = none 0 o refl

    go : (b : Bool) → is_register o ≡ b → body_registers inner [] u os ≡ slots_of os → body_registers inner [] u (o ∷ os) ≡ slots_of (o ∷ os)
    go true is rest = simp (is, alone) (ap (λ (ss : List Slot). slot o ∷ ss) rest)
    go false is rest = simp (is, alone) rest

module _ (d : Design) (top : Name) (m : Module) (order : List ℕ) (flat : IsFlat d top m order) where
  pub registers_are : registers d top ≡ slots_of m.body
  registers_are =
      ap (registers_of (module_registers (length d) d) []) flat.plain.found
      ∙ slots_are (module_registers (length d) d) 0 m.body (λ i o at. no_instance d top m order flat i o at)

  -- and they hold so many bits
  pub state_is_content : state d top ≡ content_width m.body
  state_is_content =
      ap (state_of (module_state (length d) d)) flat.plain.found
      ∙ content_is (module_state (length d) d) m.body (λ i o at. no_instance d top m order flat i o at)
