-- A flat copy of a module of an accepted design steps as the module does, and has inputs, outputs and content as wide.
use Rattle.std.proofs.Common.{◌≡◌, sym, ap, subst, ◌∙◌, ◌↔◌, [], ◌∷◌, map, flat_map, Some}
use Rattle.wiring.proofs.Members.{position_of_In}
use Rattle.bits_core.specs.Word.{Word}
use Rattle.hw_model.specs.Types.{Name, leaves}
use Rattle.hw_model.specs.Design.{Module, Design, find_module}
use Rattle.hw_model.specs.Flat.{input_width, width_of, state}
use Rattle.hw_model.specs.Machine.{Step, Same}
use Rattle.hw_model.specs.Meaning.{HasHeights, machine}
use Rattle.hw_model.specs.Sound.{ports_of, output_types}
use Rattle.hw_model.specs.Agreement.{input_bits, LevelStep}
use Rattle.hw_model.proofs.Agreeing.{first_steps}
use Rattle.hw_model.proofs.Finite.{heights_from_no_cycle}
use Rattle.hw_model.proofs.Machines.{steps_of_same}
use Rattle.edit_laws.proofs.ResetsKept.{find_symbol}
use Rattle.port_checks.specs.ResetPorts.{is_reset_port}
use Rattle.port_checks.proofs.Least.{found_module}
use Rattle.op_verifier.specs.Verdict.{IsAccepted}
use Rattle.op_verifier.proofs.AcceptedDesigns.{accepted_finite, accepted_acyclic, accepted_resets}
use Rattle.printing_laws.specs.Printable.{Printable}
use Rattle.pass_laws.specs.PassLaw.{register_types}
use Rattle.miter_blast.specs.FlatCopy.{IsFlatCopy, KeepsFlat}
use Rattle.miter_blast.proofs.CopyLaw.{copy_keeps}
use Rattle.miter_blast.specs.Comparable.{register_widths}
use Rattle.miter_blast.proofs.CopyWidths.{kept_inputs, kept_outputs, kept_widths, kept_state}

pub accepted_heights : (d : Design) (s : Name) → IsAccepted d → HasHeights d s
accepted_heights d s accepted = heights_from_no_cycle d s (accepted_finite d accepted) (accepted_acyclic d accepted s)

-- the steps by levels of an accepted design are the first steps of runs
level_steps : (d : Design) (s : Name) → IsAccepted d → (x q given after : Word) → LevelStep d s x q given after ↔ Step (machine d s) [] x q given after
level_steps d s accepted = first_steps d s (is_reset_port d) (accepted_resets d accepted) (accepted_heights d s accepted)

module _ (d : Design) (a : Name) (m : Module) (c : Design) (accepted : IsAccepted d) (printable : Printable d) (found : find_module d a ≡ Some m) (copy : IsFlatCopy d a c) where
  symbol_is : m.symbol ≡ a
  symbol_is = find_symbol d a m found

  keeps : KeepsFlat d m c
  keeps =
      let position = position_of_In m d (found_module d a m found) in
      copy_keeps d c position.0 m accepted printable position.1 (subst (λ s. IsFlatCopy d s c) (sym symbol_is) copy)

  same_machine : Same (machine d a) (machine c a)
  same_machine = subst (λ s. Same (machine d s) (machine c s)) symbol_is keeps.same

  pub copy_steps : (x q given after : Word) → LevelStep d a x q given after ↔ LevelStep c a x q given after
  copy_steps x q given after =
      let own = level_steps d a accepted x q given after in
      let other = level_steps c a keeps.accepted x q given after in
      let same = steps_of_same (machine d a) (machine c a) same_machine [] x q given after in
      (λ step. other.1 (same.0 (own.0 step)), λ step. own.1 (same.1 (other.0 step)))

  pub copy_widths : map width_of (register_types c a) ≡ register_widths d a
  copy_widths = subst (λ s. map width_of (register_types c s) ≡ register_widths d s) symbol_is (kept_widths d c m keeps)

  pub copy_state : state c a ≡ state d a
  copy_state = subst (λ s. state c s ≡ state d s) symbol_is (kept_state d c m keeps)

  module _ (one : Module) (is : c ≡ one ∷ []) where
    same_one : keeps.one ≡ one
    same_one = let lists : keeps.one ∷ [] ≡ one ∷ [] = sym keeps.is_one ∙ is in cc

    pub copy_inputs : input_width one.ports ≡ input_width m.ports
    copy_inputs = ap (λ (x : Module). input_width x.ports) (sym same_one) ∙ kept_inputs d c m keeps

    pub copy_input_bits : input_width one.ports ≡ input_bits d a
    copy_input_bits = copy_inputs ∙ sym (ap (λ o. input_width (ports_of o)) found)

    pub copy_outputs : output_types one.ports ≡ flat_map leaves (output_types m.ports)
    copy_outputs = ap (λ (x : Module). output_types x.ports) (sym same_one) ∙ kept_outputs d c m keeps
