-- A flat copy has as many bits of inputs and of content as its module, and the leaves of its outputs.
use Rattle.std.proofs.Common.{◌≡◌, refl, sym, ap, ◌∙◌, ◌+◌, List, [], ◌∷◌, map, flat_map}
use Rattle.wiring.specs.Lists.{total}
use Rattle.hw_model.specs.Types.{Name, leaves}
use Rattle.hw_model.specs.Design.{Port, Module, Design, result_type}
use Rattle.hw_model.specs.Flat.{Slot, input_width, width_of, held_width, depth, registers, state}
use Rattle.hw_model.specs.Sound.{input_types, output_types}
use Rattle.hw_model.proofs.Content.{slots_width, registers_width}
use Rattle.aggregate_laws.specs.LeafPorts.{split_ports}
use Rattle.aggregate_laws.proofs.Bare.{input_types_bare, output_types_bare}
use Rattle.aggregate_laws.proofs.LeafPorts.{split_bare}
use Rattle.aggregate_laws.proofs.Ports.{input_types_lowered, output_types_lowered, width_types, widths_lowered}
use Rattle.aggregate_laws.proofs.Words.{widths}
use Rattle.pass_laws.specs.PassLaw.{register_types}
use Rattle.miter_blast.specs.FlatCopy.{KeepsFlat}
use Rattle.miter_blast.specs.Comparable.{register_widths}

-- ---- ports

split_inputs : (ps : List Port) → input_types (split_ports ps) ≡ flat_map leaves (input_types ps)
split_inputs ps = sym (input_types_bare (split_ports ps)) ∙ ap input_types (split_bare ps) ∙ input_types_lowered ps

split_outputs : (ps : List Port) → output_types (split_ports ps) ≡ flat_map leaves (output_types ps)
split_outputs ps = sym (output_types_bare (split_ports ps)) ∙ ap output_types (split_bare ps) ∙ output_types_lowered ps

split_width : (ps : List Port) → input_width (split_ports ps) ≡ input_width ps
split_width ps =
    width_types (split_ports ps) ∙ ap widths (split_inputs ps) ∙ widths_lowered (input_types ps) ∙ sym (width_types ps)

-- ---- registers

slots_by_widths : (ss : List Slot) → slots_width ss ≡ total (map width_of (map (λ (r : Slot). result_type r.op 0) ss))
slots_by_widths [] = refl
slots_by_widths (s ∷ ss) = ap (λ n. held_width s.op + n) (slots_by_widths ss)

-- the content has as many bits as the registers
pub state_by_widths : (d : Design) (s : Name) → state d s ≡ total (map width_of (register_types d s))
state_by_widths d s = sym (registers_width d (depth d) [] s) ∙ slots_by_widths (registers d s)

-- ---- what a copy keeps

module _ (d c : Design) (m : Module) (kept : KeepsFlat d m c) where
  pub kept_inputs : input_width kept.one.ports ≡ input_width m.ports
  kept_inputs = ap input_width kept.ports ∙ split_width m.ports

  pub kept_input_types : input_types kept.one.ports ≡ flat_map leaves (input_types m.ports)
  kept_input_types = ap input_types kept.ports ∙ split_inputs m.ports

  pub kept_outputs : output_types kept.one.ports ≡ flat_map leaves (output_types m.ports)
  kept_outputs = ap output_types kept.ports ∙ split_outputs m.ports

  pub kept_widths : map width_of (register_types c m.symbol) ≡ register_widths d m.symbol
  kept_widths = ap (map width_of) kept.registers

  pub kept_state : state c m.symbol ≡ state d m.symbol
  kept_state = sym kept.same.size
