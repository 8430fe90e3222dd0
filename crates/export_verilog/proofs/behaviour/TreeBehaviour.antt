-- The tree of a design behaves as the design, module by module.
use Rattle.std.proofs.Common.{◌≡◌, ℕ, suc, ◌+◌, Bool, true, false, cond, List, [], ◌∷◌, map, take, slice_get, Option, Some, refl, sym, ◌∙◌, ap, ap₂, zero-add, add-zero, suc-add, add-suc}
use mathlib.Core.Path.{fun_ext}
use Rattle.bits_core.specs.Word.{Word}
use Rattle.hw_model.specs.Types.{Name, HwType}
use Rattle.hw_model.specs.Design.{Ref, Port, Module, Design, find_module, output_refs}
use Rattle.hw_model.specs.Value.{concat_words}
use Rattle.hw_model.specs.Flat.{Net, net as at, registers}
use Rattle.hw_model.specs.Meaning.{machine, outputs, outputs_of}
use Rattle.hw_model.specs.Machine.{Same, Carries}
use Rattle.hw_model.specs.Sound.{type_in, output_types}
use Rattle.hw_model.proofs.Machines.{AlwaysSettles, same_forth}
use Rattle.hw_model.proofs.Finite.{settles_without_cycle}
use Rattle.verilog_model.specs.Tree.{VPort}
use Rattle.verilog_model.specs.Hierarchy.{VNet, vnet, vports_of, vregisters}
use Rattle.verilog_model.specs.Meaning.{tree_machine, tree_outputs, output_ports}
use Rattle.lowering_options.specs.declared.lowering.Lowering.{Lowering}
use Rattle.export_verilog.specs.Identifiers.{each, identifier_text}
use Rattle.export_verilog.specs.Identifiers.Identifier.{port_identifier}
use Rattle.export_verilog.specs.Exported.{symbol_name, vport, tree_of}
use Rattle.export_verilog.proofs.names.IdentifiersOf.{port_in}
use Rattle.export_verilog.proofs.items.Items.{output_count}
use Rattle.export_verilog.proofs.names.Symbols.{vmodule_found, module_at_position}
use Rattle.export_verilog.proofs.items.Settings.{Setting, module_sound}
use Rattle.export_verilog.proofs.behaviour.Content.{state_is}
use Rattle.export_verilog.proofs.behaviour.NetMaps.{back, back_settled}
use Rattle.export_verilog.proofs.behaviour.Owners.{to, to_identifier, output_shows}
use Rattle.export_verilog.proofs.behaviour.SettledMaps.{over_settled, round}
use Rattle.export_verilog.proofs.behaviour.Slots.{are_slots, next_is}
use Rattle.export_verilog.proofs.behaviour.Rises.{risen_is}

-- the words of the output ports, where each shows what its module gives to it
outputs_show : (σ : VNet → Word) (ρ : Net → Word) (m : Module) (type_of : Ref → Option HwType) (j : ℕ) (ps : List Port) (rs : List Ref)
    → map type_of rs ≡ map (λ (t : HwType). Some t) (output_types ps)
    → ((a : ℕ) (y : Port) (r : Ref) → slice_get ps a ≡ Some y → y.is_output ≡ true → slice_get rs (output_count (take a ps)) ≡ Some r → σ (vnet [] (identifier_text m (port_identifier (j + a)))) ≡ ρ (at [] r))
    → map (λ (v : VPort). σ (vnet [] v.name)) (output_ports (each (vport m) j ps)) ≡ map (λ r. ρ (at [] r)) rs
outputs_show σ ρ m type_of j [] [] typed shows = refl
outputs_show σ ρ m type_of j [] (r ∷ rs) typed shows = cc
outputs_show σ ρ m type_of j (y ∷ ps) rs typed shows =
    go y.is_output refl rs typed (λ a z r there out gives. ap (λ n. σ (vnet [] (identifier_text m (port_identifier n)))) (suc-add j a ∙ sym (add-suc j a)) ∙ shows (suc a) z r there out gives)
    (λ r out gives. ap (λ n. σ (vnet [] (identifier_text m (port_identifier n)))) (sym (add-zero j)) ∙ shows 0 y r refl out gives)
    (λ zs t s. outputs_show σ ρ m type_of (suc j) ps zs t s) where
      go : (b : Bool) → y.is_output ≡ b → (zs : List Ref) → map type_of zs ≡ map (λ (t : HwType). Some t) (cond b (y.type ∷ output_types ps) (output_types ps))
          → ((a : ℕ) (z : Port) (r : Ref) → slice_get ps a ≡ Some z → z.is_output ≡ true → slice_get zs (cond y.is_output (suc (output_count (take a ps))) (output_count (take a ps))) ≡ Some r
          → σ (vnet [] (identifier_text m (port_identifier (suc j + a)))) ≡ ρ (at [] r))
          → ((r : Ref) → y.is_output ≡ true → slice_get zs 0 ≡ Some r → σ (vnet [] (identifier_text m (port_identifier j))) ≡ ρ (at [] r))
          → ((ws : List Ref) → map type_of ws ≡ map (λ (t : HwType). Some t) (output_types ps)
          → ((a : ℕ) (z : Port) (r : Ref) → slice_get ps a ≡ Some z → z.is_output ≡ true → slice_get ws (output_count (take a ps)) ≡ Some r → σ (vnet [] (identifier_text m (port_identifier (suc j + a)))) ≡ ρ (at [] r))
          → map (λ (v : VPort). σ (vnet [] v.name)) (output_ports (each (vport m) (suc j) ps)) ≡ map (λ r. ρ (at [] r)) ws)
          → map (λ (v : VPort). σ (vnet [] v.name)) (cond b (record {
            is_output = y.is_output;
            high = Rattle.verilog_model.specs.Digits.high_of
                (Rattle.hw_model.specs.Types.width y.type);
            name = identifier_text m (port_identifier j);
          } ∷ output_ports (each (vport m) (suc j) ps)) (output_ports (each (vport m) (suc j) ps)))
          ≡ map (λ r. ρ (at [] r)) zs
      go true out [] same later first rest = cc
      go true out (r ∷ zs) same later first rest =
          let tails : map type_of zs ≡ map (λ (t : HwType). Some t) (output_types ps) = cc in
          ap₂ (λ w ws. w ∷ ws) (first r out refl)
          (rest zs tails (λ a z s there o gives. later a z s there o (ap (λ b. slice_get (r ∷ zs) (cond b (suc (output_count (take a ps))) (output_count (take a ps)))) out ∙ gives)))
      go false out zs same later first rest =
          rest zs same (λ a z s there o gives. later a z s there o (ap (λ b. slice_get zs (cond b (suc (output_count (take a ps))) (output_count (take a ps)))) out ∙ gives))

module _ (via : Lowering) (d : Design) (x : Setting d) (top : Name) (m0 : Module) (top_is : find_module d top ≡ Some m0) where
  abbrev over : (Net → Word) → VNet → Word
  over ρ = to via d x top m0 top_is ρ

  outputs_same : (ρ : Net → Word) → tree_outputs (tree_of via d) (symbol_name d top) (over ρ) ≡ outputs d top ρ
  outputs_same ρ =
      ap (λ v. concat_words (map (λ (p : VPort). over ρ (vnet [] p.name)) (output_ports (vports_of v)))) (vmodule_found d x.ok x.symbols via top m0 top_is)
      ∙ ap concat_words (outputs_show (over ρ) ρ m0 (type_in m0.ports m0.body) 0 m0.ports (output_refs m0.body) (module_sound d x top m0 top_is).outputs shows)
      ∙ sym (ap (λ o. concat_words (map (λ r. ρ (at [] r)) (outputs_of o))) top_is) where
        shows : (a : ℕ) (y : Port) (r : Ref) → slice_get m0.ports a ≡ Some y → y.is_output ≡ true → slice_get (output_refs m0.body) (output_count (take a m0.ports)) ≡ Some r
            → over ρ (vnet [] (identifier_text m0 (port_identifier (0 + a)))) ≡ ρ (at [] r)
        shows a y r there out gives =
            ap (λ n. over ρ (vnet [] (identifier_text m0 (port_identifier n)))) (zero-add a)
            ∙ to_identifier via d x top m0 top_is ρ [] m0 top_is (port_identifier a) (port_in m0 a y there)
            ∙ ap (λ z. ρ (at [] z)) (output_shows via d x top m0 top_is m0 a y r there out gives)

  design_settles : AlwaysSettles (machine d top)
  design_settles inputs content = settles_without_cycle d top x.ok.finite (x.ok.acyclic top) inputs content

  tree_settles : AlwaysSettles (tree_machine (tree_of via d) (symbol_name d top))
  tree_settles inputs content =
      let mine : Net → Word = (design_settles inputs content).0 in (
        over mine,
        over_settled via d x top inputs content m0 top_is mine (design_settles inputs content).1,
        λ σ settled v.
            let same : back via d x top inputs content m0 top_is σ ≡ mine =
            fun_ext ((design_settles inputs content).2 (back via d x top inputs content m0 top_is σ) (back_settled via d x top inputs content m0 top_is σ settled)) in
            sym (round via d x top inputs content m0 top_is σ settled v) ∙ ap (λ ρ. over ρ v) same,
      )

  carries : Carries (machine d top) (tree_machine (tree_of via d) (symbol_name d top)) over
  carries = record {
    settled = λ inputs content ρ settled. over_settled via d x top inputs content m0 top_is ρ settled;
    outputs = λ inputs content ρ settled. outputs_same ρ;
    next = λ inputs content ρ settled.
        next_is via d x top inputs content m0 top_is ρ settled (registers d top) (vregisters (tree_of via d) (symbol_name d top)) (are_slots via d x top m0 top_is) content;
    rising = λ before inputs content ρ σ settled settled'.
        risen_is via d x top m0 top_is before inputs content ρ σ settled settled' (registers d top) (vregisters (tree_of via d) (symbol_name d top)) (are_slots via d x top m0 top_is) content;
  }

  pub module_same : Same (machine d top) (tree_machine (tree_of via d) (symbol_name d top))
  module_same = same_forth (machine d top) (tree_machine (tree_of via d) (symbol_name d top)) over (sym (state_is via d x top m0 top_is)) design_settles tree_settles carries

-- each module of the tree behaves as the module of the design
pub exported_same_by : (via : Lowering) (d : Design) → Setting d → (n : ℕ) (m : Module) → slice_get d n ≡ Some m → Same (machine d m.symbol) (tree_machine (tree_of via d) (symbol_name d m.symbol))
exported_same_by via d x n m there = module_same via d x m.symbol m (module_at_position d x.ok n m there)
