-- An exported text says the tree of its module's gates, which has the module's runs.
use Rattle.std.proofs.Common.{◌≡◌, ◌↔◌, sym, ap, subst, ◌∙◌, ℕ, zero, suc, ◌+◌, ◌^◌, ◌≤◌, ◌<◌, false, List, [], ◌∷◌, map, length, take, drop, arith}
use mathlib.Core.Path.{subst₂}
use Rattle.bits_core.specs.Word.{Word}
use Rattle.operation_gates.specs.WordOrder.{AreSignalsWithin}
use Rattle.hw_model.specs.Design.{Module, Design}
use Rattle.hw_model.specs.Flat.{state}
use Rattle.hw_model.specs.Machine.{Run as ModuleRun}
use Rattle.hw_model.specs.Meaning.{machine}
use Rattle.op_verifier.specs.Verdict.{IsAccepted}
use Rattle.printing_laws.specs.Printable.{Printable}
use Rattle.aggregate_laws.specs.LeafPorts.{split_ports}
use Rattle.net_gates.specs.ClockedInputs.{port_bits, free_bits, with_clocks}
use Rattle.flat_module_laws.specs.FlatPrices.{output_bits}
use Rattle.flat_module_gates.specs.FlatSteps.{content_width}
use Rattle.flat_module_gates.proofs.LinkedRegisters.{state_is_content}
use Rattle.miter_blast.specs.FlatCopy.{IsFlatCopy, KeepsFlat}
use Rattle.miter_blast.specs.Leaves.{held_widths}
use Rattle.miter_blast.proofs.Finding.{same_there}
use Rattle.miter_blast.proofs.Differences.{same_alone}
use Rattle.miter_blast.proofs.CopyLaw.{copy_keeps}
use Rattle.module_names.specs.ModuleNames.{wanted_names, all_names}
use Rattle.and_gates.specs.Clocks.{has_async}
use Rattle.and_gates.proofs.StepBits.{clocked_within, clocked_long}
use Rattle.and_gates.proofs.OneExport.{export_no_async, export_below}
use Rattle.aiger_laws.specs.Steps.{Run}
use Rattle.aiger_laws.specs.Grammar.{IsAiger}
use Rattle.aiger_circuits.specs.CircuitTexts.{AreFew, tree_text}
use Rattle.aiger_circuits.proofs.ReadCircuits.{all_in_lines}
use Rattle.aiger_circuits.proofs.WholeTexts.{circuit_text_is_aiger}
use Rattle.aiger_export.specs.BitNames.{given_bits, bit_symbols}
use Rattle.aiger_export.specs.Exports.{IsExportText, exported_tree}
use Rattle.aiger_export.specs.Runs.{AreWide}
use Rattle.aiger_export.proofs.NameCounts.{names_within, free_total, given_total, held_total}
use Rattle.aiger_export.proofs.NamesInLines.{legal_bits_in_lines, later_bits_in_lines}
use Rattle.aiger_export.proofs.OutputCounts.{outputs_few}
use Rattle.aiger_export.proofs.ExportSteps.{size_is, order_is, outs_within, nexts_within, runs_forth, runs_back}

take_within : {A : Type 0} (n : ℕ) (xs : List A) → length (take n xs) ≤ n
take_within zero xs = omega arith
take_within (suc n) [] = omega arith
take_within (suc n) (x ∷ xs) = let rest = take_within n xs in omega (arith, rest)

module _ (d : Design) (text : List ℕ) (accepted : IsAccepted d) (printable : Printable d) (e : IsExportText d text) where
  abbrev one : Module
  one = e.export.step.one

  abbrev public : Module
  public = e.public

  -- ---- the copy

  copied : IsFlatCopy d public.symbol e.copy
  copied =
      subst (λ (m : Module). IsFlatCopy d m.symbol e.copy) (same_there d e.number e.export.copied.0 public e.export.copied.1 e.only.at) e.export.copied.2

  kept : KeepsFlat d public e.copy
  kept = copy_keeps d e.copy e.number public accepted printable e.only.at copied

  same_one : kept.one ≡ one
  same_one = same_alone e.copy kept.one one kept.is_one e.export.step.is_one

  symbol_is : one.symbol ≡ public.symbol
  symbol_is = sym (ap (λ (m : Module). m.symbol) same_one) ∙ kept.symbol

  ports_are : one.ports ≡ split_ports public.ports
  ports_are = sym (ap (λ (m : Module). m.ports) same_one) ∙ kept.ports

  no_async : has_async one.body ≡ false
  no_async = export_no_async d e.number e.copy e.circuit e.signals e.export

  within : AreSignalsWithin (e.circuit.inputs + length e.circuit.gates) e.signals
  within = clocked_within e.copy e.circuit e.signals e.export.step

  long : length e.signals ≡ output_bits one + state e.copy one.symbol
  long = clocked_long e.copy e.circuit e.signals e.export.step

  -- ---- runs

  module _ (q : Word) (size : length q ≡ state d public.symbol) (steps given : List Word) where
    copy_size : length q ≡ state e.copy one.symbol
    copy_size = size ∙ kept.same.size ∙ sym (ap (state e.copy) symbol_is)

    -- the runs of the copy
    copy_runs : AreWide (free_bits one.ports) steps
        → Run (exported_tree e) q steps given ↔ ModuleRun (machine e.copy one.symbol) q (map (with_clocks one.ports) steps) given
    copy_runs wide = (
      runs_forth e.copy e.circuit e.signals e.export.step within long no_async [] q steps given copy_size wide,
      runs_back e.copy e.circuit e.signals e.export.step within long no_async [] q steps given copy_size wide,
    )

    here : AreWide (free_bits (split_ports public.ports)) steps
        → Run (exported_tree e) q steps given ↔ ModuleRun (machine e.copy public.symbol) q (map (with_clocks (split_ports public.ports)) steps) given
    here wide =
        subst₂ (λ s ps. Run (exported_tree e) q steps given ↔ ModuleRun (machine e.copy s) q (map (with_clocks ps) steps) given) symbol_is ports_are
        (copy_runs (subst (λ ps. AreWide (free_bits ps) steps) (sym ports_are) wide))

    pub text_runs : AreWide (free_bits (split_ports public.ports)) steps
        → Run (exported_tree e) q steps given ↔ ModuleRun (machine d public.symbol) q (map (with_clocks (split_ports public.ports)) steps) given
    text_runs wide =
        let own = here wide in
        let both = kept.same.runs q (map (with_clocks (split_ports public.ports)) steps) given in
        (λ run. both.1 (own.0 run), λ run. own.1 (both.0 run))

  -- ---- what the text says

  held : state e.copy one.symbol ≡ content_width one.body
  held = state_is_content e.copy one.symbol one e.export.step.order e.export.step.flat

  below : e.circuit.inputs + length e.circuit.gates < 2147483648
  below = export_below d e.number e.copy e.circuit e.signals e.export

  inputs_few : free_bits one.ports + content_width one.body < 2147483648
  inputs_few = let start = e.export.step.inputs in omega (arith, start, held, below)

  outputs_bound : output_bits one ≤ 2 ^ 35
  outputs_bound = outputs_few e.copy one e.export.step.is_one e.export.step.flat.plain

  names_few : AreFew (bit_symbols one.ports one.body)
  names_few =
      let names = all_names one.ports one.body in
      let inputs = names_within names (map port_bits one.ports) in
      let free = free_total one.ports in
      let latches = names_within (drop (length one.ports) names) (held_widths one.body) in
      let content = held_total one.body in
      let outputs = names_within names (map given_bits one.ports) in
      let given = given_total one.ports in
      record {
        inputs = omega (arith, inputs, free, inputs_few);
        latches = omega (arith, latches, content, inputs_few);
        outputs = omega (arith, outputs, given, outputs_bound);
      }

  outs_few : length (take (output_bits one) e.signals) < 2 ^ 64
  outs_few = let first = take_within (output_bits one) e.signals in omega (arith, first, outputs_bound)

  variables_few : free_bits one.ports + length (drop (output_bits one) e.signals) + length e.circuit.gates < 2 ^ 31
  variables_few = let size = size_is e.copy e.circuit e.signals e.export.step within long in omega (arith, size, below)

  tree_says : IsAiger (tree_text (exported_tree e) (bit_symbols one.ports one.body)) (exported_tree e)
  tree_says =
      let wanted = wanted_names one.ports one.body in
      circuit_text_is_aiger (free_bits one.ports) (take (output_bits one) e.signals) (drop (output_bits one) e.signals) e.circuit.gates variables_few
      (outs_within e.copy e.circuit e.signals e.export.step within long) (nexts_within e.copy e.circuit e.signals e.export.step within long)
      (order_is e.copy e.circuit e.signals e.export.step within long) (bit_symbols one.ports one.body) outs_few names_few
      (all_in_lines (bit_symbols one.ports one.body) names_few (legal_bits_in_lines wanted (map port_bits one.ports))
      (later_bits_in_lines (length one.ports) wanted (held_widths one.body)) (legal_bits_in_lines wanted (map given_bits one.ports)))

  pub text_says : IsAiger text (exported_tree e)
  text_says = subst (λ bytes. IsAiger bytes (exported_tree e)) (sym e.text_is) tree_says
