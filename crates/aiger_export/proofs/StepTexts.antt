-- The text of the gates of a flat module, and of the design that it is the only public module of.
use Rattle.std.proofs.Common.{◌≡◌, ap, ◌∙◌, ℕ, ◌+◌, ◌<◌, List, map, length, slice_get, Some, arith}
use Rattle.std.proofs.lemmas.List.{length-map}
use Rattle.gates.specs.declared.signal.Signal.{Signal}
use Rattle.gates.specs.Circuits.{Circuit}
use Rattle.hw_model.specs.Design.{Module, Design}
use Rattle.hw_model.specs.Flat.{state}
use Rattle.ir_store.specs.Designs.{StoredModule, numbered_module}
use Rattle.net_gates.specs.ClockedInputs.{free_bits}
use Rattle.flat_module_laws.specs.FlatPrices.{output_bits}
use Rattle.flat_module_gates.specs.FlatSteps.{content_width}
use Rattle.flat_module_gates.proofs.LinkedRegisters.{state_is_content}
use Rattle.miter_blast.proofs.Finding.{below_of, stored_at, same_there}
use Rattle.and_gates.specs.Exports.{IsClockedStep, IsExport}
use Rattle.and_gates.proofs.StepBits.{clocked_long}
use Rattle.aiger_circuits.specs.CircuitTexts.{tree_text}
use Rattle.aiger_export.specs.BitNames.{bit_symbols}
use Rattle.aiger_export.specs.PublicModules.{only_public}
use Rattle.aiger_export.specs.Exports.{step_tree, IsExportText}
use Rattle.aiger_export.proofs.PublicNumbers.{public_there}

-- ---- the module

-- a number at which a module is, among those that are stored
pub within_stored : (ms : List StoredModule) (n : ℕ) (m : Module) → slice_get (map numbered_module ms) n ≡ Some m → n < length ms
within_stored ms n m at =
    let below = below_of (map numbered_module ms) n m at in
    let count = length-map ms numbered_module in
    omega (arith, below, count)

-- that of the only public module
pub public_within : (ms : List StoredModule) (n : ℕ) → only_public (map numbered_module ms) ≡ Some n → n < length ms
public_within ms n only = let there = public_there (map numbered_module ms) n only in within_stored ms n there.0 there.1

module _ (ms : List StoredModule) (circuit : Circuit) (signals : List Signal) (is : IsClockedStep (map numbered_module ms) circuit signals) where
  pub some_there : 0 < length ms
  some_there = within_stored ms 0 is.one (ap (λ e. slice_get e 0) is.is_one)

  module _ (x : StoredModule) (at : Some x ≡ slice_get ms 0) where
    pub same_one : is.one ≡ numbered_module x
    same_one = same_there (map numbered_module ms) 0 is.one (numbered_module x) (ap (λ e. slice_get e 0) is.is_one) (stored_at ms 0 x at)

    held : state (map numbered_module ms) is.one.symbol ≡ content_width is.one.body
    held = state_is_content (map numbered_module ms) is.one.symbol is.one is.order is.flat

    pub inputs_are : circuit.inputs ≡ free_bits (numbered_module x).ports + content_width (numbered_module x).body
    inputs_are =
        is.inputs ∙ ap (λ n. free_bits is.one.ports + n) held ∙ ap (λ (m : Module). free_bits m.ports + content_width m.body) same_one

    pub signals_are : length signals ≡ output_bits (numbered_module x) + content_width (numbered_module x).body
    signals_are =
        clocked_long (map numbered_module ms) circuit signals is ∙ ap (λ n. output_bits is.one + n) held
        ∙ ap (λ (m : Module). output_bits m + content_width m.body) same_one

-- ---- the text

-- the text of the gates is that of the design
pub text_there : (d : Design) (n : ℕ) (copy : Design) (circuit : Circuit) (signals : List Signal) (export : IsExport d n copy circuit signals) (text : List ℕ)
    → only_public d ≡ Some n → text ≡ tree_text (step_tree export.step.one circuit signals) (bit_symbols export.step.one.ports export.step.one.body) → IsExportText d text
text_there d n copy circuit signals export text only is =
    let there = public_there d n only in
    record {
      number = n;
      public = there.0;
      only = record { only = only; at = there.1 };
      copy = copy;
      circuit = circuit;
      signals = signals;
      export = export;
      text_is = is;
    }
