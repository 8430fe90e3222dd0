-- The run of a flat copy is the run of the module.
use Rattle.std.proofs.Common.{◌≡◌, sym, ap, ap₂, subst, ◌∙◌, ℕ, List, [], ◌∷◌, map, slice_get, Some}
use Rattle.bits_core.specs.Word.{Word}
use Rattle.hw_model.specs.Types.{Name, width}
use Rattle.hw_model.specs.Design.{Module, Design, find_module}
use Rattle.hw_model.specs.Machine.{Run}
use Rattle.hw_model.specs.Meaning.{machine}
use Rattle.hw_model.specs.Sound.{output_types}
use Rattle.hw_model.specs.Value.{concat_words}
use Rattle.edit_laws.proofs.ResetsKept.{find_symbol}
use Rattle.op_verifier.specs.Verdict.{IsAccepted}
use Rattle.printing_laws.specs.Printable.{Printable}
use Rattle.miter_blast.specs.FlatCopy.{IsFlatCopyAt, KeepsFlat}
use Rattle.miter_blast.specs.Leaves.{held_widths, input_widths}
use Rattle.miter_blast.proofs.Compared.{keeps, copy_symbol, copy_held, copy_inputs}
use Rattle.miter_blast.proofs.CopyWidths.{kept_outputs}
use Rattle.miter_blast.proofs.Differences.{same_alone}
use Rattle.step_file.specs.declared.fail.StepFail.{StepFail}
use Rattle.step_file.specs.declared.fail.StepFail.TheVariants.{Refused, NoMemory}
use Rattle.step_file.specs.StepFile.{steps_of}
use Rattle.cycle_sim.specs.RunLines.{run_lines}
use Rattle.cycle_sim.specs.Simulations.{leaf_widths, steps_for, IsSimulation, IsRefusedSimulation, failure}
use Rattle.cycle_sim.specs.FlatRuns.{IsFlatSimulation, IsFlatFault}

module _ (d : Design) (s : Name) (i : ℕ) (m : Module) (accepted : IsAccepted d) (printable : Printable d) (at : slice_get d i ≡ Some m) (found : find_module d s ≡ Some m)
    (c : Design) (copied : IsFlatCopyAt d i c) (steps : List ℕ) where
  kept : KeepsFlat d m c
  kept = keeps d s i m accepted printable at found c copied

  module _ (one : Module) (is : c ≡ one ∷ []) where
    says_alike : steps_for d s m steps ≡ steps_of (held_widths one.body) (input_widths one.ports) steps
    says_alike =
        ap₂ (λ (rs ns : List ℕ). steps_of rs ns steps) (sym (copy_held d s i m accepted printable at found c copied one is)) (sym (copy_inputs d s i m accepted printable at found c copied one is))

    outputs_alike : map width (output_types one.ports) ≡ leaf_widths (output_types m.ports)
    outputs_alike =
        ap (λ (x : Module). map width (output_types x.ports)) (same_alone c one kept.one is kept.is_one)
        ∙ ap (map width) (kept_outputs d c m kept)

    runs_alike : (content : Word) (rows outputs : List Word) → Run (machine c one.symbol) content rows outputs → Run (machine d s) content rows outputs
    runs_alike content rows outputs run =
        let own = find_symbol d s m found in
        let there : Run (machine c m.symbol) content rows outputs =
        subst (λ (t : Name). Run (machine c t) content rows outputs) (copy_symbol d s i m accepted printable at found c copied one is ∙ sym own) run in
        subst (λ (t : Name). Run (machine d t) content rows outputs) own ((kept.same.runs content rows outputs).1 there)

  pub simulated : (text : List ℕ) → IsFlatSimulation c steps text → IsSimulation d s steps text
  simulated text sim = record {
    one = m;
    found = found;
    says = sim.says;
    read = says_alike sim.one sim.is_one ∙ sim.read;
    outputs = sim.outputs;
    run = runs_alike sim.one sim.is_one (concat_words sim.says.content) (map concat_words sim.says.rows) sim.outputs sim.run;
    is = sim.is ∙ ap (λ (ws : List ℕ). run_lines ws sim.outputs) (outputs_alike sim.one sim.is_one);
  }

  pub refused : (fail : StepFail) → IsFlatFault c steps fail → IsRefusedSimulation d s steps (failure fail)
  refused (Refused r) fault = (m, found, says_alike kept.one kept.is_one ∙ fault kept.one kept.is_one)
  refused NoMemory fault = tt
