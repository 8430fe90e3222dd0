-- Runs of a flat module, over tables of words.
use Rattle.std.specs.Prelude.{◌≡◌, ℕ, List, [], ◌∷◌, map, length, Ok}
use Rattle.bits_core.specs.Word.{Word}
use Rattle.hw_model.specs.Types.{Name, width}
use Rattle.hw_model.specs.Design.{Port, Op, Module, Design}
use Rattle.hw_model.specs.Machine.{Run}
use Rattle.hw_model.specs.Meaning.{machine}
use Rattle.hw_model.specs.Sound.{output_types}
use Rattle.hw_model.specs.Value.{concat_words}
use Rattle.flat_module_laws.specs.Orders.{IsOrder}
use Rattle.flat_module_laws.specs.Sides.{IsPlain}
use Rattle.flat_steps.specs.Tables.{TableFits}
use Rattle.flat_steps.specs.Steps.{with_inputs, risen_results, first_ports, first_results}
use Rattle.flat_steps.specs.Runs.{AreInputs, left_results, run_outputs}
use Rattle.miter_blast.specs.Leaves.{held_widths, input_widths}
use Rattle.step_file.specs.declared.fail.StepFail.{StepFail}
use Rattle.step_file.specs.StepFile.{Steps, steps_of}
use Rattle.step_file.specs.Answers.{IsFault}
use Rattle.cycle_sim.specs.RunLines.{words_lines, run_lines}

-- in each step, one after another, the operations take the words of their operands
abbrev pub StepsFit : List Port → List Op → List ℕ → List (List Word) → List Word → List Word → Type 0
StepsFit ps os order [] ports results = Unit {0}
StepsFit ps os order (row ∷ rows) ports results =
    TableFits (with_inputs ps row ports) os order (risen_results os ports (with_inputs ps row ports) results)
    × StepsFit ps os order rows (with_inputs ps row ports) (left_results ps os order row ports results)

-- the module is flat, of an accepted design, and the content and the steps have a word for each of its registers and its inputs
pub record CanRun (m : Module) (says : Steps) : Type 0 where
  pub design : Design
  pub top : Name
  pub plain : IsPlain design top m
  pub content : map length says.content ≡ held_widths m.body
  pub rows : AreInputs m.ports says.rows

-- the text is the lines of the run by tables, in an order of the operations
abbrev pub IsModuleRun : Module → Steps → List ℕ → Type 0
IsModuleRun m says text =
    (order : List ℕ) × IsOrder m.body order
    × (text ≡ words_lines (run_outputs m.ports m.body order says.rows (first_ports m.ports) (first_results m.ports m.body order says.content)))

-- the one module of a design has a run that the step file says, and the text is its lines
pub record IsFlatSimulation (e : Design) (steps text : List ℕ) : Type 0 where
  pub one : Module
  pub is_one : e ≡ one ∷ []
  pub says : Steps
  pub read : steps_of (held_widths one.body) (input_widths one.ports) steps ≡ Ok says
  pub outputs : List Word
  pub run : Run (machine e one.symbol) (concat_words says.content) (map concat_words says.rows) outputs
  pub is : text ≡ run_lines (map width (output_types one.ports)) outputs

-- why there is none for the step file
abbrev pub IsFlatFault : Design → List ℕ → StepFail → Type 0
IsFlatFault e steps fail = (m : Module) → e ≡ m ∷ [] → IsFault (steps_of (held_widths m.body) (input_widths m.ports) steps) fail
