-- The run of a module that a step file says, as lines, and why there is none.
use Rattle.std.specs.Prelude.{◌≡◌, ℕ, List, map, Some, None, Result, Ok, Err}
use Rattle.std.specs.List.{flat_map}
use Rattle.bits_core.specs.Word.{Word}
use Rattle.hw_model.specs.Types.{Name, HwType, width, leaves}
use Rattle.hw_model.specs.Design.{Module, Design, find_module}
use Rattle.hw_model.specs.Machine.{Run}
use Rattle.hw_model.specs.Meaning.{machine}
use Rattle.hw_model.specs.Sound.{input_types, output_types}
use Rattle.hw_model.specs.Value.{concat_words}
use Rattle.miter_blast.specs.Comparable.{register_widths}
use Rattle.step_file.specs.declared.fail.StepCause.{StepCause}
use Rattle.step_file.specs.declared.fail.StepFail.{StepFail}
use Rattle.step_file.specs.declared.fail.StepFail.TheVariants as step
use Rattle.step_file.specs.StepFile.{Steps, steps_of}
use Rattle.cycle_sim.specs.declared.fail.SimRefusal.{SimRefusal}
use Rattle.cycle_sim.specs.declared.fail.SimRefusal.TheVariants.{NoModule, BadSteps}
use Rattle.cycle_sim.specs.declared.fail.SimFail.{SimFail}
use Rattle.cycle_sim.specs.declared.fail.SimFail.TheVariants.{Refused, NoMemory}
use Rattle.cycle_sim.specs.RunLines.{run_lines}

-- how many bits the leaves of values of these types have, in order
abbrev pub leaf_widths : List HwType → List ℕ
leaf_widths ts = map width (flat_map leaves ts)

-- what a text says of the registers and the inputs of the module of a symbol, leaf by leaf
abbrev pub steps_for : Design → Name → Module → List ℕ → Result Steps (ℕ × StepCause)
steps_for d top m text = steps_of (register_widths d top) (leaf_widths (input_types m.ports)) text

-- the module of a symbol has a run from the content that a step file says, with the inputs that it says, a step for each of its
-- lines (CIRCT: `arcilator`), and the text is the lines of that run
pub record IsSimulation (d : Design) (top : Name) (steps text : List ℕ) : Type 0 where
  pub one : Module
  pub found : find_module d top ≡ Some one
  pub says : Steps
  pub read : steps_for d top one steps ≡ Ok says
  pub outputs : List Word
  pub run : Run (machine d top) (concat_words says.content) (map concat_words says.rows) outputs
  pub is : text ≡ run_lines (leaf_widths (output_types one.ports)) outputs

-- the first cause for which there is none: no module has the symbol, or the step file has a line that is none
abbrev pub IsSimRefusal : Design → Name → List ℕ → SimRefusal → Type 0
IsSimRefusal d top steps NoModule = find_module d top ≡ None
IsSimRefusal d top steps (BadSteps r) = (m : Module) × (find_module d top ≡ Some m) × (steps_for d top m steps ≡ Err (r.line, r.cause))

-- what a failure says: nothing where memory is wanting
abbrev pub IsRefusedSimulation : Design → Name → List ℕ → SimFail → Type 0
IsRefusedSimulation d top steps (Refused r) = IsSimRefusal d top steps r
IsRefusedSimulation d top steps NoMemory = Unit {0}

-- the failure of a module whose step file is not read
abbrev pub failure : StepFail → SimFail
failure (step.Refused r) = Refused (BadSteps r)
failure step.NoMemory = NoMemory
