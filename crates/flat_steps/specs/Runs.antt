-- A run of a flat module over its tables of words.
use Rattle.std.specs.Prelude.{◌≡◌, ℕ, true, List, [], ◌∷◌, map, length, Some, slice_get}
use Rattle.bits_core.specs.Word.{Word}
use Rattle.hw_model.specs.Types.{Name, width}
use Rattle.hw_model.specs.Design.{Port, Op, Module, Design}
use Rattle.hw_model.specs.Flat.{state}
use Rattle.hw_model.specs.Resets.{is_constant}
use Rattle.hw_model.specs.Sound.{input_types}
use Rattle.flat_steps.specs.Tables.{cell, made}
use Rattle.flat_steps.specs.Holds.{PortsHold, ResultsHold}
use Rattle.flat_steps.specs.Steps.{with_inputs, step_results, loaded_results, output_words}

-- each constant has its word: a reset that rises takes it before the operations settle
abbrev pub ConstantsHold : List Op → List Word → Type 0
ConstantsHold os results = (i : ℕ) (o : Op) → slice_get os i ≡ Some o → is_constant o.kind ≡ true → cell results i ≡ made o []

-- the tables between two steps hold the inputs of the step before, the content, and the constants
pub record TablesHold (d : Design) (top : Name) (m : Module) (ports results : List Word) (inputs content : Word) : Type 0 where
  pub ports_hold : PortsHold m.ports ports inputs
  pub registers_hold : ResultsHold (state d) m.body results content
  pub constants_hold : ConstantsHold m.body results
  pub ports_long : length ports ≡ length m.ports
  pub results_long : length results ≡ length m.body

-- each step has a word for each input port, as wide as the port
abbrev pub AreInputs : List Port → List (List Word) → Type 0
AreInputs ps [] = Unit {0}
AreInputs ps (inputs ∷ steps) = (map length inputs ≡ map width (input_types ps)) × AreInputs ps steps

-- the results that a step leaves, from the ports and the results of the step before
abbrev pub left_results : List Port → List Op → List ℕ → List Word → List Word → List Word → List Word
left_results ps os order inputs ports results = loaded_results os (with_inputs ps inputs ports) (step_results ps os order inputs ports results)

-- the words of the outputs of a step
abbrev pub step_outputs : List Port → List Op → List ℕ → List Word → List Word → List Word → List Word
step_outputs ps os order inputs ports results = output_words os (with_inputs ps inputs ports) (step_results ps os order inputs ports results)

-- the words of the outputs step by step, each step having a word for each input port
abbrev pub run_outputs : List Port → List Op → List ℕ → List (List Word) → List Word → List Word → List (List Word)
run_outputs ps os order [] ports results = []
run_outputs ps os order (inputs ∷ steps) ports results =
    step_outputs ps os order inputs ports results ∷ run_outputs ps os order steps (with_inputs ps inputs ports) (left_results ps os order inputs ports results)
