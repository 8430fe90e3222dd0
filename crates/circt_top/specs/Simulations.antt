-- A run of a module of the first input, by the steps of the second one (CIRCT: `arcilator`).
use Rattle.std.specs.Prelude.{◌≡◌, ℕ, List, Ok, Some}
use Rattle.diag.specs.Location.{start_location}
use Rattle.diag.specs.declared.cause.Cause.{Cause}
use Rattle.diag.specs.declared.cause.Cause.TheVariants as cause
use Rattle.diag.specs.declared.refusal.Refusal.{Refusal}
use Rattle.diag.specs.declared.refusal.OpName.TheVariants as op
use Rattle.hw_model.specs.Types.{Name}
use Rattle.hw_model.specs.Design.{Module, Design, find_module}
use Rattle.step_file.specs.StepFile.{Steps}
use Rattle.step_file.specs.declared.fail.StepCause.{StepCause}
use Rattle.step_file.specs.declared.fail.StepCause.TheVariants.{TooLong, BadLine, WrongCount, WrongWidth}
use Rattle.cycle_sim.specs.Simulations.{steps_for, IsSimulation, IsSimRefusal}
use Rattle.cycle_sim.specs.declared.fail.SimRefusal.{SimRefusal}
use Rattle.cycle_sim.specs.declared.fail.SimRefusal.TheVariants.{NoModule, BadSteps}
use Rattle.cycle_sim.specs.declared.fail.SimFail.{SimFail}
use Rattle.cycle_sim.specs.declared.fail.SimFail.TheVariants as sim
use Rattle.circt_top.specs.Accepting.{Accepted, IsRefusedIn, first_input, second_input, line_refusal}
use Rattle.circt_top.specs.declared.made.OutcomeFail.{OutcomeFail}
use Rattle.circt_top.specs.declared.made.OutcomeFail.TheVariants.{Refused, NoMemory}

-- the cause of a refusal of a step file
abbrev pub step_cause : StepCause → Cause
step_cause TooLong = cause.TooLong
step_cause BadLine = cause.BadStepLine
step_cause WrongCount = cause.LiteralCount
step_cause WrongWidth = cause.LiteralWidth

-- what is refused of a run: the first input as a whole where it has no such module, else a line of the second one
abbrev pub run_refusal : SimRefusal → Refusal
run_refusal NoModule = record { file = 0; location = start_location; op = op.File; cause = cause.NoSuchModule }
run_refusal (BadSteps r) = line_refusal op.Sim 1 r.line (step_cause r.cause)

-- the first refusal: of the first input, or else of the run of its module by the second one
pub data IsRefusedRun (top : Name) (contents : List (List ℕ)) : Refusal → Type 0 where
  first : (r : Refusal) → IsRefusedIn 0 (first_input contents) r → IsRefusedRun top contents r
  run : (d : Design) (x : SimRefusal) → Accepted (first_input contents) d → IsSimRefusal d top (second_input contents) x → IsRefusedRun top contents (run_refusal x)

-- the first input says a design with the module, of which nothing is refused, and the second one a content and steps of it
pub record CanBeRun (top : Name) (contents : List (List ℕ)) : Type 0 where
  pub design : Design
  pub accepted : Accepted (first_input contents) design
  pub one : Module
  pub found : find_module design top ≡ Some one
  pub says : Steps
  pub read : steps_for design top one (second_input contents) ≡ Ok says

-- the text is the lines of the run of the module
pub record IsRun (top : Name) (contents : List (List ℕ)) (text : List ℕ) : Type 0 where
  pub design : Design
  pub accepted : Accepted (first_input contents) design
  pub simulation : IsSimulation design top (second_input contents) text

-- why no text is made of a run
abbrev pub run_failure : SimFail → OutcomeFail
run_failure (sim.Refused x) = Refused (run_refusal x)
run_failure sim.NoMemory = NoMemory
