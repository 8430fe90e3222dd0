-- What is made of the inputs of a run.
use Rattle.std.proofs.Common.{◌≡◌, ℕ, List, Option, Some, None, Result, Ok, Err, sym, subst, ◌∙◌, refl}
use Rattle.hw_model.specs.Types.{Name}
use Rattle.hw_model.specs.Design.{Module, Design, find_module}
use Rattle.diag.specs.declared.refusal.Refusal.{Refusal}
use Rattle.mlir_reader.specs.Reading.{read}
use Rattle.step_file.specs.StepFile.{Steps}
use Rattle.step_file.specs.declared.fail.StepCause.{StepCause}
use Rattle.command_line.specs.Line.Work.{simulation}
use Rattle.cycle_sim.specs.Simulations.{steps_for, IsSimRefusal, IsRefusedSimulation}
use Rattle.cycle_sim.specs.declared.fail.SimRefusal.{SimRefusal}
use Rattle.cycle_sim.specs.declared.fail.SimRefusal.TheVariants.{NoModule, BadSteps}
use Rattle.cycle_sim.specs.declared.fail.SimFail.{SimFail}
use Rattle.cycle_sim.specs.declared.fail.SimFail.TheVariants as sim
use Rattle.circt_top.proofs.Compared.{untaken_of}
use Rattle.circt_top.specs.Accepting.{Accepted, IsRefusedIn, in_file, first_input, second_input}
use Rattle.op_verifier.specs.declared.accepted.Verified.{Verified}
use Rattle.circt_top.specs.OutcomeParts.{IsTaken, fail_in_file}
use Rattle.circt_top.specs.declared.made.OutcomeFail.{OutcomeFail}
use Rattle.circt_top.specs.declared.made.OutcomeFail.TheVariants.{Refused, NoMemory}
use Rattle.circt_top.specs.Simulations.{IsRefusedRun, CanBeRun, IsRun, run_failure}
use Rattle.circt_top.specs.Simulations.IsRefusedRun.{first as of_first, run as of_run}
use Rattle.circt_top.specs.Outcome.{GivesText}

-- a module that is there, with steps of it, is not refused
not_refused : (d : Design) (top : Name) (one : Module) (bytes : List ℕ) (says : Steps) (x : SimRefusal) → find_module d top ≡ Some one → steps_for d top one bytes ≡ Ok says
    → IsSimRefusal d top bytes x → ⊥
not_refused d top one bytes says NoModule found read is = let e : None ≡ Some one = sym is ∙ found in cc
not_refused d top one bytes says (BadSteps r) found read (m, there, fault) =
    let s : Some m ≡ Some one = sym there ∙ found in
    let same : m ≡ one = cc in
    let e : Err (r.line, r.cause) ≡ Ok says = sym (subst (λ n. steps_for d top n bytes ≡ Err (r.line, r.cause)) same fault) ∙ read in cc

-- nor is what can be run
pub run_unrefused : (top : Name) (contents : List (List ℕ)) (r : Refusal) → (IsRefusedIn 0 (first_input contents) r → ⊥) → CanBeRun top contents → IsRefusedRun top contents r → ⊥
run_unrefused top contents r unrefused can (of_first x is) = unrefused is
run_unrefused top contents r unrefused can (of_run d x accepted is) =
    let s : Ok d ≡ Ok can.design = sym accepted.says ∙ can.accepted.says in
    let same : d ≡ can.design = cc in
    not_refused can.design top can.one (second_input contents) can.says x can.found can.read (subst (λ e. IsSimRefusal e top (second_input contents) x) same is)

-- what was run can be
pub run_can_be : (top : Name) (contents : List (List ℕ)) (text : List ℕ) → IsRun top contents text → CanBeRun top contents
run_can_be top contents text is = record {
  design = is.design;
  accepted = is.accepted;
  one = is.simulation.one;
  found = is.simulation.found;
  says = is.simulation.says;
  read = is.simulation.read;
}

-- why there is none: of the first input, and of the run
input_refused : (top : Name) (contents : List (List ℕ)) (fail : OutcomeFail) → IsTaken (first_input contents) (Err fail) → GivesText (simulation top) contents (Err (fail_in_file 0 fail))
input_refused top contents (Refused r) is = of_first (in_file 0 r) (record { refusal = r; refused = is; numbered = refl })
input_refused top contents NoMemory is = tt

pub input_fails : (top : Name) (contents : List (List ℕ)) (bytes : List ℕ) (result : Result Verified OutcomeFail) (fail failed : OutcomeFail) → bytes ≡ first_input contents
    → IsTaken bytes result → result ≡ Err fail → failed ≡ fail_in_file 0 fail → GivesText (simulation top) contents (Err failed)
input_fails top contents bytes result fail failed is taken err in_file =
    subst (λ f. GivesText (simulation top) contents (Err f)) (sym in_file) (input_refused top contents fail (untaken_of bytes result fail is taken err))

pub run_fails : (top : Name) (contents : List (List ℕ)) (bytes steps : List ℕ) (d : Design) (fail : SimFail) → bytes ≡ first_input contents → steps ≡ second_input contents
    → Accepted bytes d → IsRefusedSimulation d top steps fail → GivesText (simulation top) contents (Err (run_failure fail))
run_fails top contents bytes steps d (sim.Refused x) is second accepted refused =
    of_run d x (subst (λ b. Accepted b d) is accepted) (subst (λ b. IsSimRefusal d top b x) second refused)
run_fails top contents bytes steps d sim.NoMemory is second accepted refused = tt
