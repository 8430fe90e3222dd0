-- Machines that behave the same: from maps that carry settled maps over, and one after another.
use Rattle.std.proofs.Common.{◌≡◌, ◌↔◌, List, [], ◌∷◌, refl, sym, ap, ap₂, subst, ◌∙◌}
use mathlib.Core.Path.{fun_ext}
use Rattle.bits_core.specs.Word.{Word}
use Rattle.hw_model.specs.Machine.{Machine, Step, RunAfter, Run, SettlesOnce, SameSteps, Same, Carries}

module _ {A : Type 0} where
  -- a machine settles once for all inputs and content
  abbrev pub AlwaysSettles : Machine A → Type 0
  AlwaysSettles m = (inputs content : Word) → SettlesOnce m inputs content

  -- any two settled maps of such a machine are equal
  pub settled_same : (m : Machine A) (inputs content : Word) → SettlesOnce m inputs content
      → (σ τ : A → Word) → m.settled inputs content σ → m.settled inputs content τ → σ ≡ τ
  settled_same m inputs content once σ τ first second = fun_ext (λ a. once.2 σ first a ∙ sym (once.2 τ second a))

  -- a step has one list of outputs and leaves one content
  pub step_unique : (m : Machine A) → AlwaysSettles m → (before inputs content outputs after others other_after : Word)
      → Step m before inputs content outputs after → Step m before inputs content others other_after → (outputs ≡ others) × (after ≡ other_after)
  step_unique m once before inputs content outputs after others other_after step step' =
      let earlier : step.earlier ≡ step'.earlier =
      settled_same m before content (once before content) step.earlier step'.earlier step.settled_earlier step'.settled_earlier in
      let firsts : step.first_map ≡ step'.first_map =
      settled_same m inputs content (once inputs content) step.first_map step'.first_map step.settled_first step'.settled_first in
      let first_phase : m.rising step.earlier step.first_map content ≡ m.rising step'.earlier step'.first_map content =
      ap₂ (λ ρ σ. m.rising ρ σ content) earlier firsts in
      let maps : step.map_of ≡ step'.map_of =
      settled_same m inputs (m.rising step'.earlier step'.first_map content) (once inputs (m.rising step'.earlier step'.first_map content)) step.map_of step'.map_of
      (subst (λ c. m.settled inputs c step.map_of) first_phase step.settled) step'.settled in (
        step.read ∙ ap m.outputs maps ∙ sym step'.read,
        step.taken ∙ ap₂ m.next maps first_phase ∙ sym step'.taken,
      )

  -- and there is one
  pub step_exists : (m : Machine A) → AlwaysSettles m → (before inputs content : Word)
      → (outputs : Word) × (after : Word) × Step m before inputs content outputs after
  step_exists m once before inputs content =
      let earlier : A → Word = (once before content).0 in
      let first_map : A → Word = (once inputs content).0 in
      let first_phase : Word = m.rising earlier first_map content in
      let map_of : A → Word = (once inputs first_phase).0 in (
        m.outputs map_of,
        m.next map_of first_phase,
        record {
          earlier = earlier;
          first_map = first_map;
          map_of = map_of;
          settled_earlier = (once before content).1;
          settled_first = (once inputs content).1;
          settled = (once inputs first_phase).1;
          read = refl;
          taken = refl;
        },
      )

  -- a run has one list of outputs for each content and list of steps
  run_after_unique : (m : Machine A) → AlwaysSettles m → (before content : Word) (steps outputs others : List Word)
      → RunAfter m before content steps outputs → RunAfter m before content steps others → outputs ≡ others
  run_after_unique m once before content [] [] [] first second = refl
  run_after_unique m once before content [] [] (o ∷ others) first second = absurd second
  run_after_unique m once before content [] (o ∷ outputs) others first second = absurd first
  run_after_unique m once before content (s ∷ steps) [] others first second = absurd first
  run_after_unique m once before content (s ∷ steps) (o ∷ outputs) [] first second = absurd second
  run_after_unique m once before content (s ∷ steps) (o ∷ outputs) (o' ∷ others) (after, step, rest) (after', step', rest') =
      let one : (o ≡ o') × (after ≡ after') = step_unique m once before s content o after o' after' step step' in
      let also : RunAfter m s after' steps outputs = subst (λ c. RunAfter m s c steps outputs) one.1 rest in
      ap₂ (λ x xs. x ∷ xs) one.0 (run_after_unique m once s after' steps outputs others also rest')

  pub run_outputs_unique : (m : Machine A) → AlwaysSettles m → (content : Word) (steps outputs others : List Word)
      → Run m content steps outputs → Run m content steps others → outputs ≡ others
  run_outputs_unique m once content steps outputs others = run_after_unique m once [] content steps outputs others

  -- and it has one
  run_after_exists : (m : Machine A) → AlwaysSettles m → (before content : Word) (steps : List Word)
      → (outputs : List Word) × RunAfter m before content steps outputs
  run_after_exists m once before content [] = ([], tt)
  run_after_exists m once before content (s ∷ steps) =
      let one : (outputs : Word) × (after : Word) × Step m before s content outputs after = step_exists m once before s content in
      let rest : (outputs : List Word) × RunAfter m s one.1 steps outputs = run_after_exists m once s one.1 steps in
      (one.0 ∷ rest.0, (one.1, one.2, rest.1))

  pub run_exists : (m : Machine A) → AlwaysSettles m → (content : Word) (steps : List Word) → (outputs : List Word) × Run m content steps outputs
  run_exists m once content steps = run_after_exists m once [] content steps

module _ {A B : Type 0} where
  -- steps go over
  pub step_carried : (m : Machine A) (n : Machine B) (to : (A → Word) → B → Word) → Carries m n to
      → (before inputs content outputs after : Word) → Step m before inputs content outputs after → Step n before inputs content outputs after
  step_carried m n to carries before inputs content outputs after step =
      let first_phase : m.rising step.earlier step.first_map content ≡ n.rising (to step.earlier) (to step.first_map) content =
      sym (carries.rising before inputs content step.earlier step.first_map step.settled_earlier step.settled_first) in
      record {
        earlier = to step.earlier;
        first_map = to step.first_map;
        map_of = to step.map_of;
        settled_earlier = carries.settled before content step.earlier step.settled_earlier;
        settled_first = carries.settled inputs content step.first_map step.settled_first;
        settled = subst (λ c. n.settled inputs c (to step.map_of)) first_phase
            (carries.settled inputs (m.rising step.earlier step.first_map content) step.map_of step.settled);
        read = step.read ∙ sym (carries.outputs inputs (m.rising step.earlier step.first_map content) step.map_of step.settled);
        taken = step.taken ∙ sym (carries.next inputs (m.rising step.earlier step.first_map content) step.map_of step.settled)
            ∙ ap (n.next (to step.map_of)) first_phase;
      }

module _ {A B : Type 0} where
  -- each step of the one machine is a step of the other
  abbrev pub HasSteps : Machine A → Machine B → Type 0
  HasSteps m n = (before inputs content outputs after : Word) → Step m before inputs content outputs after → Step n before inputs content outputs after

  -- so is each run then
  run_after_stepped : (m : Machine A) (n : Machine B) → HasSteps m n
      → (before content : Word) (steps outputs : List Word) → RunAfter m before content steps outputs → RunAfter n before content steps outputs
  run_after_stepped m n stepped before content [] [] run = run
  run_after_stepped m n stepped before content [] (o ∷ outputs) run = run
  run_after_stepped m n stepped before content (s ∷ steps) [] run = run
  run_after_stepped m n stepped before content (s ∷ steps) (o ∷ outputs) (after, step, rest) =
      (after, stepped before s content o after step, run_after_stepped m n stepped s after steps outputs rest)

  pub run_stepped : (m : Machine A) (n : Machine B) → HasSteps m n
      → (content : Word) (steps outputs : List Word) → Run m content steps outputs → Run n content steps outputs
  run_stepped m n stepped content steps outputs = run_after_stepped m n stepped [] content steps outputs

  -- where both machines settle once, steps go back as well
  pub steps_back : (m : Machine A) (n : Machine B) → AlwaysSettles m → AlwaysSettles n → HasSteps m n
      → (before inputs content outputs after : Word) → Step n before inputs content outputs after → Step m before inputs content outputs after
  steps_back m n once once' stepped before inputs content outputs after step =
      let mine : (others : Word) × (other_after : Word) × Step m before inputs content others other_after = step_exists m once before inputs content in
      let over : Step n before inputs content mine.0 mine.1 = stepped before inputs content mine.0 mine.1 mine.2 in
      let one : (mine.0 ≡ outputs) × (mine.1 ≡ after) = step_unique n once' before inputs content mine.0 mine.1 outputs after over step in
      subst (λ a. Step m before inputs content outputs a) one.1 (subst (λ os. Step m before inputs content os mine.1) one.0 mine.2)

module _ {A B : Type 0} where
  -- machines with the same steps behave the same
  pub same_steps : (m : Machine A) (n : Machine B) → m.size ≡ n.size → AlwaysSettles n → HasSteps m n → HasSteps n m → Same m n
  unfolding SameSteps
  same_steps m n size once there here = record {
    size = size;
    once = once;
    steps = λ before inputs content outputs after. (there before inputs content outputs after, here before inputs content outputs after);
    runs = λ content steps outputs. (run_stepped m n there content steps outputs, run_stepped n m here content steps outputs);
  }

  -- and the other way round
  pub steps_of_same : (m : Machine A) (n : Machine B) → Same m n
      → (before inputs content outputs after : Word) → Step m before inputs content outputs after ↔ Step n before inputs content outputs after
  unfolding SameSteps
  steps_of_same m n same = same.steps

module _ {A B : Type 0} where
  -- where a way carries the settled maps of one machine over to another, and both machines settle once, one direction is
  -- enough: forth
  pub same_forth : (m : Machine A) (n : Machine B) (to : (A → Word) → B → Word) → m.size ≡ n.size
      → AlwaysSettles m → AlwaysSettles n → Carries m n to → Same m n
  same_forth m n to size once once' carries =
      same_steps m n size once' (step_carried m n to carries) (steps_back m n once once' (step_carried m n to carries))

  -- or back
  pub same_back : (m : Machine A) (n : Machine B) (back : (B → Word) → A → Word) → m.size ≡ n.size
      → AlwaysSettles m → AlwaysSettles n → Carries n m back → Same m n
  same_back m n back size once once' carries =
      same_steps m n size once' (steps_back n m once' once (step_carried n m back carries)) (step_carried n m back carries)

  -- maps both ways, with nothing asked of the second machine but that its maps come from the first's
  pub same_by : (m : Machine A) (n : Machine B) (to : (A → Word) → B → Word) (back : (B → Word) → A → Word) → m.size ≡ n.size
      → AlwaysSettles m → Carries m n to → Carries n m back
      → ((inputs content : Word) (σ : B → Word) → n.settled inputs content σ → (b : B) → to (back σ) b ≡ σ b) → Same m n
  same_by m n to back size once there here round = same_steps m n size once_there (step_carried m n to there) (step_carried n m back here)
    where
      once_there : (inputs content : Word) → SettlesOnce n inputs content
      once_there inputs content =
          let mine : A → Word = (once inputs content).0 in (
            to mine,
            there.settled inputs content mine (once inputs content).1,
            λ σ settled b.
                let same : back σ ≡ mine = fun_ext ((once inputs content).2 (back σ) (here.settled inputs content σ settled)) in
                sym (round inputs content σ settled b) ∙ ap (λ ρ. to ρ b) same,
          )

  -- the other way round, where the first machine settles once
  pub same_sym : (m : Machine A) (n : Machine B) → AlwaysSettles m → Same m n → Same n m
  same_sym m n once same =
      same_steps n m (sym same.size) once
      (λ before inputs content outputs after. (steps_of_same m n same before inputs content outputs after).1)
      (λ before inputs content outputs after. (steps_of_same m n same before inputs content outputs after).0)

-- a machine behaves as itself, where it settles once
pub same_self : {A : Type 0} (m : Machine A) → AlwaysSettles m → Same m m
same_self m once = same_steps m m refl once (λ before inputs content outputs after step. step) (λ before inputs content outputs after step. step)

-- one after another
pub same_then : {A B C : Type 0} (l : Machine A) (m : Machine B) (n : Machine C) → Same l m → Same m n → Same l n
same_then l m n first second =
    same_steps l n (first.size ∙ second.size) second.once
    (λ before inputs content outputs after step.
    (steps_of_same m n second before inputs content outputs after).0 ((steps_of_same l m first before inputs content outputs after).0 step))
    (λ before inputs content outputs after step.
    (steps_of_same l m first before inputs content outputs after).1 ((steps_of_same m n second before inputs content outputs after).1 step))
