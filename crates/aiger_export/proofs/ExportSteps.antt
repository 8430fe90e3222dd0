-- The steps of the tree of a flat module's gates, and those of the module in which every clock rises.
use Rattle.std.proofs.Common.{◌≡◌, ◌↔◌, refl, sym, ap, ap₂, subst, ◌∙◌, ℕ, zero, suc, ◌+◌, false, List, [], ◌∷◌, ◌++◌, map, length, take, drop, arith, length-drop}
use Rattle.bits_core.specs.Word.{Word}
use Rattle.gates.specs.declared.signal.Signal.{Signal}
use Rattle.gates.specs.Circuits.{Circuit}
use Rattle.gates.specs.Order.{AreInOrder, evaluated}
use Rattle.gate_words.specs.Computes.{word_of}
use Rattle.gate_words.proofs.Computing.{length-word_of}
use Rattle.operation_gates.specs.WordOrder.{AreSignalsWithin}
use Rattle.hw_model.specs.Design.{Design}
use Rattle.hw_model.specs.Flat.{state}
use Rattle.hw_model.specs.Machine.{Step as ModuleStep, RunAfter}
use Rattle.hw_model.specs.Meaning.{machine}
use Rattle.net_gates.specs.ClockedInputs.{free_bits, with_clocks}
use Rattle.flat_module_laws.specs.FlatPrices.{output_bits}
use Rattle.flat_module_laws.proofs.FlatWords.{outputs_width}
use Rattle.and_gates.specs.Clocks.{has_async}
use Rattle.and_gates.specs.Exports.{IsClockedStep}
use Rattle.and_gates.proofs.StepBits.{clocked_order}
use Rattle.and_gates.proofs.MachineSteps.{bits_of_step, step_exists}
use Rattle.aiger_laws.specs.Trees.{Aiger}
use Rattle.aiger_laws.specs.Steps.{Step, Run}
use Rattle.aiger_circuits.specs.CircuitTrees.{circuit_tree}
use Rattle.aiger_circuits.proofs.CircuitSteps.{circuit_steps}
use Rattle.aiger_export.specs.Exports.{step_tree}
use Rattle.aiger_export.specs.Runs.{AreWide}

-- ---- parts of signals

-- two parts of what elements give, where the first one is as long as that
pub two_parts : {A B : Type 0} (f : A → B) (n : ℕ) (xs : List A) (a b : List B) → map f xs ≡ a ++ b → length a ≡ n → (a ≡ map f (take n xs)) × (b ≡ map f (drop n xs))
two_parts f zero xs [] b is size = (refl, sym is)
two_parts f zero xs (y ∷ a) b is size = absurd (omega (arith, size))
two_parts f (suc n) xs [] b is size = absurd (omega (arith, size))
two_parts f (suc n) [] (y ∷ a) b is size = cc
two_parts f (suc n) (x ∷ xs) (y ∷ a) b is size =
    let first : f x ≡ y = cc in
    let rest : map f xs ≡ a ++ b = cc in
    let more = two_parts f n xs a b rest (omega (arith, size)) in
    (ap₂ (λ z zs. z ∷ zs) (sym first) more.0, more.1)

pub within_first : (most n : ℕ) (ss : List Signal) → AreSignalsWithin most ss → AreSignalsWithin most (take n ss)
within_first most zero ss within = tt
within_first most (suc n) [] within = tt
within_first most (suc n) (s ∷ ss) within = (within.0, within_first most n ss within.1)

pub within_last : (most n : ℕ) (ss : List Signal) → AreSignalsWithin most ss → AreSignalsWithin most (drop n ss)
within_last most zero ss within = within
within_last most (suc n) [] within = tt
within_last most (suc n) (s ∷ ss) within = within_last most n ss within.1

-- ---- a flat module

module _ (c : Design) (circuit : Circuit) (signals : List Signal) (is : IsClockedStep c circuit signals)
    (within : AreSignalsWithin (circuit.inputs + length circuit.gates) signals) (long : length signals ≡ output_bits is.one + state c is.one.symbol) where
  abbrev outs : List Signal
  outs = take (output_bits is.one) signals

  abbrev nexts : List Signal
  nexts = drop (output_bits is.one) signals

  pub nexts_long : length nexts ≡ state c is.one.symbol
  nexts_long = let left = length-drop (output_bits is.one) signals in omega (arith, left, long)

  pub size_is : circuit.inputs ≡ free_bits is.one.ports + length nexts
  size_is = is.inputs ∙ ap (λ n. free_bits is.one.ports + n) (sym nexts_long)

  pub order_is : AreInOrder (free_bits is.one.ports + length nexts) circuit.gates
  order_is = subst (λ n. AreInOrder n circuit.gates) size_is (clocked_order c circuit signals is)

  pub outs_within : AreSignalsWithin (free_bits is.one.ports + length nexts + length circuit.gates) outs
  outs_within = subst (λ n. AreSignalsWithin (n + length circuit.gates) outs) size_is (within_first (circuit.inputs + length circuit.gates) (output_bits is.one) signals within)

  pub nexts_within : AreSignalsWithin (free_bits is.one.ports + length nexts + length circuit.gates) nexts
  nexts_within = subst (λ n. AreSignalsWithin (n + length circuit.gates) nexts) size_is (within_last (circuit.inputs + length circuit.gates) (output_bits is.one) signals within)

  -- what the gates compute for outputs, and for what the registers hold next
  abbrev AreComputed : Word → Word → Word → Word → Type 0
  AreComputed x q given after = (given ≡ word_of (evaluated (x ++ q) circuit.gates) outs) × (after ≡ word_of (evaluated (x ++ q) circuit.gates) nexts)

  abbrev tree : Aiger
  tree = step_tree is.one circuit signals

  tree_steps : (n : ℕ) (x q : Word) → length x ≡ n → length q ≡ length nexts → AreInOrder (n + length nexts) circuit.gates
      → AreSignalsWithin (n + length nexts + length circuit.gates) outs → AreSignalsWithin (n + length nexts + length circuit.gates) nexts
      → (given after : Word) → Step (circuit_tree n outs nexts circuit.gates) x q given after ↔ AreComputed x q given after
  tree_steps n x q ex eq order first second given after =
      subst (λ k. Step (circuit_tree k outs nexts circuit.gates) x q given after ↔ AreComputed x q given after) ex
      (circuit_steps outs nexts circuit.gates x q eq (subst (λ k. AreInOrder (k + length nexts) circuit.gates) (sym ex) order)
      (subst (λ k. AreSignalsWithin (k + length nexts + length circuit.gates) outs) (sym ex) first)
      (subst (λ k. AreSignalsWithin (k + length nexts + length circuit.gates) nexts) (sym ex) second) given after)

  module _ (none : has_async is.one.body ≡ false) (x q before : Word) (ex : length x ≡ free_bits is.one.ports) (eq : length q ≡ state c is.one.symbol) where
    steps_here : (given after : Word) → Step tree x q given after ↔ AreComputed x q given after
    steps_here = tree_steps (free_bits is.one.ports) x q ex (eq ∙ sym nexts_long) order_is outs_within nexts_within

    given_long : (given after : Word) → ModuleStep (machine c is.one.symbol) before (with_clocks is.one.ports x) q given after → length given ≡ output_bits is.one
    given_long given after step =
        ap (λ (w : Word). length w) step.read
        ∙ outputs_width c is.one.symbol is.one is.order is.flat (with_clocks is.one.ports x) _ step.map_of step.settled

    computed : (given after : Word) → ModuleStep (machine c is.one.symbol) before (with_clocks is.one.ports x) q given after → AreComputed x q given after
    computed given after step =
        two_parts _ (output_bits is.one) signals given after (bits_of_step c circuit signals is none x q before given after ex eq step) (given_long given after step)

    pub after_long : (given after : Word) → AreComputed x q given after → length after ≡ state c is.one.symbol
    after_long given after are = ap (λ (w : Word). length w) are.1 ∙ length-word_of (evaluated (x ++ q) circuit.gates) nexts ∙ nexts_long

    pub step_forth : (given after : Word) → Step tree x q given after → ModuleStep (machine c is.one.symbol) before (with_clocks is.one.ports x) q given after
    step_forth given after step =
        let are = (steps_here given after).0 step in
        let there = step_exists c circuit signals is none x q before ex eq in
        let told = computed there.0 there.1 there.2 in
        subst (λ y. ModuleStep (machine c is.one.symbol) before (with_clocks is.one.ports x) q y after) (told.0 ∙ sym are.0)
        (subst (λ y. ModuleStep (machine c is.one.symbol) before (with_clocks is.one.ports x) q there.0 y) (told.1 ∙ sym are.1) there.2)

    pub step_back : (given after : Word) → ModuleStep (machine c is.one.symbol) before (with_clocks is.one.ports x) q given after → Step tree x q given after
    step_back given after step = (steps_here given after).1 (computed given after step)

    pub left_long : (given after : Word) → Step tree x q given after → length after ≡ state c is.one.symbol
    left_long given after step = after_long given after ((steps_here given after).0 step)

  -- ---- runs

  module _ (none : has_async is.one.body ≡ false) where
    pub runs_forth : (before q : Word) (steps given : List Word) → length q ≡ state c is.one.symbol → AreWide (free_bits is.one.ports) steps → Run tree q steps given
        → RunAfter (machine c is.one.symbol) before q (map (with_clocks is.one.ports) steps) given
    runs_forth before q [] [] eq wide run = tt
    runs_forth before q [] (y ∷ ys) eq wide run = absurd run
    runs_forth before q (x ∷ xs) [] eq wide run = absurd run
    runs_forth before q (x ∷ xs) (y ∷ ys) eq wide run = (
      run.0,
      step_forth none x q before wide.0 eq y run.0 run.1,
      runs_forth (with_clocks is.one.ports x) run.0 xs ys (left_long none x q before wide.0 eq y run.0 run.1) wide.1 run.2,
    )

    pub runs_back : (before q : Word) (steps given : List Word) → length q ≡ state c is.one.symbol → AreWide (free_bits is.one.ports) steps
        → RunAfter (machine c is.one.symbol) before q (map (with_clocks is.one.ports) steps) given → Run tree q steps given
    runs_back before q [] [] eq wide run = tt
    runs_back before q [] (y ∷ ys) eq wide run = absurd run
    runs_back before q (x ∷ xs) [] eq wide run = absurd run
    runs_back before q (x ∷ xs) (y ∷ ys) eq wide run =
        let own = step_back none x q before wide.0 eq y run.0 run.1 in
        (run.0, own, runs_back (with_clocks is.one.ports x) run.0 xs ys (left_long none x q before wide.0 eq y run.0 own) wide.1 run.2)
