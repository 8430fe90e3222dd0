-- The step of a flat module that was built by positions: it is that by nets, and its gates stand in order.
use Rattle.std.proofs.Common.{◌≡◌, refl, sym, ap, subst, ◌∙◌, ℕ, ◌+◌, ◌≤◌, false, List, [], ◌∷◌, ◌++◌, map, length, Some, slice_get, IfOk, OnOk, Result, Ok, Err, arith, length-append}
use Rattle.std.proofs.Math.ListN.{length-replicate}
use mathlib.Core.Path.{subst₂}
use Rattle.bits_core.specs.Word.{Word, zeros}
use Rattle.gates.specs.declared.signal.Gate.{Gate}
use Rattle.gates.specs.declared.signal.Signal.{Signal}
use Rattle.gates.specs.Build.{Built}
use Rattle.gates.specs.Circuits.{Circuit, Runs}
use Rattle.gates.specs.Order.{AreInOrder}
use Rattle.gates.proofs.Instances.{variables_in_order, order_joined}
use Rattle.hw_model.specs.Types.{Name}
use Rattle.hw_model.specs.Design.{Module, Design}
use Rattle.hw_model.specs.Flat.{input_width, state}
use Rattle.ir_store.specs.Designs.{StoredModule, numbered_module}
use Rattle.net_gates.specs.RegisterGateLists.{stepped_over, stepped_gate_list}
use Rattle.net_gates.specs.RegisterMiters.{Step, HasStepGateLists}
use Rattle.net_gates.proofs.InputWords.{CarriesInputs, inputs_within}
use Rattle.net_gates.proofs.StepGateLists.{makes-stepped}
use Rattle.net_gates.proofs.StepLaw.{step_of}
use Rattle.flat_module_laws.specs.Sides.{side_of, IsPlain, IsFlat}
use Rattle.flat_module_laws.proofs.FlatMiters.{has_step_gate_lists}
use Rattle.flat_module_gates.specs.FlatGateLists.{words_over}
use Rattle.flat_module_gates.specs.FlatSteps.{flat_gate_list_over, flat_gate_list}
use Rattle.flat_module_gates.specs.Stepped.{IsAlone, IsStepped, IsSteppedOver}
use Rattle.flat_module_gates.proofs.Linking.{AreSingle}
use Rattle.flat_module_gates.proofs.LinkedSteps.{gate_lists_over_are, gate_lists_are}

module _ (d : Design) (top : Name) (m : Module) (order : List ℕ) (flat : IsFlat d top m order) where
  -- in a run, over given signals
  pub over_by_nets : AreSingle m.body → (ins content : List Signal) (s t : Circuit) (signals : List Signal) → Runs (flat_gate_list_over (words_over ins 0 m.ports) content m.body order) s t signals
      → Runs (stepped_over ins content d top (side_of d top order).nets) s t signals
  over_by_nets single ins content s t signals runs =
      let same = gate_lists_over_are d top m order flat single ins content s.inputs s.gates in
      record {
        inputs = runs.inputs;
        gates = runs.gates ∙ ap (λ (z : Built (List Signal)). s.gates ++ z.gates) same;
        is = runs.is ∙ ap (λ (z : Built (List Signal)). z.got) same;
      }

  -- and over the first variables
  pub runs_by_nets : AreSingle m.body → (s t : Circuit) (signals : List Signal) → Runs (flat_gate_list (input_width m.ports) m.ports m.body order) s t signals
      → Runs (stepped_gate_list (input_width m.ports) d top (side_of d top order).nets) s t signals
  runs_by_nets single s t signals runs =
      let same = gate_lists_are d top m order flat single s.inputs s.gates in
      record {
        inputs = runs.inputs;
        gates = runs.gates ∙ ap (λ (z : Built (List Signal)). s.gates ++ z.gates) same;
        is = runs.is ∙ ap (λ (z : Built (List Signal)). z.got) same;
      }

  module _ (x q : Word) (ex : length x ≡ input_width m.ports) (eq : length q ≡ state d top) (total : ℕ) (size : length (x ++ q) ≡ total) where
    gate_lists_of : HasStepGateLists (length x) (length q) (side_of d top order)
    gate_lists_of = subst₂ (λ w v. HasStepGateLists w v (side_of d top order)) (sym ex) (sym eq) (has_step_gate_lists d top m order flat)

    -- the gates of a step stand in order after others
    built_in_order : (gates : List Gate) → AreInOrder total gates
        → AreInOrder total (gates ++ (stepped_gate_list (input_width m.ports) d top (side_of d top order).nets total gates).gates)
    built_in_order gates first =
        let step : Step (side_of d top order) x q = step_of (side_of d top order) (input_width m.ports) (state d top) (has_step_gate_lists d top m order flat) x q in
        let given : CarriesInputs total (variables_in_order total) (x ++ q) = subst (λ k. CarriesInputs k (variables_in_order k) (x ++ q)) size (inputs_within (x ++ q)) in
        let l : total ≤ total + length gates = omega arith in
        let made = (makes-stepped (variables_in_order total) (side_of d top order) x q gate_lists_of step size given (total + length gates) l).runs gates refl tt first tt in
        order_joined total gates (stepped_gate_list (input_width m.ports) d top (side_of d top order).nets total gates).gates first
        (subst (λ w. AreInOrder (total + length gates) (stepped_gate_list w d top (side_of d top order).nets total gates).gates) ex made.good)

  pub step_in_order : (s t : Circuit) (signals : List Signal) → s.inputs ≡ input_width m.ports + state d top → AreInOrder s.inputs s.gates
      → Runs (stepped_gate_list (input_width m.ports) d top (side_of d top order).nets) s t signals → AreInOrder t.inputs t.gates
  step_in_order s t signals size first runs =
      let x : Word = zeros (input_width m.ports) in
      let q : Word = zeros (state d top) in
      let ex : length x ≡ input_width m.ports = length-replicate (input_width m.ports) false in
      let eq : length q ≡ state d top = length-replicate (state d top) false in
      let sum = length-append x q in
      subst₂ (λ n gates. AreInOrder n gates) (sym runs.inputs) (sym runs.gates)
      (built_in_order x q ex eq s.inputs (omega (arith, ex, eq, sum, size)) s.gates first)

-- ---- a design that is one module

-- it is made step by step
module _ (e : Design) (one : Module) (is_one : e ≡ one ∷ []) (order : List ℕ) (flat : IsFlat e one.symbol one order) (single : AreSingle one.body) (s t : Circuit) where
  pub stepped_from : {E : Type 0} {V : Type 0} (items : V → List Signal) (r : Result V E)
      → IfOk r (λ v. Runs (flat_gate_list (input_width one.ports) one.ports one.body order) s t (items v)) → IfOk r (λ v. IsStepped e s t (items v))
  stepped_from items (Ok v) runs = record {
    one = one;
    is_one = is_one;
    order = order;
    flat = flat;
    runs = runs_by_nets e one.symbol one order flat single s t (items v) runs;
  }
  stepped_from items (Err x) runs = tt

  pub order_from : {E : Type 0} {V : Type 0} (items : V → List Signal) (r : Result V E) → s.inputs ≡ input_width one.ports + state e one.symbol → AreInOrder s.inputs s.gates
      → IfOk r (λ v. Runs (flat_gate_list (input_width one.ports) one.ports one.body order) s t (items v)) → OnOk r (AreInOrder t.inputs t.gates)
  order_from items (Ok v) size first runs =
      step_in_order e one.symbol one order flat s t (items v) size first (runs_by_nets e one.symbol one order flat single s t (items v) runs)
  order_from items (Err x) size first runs = tt

  pub stepped_over_from : {E : Type 0} {V : Type 0} (ins content : List Signal) (items : V → List Signal) (r : Result V E)
      → IfOk r (λ v. Runs (flat_gate_list_over (words_over ins 0 one.ports) content one.body order) s t (items v)) → IfOk r (λ v. IsSteppedOver e ins content s t (items v))
  stepped_over_from ins content items (Ok v) runs = record {
    one = one;
    is_one = is_one;
    order = order;
    flat = flat;
    runs = over_by_nets e one.symbol one order flat single ins content s t (items v) runs;
  }
  stepped_over_from ins content items (Err x) runs = tt

-- ---- as the design stands in code

-- the module of its number
first_is : (ms : List StoredModule) (x : StoredModule) (m : Module) → map numbered_module ms ≡ m ∷ [] → Some x ≡ slice_get ms 0 → numbered_module x ≡ m
first_is [] x m is there = cc
first_is (y ∷ ms) x m is there =
    let same : x ≡ y = cc in
    let first : numbered_module y ≡ m = cc in
    ap numbered_module same ∙ first

-- it is the one there is, and plain
pub alone_is : (ms : List StoredModule) (x : StoredModule) → IsAlone (map numbered_module ms) → Some x ≡ slice_get ms 0
    → (map numbered_module ms ≡ numbered_module x ∷ []) × IsPlain (map numbered_module ms) x.symbol (numbered_module x)
alone_is ms x (m, is, plain) there =
    let same = first_is ms x m is there in
    (is ∙ ap (λ (z : Module). z ∷ []) (sym same), subst (λ (z : Module). IsPlain (map numbered_module ms) z.symbol z) (sym same) plain)
