-- The signals of a flat module's step are a word of the variables that there are.
use Rattle.std.proofs.Common.{◌≡◌, refl, sym, ap, subst, ◌∙◌, ℕ, ◌+◌, ◌≤◌, false, List, ◌++◌, length, arith, length-append}
use Rattle.std.proofs.Math.ListN.{length-replicate}
use mathlib.Core.Path.{subst₂}
use Rattle.bits_core.specs.Word.{Word, zeros}
use Rattle.gates.specs.declared.signal.Gate.{Gate}
use Rattle.gates.specs.declared.signal.Signal.{Signal}
use Rattle.gates.specs.Circuits.{Circuit, Runs}
use Rattle.gates.specs.Order.{AreInOrder}
use Rattle.gates.proofs.Instances.{variables_in_order, order_joined}
use Rattle.gate_words.specs.GateLists.{unlike}
use Rattle.gate_words.proofs.LongGateLists.{makes-unlike}
use Rattle.gate_words.proofs.Words.{CarriesWord, word_length}
use Rattle.hw_model.specs.Types.{Name}
use Rattle.hw_model.specs.Design.{Module, Design}
use Rattle.hw_model.specs.Flat.{input_width, state}
use Rattle.hw_model.specs.Meaning.{outputs}
use Rattle.net_gates.specs.RegisterGateLists.{stepped_gate_list}
use Rattle.net_gates.specs.RegisterMiters.{Step, HasStepGateLists, loaded, next_of}
use Rattle.net_gates.proofs.InputWords.{CarriesInputs, inputs_within}
use Rattle.net_gates.proofs.StepGateLists.{makes-stepped, next_width}
use Rattle.net_gates.proofs.StepLaw.{step_of}
use Rattle.flat_module_laws.specs.FlatPrices.{output_bits}
use Rattle.flat_module_laws.specs.Sides.{side_of, IsFlat}
use Rattle.flat_module_laws.proofs.FlatMiters.{has_step_gate_lists}
use Rattle.flat_module_laws.proofs.FlatWords.{outputs_width}

-- signals are a word of so many bits, of the first n variables of a circuit with these inputs
pub record AreWord (inputs n bits : ℕ) (signals : List Signal) : Type 0 where
  pub word : Word
  pub carried : CarriesWord (variables_in_order inputs) n word signals
  pub wide : length word ≡ bits

pub word_long : (inputs n bits : ℕ) (signals : List Signal) → AreWord inputs n bits signals → length signals ≡ bits
word_long inputs n bits signals are = word_length (variables_in_order inputs) n are.word signals are.carried ∙ are.wide

module _ (d : Design) (top : Name) (m : Module) (order : List ℕ) (flat : IsFlat d top m order) where
  module _ (x q : Word) (ex : length x ≡ input_width m.ports) (eq : length q ≡ state d top) (total : ℕ) (size : length (x ++ q) ≡ total) where
    gate_lists_of : HasStepGateLists (length x) (length q) (side_of d top order)
    gate_lists_of = subst₂ (λ w v. HasStepGateLists w v (side_of d top order)) (sym ex) (sym eq) (has_step_gate_lists d top m order flat)

    got_word : (gates : List Gate) → AreInOrder total gates
        → AreWord total (total + length gates + length (stepped_gate_list (length x) d top (side_of d top order).nets total gates).gates) (output_bits m + state d top)
        (stepped_gate_list (length x) d top (side_of d top order).nets total gates).got
    got_word gates first =
        let step : Step (side_of d top order) x q = step_of (side_of d top order) (input_width m.ports) (state d top) (has_step_gate_lists d top m order flat) x q in
        let given : CarriesInputs total (variables_in_order total) (x ++ q) = subst (λ k. CarriesInputs k (variables_in_order k) (x ++ q)) size (inputs_within (x ++ q)) in
        let l : total ≤ total + length gates = omega arith in
        let made = (makes-stepped (variables_in_order total) (side_of d top order) x q gate_lists_of step size given (total + length gates) l).runs gates refl tt first tt in
        let sum = length-append (outputs d top step.after) (next_of (side_of d top order) x q step) in
        let wide = outputs_width d top m order flat x (loaded d top step.before q) step.after step.after_settled in
        let held = next_width (side_of d top order) x q step in
        record { word = outputs d top step.after ++ next_of (side_of d top order) x q step; carried = made.is; wide = omega (arith, sum, wide, held) }

  pub stepped_word : (s t : Circuit) (signals : List Signal) → s.inputs ≡ input_width m.ports + state d top → AreInOrder s.inputs s.gates
      → Runs (stepped_gate_list (input_width m.ports) d top (side_of d top order).nets) s t signals → AreWord s.inputs (s.inputs + length t.gates) (output_bits m + state d top) signals
  stepped_word s t signals size first runs =
      let x : Word = zeros (input_width m.ports) in
      let q : Word = zeros (state d top) in
      let ex : length x ≡ input_width m.ports = length-replicate (input_width m.ports) false in
      let eq : length q ≡ state d top = length-replicate (state d top) false in
      let sum = length-append x q in
      let got = subst
      (λ w. AreWord s.inputs (s.inputs + length s.gates + length (stepped_gate_list w d top (side_of d top order).nets s.inputs s.gates).gates) (output_bits m + state d top)
      (stepped_gate_list w d top (side_of d top order).nets s.inputs s.gates).got) ex
      (got_word x q ex eq s.inputs (omega (arith, ex, eq, sum, size)) s.gates first) in
      let gates = ap length runs.gates ∙ length-append s.gates (stepped_gate_list (input_width m.ports) d top (side_of d top order).nets s.inputs s.gates).gates in
      let count : s.inputs + length s.gates + length (stepped_gate_list (input_width m.ports) d top (side_of d top order).nets s.inputs s.gates).gates ≡ s.inputs + length t.gates = omega (arith, gates) in
      subst (λ ss. AreWord s.inputs (s.inputs + length t.gates) (output_bits m + state d top) ss) (sym runs.is)
      (subst (λ n. AreWord s.inputs n (output_bits m + state d top) (stepped_gate_list (input_width m.ports) d top (side_of d top order).nets s.inputs s.gates).got) count got)

-- the gates of a difference of two words stand in order after others
pub unlike_in_order : (u v : Circuit) (signal : Signal) (xs ys : List Signal) (bits : ℕ) → AreInOrder u.inputs u.gates → AreWord u.inputs (u.inputs + length u.gates) bits xs
    → AreWord u.inputs (u.inputs + length u.gates) bits ys → Runs (unlike xs ys) u v signal → AreInOrder v.inputs v.gates
unlike_in_order u v signal xs ys bits first one two runs =
    let made = (makes-unlike (variables_in_order u.inputs) (u.inputs + length u.gates) one.word xs one.carried two.word ys two.carried (one.wide ∙ sym two.wide)).runs u.gates refl tt first tt in
    subst₂ (λ n gates. AreInOrder n gates) (sym runs.inputs) (sym runs.gates) (order_joined u.inputs u.gates (unlike xs ys u.inputs u.gates).gates first made.good)
