-- The signals of a step in which every clock rises have the bits of the module's outputs and of its content after the step.
use Rattle.std.proofs.Common.{◌≡◌, refl, sym, ap, ap₂, subst, ◌∙◌, ℕ, ◌+◌, ◌≤◌, false, List, [], ◌++◌, length, arith, length-append, le_refl}
use Rattle.std.proofs.Math.ListN.{length-replicate}
use mathlib.Core.Path.{subst₂}
use Rattle.bits_core.specs.Word.{Word, zeros}
use Rattle.gates.specs.declared.signal.Gate.{Gate}
use Rattle.gates.specs.declared.signal.Signal.{Signal}
use Rattle.gates.specs.Build.{Build}
use Rattle.gates.specs.Circuits.{Circuit}
use Rattle.gates.specs.Order.{AreInOrder, AreKept, evaluated}
use Rattle.gates.proofs.Carrying.{Carrying, Makes}
use Rattle.gates.proofs.Evaluation.{evaluated_from, evaluated_keeps}
use Rattle.gates.proofs.Instances.{bits_under, variables_in_order}
use Rattle.gate_words.specs.Computes.{word_of}
use Rattle.gate_words.proofs.Computing.{counting, computes}
use Rattle.gate_words.proofs.Words.CarriesWord.{none, more}
use Rattle.gate_words.proofs.Words.{CarriesWord, IsWord, word_length}
use Rattle.hw_model.specs.Design.{Module, Design}
use Rattle.hw_model.specs.Flat.{Net, registers, state, depth}
use Rattle.hw_model.specs.Meaning.{Settled, outputs, next_in, next_content}
use Rattle.hw_model.proofs.Content.{registers_width}
use Rattle.hw_model.proofs.Finite.{settles_with_heights}
use Rattle.operation_gates.specs.WordOrder.{AreSignalsWithin}
use Rattle.net_gates.specs.Miters.{Side}
use Rattle.net_gates.specs.NetGateLists.{variables}
use Rattle.net_gates.specs.NetPrices.{nets_price}
use Rattle.net_gates.specs.RegisterPrices.{next_cost}
use Rattle.net_gates.specs.RegisterMiters.{HasStepGateLists}
use Rattle.net_gates.specs.ClockedInputs.{free_bits, clocked_signals, with_clocks}
use Rattle.net_gates.proofs.InputWords.{CarriesInputs, inputs_under, inputs_counted, inputs_within, inputs_first, content_given}
use Rattle.net_gates.proofs.ClockedWords.{with_clocks_long, ports_carried}
use Rattle.net_gates.proofs.RegisterParts.{slots_price, slots_long}
use Rattle.net_gates.proofs.StepGateLists.{makes-stepped_over}
use Rattle.flat_module_laws.specs.FlatPrices.{module_price, output_bits}
use Rattle.flat_module_laws.specs.Sides.{side_of, IsFlat}
use Rattle.flat_module_laws.proofs.FlatBodies.{flat_heights}
use Rattle.flat_module_laws.proofs.FlatMiters.{has_step_gate_lists, side_paid}
use Rattle.flat_module_laws.proofs.FlatWords.{outputs_width}
use Rattle.and_gates.specs.Exports.{clocked_step, IsClockedStep}

-- ---- a building that carries a word, where the first variables carry another one

-- signals that carry a word are of the variables that there are
within_carried : (inputs n : ℕ) (w : Word) (x : List Signal) → CarriesWord (variables_in_order inputs) n w x → AreSignalsWithin n x
within_carried inputs n _ _ none = tt
within_carried inputs n _ _ (more b w s x h t) = (h, within_carried inputs n w x t)

module _ (n : ℕ) (p : Build (List Signal)) (word : Word) (size : length word ≡ n) (g : ℕ) (w : Word)
    (made : (c : Carrying n) → CarriesInputs n c word → Makes c p n g (IsWord c w)) where
  start : n + length {A = Gate} [] ≡ n
  start = omega arith

  in_order : CarriesInputs n (variables_in_order n) word
  in_order = subst (λ k. CarriesInputs k (variables_in_order k) word) size (inputs_within word)

  order_of : AreInOrder n (p n []).gates
  order_of = ((made (variables_in_order n) in_order).runs [] start tt tt tt).good

  within_of : AreSignalsWithin (n + length (p n []).gates) (p n []).got
  within_of = within_carried n (n + length (p n []).gates) w (p n []).got ((made (variables_in_order n) in_order).runs [] start tt tt tt).is

  long_of : length (p n []).got ≡ length w
  long_of = word_length (variables_in_order n) (n + length (p n []).gates) w (p n []).got ((made (variables_in_order n) in_order).runs [] start tt tt tt).is

  few_of : length (p n []).gates ≤ g
  few_of = ((made (counting n) (inputs_counted word n)).runs [] start tt tt tt).few

  bits_of : word_of (evaluated word (p n []).gates) (p n []).got ≡ w
  bits_of =
      let gates = (p n []).gates in
      let on = evaluated_from word gates in
      let m : Word = word ++ on.0 in
      let order : AreInOrder (length word) gates = subst (λ k. AreInOrder k gates) (sym size) order_of in
      let kept : AreKept m n gates = subst (λ k. AreKept m k gates) size (subst (λ a. AreKept a (length word) gates) on.1 (evaluated_keeps word gates order)) in
      let bits = subst (λ k. Makes (bits_under m n) p k g (IsWord (bits_under m n) w)) (sym start)
      (made (bits_under m n) (subst (λ k. CarriesInputs k (bits_under m k) word) size (inputs_under word on.0))) in
      let count = subst (λ k. Makes (counting n) p k g (IsWord (counting n) w)) (sym start) (made (counting n) (inputs_counted word n)) in
      ap (λ a. word_of a (p n []).got) on.1 ∙ (computes p m n [] w w g refl bits count).value tt (subst (λ k. AreKept m k gates) (sym start) kept)

-- ---- a step

module _ (c : Design) (m : Module) (order : List ℕ) (flat : IsFlat c m.symbol m order) (x q : Word) (ex : length x ≡ free_bits m.ports) (eq : length q ≡ state c m.symbol)
    (ρ : Net → Word) (settled : Settled c m.symbol (with_clocks m.ports x) q ρ) where
  abbrev side : Side
  side = side_of c m.symbol order

  fits : HasStepGateLists (length (with_clocks m.ports x)) (length q) side
  fits = subst₂ (λ a b. HasStepGateLists a b side) (sym (with_clocks_long m.ports x)) (sym eq) (has_step_gate_lists c m.symbol m order flat)

  abbrev price : ℕ
  price = nets_price c m.symbol ρ side.nets + (slots_price next_cost (registers c m.symbol) + 0)

  abbrev told : Word
  told = outputs c m.symbol ρ ++ next_content (registers c m.symbol) ρ q

  made_at : (total : ℕ) (k : Carrying total) → CarriesInputs total k (x ++ q) → Makes k (clocked_step c m order) total price (IsWord k told)
  made_at total k given =
      makes-stepped_over k side (with_clocks m.ports x) q fits ρ settled (clocked_signals 0 m.ports) total
      (ports_carried k x (inputs_first k x q given) total (le_refl total) m.ports ex) (variables (free_bits m.ports) (state c m.symbol)) total (le_refl total)
      (subst₂ (λ a b. CarriesWord k total q (variables a b)) ex eq (content_given k x q given total (le_refl total)))

  module _ (n : ℕ) (size : n ≡ free_bits m.ports + state c m.symbol) where
    long : length (x ++ q) ≡ n
    long = let sum = length-append x q in omega (arith, sum, ex, eq, size)

    told_long : length told ≡ output_bits m + state c m.symbol
    told_long =
        let sum = length-append (outputs c m.symbol ρ) (next_content (registers c m.symbol) ρ q) in
        let first = outputs_width c m.symbol m order flat (with_clocks m.ports x) q ρ settled in
        let held = slots_long (next_in ρ) (registers c m.symbol) q ∙ registers_width c (depth c) [] m.symbol in
        omega (arith, sum, first, held)

    pub step_order : AreInOrder n (clocked_step c m order n []).gates
    step_order = order_of n (clocked_step c m order) (x ++ q) long price told (made_at n)

    pub step_within : AreSignalsWithin (n + length (clocked_step c m order n []).gates) (clocked_step c m order n []).got
    step_within = within_of n (clocked_step c m order) (x ++ q) long price told (made_at n)

    pub step_long : length (clocked_step c m order n []).got ≡ output_bits m + state c m.symbol
    step_long = long_of n (clocked_step c m order) (x ++ q) long price told (made_at n) ∙ told_long

    pub step_few : length (clocked_step c m order n []).gates ≤ module_price m + slots_price next_cost (registers c m.symbol)
    step_few =
        let few = few_of n (clocked_step c m order) (x ++ q) long price told (made_at n) in
        let nets = side_paid c m.symbol m order flat (with_clocks m.ports x) q ρ settled in
        omega (arith, few, nets)

    pub step_bits : word_of (evaluated (x ++ q) (clocked_step c m order n []).gates) (clocked_step c m order n []).got ≡ told
    step_bits = bits_of n (clocked_step c m order) (x ++ q) long price told (made_at n)

-- ---- what was built

module _ (c : Design) (g : Circuit) (signals : List Signal) (is : IsClockedStep c g signals) where
  abbrev no_inputs : Word
  no_inputs = zeros (free_bits is.one.ports)

  abbrev no_content : Word
  no_content = zeros (state c is.one.symbol)

  inputs_long : length no_inputs ≡ free_bits is.one.ports
  inputs_long = length-replicate (free_bits is.one.ports) false

  content_long : length no_content ≡ state c is.one.symbol
  content_long = length-replicate (state c is.one.symbol) false

  settled_map : (ρ : Net → Word) × Settled c is.one.symbol (with_clocks is.one.ports no_inputs) no_content ρ
  settled_map =
      let once = settles_with_heights c is.one.symbol (flat_heights c is.one.symbol is.one is.order is.flat) (with_clocks is.one.ports no_inputs) no_content in
      (once.0, once.1)

  pub clocked_order : AreInOrder g.inputs g.gates
  clocked_order =
      subst (λ gates. AreInOrder g.inputs gates) (sym is.gates)
      (step_order c is.one is.order is.flat no_inputs no_content inputs_long content_long settled_map.0 settled_map.1 g.inputs is.inputs)

  pub clocked_within : AreSignalsWithin (g.inputs + length g.gates) signals
  clocked_within =
      subst₂ (λ (gates : List Gate) (ss : List Signal). AreSignalsWithin (g.inputs + length gates) ss) (sym is.gates) (sym is.signals_are)
      (step_within c is.one is.order is.flat no_inputs no_content inputs_long content_long settled_map.0 settled_map.1 g.inputs is.inputs)

  pub clocked_long : length signals ≡ output_bits is.one + state c is.one.symbol
  clocked_long =
      ap (λ (ss : List Signal). length ss) is.signals_are
      ∙ step_long c is.one is.order is.flat no_inputs no_content inputs_long content_long settled_map.0 settled_map.1 g.inputs is.inputs

  pub clocked_few : length g.gates ≤ module_price is.one + slots_price next_cost (registers c is.one.symbol)
  clocked_few =
      subst (λ (gates : List Gate). length gates ≤ module_price is.one + slots_price next_cost (registers c is.one.symbol)) (sym is.gates)
      (step_few c is.one is.order is.flat no_inputs no_content inputs_long content_long settled_map.0 settled_map.1 g.inputs is.inputs)

  pub clocked_bits : (x q : Word) (ρ : Net → Word) → length x ≡ free_bits is.one.ports → length q ≡ state c is.one.symbol → Settled c is.one.symbol (with_clocks is.one.ports x) q ρ
      → word_of (evaluated (x ++ q) g.gates) signals ≡ outputs c is.one.symbol ρ ++ next_content (registers c is.one.symbol) ρ q
  clocked_bits x q ρ ex eq settled =
      ap₂ (λ (gates : List Gate) (ss : List Signal). word_of (evaluated (x ++ q) gates) ss) is.gates is.signals_are
      ∙ step_bits c is.one is.order is.flat x q ex eq ρ settled g.inputs is.inputs
