-- The difference of two flat modules, as it is built.
use Rattle.std.proofs.Common.{◌≡◌, sym, ap, ap₂, subst, ◌∙◌, ℕ, ◌+◌, ◌≤◌, List, [], ◌∷◌, map, length, IfOk, OnOk, Result, Ok, Err, slice_get, Some, arith, length-append}
use mathlib.Core.Path.{subst₂}
use Rattle.wiring.specs.Lists.{total}
use Rattle.gates.specs.declared.signal.Signal.{Signal}
use Rattle.gates.specs.Circuits.{Circuit, Runs}
use Rattle.gates.specs.Order.{AreInOrder}
use Rattle.gates.proofs.Running.{runs_then}
use Rattle.gate_words.specs.GateLists.{unlike}
use Rattle.gate_words.proofs.Words.{word_later}
use Rattle.gates.proofs.Instances.{variables_in_order}
use Rattle.hw_model.specs.Types.{width}
use Rattle.hw_model.specs.Design.{Module, Design}
use Rattle.hw_model.specs.Flat.{input_width, state}
use Rattle.net_gates.specs.RegisterGateLists.{stepped_gate_list}
use Rattle.net_gates.specs.RegisterMiters.{register_miter}
use Rattle.flat_module_laws.specs.FlatPrices.{output_bits}
use Rattle.flat_module_laws.specs.Sides.{side_of, AreAlike}
use Rattle.flat_module_gates.specs.Stepped.{IsStepped}
use Rattle.miter_blast.specs.Building.{AreAlone, AreOrdered, IsDifferenceBuilt}
use Rattle.miter_blast.proofs.SteppedWords.{AreWord, word_long, stepped_word, unlike_in_order}

pub same_alone : (e : Design) (m n : Module) → e ≡ m ∷ [] → e ≡ n ∷ [] → m ≡ n
same_alone e m n p q = let lists : m ∷ [] ≡ n ∷ [] = sym p ∙ q in cc

-- the first module of a design of one
pub first_alone : (e : Design) (m n : Module) → slice_get e 0 ≡ Some m → e ≡ n ∷ [] → m ≡ n
first_alone e m n at is = let first : Some n ≡ Some m = sym (ap (λ (d : Design). slice_get d 0) is) ∙ at in cc

later_word : (inputs n k bits : ℕ) (signals : List Signal) → n ≤ k → AreWord inputs n bits signals → AreWord inputs k bits signals
later_word inputs n k bits signals l are = record { word = are.word; carried = word_later (variables_in_order inputs) n k are.word signals l are.carried; wide = are.wide }

module _ (first second : Design) (alone : AreAlone first second) (s t u : Circuit) (xs ys : List Signal) (one : IsStepped first s t xs) (two : IsStepped second t u ys)
    (size : s.inputs ≡ input_width alone.one.ports + state first alone.one.symbol) (start : AreInOrder s.inputs s.gates) (middle : AreInOrder t.inputs t.gates) where
  same_one : alone.one ≡ one.one
  same_one = same_alone first alone.one one.one alone.first_is one.is_one

  same_two : alone.two ≡ two.one
  same_two = same_alone second alone.two two.one alone.second_is two.is_one

  alike : AreAlike first one.one.symbol one.one second two.one.symbol two.one
  alike = subst₂ (λ (m n : Module). AreAlike first m.symbol m second n.symbol n) same_one same_two alone.alike

  first_size : s.inputs ≡ input_width one.one.ports + state first one.one.symbol
  first_size = subst (λ (m : Module). s.inputs ≡ input_width m.ports + state first m.symbol) same_one size

  second_size : t.inputs ≡ input_width two.one.ports + state second two.one.symbol
  second_size = let runs = one.runs.inputs in let own = first_size in let a = alike.inputs in let b = alike.held in omega (arith, runs, own, a, b)

  abbrev bits : ℕ
  bits = output_bits one.one + state first one.one.symbol

  same_bits : output_bits two.one + state second two.one.symbol ≡ bits
  same_bits = ap₂ (λ ts n. total (map width ts) + n) (sym alike.outputs) (sym alike.held)

  first_word : AreWord s.inputs (s.inputs + length t.gates) bits xs
  first_word = stepped_word first one.one.symbol one.one one.order one.flat s t xs first_size start one.runs

  second_word : AreWord t.inputs (t.inputs + length u.gates) bits ys
  second_word = subst (λ n. AreWord t.inputs (t.inputs + length u.gates) n ys) same_bits (stepped_word second two.one.symbol two.one two.order two.flat t u ys second_size middle two.runs)

  pub same_long : length xs ≡ length ys
  same_long = word_long s.inputs (s.inputs + length t.gates) bits xs first_word ∙ sym (word_long t.inputs (t.inputs + length u.gates) bits ys second_word)

  abbrev pub are : AreOrdered first second
  are = record {
    one = one.one;
    first_is = one.is_one;
    first_order = one.order;
    first_flat = one.flat;
    two = two.one;
    second_is = two.is_one;
    second_order = two.order;
    second_flat = two.flat;
  }

  second_runs : Runs (stepped_gate_list (input_width one.one.ports) second two.one.symbol (side_of second two.one.symbol two.order).nets) t u ys
  second_runs = subst (λ w. Runs (stepped_gate_list w second two.one.symbol (side_of second two.one.symbol two.order).nets) t u ys) (sym alike.inputs) two.runs

  all_runs : (v : Circuit) (signal : Signal) → Runs (unlike xs ys) u v signal
      → Runs (register_miter (input_width one.one.ports) (side_of first one.one.symbol one.order) (side_of second two.one.symbol two.order)) s v signal
  unfolding register_miter
  all_runs v signal runs = runs_then _ one.runs (runs_then _ second_runs runs)

  pub difference_from : {E : Type 0} (v : Circuit) (r : Result Signal E) → IfOk r (Runs (unlike xs ys) u v) → IfOk r (IsDifferenceBuilt first second s v)
  difference_from v (Ok signal) runs = record { are = are; runs = all_runs v signal runs }
  difference_from v (Err e) runs = tt

  module _ (end : AreInOrder u.inputs u.gates) where
    grown : length t.gates ≤ length u.gates
    grown = let gates = ap length two.runs.gates ∙ length-append t.gates _ in omega (arith, gates)

    last_first : AreWord u.inputs (u.inputs + length u.gates) bits xs
    last_first =
        let inputs : s.inputs ≡ u.inputs = sym (two.runs.inputs ∙ one.runs.inputs) in
        subst (λ n. AreWord n (n + length u.gates) bits xs) inputs
        (later_word s.inputs (s.inputs + length t.gates) (s.inputs + length u.gates) bits xs (omega (arith, grown)) first_word)

    last_second : AreWord u.inputs (u.inputs + length u.gates) bits ys
    last_second = subst (λ n. AreWord n (n + length u.gates) bits ys) (sym two.runs.inputs) second_word

    pub order_from : {E : Type 0} (v : Circuit) (r : Result Signal E) → IfOk r (Runs (unlike xs ys) u v) → OnOk r (AreInOrder v.inputs v.gates)
    order_from v (Ok signal) runs = unlike_in_order u v signal xs ys bits end last_first last_second runs
    order_from v (Err e) runs = tt
