-- The price and the formula of two flat modules.
use Rattle.std.specs.Prelude.{◌≡◌, ℕ, ◌+◌, ◌*◌, List, [], ◌∷◌, ◌++◌}
use Rattle.gates.specs.declared.signal.Signal.{Signal}
use Rattle.gates.specs.Circuits.{Circuit, Runs}
use Rattle.gates.specs.Order.{AreInOrder}
use Rattle.hw_model.specs.Design.{Module, Design}
use Rattle.hw_model.specs.Flat.{input_width, state}
use Rattle.net_gates.specs.Miters.{formula_of}
use Rattle.net_gates.specs.RegisterMiters.{register_miter}
use Rattle.flat_module_laws.specs.FlatPrices.{output_bits}
use Rattle.flat_module_laws.specs.Sides.{side_of, IsPlain, IsFlat, AreAlike}
use Rattle.flat_module_gates.specs.FlatSteps.{content_width}
use Rattle.miter_blast.specs.BodyPrices.{body_price}
use Rattle.miter_blast.specs.MiterForms.{MiterForm}
use Rattle.miter_blast.specs.Leaves.{held_widths, input_widths}

-- ---- prices

-- a comparison takes at most 2^28 gates
abbrev pub most_gates : ℕ
most_gates = 268435456

-- the price of two flat modules: both, and 4 for each bit of an output or of content
abbrev pub modules_price : Module → Module → ℕ
modules_price m n = body_price m.ports m.body + body_price n.ports n.body + 4 * (output_bits m + content_width m.body)

abbrev pub pair_price : Design → Design → ℕ
pair_price (m ∷ d) (n ∷ e) = modules_price m n
pair_price _ _ = 0

-- ---- what is built

-- each of two designs is one flat module, with as many bits of inputs and of content and outputs of the same types
pub record AreAlone (first second : Design) : Type 0 where
  pub one : Module
  pub first_is : first ≡ one ∷ []
  pub first_plain : IsPlain first one.symbol one
  pub two : Module
  pub second_is : second ≡ two ∷ []
  pub second_plain : IsPlain second two.symbol two
  pub alike : AreAlike first one.symbol one second two.symbol two

-- each of two designs is one flat module, both are alike, and the registers of the first one have these widths
pub record AreReady (first second : Design) (held : List ℕ) : Type 0 where
  pub alone : AreAlone first second
  pub held_are : held ≡ held_widths alone.one.body

-- the circuit has their inputs, and gates in order
pub record AreInputsOf (first second : Design) (c : Circuit) : Type 0 where
  pub alone : AreAlone first second
  pub inputs : c.inputs ≡ input_width alone.one.ports + state first alone.one.symbol
  pub order : AreInOrder c.inputs c.gates

-- two designs with orders of the operations of each one's module
pub record AreOrdered (first second : Design) : Type 0 where
  pub one : Module
  pub first_is : first ≡ one ∷ []
  pub first_order : List ℕ
  pub first_flat : IsFlat first one.symbol one first_order
  pub two : Module
  pub second_is : second ≡ two ∷ []
  pub second_order : List ℕ
  pub second_flat : IsFlat second two.symbol two second_order

-- their miter was built
pub record IsDifferenceBuilt (first second : Design) (old new : Circuit) (signal : Signal) : Type 0 where
  pub are : AreOrdered first second
  pub runs : Runs (register_miter (input_width are.one.ports) (side_of first are.one.symbol are.first_order) (side_of second are.two.symbol are.second_order)) old new signal

-- their formula, with the widths of their leaves
pub record IsBuilt (first second : Design) (miter : MiterForm) : Type 0 where
  pub are : AreOrdered first second
  pub formula : miter.formula ≡ formula_of (input_width are.one.ports + state first are.one.symbol)
      (register_miter (input_width are.one.ports) (side_of first are.one.symbol are.first_order) (side_of second are.two.symbol are.second_order))
  pub widths : miter.widths ≡ input_widths are.one.ports ++ held_widths are.one.body
