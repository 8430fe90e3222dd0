-- The comparison of two modules by a formula: what it asks of them, what it is, and what it means (CIRCT: `circt-lec`;
-- Brand, 1993: miters).
use Rattle.std.specs.Prelude.{◌≡◌, ℕ, ◌+◌, Bool, List, [], ◌∷◌, ◌++◌, map, length, take, drop, Some}
use Rattle.std.specs.List.{flat_map}
use Rattle.resolution_proof.specs.Formula.{Formula}
use Rattle.bits_core.specs.Word.{Word}
use Rattle.gates.specs.declared.signal.Gate.{Gate}
use Rattle.gates.specs.Order.{evaluated}
use Rattle.hw_model.specs.Types.{Name}
use Rattle.hw_model.specs.Design.{Module, Design, find_module}
use Rattle.hw_model.specs.Flat.{input_width, width_of, state}
use Rattle.hw_model.specs.Sound.{input_types, output_types}
use Rattle.hw_model.specs.Agreement.{input_bits, LevelStep}
use Rattle.pass_laws.specs.PassLaw.{leaf_types, register_types}
use Rattle.net_gates.specs.Miters.{formula_of}
use Rattle.net_gates.specs.RegisterMiters.{register_miter}
use Rattle.flat_module_laws.specs.Sides.{side_of, IsFlat}
use Rattle.miter_blast.specs.FlatCopy.{IsFlatCopy}

-- ---- modules to compare

-- how many bits the leaves of the registers of a module have, in the order of its content
abbrev pub register_widths : Design → Name → List ℕ
register_widths d s = map width_of (flat_map leaf_types (register_types d s))

-- the modules of two symbols are there, with inputs of the same types, outputs of the same types, and registers of the
-- same widths, leaf by leaf
pub record AreComparable (d : Design) (a : Name) (e : Design) (b : Name) : Type 0 where
  pub one : Module
  pub one_found : find_module d a ≡ Some one
  pub two : Module
  pub two_found : find_module e b ≡ Some two
  pub inputs : input_types one.ports ≡ input_types two.ports
  pub outputs : output_types one.ports ≡ output_types two.ports
  pub held : register_widths d a ≡ register_widths e b

-- ---- differences

-- a step of each module with the same inputs from the same content, which give other outputs or leave another content
pub record DifferAt (d : Design) (a : Name) (e : Design) (b : Name) (inputs content : Word) : Type 0 where
  pub given : Word
  pub after : Word
  pub given_too : Word
  pub after_too : Word
  pub one : LevelStep d a inputs content given after
  pub two : LevelStep e b inputs content given_too after_too
  pub apart : (given ≡ given_too) × (after ≡ after_too) → ⊥

-- the assignment is inputs and content on which the modules differ, and the bits of these gates there
pub record IsDifferenceOf (d : Design) (a : Name) (e : Design) (b : Name) (gates : List Gate) (bits : List Bool) : Type 0 where
  pub input : Word
  pub held : Word
  pub input_width : length input ≡ input_bits d a
  pub held_width : length held ≡ state d a
  pub differ : DifferAt d a e b input held
  pub evaluation : bits ≡ evaluated (input ++ held) gates

-- the inputs among the bits of an assignment, and the content
abbrev pub inputs_in : Design → Name → List Bool → Word
inputs_in d a bits = take (input_bits d a) bits

abbrev pub content_in : Design → Name → List Bool → Word
content_in d a bits = take (state d a) (drop (input_bits d a) bits)

-- ---- formulas

-- the formula is that of the miter with registers of flat copies of the modules, in an order of each one's operations
pub record IsFormulaOf (d : Design) (a : Name) (e : Design) (b : Name) (f : Formula) : Type 0 where
  pub first : Design
  pub first_copy : IsFlatCopy d a first
  pub one : Module
  pub first_is : first ≡ one ∷ []
  pub first_order : List ℕ
  pub first_flat : IsFlat first a one first_order
  pub second : Design
  pub second_copy : IsFlatCopy e b second
  pub two : Module
  pub second_is : second ≡ two ∷ []
  pub second_order : List ℕ
  pub second_flat : IsFlat second b two second_order
  pub formula : f ≡ formula_of (input_width one.ports + state first a)
      (register_miter (input_width one.ports) (side_of first a first_order) (side_of second b second_order))

-- the gates of that miter
abbrev pub gates_of : {d : Design} {a : Name} {e : Design} {b : Name} {f : Formula} → IsFormulaOf d a e b f → List Gate
gates_of {a = a} {b = b} is =
    (register_miter (input_width is.one.ports) (side_of is.first a is.first_order) (side_of is.second b is.second_order)
    (input_width is.one.ports + state is.first a) []).gates
