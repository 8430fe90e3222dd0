-- What is compared of two designs, and what is refused (CIRCT: `circt-lec`).
use Rattle.std.specs.Prelude.{◌≡◌, ℕ, ◌<◌, ◌≤◌, List, [], ◌∷◌, ◌++◌, map}
use Rattle.std.specs.List.{flat_map}
use Rattle.diag.specs.declared.cause.Cause.TheVariants.{RegistersDiffer, TooManyGates}
use Rattle.diag.specs.declared.refusal.Refusal.{Refusal}
use Rattle.hw_model.specs.Types.{Name, width, leaves}
use Rattle.hw_model.specs.Design.{Module, Design}
use Rattle.hw_model.specs.Sound.{input_types}
use Rattle.miter_blast.specs.FlatCopy.{IsFlatCopy}
use Rattle.miter_blast.specs.Comparable.{register_widths, AreComparable, IsFormulaOf}
use Rattle.miter_blast.specs.ComparisonPrices.{comparison_price}
use Rattle.miter_blast.specs.declared.fail.MiterFail.{MiterFail}
use Rattle.miter_blast.specs.declared.fail.MiterFail.TheVariants.{Refused, NoMemory}
use Rattle.miter_blast.specs.MiterForms.{MiterForm}
use Rattle.miter_blast.specs.Building.{most_gates}
use Rattle.miter_blast.specs.Pairs.{AreFound, HaveSamePorts, at_module, IsNoPair}

-- ---- prices

-- the price of flat copies of two modules
pub record IsPriceOf (d : Design) (a : Name) (e : Design) (b : Name) (price : ℕ) : Type 0 where
  pub first : Design
  pub first_copy : IsFlatCopy d a first
  pub one : Module
  pub first_is : first ≡ one ∷ []
  pub second : Design
  pub second_copy : IsFlatCopy e b second
  pub two : Module
  pub second_is : second ≡ two ∷ []
  pub is : price ≡ comparison_price first a one second b two

-- ---- refusals

-- the first cause for which two modules are not compared: one is not there; their ports differ; the widths of the leaves of
-- their registers do; or the comparison takes too many gates
pub data IsComparisonRefusal (d : Design) (a : Name) (e : Design) (b : Name) : Refusal → Type 0 where
  no_pair : (r : Refusal) → IsNoPair d a e b r → IsComparisonRefusal d a e b r
  registers : (m n : Module) → AreFound d a e b m n → HaveSamePorts m.ports n.ports → (register_widths d a ≡ register_widths e b → ⊥)
      → IsComparisonRefusal d a e b (at_module 1 n.location RegistersDiffer)
  price : (m n : Module) → AreFound d a e b m n → AreComparable d a e b → (p : ℕ) → IsPriceOf d a e b p → most_gates < p
      → IsComparisonRefusal d a e b (at_module 0 m.location TooManyGates)

abbrev pub IsRefusedComparison : Design → Name → Design → Name → MiterFail → Type 0
IsRefusedComparison d a e b (Refused r) = IsComparisonRefusal d a e b r
IsRefusedComparison d a e b NoMemory = Unit {0}

-- ---- what is compared

-- the widths of the leaves of a module's inputs, in order, and of its registers
abbrev pub leaf_widths : Design → Name → Module → List ℕ
leaf_widths d a m = map width (flat_map leaves (input_types m.ports)) ++ register_widths d a

-- the modules can be compared, at a price that is not too high, and this is their formula
pub record IsComparison (d : Design) (a : Name) (e : Design) (b : Name) (miter : MiterForm) : Type 0 where
  pub comparable : AreComparable d a e b
  pub price : ℕ
  pub priced : IsPriceOf d a e b price
  pub within : price ≤ most_gates
  pub formula : IsFormulaOf d a e b miter.formula
  pub widths : miter.widths ≡ leaf_widths d a comparable.one
