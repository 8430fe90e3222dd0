-- The miter of two modules, and its formula (Brand, 1993; Tseitin, 1968).
use Rattle.std.specs.Prelude.{◌≡◌, ℕ, ◌+◌, ◌*◌, Bool, true, false, List, [], ◌∷◌, ◌++◌, length}
use Rattle.resolution_proof.specs.declared.literal.Literal.{Literal}
use Rattle.resolution_proof.specs.Formula.{Formula}
use Rattle.bits_core.specs.Word.{Word}
use Rattle.gates.specs.declared.signal.Signal.{Signal}
use Rattle.gates.specs.declared.signal.Signal.TheVariants.{Fixed, Wire}
use Rattle.gates.specs.Build.{Build, and_then}
use Rattle.gates.specs.Order.{evaluated}
use Rattle.gates.specs.Clauses.{literal_of, clauses_from}
use Rattle.gate_words.specs.GateLists.{unlike}
use Rattle.hw_model.specs.Types.{Name}
use Rattle.hw_model.specs.Design.{Design}
use Rattle.hw_model.specs.Flat.{Net}
use Rattle.hw_model.specs.Meaning.{Settled, HasHeights, outputs}
use Rattle.net_gates.specs.NetGateLists.{module_gate_list}
use Rattle.net_gates.specs.NetPrices.{nets_price}
use Rattle.net_gates.specs.NetOrder.{NeedsComeFirst, HaveGateLists, OutputsAreAmong}

-- a module of a design, with its nets in order
pub record Side : Type 0 where
  pub design : Design
  pub top : Name
  pub nets : List Net

-- whether the outputs of two modules over the same inputs differ
unfoldable pub miter : ℕ → Side → Side → Build Signal
miter inputs a b =
    and_then (module_gate_list inputs a.design a.top a.nets) (λ x.
    and_then (module_gate_list inputs b.design b.top b.nets) (λ y.
    unlike x y))

-- that the signal is 1, as clauses
abbrev pub signal_clauses : Signal → List (List Literal)
signal_clauses (Fixed true) = []
signal_clauses (Fixed false) = [] ∷ []
signal_clauses (Wire p) = (literal_of p ∷ []) ∷ []

-- the clauses of the gates that a building makes of so many inputs, and that its signal is 1
abbrev pub formula_of : ℕ → Build Signal → Formula
formula_of inputs p = record {
  variables = inputs + length (p inputs []).gates;
  clauses = clauses_from inputs (p inputs []).gates ++ signal_clauses (p inputs []).got;
}

-- the modules give other outputs for the inputs and content
abbrev pub Differ : Side → Side → Word → Word → Type 0
Differ a b inputs content =
    (ρ : Net → Word) × (σ : Net → Word) × Settled a.design a.top inputs content ρ × Settled b.design b.top inputs content σ
    × (outputs a.design a.top ρ ≡ outputs b.design b.top σ → ⊥)

-- the module, with so many bits of inputs and content, has its nets in order with its outputs among them, a gate list for each
-- under every settled map, and heights
pub record HasNetGateLists (inputs content : ℕ) (s : Side) : Type 0 where
  pub order : NeedsComeFirst s.design s.top [] s.nets
  pub among : OutputsAreAmong s.design s.top s.nets
  pub gate_lists : (x q : Word) (ρ : Net → Word) → length x ≡ inputs → length q ≡ content → Settled s.design s.top x q ρ
      → HaveGateLists s.design s.top inputs content ρ s.nets
  pub heights : HasHeights s.design s.top

-- the modules have outputs of as many bits
abbrev pub HaveSameWidth : ℕ → ℕ → Side → Side → Type 0
HaveSameWidth inputs content a b =
    (x q : Word) (ρ σ : Net → Word) → length x ≡ inputs → length q ≡ content → Settled a.design a.top x q ρ → Settled b.design b.top x q σ
    → length (outputs a.design a.top ρ) ≡ length (outputs b.design b.top σ)

-- the inputs and content are of so many bits, the modules differ on them, and the assignment is theirs and the gates' bits
pub record IsDifference (inputs content : ℕ) (a b : Side) (m : List Bool) : Type 0 where
  pub input : Word
  pub held : Word
  pub input_width : length input ≡ inputs
  pub held_width : length held ≡ content
  pub differ : Differ a b input held
  pub evaluation : m ≡ evaluated (input ++ held) (miter inputs a b (inputs + content) []).gates

-- how many gates the miter may take, where the nets have these words: both modules' and 4 for each bit of an output
abbrev pub miter_price : Side → Side → (Net → Word) → (Net → Word) → ℕ
miter_price a b ρ σ = nets_price a.design a.top ρ a.nets + nets_price b.design b.top σ b.nets + 4 * length (outputs a.design a.top ρ)
