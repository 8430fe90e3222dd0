-- Where the values of an imported design stand, as code keeps it.
use Rattle.std.specs.Prelude.{◌≡◌, ℕ, suc, ◌+◌, ◌<◌, ◌≤◌, ◌^◌, ◌==◌, Bool, true, false, cond, List, [], ◌∷◌, ◌++◌, length, map, ⊤}
use Rattle.hw_model.specs.Design.{Ref}
use Rattle.hw_model.specs.Design.Ref.{result}
use Rattle.aiger_laws.specs.declared.tree.Latch.{Latch}
use Rattle.aiger_laws.specs.declared.tree.AndGate.{AndGate}
use Rattle.aiger_laws.specs.Trees.{Aiger, is_negated}
use Rattle.aiger_laws.specs.Drivers.{Driver, nothing, input_bit, held_bit, gate_bit}
use Rattle.aiger_design.specs.Positions.{needs_true, needs_false, constants, inverter_count}
use Rattle.aiger_reader.specs.declared.text.AigerText.{AigerText}
use Rattle.aiger_reader.specs.Kept.{Knows, tree_of}
use Rattle.aiger_reader.specs.Told.{line_count}
use Rattle.aiger_text.specs.declared.places.Places.{Places}

-- the literal wants `true` in the body, or `false`
abbrev pub wants : Bool → ℕ → Bool
wants true l = is_negated l
wants false l = l == 0

-- where the own operations of users of these literals stand, the first ones beginning at a place
abbrev pub ends_from : ℕ → List (List ℕ) → List ℕ
ends_from p [] = []
ends_from p (ls ∷ more) = (p + inverter_count ls) ∷ ends_from (suc (p + inverter_count ls)) more

-- where what is behind them begins
abbrev pub place_behind : ℕ → List (List ℕ) → ℕ
place_behind p [] = p
place_behind p (ls ∷ more) = place_behind (suc (p + inverter_count ls)) more

-- the literals that each latch uses
abbrev pub latch_lists : List Latch → List (List ℕ)
latch_lists latches = map (λ (l : Latch). l.next ∷ []) latches

-- the literals that each gate uses
abbrev pub gate_lists : List AndGate → List (List ℕ)
gate_lists gates = map (λ (g : AndGate). g.left ∷ g.right ∷ []) gates

-- the places are those of the values of the tree's design
pub record ArePlaces (t : Aiger) (p : Places) : Type 0 where
  pub has_true : p.has_true ≡ needs_true t
  pub has_false : p.has_false ≡ needs_false t
  pub ends : p.ends.items ≡ ends_from (length (constants t)) (latch_lists t.latches ++ gate_lists t.gates)

-- the value of a constant, where `true` stands in the body or not
abbrev pub constant_at : Bool → Bool → Ref
constant_at has_true true = result 0 0
constant_at has_true false = result (cond has_true 1 0) 0

-- what gives a bit is there
abbrev pub IsThere : Aiger → Driver → Type 0
IsThere t nothing = ⊤
IsThere t (input_bit k) = k < length t.inputs
IsThere t (held_bit k) = k < length t.latches
IsThere t (gate_bit k) = k < length t.gates

-- what is known of a text and of places while a body is built
pub record IsReady (text : AigerText) (p : Places) : Type 0 where
  pub knows : Knows text
  pub few : line_count (tree_of text) ≤ 2 ^ 26
  pub places : ArePlaces (tree_of text) p
