-- The step of a design's one module, in gates.
use Rattle.std.specs.Prelude.{◌≡◌, ℕ, ◌+◌, List, [], ◌∷◌, length}
use Rattle.gates.specs.declared.signal.Signal.{Signal}
use Rattle.gates.specs.Circuits.{Circuit, Runs}
use Rattle.gates.specs.Order.{AreInOrder}
use Rattle.hw_model.specs.Design.{Module, Design}
use Rattle.hw_model.specs.Flat.{input_width, state}
use Rattle.net_gates.specs.RegisterGateLists.{stepped_over, stepped_gate_list}
use Rattle.flat_module_laws.specs.Sides.{side_of, IsPlain, IsFlat}

-- the design is one module, and that is plain
abbrev pub IsAlone : Design → Type 0
IsAlone e = (m : Module) × (e ≡ m ∷ []) × IsPlain e m.symbol m

-- the circuit has as many inputs as the module has bits of inputs and its registers of content, and its gates in order
abbrev pub HasInputsOf : Design → Circuit → Type 0
HasInputsOf e s = (m : Module) → e ≡ m ∷ [] → (s.inputs ≡ input_width m.ports + state e m.symbol) × AreInOrder s.inputs s.gates

-- what was built is the step of the module, its nets by some order of its operations
pub record IsStepped (e : Design) (old new : Circuit) (signals : List Signal) : Type 0 where
  pub one : Module
  pub is_one : e ≡ one ∷ []
  pub order : List ℕ
  pub flat : IsFlat e one.symbol one order
  pub runs : Runs (stepped_gate_list (input_width one.ports) e one.symbol (side_of e one.symbol order).nets) old new signals

-- what was built is the step of the module over these signals of inputs and of content, its nets by some order of its
-- operations
pub record IsSteppedOver (e : Design) (ins content : List Signal) (old new : Circuit) (signals : List Signal) : Type 0 where
  pub one : Module
  pub is_one : e ≡ one ∷ []
  pub order : List ℕ
  pub flat : IsFlat e one.symbol one order
  pub runs : Runs (stepped_over ins content e one.symbol (side_of e one.symbol order).nets) old new signals

-- the signals are as many as the bits of the module's inputs and of its registers
abbrev pub AreAsWide : Design → List Signal → List Signal → Type 0
AreAsWide e ins content = (m : Module) → e ≡ m ∷ [] → (length ins ≡ input_width m.ports) × (length content ≡ state e m.symbol)
