-- The gates of a module in which every clock rises at every step (AIGER, Biere, 2007; CIRCT, Seq dialect).
use Rattle.std.specs.Prelude.{◌≡◌, ℕ, ◌+◌, List, [], ◌∷◌, None}
use Rattle.gates.specs.declared.signal.Signal.{Signal}
use Rattle.gates.specs.Build.{Build}
use Rattle.gates.specs.Circuits.{Circuit}
use Rattle.hw_model.specs.Design.{Module, Design}
use Rattle.hw_model.specs.Flat.{state}
use Rattle.net_gates.specs.NetGateLists.{variables}
use Rattle.net_gates.specs.ClockedInputs.{free_bits, clocked_signals}
use Rattle.net_gates.specs.RegisterGateLists.{stepped_over}
use Rattle.flat_module_laws.specs.Sides.{side_of, IsFlat}
use Rattle.miter_blast.specs.FlatCopy.{IsFlatCopyAt}
use Rattle.and_gates.specs.Faults.{IsFaultOf}

-- the step of a flat module by an order of its operations, clocks being 1: the other inputs are the first variables, and what
-- the registers hold those after them
abbrev pub clocked_step : Design → Module → List ℕ → Build (List Signal)
clocked_step c m order =
    stepped_over (clocked_signals 0 m.ports) (variables (free_bits m.ports) (state c m.symbol)) c m.symbol (side_of c m.symbol order).nets

-- the gates are those of the one module of a flat design, and so are the signals: of its outputs, then of what its registers
-- hold next
pub record IsClockedStep (c : Design) (circuit : Circuit) (signals : List Signal) : Type 0 where
  pub one : Module
  pub is_one : c ≡ one ∷ []
  pub order : List ℕ
  pub flat : IsFlat c one.symbol one order
  pub inputs : circuit.inputs ≡ free_bits one.ports + state c one.symbol
  pub gates : circuit.gates ≡ (clocked_step c one order circuit.inputs []).gates
  pub signals_are : signals ≡ (clocked_step c one order circuit.inputs []).got

-- they are those of the flat copy of the module of a number, against which nothing stands
pub record IsExport (d : Design) (n : ℕ) (copy : Design) (circuit : Circuit) (signals : List Signal) : Type 0 where
  pub copied : IsFlatCopyAt d n copy
  pub faultless : IsFaultOf copy None
  pub step : IsClockedStep copy circuit signals
