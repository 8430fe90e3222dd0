-- Worked designs: a register, and negations with both constants.
use Rattle.std.proofs.Common.{◌≡◌, pos, Bool, true, false, List, [], ◌∷◌, refl, codes}
use Rattle.hw_model.specs.Types.{Name, HwType}
use Rattle.hw_model.specs.Types.HwType.{int, clock}
use Rattle.hw_model.specs.Kinds.{Kind}
use Rattle.hw_model.specs.Kinds.Variadic.{and, xor}
use Rattle.hw_model.specs.Kinds.RegisterOp.{compreg}
use Rattle.hw_model.specs.Kinds.Reset.{no_reset}
use Rattle.hw_model.specs.Kinds.Kind.{variadic, constant, output, register}
use Rattle.hw_model.specs.Design.{Ref, Port, Op, Module}
use Rattle.hw_model.specs.Design.Ref.{port, result}
use Rattle.aiger_laws.specs.Trees.{Aiger}
use Rattle.aiger_laws.specs.Drivers.{driver}
use Rattle.aiger_design.specs.Operations.{numbered}
use Rattle.aiger_design.specs.Built.{imported_design}

-- an operation with a result of one bit, and a name of its own
abbrev made : Kind → List Ref → Name → Op
made kind operands name = record {
  kind = kind;
  operands = operands;
  types = int 1 ∷ [];
  results = record { type = int 1; again = false } ∷ [];
  named = 1;
  name = name;
  dictionary = [];
  bin = false;
  location = record { line = 1; col = 1 };
}

abbrev plain : Kind → List Ref → Op
plain kind operands = made kind operands []

abbrev gives : List HwType → List Ref → Op
gives types operands = record (plain output operands) { types = types; results = []; named = 0 }

abbrev port_of : Name → Bool → HwType → Port
port_of name is_output type = record { name = name; is_output = is_output; type = type; again = false }

abbrev header : List Port → List Op → Module
header ports body = record {
  symbol = codes "aiger";
  is_private = false;
  ports = ports;
  dictionary = [];
  body = body;
  location = record { line = 1; col = 1 };
}

-- the tree of the text `aag 2 1 1 1 0`, `2`, `4 2 4`, `4`
abbrev delay : Aiger
delay = record { inputs = 2 ∷ []; latches = record { literal = 4; next = 2 } ∷ []; outputs = 4 ∷ []; gates = [] }

-- hw.module @aiger(in %clock : !seq.clock, in %i0 : i1, out o0 : i1) { %l0 = seq.compreg %i0, %clock : i1; hw.output %l0 : i1 }
delay_is_built : imported_design delay
    ≡ header (port_of (codes "clock") false clock ∷ port_of (numbered (codes "i") 0) false (int 1) ∷ port_of (numbered (codes "o") 0) true (int 1) ∷ [])
    (made (register compreg no_reset) (port 1 ∷ port 0 ∷ []) (numbered (codes "l") 0) ∷ gives (int 1 ∷ []) (result 0 0 ∷ []) ∷ [])
    ∷ []
unfolding driver
delay_is_built = refl

-- the tree of the text `aag 4 2 0 4 2`, `2`, `4`, `9`, `9`, `0`, `1`, `8 7 7`, `6 3 5`
abbrev negations : Aiger
negations = record {
  inputs = 2 ∷ 4 ∷ [];
  latches = [];
  outputs = 9 ∷ 9 ∷ 0 ∷ 1 ∷ [];
  gates = record { literal = 8; left = 7; right = 7 } ∷ record { literal = 6; left = 3; right = 5 } ∷ [];
}

-- each negated use has an inverter of its own, also of what stands behind it; the literals 0 and 1 are the constants
negations_are_built : imported_design negations
    ≡ header
    (port_of (numbered (codes "i") 0) false (int 1)
    ∷ port_of (numbered (codes "i") 1) false (int 1)
    ∷ port_of (numbered (codes "o") 0) true (int 1)
    ∷ port_of (numbered (codes "o") 1) true (int 1)
    ∷ port_of (numbered (codes "o") 2) true (int 1)
    ∷ port_of (numbered (codes "o") 3) true (int 1)
    ∷ [])
    (plain (constant (pos 1)) []
    ∷ plain (constant (pos 0)) []
    ∷ plain (variadic xor) (result 7 0 ∷ result 0 0 ∷ [])
    ∷ plain (variadic xor) (result 7 0 ∷ result 0 0 ∷ [])
    ∷ plain (variadic and) (result 2 0 ∷ result 3 0 ∷ [])
    ∷ plain (variadic xor) (port 0 ∷ result 0 0 ∷ [])
    ∷ plain (variadic xor) (port 1 ∷ result 0 0 ∷ [])
    ∷ plain (variadic and) (result 5 0 ∷ result 6 0 ∷ [])
    ∷ plain (variadic xor) (result 4 0 ∷ result 0 0 ∷ [])
    ∷ plain (variadic xor) (result 4 0 ∷ result 0 0 ∷ [])
    ∷ gives (int 1 ∷ int 1 ∷ int 1 ∷ int 1 ∷ []) (result 8 0 ∷ result 9 0 ∷ result 1 0 ∷ result 0 0 ∷ [])
    ∷ [])
    ∷ []
unfolding driver
negations_are_built = refl
