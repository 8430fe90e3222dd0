-- The operations of an imported design (CIRCT: operation references of the HW, Comb and Seq dialects).
use Rattle.std.specs.Prelude.{ℕ, pos, Bool, false, cond, List, [], ◌∷◌, ◌++◌, map, codes, decimal}
use Rattle.hw_model.specs.Types.{Name, HwType}
use Rattle.hw_model.specs.Types.HwType.{int}
use Rattle.hw_model.specs.Kinds.{Kind}
use Rattle.hw_model.specs.Kinds.Variadic.{and, xor}
use Rattle.hw_model.specs.Kinds.RegisterOp.{compreg}
use Rattle.hw_model.specs.Kinds.Reset.{no_reset}
use Rattle.hw_model.specs.Kinds.Kind.{variadic, constant, output, register}
use Rattle.hw_model.specs.Design.{Ref, Location, Port, Op}
use Rattle.hw_model.specs.Design.Ref.{port, result}

-- values are of one bit
abbrev pub one_bit : HwType
one_bit = int 1

-- all stands at one location, since the text of the design is not one that was read
abbrev pub first_location : Location
first_location = record { line = 1; col = 1 }

-- a port that no other has the name of
abbrev pub port_named : Name → Bool → HwType → Port
port_named name is_output t = record { name = name; is_output = is_output; type = t; again = false }

-- a letter and a number in decimal
abbrev pub numbered : Name → ℕ → Name
numbered letter k = letter ++ decimal k

-- an operation without a name, with a result of one bit: %0 = KIND OPERANDS : i1
abbrev pub bit_op : Kind → List Ref → Op
bit_op kind operands = record {
  kind = kind;
  operands = operands;
  types = one_bit ∷ [];
  results = record { type = one_bit; again = false } ∷ [];
  named = 1;
  name = [];
  dictionary = [];
  bin = false;
  location = first_location;
}

-- %true = hw.constant true, %false = hw.constant false
abbrev pub constant_op : Bool → Op
constant_op b = bit_op (constant (pos (cond b 1 0))) []

-- %0 = comb.xor %x, %true : i1, where %true is the body's first operation
abbrev pub inverter_op : Ref → Op
inverter_op x = bit_op (variadic xor) (x ∷ result 0 0 ∷ [])

-- %lK = seq.compreg %x, %clock : i1, where %clock is the first port
abbrev pub register_op : ℕ → List Ref → Op
register_op k operands = record (bit_op (register compreg no_reset) (operands ++ port 0 ∷ [])) { name = numbered (codes "l") k }

-- %0 = comb.and %x, %y : i1
abbrev pub and_op : List Ref → Op
and_op operands = bit_op (variadic and) operands

-- hw.output %x, .. : i1, ..
abbrev pub output_op : List Ref → Op
output_op operands = record (bit_op output operands) { types = map (λ r. one_bit) operands; results = []; named = 0 }
