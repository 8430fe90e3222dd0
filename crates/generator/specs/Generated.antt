-- The design that is generated from a seed: each module has a drawn constant, three drawn operations and a register, and each but the first has an
-- instance of an earlier one (CIRCT: operation references of the HW, Comb and Seq dialects).
use Rattle.std.specs.Prelude.{ℕ, zero, suc, pos, ◌+◌, ◌*◌, ◌/◌, ◌%◌, Bool, true, false, nat_lt, List, [], ◌∷◌, ◌++◌, None, slice_index_or, codes, decimal}
use Rattle.hw_model.specs.Types.{Name, HwType}
use Rattle.hw_model.specs.Types.HwType.{int, clock}
use Rattle.hw_model.specs.Kinds.{Kind, Instance}
use Rattle.hw_model.specs.Kinds.Variadic.{add, mul, and, or, xor}
use Rattle.hw_model.specs.Kinds.Shift.{shl, shrs}
use Rattle.hw_model.specs.Kinds.RegisterOp.{compreg}
use Rattle.hw_model.specs.Kinds.Reset.{sync_reset}
use Rattle.hw_model.specs.Kinds.Kind.{variadic, sub, shift, constant, instance, output, register}
use Rattle.hw_model.specs.Design.{Ref, Location, Port, Op, Module, Design}
use Rattle.hw_model.specs.Design.Ref.{port, result}
use Rattle.generator.specs.Draws.{state_after, number_drawn}

-- ---- what is drawn

-- the operations among which is drawn
abbrev pub drawn_kinds : List Kind
drawn_kinds = variadic add ∷ sub ∷ variadic mul ∷ variadic and ∷ variadic or ∷ variadic xor ∷ shift shl ∷ shift shrs ∷ []

-- the one that a number chooses by its rest modulo 8
abbrev pub chosen_kind : ℕ → Kind
chosen_kind n = slice_index_or drawn_kinds (n % 8) sub

-- ---- ports and locations

-- values are of 16 bits
abbrev pub word : HwType
word = int 16

-- all stands at one location, since no text has it
abbrev pub first_location : Location
first_location = record { line = 1; col = 1 }

-- a port that no other has the name of
abbrev pub port_named : Name → Bool → HwType → Port
port_named name is_output t = record { name = name; is_output = is_output; type = t; again = false }

-- in %clk : !seq.clock, in %rst : i1, in %a : i16, in %b : i16, out c : i16
abbrev pub generated_ports : List Port
generated_ports =
    port_named (codes "clk") false clock
    ∷ port_named (codes "rst") false (int 1)
    ∷ port_named (codes "a") false word
    ∷ port_named (codes "b") false word
    ∷ port_named (codes "c") true word
    ∷ []

-- the symbol of module k: @M and k in decimal
abbrev pub module_symbol : ℕ → Name
module_symbol k = codes "M" ++ decimal k

-- ---- operations

-- an operation without a name, with a result of 16 bits: %0 = KIND OPERANDS : i16
abbrev pub word_op : Kind → List Ref → Op
word_op kind operands = record {
  kind = kind;
  operands = operands;
  types = word ∷ [];
  results = record { type = word; again = false } ∷ [];
  named = 1;
  name = [];
  dictionary = [];
  bin = false;
  location = first_location;
}

-- %q = seq.compreg %2, %clk reset %rst, %k : i16
abbrev pub register_op : Op
register_op = record (word_op (register compreg sync_reset) (result 3 0 ∷ port 0 ∷ port 1 ∷ result 0 0 ∷ [])) { name = codes "q" }

-- "u" @Mj(clk, rst, a, b) -> (c)
abbrev pub instance_of_module : ℕ → Instance
instance_of_module j = record {
  name = codes "u";
  inner_symbol = None;
  symbol = module_symbol j;
  inputs = codes "clk" ∷ codes "rst" ∷ codes "a" ∷ codes "b" ∷ [];
  outputs = codes "c" ∷ [];
}

-- %u.c = hw.instance "u" @Mj(clk: %clk: !seq.clock, rst: %rst: i1, a: %q: i16, b: %2: i16) -> (c: i16)
abbrev pub instance_op : ℕ → Op
instance_op j = record (word_op (instance (instance_of_module j)) (port 0 ∷ port 1 ∷ result 4 0 ∷ result 3 0 ∷ [])) { types = clock ∷ int 1 ∷ word ∷ word ∷ word ∷ [] }

-- %3 = comb.xor %u.c, %1 : i16, where operation i gives %u.c
abbrev pub xor_op : ℕ → Op
xor_op i = word_op (variadic xor) (result i 0 ∷ result 2 0 ∷ [])

-- hw.output %3 : i16, where operation i gives %3
abbrev pub output_op : ℕ → Op
output_op i = record (word_op output (result i 0 ∷ [])) { results = []; named = 0 }

-- ---- modules

-- the operations that each module has, x being the state before its draws:
-- %k = hw.constant K : i16
-- %0 = comb.OP1 %a, %b : i16
-- %1 = comb.OP2 %0, %k : i16
-- %2 = comb.OP3 %1, %0 : i16
-- %q = seq.compreg %2, %clk reset %rst, %k : i16
abbrev pub first_ops : ℕ → List Op
first_ops x =
    word_op (constant (pos (number_drawn x 1))) []
    ∷ word_op (chosen_kind (number_drawn x 2)) (port 2 ∷ port 3 ∷ [])
    ∷ word_op (chosen_kind (number_drawn x 3)) (result 1 0 ∷ result 0 0 ∷ [])
    ∷ word_op (chosen_kind (number_drawn x 4)) (result 2 0 ∷ result 1 0 ∷ [])
    ∷ register_op
    ∷ []

-- those after them: module 0 has no instance, and %q stands for %u.c; each other one has one of half the number before its own, rounded down
abbrev pub last_ops : ℕ → List Op
last_ops zero = xor_op 4 ∷ output_op 5 ∷ []
last_ops (suc k) = instance_op (k / 2) ∷ xor_op 5 ∷ output_op 6 ∷ []

-- module k of n, x being the state before its draws
abbrev pub generated_module : ℕ → ℕ → ℕ → Module
generated_module n k x = record {
  symbol = module_symbol k;
  is_private = nat_lt (2 * k + 1) n;
  ports = generated_ports;
  dictionary = [];
  body = first_ops x ++ last_ops k;
  location = first_location;
}

-- the first k modules of n, each of which draws four numbers
abbrev pub first_modules : ℕ → ℕ → ℕ → Design
first_modules seed n zero = []
first_modules seed n (suc k) = first_modules seed n k ++ generated_module n k (state_after seed (4 * k)) ∷ []

-- the design of n modules
abbrev pub generated : ℕ → ℕ → Design
generated seed n = first_modules seed n n
