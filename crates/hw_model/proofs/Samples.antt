-- Small designs, and what every run of them gives.
use Rattle.std.proofs.Common.{◌≡◌, ℕ, true, false, ◌-◌, ◌^◌, pos, negsuc, List, [], ◌∷◌, ◌++◌, map, length, None, refl, subst}
use Rattle.std.specs.Prelude.{codes}
use Rattle.bits_core.specs.Word.{Word, bits}
use Rattle.hw_model.specs.Types.{Name, HwType}
use Rattle.hw_model.specs.Types.HwType.{int, clock, array, struct}
use Rattle.hw_model.specs.Types.FieldTypes.{no_fields, field}
use Rattle.hw_model.specs.Kinds.{Kind}
use Rattle.hw_model.specs.Kinds.Reset.{sync_reset}
use Rattle.hw_model.specs.Kinds.Variadic.{add, xor}
use Rattle.hw_model.specs.Kinds.Division.{divs}
use Rattle.hw_model.specs.Kinds.Shift.{shl, shru, shrs}
use Rattle.hw_model.specs.Kinds.ArrayOp.{array_get}
use Rattle.hw_model.specs.Kinds.RegisterOp.{compreg_ce, firreg}
use Rattle.hw_model.specs.Kinds.Kind.{variadic, division, shift, constant, on_array, bitcast, instance, output, register, async_firreg}
use Rattle.hw_model.specs.Design.{Ref, Port, Op, Module, Design, no_location}
use Rattle.hw_model.specs.Design.Ref.{port, result}
use Rattle.hw_model.specs.Machine.{Run}
use Rattle.wiring.proofs.Heights.{IsAcyclic-heights}
use Rattle.hw_model.specs.Hierarchy.{calls, HasNoRecursion}
use Rattle.hw_model.specs.Meaning.{needs, HasHeights, machine}
use Rattle.hw_model.proofs.Depths.{heights_computed}
use Rattle.hw_model.proofs.Finite.{all_nets, nets_within, calls_within, settles_with_heights}
use Rattle.hw_model.proofs.Machines.{run_exists}
use Rattle.hw_model.proofs.Evaluation.{run_value}

abbrev pub operation : Kind → List Ref → List HwType → List HwType → Op
operation kind operands types results = record {
  kind = kind;
  operands = operands;
  types = types;
  results = map (λ (t : HwType). record { type = t; again = false }) results;
  named = length results;
  name = [];
  dictionary = [];
  bin = false;
  location = no_location;
}

abbrev pub in_port : Name → HwType → Port
in_port name t = record { name = name; is_output = false; type = t; again = false }

abbrev pub out_port : Name → HwType → Port
out_port name t = record { name = name; is_output = true; type = t; again = false }

abbrev pub module_of : Name → List Port → List Op → Module
module_of symbol ports body = record { symbol = symbol; is_private = false; ports = ports; dictionary = []; body = body; location = no_location }

abbrev pub byte : ℕ → Word
byte n = bits 8 n

-- a module of one symbol with these ports and operations
abbrev only_module : List Port → List Op → Design
only_module ports body = module_of (codes "M") ports body ∷ []

-- ---- two registers, one after the other, with enable and reset

abbrev register_ports : List Port
register_ports = in_port (codes "clk") clock ∷ in_port (codes "rst") (int 1) ∷ in_port (codes "en") (int 1) ∷ in_port (codes "d") (int 8) ∷ []

abbrev register_of : Ref → Ref → Op
register_of next nine = operation (register compreg_ce sync_reset) (next ∷ port 0 ∷ port 2 ∷ port 1 ∷ nine ∷ []) (int 8 ∷ []) (int 8 ∷ [])

abbrev nine : Op
nine = operation (constant (pos 9)) [] (int 8 ∷ []) (int 8 ∷ [])

abbrev register_module : Module
register_module =
    module_of (codes "Reg") (register_ports ++ out_port (codes "q") (int 8) ∷ [])
    (nine ∷ register_of (port 3) (result 0 0) ∷ operation output (result 1 0 ∷ []) (int 8 ∷ []) [] ∷ [])

abbrev instance_of : Name → List Ref → Op
instance_of name operands =
    operation (instance (record { name = name; inner_symbol = None; symbol = codes "Reg"; inputs = codes "clk" ∷ codes "rst" ∷ codes "en" ∷ codes "d" ∷ []; outputs = codes "q" ∷ [] }))
    operands (clock ∷ int 1 ∷ int 1 ∷ int 8 ∷ int 8 ∷ []) (int 8 ∷ [])

abbrev two_ports : List Port
two_ports = register_ports ++ out_port (codes "a") (int 8) ∷ out_port (codes "b") (int 8) ∷ []

abbrev two_registers : Design
two_registers =
    register_module ∷ module_of (codes "Two") two_ports
    (instance_of (codes "u1") (port 0 ∷ port 1 ∷ port 2 ∷ port 3 ∷ [])
    ∷ instance_of (codes "u2") (port 0 ∷ port 1 ∷ port 2 ∷ result 0 0 ∷ [])
    ∷ operation output (result 0 0 ∷ result 1 0 ∷ []) (int 8 ∷ int 8 ∷ []) [] ∷ []) ∷ []

-- the same with the instances' bodies in their locations
abbrev flattened : Design
flattened =
    module_of (codes "Two") two_ports
    (nine ∷ register_of (port 3) (result 0 0) ∷ nine ∷ register_of (result 1 0) (result 2 0)
    ∷ operation output (result 1 0 ∷ result 3 0 ∷ []) (int 8 ∷ int 8 ∷ []) [] ∷ []) ∷ []

abbrev step : ℕ → ℕ → ℕ → ℕ → Word
step rise rst en d = bits 1 rise ++ bits 1 rst ++ bits 1 en ++ byte d

abbrev four_steps : List Word
four_steps = step 1 0 1 0x11 ∷ step 1 0 0 0x22 ∷ step 1 1 0 0x33 ∷ step 0 1 1 0x44 ∷ []

abbrev four_outputs : List Word
four_outputs = (byte 0x05 ++ byte 0x06) ∷ (byte 0x11 ++ byte 0x05) ∷ (byte 0x11 ++ byte 0x05) ∷ (byte 0x09 ++ byte 0x09) ∷ []

two_registers_run : (outs : List Word) → Run (machine two_registers (codes "Two")) (byte 0x05 ++ byte 0x06) four_steps outs → outs ≡ four_outputs
two_registers_run outs run = run_value two_registers (codes "Two") 6 refl (byte 0x05 ++ byte 0x06) four_steps outs run

flattened_run : (outs : List Word) → Run (machine flattened (codes "Two")) (byte 0x05 ++ byte 0x06) four_steps outs → outs ≡ four_outputs
flattened_run outs run = run_value flattened (codes "Two") 6 refl (byte 0x05 ++ byte 0x06) four_steps outs run

-- where no clock rises a register keeps what it holds
no_rise_run : (outs : List Word) → Run (machine two_registers (codes "Two")) (byte 0x05 ++ byte 0x06) (step 0 1 1 0x44 ∷ step 0 0 0 0 ∷ []) outs
    → outs ≡ (byte 0x05 ++ byte 0x06) ∷ (byte 0x05 ++ byte 0x06) ∷ []
no_rise_run outs run = run_value two_registers (codes "Two") 6 refl (byte 0x05 ++ byte 0x06) (step 0 1 1 0x44 ∷ step 0 0 0 0 ∷ []) outs run

-- there is such a run: the nets have heights
two_registers_acyclic : HasNoRecursion two_registers
two_registers_acyclic =
    IsAcyclic-heights (calls two_registers)
    (heights_computed (calls two_registers) 1 (map (λ (m : Module). m.symbol) two_registers) (calls_within two_registers) refl)

two_registers_heights : HasHeights two_registers (codes "Two")
two_registers_heights =
    heights_computed (needs two_registers (codes "Two")) 5 (all_nets two_registers (codes "Two"))
    (nets_within two_registers (codes "Two") two_registers_acyclic) refl

two_registers_runs : Run (machine two_registers (codes "Two")) (byte 0x05 ++ byte 0x06) four_steps four_outputs
two_registers_runs =
    let one = run_exists (machine two_registers (codes "Two")) (settles_with_heights two_registers (codes "Two") two_registers_heights) (byte 0x05 ++ byte 0x06) four_steps in
    subst (Run (machine two_registers (codes "Two")) (byte 0x05 ++ byte 0x06) four_steps) (two_registers_run one.0 one.1) one.1

two_registers_size : (machine two_registers (codes "Two")).size ≡ 16
two_registers_size = refl

-- ---- a register that is reset without its clock, and one that is reset at its clock

-- a register of this kind with the inputs clk, rst and d and the reset value 9
abbrev reset_register : Kind → Design
reset_register kind = only_module (in_port (codes "clk") clock ∷ in_port (codes "rst") (int 1) ∷ in_port (codes "d") (int 8) ∷ out_port (codes "q") (int 8) ∷ [])
    (nine ∷ operation kind (port 2 ∷ port 0 ∷ port 1 ∷ result 0 0 ∷ []) (int 8 ∷ []) (int 8 ∷ [])
    ∷ operation output (result 1 0 ∷ []) (int 8 ∷ []) [] ∷ [])

abbrev reset_step : ℕ → ℕ → ℕ → Word
reset_step rise rst d = bits 1 rise ++ bits 1 rst ++ byte d

abbrev reset_steps : List Word
reset_steps = reset_step 0 1 0x11 ∷ reset_step 1 1 0x22 ∷ reset_step 1 0 0x33 ∷ reset_step 0 0 0x44 ∷ []

asynchronous_run : (outs : List Word) → Run (machine (reset_register async_firreg) (codes "M")) (byte 0x05) reset_steps outs
    → outs ≡ byte 0x09 ∷ byte 0x09 ∷ byte 0x09 ∷ byte 0x33 ∷ []
asynchronous_run outs run = run_value (reset_register async_firreg) (codes "M") 4 refl (byte 0x05) reset_steps outs run

synchronous_run : (outs : List Word) → Run (machine (reset_register (register firreg sync_reset)) (codes "M")) (byte 0x05) reset_steps outs
    → outs ≡ byte 0x05 ∷ byte 0x05 ∷ byte 0x09 ∷ byte 0x33 ∷ []
synchronous_run outs run = run_value (reset_register (register firreg sync_reset)) (codes "M") 4 refl (byte 0x05) reset_steps outs run

-- ---- parts of a word as an array's element and as a struct's fields

abbrev pair : HwType
pair = struct (field (codes "p") (int 8) (field (codes "q") (int 8) no_fields))

abbrev bitcasts : Design
bitcasts = only_module (in_port (codes "x") (int 16) ∷ out_port (codes "h") (int 8) ∷ out_port (codes "s") pair ∷ [])
    (operation (constant (negsuc 0)) [] (int 1 ∷ []) (int 1 ∷ [])
    ∷ operation bitcast (port 0 ∷ []) (int 16 ∷ array 2 (int 8) ∷ []) (array 2 (int 8) ∷ [])
    ∷ operation (on_array array_get) (result 1 0 ∷ result 0 0 ∷ []) (array 2 (int 8) ∷ int 1 ∷ []) (int 8 ∷ [])
    ∷ operation bitcast (port 0 ∷ []) (int 16 ∷ pair ∷ []) (pair ∷ [])
    ∷ operation output (result 2 0 ∷ result 3 0 ∷ []) (int 8 ∷ pair ∷ []) [] ∷ [])

bitcast_run : (outs : List Word) → Run (machine bitcasts (codes "M")) [] (bits 16 0xabcd ∷ []) outs → outs ≡ (byte 0xab ++ byte 0xab ++ byte 0xcd) ∷ []
bitcast_run outs run = run_value bitcasts (codes "M") 5 refl [] (bits 16 0xabcd ∷ []) outs run

-- ---- an element of three, and none past them

abbrev pick : Design
pick = only_module (in_port (codes "a") (array 3 (int 8)) ∷ in_port (codes "i") (int 2) ∷ out_port (codes "c") (int 8) ∷ [])
    (operation (on_array array_get) (port 0 ∷ port 1 ∷ []) (array 3 (int 8) ∷ int 2 ∷ []) (int 8 ∷ []) ∷ operation output (result 0 0 ∷ []) (int 8 ∷ []) [] ∷ [])

abbrev elements : Word
elements = byte 0x30 ++ byte 0x20 ++ byte 0x10

pick_run : (outs : List Word) → Run (machine pick (codes "M")) [] ((elements ++ bits 2 0) ∷ (elements ++ bits 2 2) ∷ (elements ++ bits 2 3) ∷ []) outs
    → outs ≡ byte 0x10 ∷ byte 0x30 ∷ byte 0 ∷ []
pick_run outs run = run_value pick (codes "M") 4 refl [] ((elements ++ bits 2 0) ∷ (elements ++ bits 2 2) ∷ (elements ++ bits 2 3) ∷ []) outs run

-- ---- a signed quotient, shifted: 7 / -3 is -2

abbrev bytes : List HwType
bytes = int 8 ∷ []

abbrev signed_division : Design
signed_division = only_module (in_port (codes "a") (int 8) ∷ in_port (codes "b") (int 8) ∷ out_port (codes "c") (int 8) ∷ [])
    (operation (constant (negsuc 2)) [] bytes bytes ∷ operation (division divs) (port 0 ∷ result 0 0 ∷ []) bytes bytes
    ∷ operation (shift shru) (result 1 0 ∷ port 1 ∷ []) bytes bytes ∷ operation output (result 2 0 ∷ []) bytes [] ∷ [])

signed_division_run : (outs : List Word) → Run (machine signed_division (codes "M")) [] ((byte 7 ++ byte 1) ∷ []) outs → outs ≡ byte 0x7f ∷ []
signed_division_run outs run = run_value signed_division (codes "M") 5 refl [] ((byte 7 ++ byte 1) ∷ []) outs run

-- ---- a shift that keeps the sign

abbrev arithmetic_shift : Design
arithmetic_shift = only_module (in_port (codes "a") (int 8) ∷ in_port (codes "b") (int 8) ∷ in_port (codes "c") (int 8) ∷ out_port (codes "o") (int 8) ∷ [])
    (operation (shift shrs) (port 0 ∷ port 1 ∷ []) bytes bytes ∷ operation (variadic xor) (result 0 0 ∷ port 2 ∷ []) bytes bytes ∷ operation output (result 1 0 ∷ []) bytes [] ∷ [])

arithmetic_shift_run : (outs : List Word) → Run (machine arithmetic_shift (codes "M")) [] ((byte 0x80 ++ byte 1 ++ byte 0) ∷ []) outs → outs ≡ byte 0xc0 ∷ []
arithmetic_shift_run outs run = run_value arithmetic_shift (codes "M") 5 refl [] ((byte 0x80 ++ byte 1 ++ byte 0) ∷ []) outs run

-- ---- the widest integers

abbrev widest : Design
widest = only_module (in_port (codes "a") (int 128) ∷ in_port (codes "b") (int 128) ∷ out_port (codes "s") (int 128) ∷ out_port (codes "t") (int 128) ∷ [])
    (operation (variadic add) (port 0 ∷ port 1 ∷ []) (int 128 ∷ []) (int 128 ∷ []) ∷ operation (constant (pos 200)) [] (int 128 ∷ []) (int 128 ∷ [])
    ∷ operation (shift shl) (port 0 ∷ result 1 0 ∷ []) (int 128 ∷ []) (int 128 ∷ []) ∷ operation output (result 0 0 ∷ result 2 0 ∷ []) (int 128 ∷ int 128 ∷ []) [] ∷ [])

widest_run : (outs : List Word) → Run (machine widest (codes "M")) [] ((bits 128 (2 ^ 128 - 1) ++ bits 128 1) ∷ []) outs → outs ≡ (bits 128 0 ++ bits 128 0) ∷ []
widest_run outs run = run_value widest (codes "M") 5 refl [] ((bits 128 (2 ^ 128 - 1) ++ bits 128 1) ∷ []) outs run
