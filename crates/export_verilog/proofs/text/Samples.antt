-- The text of two instances of a register, computed.
use Rattle.std.proofs.Common.{◌≡◌, ℕ, List, [], ◌∷◌, ◌++◌, refl, codes, decimal}
use Rattle.hw_model.specs.Types.{Name}
use Rattle.std.proofs.Common.{pos, None}
use Rattle.hw_model.specs.Types.HwType.{int, clock}
use Rattle.hw_model.specs.Kinds.RegisterOp.{compreg_ce}
use Rattle.hw_model.specs.Kinds.Kind.{constant, instance, output, register}
use Rattle.hw_model.specs.Kinds.Reset.{sync_reset}
use Rattle.hw_model.specs.Design.{Ref, Port, Op, Module, Design}
use Rattle.hw_model.specs.Design.Ref.{port, result}
use Rattle.hw_model.proofs.Samples.{operation, in_port, out_port, module_of}
use Rattle.lowering_options.specs.declared.lowering.Lowering.TheVariants.{Plain}
use Rattle.export_verilog.specs.Layout.{verilog_text, tree_text, further_text, module_text, items_text, item_text, connections_text, connection_lines, connection_text, event_text, block_text, if_text}
use Rattle.export_verilog.specs.Layout.{load_text, ports_text, port_lines, port_text, range_text}
use Rattle.export_verilog.specs.Identifiers.{names}
use Rattle.export_verilog.specs.Exported.{symbol_names}
use Rattle.name_legalise.specs.Legal.{clean}
use Rattle.fresh_names.specs.Fresh.{free_name}
use Rattle.verilog_model.specs.Reserved.{reserved_words}
use Rattle.verilog_expr.specs.Expressions.{expr_to}
use Rattle.verilog_expr.specs.Spilling.{spilled, height}
use Rattle.verilog_model.specs.Digits.{hex}
use Rattle.verilog_model.specs.Text.{expr_text, exprs_text}

abbrev pub register_ports : List Port
register_ports = in_port (codes "clk") clock ∷ in_port (codes "rst") (int 1) ∷ in_port (codes "en") (int 1) ∷ in_port (codes "d") (int 8) ∷ []

abbrev pub register_module : Module
register_module =
    module_of (codes "Reg") (register_ports ++ out_port (codes "q") (int 8) ∷ [])
    (operation (constant (pos 9)) [] (int 8 ∷ []) (int 8 ∷ [])
    ∷ operation (register compreg_ce sync_reset) (port 3 ∷ port 0 ∷ port 2 ∷ port 1 ∷ result 0 0 ∷ []) (int 8 ∷ []) (int 8 ∷ [])
    ∷ operation output (result 1 0 ∷ []) (int 8 ∷ []) [] ∷ [])

abbrev instance_of : Name → List Ref → Op
instance_of name operands =
    operation (instance (record { name = name; inner_symbol = None; symbol = codes "Reg"; inputs = codes "clk" ∷ codes "rst" ∷ codes "en" ∷ codes "d" ∷ []; outputs = codes "q" ∷ [] }))
    operands (clock ∷ int 1 ∷ int 1 ∷ int 8 ∷ int 8 ∷ []) (int 8 ∷ [])

abbrev two_registers : Design
two_registers =
    register_module ∷ module_of (codes "Two") (register_ports ++ out_port (codes "a") (int 8) ∷ out_port (codes "b") (int 8) ∷ [])
    (instance_of (codes "u1") (port 0 ∷ port 1 ∷ port 2 ∷ port 3 ∷ [])
    ∷ instance_of (codes "u2") (port 0 ∷ port 1 ∷ port 2 ∷ result 0 0 ∷ [])
    ∷ operation output (result 0 0 ∷ result 1 0 ∷ []) (int 8 ∷ int 8 ∷ []) [] ∷ []) ∷ []

-- a line of these parts
abbrev pub line : List (List ℕ) → List ℕ → List ℕ
line [] bs = 10 ∷ bs
line (p ∷ ps) bs = p ++ line ps bs

abbrev pub lines : List (List (List ℕ)) → List ℕ → List ℕ
lines [] bs = bs
lines (l ∷ ls) bs = line l (lines ls bs)

abbrev register_lines : List (List (List ℕ))
register_lines =
    (codes "module Reg(" ∷ []) ∷
    (codes "  input wire clk," ∷ []) ∷
    (codes "  input wire rst," ∷ []) ∷
    (codes "  input wire en," ∷ []) ∷
    (codes "  input wire [" ∷ decimal 7 ∷ codes ":0] d," ∷ []) ∷
    (codes "  output wire [" ∷ decimal 7 ∷ codes ":0] q" ∷ []) ∷
    (codes ");" ∷ []) ∷
    (codes "  reg [" ∷ decimal 7 ∷ codes ":0] _reg;" ∷ []) ∷
    (codes "  always @(posedge clk)" ∷ []) ∷
    (codes "    if (rst)" ∷ []) ∷
    (codes "      _reg <= " ∷ decimal 8 ∷ codes "'h9;" ∷ []) ∷
    (codes "    else if (en)" ∷ []) ∷
    (codes "      _reg <= d;" ∷ []) ∷
    (codes "  assign q = _reg;" ∷ []) ∷
    (codes "endmodule" ∷ []) ∷ []

abbrev two_lines : List (List (List ℕ))
two_lines =
    [] ∷
    (codes "module Two(" ∷ []) ∷
    (codes "  input wire clk," ∷ []) ∷
    (codes "  input wire rst," ∷ []) ∷
    (codes "  input wire en," ∷ []) ∷
    (codes "  input wire [" ∷ decimal 7 ∷ codes ":0] d," ∷ []) ∷
    (codes "  output wire [" ∷ decimal 7 ∷ codes ":0] a," ∷ []) ∷
    (codes "  output wire [" ∷ decimal 7 ∷ codes ":0] b" ∷ []) ∷
    (codes ");" ∷ []) ∷
    (codes "  wire [" ∷ decimal 7 ∷ codes ":0] _u1_q;" ∷ []) ∷
    (codes "  wire [" ∷ decimal 7 ∷ codes ":0] _u2_q;" ∷ []) ∷
    (codes "  Reg u1 (" ∷ []) ∷
    (codes "    .clk(clk)," ∷ []) ∷
    (codes "    .rst(rst)," ∷ []) ∷
    (codes "    .en(en)," ∷ []) ∷
    (codes "    .d(d)," ∷ []) ∷
    (codes "    .q(_u1_q)" ∷ []) ∷
    (codes "  );" ∷ []) ∷
    (codes "  Reg u2 (" ∷ []) ∷
    (codes "    .clk(clk)," ∷ []) ∷
    (codes "    .rst(rst)," ∷ []) ∷
    (codes "    .en(en)," ∷ []) ∷
    (codes "    .d(_u1_q)," ∷ []) ∷
    (codes "    .q(_u2_q)" ∷ []) ∷
    (codes "  );" ∷ []) ∷
    (codes "  assign a = _u1_q;" ∷ []) ∷
    (codes "  assign b = _u2_q;" ∷ []) ∷
    (codes "endmodule" ∷ []) ∷ []

two_registers_text : verilog_text Plain two_registers ≡ lines register_lines (lines two_lines [])
unfolding verilog_text tree_text further_text module_text items_text item_text connections_text connection_lines connection_text event_text block_text if_text load_text ports_text port_lines port_text range_text names symbol_names clean free_name reserved_words expr_to spilled height hex expr_text exprs_text
two_registers_text = refl
