-- The text of a register with an asynchronous reset, whose value has a wire of its own, computed.
use Rattle.std.proofs.Common.{◌≡◌, ℕ, List, [], ◌∷◌, refl, codes, decimal, pos}
use Rattle.hw_model.specs.Types.HwType.{int, clock}
use Rattle.hw_model.specs.Kinds.Kind.{constant, extract, output, async_firreg}
use Rattle.hw_model.specs.Design.{Design}
use Rattle.hw_model.specs.Design.Ref.{port, result}
use Rattle.hw_model.proofs.Samples.{operation, in_port, out_port, module_of}
use Rattle.lowering_options.specs.declared.lowering.Lowering.TheVariants.{Plain}
use Rattle.export_verilog.specs.Layout.{verilog_text, tree_text, further_text, module_text, items_text, item_text, connections_text, connection_lines, connection_text, event_text, block_text, if_text}
use Rattle.export_verilog.specs.Layout.{load_text, ports_text, port_lines, port_text, range_text}
use Rattle.export_verilog.specs.Identifiers.{names}
use Rattle.export_verilog.specs.Exported.{symbol_names}
use Rattle.name_legalise.specs.Legal.{clean}
use Rattle.fresh_names.specs.Fresh.{free_name}
use Rattle.verilog_model.specs.Reserved.{reserved_words}
use Rattle.verilog_expr.specs.Expressions.{expr_to}
use Rattle.verilog_expr.specs.Spilling.{spilled, height}
use Rattle.verilog_model.specs.Digits.{hex}
use Rattle.verilog_model.specs.Text.{expr_text, exprs_text}
use Rattle.export_verilog.proofs.text.Samples.{lines}

abbrev reset_register : Design
reset_register =
    module_of (codes "One") (in_port (codes "clk") clock ∷ in_port (codes "rst") (int 1) ∷ in_port (codes "d") (int 8) ∷ out_port (codes "q") (int 8) ∷ out_port (codes "e") (int 4) ∷ [])
    (operation (constant (pos 9)) [] (int 8 ∷ []) (int 8 ∷ [])
    ∷ operation (extract 0) (result 0 0 ∷ []) (int 8 ∷ int 4 ∷ []) (int 4 ∷ [])
    ∷ operation async_firreg (port 2 ∷ port 0 ∷ port 1 ∷ result 0 0 ∷ []) (int 8 ∷ []) (int 8 ∷ [])
    ∷ operation output (result 2 0 ∷ result 1 0 ∷ []) (int 8 ∷ int 4 ∷ []) [] ∷ []) ∷ []

abbrev reset_lines : List (List (List ℕ))
reset_lines =
    (codes "module One(" ∷ []) ∷
    (codes "  input wire clk," ∷ []) ∷
    (codes "  input wire rst," ∷ []) ∷
    (codes "  input wire [" ∷ decimal 7 ∷ codes ":0] d," ∷ []) ∷
    (codes "  output wire [" ∷ decimal 7 ∷ codes ":0] q," ∷ []) ∷
    (codes "  output wire [" ∷ decimal 3 ∷ codes ":0] e" ∷ []) ∷
    (codes ");" ∷ []) ∷
    (codes "  wire [" ∷ decimal 7 ∷ codes ":0] _GEN;" ∷ []) ∷
    (codes "  reg [" ∷ decimal 7 ∷ codes ":0] _reg;" ∷ []) ∷
    (codes "  assign _GEN = " ∷ decimal 8 ∷ codes "'h9;" ∷ []) ∷
    (codes "  always @(posedge clk or posedge rst)" ∷ []) ∷
    (codes "    if (rst)" ∷ []) ∷
    (codes "      _reg <= " ∷ decimal 8 ∷ codes "'h9;" ∷ []) ∷
    (codes "    else" ∷ []) ∷
    (codes "      _reg <= d;" ∷ []) ∷
    (codes "  assign q = _reg;" ∷ []) ∷
    (codes "  assign e = _GEN[" ∷ decimal 3 ∷ codes ":" ∷ decimal 0 ∷ codes "];" ∷ []) ∷
    (codes "endmodule" ∷ []) ∷ []

reset_register_text : verilog_text Plain reset_register ≡ lines reset_lines []
unfolding verilog_text tree_text further_text module_text items_text item_text connections_text connection_lines connection_text event_text block_text if_text load_text ports_text port_lines port_text range_text names symbol_names clean free_name reserved_words expr_to spilled height hex expr_text exprs_text
reset_register_text = refl
