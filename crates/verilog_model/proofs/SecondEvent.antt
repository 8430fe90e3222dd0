-- A register of eight bits with an asynchronous reset: its text, tree and steps, computed, and those of one whose reset is
-- asked at the rise of its clock.
use Rattle.std.proofs.Common.{◌≡◌, ℕ, zero, suc, Bool, true, false, List, [], ◌∷◌, None, refl, codes}
use Rattle.bits_core.specs.Word.{Word, bits}
use Rattle.verilog_model.specs.Tree.{Load, Block, Tree}
use Rattle.verilog_model.specs.Tree.Expr.{name, literal}
use Rattle.verilog_model.specs.Tree.Block.{if_else, async_reset}
use Rattle.verilog_model.specs.Tree.Item.{reg, assign, always}
use Rattle.verilog_model.specs.Grammar.{tree_fits}
use Rattle.verilog_model.specs.Checks.{tree_checks}
use Rattle.verilog_model.specs.Reserved.{reserved_words}
use Rattle.verilog_model.specs.Hierarchy.{VNet, drive, vmodule_at, width_at, vregisters}
use Rattle.verilog_model.specs.Meaning.{drive_value, tree_outputs, next_vcontent, risen_vcontent}
use Rattle.verilog_model.specs.Behaviour.{IsVerilog}
use Rattle.verilog_model.proofs.TwoRegisters.{high, input_port, output_port}

-- a register `r` with a block
abbrev register_with : Block → Tree
register_with b = record {
  name = codes "T";
  ports = input_port None (codes "clk") ∷ input_port None (codes "rst") ∷ input_port high (codes "d") ∷ output_port (codes "q") ∷ [];
  items = reg high (codes "r") ∷ always (codes "clk") b ∷ assign (codes "q") (name (codes "r")) ∷ [];
} ∷ []

abbrev nine : Load
nine = record { target = codes "r"; value = literal (codes "8") false (codes "9") }

abbrev data_load : Load
data_load = record { target = codes "r"; value = name (codes "d") }

abbrev reset_at_once : Tree
reset_at_once = register_with (async_reset (codes "rst") nine data_load)

abbrev reset_at_rise : Tree
reset_at_rise = register_with (if_else (name (codes "rst")) nine data_load)

reset_at_once_is_verilog : IsVerilog (codes "module T(input wire clk, input wire rst, input wire [7:0] d, output wire [7:0] q); reg [7:0] r; always @(posedge clk or posedge rst) if (rst) r <= 8'h9; else r <= d; assign q = r; endmodule") reset_at_once
unfolding reserved_words
reset_at_once_is_verilog = record { spelled = refl; fits = refl; checks = refl }

-- an asynchronous reset loads a literal, and is an input
no_literal_does_not_fit : tree_fits (register_with (async_reset (codes "rst") data_load data_load)) ≡ false
no_literal_does_not_fit = refl

no_input_does_not_check : tree_checks (register_with (async_reset (codes "q") nine data_load)) ≡ false
unfolding reserved_words
no_input_does_not_check = refl

-- ---- four steps

-- the map of the nets after k rounds from none
abbrev rounds : ℕ → Tree → Word → Word → VNet → Word
rounds zero t inputs content v = []
rounds (suc k) t inputs content v = drive_value t (codes "T") inputs content (rounds k t inputs content) (width_at (vmodule_at t (codes "T") v.path) v.name) (drive t (codes "T") v)

-- the content after the first phase of a step, and after the step
abbrev first_phase : Tree → Word → Word → Word → Word
first_phase t before s content = risen_vcontent (vregisters t (codes "T")) (rounds 2 t before content) (rounds 2 t s content) content

abbrev content_after : Tree → Word → Word → Word
content_after t s content = next_vcontent (vregisters t (codes "T")) (rounds 2 t s content) content

-- the outputs of each step after one with the inputs `before`
abbrev outputs_after : Tree → Word → Word → List Word → List Word
outputs_after t before content [] = []
outputs_after t before content (s ∷ steps) =
    tree_outputs t (codes "T") (rounds 2 t s (first_phase t before s content)) ∷ outputs_after t s (content_after t s (first_phase t before s content)) steps

-- the clock's rise, the reset, and `d`
abbrev inputs : Bool → Bool → ℕ → Word
inputs rise rst d = rise ∷ rst ∷ bits 8 d

abbrev steps : List Word
steps = inputs false true 17 ∷ inputs true true 34 ∷ inputs true false 51 ∷ inputs false false 68 ∷ []

reset_at_once_steps : outputs_after reset_at_once [] (bits 8 5) steps ≡ bits 8 9 ∷ bits 8 9 ∷ bits 8 9 ∷ bits 8 51 ∷ []
reset_at_once_steps = refl

reset_at_rise_steps : outputs_after reset_at_rise [] (bits 8 5) steps ≡ bits 8 5 ∷ bits 8 5 ∷ bits 8 9 ∷ bits 8 51 ∷ []
reset_at_rise_steps = refl
