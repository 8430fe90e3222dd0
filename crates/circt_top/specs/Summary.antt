-- The summary of a design, and of what passes make of it.
use Rattle.std.specs.Prelude.{ℕ, List, ◌++◌, length, codes, decimal}
use Rattle.hw_model.specs.Design.{Design}
use Rattle.design_counts.specs.Counts.{operation_count, public_count, public_register_count}

-- the numbers of a design: its modules, their operations, and how many of them are public
pub record Counts : Type 0 where
  pub modules : ℕ
  pub operations : ℕ
  pub public_modules : ℕ

-- the numbers of a summary
pub record Summary : Type 0 where
  pub counts : Counts
  pub registers : ℕ
  pub verilog_bytes : ℕ

-- a line: what is counted, a blank, and how much there is
abbrev pub summary_line : List ℕ → ℕ → List ℕ
summary_line name number = name ++ (codes " " ++ (decimal number ++ codes "\n"))

-- the five lines of a summary
unfoldable pub summary_text : Summary → List ℕ
summary_text s =
    summary_line (codes "modules") s.counts.modules
    ++ (summary_line (codes "operations") s.counts.operations
    ++ (summary_line (codes "public modules") s.counts.public_modules
    ++ (summary_line (codes "registers") s.registers
    ++ summary_line (codes "verilog bytes") s.verilog_bytes)))

-- how many modules, operations and public modules a design has
abbrev pub counts_of : Design → Counts
counts_of d = record { modules = length d; operations = operation_count d; public_modules = public_count d }

-- those of a summary: of a design, of the registers of the public modules that passes make of it, and of the Verilog of these
abbrev pub summary_of : Design → Design → List ℕ → Summary
summary_of d made verilog = record { counts = counts_of d; registers = public_register_count made; verilog_bytes = length verilog }
