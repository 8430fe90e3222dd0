-- The texts of the modules of a design by themselves.
use Rattle.std.specs.Prelude.{◌≡◌, ℕ, List, [], length, Some, slice_get}
use Rattle.hw_model.specs.Design.{Module, Design}
use Rattle.lowering_options.specs.declared.lowering.Lowering.{Lowering}
use Rattle.export_verilog.specs.Exported.{vmodule}
use Rattle.export_verilog.specs.Layout.{Text, module_text}

-- a text is that of the module of a number, with nothing after it
abbrev pub IsTextOf : Lowering → Design → ℕ → Text → Type 0
IsTextOf l d number text = (m : Module) → slice_get d number ≡ Some m → text ≡ module_text (vmodule l d m) []

-- texts are those of all modules in order
pub record AreTextsOf (l : Lowering) (d : Design) (texts : List Text) : Type 0 where
  pub count : length texts ≡ length d
  pub each : (i : ℕ) (text : Text) → slice_get texts i ≡ Some text → IsTextOf l d i text
