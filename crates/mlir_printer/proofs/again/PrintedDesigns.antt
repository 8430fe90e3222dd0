-- The text of a design that can be printed spells the design.
use Rattle.std.proofs.Common.{◌≡◌, ℕ, ◌≤◌, List, map, length, Ok}
use Rattle.hw_model.specs.Design.{Design, IsSameDesign}
use Rattle.mlir_reader.specs.Spelling.{Spells, SpellsUnlocated}
use Rattle.mlir_reader.specs.Reading.{text_limit, read}
use Rattle.mlir_printer.specs.Texts.{modules_shown, ir_text}
use Rattle.mlir_printer.specs.Spellable.{inherent_view}
use Rattle.printing_laws.specs.Printable.{Printable}
use Rattle.mlir_printer.proofs.lexed.LexedModules.{spellable_texts_are_spelled}
use Rattle.mlir_printer.proofs.again.DesignsAgain.{printable_designs_are_said}
use Rattle.mlir_printer.proofs.again.DesignsFit.{printable_designs_are_spellable}
use Rattle.mlir_printer.proofs.again.PositionsChosen.{unlocated_is_spelled}

pub printable_designs_are_spelled : (d : Design) → Printable d → SpellsUnlocated (ir_text d) d
unfolding ir_text
printable_designs_are_spelled d p =
    let bytes = spellable_texts_are_spelled (modules_shown d) (printable_designs_are_spellable d p) in
    (map inherent_view (modules_shown d), bytes.0, bytes.1, bytes.2, printable_designs_are_said d p)

-- it spells one with the positions of its tokens, and is read as that one, since what is spelled is read
pub printed_designs_are_read_again : ((source : List ℕ) (d : Design) → Spells source d → length source ≤ text_limit → read source ≡ Ok d)
    → (d : Design) → Printable d → (e : Design) × Spells (ir_text d) e × IsSameDesign d e × (length (ir_text d) ≤ text_limit → read (ir_text d) ≡ Ok e)
printed_designs_are_read_again spelled d p =
    let s = unlocated_is_spelled (ir_text d) d (printable_designs_are_spelled d p) in (s.0, s.1, s.2, λ short. spelled (ir_text d) s.0 s.1 short)
