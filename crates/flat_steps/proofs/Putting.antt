-- The word of an operation that is put into a table.
use Rattle.std.proofs.Common.{◌≡◌, sym, ap, ◌∙◌, ℕ, Bool, false, cond, ◌||◌, List, map, Option, Some}
use Rattle.bits_core.specs.Word.{Word}
use Rattle.hw_model.specs.Design.{Op, is_register, is_output_op}
use Rattle.flat_steps.specs.Tables.{put, word_in, made, with_op}

-- the word of an operation that is no register and no output
pub with_made : (ports results : List Word) (i : ℕ) (y : Option Op) (o : Op) → y ≡ Some o → (is_register o || is_output_op o) ≡ false
    → put results i (made o (map (word_in ports results) o.operands)) ≡ with_op ports results i y
with_made ports results i y o is free =
    sym (ap (with_op ports results i) is ∙ ap (λ (t : Bool). cond t results (put results i (made o (map (word_in ports results) o.operands)))) free)
