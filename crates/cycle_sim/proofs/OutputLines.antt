-- The lines of a run are those of the words of its outputs.
use Rattle.std.proofs.Common.{◌≡◌, refl, sym, ap, ap₂, ◌∙◌, ℕ, List, [], ◌∷◌, map, length}
use Rattle.std.proofs.Math.Seq.{take-append_seam, drop-append_seam}
use Rattle.bits_core.specs.Word.{Word}
use Rattle.hw_model.specs.Value.{concat_words}
use Rattle.miter_blast.specs.Cuts.{cut}
use Rattle.step_file.proofs.RowWidths.{AreWide}
use Rattle.cycle_sim.specs.RunLines.{words_lines, run_lines}

-- words that were joined are cut again
cut_joined : (ws : List Word) → cut (map length ws) (concat_words ws) ≡ ws
cut_joined [] = refl
cut_joined (w ∷ ws) =
    ap₂ (λ (x : Word) (xs : List Word). x ∷ xs) (take-append_seam w (concat_words ws))
    (ap (cut (map length ws)) (drop-append_seam w (concat_words ws)) ∙ cut_joined ws)

all_cut : (widths : List ℕ) (outs : List (List Word)) → AreWide widths outs → map (cut widths) (map concat_words outs) ≡ outs
all_cut widths [] wide = refl
all_cut widths (ws ∷ outs) wide =
    ap₂ (λ (x : List Word) (xs : List (List Word)). x ∷ xs) (ap (λ (ns : List ℕ). cut ns (concat_words ws)) (sym wide.0) ∙ cut_joined ws)
    (all_cut widths outs wide.1)

pub lines_are : (widths : List ℕ) (outs : List (List Word)) → AreWide widths outs → words_lines outs ≡ run_lines widths (map concat_words outs)
lines_are widths outs wide = ap words_lines (sym (all_cut widths outs wide))
