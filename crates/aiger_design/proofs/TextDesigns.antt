-- The design of a text: its steps and runs are the text's, and it holds a bit for each latch.
use Rattle.std.proofs.Common.{◌≡◌, ◌↔◌, ℕ, suc, ◌+◌, Bool, List, [], ◌∷◌, map, length, refl, sym, ap, ◌∙◌, one-add}
use Rattle.hw_model.specs.Flat.{state, depth}
use Rattle.hw_model.specs.Machine.{Step as ModuleStep, Run as ModuleRun}
use Rattle.hw_model.specs.Meaning.{machine}
use Rattle.hw_model.proofs.Content.{slots_width, registers_width}
use Rattle.aiger_laws.specs.declared.tree.Latch.{Latch}
use Rattle.aiger_laws.specs.Trees.{Aiger}
use Rattle.aiger_laws.specs.Steps.{Step, Run}
use Rattle.aiger_laws.specs.Grammar.{IsAiger}
use Rattle.aiger_design.specs.Positions.{constants, size}
use Rattle.aiger_design.specs.Built.{imported_symbol, imported_design, clocked}
use Rattle.aiger_design.proofs.DefinedUsers.{imported_defined}
use Rattle.aiger_design.proofs.UserPlaces.{latch_user}
use Rattle.aiger_design.proofs.HeldPlaces.{latch_slots}
use Rattle.aiger_design.proofs.NetHeights.{imported_heights}
use Rattle.aiger_design.proofs.TextSteps.{registers_are, same_steps, same_runs}

pub steps_same : (bytes : List ℕ) (t : Aiger) → IsAiger bytes t → (before x content given after : List Bool) → length content ≡ length t.latches
    → Step t x content given after ↔ ModuleStep (machine (imported_design t) imported_symbol) before (clocked t.latches x) content given after
steps_same bytes t says = same_steps t (imported_defined bytes t says) says.acyclic (imported_heights bytes t says)

pub runs_same : (bytes : List ℕ) (t : Aiger) → IsAiger bytes t → (content : List Bool) → length content ≡ length t.latches → (steps given : List (List Bool))
    → Run t content steps given ↔ ModuleRun (machine (imported_design t) imported_symbol) content (map (clocked t.latches) steps) given
runs_same bytes t says = same_runs t (imported_defined bytes t says) says.acyclic (imported_heights bytes t says)

-- ---- how much the module holds

slots_hold : (t : Aiger) (p s : ℕ) (ls : List Latch) → slots_width (latch_slots t p s ls) ≡ length ls
slots_hold t p s [] = refl
slots_hold t p s (l ∷ ls) = ap (λ n. 1 + n) (slots_hold t (p + size (latch_user s l)) (suc s) ls) ∙ one-add (length ls)

pub latches_held : (t : Aiger) → state (imported_design t) imported_symbol ≡ length t.latches
latches_held t =
    sym (registers_width (imported_design t) (depth (imported_design t)) [] imported_symbol)
    ∙ ap slots_width (registers_are t)
    ∙ slots_hold t (length (constants t)) 0 t.latches
