-- What goes out where there is no memory for all of it.
use Rattle.std.proofs.Common.{◌≡◌, ℕ, ◌⊎◌, inl, inr, List, Result, ◌∙◌, subst}
use Rattle.hw_model.specs.Types.{Name}
use Rattle.io_edge.specs.declared.file_access.FileFail.{FileFail}
use Rattle.command_line.specs.Line.{Command}
use Rattle.circt_top.specs.Inputs.{Told, HasRead, unread_end}
use Rattle.circt_top.specs.Ends.{Unwritten}
use Rattle.circt_top.specs.Answer.{StarvesWith, Starves}
use Rattle.circt_top.specs.declared.inputs.Unread.{Unread}
use Rattle.circt_top.specs.declared.inputs.Unread.TheVariants.{Fault, NoMemory}

-- over the reads of the inputs
pub starved_whole : {F : Type 0} (reads : F → Name → ℕ → Result (List ℕ) FileFail → F → Type 0) (writes : F → Name → List ℕ → Result (Unit {0}) FileFail → F → Type 0) (files : F → Told) (c : Command)
    (before opened after : F) (sources seen : List (List ℕ)) → HasRead reads files before c.inputs sources opened → files opened ≡ files before → seen ≡ sources
    → (files after ≡ files opened) ⊎ StarvesWith writes files c seen opened after → (files after ≡ files before) ⊎ Starves reads writes files c before after
starved_whole reads writes files c before opened after sources seen read unchanged viewed (inl same) = inl (same ∙ unchanged)
starved_whole reads writes files c before opened after sources seen read unchanged viewed (inr starved) =
    inr (opened, sources, read, subst (λ s. StarvesWith writes files c s opened after) viewed starved)

-- where an input was not read
pub unread_unwritten : (P Q : Type 0) (unread : Unread) → P → Q → Unwritten (unread_end unread) P Q
unread_unwritten P Q (Fault name) p q = p
unread_unwritten P Q NoMemory p q = q
