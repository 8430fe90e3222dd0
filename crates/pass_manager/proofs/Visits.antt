-- What a gate was told while passes work on a design.
use Rattle.std.proofs.Common.{◌≡◌, ℕ, ◌≤◌, List, map, length, drop, Option, refl, sym, subst, ◌∙◌}
use Rattle.std.proofs.lemmas.List.{drop_all, length-map}
use Rattle.hw_model.specs.Design.{Design}
use Rattle.ir_store.specs.Designs.{StoredModule, numbered_module}
use Rattle.pass_pipeline.specs.declared.pass.Pass.{Pass}
use Rattle.shared_schedule.specs.Visits.{History, VisitsEach}
use Rattle.pass_manager.specs.Visits.{AreToldOf}

-- a visit for each list of callees is one for each module
pub visits_all : (ms : List StoredModule) (count : ℕ) (before after : Option History) → count ≡ length ms → VisitsEach count before after → VisitsEach (length (map numbered_module ms)) before after
visits_all ms count before after many visits = subst (λ n. VisitsEach n before after) (many ∙ sym (length-map ms numbered_module)) visits

-- once no pass is left, what was told is what the passes tell
pub told_of : (passes items : List Pass) (d start end : Design) (before after : Option History) (index : ℕ) → items ≡ passes → start ≡ d → length items ≤ index
    → ((t : Option History) → AreToldOf (drop index items) end after t → AreToldOf items start before t) → AreToldOf passes d before after
told_of passes items d start end before after index same from done leads =
    subst (λ (z : List Pass × Design). AreToldOf z.0 z.1 before after) (λ k. (same k, from k)) (leads after (subst (λ z. AreToldOf z end after after) (sym (drop_all index items done)) refl))
