use Rattle.std.proofs.Common.{◌||◌, ap, ap₂, ◌∙◌}
use Rattle.std.specs.List.{list_any}
use Rattle.aiger_laws.specs.declared.tree.Latch.{Latch}
use Rattle.aiger_laws.specs.declared.tree.AndGate.{AndGate}
use Rattle.aiger_reader.specs.Kept.{tree_of}
use Rattle.aiger_text.specs.Places.{wants}
use Rattle.aiger_text.proofs.UsedConstants.{uses_by_lists}
use Rattle.aiger_text.proofs.places.is_used.Goals as goal

pub returns : goal.returns
returns c =
    c.one_of_three.ensures
    ∙ ap₂ (λ a b. a || b) (c.any_latch.ensures ∙ ap (list_any (λ (l : Latch). wants c.args.constant l.next)) c.deref.ensures.value)
    (ap₂ (λ a b. a || b) (c.any_gate.ensures ∙ ap (list_any (λ (g : AndGate). wants c.args.constant g.left || wants c.args.constant g.right)) c.deref-2.ensures.value)
    (c.any_output.ensures ∙ ap (list_any (wants c.args.constant)) c.deref-3.ensures.value))
    ∙ uses_by_lists (wants c.args.constant) (tree_of c.args.text.now)
