use Rattle.std.proofs.Common.{◌∷◌, ◌++◌, [], map, refl, ap, ap₂, ◌∙◌}
use Rattle.hw_model.specs.TypeViews.{type_of}
use Rattle.hw_model.specs.Value.{nth_type}
use Rattle.lowering_rules.proofs.Offsets.{position_index}
use Rattle.lowering_rules.proofs.bitcast_rules.extract_types.Goals as goal

pub returns : goal.returns
returns c =
    let h = c.in-Some.ensures.lookup in
    let one = c.in_ok-try_clone.field-0 in
    let two = c.in_ok-try_clone-2.field-0 in
    ap (map type_of) (c.in_ok-push-2.ensures.ok ∙ ap (λ xs. xs ++ two ∷ []) (c.in_ok-push.ensures.ok ∙ ap (λ xs. xs ++ one ∷ []) c.in_ok-written.ensures))
    ∙ ap₂ (λ u t. u ∷ t ∷ [])
    (c.in_ok-try_clone.ensures ∙ position_index nth_type type_of (λ y ys. refl) (λ y ys n. refl) c.args.types.now c.args.piece.value c.in-Some.from.now h.3.0 h.1)
    c.in_ok-try_clone-2.ensures
