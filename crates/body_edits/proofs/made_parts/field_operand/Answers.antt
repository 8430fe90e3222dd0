use Rattle.std.proofs.Common.{◌≡◌, length, ◌∙◌, ◌⊎◌, inl, inr}
use Rattle.body_edits.proofs.MadeParts.{field_none}
use Rattle.body_edits.proofs.made_parts.field_operand.Goals as goal

pub returns : goal.returns
returns c = λ f.
    let end : (length c.loop-field.field-iterator.a.rest.now ≡ 0) ⊎ (length c.loop-field.field-iterator.b.rest.now ≡ 0) =
    elim c.in-None.ensures.steps [ inl p ↦ inl p.1.0 | inr p ↦ inr p.1.0 ] in
    field_none f c.args.name.now c.loop-field.field-iterator.a.rest.now c.loop-field.field-iterator.b.rest.now end ∙ c.loop-field.invariant f
