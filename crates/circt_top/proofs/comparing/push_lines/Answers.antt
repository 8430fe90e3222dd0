use Rattle.std.proofs.Common.{◌≡◌, length, sym, ◌∙◌, ◌⊎◌, inl, inr}
use Rattle.circt_top.proofs.Compared.{no_lines}
use Rattle.circt_top.proofs.comparing.push_lines.Goals as goal

pub returns : goal.returns
returns c =
    let end : (length c.loop-name.name-iterator.a.rest.now ≡ 0) ⊎ (length c.loop-name.name-iterator.b.rest.now ≡ 0) =
    elim c.in-None.ensures.steps [ inl p ↦ inl p.1.0 | inr p ↦ inr p.1.0 ] in
    sym (no_lines c.loop-name.text c.loop-name.name-iterator.a.rest.now c.loop-name.name-iterator.b.rest.now end) ∙ c.loop-name.invariant
