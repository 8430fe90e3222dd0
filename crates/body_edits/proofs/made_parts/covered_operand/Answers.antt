use Rattle.std.proofs.Common.{rules, ◌≡◌, ◌-◌, ◌∷◌, length, sym, ◌∙◌, ◌⊎◌, inl, inr, arith}
use Rattle.body_edits.proofs.MadeParts.{left_over, covered_here, covered_later, covered_none}
use Rattle.body_edits.proofs.made_parts.covered_operand.Goals.{else-left-from-via-then-left-from+else-own-width, else-left-from-via-else-left-from}
use Rattle.body_edits.proofs.made_parts.covered_operand.Goals as goal

pub returns-then-own-width : goal.returns-then-own-width
returns-then-own-width c = λ f.
    let types : c.loop-ty.ty-iterator.a.rest.now ≡ c.in-Some.ty.now ∷ c.next.new.self.a.rest.now = search rules in
    let operands : c.loop-ty.ty-iterator.b.rest.now ≡ c.in-Some.value.now ∷ c.next.new.self.b.rest.now = search rules in
    covered_here c.args.low c.args.width (omega arith) (omega arith) c.loop-ty.left c.width-own.result c.loop-ty.ty-iterator.a.rest.now c.next.new.self.a.rest.now c.in-Some.ty.now
    types c.loop-ty.invariant.left c.width-own.ensures f c.loop-ty.ty-iterator.b.rest.now c.next.new.self.b.rest.now c.in-Some.value.now operands
    (sym (left_over c.args.low c.args.width (omega arith) (omega arith) c.loop-ty.left c.width-own.result c.loop-ty.ty-iterator.a.rest.now c.next.new.self.a.rest.now c.in-Some.ty.now
    types c.loop-ty.invariant.left c.width-own.ensures c.from-left.result c.from-left.ensures) ∙ c.if-left-from.true ∙ c.from.ensures)
    c.if-own-width.true ∙ c.loop-ty.invariant.same f

pub loop-ty-preserved : goal.loop-ty-preserved
loop-ty-preserved c =
    let types : c.loop-ty.ty-iterator.a.rest.now ≡ c.in-Some.ty.now ∷ c.next.new.self.a.rest.now = search rules in
    let operands : c.loop-ty.ty-iterator.b.rest.now ≡ c.in-Some.value.now ∷ c.next.new.self.b.rest.now = search rules in
    let left = left_over c.args.low c.args.width (omega arith) (omega arith) c.loop-ty.left c.width-own.result c.loop-ty.ty-iterator.a.rest.now c.next.new.self.a.rest.now c.in-Some.ty.now
    types c.loop-ty.invariant.left c.width-own.ensures c.from-left.result c.from-left.ensures in
    let other : (c.loop-ty.left - c.from-left.result ≡ c.from.result) → (c.width-own.result ≡ c.args.width) → ⊥ = elim c.else-left-from.branch [
      | else-left-from-via-then-left-from+else-own-width w ↦ λ a b. w.if-own-width.false b
      | else-left-from-via-else-left-from w ↦ λ a b. w.if-left-from.false a
    ] in
    record {
      same = λ f.
          covered_later c.args.low c.args.width (omega arith) (omega arith) c.loop-ty.left c.width-own.result c.loop-ty.ty-iterator.a.rest.now c.next.new.self.a.rest.now c.in-Some.ty.now
          types c.loop-ty.invariant.left c.width-own.ensures f c.loop-ty.ty-iterator.b.rest.now c.next.new.self.b.rest.now c.in-Some.value.now operands
          (λ a b. other (left ∙ a ∙ sym c.from.ensures) b) ∙ c.loop-ty.invariant.same f;
      left = left;
    }

pub returns : goal.returns
returns c = λ f.
    let end : (length c.loop-ty.ty-iterator.a.rest.now ≡ 0) ⊎ (length c.loop-ty.ty-iterator.b.rest.now ≡ 0) =
    elim c.in-None.ensures.steps [ inl p ↦ inl p.1.0 | inr p ↦ inr p.1.0 ] in
    covered_none c.args.low c.args.width f c.loop-ty.ty-iterator.a.rest.now c.loop-ty.ty-iterator.b.rest.now end ∙ c.loop-ty.invariant.same f
