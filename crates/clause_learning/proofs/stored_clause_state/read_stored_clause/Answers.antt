use Rattle.std.proofs.Common.{◌≡◌, ◌<◌, ◌-◌, true, false, length, ap, subst, sym, ◌∙◌, arith}
use Rattle.std.proofs.lemmas.List.{get_or_read}
use Rattle.resolution_proof.specs.declared.literal.Literal.{Literal}
use Rattle.resolution_proof.specs.Literal.{negation, holds}
use Rattle.clause_learning.specs.Trail.{literals}
use Rattle.resolution_proof.specs.Fresh.{is_free, is_unit}
use Rattle.clause_learning.specs.Watching.{literal_at, no_literal}
use Rattle.clause_learning.proofs.Covering.{all_false, all_but_one}
use Rattle.clause_learning.proofs.stored_clause_state.read_stored_clause.Goals as goal

pub returns-then-is_true-2 : goal.returns-then-is_true-2
returns-then-is_true-2 c =
    let s = literals c.args.trail.now.entries in
    let other_in : 1 - c.args.position < length c.args.stored_clause.now = omega (arith, c.requires.long) in
    let other : literal_at c.args.stored_clause.now (1 - c.args.position) ≡ c.literal-other.result = sym
    (get_or_read c.args.stored_clause.now (1 - c.args.position) c.index-stored_clause-position.result other_in c.index-stored_clause-position.is no_literal) ∙ sym c.literal-other.ensures in
    let known : holds s (negation (literal_at c.args.stored_clause.now (1 - c.args.position))) ≡ true = ap (λ (l : Literal). holds s (negation l)) other ∙ ap (holds s) (sym c.negation-2.ensures)
    ∙ sym c.is_true-2.ensures ∙ c.if-is_true-2.true in
    all_false s c.args.stored_clause.now c.args.position c.requires.position (λ m high l. c.loop-k.invariant m high (omega (arith, l, c.loop-k-test.false))) c.requires.watched known

pub returns-else-is_true-2 : goal.returns-else-is_true-2
returns-else-is_true-2 c =
    let s = literals c.args.trail.now.entries in
    let other_in : 1 - c.args.position < length c.args.stored_clause.now = omega (arith, c.requires.long) in
    let other : literal_at c.args.stored_clause.now (1 - c.args.position) ≡ c.literal-other.result = sym
    (get_or_read c.args.stored_clause.now (1 - c.args.position) c.index-stored_clause-position.result other_in c.index-stored_clause-position.is no_literal) ∙ sym c.literal-other.ensures in
    let not_false : holds s (negation (literal_at c.args.stored_clause.now (1 - c.args.position))) ≡ false = ap (λ (l : Literal). holds s (negation l)) other ∙ ap (holds s) (sym c.negation-2.ensures)
    ∙ sym c.is_true-2.ensures ∙ c.if-is_true-2.false in
    let not_true : holds s (literal_at c.args.stored_clause.now (1 - c.args.position)) ≡ false = ap (holds s) other ∙ sym c.is_true.ensures ∙ c.if-is_true.false in
    subst (λ (l : Literal). (holds c.args.stored_clause.now l ≡ true) × (is_free s l ≡ true) × (is_unit s l c.args.stored_clause.now ≡ true)) other
    (all_but_one s c.args.stored_clause.now c.args.position c.requires.position c.requires.long (λ m high l. c.loop-k.invariant m high (omega (arith, l, c.loop-k-test.false))) c.requires.watched not_true not_false)
