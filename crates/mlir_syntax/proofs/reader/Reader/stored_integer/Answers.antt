-- The digits begin after the minus, where there is one.
use Rattle.std.proofs.Common.{ℕ, true, false, sym, ◌∙◌}
use Rattle.hw_model.specs.KindViews.{integer_of}
use Rattle.mlir_syntax.proofs.Chains.{on_err}
use Rattle.mlir_syntax.proofs.Stored.{stored_is, stored_given}
use Rattle.mlir_syntax.proofs.reader.Reader.stored_integer.Goals as goal

pub returns-in-Err-clause-gives : goal.returns-in-Err-clause-gives
returns-in-Err-clause-gives c =
    rw (stored_is c.args.op c.args.self.now c.pass-minus.new.self c.pass-minus.result c.pass-minus.ensures.is c.pass-minus.ensures.after)
    (on_err (λ (n : ℕ). n) integer_of c.in-Err.fail c.number.new.self c.number.new.self _ _ c.in-Err.ensures.gives)

pub returns-then-is_stored-clause-gives : goal.returns-then-is_stored-clause-gives
returns-then-is_stored-clause-gives c =
    stored_given c.args.op c.args.self.now c.pass-minus.new.self c.number.new.self c.pass-minus.result c.in-Ok.distance (integer_of c.signed-value.result) true
    c.pass-minus.ensures.is c.pass-minus.ensures.after c.in-Ok.ensures.gives c.signed-value.ensures (sym c.is_stored.ensures ∙ c.if-is_stored.true)

pub returns-else-is_stored-clause-gives : goal.returns-else-is_stored-clause-gives
returns-else-is_stored-clause-gives c =
    rw c.refusal_for-too_large.ensures
    (stored_given c.args.op c.args.self.now c.pass-minus.new.self c.number.new.self c.pass-minus.result c.in-Ok.distance (integer_of c.signed-value.result) false
    c.pass-minus.ensures.is c.pass-minus.ensures.after c.in-Ok.ensures.gives c.signed-value.ensures (sym c.is_stored.ensures ∙ c.if-is_stored.false))
