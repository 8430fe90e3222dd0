use Rattle.verilog_model.specs.Grammar.{base_mark}
use Rattle.std.specs.Prelude.{decimal}
use Rattle.verilog_model.specs.Digits.{hex}
use Rattle.verilog_model.specs.Text.{expr_text}
use Rattle.verilog_model.proofs.Digits.{three_last}
use Rattle.verilog_model.proofs.literals.push_literal.Goals as goal

pub returns : goal.returns
unfolding expr_text
returns c =
    three_last c.args.out.now c.push_decimal.new.out c.push_bytes.new.self c.push_hex.new.out (decimal c.args.width) (base_mark c.args.is_signed) (hex c.args.n)
    (rw c.from.ensures at c.in_ok-push_decimal.ensures) (rw c.base_mark.ensures at c.in_ok-push_bytes.ensures.ok) c.in_ok-push_hex.ensures
