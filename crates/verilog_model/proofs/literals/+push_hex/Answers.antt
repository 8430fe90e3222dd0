use Rattle.std.proofs.Common.{[], ◌∷◌, ◌++◌, sym, ap, ◌∙◌, arith}
use Rattle.verilog_model.proofs.Digits.{hex_low, hex_more}
use Rattle.verilog_model.proofs.literals.+push_hex.Goals as goal

pub returns-then-n-lt16 : goal.returns-then-n-lt16
returns-then-n-lt16 t c =
    c.in_ok-push.ensures.ok ∙ ap (λ ds. c.args.out.now ++ ds) (ap (λ b. b ∷ []) c.hex_byte.ensures ∙ sym (hex_low c.args.n (omega (arith, c.if-n-lt16.true))))

pub returns : goal.returns
returns t c =
    hex_more c.args.out.now c.push_hex.new.out c.push-2.new.self c.args.n c.hex_byte-2.result (omega arith) c.in_ok-push_hex.ensures c.hex_byte-2.ensures c.in_ok-push-2.ensures.ok
