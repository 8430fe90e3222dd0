use Rattle.std.proofs.Common.{sym, ap, ◌∙◌}
use Rattle.ir_store.specs.Designs.{modules_of}
use Rattle.op_verifier.proofs.Symbols.{is_before, named_before}
use Rattle.op_verifier.proofs.headers.is_defined_before.Goals as goal

pub returns-in-Some : goal.returns-in-Some
returns-in-Some c =
    sym (named_before c.args.symbol.now c.args.number (modules_of c.args.design.now) ∙ ap (λ p. is_before p c.args.number) (sym c.find.ensures.position ∙ c.in-Some.is))

pub returns-in-None : goal.returns-in-None
returns-in-None c =
    sym (named_before c.args.symbol.now c.args.number (modules_of c.args.design.now) ∙ ap (λ p. is_before p c.args.number) (sym c.find.ensures.position ∙ c.in-None.is))
