use Rattle.std.proofs.Common.{◌++◌, ap, sym, ◌∙◌, arith}
use Rattle.ir_store.specs.Designs.{modules_of, module_of, numbered_module}
use Rattle.port_checks.specs.Joins.{named_in}
use Rattle.port_checks.proofs.Making.{modules_more, modules_all}
use Rattle.port_checks.proofs.named.named_ports.Goals as goal

pub loop-number-preserved : goal.loop-number-preserved
loop-number-preserved c =
    c.in_ok-push_named.ensures
    ∙ ap (λ xs. xs ++ named_in c.loop-number.number (numbered_module (module_of c.module.result.now))) c.loop-number.invariant
    ∙ sym (modules_more named_in (modules_of c.args.design.now) c.loop-number.number (module_of c.module.result.now) c.module.ensures)

pub returns : goal.returns
returns c = c.loop-number.invariant ∙ modules_all named_in (modules_of c.args.design.now) c.loop-number.number (omega (arith, c.module_count-number-end.ensures))
