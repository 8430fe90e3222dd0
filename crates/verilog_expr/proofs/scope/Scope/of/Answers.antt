use Rattle.std.proofs.Common.{sym, subst}
use Rattle.ir_store.specs.Bodies.{ops_of}
use Rattle.ir_store.specs.Designs.{ports_in}
use Rattle.ir_store.specs.Numbered.{ops_by_position}
use Rattle.ir_store.specs.declared.body.Body.{Body}
use Rattle.verilog_expr.specs.Marks.{AreSmall}
use Rattle.verilog_expr.proofs.scope.Scope.of.Goals as goal

pub invariant_of-result : goal.invariant_of-result
invariant_of-result c = record { small = subst (λ (b : Body). AreSmall (ports_in c.args.ports.now) (ops_by_position (ops_of b))) (sym c.in_ok-ops.ensures) c.requires.small }
