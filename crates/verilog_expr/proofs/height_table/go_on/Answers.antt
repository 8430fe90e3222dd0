use Rattle.std.proofs.Common.{◌≡◌, ◌∙◌, refl, max, map, drop, get_or, slice_get, Some, ap, sym, subst, arith}
use Rattle.hw_model.specs.Design.Ref.{result as result_of}
use Rattle.ir_store.specs.declared.operation.Value.TheVariants.{Port}
use Rattle.verilog_expr.specs.Scopes.{scope_ports, scope_ops, scope_ref}
use Rattle.verilog_expr.specs.Spilling.{operands_of, operands_at}
use Rattle.verilog_expr.specs.PartTables.{stands, stands_most}
use Rattle.verilog_expr.proofs.Marking.{any_default}
use Rattle.verilog_expr.proofs.HeightPaths.{mapped_at, most_more, operand_needed}
use Rattle.verilog_expr.proofs.height_table.go_on.Goals as goal

pub returns-in-Unknown : goal.returns-in-Unknown
returns-in-Unknown c =
    let ports = scope_ports c.args.scope.now in
    let os = scope_ops c.args.scope.now in
    let ref = scope_ref c.args.scope.now in
    let x = get_or c.op_at.result.operands.now c.loop-passed.passed (Port 0) in
    let same : operands_at os (result_of c.args.waiting.position 0) ≡ map ref c.op_at.result.operands.now = ap operands_of c.op_at.ensures in
    let at : slice_get (map ref c.op_at.result.operands.now) c.loop-passed.passed ≡ Some (ref x) =
    mapped_at ref c.op_at.result.operands.now c.loop-passed.passed x c.loop-passed-test.true (sym (any_default c.op_at.result.operands.now c.loop-passed.passed (Port 0) c.loop-passed-test.true)) in
    record {
      same = refl;
      waiting = record {
        within = c.requires.waiting.within;
        above = c.requires.waiting.above;
        most = subst (λ rs. max c.loop-passed.most (stands_most ports os (drop c.loop-passed.passed rs)) ≡ stands_most ports os rs) (sym same) c.loop-passed.invariant.most;
        low = c.loop-passed.invariant.low;
      };
      needed = operand_needed ports os c.args.waiting.position c.loop-passed.passed (result_of c.in-Unknown.below 0) c.requires.waiting.above
          (ap (λ rs. slice_get rs c.loop-passed.passed) same ∙ at ∙ ap Some c.in-Unknown.ensures.0);
      unknown = c.in-Unknown.ensures.1;
    }

pub loop-passed-preserved : goal.loop-passed-preserved
loop-passed-preserved c =
    let ref = scope_ref c.args.scope.now in
    let x = get_or c.op_at.result.operands.now c.loop-passed.passed (Port 0) in
    record {
      most = most_more (stands (scope_ports c.args.scope.now) (scope_ops c.args.scope.now)) (map ref c.op_at.result.operands.now) c.loop-passed.passed (ref x)
          c.loop-passed.most c.in-Known.height c.max-most.result _
          (mapped_at ref c.op_at.result.operands.now c.loop-passed.passed x c.loop-passed-test.true (sym (any_default c.op_at.result.operands.now c.loop-passed.passed (Port 0) c.loop-passed-test.true)))
          c.loop-passed.invariant.most c.in-Known.ensures.0 c.max-most.ensures;
      low = omega (arith, c.in-Known.ensures.1, c.max-most.ensures, c.loop-passed.invariant.low);
    }
