use Rattle.std.proofs.Common.{sym, subst, IfOk}
use Rattle.gates.specs.Circuits.{Runs}
use Rattle.hw_model.specs.KindViews.{predicate_of}
use Rattle.operation_gates.specs.OperationGateLists.{one_bit, comparison, gate_list_of_two}
use Rattle.operation_gates.proofs.Taking.{one_bit_run}
use Rattle.operation_gates.proofs.operations.icmp.Goals as goal

pub returns : goal.returns
returns c =
    let p = predicate_of c.args.predicate in
    let x = c.two.result.0.now in
    let y = c.two.result.1.now in
    subst (λ xs. IfOk c.one_signal.result (Runs (gate_list_of_two (λ a b. one_bit (comparison p a b)) xs) c.args.gates.now c.comparison.new.gates)) (sym c.two.ensures)
    (one_bit_run (comparison p x y) c.args.gates.now c.comparison.new.gates c.in_ok-bit.bit c.one_signal.result
    (subst (λ a. Runs (comparison p a y) c.args.gates.now c.comparison.new.gates c.in_ok-bit.bit) c.as_slice.ensures
    (subst (λ b. Runs (comparison p c.as_slice.result.now b) c.args.gates.now c.comparison.new.gates c.in_ok-bit.bit) c.as_slice-2.ensures c.in_ok-bit.ensures))
    c.one_signal.ensures)
