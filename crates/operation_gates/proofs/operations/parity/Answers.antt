use Rattle.std.proofs.Common.{sym, subst, IfOk}
use Rattle.gates.specs.Circuits.{Runs}
use Rattle.gate_words.specs.GateLists.{odd}
use Rattle.operation_gates.specs.OperationGateLists.{one_bit, gate_list_of_one}
use Rattle.operation_gates.proofs.Taking.{one_bit_run}
use Rattle.operation_gates.proofs.operations.parity.Goals as goal

pub returns : goal.returns
returns c =
    let x = c.one-a.result.now in
    subst (λ xs. IfOk c.one_signal.result (Runs (gate_list_of_one (λ y. one_bit (odd y)) xs) c.args.gates.now c.reduce.new.gates)) (sym c.one-a.ensures)
    (one_bit_run (odd x) c.args.gates.now c.reduce.new.gates c.in_ok-bit.bit c.one_signal.result
    (subst (λ y. Runs (odd y) c.args.gates.now c.reduce.new.gates c.in_ok-bit.bit) c.as_slice.ensures c.in_ok-bit.ensures) c.one_signal.ensures)
