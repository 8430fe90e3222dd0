use Rattle.operation_gates.proofs.Taking.{runs_none}
use Rattle.operation_gates.proofs.operations.family_gate_list.Goals as goal

pub returns-in-Extract : goal.returns-in-Extract
returns-in-Extract c = rw c.in-Extract.is (runs_none _ _ c.extract.result c.extract.ensures)

pub returns-in-Concat : goal.returns-in-Concat
returns-in-Concat c = rw c.in-Concat.is (runs_none _ _ c.concat.result c.concat.ensures)

pub returns-in-Replicate : goal.returns-in-Replicate
returns-in-Replicate c = rw c.in-Replicate.is (runs_none _ _ c.replication.result c.replication.ensures)

pub returns-in-Constant : goal.returns-in-Constant
returns-in-Constant c = rw c.in-Constant.is (runs_none _ _ c.constant.result c.constant.ensures)

pub returns-in-Bitcast : goal.returns-in-Bitcast
returns-in-Bitcast c = rw c.in-Bitcast.is (runs_none _ _ c.wire.result c.wire.ensures)

pub returns-in-Wire : goal.returns-in-Wire
returns-in-Wire c = rw c.in-Wire.is (runs_none _ _ c.wire-in-Wire.result c.wire-in-Wire.ensures)
