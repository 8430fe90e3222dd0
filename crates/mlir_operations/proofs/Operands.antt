-- Names of values in a list.
use Rattle.std.proofs.Common.{refl}
use Rattle.diag.specs.declared.refusal.OpName.{OpName}
use Rattle.mlir_operations.specs.OperandText.{value_name, operand_text}
use Rattle.mlir_syntax.specs.Reads.{want}
use Rattle.mlir_syntax.proofs.Lists.{IsItem}

pub is_value_name : (op : OpName) → IsItem op (value_name op)
unfolding value_name want
is_value_name op = refl

pub is_operand : (op : OpName) → IsItem op (operand_text op)
unfolding operand_text value_name want
is_operand op = refl
