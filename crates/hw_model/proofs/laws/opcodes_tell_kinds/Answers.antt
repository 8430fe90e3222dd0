use Rattle.hw_model.specs.KindsApart.{kind_found}
use Rattle.hw_model.proofs.Opcodes.{opcode_told}
use Rattle.hw_model.proofs.laws.opcodes_tell_kinds.Goals as goal

pub returns-clause-found : goal.returns-clause-found
returns-clause-found c = kind_found

pub returns-clause-opcode : goal.returns-clause-opcode
returns-clause-opcode c = opcode_told
