use Rattle.fold_laws.specs.Parts.{struct_part, extract_part, array_part}
use Rattle.fold_laws.proofs.ArrayParts.{array_part_law}
use Rattle.fold_laws.proofs.MakerOperands.{maker_operand_is_fold}
use Rattle.fold_laws.proofs.JoinedParts.{extract_part_law}
use Rattle.fold_laws.proofs.Parts.{struct_part_law}
use Rattle.fold_laws.proofs.laws.parts_stand.Goals as goal

pub returns-clause-struct_part : goal.returns-clause-struct_part
returns-clause-struct_part c = maker_operand_is_fold struct_part struct_part_law

pub returns-clause-extract_part : goal.returns-clause-extract_part
returns-clause-extract_part c = maker_operand_is_fold extract_part extract_part_law

pub returns-clause-array_part : goal.returns-clause-array_part
returns-clause-array_part c = maker_operand_is_fold array_part array_part_law
