use Rattle.pass_laws.proofs.Shapes.{shape_set, shape_erase, shape_insert, shape_register}
use Rattle.pass_laws.proofs.laws.edits_keep_shape.Goals as goal

pub returns-clause-position : goal.returns-clause-position
returns-clause-position c = shape_set

pub returns-clause-erased : goal.returns-clause-erased
returns-clause-erased c = shape_erase

pub returns-clause-inserted : goal.returns-clause-inserted
returns-clause-inserted c = shape_insert

pub returns-clause-register : goal.returns-clause-register
returns-clause-register c = shape_register
