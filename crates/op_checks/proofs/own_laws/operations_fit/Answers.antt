use Rattle.op_checks.proofs.Fitting.{fits, instance_types, output_types}
use Rattle.op_checks.proofs.own_laws.operations_fit.Goals as goal

pub returns-clause-types : goal.returns-clause-types
returns-clause-types c = fits

pub returns-clause-instances : goal.returns-clause-instances
returns-clause-instances c = instance_types

pub returns-clause-outputs : goal.returns-clause-outputs
returns-clause-outputs c = output_types
