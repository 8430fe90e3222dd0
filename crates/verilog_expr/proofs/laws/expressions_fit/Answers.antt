use Rattle.verilog_model.specs.Grammar.{fits}
use Rattle.verilog_expr.proofs.Carried.{body_carried}
use Rattle.verilog_expr.proofs.Fit.{built_fits, fits_carried, own_fits, depth_fits}
use Rattle.verilog_expr.proofs.laws.expressions_fit.Goals as goal

pub returns-clause-kind_expr : goal.returns-clause-kind_expr
returns-clause-kind_expr c = built_fits

pub returns-clause-body : goal.returns-clause-body
returns-clause-body c = body_carried fits fits_carried

pub returns-clause-depth : goal.returns-clause-depth
returns-clause-depth c = depth_fits

pub returns-clause-own : goal.returns-clause-own
returns-clause-own c = own_fits
