use Rattle.verilog_expr.specs.Signs.{keeps_signs}
use Rattle.verilog_expr.proofs.Carried.{own_carried, depth_carried, body_carried}
use Rattle.verilog_expr.proofs.Positions.{positions_asked}
use Rattle.verilog_expr.proofs.Signed.{unsigned_at_signed, signed_kinds, signed_only, built_keeps, signs_carried}
use Rattle.verilog_expr.proofs.laws.signs_are_kept.Goals as goal

pub returns-clause-asked : goal.returns-clause-asked
returns-clause-asked c = positions_asked

pub returns-clause-positions : goal.returns-clause-positions
returns-clause-positions c = unsigned_at_signed

pub returns-clause-kinds : goal.returns-clause-kinds
returns-clause-kinds c = signed_kinds

pub returns-clause-signed : goal.returns-clause-signed
returns-clause-signed c = signed_only

pub returns-clause-kind_expr : goal.returns-clause-kind_expr
returns-clause-kind_expr c = built_keeps

pub returns-clause-body : goal.returns-clause-body
returns-clause-body c = body_carried keeps_signs signs_carried

pub returns-clause-depth : goal.returns-clause-depth
returns-clause-depth c = depth_carried keeps_signs signs_carried

pub returns-clause-own : goal.returns-clause-own
returns-clause-own c = own_carried keeps_signs signs_carried
