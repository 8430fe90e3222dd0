use Rattle.verilog_expr.proofs.scope.Scope.width.Goals as goal

pub small_width-requires : goal.small_width-requires
small_width-requires c = c.args.self.now.small
