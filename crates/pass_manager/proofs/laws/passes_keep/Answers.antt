use Rattle.pass_manager.proofs.Results.{canonicalize_keeps, cse_keeps, seq_lower_regs_keeps, lower_aggregates_keeps, flatten_keeps, symbol_dce_keeps}
use Rattle.pass_manager.proofs.laws.passes_keep.Goals as goal

pub returns-clause-canonicalize : goal.returns-clause-canonicalize
returns-clause-canonicalize c = canonicalize_keeps

pub returns-clause-cse : goal.returns-clause-cse
returns-clause-cse c = cse_keeps

pub returns-clause-symbol_dce : goal.returns-clause-symbol_dce
returns-clause-symbol_dce c = symbol_dce_keeps

pub returns-clause-seq_lower_regs : goal.returns-clause-seq_lower_regs
returns-clause-seq_lower_regs c = seq_lower_regs_keeps

pub returns-clause-lower_aggregates : goal.returns-clause-lower_aggregates
returns-clause-lower_aggregates c = lower_aggregates_keeps

pub returns-clause-flatten : goal.returns-clause-flatten
returns-clause-flatten c = flatten_keeps
