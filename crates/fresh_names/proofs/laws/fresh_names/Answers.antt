use Rattle.fresh_names.proofs.Giving.{fresh_count, fresh_free, fresh_different}
use Rattle.fresh_names.proofs.laws.fresh_names.Goals as goal

pub returns-clause-count : goal.returns-clause-count
returns-clause-count c = fresh_count

pub returns-clause-free : goal.returns-clause-free
returns-clause-free c = fresh_free

pub returns-clause-different : goal.returns-clause-different
returns-clause-different c = fresh_different
