use Rattle.ir_store.proofs.DesignLemmas.{ops_seen}
use Rattle.ir_store.proofs.design.Design.take_body.Goals as goal

pub returns-clause-body : goal.returns-clause-body
returns-clause-body c = rw (ops_seen c.args.self.now.modules.items) c.swap_body.ensures.taken
