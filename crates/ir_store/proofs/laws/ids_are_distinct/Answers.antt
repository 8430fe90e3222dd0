use Rattle.ir_store.proofs.BodyLemmas.{ids_once}
use Rattle.ir_store.proofs.laws.ids_are_distinct.Goals as goal

pub returns : goal.returns
returns c = λ b. ids_once b
