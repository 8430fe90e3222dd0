use Rattle.std.proofs.Common.{◌∙◌, ◌-◌, ◌++◌, ◌∷◌, [], List, ap, sym, take, length, arith}
use Rattle.clause_learning.specs.declared.stored_clause.Watch.{Watch}
use Rattle.clause_learning.proofs.Tables.{push_pop}
use Rattle.clause_learning.proofs.table.attach.Goals as goal

pub returns-in-Err-clause-err : goal.returns-in-Err-clause-err
returns-in-Err-clause-err c =
    push_pop c.args.lists.now.items c.slot.result c.slot-in-Err.result c.slot-2.result (record { clause = c.args.clause; blocker = c.args.b; is_binary = c.args.is_binary }) c.push.new.self c.push-2.new.self c.pop.new.self c.index_mut.result.now c.index_mut-2.result.now c.index_mut-in-Err.result.now
    (omega (arith, c.slot.ensures, c.requires.first)) (c.slot-in-Err.ensures ∙ sym c.slot.ensures)
    (c.in_ok-push.ensures.ok ∙ ap (λ (x : List Watch). x ++ record { clause = c.args.clause; blocker = c.args.b; is_binary = c.args.is_binary } ∷ []) c.index_mut.ensures.value)
    (c.in-Err.ensures.err ∙ c.index_mut-2.ensures.value) (c.pop.ensures ∙ ap (λ (x : List Watch). take (length x - 1) x) c.index_mut-in-Err.ensures.value)
