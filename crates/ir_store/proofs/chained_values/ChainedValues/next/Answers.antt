use Rattle.std.proofs.Common.{◌≡◌, [], length, get_or, refl, ap, ◌∙◌}
use Rattle.std.specs.Prelude.{Contains}
use Rattle.linked_lists.specs.Chains.{cell_or_none}
use Rattle.ir_store.specs.ChainedValues.{head_of}
use Rattle.ir_store.proofs.Seeking.{with_part, step, chain_most, next_with, each_once, if_some}
use Rattle.ir_store.proofs.chained_values.ChainedValues.next.Goals as goal

pub seek-requires : goal.seek-requires
seek-requires c =
    let r = rw (← c.self.view_is) at c.requires in
    let head : c.head_of-head.result ≡ head_of (length c.self.inside.chains.chains) c.args.value = rw c.head_count.ensures at c.head_of-head.ensures.head in
    let there = with_part c.args.value c.self.inside.values.items c.args.cell (get_or c.self.inside.chains.chains c.head_of-head.result []) (rw head r) in
    let s = step c.args.cell c.next.result (get_or c.self.inside.chains.chains c.head_of-head.result []) there.0 (chain_most c.self.inside.values.items c.self.inside.chains c.self.invariant c.head_of-head.result)
    (λ xs ys e. c.next.ensures c.head_of-head.result xs ys e) in
    rw (← c.self.view_is) (if_some c.next.result (λ d. Contains (get_or c.self.inside.chains.chains c.head_of-head.result []) d) s.there)

pub returns-clause-next : goal.returns-clause-next
returns-clause-next c =
    λ xs ys e.
    let head : c.head_of-head.result ≡ head_of (length c.self.inside.chains.chains) c.args.value = rw c.head_count.ensures at c.head_of-head.ensures.head in
    let k = rw (← c.self.view_is) at e in
    let after = next_with c.self.inside.values.items c.self.inside.chains c.self.invariant c.args.value c.head_of-head.result c.args.cell c.next.result xs ys
    (λ us ws d. c.next.ensures c.head_of-head.result us ws d) (rw head k) in
    let found = rw (← c.self.view_is) at c.seek.ensures in
    found ∙ ap cell_or_none after

pub returns-clause-each : goal.returns-clause-each
returns-clause-each c =
    λ d. rw (← c.self.view_is) (each_once c.self.inside.values.items c.self.inside.chains c.self.invariant c.args.value (head_of (length c.self.inside.chains.chains) c.args.value) d refl)
