use Rattle.std.proofs.Common.{◌≡◌, ◌+◌, ◌-◌, ◌<◌, ◌^◌, length, rules, arith}
use Rattle.ir_store.specs.ChainedValues.{head_of}
use Rattle.ir_store.proofs.Indexing.{there_in, indexed_less}
use Rattle.ir_store.proofs.chained_values.ChainedValues.pop.Goals as goal

pub overflow_cast-cell : goal.overflow_cast-cell
overflow_cast-cell c =
    let h : c.len-cell.result - 1 < 2 ^ 32 = omega (arith, c.len-cell.ensures, c.self.inside.values.ok.0, c.self.invariant.few) in
    search rules

pub take_out-requires : goal.take_out-requires
take_out-requires c =
    let r = rw (← c.self.view_is) at c.requires in
    let cell : c.len-cell.result - 1 < length c.self.inside.values.items = omega (arith, c.len-cell.ensures, c.self.inside.values.ok.0, r) in
    let from : c.head_of-head.result ≡ head_of (length c.self.inside.chains.chains) c.index.result.now = rw c.head_count.ensures at c.head_of-head.ensures.head in
    there_in c.self.inside.values.items c.self.inside.chains c.self.invariant (c.len-cell.result - 1) c.head_of-head.result c.index.result.now cell c.index.ensures from

pub invariant_of-self : goal.invariant_of-self
invariant_of-self c =
    let r = rw (← c.self.view_is) at c.requires in
    let cell : c.len-cell.result - 1 + 1 ≡ length c.self.inside.values.items = omega (arith, c.len-cell.ensures, c.self.inside.values.ok.0, r) in
    let from : c.head_of-head.result ≡ head_of (length c.self.inside.chains.chains) c.index.result.now = rw c.head_count.ensures at c.head_of-head.ensures.head in
    let within : c.head_of-head.result < length c.self.inside.chains.chains = rw c.head_count.ensures at c.head_of-head.ensures.within in
    rw c.truncate.ensures.items
    (indexed_less c.self.inside.values.items c.self.inside.chains c.self.invariant c.take_out.new.self (c.len-cell.result - 1) c.head_of-head.result c.index.result.now cell c.index.ensures from within
    c.take_out.ensures.chains c.take_out.ensures.cells c.take_out.ensures.room)
