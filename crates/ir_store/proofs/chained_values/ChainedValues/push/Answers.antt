use Rattle.std.proofs.Common.{◌≡◌, ◌<◌, ◌^◌, length, rules, arith}
use Rattle.ir_store.specs.ChainedValues.{head_of}
use Rattle.ir_store.proofs.Indexing.{alone_end, indexed_more}
use Rattle.ir_store.proofs.chained_values.ChainedValues.push.Goals as goal

pub overflow_cast-cell : goal.overflow_cast-cell
overflow_cast-cell c =
    let h : c.len-cell.result < 2 ^ 32 = omega (arith, c.len-cell.ensures, c.self.inside.values.ok.0, c.self.invariant.few) in
    search rules

pub put_first-requires-clause-alone : goal.put_first-requires-clause-alone
put_first-requires-clause-alone c =
    let cell : c.len-cell.result ≡ length c.self.inside.values.items = omega (arith, c.len-cell.ensures, c.self.inside.values.ok.0) in
    alone_end c.self.inside.values.items c.self.inside.chains c.self.invariant c.len-cell.result cell

pub invariant_of-self : goal.invariant_of-self
invariant_of-self c =
    let r = rw (← c.self.view_is) at c.requires in
    let cell : c.len-cell.result ≡ length c.self.inside.values.items = omega (arith, c.len-cell.ensures, c.self.inside.values.ok.0) in
    let to : c.head_of.result ≡ head_of (length c.self.inside.chains.chains) c.args.value = rw c.head_count.ensures at c.head_of.ensures.head in
    let within : c.head_of.result < length c.self.inside.chains.chains = rw c.head_count.ensures at c.head_of.ensures.within in
    rw c.push_reserved.ensures.items
    (indexed_more c.self.inside.values.items c.self.inside.chains c.self.invariant c.put_first.new.self c.len-cell.result c.head_of.result c.args.value cell to within
    c.put_first.ensures.chains c.put_first.ensures.cells c.put_first.ensures.room (omega (arith, r)) (omega (arith, r)) (omega (arith, r)))
