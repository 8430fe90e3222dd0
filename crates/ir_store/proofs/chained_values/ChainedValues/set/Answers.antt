use Rattle.std.proofs.Common.{◌≡◌, ◌<◌, ◌^◌, List, [], ◌∷◌, true, length, get_or, set, refl, ap, sym, ◌∙◌, rules, arith}
use Rattle.std.proofs.lemmas.List.{get_or_default, length-set}
use Rattle.ir_store.specs.declared.operation.Value.{Value}
use Rattle.ir_store.specs.declared.operation.Value.TheVariants.{Undefined}
use Rattle.linked_lists.specs.Ids.{times}
use Rattle.linked_lists.specs.Chains.{cut}
use Rattle.ir_store.specs.ChainedValues.{head_of, has_value, cells_with}
use Rattle.linked_lists.proofs.IdLemmas.{contained_times}
use Rattle.ir_store.proofs.Replacing.{value_is, moved}
use Rattle.ir_store.proofs.Seeking.{chain_most, each_once}
use Rattle.ir_store.proofs.Indexing.{there_in, alone_after, indexed_set}
use Rattle.ir_store.proofs.chained_values.ChainedValues.set.Goals as goal

pub overflow_cast-cell : goal.overflow_cast-cell
overflow_cast-cell c =
    let r = rw (← c.self.view_is) at c.requires in
    let h : c.args.cell < 2 ^ 32 = omega (arith, r, c.self.invariant.few) in
    search rules

pub take_out-requires : goal.take_out-requires
take_out-requires c =
    let r = rw (← c.self.view_is) at c.requires in
    let from : c.head_of.result ≡ head_of (length c.self.inside.chains.chains) c.index.result.now = rw c.head_count-heads.ensures at c.head_of.ensures.head in
    there_in c.self.inside.values.items c.self.inside.chains c.self.invariant c.args.cell c.head_of.result c.index.result.now r c.index.ensures from

pub overflow_cast-cell-2 : goal.overflow_cast-cell-2
overflow_cast-cell-2 c =
    let r = rw (← c.self.view_is) at c.requires in
    let h : c.args.cell < 2 ^ 32 = omega (arith, r, c.self.invariant.few) in
    search rules

pub put_first-requires-clause-alone : goal.put_first-requires-clause-alone
put_first-requires-clause-alone c =
    let r = rw (← c.self.view_is) at c.requires in
    let from : c.head_of.result ≡ head_of (length c.self.inside.chains.chains) c.index.result.now = rw c.head_count-heads.ensures at c.head_of.ensures.head in
    let within : c.head_of.result < length c.self.inside.chains.chains = rw c.head_count-heads.ensures at c.head_of.ensures.within in
    alone_after c.self.inside.values.items c.self.inside.chains c.self.invariant c.args.cell c.head_of.result c.index.result.now c.take_out.new.self.chains r c.index.ensures from within c.take_out.ensures.chains

pub invariant_of-self : goal.invariant_of-self
invariant_of-self c =
    let r = rw (← c.self.view_is) at c.requires in
    let from : c.head_of.result ≡ head_of (length c.self.inside.chains.chains) c.index.result.now = rw c.head_count-heads.ensures at c.head_of.ensures.head in
    let within : c.head_of.result < length c.self.inside.chains.chains = rw c.head_count-heads.ensures at c.head_of.ensures.within in
    let to : c.head_of-2.result ≡ head_of (length c.self.inside.chains.chains) c.args.value = rw c.head_count-heads.ensures at c.head_of-2.ensures.head in
    let within_2 : c.head_of-2.result < length c.self.inside.chains.chains = rw c.head_count-heads.ensures at c.head_of-2.ensures.within in
    indexed_set c.self.inside.values.items c.self.inside.chains c.self.invariant c.take_out.new.self c.put_first.new.self c.args.cell c.head_of.result c.head_of-2.result c.index.result.now c.args.value
    r c.index.ensures from within to within_2 c.take_out.ensures.chains c.put_first.ensures.chains c.take_out.ensures.cells c.put_first.ensures.cells c.take_out.ensures.room c.put_first.ensures.room

pub returns-clause-gone : goal.returns-clause-gone
returns-clause-gone c =
    λ v has other.
    let r = rw (← c.self.view_is) at c.requires in
    let from : c.head_of.result ≡ head_of (length c.self.inside.chains.chains) c.index.result.now = rw c.head_count-heads.ensures at c.head_of.ensures.head in
    let within : c.head_of.result < length c.self.inside.chains.chains = rw c.head_count-heads.ensures at c.head_of.ensures.within in
    let within_2 : c.head_of-2.result < length c.self.inside.chains.chains = rw c.head_count-heads.ensures at c.head_of-2.ensures.within in
    let has_it : has_value v c.self.inside.values.items c.args.cell ≡ true = rw (← c.self.view_is) at has in
    let same : c.index.result.now ≡ v = c.index.ensures ∙ (sym (get_or_default c.self.inside.values.items c.args.cell Undefined c.index.result.now r) ∙ value_is v c.self.inside.values.items c.args.cell has_it) in
    let head : c.head_of.result ≡ head_of (length c.self.inside.chains.chains) v = from ∙ ap (head_of (length c.self.inside.chains.chains)) same in
    let there = there_in c.self.inside.values.items c.self.inside.chains c.self.invariant c.args.cell c.head_of.result c.index.result.now r c.index.ensures from in
    let once : times c.args.cell (get_or c.self.inside.chains.chains c.head_of.result []) ≡ 1 =
    omega (arith, contained_times (get_or c.self.inside.chains.chains c.head_of.result []) c.args.cell there, chain_most c.self.inside.values.items c.self.inside.chains c.self.invariant c.head_of.result c.args.cell) in
    let ys : List Value = set c.self.inside.values.items c.args.cell c.args.value in
    let size : length c.put_first.new.self.chains ≡ length c.self.inside.chains.chains =
    ap length c.put_first.ensures.chains ∙ (length-set c.take_out.new.self.chains c.head_of-2.result _ ∙ (ap length c.take_out.ensures.chains ∙ length-set c.self.inside.chains.chains c.head_of.result _)) in
    rw (← c.self.view_is)
    (ap (λ n. cells_with v ys (get_or c.put_first.new.self.chains (head_of n v) [])) size
    ∙ (ap (λ q. cells_with v ys (get_or c.put_first.new.self.chains q [])) (sym head)
    ∙ (ap (λ cs. cells_with v ys (get_or cs c.head_of.result [])) (c.put_first.ensures.chains ∙ ap (λ z. set z c.head_of-2.result (c.args.cell ∷ get_or z c.head_of-2.result [])) c.take_out.ensures.chains)
    ∙ (moved v c.args.value c.self.inside.values.items c.args.cell has_it other c.self.inside.chains.chains c.head_of.result c.head_of-2.result within within_2 once
    ∙ ap (λ q. cut c.args.cell (cells_with v c.self.inside.values.items (get_or c.self.inside.chains.chains q []))) head))))

pub returns-clause-each : goal.returns-clause-each
returns-clause-each c =
    λ v d.
    let r = rw (← c.self.view_is) at c.requires in
    let from : c.head_of.result ≡ head_of (length c.self.inside.chains.chains) c.index.result.now = rw c.head_count-heads.ensures at c.head_of.ensures.head in
    let within : c.head_of.result < length c.self.inside.chains.chains = rw c.head_count-heads.ensures at c.head_of.ensures.within in
    let to : c.head_of-2.result ≡ head_of (length c.self.inside.chains.chains) c.args.value = rw c.head_count-heads.ensures at c.head_of-2.ensures.head in
    let within_2 : c.head_of-2.result < length c.self.inside.chains.chains = rw c.head_count-heads.ensures at c.head_of-2.ensures.within in
    let now = indexed_set c.self.inside.values.items c.self.inside.chains c.self.invariant c.take_out.new.self c.put_first.new.self c.args.cell c.head_of.result c.head_of-2.result c.index.result.now c.args.value
    r c.index.ensures from within to within_2 c.take_out.ensures.chains c.put_first.ensures.chains c.take_out.ensures.cells c.put_first.ensures.cells c.take_out.ensures.room c.put_first.ensures.room in
    each_once _ c.put_first.new.self now v (head_of (length c.put_first.new.self.chains) v) d refl
