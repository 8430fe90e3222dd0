use Rattle.design_cycles.proofs.BitSetLemmas.{spreads_found_same, spreads_found}
use Rattle.design_cycles.proofs.bit_sets.add_needs.Goals as goal

pub returns-then-bit_set-own : goal.returns-then-bit_set-own
returns-then-bit_set-own c =
    spreads_found_same c.args.graph.now c.args.bit_sets.now c.args.node c.in-Some.list.now c.as_slice.result.now c.bit_set_union.result c.in-Some.ensures.lookup.3.0 c.in-Some.ensures.lookup.1
    c.as_slice.ensures.value c.bit_set_union.ensures c.bit_set_at-own.result c.bit_set_at-own.ensures c.if-bit_set-own.true

pub returns-else-bit_set-own : goal.returns-else-bit_set-own
returns-else-bit_set-own c =
    spreads_found c.args.graph.now c.args.bit_sets.now c.args.node c.in-Some.list.now c.as_slice.result.now c.bit_set_union.result c.in-Some.ensures.lookup.3.0 c.in-Some.ensures.lookup.1
    c.as_slice.ensures.value c.bit_set_union.ensures c.bit_set_at-own.result c.bit_set_at-own.ensures c.requires c.bit_set_at-own.type_inv c.bit_set_union.type_inv c.if-bit_set-own.false
