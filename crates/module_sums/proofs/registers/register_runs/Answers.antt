use Rattle.std.proofs.Common.{◌<◌, length, refl, subst, arith}
use Rattle.std.proofs.lemmas.List.{length-map}
use Rattle.std.proofs.lemmas.Option.{slice_get_read}
use Rattle.ir_store.specs.Designs.{modules_of, module_of, numbered_module}
use Rattle.module_sums.specs.RegisterWidths.{AreEmpty}
use Rattle.module_sums.proofs.LeafRuns.{filled_first, filled_more, filled_all, number_within, top_within}
use Rattle.module_sums.proofs.registers.register_runs.Goals as goal

pub loop-number-init : goal.loop-number-init
loop-number-init c =
    filled_first (modules_of c.args.design.now) c.in_ok-table.table.items c.args.below.now
    (subst (λ n. AreEmpty n c.in_ok-table.table.items) c.module_count.ensures c.in_ok-table.ensures)

pub index_mut-requires : goal.index_mut-requires
index_mut-requires c =
    let low = number_within (modules_of c.args.design.now) c.args.top c.args.below.now c.loop-number.number-index c.requires.below c.loop-number-test.true in
    let all = length-map (modules_of c.args.design.now) numbered_module in
    omega (arith, low, all, c.loop-number.invariant.size)

pub loop-number-preserved : goal.loop-number-preserved
loop-number-preserved c =
    filled_more (modules_of c.args.design.now) c.requires.distinct c.requires.finite c.args.top c.loop-number.table.items c.as_slice.result.now c.args.below.now c.loop-number.number-index
    c.in_ok-runs.runs (module_of c.module.result.now) c.requires.below c.loop-number-test.true c.as_slice.ensures.value c.loop-number.invariant c.module.ensures c.in_ok-runs.ensures

pub remove-requires : goal.remove-requires
remove-requires c =
    let low = top_within (modules_of c.args.design.now) c.args.top c.args.below.now c.requires.below in
    omega (arith, low, c.loop-number.invariant.size)

pub returns : goal.returns
returns c =
    let low = top_within (modules_of c.args.design.now) c.args.top c.args.below.now c.requires.below in
    let inside : c.args.top < length c.loop-number.table.items = omega (arith, low, c.loop-number.invariant.size) in
    filled_all (modules_of c.args.design.now) c.args.top c.loop-number.table.items c.args.below.now c.loop-number.number-index c.remove.result c.requires.below c.loop-number-test.false c.loop-number.invariant
    (slice_get_read c.loop-number.table.items (length c.loop-number.table.items) c.args.top c.remove.result refl inside c.remove.ensures.value)
