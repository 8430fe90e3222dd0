use Rattle.std.proofs.Common.{◌≡◌, map, length, Contains, sym, ap, subst, ◌∙◌, arith, add-one}
use Rattle.ir_store.specs.Bodies.{ops_of}
use Rattle.ir_store.specs.BodyOps.{ids_in, all_replaced, taken_out, IsUnused}
use Rattle.ir_store.specs.ShortLists.{short_items}
use Rattle.ir_store.specs.declared.operation.Value.TheVariants.{Result}
use Rattle.body_edits.proofs.FitOps.{fit_live}
use Rattle.cse_pass.proofs.MergedBodies.{with_merged_below, begins, goes_on, all_stand, ids_merged, unused_merged}
use Rattle.cse_pass.proofs.MergedVisits.{is_other}
use Rattle.cse_pass.proofs.merges.merge.Goals as goal

pub loop-number-init : goal.loop-number-init
loop-number-init c = begins c.args.op c.args.first (ops_of c.args.body.now)

pub loop-number-preserved : goal.loop-number-preserved
loop-number-preserved c =
    c.replace_all_uses.ensures.ops
    ∙ ap (all_replaced (Result c.args.op c.loop-number.number) (Result c.args.first c.loop-number.number)) c.loop-number.invariant
    ∙ goes_on c.args.op c.args.first c.loop-number.number (ops_of c.args.body.now)
    ∙ ap (λ n. map (with_merged_below n c.args.op c.args.first) (ops_of c.args.body.now)) (sym (add-one c.loop-number.number))

pub erase-requires-clause-live : goal.erase-requires-clause-live
erase-requires-clause-live c =
    let count : c.loop-number.number ≡ length (short_items c.op.result.results.now) = omega (arith, c.in-Ok.ensures, c.len.ensures) in
    let all = all_stand c.args.body.now c.args.op c.args.first c.op.result c.requires.fit c.op.ensures c.loop-number.number count (ops_of c.loop-number.body) c.loop-number.invariant in
    subst (λ ids. Contains ids c.args.op.index) (sym (ap ids_in all ∙ ids_merged c.args.op c.args.first (ops_of c.args.body.now))) c.requires.live

pub erase-requires-clause-unused : goal.erase-requires-clause-unused
erase-requires-clause-unused c =
    let count : c.loop-number.number ≡ length (short_items c.op.result.results.now) = omega (arith, c.in-Ok.ensures, c.len.ensures) in
    let all = all_stand c.args.body.now c.args.op c.args.first c.op.result c.requires.fit c.op.ensures c.loop-number.number count (ops_of c.loop-number.body) c.loop-number.invariant in
    subst (IsUnused c.args.op.index) (sym all)
    (unused_merged c.args.op c.args.first (is_other c.args.body.now c.args.op c.args.first c.requires.equal) (ops_of c.args.body.now) (fit_live c.args.body.now c.requires.fit))

pub returns-clause-merged : goal.returns-clause-merged
returns-clause-merged c =
    let count : c.loop-number.number ≡ length (short_items c.op.result.results.now) = omega (arith, c.in-Ok.ensures, c.len.ensures) in
    let all = all_stand c.args.body.now c.args.op c.args.first c.op.result c.requires.fit c.op.ensures c.loop-number.number count (ops_of c.loop-number.body) c.loop-number.invariant in
    c.erase.ensures.ops ∙ ap (taken_out c.args.op.index) all
