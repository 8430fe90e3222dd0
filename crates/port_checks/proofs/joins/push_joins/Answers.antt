use Rattle.std.proofs.Common.{take, subst, sym, arith}
use Rattle.ir_store.specs.Designs.{modules_of, module_of, numbered_module, design_of}
use Rattle.graphs.specs.Graphs.{lists_of}
use Rattle.port_checks.specs.Pairs.{AddsPairs}
use Rattle.port_checks.specs.Joins.{pairs_in, made_from}
use Rattle.port_checks.proofs.Pairs.{adds_none, adds_both}
use Rattle.port_checks.proofs.Making.{modules_more, modules_all}
use Rattle.port_checks.proofs.joins.push_joins.Goals as goal

pub loop-number-init : goal.loop-number-init
loop-number-init c = adds_none (lists_of c.args.joined.now.items)

pub loop-number-preserved : goal.loop-number-preserved
loop-number-preserved c =
    let d = design_of c.args.design.now in
    let f = pairs_in d c.args.starts.now in
    subst (λ ps. AddsPairs ps (lists_of c.args.joined.now.items) (lists_of c.push_module.new.joined.items))
    (sym (modules_more f (modules_of c.args.design.now) c.loop-number.number (module_of c.module.result.now) c.module.ensures))
    (adds_both (made_from f 0 (take c.loop-number.number d)) (f c.loop-number.number (numbered_module (module_of c.module.result.now)))
    (lists_of c.args.joined.now.items) (lists_of c.loop-number.joined.items) (lists_of c.push_module.new.joined.items) c.loop-number.invariant c.in_ok-push_module.ensures)

pub returns : goal.returns
returns c =
    subst (λ ps. AddsPairs ps (lists_of c.args.joined.now.items) (lists_of c.loop-number.joined.items))
    (modules_all (pairs_in (design_of c.args.design.now) c.args.starts.now) (modules_of c.args.design.now) c.loop-number.number (omega (arith, c.module_count-number-end.ensures)))
    c.loop-number.invariant
