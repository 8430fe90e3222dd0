use Rattle.std.proofs.Common.{refl, sym, ap, ◌∙◌, true, false}
use Rattle.ir_store.specs.declared.body.Body.{Body}
use Rattle.ir_store.specs.Bodies.{ops_of}
use Rattle.ir_store.specs.Designs.{ports_in}
use Rattle.ir_store.specs.Numbered.{ops_by_position}
use Rattle.and_gates.specs.Clocks.{has_several_clocks, has_async}
use Rattle.and_gates.specs.Faults.{is_too_large}
use Rattle.and_gates.proofs.Limits.{fault_by}
use Rattle.and_gates.proofs.faults.export_fault.Goals as goal

pub returns-then-branch : goal.returns-then-branch
returns-then-branch c =
    let ps = ports_in c.args.module.now.ports in
    let os = ops_by_position (ops_of c.args.module.now.body) in
    fault_by ps os true (has_async os) (is_too_large ps os)
    (sym c.if-branch.true ∙ c.in_ok-has_several_clocks.ensures ∙ ap (λ (b : Body). has_several_clocks (ops_by_position (ops_of b))) c.in_ok-ops.ensures)
    refl refl

pub returns-then-has_async : goal.returns-then-has_async
returns-then-has_async c =
    let ps = ports_in c.args.module.now.ports in
    let os = ops_by_position (ops_of c.args.module.now.body) in
    fault_by ps os false true (is_too_large ps os)
    (sym c.if-branch.false ∙ c.in_ok-has_several_clocks.ensures ∙ ap (λ (b : Body). has_several_clocks (ops_by_position (ops_of b))) c.in_ok-ops.ensures)
    (sym c.if-has_async.true ∙ c.has_async.ensures ∙ ap (λ (b : Body). has_async (ops_by_position (ops_of b))) c.in_ok-ops.ensures)
    refl

pub returns-then-branch-2 : goal.returns-then-branch-2
returns-then-branch-2 c =
    let ps = ports_in c.args.module.now.ports in
    let os = ops_by_position (ops_of c.args.module.now.body) in
    fault_by ps os false false true
    (sym c.if-branch.false ∙ c.in_ok-has_several_clocks.ensures ∙ ap (λ (b : Body). has_several_clocks (ops_by_position (ops_of b))) c.in_ok-ops.ensures)
    (sym c.if-has_async.false ∙ c.has_async.ensures ∙ ap (λ (b : Body). has_async (ops_by_position (ops_of b))) c.in_ok-ops.ensures)
    (sym c.if-branch-2.true ∙ c.in_ok-is_too_large.ensures)

pub returns : goal.returns
returns c =
    let ps = ports_in c.args.module.now.ports in
    let os = ops_by_position (ops_of c.args.module.now.body) in
    fault_by ps os false false false
    (sym c.if-branch.false ∙ c.in_ok-has_several_clocks.ensures ∙ ap (λ (b : Body). has_several_clocks (ops_by_position (ops_of b))) c.in_ok-ops.ensures)
    (sym c.if-has_async.false ∙ c.has_async.ensures ∙ ap (λ (b : Body). has_async (ops_by_position (ops_of b))) c.in_ok-ops.ensures)
    (sym c.if-branch-2.false ∙ c.in_ok-is_too_large.ensures)
