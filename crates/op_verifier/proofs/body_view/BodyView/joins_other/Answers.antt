use Rattle.std.proofs.Common.{map, slice_get, option_and_then, sym, ap, ◌∙◌}
use Rattle.hw_model.specs.Design.{find_module}
use Rattle.ir_store.specs.Designs.{port_of, design_of, modules_of, module_of, numbered_module}
use Rattle.ir_store.proofs.StoredModules.{stored_at}
use Rattle.port_checks.specs.Marked.{has_reset, is_reset_of}
use Rattle.op_verifier.specs.BodyViews.{ports_viewed, ref_viewed}
use Rattle.op_verifier.specs.ResetChecks.{has_other_join}
use Rattle.op_verifier.proofs.ResetJoins.{join_found}
use Rattle.op_verifier.proofs.body_view.BodyView.joins_other.Goals as goal

pub returns-in-Some : goal.returns-in-Some
returns-in-Some c =
    let v = c.args.self.now in
    let d = c.args.design.now in
    let m = numbered_module (module_of c.module.result.now) in
    let there = stored_at (modules_of d) c.in-Some.number (module_of c.module.result.now) c.module.ensures in
    let found = sym (c.find.ensures.module ∙ ap (find_module (design_of d)) c.as_bytes.ensures) ∙ ap (option_and_then (slice_get (design_of d))) c.in-Some.is ∙ there in
    join_found (design_of d) (ports_viewed v) (map (ref_viewed v) c.args.operands.now) c.deref.result.now (has_reset c.args.resets.now c.in-Some.number) m _
    c.joins_other_among.result found (ap (map port_of) c.deref.ensures.value) (λ k. c.requires c.in-Some.number k ∙ ap (is_reset_of (design_of d) k) there) c.joins_other_among.ensures

pub returns-in-None : goal.returns-in-None
returns-in-None c =
    let v = c.args.self.now in
    let d = c.args.design.now in
    ap (has_other_join (design_of d) (ports_viewed v) (map (ref_viewed v) c.args.operands.now))
    (ap (option_and_then (slice_get (design_of d))) (sym c.in-None.is) ∙ c.find.ensures.module ∙ ap (find_module (design_of d)) c.as_bytes.ensures)
