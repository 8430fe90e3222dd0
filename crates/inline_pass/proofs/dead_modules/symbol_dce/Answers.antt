use Rattle.std.proofs.Common.{subst, sym, ap, ◌∙◌}
use Rattle.std.specs.List.{list_all}
use Rattle.std.proofs.lemmas.Result.{on_ok_weaker}
use Rattle.ir_store.specs.Designs.{design_of}
use Rattle.pass_laws.specs.Remaining.{IsReached}
use Rattle.op_verifier.proofs.Distinct.{distinct_symbols}
use Rattle.inline_pass.specs.DeadModules.{AreReachedOf}
use Rattle.inline_pass.specs.Marks.{marked}
use Rattle.inline_pass.proofs.ReachedLists.{marked_reached, all_reached}
use Rattle.inline_pass.proofs.dead_modules.symbol_dce.Goals as goal

pub reached_modules-requires : goal.reached_modules-requires
reached_modules-requires c = distinct_symbols (design_of c.args.design.now) c.requires.unrefused

pub returns-then-are_all_set : goal.returns-then-are_all_set
returns-then-are_all_set c =
    all_reached (IsReached (design_of c.args.design.now)) (design_of c.args.design.now) c.in_ok-marks.marks.items c.in_ok-marks.ensures.count c.in_ok-marks.ensures.says
    (ap (list_all (λ b. b)) (sym c.as_slice.ensures.value) ∙ sym c.are_all_set.ensures ∙ c.if-are_all_set.true)

pub returns : goal.returns
returns c =
    on_ok_weaker c.keep_marked.result
    (λ kept. subst (AreReachedOf (IsReached (design_of c.args.design.now)) (design_of c.args.design.now))
    (ap (λ marks. marked marks (design_of c.args.design.now)) (sym c.as_slice-2.ensures.value) ∙ sym kept)
    (marked_reached (IsReached (design_of c.args.design.now)) (design_of c.args.design.now) c.in_ok-marks.marks.items c.in_ok-marks.ensures.count c.in_ok-marks.ensures.says))
    c.keep_marked.ensures
