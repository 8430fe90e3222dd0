use Rattle.std.proofs.Common.{◌≡◌, map, rules}
use Rattle.hw_model.specs.Types.{width, leaves, list_copies}
use Rattle.hw_model.specs.TypeViews.{type_of}
use Rattle.hw_model.specs.declared.types.Ty.{the_lemmas}
use Rattle.design_cycles.proofs.Inputs.{if_ok}
use Rattle.run_lists.specs.Runs.{expanded, many, AreRunsOf}
use Rattle.module_sums.proofs.LeafRuns.{array_runs, one_field_more}
use Rattle.module_sums.proofs.leaf_runs.+type_runs.Goals as goal

pub field_runs-loop-field-preserved : goal.field_runs-loop-field-preserved
field_runs-loop-field-preserved t c = (
  one_field_more c.deref-field-items.result.now c.loop-field.field-index c.field-item.result
      (expanded c.loop-field.all.runs.items) (expanded c.in_ok-one.one.runs.items) (expanded c.push_list.new.list.runs.items)
      c.loop-field-test.true c.field-item.is c.loop-field.invariant.0 c.in_ok-one.ensures.numbers c.in_ok-push_list.ensures.numbers,
  c.in_ok-push_list.ensures.apart,
)

pub type_runs-returns-in_ok-one-in-Array : goal.type_runs-returns-in_ok-one-in-Array
type_runs-returns-in_ok-one-in-Array t c =
    let e : leaves (type_of c.args.ty.now) ≡ list_copies c.in-Array.length (leaves (type_of c.deref.result.now)) = search (rules, the_lemmas) in
    if_ok (λ list. AreRunsOf (many c.in-Array.length (expanded c.in_ok-one-in-Array.one.runs.items)) list.runs.items)
    (λ list. AreRunsOf (map width (leaves (type_of c.args.ty.now))) list.runs.items) c.copies.result
    (λ list are. array_runs c.in-Array.length (leaves (type_of c.args.ty.now)) (leaves (type_of c.deref.result.now)) (expanded c.in_ok-one-in-Array.one.runs.items) list.runs.items e c.in_ok-one-in-Array.ensures.numbers are)
    c.copies.ensures
