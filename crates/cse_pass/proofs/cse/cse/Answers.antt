use Rattle.std.proofs.Common.{List, Result, Ok, Err, OnOk, OnErr, sym, subst}
use Rattle.hw_model.specs.Design.{Op}
use Rattle.body_edits.specs.Views.{body_ops}
use Rattle.cse_pass.specs.Cse.{IsCseOf}
use Rattle.cse_pass.specs.Merges.{MergesInto, IsMerged}
use Rattle.cse_pass.specs.Orders.{AreInOrder}
use Rattle.cse_pass.specs.Trims.{TrimsInto, IsTrimmed}
use Rattle.cse_pass.proofs.Leading.{no_change, changes_then, merges_change, trims_change}
use Rattle.cse_pass.proofs.MergedBefore.{merged_before}
use Rattle.cse_pass.proofs.TrimmedBefore.{trimmed_before}
use Rattle.cse_pass.proofs.cse.cse.Goals as goal

-- what holds holds of an error
on_err : {T E : Type 0} (r : Result T E) {P : Type 0} → P → OnErr r P
on_err (Ok x) p = tt
on_err (Err e) p = p

on_ok : {T E : Type 0} (r : Result T E) {P Q : Type 0} → (P → Q) → OnOk r P → OnOk r Q
on_ok (Ok x) f p = f p
on_ok (Err e) f p = tt

-- merges and trims before the sweeps do not matter
cse_before : (os a b m after : List Op) → MergesInto os a → IsMerged a b → TrimsInto b m → IsTrimmed m after → IsCseOf os after
cse_before os a b m after along merged gone trimmed = record { between = b; merged = merged_before os a b along merged; trimmed = trimmed_before b m after gone trimmed }

pub merge_along-requires-clause-ordered : goal.merge_along-requires-clause-ordered
merge_along-requires-clause-ordered c = subst (λ xs. AreInOrder xs c.args.body.now) (sym c.as_slice-2.ensures.value) c.in_ok-levels.ensures

pub returns-in_err-levels-clause-partly : goal.returns-in_err-levels-clause-partly
returns-in_err-levels-clause-partly c = on_err c.from_residual.result (no_change (body_ops c.args.body.now))

pub returns-in_err-merge_along-clause-partly : goal.returns-in_err-merge_along-clause-partly
returns-in_err-merge_along-clause-partly c =
    on_err c.from_residual-in_err-merge_along.result (merges_change (body_ops c.args.body.now) (body_ops c.merge_along.new.body) c.merge_along.ensures.merges)

pub returns-in_err-merge_equal-clause-partly : goal.returns-in_err-merge_equal-clause-partly
returns-in_err-merge_equal-clause-partly c =
    on_err c.from_residual-in_err-merge_equal.result
    (changes_then (body_ops c.args.body.now) (body_ops c.merge_along.new.body) (body_ops c.merge_equal.new.body)
    (merges_change (body_ops c.args.body.now) (body_ops c.merge_along.new.body) c.merge_along.ensures.merges) c.merge_equal.ensures.changes)

pub returns-clause-cse : goal.returns-clause-cse
returns-clause-cse c =
    on_ok c.trim.result
    (cse_before (body_ops c.args.body.now) (body_ops c.merge_along.new.body) (body_ops c.merge_equal.new.body) (body_ops c.trim_along.new.body) (body_ops c.trim.new.body)
    c.merge_along.ensures.merges c.in_ok-merge_equal.ensures.merged c.trim_along.ensures.trims) c.trim.ensures.trimmed

pub returns-clause-partly : goal.returns-clause-partly
returns-clause-partly c =
    on_err c.trim.result
    (changes_then (body_ops c.args.body.now) (body_ops c.merge_along.new.body) (body_ops c.trim.new.body)
    (merges_change (body_ops c.args.body.now) (body_ops c.merge_along.new.body) c.merge_along.ensures.merges)
    (changes_then (body_ops c.merge_along.new.body) (body_ops c.merge_equal.new.body) (body_ops c.trim.new.body) c.merge_equal.ensures.changes
    (changes_then (body_ops c.merge_equal.new.body) (body_ops c.trim_along.new.body) (body_ops c.trim.new.body)
    (trims_change (body_ops c.merge_equal.new.body) (body_ops c.trim_along.new.body) c.trim_along.ensures.trims) c.trim.ensures.changes)))
