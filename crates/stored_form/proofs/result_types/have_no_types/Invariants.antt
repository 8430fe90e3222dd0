use Rattle.std.proofs.Common.{take, map}
use Rattle.ir_store.specs.OperationViews.{result_of}
use Rattle.stored_form.specs.Bytes.{Each}
use Rattle.stored_form.proofs.Results.{IsNone}
use Rattle.stored_form.proofs.result_types.have_no_types.Given as goal

abbrev pub invariant-loop-one : goal.invariant-loop-one
invariant-loop-one l = Each IsNone (map result_of (take l.one-index l.results))
