use Rattle.std.proofs.Common.{◌↔◌, map, drop, Some}
use Rattle.hw_model.specs.TypeViews.{type_of}
use Rattle.ir_store.specs.OperationViews.{result_of}
use Rattle.stored_form.specs.ResultTypes.{HaveTypes}
use Rattle.stored_form.proofs.result_types.have_these_types.Given as goal

abbrev pub invariant-loop-ty : goal.invariant-loop-ty
invariant-loop-ty l =
    HaveTypes (map result_of l.results) (map Some (map type_of l.types)) ↔ HaveTypes (map result_of l.rest) (map Some (map type_of (drop l.ty-index l.types)))
