-- What the checks see of an operation in code.
use Rattle.std.specs.Prelude.{List, map}
use Rattle.hw_model.specs.Types.{HwType}
use Rattle.hw_model.specs.Design.{OpResult}
use Rattle.ir_store.specs.OperationViews.{results_in}
use Rattle.ir_store.specs.declared.operation.NewResult.{NewResult}
use Rattle.ir_store.specs.declared.short_list.ShortList.{ShortList}

-- the types of results
abbrev pub result_types_in : ShortList NewResult → List HwType
result_types_in l = map (λ (r : OpResult). r.type) (results_in l)
