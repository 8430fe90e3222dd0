use Rattle.std.proofs.Common.{◌≡◌, map, take}
use Rattle.hw_model.specs.TypeViews.{type_of}
use Rattle.ir_store.specs.OperationViews.{results_in}
use Rattle.aggregate_laws.specs.Leaves.{bare_result}
use Rattle.lowering_rules.proofs.blocks.bare_results.Given as goal

abbrev pub invariant-loop-ty : goal.invariant-loop-ty
invariant-loop-ty l = results_in l.results ≡ map bare_result (map type_of (take l.ty-index l.types))
