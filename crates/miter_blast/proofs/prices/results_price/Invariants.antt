use Rattle.std.proofs.Common.{◌≡◌, ℕ, List, min, map, take, length}
use Rattle.hw_model.specs.KindViews.{kind_of}
use Rattle.ir_store.specs.OperationViews.{result_of}
use Rattle.operation_gates.specs.Prices.{first_width}
use Rattle.flat_module_laws.specs.FlatPrices.{results_price}
use Rattle.miter_blast.proofs.prices.results_price.Given as goal

abbrev pub invariant-loop-one : goal.invariant-loop-one
invariant-loop-one l =
    (ns : List ℕ) → length ns ≡ l.operands.count → first_width ns ≡ l.operands.first
    → l.price ≡ min (results_price (kind_of l.kind) ns (map result_of (take l.one-index l.one-items))) 18446744073709551615
