-- The prices of results, one after another.
use Rattle.std.proofs.Common.{◌≡◌, ℕ, ◌+◌, ◌<◌, min, List, [], ◌∷◌, ◌++◌, length, map, take, get_or, sym, arith}
use Rattle.std.proofs.lemmas.List.{map_more}
use Rattle.hw_model.specs.Types.{width}
use Rattle.hw_model.specs.Kinds.{Kind}
use Rattle.hw_model.specs.Design.{OpResult}
use Rattle.hw_model.specs.TypeViews.{type_of}
use Rattle.hw_model.proofs.FieldSums.{capped_more}
use Rattle.ir_store.specs.OperationViews.{result_of}
use Rattle.ir_store.specs.declared.operation.NewResult.{NewResult}
use Rattle.operation_gates.specs.Prices.{price}
use Rattle.flat_module_laws.specs.FlatPrices.{results_price}

results-push : (kind : Kind) (ns : List ℕ) (rs : List OpResult) (r : OpResult) → results_price kind ns (rs ++ r ∷ []) ≡ results_price kind ns rs + price kind (width r.type) ns
results-push kind ns [] r = omega arith
results-push kind ns (x ∷ rs) r = let rest = results-push kind ns rs r in omega (arith, rest)

pub results_more : (kind : Kind) (ns : List ℕ) (xs : List NewResult) (i : ℕ) (x : NewResult) (sum now next m : ℕ) → i < length xs → x ≡ get_or xs i x
    → sum ≡ min (results_price kind ns (map result_of (take i xs))) m → now ≡ min (price kind (width (type_of x.ty)) ns) m → next ≡ min (sum + now) m
    → next ≡ min (results_price kind ns (map result_of (take (i + 1) xs))) m
results_more kind ns xs i x sum now next m below is p q r =
    rw (map_more result_of xs i x below, results-push kind ns (map result_of (take i xs)) (result_of (get_or xs i x)), sym is)
    (capped_more (results_price kind ns (map result_of (take i xs))) (price kind (width (type_of x.ty)) ns) sum now next m p q r)
