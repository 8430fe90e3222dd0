use Rattle.std.proofs.Common.{◌≡◌, map, drop}
use Rattle.mlir_syntax.specs.AttributeText.{is_among}
use Rattle.mlir_operations.proofs.operation_names.is_among.Given as goal

abbrev pub invariant-loop-one : goal.invariant-loop-one
invariant-loop-one l = is_among l.name (map (λ n. n.now) l.names) ≡ is_among l.name (map (λ n. n.now) (drop l.one-index l.names))
