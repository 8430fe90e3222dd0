use Rattle.std.proofs.Common.{◌≡◌, ◌+◌, ◌∷◌, ◌++◌, map, drop}
use Rattle.mlir_reader.specs.Resolving.{with_definitions, names_from, marks}
use Rattle.mlir_reader.specs.Meanings.{meanings_of}
use Rattle.mlir_reader.proofs.definitions.define_each.Given as goal

abbrev pub invariant-loop-index : goal.invariant-loop-index
invariant-loop-index l = record {
  means : with_definitions (meanings_of l.names) (names_from l.position (l.index + 1) (map (λ n. n.now) (drop l.index l.others)))
      ≡ with_definitions (meanings_of l.fn.names) (names_from l.position 0 (l.first ∷ map (λ n. n.now) l.others));
  marks : l.found.items ++ marks (meanings_of l.names) (names_from l.position (l.index + 1) (map (λ n. n.now) (drop l.index l.others)))
      ≡ l.fn.found.items ++ marks (meanings_of l.fn.names) (names_from l.position 0 (l.first ∷ map (λ n. n.now) l.others));
}
