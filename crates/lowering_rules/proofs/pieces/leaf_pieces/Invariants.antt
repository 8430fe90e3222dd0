use Rattle.std.proofs.Common.{◌≡◌, ◌++◌, map, drop}
use Rattle.hw_model.specs.TypeViews.{type_of}
use Rattle.lowering_rules.specs.Pieces.{code_piece, piece_view, leaf_pieces_of, SkipsWithin, rest_types}
use Rattle.lowering_rules.proofs.pieces.leaf_pieces.Given as goal

abbrev pub invariant-loop-leaf : goal.invariant-loop-leaf
invariant-loop-leaf l = record {
  pieces : map (λ ps. map code_piece ps.items) l.all.items ++ map (map piece_view) (leaf_pieces_of l.rest.value (rest_types l.rest) l.rest.skip (map type_of (drop l.leaf-index l.leaves)))
      ≡ map (map piece_view) (leaf_pieces_of 0 (map type_of l.types) 0 (map type_of l.leaves));
  within : SkipsWithin l.rest.skip (rest_types l.rest);
}
