use Rattle.std.proofs.Common.{◌++◌, ◌∷◌, [], ◌+◌, map, drop, ap, ◌∙◌, Vec, Global, sym}
use Rattle.std.proofs.lemmas.List.{map-append}
use Rattle.hw_model.specs.TypeViews.{type_of}
use Rattle.wiring.proofs.Joined.{split_at}
use Rattle.lowering_rules.specs.declared.pieces.Piece.{Piece}
use Rattle.lowering_rules.specs.Pieces.{code_piece, piece_view, leaf_pieces_of, rest_types}
use Rattle.lowering_rules.proofs.Cutting.{pieces_more}
use Rattle.lowering_rules.proofs.pieces.leaf_pieces.Goals as goal

pub loop-leaf-preserved : goal.loop-leaf-preserved
loop-leaf-preserved c =
    let seen = λ (v : Vec Piece Global). map code_piece v.items in
    let before = c.loop-leaf.rest in
    let i = c.loop-leaf.leaf-index in
    let split = split_at c.args.leaves.now i c.leaf-item.result c.loop-leaf-test.true c.leaf-item.is in
    record {
      pieces = pieces_more (map seen c.loop-leaf.all.items) (map seen c.push.new.self.items) (map (map piece_view) (leaf_pieces_of 0 (map type_of c.args.types.now) 0 (map type_of c.args.leaves.now)))
          before c.in_ok-pieces.left c.in_ok-small_width.field-0 c.in_ok-pieces.pieces.items (type_of c.leaf-item.result) (map type_of (drop (i + 1) c.args.leaves.now))
          (ap (map seen) c.in_ok-push.ensures.items ∙ map-append seen c.loop-leaf.all.items (c.in_ok-pieces.pieces ∷ []))
          c.in_ok-small_width.ensures c.in_ok-pieces.ensures
          (ap (λ ls. map seen c.loop-leaf.all.items ++ map (map piece_view) (leaf_pieces_of before.value (rest_types before) before.skip (map type_of ls))) (sym split) ∙ c.loop-leaf.invariant.pieces);
      within = c.in_ok-pieces.ensures.within;
    }
