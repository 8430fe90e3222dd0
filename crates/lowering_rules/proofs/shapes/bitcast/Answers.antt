use Rattle.std.proofs.Common.{◌≡◌, map, subst, ap, ap₂, ◌∙◌, Vec, Global}
use Rattle.std.specs.Prelude.{IfOk}
use Rattle.hw_model.specs.Types.{leaves}
use Rattle.hw_model.specs.TypeViews.{type_of}
use Rattle.hw_model.specs.Value.{nth_type}
use Rattle.aggregate_laws.specs.OperationRules.{all_leaves}
use Rattle.lowering_rules.specs.declared.pieces.Piece.{Piece}
use Rattle.lowering_rules.specs.Pieces.{piece_view, leaf_pieces_of, end_of}
use Rattle.lowering_rules.specs.Reading.{plain_of}
use Rattle.lowering_rules.specs.Shapes.{HasBlocks, bitcast_sizes}
use Rattle.lowering_rules.proofs.Cutting.{ends_are}
use Rattle.lowering_rules.proofs.shapes.bitcast.Goals as goal

pub returns : goal.returns
returns c =
    let o = plain_of c.args.op.now in
    let us = ap (map type_of) c.as_slice.ensures.value ∙ c.in_ok-own.ensures in
    let ts = ap (map type_of) c.as_slice-2.ensures.value ∙ c.in_ok-leaves.ensures in
    let cut = c.in_ok-pieces.ensures ∙ ap₂ (λ xs ys. map (map piece_view) (leaf_pieces_of 0 xs 0 ys)) us ts in
    let sizes : c.as_slice-4.result.now ≡ bitcast_sizes o =
    c.as_slice-4.ensures.value ∙ c.in_ok-sizes.ensures ∙ ap (map (λ (v : Vec Piece Global). end_of v.items)) c.as_slice-3.ensures.value
    ∙ ends_are (λ (v : Vec Piece Global). v.items) c.in_ok-pieces.pieces.items (leaf_pieces_of 0 (leaves (nth_type o.types 0)) 0 (all_leaves o)) cut in
    subst (λ ns. IfOk c.in_blocks.result (HasBlocks 0 ns)) sizes c.in_blocks.ensures
