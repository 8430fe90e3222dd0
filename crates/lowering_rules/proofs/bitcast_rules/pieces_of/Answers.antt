use Rattle.std.proofs.Common.{[], map, refl, ap, ◌∙◌, Vec, Global}
use Rattle.lowering_rules.specs.declared.pieces.Piece.{Piece}
use Rattle.lowering_rules.specs.Pieces.{code_piece}
use Rattle.lowering_rules.specs.PieceRules.{nth_views}
use Rattle.lowering_rules.proofs.Offsets.{position_index, position_past}
use Rattle.lowering_rules.proofs.bitcast_rules.pieces_of.Goals as goal

pub returns-in-Some : goal.returns-in-Some
returns-in-Some c =
    let h = c.in-Some.ensures.lookup in
    ap (map code_piece) c.as_slice.ensures.value
    ∙ position_index nth_views (λ (v : Vec Piece Global). map code_piece v.items) (λ y ys. refl) (λ y ys n. refl) c.args.all.now c.args.number c.in-Some.pieces.now h.3.0 h.1

pub returns-in-None : goal.returns-in-None
returns-in-None c =
    let h = c.in-None.ensures.lookup in
    position_past nth_views (λ (v : Vec Piece Global). map code_piece v.items) [] (λ n. refl) (λ y ys n. refl) c.args.all.now c.args.number h.3
