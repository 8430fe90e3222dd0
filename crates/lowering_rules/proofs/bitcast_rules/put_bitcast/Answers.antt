use Rattle.std.proofs.Common.{◌++◌, map, ap, ◌∙◌, Vec, Global}
use Rattle.std.proofs.lemmas.Result.{on_ok_weaker}
use Rattle.hw_model.specs.Types.{leaves}
use Rattle.hw_model.specs.TypeViews.{type_of}
use Rattle.hw_model.specs.Value.{nth_type}
use Rattle.lowering_rules.specs.declared.pieces.Piece.{Piece}
use Rattle.lowering_rules.specs.Made.{made_in}
use Rattle.lowering_rules.specs.Pieces.{code_piece}
use Rattle.lowering_rules.specs.Reading.{plain_of, new_refs}
use Rattle.lowering_rules.proofs.PieceOps.{bitcast_made}
use Rattle.lowering_rules.proofs.bitcast_rules.put_bitcast.Goals as goal

pub returns : goal.returns
returns c =
    let o = plain_of c.args.op.now in
    let seen = λ (v : Vec Piece Global). map code_piece v.items in
    let types = ap (map type_of) c.as_slice-types.ensures.value ∙ c.in_ok-own.ensures in
    let cut = ap (map seen) c.as_slice.ensures.value ∙ c.in_ok-all.ensures in
    let same = bitcast_made o (new_refs c.args.values.now) (leaves (nth_type o.types 0)) (map type_of c.as_slice-types.result.now) (map seen c.as_slice.result.now) c.args.start (map type_of c.args.leaves.now) types cut in
    on_ok_weaker c.put_leaves.result (λ put. put ∙ ap (λ os. made_in c.args.made.now.items ++ os) same) c.put_leaves.ensures
