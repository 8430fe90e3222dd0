use Rattle.std.proofs.Common.{◌≡◌, ◌++◌, map, drop}
use Rattle.hw_model.specs.TypeViews.{type_of}
use Rattle.lowering_rules.specs.Made.{made_in}
use Rattle.lowering_rules.specs.Pieces.{code_piece}
use Rattle.lowering_rules.specs.PieceRules.{view_extracts}
use Rattle.lowering_rules.specs.Reading.{plain_of, new_refs}
use Rattle.lowering_rules.proofs.bitcast_rules.put_extracts.Given as goal

abbrev pub invariant-loop-piece : goal.invariant-loop-piece
invariant-loop-piece l =
    made_in l.made.items ++ view_extracts (plain_of l.op) (new_refs l.values) (map type_of l.types) (map code_piece (drop l.piece-index l.pieces))
    ≡ made_in l.fn.made.items ++ view_extracts (plain_of l.op) (new_refs l.values) (map type_of l.types) (map code_piece l.pieces)
