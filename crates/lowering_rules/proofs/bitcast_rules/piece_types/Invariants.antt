use Rattle.std.proofs.Common.{◌≡◌, map, take}
use Rattle.ir_store.specs.OperationViews.{types_in}
use Rattle.lowering_rules.specs.Pieces.{code_piece}
use Rattle.lowering_rules.specs.PieceRules.{view_type}
use Rattle.lowering_rules.proofs.bitcast_rules.piece_types.Given as goal

abbrev pub invariant-loop-piece : goal.invariant-loop-piece
invariant-loop-piece l = types_in l.types ≡ map view_type (map code_piece (take l.piece-index l.pieces))
