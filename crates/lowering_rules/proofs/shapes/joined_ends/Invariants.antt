use Rattle.std.proofs.Common.{◌≡◌, map, take}
use Rattle.lowering_rules.specs.Pieces.{end_of}
use Rattle.lowering_rules.proofs.shapes.joined_ends.Given as goal

abbrev pub invariant-loop-one : goal.invariant-loop-one
invariant-loop-one l = l.sizes.items ≡ map (λ ps. end_of ps.items) (take l.one-index l.all)
