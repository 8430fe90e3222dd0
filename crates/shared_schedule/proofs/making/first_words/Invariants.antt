use Rattle.std.proofs.Common.{◌≡◌, ◌∷◌, map, take, length}
use Rattle.shared_schedule.proofs.making.first_words.Given as goal

abbrev pub invariant-loop-row : goal.invariant-loop-row
invariant-loop-row l = l.words.items ≡ 0 ∷ map (λ row. length row.items) (take l.row-index l.callees)
