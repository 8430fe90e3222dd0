use Rattle.std.proofs.Common.{◌≡◌, map, drop}
use Rattle.verilog_model.specs.Checks.{contains_name}
use Rattle.name_legalise.proofs.reserved.is_among.Given as goal

abbrev pub invariant-loop-word : goal.invariant-loop-word
invariant-loop-word l = contains_name l.name (map (λ w. w.now) l.words) ≡ contains_name l.name (map (λ w. w.now) (drop l.word-index l.words))
