use Rattle.std.proofs.Common.{◌≡◌, ◌+◌, drop}
use Rattle.lrat_text.specs.Checking.{numbered, no_clauses}
use Rattle.lrat_text.specs.Stored.{store_of}
use Rattle.lrat_text.proofs.progress.numbered.Given as goal

abbrev pub invariant-loop-i : goal.invariant-loop-i
invariant-loop-i l = numbered (l.i + 1) (store_of l.clauses) (drop l.i l.given) ≡ numbered 1 no_clauses l.given
