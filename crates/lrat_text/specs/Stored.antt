-- The clauses that are kept, by their numbers, and what holds between lines, as the code has them.
use Rattle.std.specs.Prelude.{nat_eq}
use Rattle.std.specs.HashMap.{get}
use Rattle.lrat_text.specs.declared.clauses.Clauses.{Clauses}
use Rattle.lrat_text.specs.declared.progress.Progress.{Progress}
use Rattle.lrat_text.specs.Hints.{Store}
use Rattle.lrat_text.specs.Checking.{State}

-- the clauses by their numbers
abbrev pub store_of : Clauses → Store
store_of c n = get nat_eq c.by_number n

-- what holds between lines
abbrev pub state_of : Progress → State
state_of p = record { store = store_of p.clauses; last = p.last; done = p.done }
