-- What a table of taken names stands for.
use Rattle.std.specs.Prelude.{List, map}
use Rattle.fresh_names.specs.Fresh.{Name}
use Rattle.fresh_names.specs.declared.taken_names.TakenNames.{TakenNames}

-- the names in the order in which they were taken
abbrev pub taken_names : TakenNames → List Name
taken_names t = map (λ (name : _). name.items) t.names.keys
