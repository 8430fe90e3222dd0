-- What a table of legal names stands for.
use Rattle.std.specs.Prelude.{List, map}
use Rattle.hw_model.specs.Types.{Name}
use Rattle.fresh_names.specs.TakenViews.{taken_names}
use Rattle.name_legalise.specs.Kept.{names_at}
use Rattle.name_legalise.specs.declared.names.Names.{Names}

-- the legal names in the order in which they were added
abbrev pub legal_names : Names → List Name
legal_names n = names_at (taken_names n.taken) (map (λ (id : _). id.index) n.legal.items)
