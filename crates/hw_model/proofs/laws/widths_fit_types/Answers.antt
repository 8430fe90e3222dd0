use Rattle.hw_model.proofs.NetWidths.{value_widths}
use Rattle.hw_model.proofs.Widths.{fits_width}
use Rattle.hw_model.proofs.laws.widths_fit_types.Goals as goal

pub returns-clause-nets : goal.returns-clause-nets
returns-clause-nets c = λ d top inputs content map_of sound. value_widths d top sound inputs content map_of

pub returns-clause-kinds : goal.returns-clause-kinds
returns-clause-kinds c = fits_width
