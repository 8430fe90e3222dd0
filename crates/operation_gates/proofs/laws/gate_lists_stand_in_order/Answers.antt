use Rattle.std.proofs.Common.{subst, [], map}
use Rattle.gate_words.specs.Computes.{word_of}
use Rattle.hw_model.specs.Types.{width}
use Rattle.operation_gates.specs.Operands.{TakesWidths}
use Rattle.operation_gates.proofs.WordLists.{lengths-word_of}
use Rattle.operation_gates.proofs.Fitting.{takes_widths}
use Rattle.operation_gates.proofs.Standing.{gate_list_stands, gate_list_width}
use Rattle.operation_gates.proofs.laws.gate_lists_stand_in_order.Goals as goal

pub returns : goal.returns
returns c = record {
  gates = λ kind w inputs gates xs takes short order within. (gate_list_stands kind w inputs gates xs takes short order within).order;
  signals = λ kind w inputs gates xs takes short order within. (gate_list_stands kind w inputs gates xs takes short order within).within;
  width = λ kind ts types t k inputs gates xs plain short fits have. gate_list_width kind ts types t k inputs gates xs plain short fits have;
  operands = λ kind ts types t k xs plain fits have.
      subst (TakesWidths kind (width t)) (lengths-word_of [] xs) (takes_widths kind ts types t k (map (word_of []) xs) plain fits have);
}
