use Rattle.std.proofs.Common.{refl, subst, ◌+◌, map, length}
use Rattle.gates.proofs.Instances.{bits_under}
use Rattle.gate_words.specs.Computes.{word_of, Computes}
use Rattle.gate_words.proofs.Computing.{computes, counting}
use Rattle.hw_model.specs.Types.{width}
use Rattle.hw_model.specs.Value.{op_value}
use Rattle.operation_gates.specs.OperationGateLists.{gate_list_of}
use Rattle.operation_gates.specs.Prices.{price}
use Rattle.operation_gates.proofs.WordLists.{carries_own_words, carries_any_words, lengths-word_of}
use Rattle.operation_gates.proofs.KindGateLists.{makes-gate_list}
use Rattle.operation_gates.proofs.Fitting.{takes_widths}
use Rattle.operation_gates.proofs.laws.gate_lists_compute.Goals as goal

pub returns : goal.returns
returns c = λ kind ts types t k m inputs gates xs plain short fits have.
    let us = map (word_of m) xs in
    let n = inputs + length gates in
    let takes = takes_widths kind ts types t k us plain fits have in
    subst (λ ns. Computes (gate_list_of kind (width t) xs) m inputs gates (op_value kind ts t k us) (price kind (width t) ns)) (lengths-word_of m xs)
    (computes (gate_list_of kind (width t) xs) m inputs gates (op_value kind ts t k us) (op_value kind ts t k us) (price kind (width t) (map length us)) refl
    (makes-gate_list (bits_under m inputs) n kind ts t k us xs (carries_own_words m inputs n xs) takes short)
    (makes-gate_list (counting inputs) n kind ts t k us xs (carries_any_words inputs n m xs) takes short))
