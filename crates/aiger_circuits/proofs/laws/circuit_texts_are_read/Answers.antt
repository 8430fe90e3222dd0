use Rattle.aiger_circuits.proofs.ReadCircuits.{all_in_lines}
use Rattle.aiger_circuits.proofs.WholeTexts.{circuit_text_is_aiger}
use Rattle.aiger_circuits.proofs.laws.circuit_texts_are_read.Goals as goal

pub returns : goal.returns
returns c = λ inputs outputs nexts gates few outputs_within nexts_within order names some few_names first second third.
    circuit_text_is_aiger inputs outputs nexts gates few outputs_within nexts_within order names some few_names (all_in_lines names few_names first second third)
