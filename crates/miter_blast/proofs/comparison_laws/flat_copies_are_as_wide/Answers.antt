use Rattle.miter_blast.proofs.CopyWidths.{kept_inputs, kept_outputs, kept_widths, kept_state}
use Rattle.miter_blast.proofs.comparison_laws.flat_copies_are_as_wide.Goals as goal

pub returns : goal.returns
returns c = record {
  inputs = kept_inputs;
  outputs = kept_outputs;
  held = kept_widths;
  size = kept_state;
}
