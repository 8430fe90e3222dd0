use Rattle.op_verifier.proofs.Distinct.{distinct_symbols}
use Rattle.op_verifier.proofs.SoundDesigns.{sound_design}
use Rattle.op_verifier.proofs.laws.unrefused_designs_are_sound.Goals as goal

pub returns : goal.returns
returns c = record {
  sound = sound_design;
  distinct = distinct_symbols;
}
