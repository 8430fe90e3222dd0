use Rattle.op_verifier.proofs.AcceptedDesigns.{no_fault, accepted_distinct, accepted_finite, accepted_acyclic, constant_in_range}
use Rattle.op_verifier.proofs.SoundDesigns.{sound_design}
use Rattle.op_verifier.proofs.laws.accepted_designs_are_sound.Goals as goal

pub returns : goal.returns
returns c = record {
  sound = λ d accepted. sound_design d (no_fault d accepted);
  distinct = accepted_distinct;
  finite = accepted_finite;
  acyclic = accepted_acyclic;
  constants = constant_in_range;
}
