use Rattle.std.proofs.Common.{ap, ◌∙◌}
use Rattle.cse_pass.specs.Hashes.{with_values, hash_of}
use Rattle.cse_pass.proofs.hashes.hash_of.Goals as goal

pub returns : goal.returns
unfolding hash_of
returns c = c.with_values.ensures ∙ ap (λ h. with_values h c.args.op.now.operands.now) c.attribute_number.ensures
