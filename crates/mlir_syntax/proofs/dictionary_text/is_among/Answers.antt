use Rattle.std.proofs.Common.{◌∙◌}
use Rattle.mlir_syntax.proofs.Keys.{among_any}
use Rattle.mlir_syntax.proofs.dictionary_text.is_among.Goals as goal

pub returns : goal.returns
returns c = c.contains.ensures ∙ among_any c.args.key.now c.args.keys.now.keys
