use Rattle.std.proofs.Common.{◌∙◌}
use Rattle.circt_top.proofs.Compared.{last_at}
use Rattle.circt_top.proofs.comparing.last_input.Goals as goal

pub returns-in-len1-up : goal.returns-in-len1-up
returns-in-len1-up c = c.as_bytes.ensures ∙ (c.source-item.is ∙ last_at c.source-item.result c.args.sources.now c.in-len1-up.len_at_least)
