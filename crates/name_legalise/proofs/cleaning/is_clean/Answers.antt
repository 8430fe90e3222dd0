use Rattle.std.proofs.Common.{sym, ◌∙◌}
use Rattle.name_legalise.proofs.NameBytes.{clean_same}
use Rattle.name_legalise.proofs.cleaning.is_clean.Goals as goal

pub returns-then-starts_name : goal.returns-then-starts_name
returns-then-starts_name c h = clean_same c.args.wanted.now (sym c.if-starts_name.ensures) (sym c.has_name_bytes.ensures ∙ h)
