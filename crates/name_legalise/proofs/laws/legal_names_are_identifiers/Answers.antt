use Rattle.std.proofs.Common.{[], arith, sym, ◌∙◌}
use Rattle.name_legalise.proofs.Members.{contains_name-is_taken}
use Rattle.name_legalise.proofs.Legals.{legal_checks, legal_count, legal_after_free}
use Rattle.name_legalise.proofs.laws.legal_names_are_identifiers.Goals as goal

pub returns-clause-checks : goal.returns-clause-checks
returns-clause-checks c = λ wanted small. legal_checks [] wanted (omega (arith, small))

pub returns-clause-checks_after : goal.returns-clause-checks_after
returns-clause-checks_after c = legal_checks

pub returns-clause-count : goal.returns-clause-count
returns-clause-count c = legal_count

pub returns-clause-free : goal.returns-clause-free
returns-clause-free c = λ taken wanted name small t. legal_after_free taken wanted name small (sym (contains_name-is_taken name taken) ∙ t)
