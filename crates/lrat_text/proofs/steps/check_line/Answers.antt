use Rattle.std.proofs.Common.{List, cond, sym, ap, ◌∙◌}
use Rattle.std.specs.Prelude.{None, Some}
use Rattle.resolution_proof.specs.declared.literal.Literal.{Literal}
use Rattle.diag.specs.declared.cause.Cause.TheVariants.{UnknownClause}
use Rattle.lrat_text.specs.declared.proof_line.Form.{Form}
use Rattle.lrat_text.specs.Checking.{line_fault, are_there}
use Rattle.lrat_text.specs.Stored.{state_of, store_of}
use Rattle.lrat_text.specs.Reads.{line_by}
use Rattle.lrat_text.proofs.steps.check_line.Goals as goal

pub returns-in-Deletes-clause-fault : goal.returns-in-Deletes-clause-fault
returns-in-Deletes-clause-fault c =
    c.delete.ensures.fault
    ∙ ap (λ (ns : List Literal). cond (are_there (store_of c.args.progress.now.clauses) ns) None (Some UnknownClause)) c.deref.ensures.value
    ∙ sym (ap (λ (f : Form). line_fault c.args.variables (state_of c.args.progress.now) (line_by f c.args.line.now.clause.items c.args.line.now.numbers.items)) c.in-Deletes.is)
