use Rattle.std.proofs.Common.{rules, ◌≡◌, length, ◌∙◌}
use Rattle.lrat_text.specs.Stored.{state_of}
use Rattle.text_lines.proofs.Splitting.{no_lines}
use Rattle.lrat_text.proofs.Walking.{checking_ends}
use Rattle.lrat_text.proofs.check.check_lines.Goals as goal

pub returns : goal.returns
returns c =
    let empty : length c.loop-rest.rest.now ≡ 0 = search rules in
    checking_ends c.args.cnf.now.variables (state_of c.loop-rest.progress) c.loop-rest.line c.loop-rest.rest.now (no_lines c.loop-rest.rest.now empty) c.if-progress.false
    ∙ c.loop-rest.invariant.left
