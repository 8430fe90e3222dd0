use Rattle.circt_top.proofs.Checks.{formula_fails, proof_fails, is_verified_proof}
use Rattle.circt_top.proofs.checking.check_proof.Goals as goal

pub returns-in-Err : goal.returns-in-Err
returns-in-Err c = rw c.check_failure.ensures (formula_fails c.args.sources.now c.first_input.result.now c.in-Err.fail c.first_input.ensures c.in-Err.ensures.err)

pub returns-in-Ok-check : goal.returns-in-Ok-check
returns-in-Ok-check c =
    is_verified_proof c.args.sources.now c.first_input.result.now c.second_input.result.now c.in-Ok.cnf c.in_ok-of-in-Ok-check.field-0 c.first_input.ensures c.second_input.ensures
    c.in-Ok.ensures.ok c.in-Ok-check.ensures.verified c.in-Ok-check.ensures.unsatisfiable c.in_ok-of-in-Ok-check.ensures

pub returns : goal.returns
returns c =
    rw c.check_failure-in-Err-check.ensures
    (proof_fails c.args.sources.now c.first_input.result.now c.second_input.result.now c.in-Ok.cnf c.in-Err-check.fail c.first_input.ensures c.second_input.ensures
    c.in-Ok.ensures.ok c.in-Err-check.ensures.refused)
