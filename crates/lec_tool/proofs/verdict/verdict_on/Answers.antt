use Rattle.std.proofs.Common.{subst, IsTrue}
use Rattle.resolution_proof.specs.Formula.{satisfies}
use Rattle.resolution_proof.specs.Proof.{Refutes, Exhausts}
use Rattle.cdcl_proof.specs.Answer.{Answers}
use Rattle.cdcl_proof.specs.declared.solve.Answer.TheVariants.{Refuted, Satisfied, Spent}
use Rattle.lec_tool.proofs.verdict.verdict_on.Goals as goal

pub returns-in-Refuted : goal.returns-in-Refuted
returns-in-Refuted c =
    let holds : Answers c.cnf.result.now c.args.budget (Refuted c.in-Refuted.log) = subst (Answers c.cnf.result.now c.args.budget) c.in-Refuted.is c.in_ok-log.ensures in
    subst (λ f. Refutes f c.in-Refuted.log) c.cnf.ensures holds

pub returns-in_ok-input_of-in-Satisfied : goal.returns-in_ok-input_of-in-Satisfied
returns-in_ok-input_of-in-Satisfied c =
    let holds : Answers c.cnf.result.now c.args.budget (Satisfied c.in-Satisfied.assignment) = subst (Answers c.cnf.result.now c.args.budget) c.in-Satisfied.is c.in_ok-log.ensures in
    (c.in-Satisfied.assignment, subst (λ f. IsTrue (satisfies c.in-Satisfied.assignment f)) c.cnf.ensures holds, c.in_ok-input_of-in-Satisfied.ensures)

pub returns-in-Spent : goal.returns-in-Spent
returns-in-Spent c =
    let holds : Answers c.cnf.result.now c.args.budget (Spent c.in-Spent.log) = subst (Answers c.cnf.result.now c.args.budget) c.in-Spent.is c.in_ok-log.ensures in
    subst (λ f. Exhausts f c.args.budget c.in-Spent.log) c.cnf.ensures holds
