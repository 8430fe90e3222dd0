use Rattle.std.proofs.Common.{rules, ◌≡◌, ◌+◌, ℕ, [], true, false, sym, ap, ◌∙◌, subst, arith}
use Rattle.std.specs.Prelude.{None}
use Rattle.std.proofs.lemmas.Grind.{common_steps}
use Rattle.lrat_text.specs.declared.judged.Judged.TheVariants.{Conflict, Forces, Neither}
use Rattle.lrat_text.specs.Hints.{clause_in}
use Rattle.lrat_text.specs.Stored.{store_of}
use Rattle.lrat_text.specs.Marks.{IsBelow, is_marked, judged_by}
use Rattle.lrat_text.proofs.Walking.{walking_more, walking_conflict, walking_neither, walking_negative, walking_ends}
use Rattle.lrat_text.proofs.hints.hints_fault.Goals as goal

pub returns-then-not-hint-clause-fault : goal.returns-then-not-hint-clause-fault
returns-then-not-hint-clause-fault c set shows =
    let signed : c.in-Some.hint.now.positive ≡ false = search rules in
    walking_negative (store_of c.args.clauses.now) c.loop-hint.marks c.loop-hint.rest.now set c.args.hints.now c.in-Some.hint.now c.in-Some.others.now c.in-Some.ensures.cases.0 signed
    (c.loop-hint.invariant.walk set shows)

pub returns-in-Conflict-clause-fault : goal.returns-in-Conflict-clause-fault
returns-in-Conflict-clause-fault c set shows =
    let signed : c.in-Some.hint.now.positive ≡ true = search rules in
    let judged : judged_by (is_marked c.loop-hint.marks) None (clause_in (store_of c.args.clauses.now) c.in-Some.hint.now.variable) ≡ Conflict =
    sym (ap (judged_by (is_marked c.loop-hint.marks) None) c.clause.ensures) ∙ sym c.in-Conflict.ensures in
    c.fault_behind.ensures
    ∙ walking_conflict (store_of c.args.clauses.now) c.loop-hint.marks c.loop-hint.rest.now set c.args.hints.now c.in-Some.hint.now c.in-Some.others.now c.in-Some.ensures.cases.0 signed judged
    (c.loop-hint.invariant.walk set shows)

pub returns-in-Neither-clause-fault : goal.returns-in-Neither-clause-fault
returns-in-Neither-clause-fault c set shows =
    let signed : c.in-Some.hint.now.positive ≡ true = search rules in
    let judged : judged_by (is_marked c.loop-hint.marks) None (clause_in (store_of c.args.clauses.now) c.in-Some.hint.now.variable) ≡ Neither =
    sym (ap (judged_by (is_marked c.loop-hint.marks) None) c.clause.ensures) ∙ sym c.in-Neither.ensures in
    walking_neither (store_of c.args.clauses.now) c.loop-hint.marks c.loop-hint.rest.now set c.args.hints.now c.in-Some.hint.now c.in-Some.others.now c.in-Some.ensures.cases.0 signed judged
    (c.loop-hint.invariant.walk set shows)

pub loop-hint-preserved : goal.loop-hint-preserved
loop-hint-preserved c =
    let signed : c.in-Some.hint.now.positive ≡ true = search rules in
    let judged : judged_by (is_marked c.loop-hint.marks) None (clause_in (store_of c.args.clauses.now) c.in-Some.hint.now.variable) ≡ Forces c.in-Forces.literal =
    sym (ap (judged_by (is_marked c.loop-hint.marks) None) c.clause.ensures) ∙ sym c.in-Forces.ensures in
    record {
      walk = λ set shows. walking_more (store_of c.args.clauses.now) c.loop-hint.marks c.make_true.new.self c.loop-hint.rest.now set c.args.hints.now c.in-Some.hint.now c.in-Some.others.now c.in-Forces.literal
          c.in-Some.ensures.cases.0 signed judged c.in_ok-make_true-in-Forces.ensures.marked (c.loop-hint.invariant.walk set shows);
      stamp = c.make_true.ensures.stamp ∙ c.loop-hint.invariant.stamp;
      below = subst (λ (s : ℕ). IsBelow (s + 1) c.make_true.new.self) c.loop-hint.invariant.stamp c.in_ok-make_true-in-Forces.ensures.below;
    }

pub returns-clause-fault : goal.returns-clause-fault
returns-clause-fault c set shows =
    let ended : c.loop-hint.rest.now ≡ [] = grind (arith, common_steps) in
    walking_ends (store_of c.args.clauses.now) c.loop-hint.marks c.loop-hint.rest.now set c.args.hints.now ended (c.loop-hint.invariant.walk set shows)
