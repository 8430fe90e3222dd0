use Rattle.std.proofs.Common.{◌≡◌, ◌+◌, suc, map, take, drop, sym, ap, subst, ◌∙◌, arith, add-one}
use Rattle.ir_store.specs.Bodies.{ids_of, ops_of, op_id, first_id}
use Rattle.cse_pass.specs.Groups.{IsGrouping}
use Rattle.cse_pass.proofs.Walking.{has_op, position_is, next_is, all_passed}
use Rattle.cse_pass.proofs.merges.groups_of_first.Goals as goal

pub enter-requires-clause-live : goal.enter-requires-clause-live
enter-requires-clause-live c = has_op c.args.body.now c.loop-position.position c.in-Some.op (sym c.in-Some.is ∙ c.loop-position.invariant.stands)

pub enter-requires-clause-position : goal.enter-requires-clause-position
enter-requires-clause-position c = position_is c.args.body.now c.loop-position.position c.in-Some.op (sym c.in-Some.is ∙ c.loop-position.invariant.stands)

pub next_op-at-requires : goal.next_op-at-requires
next_op-at-requires c = has_op c.args.body.now c.loop-position.position c.in-Some.op (sym c.in-Some.is ∙ c.loop-position.invariant.stands)

pub returns-in_default : goal.returns-in_default
returns-in_default c =
    let passed = all_passed c.args.body.now c.loop-position.position c.loop-position.at c.loop-position.invariant.stands c.in_default.is in
    absurd (omega (arith, passed, c.requires.within))

pub loop-position-preserved : goal.loop-position-preserved
loop-position-preserved c =
    let step : c.loop-position.position + 1 ≡ suc c.loop-position.position = add-one c.loop-position.position in
    record {
      most = omega arith;
      stands = next_is c.args.body.now c.loop-position.position c.in-Some.op (sym c.in-Some.is ∙ c.loop-position.invariant.stands) c.next_op-at.result c.next_op-at.ensures
          ∙ ap (λ n. first_id (map op_id (drop n (ids_of c.args.body.now)))) (sym step);
      grouped = subst (λ n. IsGrouping c.enter.new.groups (take n (ops_of c.args.body.now))) (sym step) (c.in_ok-enter.ensures);
    }
