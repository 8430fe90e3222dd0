use Rattle.std.proofs.Common.{◌+◌, [], ◌∷◌, map, ap, subst, sym, ◌∙◌, arith}
use Rattle.std.proofs.lemmas.List.{map-append}
use Rattle.ir_store.specs.Bodies.{ops_of}
use Rattle.ir_store.specs.Designs.{modules_of}
use Rattle.pass_manager.proofs.AllBodies.{IsTaking, taking_none, taking_within, taking_more, taking_ends}
use Rattle.pass_manager.proofs.bodies.take_bodies.Goals as goal

pub loop-number-init : goal.loop-number-init
loop-number-init c =
    subst (λ bs. IsTaking (modules_of c.args.design.now) (modules_of c.args.design.now) (map ops_of bs) 0) (sym c.in_ok-bodies.ensures.items) (taking_none (modules_of c.args.design.now))

pub take_body-requires : goal.take_body-requires
take_body-requires c =
    omega (
      arith,
      c.loop-number-test.true,
      c.module_count-number-end.ensures,
      taking_within (modules_of c.args.design.now) (modules_of c.loop-number.design) (map ops_of c.loop-number.bodies.items) c.loop-number.number c.loop-number.invariant,
    )

pub loop-number-preserved : goal.loop-number-preserved
loop-number-preserved c =
    subst (λ bs. IsTaking (modules_of c.args.design.now) (modules_of c.take_body.new.self) bs (c.loop-number.number + 1))
    (sym (ap (map ops_of) c.in_ok-push.ensures.items ∙ map-append ops_of c.loop-number.bodies.items (c.take_body.result ∷ [])))
    (taking_more (modules_of c.args.design.now) (modules_of c.loop-number.design) (modules_of c.take_body.new.self) (map ops_of c.loop-number.bodies.items) c.loop-number.number (ops_of c.take_body.result)
    c.loop-number.invariant (omega (arith, c.loop-number-test.true, c.module_count-number-end.ensures)) c.take_body.ensures.body c.take_body.ensures.modules)

pub returns-clause-bodies : goal.returns-clause-bodies
returns-clause-bodies c =
    (taking_ends (modules_of c.args.design.now) (modules_of c.loop-number.design) (map ops_of c.loop-number.bodies.items) c.loop-number.number c.loop-number.invariant
    (omega (arith, c.loop-number-test.false, c.module_count-number-end.ensures))).0

pub returns-clause-modules : goal.returns-clause-modules
returns-clause-modules c =
    (taking_ends (modules_of c.args.design.now) (modules_of c.loop-number.design) (map ops_of c.loop-number.bodies.items) c.loop-number.number c.loop-number.invariant
    (omega (arith, c.loop-number-test.false, c.module_count-number-end.ensures))).1
