use Rattle.std.proofs.Common.{◌≡◌, map, length, ap, subst, sym, ◌∙◌, arith, rules}
use Rattle.std.proofs.lemmas.List.{length-map, nil_from_length}
use Rattle.ir_store.specs.Bodies.{ops_of}
use Rattle.ir_store.specs.Designs.{modules_of, module_of}
use Rattle.pass_manager.proofs.AllBodies.{IsPutting, putting_none, putting_more, putting_within, putting_ends}
use Rattle.pass_manager.proofs.bodies.put_bodies.Goals as goal

pub loop-body-init : goal.loop-body-init
loop-body-init c = record {
  putting =
      let same : c.into_iter-body-iterator.result.rest.items ≡ c.args.bodies.items = search rules in
      subst (λ xs. IsPutting (modules_of c.args.design.now) (modules_of c.args.design.now) (map ops_of c.args.bodies.items) (map ops_of xs) 0) (sym same)
      (putting_none (modules_of c.args.design.now) (map ops_of c.args.bodies.items));
  left = search rules;
}

pub overflow_add-number : goal.overflow_add-number
overflow_add-number c =
    let within = putting_within (modules_of c.args.design.now) (modules_of c.loop-body.design) (map ops_of c.args.bodies.items) (map ops_of c.loop-body.body-iterator.rest.items) c.loop-body.number
    (length-map c.args.bodies.items ops_of ∙ c.requires) c.loop-body.invariant.putting in
    let some = ap (λ xs. length (map ops_of xs)) c.in-Some.ensures.steps.0 in
    let stored = length-map c.args.design.now.modules.items module_of in
    omega (arith, within.0, some, stored, c.args.design.now.small)

pub put_body-requires : goal.put_body-requires
put_body-requires c =
    let within = putting_within (modules_of c.args.design.now) (modules_of c.loop-body.design) (map ops_of c.args.bodies.items) (map ops_of c.loop-body.body-iterator.rest.items) c.loop-body.number
    (length-map c.args.bodies.items ops_of ∙ c.requires) c.loop-body.invariant.putting in
    let some = ap (λ xs. length (map ops_of xs)) c.in-Some.ensures.steps.0 in
    omega (arith, within.0, within.1, some)

pub loop-body-preserved : goal.loop-body-preserved
loop-body-preserved c = record {
  putting = putting_more (modules_of c.args.design.now) (modules_of c.loop-body.design) (modules_of c.put_body.new.self) (map ops_of c.args.bodies.items) (map ops_of c.next.new.self.rest.items) c.loop-body.number
      (ops_of c.in-Some.body) (length-map c.args.bodies.items ops_of ∙ c.requires)
      (subst (λ xs. IsPutting (modules_of c.args.design.now) (modules_of c.loop-body.design) (map ops_of c.args.bodies.items) xs c.loop-body.number) (ap (map ops_of) c.in-Some.ensures.steps.0)
      c.loop-body.invariant.putting) c.put_body.ensures;
  left = search rules;
}

pub returns : goal.returns
returns c =
    putting_ends (modules_of c.args.design.now) (modules_of c.loop-body.design) (map ops_of c.args.bodies.items) c.loop-body.number (length-map c.args.bodies.items ops_of ∙ c.requires)
    (subst (λ xs. IsPutting (modules_of c.args.design.now) (modules_of c.loop-body.design) (map ops_of c.args.bodies.items) (map ops_of xs) c.loop-body.number)
    (nil_from_length c.loop-body.body-iterator.rest.items (sym c.loop-body.invariant.left ∙ c.in-None.ensures.steps.0)) c.loop-body.invariant.putting)
