use Rattle.std.proofs.Common.{◌≡◌, ◌++◌, map, sym, ◌∙◌, ap, List}
use Rattle.std.proofs.lemmas.List.{append-nil}
use Rattle.hw_model.specs.Design.{Op}
use Rattle.ir_store.specs.BodyOps.{BodyOp}
use Rattle.ir_store.specs.Bodies.{ops_of, ids_of, ids_left, op_id, read_op}
use Rattle.ir_store.specs.Designs.{ports_in, port_of}
use Rattle.ir_store.proofs.BodyLemmas.{ids_once}
use Rattle.port_checks.specs.Joins.{named_port, position_of}
use Rattle.port_checks.specs.Seen.{op_seen}
use Rattle.port_checks.proofs.Seeing.{named_seen}
use Rattle.ir_store.proofs.Walks.{ops_at, through_all, all_among, first_among, rest_among}
use Rattle.port_checks.proofs.Making.{made_of, made_by_position, made_step}
use Rattle.port_checks.proofs.named.push_named.Goals as goal

pub loop-id-init : goal.loop-id-init
loop-id-init c =
    let b = c.args.owner.now.body in
    let left : ids_left c.into_iter-id-iterator.result ≡ map op_id (ids_of b) = ap ids_left c.into_iter-id-iterator.ensures.into_iter_gives ∙ c.ops-id-items.ensures in
    record {
      live = all_among (ids_of b) (ids_left c.into_iter-id-iterator.result) left;
      items = ap (λ (os : List BodyOp). c.args.named.now.items ++ made_of (λ (o : Op). position_of c.args.number (named_port (ports_in c.args.owner.now.ports) o)) os)
          (ap (ops_at (ops_of b)) left ∙ through_all (ops_of b) (ids_once b));
    }

-- each id that is left is one of the body
pub op-op-requires : goal.op-op-requires
op-op-requires c =
    first_among (ids_of c.args.owner.now.body) c.in-Some.id (ids_left c.loop-id.id-iterator) (ids_left c.next.new.self) c.in-Some.ensures.steps c.loop-id.invariant.live

pub loop-id-preserved : goal.loop-id-preserved
loop-id-preserved c =
    let b = c.args.owner.now.body in
    let f = λ (o : Op). position_of c.args.number (named_port (ports_in c.args.owner.now.ports) o) in
    record {
      live = rest_among (ids_of b) c.in-Some.id (ids_left c.loop-id.id-iterator) (ids_left c.next.new.self) c.in-Some.ensures.steps c.loop-id.invariant.live;
      items =
          made_step f (ops_of b) (c.args.named.now.items ++ made_of f (ops_of b)) c.loop-id.named.items c.push_port.new.named.items c.in-Some.id
          (ids_left c.loop-id.id-iterator) (ids_left c.next.new.self) (read_op c.in-Some.id c.op-op.result) c.op-op.ensures c.in-Some.ensures.steps
          (c.in_ok-push_port.ensures ∙ ap (λ x. c.loop-id.named.items ++ position_of c.args.number x)
          (c.named_port.ensures ∙ ap (λ ps. named_port (map port_of ps) (op_seen c.op-op.result)) c.deref.ensures.value))
          c.loop-id.invariant.items;
    }

pub returns : goal.returns
returns c =
    let b = c.args.owner.now.body in
    let ports = ports_in c.args.owner.now.ports in
    let f = λ (o : Op). position_of c.args.number (named_port ports o) in
    let old = c.args.named.now.items in
    sym (append-nil c.loop-id.named.items)
    ∙ ap (λ is. c.loop-id.named.items ++ made_of f (ops_at (ops_of b) is)) (sym c.in-None.ensures.steps.0)
    ∙ c.loop-id.invariant.items
    ∙ ap (λ xs. old ++ xs) (sym (made_by_position f (λ position o. ap (position_of c.args.number) (named_seen ports position o)) (ops_of b)))
