use Rattle.std.proofs.Common.{◌≡◌, map, subst, sym, ◌∙◌, ap, List}
use Rattle.ir_store.specs.BodyOps.{BodyOp}
use Rattle.ir_store.specs.Bodies.{ops_of, ids_of, ids_left, op_id, read_op}
use Rattle.ir_store.specs.Designs.{ports_in, port_of, design_of}
use Rattle.ir_store.proofs.BodyLemmas.{ids_once}
use Rattle.graphs.specs.Graphs.{lists_of}
use Rattle.port_checks.specs.Pairs.{AddsPairs}
use Rattle.port_checks.specs.Joins.{instance_pairs}
use Rattle.port_checks.specs.Seen.{op_seen}
use Rattle.port_checks.proofs.Pairs.{adds_none, pairs_step}
use Rattle.port_checks.proofs.Seeing.{pairs_seen}
use Rattle.ir_store.proofs.Walks.{ops_at, through_all, all_among, first_among, rest_among}
use Rattle.port_checks.proofs.Making.{made_of, made_by_position}
use Rattle.port_checks.proofs.joins.push_module.Goals as goal

pub loop-id-init : goal.loop-id-init
loop-id-init c =
    let b = c.args.owner.now.body in
    let f = instance_pairs (design_of c.args.design.now) c.args.starts.now c.args.number (ports_in c.args.owner.now.ports) in
    let left : ids_left c.into_iter-id-iterator.result ≡ map op_id (ids_of b) = ap ids_left c.into_iter-id-iterator.ensures.into_iter_gives ∙ c.ops-id-items.ensures in
    record {
      live = all_among (ids_of b) (ids_left c.into_iter-id-iterator.result) left;
      pairs = λ end rest. subst (λ (os : List BodyOp). AddsPairs (made_of f os) (lists_of c.args.joined.now.items) end)
          (ap (ops_at (ops_of b)) left ∙ through_all (ops_of b) (ids_once b)) rest;
    }

-- each id that is left is one of the body
pub op-op-requires : goal.op-op-requires
op-op-requires c =
    first_among (ids_of c.args.owner.now.body) c.in-Some.id (ids_left c.loop-id.id-iterator) (ids_left c.next.new.self) c.in-Some.ensures.steps c.loop-id.invariant.live

pub loop-id-preserved : goal.loop-id-preserved
loop-id-preserved c =
    let b = c.args.owner.now.body in
    let f = instance_pairs (design_of c.args.design.now) c.args.starts.now c.args.number (ports_in c.args.owner.now.ports) in
    record {
      live = rest_among (ids_of b) c.in-Some.id (ids_left c.loop-id.id-iterator) (ids_left c.next.new.self) c.in-Some.ensures.steps c.loop-id.invariant.live;
      pairs =
          pairs_step f (ops_of b) (made_of f (ops_of b)) (lists_of c.args.joined.now.items) (lists_of c.loop-id.joined.items) (lists_of c.push_operation.new.joined.items) c.in-Some.id
          (ids_left c.loop-id.id-iterator) (ids_left c.next.new.self) (read_op c.in-Some.id c.op-op.result) c.op-op.ensures c.in-Some.ensures.steps
          (subst (λ ps. AddsPairs (instance_pairs (design_of c.args.design.now) c.args.starts.now c.args.number (map port_of ps) (op_seen c.op-op.result))
          (lists_of c.loop-id.joined.items) (lists_of c.push_operation.new.joined.items)) c.deref.ensures.value c.in_ok-push_operation.ensures)
          c.loop-id.invariant.pairs;
    }

pub returns : goal.returns
returns c =
    let b = c.args.owner.now.body in
    let f = instance_pairs (design_of c.args.design.now) c.args.starts.now c.args.number (ports_in c.args.owner.now.ports) in
    let last = lists_of c.loop-id.joined.items in
    subst (λ ps. AddsPairs ps (lists_of c.args.joined.now.items) last)
    (sym (made_by_position f (pairs_seen (design_of c.args.design.now) c.args.starts.now c.args.number (ports_in c.args.owner.now.ports)) (ops_of b)))
    (c.loop-id.invariant.pairs last (subst (λ is. AddsPairs (made_of f (ops_at (ops_of b) is)) last last) (sym c.in-None.ensures.steps.0) (adds_none last)))
