use Rattle.std.proofs.Common.{◌≡◌, map, ap, sym, ◌∙◌}
use Rattle.ir_store.specs.Bodies.{ops_of, ids_of, ids_left, op_id, read_op}
use Rattle.ir_store.proofs.BodyLemmas.{ids_once}
use Rattle.ir_store.proofs.Walks.{all_among, first_among, rest_among}
use Rattle.inline_pass.proofs.GivenValues.{search_begins, search_ends, search_goes}
use Rattle.inline_pass.proofs.passing.given_values.Goals as goal

pub loop-id-init : goal.loop-id-init
loop-id-init c =
    let b = c.args.body.now in
    let left : ids_left c.into_iter-id-iterator.result ≡ map op_id (ids_of b) = ap ids_left c.into_iter-id-iterator.ensures.into_iter_gives ∙ c.ops-id-items.ensures in
    record { live = all_among (ids_of b) (ids_left c.into_iter-id-iterator.result) left; searching = search_begins (ops_of b) (ids_left c.into_iter-id-iterator.result) left }

pub op-op-requires : goal.op-op-requires
op-op-requires c =
    first_among (ids_of c.args.body.now) c.in-Some.id (ids_left c.loop-id.id-iterator) (ids_left c.next.new.self) c.in-Some.ensures.steps c.loop-id.invariant.live

pub returns-then-is_output : goal.returns-then-is_output
returns-then-is_output c =
    c.in_ok-given.ensures.items
    ∙ search_ends (ops_of c.args.body.now) (ids_left c.loop-id.id-iterator) (ids_left c.next.new.self) c.in-Some.id (read_op c.in-Some.id c.op-op.result) (ids_once c.args.body.now)
    c.loop-id.invariant.searching c.in-Some.ensures.steps c.op-op.ensures (sym c.is_output.ensures ∙ c.if-is_output.true)

pub loop-id-preserved : goal.loop-id-preserved
loop-id-preserved c = record {
  live = rest_among (ids_of c.args.body.now) c.in-Some.id (ids_left c.loop-id.id-iterator) (ids_left c.next.new.self) c.in-Some.ensures.steps c.loop-id.invariant.live;
  searching = search_goes (ops_of c.args.body.now) (ids_left c.loop-id.id-iterator) (ids_left c.next.new.self) c.in-Some.id (read_op c.in-Some.id c.op-op.result) (ids_once c.args.body.now)
      c.loop-id.invariant.searching c.in-Some.ensures.steps c.op-op.ensures (sym c.is_output.ensures ∙ c.if-is_output.false);
}
