use Rattle.std.proofs.Common.{◌≤◌, map, subst, refl}
use Rattle.ir_store.specs.Bodies.{ids_of, ops_of}
use Rattle.ir_store.specs.Numbered.{position_of, ref_by, ops_by_position}
use Rattle.body_index.proofs.ReadOps.{ids_numbered}
use Rattle.aggregate_laws.specs.LeafPorts.{split_ports}
use Rattle.aggregate_laws.specs.Aggregates.{aggregate_rules}
use Rattle.lowering_rules.specs.LeafTables.{op_seen, all_refs_in, body_table, starts_from, ends_from}
use Rattle.lowering_rules.proofs.BlockSteps.{built_more, built_ends}
use Rattle.lowering_rules.proofs.leaf_table.block_table.Goals as goal

pub loop-position-preserved : goal.loop-position-preserved
loop-position-preserved c named =
    let b = c.args.body.now in
    let rs = map (ref_by (position_of (ids_of b))) c.op_at-op.result.operands.now in
    built_more split_ports named (ops_by_position (ops_of b)) c.loop-position.position c.loop-position.start c.in_ok-start.start (op_seen b c.op_at-op.result) c.loop-position.table c.add.new.self
    c.op_at-op.ensures (c.in_ok-start.ensures named rs) (c.loop-position.invariant named)

pub returns : goal.returns
returns c named =
    let os = ops_by_position (ops_of c.args.body.now) in
    let rules = aggregate_rules split_ports named in
    let t = c.loop-position.table in
    let j = c.loop-position.position in
    let start = c.loop-position.start in
    let built = c.loop-position.invariant named in
    let past = subst (λ n. n ≤ j) (ids_numbered c.args.body.now c.args.ids.now c.requires) c.loop-position-test.false in
    record {
      results = built_ends (body_table rules start) os j (all_refs_in t.results.items) (body_table rules 0 os) refl past built.results;
      starts = built_ends (starts_from rules start) os j t.starts.items (starts_from rules 0 os) refl past built.starts;
      ends = built_ends (ends_from rules start) os j t.ends.items (ends_from rules 0 os) refl past built.ends;
    }
