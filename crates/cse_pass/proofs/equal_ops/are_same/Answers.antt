use Rattle.std.proofs.Common.{sym, ◌∙◌}
use Rattle.ir_store.specs.Bodies.{read_parts}
use Rattle.cse_pass.proofs.SameOps.{no_values, no_types, no_results, all_same}
use Rattle.cse_pass.proofs.equal_ops.are_same.Goals as goal

pub returns-then-are_same_types : goal.returns-then-are_same_types
returns-then-are_same_types c =
    let results = rw (c.as_slice.ensures, c.as_slice-then-are_same_values.ensures) at c.are_same_results.ensures in
    let types = rw (c.as_slice-then-are_same_results.ensures, c.as_slice-then-are_same_results-2.ensures) at c.are_same_types.ensures in
    all_same (read_parts c.args.a.now) c.args.a.now.operands.now (read_parts c.args.b.now) c.args.b.now.operands.now c.is_same_kind.result
    (sym c.are_same_values.ensures ∙ c.if-are_same_values.true) (sym results ∙ c.if-are_same_results.true) (sym types ∙ c.if-are_same_types.true) c.is_same_kind.ensures

pub returns-else-are_same_types : goal.returns-else-are_same_types
returns-else-are_same_types c =
    let types = rw (c.as_slice-then-are_same_results.ensures, c.as_slice-then-are_same_results-2.ensures) at c.are_same_types.ensures in
    c.if-are_same_types.false
    ∙ no_types (read_parts c.args.a.now) c.args.a.now.operands.now (read_parts c.args.b.now) c.args.b.now.operands.now (sym types ∙ c.if-are_same_types.false)

pub returns-else-are_same_results : goal.returns-else-are_same_results
returns-else-are_same_results c =
    let results = rw (c.as_slice.ensures, c.as_slice-then-are_same_values.ensures) at c.are_same_results.ensures in
    c.if-are_same_results.false
    ∙ no_results (read_parts c.args.a.now) c.args.a.now.operands.now (read_parts c.args.b.now) c.args.b.now.operands.now (sym results ∙ c.if-are_same_results.false)

pub returns-else-are_same_values : goal.returns-else-are_same_values
returns-else-are_same_values c =
    c.if-are_same_values.false
    ∙ no_values (read_parts c.args.a.now) c.args.a.now.operands.now (read_parts c.args.b.now) c.args.b.now.operands.now (sym c.are_same_values.ensures ∙ c.if-are_same_values.false)
