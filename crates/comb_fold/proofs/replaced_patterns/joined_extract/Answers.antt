use Rattle.std.proofs.Common.{◌+◌, map, ap, ap₂, arith}
use Rattle.hw_model.specs.TypeViews.{type_of}
use Rattle.ir_store.specs.OperationViews.{types_in}
use Rattle.fold_laws.specs.Nested.{is_extract}
use Rattle.body_edits.specs.Nests.{nested_seen}
use Rattle.body_edits.specs.Views.{value_ref}
use Rattle.comb_fold.proofs.JoinPatterns.{no_untyped, inner_types, low_sum, extract_if}
use Rattle.comb_fold.proofs.replaced_patterns.joined_extract.Goals as goal

pub overflow_add-low : goal.overflow_add-low
overflow_add-low c =
    let bound = low_sum c.args.body.now c.requires.fit c.args.op (nested_seen c.args.body.now c.args.nested.now) c.op-outer.result c.op-outer.ensures c.requires.nested in
    let first = c.lowest_bit.ensures in
    let second = c.lowest_bit-in-Some.ensures in
    omega (arith, bound, first, second)

pub part_types-requires : goal.part_types-requires
part_types-requires c =
    let two = inner_types c.args.body.now c.requires.fit c.args.op (nested_seen c.args.body.now c.args.nested.now) c.op-outer.result c.op-outer.ensures c.requires.nested in
    omega (arith, two)

pub unreachable-requires : goal.unreachable-requires
unreachable-requires c =
    no_untyped c.args.body.now c.requires.fit c.args.op (nested_seen c.args.body.now c.args.nested.now) c.op-outer.result c.op-outer.ensures is_extract c.requires.nested c.in-None.ensures

pub returns : goal.returns
returns c =
    extract_if c.args.body.now c.requires.fit c.args.op (nested_seen c.args.body.now c.args.nested.now) c.op-outer.result c.op-outer.ensures c.requires.nested c.new_op.result
    (c.lowest_bit.result + c.lowest_bit-in-Some.result) c.in_ok-operands-in-Some.operands.items (types_in c.in_ok-types-in-Some.types) (type_of c.in-Some.ty.now) c.in-Some.ensures
    (ap₂ (λ x y. x + y) c.lowest_bit.ensures c.lowest_bit-in-Some.ensures) (ap (map (value_ref c.args.body.now)) c.in_ok-operands-in-Some.ensures.ok) c.in_ok-types-in-Some.ensures
    c.new_op.ensures
