use Rattle.std.proofs.Common.{◌<◌, length, map, refl, sym, ap₂, subst, ◌∙◌}
use Rattle.hw_model.specs.TypeViews.{type_of}
use Rattle.ir_store.specs.OperationViews.{types_in}
use Rattle.fold_laws.specs.Nested.{splice, is_concat}
use Rattle.body_edits.specs.Nests.{nested_seen}
use Rattle.comb_fold.proofs.JoinPatterns.{no_untyped, number_within, number_of_types, concat_if}
use Rattle.comb_fold.proofs.replaced_patterns.joined_concat.Goals as goal

pub unreachable-requires : goal.unreachable-requires
unreachable-requires c =
    no_untyped c.args.body.now c.requires.fit c.args.op (nested_seen c.args.body.now c.args.nested.now) c.op-outer.result c.op-outer.ensures is_concat c.requires.nested c.in-None.ensures

pub spliced_values-requires : goal.spliced_values-requires
spliced_values-requires c =
    number_within c.args.body.now c.requires.fit c.args.op (nested_seen c.args.body.now c.args.nested.now) c.op-outer.result c.op-outer.ensures c.requires.nested

pub spliced_types-requires : goal.spliced_types-requires
spliced_types-requires c =
    subst (λ ts. c.args.nested.now.number < length ts) (sym c.as_slice.ensures)
    (number_of_types c.args.body.now c.requires.fit c.args.op (nested_seen c.args.body.now c.args.nested.now) c.op-outer.result c.op-outer.ensures c.requires.nested)

pub returns : goal.returns
returns c =
    concat_if c.args.body.now c.requires.fit c.args.op (nested_seen c.args.body.now c.args.nested.now) c.op-outer.result c.op-outer.ensures c.requires.nested c.new_op.result
    c.in_ok-operands-in-Some.operands.items c.args.nested.now.op.operands.now (types_in c.in_ok-types-in-Some.types) (type_of c.in-Some.ty.now) c.in-Some.ensures
    refl c.in_ok-operands-in-Some.ensures
    (c.in_ok-types-in-Some.ensures ∙ ap₂ (λ us ts. splice c.args.nested.now.number (map type_of us) (map type_of ts)) c.as_slice-in-Some.ensures c.as_slice.ensures)
    c.new_op.ensures
