-- Each form has the shape of its rule.
use Rattle.std.proofs.Common.{◌≡◌, ℕ, ◌+◌, ◌-◌, length, replicate, refl, sym, ap, ◌∙◌, arith}
use Rattle.hw_model.specs.Types.{leaves}
use Rattle.hw_model.specs.Value.{nth_type}
use Rattle.aggregate_laws.specs.Leaves.{in_row}
use Rattle.aggregate_laws.specs.OperationRules.{all_leaves}
use Rattle.aggregate_laws.specs.Choices.{element_of}
use Rattle.aggregate_laws.specs.Bitcasts.{piece_end}
use Rattle.aggregate_laws.specs.Aggregates.{array_length, element_type, first_type}
use Rattle.lowering_rules.specs.declared.forms.Form.TheVariants.{Stays, Get, Slice, ArrayInject, Bitcast}
use Rattle.lowering_rules.specs.Reading.{plain_of}
use Rattle.lowering_rules.specs.Shapes.{ends, last_end, test_count, get_sizes, slice_sizes, bitcast_sizes}
use Rattle.lowering_rules.proofs.Shaping.{rule_same, rule_replicate, last_pieces, ends_pieces, shaped, blocks_end, blocks_positions, turn_positions}
use Rattle.lowering_rules.proofs.shapes.shape_of.Goals as goal

pub returns-in-Stays : goal.returns-in-Stays
returns-in-Stays c named =
    let o = plain_of c.args.op.now in
    let n = c.in_ok-count.count in
    shaped named c.args.form.now Stays o 1 (replicate n 0) c.one_for_all.result c.in-Stays.is c.one_for_all.ensures refl
    (sym (rule_replicate 0 0 n) ∙ ap (in_row (λ i. 0) 0) c.in_ok-count.ensures)

pub returns-in-Get : goal.returns-in-Get
returns-in-Get c named =
    let o = plain_of c.args.op.now in
    let n = c.in_ok-count.count in
    let elements = array_length (nth_type o.types 0) in
    shaped named c.args.form.now Get o (last_end (test_count o) (get_sizes o n)) (ends (test_count o) (get_sizes o n)) c.get.result c.in-Get.is c.get.ensures
    (ap (last_end (test_count o)) (sym (rule_replicate elements 0 n)) ∙ blocks_end (λ l. elements) elements n (length (all_leaves o)) c.in_ok-count.ensures)
    (ap (ends (test_count o)) (sym (rule_replicate elements 0 n)) ∙ blocks_positions (λ l. elements) elements n (length (all_leaves o)) c.in_ok-count.ensures)

pub returns-in-Slice : goal.returns-in-Slice
returns-in-Slice c named =
    let o = plain_of c.args.op.now in
    let n = c.in_ok-count.count in
    let elements = array_length (nth_type o.types 0) in
    let size = λ (l : ℕ). elements - element_of (array_length (first_type o)) (length (leaves (element_type (nth_type o.types 0)))) l in
    shaped named c.args.form.now Slice o (last_end (test_count o) (slice_sizes o n)) (ends (test_count o) (slice_sizes o n)) c.slice.result c.in-Slice.is c.slice.ensures
    (blocks_end size elements n (length (all_leaves o)) c.in_ok-count.ensures)
    (blocks_positions size elements n (length (all_leaves o)) c.in_ok-count.ensures)

pub returns-in-ArrayInject : goal.returns-in-ArrayInject
returns-in-ArrayInject c named =
    let o = plain_of c.args.op.now in
    let n = c.in_ok-count.count in
    let all : n ≡ length (all_leaves o) = c.in_ok-count.ensures in
    shaped named c.args.form.now ArrayInject o (test_count o + n) (in_row (λ i. i) (test_count o) n) c.array_inject.result c.in-ArrayInject.is c.array_inject.ensures
    (omega arith) (turn_positions (array_length (nth_type o.types 0)) n (length (all_leaves o)) all)

pub returns-in-Bitcast : goal.returns-in-Bitcast
returns-in-Bitcast c named =
    let o = plain_of c.args.op.now in
    let us = leaves (nth_type o.types 0) in
    let last = last_pieces us (all_leaves o) 0 0 in
    shaped named c.args.form.now Bitcast o (last_end 0 (bitcast_sizes o)) (ends 0 (bitcast_sizes o)) c.bitcast.result c.in-Bitcast.is c.bitcast.ensures
    (omega (arith, last))
    (ends_pieces us (all_leaves o) 0 0 ∙ rule_same (λ i. 0 + piece_end us 0 (all_leaves o) i) (λ i. piece_end us 0 (all_leaves o) i) (λ i. omega arith) 0 (length (all_leaves o)))
