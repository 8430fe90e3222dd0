use Rattle.std.proofs.Common.{◌≡◌, sym, ap, subst, ◌∙◌, ◌+◌, ◌-◌, ◌<◌, [], length, arith}
use Rattle.gates.specs.Circuits.{Runs}
use Rattle.hw_model.specs.FamilyViews.{variadic_of}
use Rattle.hw_model.specs.Value.{variadic_value}
use Rattle.operation_gates.specs.OperationGateLists.{known_word, pair_gate_list, variadic_gate_list}
use Rattle.operation_gates.proofs.Taking.{adds_none, empty_of, some_of, width_at, variadic_start, variadic_before, length-pair_gate_list}
use Rattle.operation_gates.proofs.operations.all_operands.Goals as goal

pub returns-then-is_empty : goal.returns-then-is_empty
returns-then-is_empty c =
    let v = variadic_of c.args.op in
    let w = c.args.width in
    subst (λ xs. Runs (variadic_gate_list v w xs) c.args.gates.now c.args.gates.now c.from_vec.result) (sym (empty_of c.args.operands.now (sym c.is_empty.ensures ∙ c.if-is_empty.true)))
    (adds_none (known_word (variadic_value v w [])) c.from_vec.result (c.from_vec.ensures ∙ c.in_ok-none.ensures) c.args.gates.now)

pub loop-left-init : goal.loop-left-init
loop-left-init c =
    let xs = c.args.operands.now in
    let w = c.args.width in
    let x = c.index-operands-left.result in
    let word = c.in_ok-so_far.so_far.items in
    let same : word ≡ x = c.in_ok-so_far.ensures.items ∙ c.as_slice.ensures in
    let some : 0 < length xs = some_of xs (sym c.is_empty.ensures ∙ c.if-is_empty.false) in
    let inside : length xs - 1 < length xs = omega (arith, some) in
    let last : length xs - 1 + 1 ≡ length xs = omega (arith, some) in
    record {
      within = inside;
      width = ap length same ∙ width_at w xs (length xs - 1) x c.requires inside c.index-operands-left.is;
      runs = variadic_start (variadic_of c.args.op) w xs (length xs - 1) x word last c.index-operands-left.is same;
    }

pub pair_gate_list-requires : goal.pair_gate_list-requires
pair_gate_list-requires c =
    let xs = c.args.operands.now in
    let i = c.loop-left.left in
    let inside : i - 1 < length xs = omega arith in
    ap length c.as_slice-in-loop-left.ensures
    ∙ width_at c.args.width xs (i - 1) c.index-operands-left-in-loop-left.result c.requires inside c.index-operands-left-in-loop-left.is
    ∙ sym (ap length c.deref.ensures.value ∙ c.loop-left.invariant.width)

pub loop-left-preserved : goal.loop-left-preserved
loop-left-preserved c =
    let kept = c.loop-left.invariant in
    let xs = c.args.operands.now in
    let v = variadic_of c.args.op in
    let w = c.args.width in
    let i = c.loop-left.left in
    let x = c.index-operands-left-in-loop-left.result in
    let so_far = c.loop-left.so_far.items in
    let next = c.in_ok-so_far-2.so_far.items in
    let a = c.as_slice-in-loop-left.result.now in
    let b = c.deref.result.now in
    let inside : i - 1 < length xs = omega arith in
    let some : 0 < i = omega arith in
    let first : length a ≡ w = ap length c.as_slice-in-loop-left.ensures ∙ width_at w xs (i - 1) x c.requires inside c.index-operands-left-in-loop-left.is in
    let second : length b ≡ w = ap length c.deref.ensures.value ∙ kept.width in
    record {
      within = inside;
      width = ap length c.in_ok-so_far-2.ensures.is ∙ length-pair_gate_list v a b c.loop-left.gates.inputs c.loop-left.gates.gates (first ∙ sym second) ∙ first;
      runs = variadic_before v w xs i x so_far next some kept.within c.index-operands-left-in-loop-left.is kept.runs
          (subst (λ y. Runs (pair_gate_list v y so_far) c.loop-left.gates c.pair_gate_list.new.gates next) c.as_slice-in-loop-left.ensures
          (subst (λ z. Runs (pair_gate_list v a z) c.loop-left.gates c.pair_gate_list.new.gates next) c.deref.ensures.value c.in_ok-so_far-2.ensures));
    }
