use Rattle.std.proofs.Common.{sym, ap, subst, ◌∙◌, option_map, length}
use Rattle.gates.specs.Build.{done, and_then}
use Rattle.gates.specs.Circuits.{Runs}
use Rattle.gates.proofs.Running.{runs-done, runs_then}
use Rattle.gate_words.specs.GateLists.{top, choose}
use Rattle.hw_model.specs.Flat.{async_reset_in}
use Rattle.hw_model.specs.RegisterViews.{register_of, reset_by_of}
use Rattle.ir_store.specs.Bodies.{ids_of, ops_of}
use Rattle.ir_store.specs.Numbered.{position_of, ref_by, ops_by_position}
use Rattle.body_index.specs.OpIndexes.{op_view}
use Rattle.net_gates.specs.RegisterGateLists.{enable_gate_list}
use Rattle.flat_module_gates.specs.FlatGateLists.{word_at}
use Rattle.flat_module_gates.specs.FlatSteps.{next_in, any_reset_in}
use Rattle.flat_module_gates.proofs.Loading.{length-enable, length-any_reset}
use Rattle.flat_module_gates.proofs.registers.next_word.Goals as goal

pub returns-in_default : goal.returns-in_default
returns-in_default c =
    let b = c.args.body.now.ops.now.body.now in
    let os = ops_by_position (ops_of b) in
    let see = ref_by (position_of (ids_of b)) in
    let words = word_at c.args.body.now.words.now.ports.items c.args.body.now.words.now.results.items in
    let none = sym (c.register_of.ensures see) ∙ ap (option_map (register_of see)) c.in_default.is in
    subst (λ r. Runs (next_in os words (async_reset_in (op_view b c.args.op.now)) r c.args.old.now) c.args.gates.now c.args.gates.now c.in_ok-kept.kept.items) (sym none)
    (subst (Runs (done c.args.old.now) c.args.gates.now c.args.gates.now) (sym c.in_ok-kept.ensures.items) runs-done)

pub enabled_word-requires : goal.enabled_word-requires
enabled_word-requires c =
    let see = ref_by (position_of (ids_of c.args.body.now.ops.now.body.now)) in
    let some = sym (c.register_of.ensures see) ∙ ap (option_map (register_of see)) c.in-Some.is in
    ap length c.word_of-next.ensures ∙ c.requires.takes.next (register_of see c.in-Some.register) some ∙ sym c.requires.width

pub any_reset_word-requires : goal.any_reset_word-requires
any_reset_word-requires c = λ v is.
    let see = ref_by (position_of (ids_of c.args.body.now.ops.now.body.now)) in
    let words = word_at c.args.body.now.words.now.ports.items c.args.body.now.words.now.results.items in
    let some = sym (c.register_of.ensures see) ∙ ap (option_map (register_of see)) c.in-Some.is in
    let same = ap length c.word_of-next.ensures ∙ c.requires.takes.next (register_of see c.in-Some.register) some ∙ sym c.requires.width in
    c.requires.takes.value (register_of see c.in-Some.register) (reset_by_of see v) some (ap (option_map (reset_by_of see)) is) ∙ sym c.requires.width
    ∙ sym (ap length c.as_slice.ensures.value
    ∙ length-enable (option_map see c.in-Some.register.enable) words c.args.old.now c.word_of-next.result.now c.args.gates.now c.enabled_word.new.gates c.in_ok-enabled.enabled.items same c.in_ok-enabled.ensures)

pub each-requires : goal.each-requires
each-requires c =
    let b = c.args.body.now.ops.now.body.now in
    let os = ops_by_position (ops_of b) in
    let see = ref_by (position_of (ids_of b)) in
    let words = word_at c.args.body.now.words.now.ports.items c.args.body.now.words.now.results.items in
    let some = sym (c.register_of.ensures see) ∙ ap (option_map (register_of see)) c.in-Some.is in
    let same = ap length c.word_of-next.ensures ∙ c.requires.takes.next (register_of see c.in-Some.register) some ∙ sym c.requires.width in
    let enabled = ap length c.as_slice.ensures.value
    ∙ length-enable (option_map see c.in-Some.register.enable) words c.args.old.now c.word_of-next.result.now c.args.gates.now c.enabled_word.new.gates c.in_ok-enabled.enabled.items same c.in_ok-enabled.ensures in
    ap length c.as_slice-2.ensures.value
    ∙ length-any_reset os words (async_reset_in (op_view b c.args.op.now)) (option_map (reset_by_of see) c.in-Some.register.reset) c.as_slice.result.now c.enabled_word.new.gates c.any_reset_word.new.gates c.in_ok-new.new.items
    (λ v is. c.requires.takes.loaded v is ∙ sym c.requires.width ∙ sym enabled)
    (λ v is. c.requires.takes.value (register_of see c.in-Some.register) v some is ∙ sym c.requires.width ∙ sym enabled) c.in_ok-new.ensures
    ∙ enabled

pub returns : goal.returns
returns c =
    let b = c.args.body.now.ops.now.body.now in
    let os = ops_by_position (ops_of b) in
    let see = ref_by (position_of (ids_of b)) in
    let words = word_at c.args.body.now.words.now.ports.items c.args.body.now.words.now.results.items in
    let a = async_reset_in (op_view b c.args.op.now) in
    let r = register_of see c.in-Some.register in
    let old = c.args.old.now in
    let some = sym (c.register_of.ensures see) ∙ ap (option_map (register_of see)) c.in-Some.is in
    let clock = c.top-clock.ensures ∙ ap top c.word_of.ensures in
    subst (λ z. Runs (next_in os words a z old) c.args.gates.now c.each.new.gates c.in_ok-chosen.chosen.items) (sym some)
    (runs_then (λ x. and_then (any_reset_in os words a r.reset x) (λ y. choose (top (words r.clock)) y old))
    (subst (λ n. Runs (enable_gate_list r.enable words old n) c.args.gates.now c.enabled_word.new.gates c.in_ok-enabled.enabled.items) c.word_of-next.ensures c.in_ok-enabled.ensures)
    (runs_then (λ y. choose (top (words r.clock)) y old)
    (subst (λ n. Runs (any_reset_in os words a r.reset n) c.enabled_word.new.gates c.any_reset_word.new.gates c.in_ok-new.new.items) c.as_slice.ensures.value c.in_ok-new.ensures)
    (subst (λ k. Runs (choose k c.in_ok-new.new.items old) c.any_reset_word.new.gates c.each.new.gates c.in_ok-chosen.chosen.items) clock
    (subst (λ n. Runs (choose c.top-clock.result n old) c.any_reset_word.new.gates c.each.new.gates c.in_ok-chosen.chosen.items) c.as_slice-2.ensures.value c.in_ok-chosen.ensures))))
