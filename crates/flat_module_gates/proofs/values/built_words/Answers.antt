use Rattle.std.proofs.Common.{◌≡◌, refl, sym, ap, subst, ◌∙◌, [], length, take, drop, ◌++◌, get_or, arith, slice_get, ◌+◌}
use Rattle.std.proofs.lemmas.Option.{slice_get-get_or}
use Rattle.graphs.proofs.Lists.{written_back}
use Rattle.gates.specs.Circuits.{Runs}
use Rattle.ir_store.specs.Bodies.{ops_of}
use Rattle.ir_store.specs.Numbered.{ops_by_position}
use Rattle.flat_module_gates.specs.FlatGateLists.{word_at, gate_list_at, with_word, results_by, no_words, OpTakes}
use Rattle.flat_module_gates.proofs.Building.{results_begin, results_next, length-with_word, takes_within, length-none}
use Rattle.flat_module_gates.proofs.values.built_words.Goals as goal

pub loop-position-init : goal.loop-position-init
loop-position-init c =
    let os = ops_by_position (ops_of c.args.held.now.ops.now.body.now) in
    let content = c.args.held.now.content.now in
    let is : c.in_ok-results.results.items ≡ no_words (length os) = c.in_ok-results.ensures ∙ ap no_words c.count.ensures in
    record {
      ports = refl;
      room = ap length is ∙ length-none (length os);
      runs = subst (Runs (results_by os content c.args.ports.items [] (no_words (length os))) c.args.gates.now c.args.gates.now) (sym is)
          (results_begin os content c.args.ports.items (no_words (length os)) c.args.gates.now);
    }

pub result_word-requires-clause-takes : goal.result_word-requires-clause-takes
result_word-requires-clause-takes c =
    let os = ops_by_position (ops_of c.args.held.now.ops.now.body.now) in
    let i = c.loop-position.position-index in
    let v = get_or c.args.order.now i 0 in
    subst (λ ps. OpTakes (word_at ps c.loop-position.words.results.items) (slice_get os v)) (sym c.loop-position.invariant.ports)
    (c.requires i v c.loop-position.gates c.loop-position.words.results.items (slice_get-get_or c.args.order.now i 0 (omega arith)) c.loop-position.invariant.runs)

pub result_word-requires-clause-within : goal.result_word-requires-clause-within
result_word-requires-clause-within c =
    let os = ops_by_position (ops_of c.args.held.now.ops.now.body.now) in
    let i = c.loop-position.position-index in
    let v = get_or c.args.order.now i 0 in
    takes_within os (word_at c.args.ports.items c.loop-position.words.results.items) v
    (c.requires i v c.loop-position.gates c.loop-position.words.results.items (slice_get-get_or c.args.order.now i 0 (omega arith)) c.loop-position.invariant.runs)

pub put_word-requires-clause-within : goal.put_word-requires-clause-within
put_word-requires-clause-within c =
    let os = ops_by_position (ops_of c.args.held.now.ops.now.body.now) in
    let i = c.loop-position.position-index in
    let v = get_or c.args.order.now i 0 in
    takes_within os (word_at c.args.ports.items c.loop-position.words.results.items) v
    (c.requires i v c.loop-position.gates c.loop-position.words.results.items (slice_get-get_or c.args.order.now i 0 (omega arith)) c.loop-position.invariant.runs)

pub loop-position-preserved : goal.loop-position-preserved
loop-position-preserved c =
    let os = ops_by_position (ops_of c.args.held.now.ops.now.body.now) in
    let content = c.args.held.now.content.now in
    let ports = c.args.ports.items in
    let i = c.loop-position.position-index in
    let v = get_or c.args.order.now i 0 in
    let old = c.loop-position.words.results.items in
    let new = c.put_word.new.results in
    let put : new ≡ with_word (slice_get os v) v c.in_ok-word.word old = c.put_word.ensures ∙ ap (with_word (slice_get os v) v c.in_ok-word.word) c.deref_mut.ensures.value in
    let long : length new ≡ length old = ap length put ∙ length-with_word (slice_get os v) v c.in_ok-word.word old in
    let back : take c.loop-position.words.results.len (new ++ drop (length new) old) ≡ new = written_back c.loop-position.words.results.len new old c.loop-position.words.results.ok.0 long in
    record {
      ports = c.loop-position.invariant.ports;
      room = ap length back ∙ long ∙ c.loop-position.invariant.room;
      runs = subst (Runs (results_by os content ports (take (i + 1) c.args.order.now) (no_words (length os))) c.args.gates.now c.result_word.new.gates) (sym (back ∙ put))
          (results_next os content ports c.args.order.now i v (no_words (length os)) old c.args.gates.now c.loop-position.gates c.result_word.new.gates c.in_ok-word.word
          (slice_get-get_or c.args.order.now i 0 (omega arith)) c.loop-position.invariant.runs
          (subst (λ ps. Runs (gate_list_at os content (word_at ps old) v) c.loop-position.gates c.result_word.new.gates c.in_ok-word.word) c.loop-position.invariant.ports c.in_ok-word.ensures));
    }
