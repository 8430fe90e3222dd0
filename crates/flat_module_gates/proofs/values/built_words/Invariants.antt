use Rattle.std.proofs.Common.{◌≡◌, length, take}
use Rattle.gates.specs.Circuits.{Runs}
use Rattle.ir_store.specs.Bodies.{ops_of}
use Rattle.ir_store.specs.Numbered.{ops_by_position}
use Rattle.flat_module_gates.specs.FlatGateLists.{results_by, no_words}
use Rattle.flat_module_gates.proofs.values.built_words.Given as goal

abbrev pub invariant-loop-position : goal.invariant-loop-position
invariant-loop-position l = record {
  ports : l.words.ports.items ≡ l.fn.ports.items;
  room : length l.words.results.items ≡ length (ops_by_position (ops_of l.held.ops.now.body.now));
  runs : Runs (results_by (ops_by_position (ops_of l.held.ops.now.body.now)) l.held.content.now l.fn.ports.items (take l.position-index l.order)
      (no_words (length (ops_by_position (ops_of l.held.ops.now.body.now))))) l.fn.gates l.gates l.words.results.items;
}
