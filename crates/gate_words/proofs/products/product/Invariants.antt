use Rattle.std.proofs.Common.{◌≡◌, List, length, drop}
use Rattle.gates.specs.declared.signal.Signal.{Signal}
use Rattle.gates.specs.Circuits.{Circuit, Runs}
use Rattle.gate_words.specs.GateLists.{product, product_from}
use Rattle.gate_words.proofs.products.product.Given as goal

abbrev pub invariant-loop-y : goal.invariant-loop-y
invariant-loop-y l = record {
  width : length l.so_far.items ≡ length l.xs;
  rest : (u : Circuit) (r : List Signal) → Runs (product_from l.so_far.items l.xs (drop l.y-index l.ys)) l.gates u r → Runs (product l.xs l.ys) l.initial.gates u r;
}
