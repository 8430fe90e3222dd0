use Rattle.std.proofs.Common.{◌≡◌, map, take}
use Rattle.ir_store.specs.Bodies.{ids_of}
use Rattle.ir_store.specs.Numbered.{position_of, ref_by}
use Rattle.flat_module_gates.specs.FlatGateLists.{word_at}
use Rattle.flat_module_gates.proofs.values.words_of.Given as goal

abbrev pub invariant-loop-value : goal.invariant-loop-value
invariant-loop-value l =
    l.all.items ≡ map (word_at l.words.ports.items l.words.results.items) (map (ref_by (position_of (ids_of l.ops.body.now))) (take l.value-index l.values))
