use Rattle.std.proofs.Common.{◌≡◌, ◌++◌, map, take}
use Rattle.ir_store.specs.Bodies.{ids_of}
use Rattle.ir_store.specs.Numbered.{position_of, ref_by}
use Rattle.flat_steps.specs.Tables.{word_in}
use Rattle.flat_steps.proofs.steps.push_words.Given as goal

abbrev pub invariant-loop-value : goal.invariant-loop-value
invariant-loop-value l = l.words.items ≡ l.fn.words.items ++ map (word_in l.ports l.results) (map (ref_by (position_of (ids_of l.ops.body.now))) (take l.value-index l.values))
