use Rattle.std.proofs.Common.{◌≡◌, ◌++◌, ◌↔◌, drop, map}
use Rattle.hw_model.specs.KindViews.{literal_of, literals_of}
use Rattle.hw_model.specs.Value.{word_of_literals}
use Rattle.operation_values.specs.Suits.{HaveIntegers}
use Rattle.operation_values.proofs.values.+literal_word.Given as goal

abbrev pub invariant-literals_word-loop-literal : goal.invariant-literals_word-loop-literal
invariant-literals_word-loop-literal l = record {
  split : l.word ++ word_of_literals (literals_of (map literal_of (drop l.literal-index l.literal-items))) ≡ word_of_literals (literals_of (map literal_of l.literal-items));
  integers : HaveIntegers (literals_of (map literal_of (drop l.literal-index l.literal-items))) ↔ HaveIntegers (literals_of (map literal_of l.literal-items));
}
