use Rattle.std.proofs.Common.{◌≡◌, ◌-◌, ◌++◌}
use Rattle.hw_model.specs.Types.{list_copies}
use Rattle.operation_gates.proofs.parts.copies_within.Given as goal

abbrev pub invariant-loop-copy : goal.invariant-loop-copy
invariant-loop-copy l = l.made.items ++ list_copies (l.count - l._copy) l.word ≡ list_copies l.count l.word
