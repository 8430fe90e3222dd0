-- Each list that is opened takes one of the rooms.
use Rattle.std.proofs.Common.{◌+◌, ◌*◌, length}
use Rattle.hw_model.specs.KindViews.{literal_of}
use Rattle.mlir_syntax.specs.LiteralText.{literal_text}
use Rattle.mlir_syntax.proofs.Lists.{Gathering}
use Rattle.mlir_syntax.proofs.reader.Reader.+literals.Given as goal

abbrev pub decreases-literal_text : goal.decreases-literal_text
decreases-literal_text l = 5 * l.room

abbrev pub decreases-some_literals : goal.decreases-some_literals
decreases-some_literals l = 5 * l.room + 1

abbrev pub decreases-literals_text : goal.decreases-literals_text
decreases-literals_text l = 5 * l.room + 2

abbrev pub decreases-parts_text : goal.decreases-parts_text
decreases-parts_text l = 5 * l.room + 3

abbrev pub decreases-list_part : goal.decreases-list_part
decreases-list_part l = 5 * l.room + 4

abbrev pub invariant-some_literals-loop-literal : goal.invariant-some_literals-loop-literal
invariant-some_literals-loop-literal l = Gathering literal_of l.op (literal_text l.room l.op) l.fn.self l.literals.items l.self

abbrev pub decreases-some_literals-loop-literal : goal.decreases-some_literals-loop-literal
decreases-some_literals-loop-literal l = length l.self
