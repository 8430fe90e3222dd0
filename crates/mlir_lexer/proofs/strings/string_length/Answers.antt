use Rattle.std.proofs.Common.{arith, sym}
use Rattle.mlir_lexer.proofs.StringEnds.{string_rest-ends, string_rest-breaks}
use Rattle.mlir_lexer.proofs.strings.string_length.Goals as goal

pub returns-in-Closed-clause-exact : goal.returns-in-Closed-clause-exact
returns-in-Closed-clause-exact c =
    string_rest-ends c.loop-i.reading c.loop-i.i c.args.bytes.now _ c.loop-i.invariant.0 (omega arith) c.loop-i.invariant.1 (sym c.in-Closed.ensures)

pub returns-in-Broken-clause-exact : goal.returns-in-Broken-clause-exact
returns-in-Broken-clause-exact c =
    string_rest-breaks c.loop-i.reading c.loop-i.i c.args.bytes.now _ c.loop-i.invariant.0 (omega arith) c.loop-i.invariant.1 (sym c.in-Broken.ensures)
